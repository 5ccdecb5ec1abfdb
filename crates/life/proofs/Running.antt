-- A life while it runs: the first calls are made, and the others are still to be made.
use Rattle.std.proofs.Common.{◌≡◌, ℕ, zero, suc, ◌+◌, ◌<◌, List, [], ◌∷◌, ◌++◌, length, get_or, set, take, Some, Ok, Err, slice_get, option_map, sym, refl, ap, ◌∙◌, subst, inl, inr, arith}
use Rattle.std.proofs.Math.Numerals.{suc-eq-add-one}
use Rattle.std.proofs.Math.Seq.{map-set_same}
use Rattle.std.specs.List.{fold}
use Rattle.std.proofs.lemmas.Bool.{cases_lt}
use Rattle.std.proofs.lemmas.List.{append_assoc, append-nil}
use Rattle.std.proofs.lemmas.List.Sums.{fold-append}
use Rattle.std.proofs.lemmas.Option.{slice_get-get_or, slice_get-map}
use Rattle.service.specs.Operations.{after}
use Rattle.service.specs.declared.Service as service
use Rattle.refusal.specs.Grounds.{Answer}
use Rattle.register.specs.declared.Register as register
use Rattle.quorum.specs.Quorums.{said}
use Rattle.protocol.specs.Setup.{Setup, members}
use Rattle.protocol.specs.Service.{Service}
use Rattle.protocol.specs.State.{State, addition_to}
use Rattle.protocol.specs.Call as rules
use Rattle.protocol.specs.Life.{run, outcomes, additions}
use Rattle.bench.specs.Setups.{setup_of}
use Rattle.bench.specs.States.{service_of, kind_of, state_of, meaning_of, Does}
use Rattle.bench.specs.declared.open.Bench.{Bench}
use Rattle.life.specs.Calls.{call_of, without_witnesses, granted_or_refused}
use Rattle.life.specs.Making.{Backed, Keeps, Makes, Made, Underway}
use Rattle.life.specs.declared.call.Outcome.{Outcome}
use Rattle.life.specs.declared.call.Outcome.TheVariants.{Yes}
use Rattle.life.specs.declared.call.Turn.{Turn}

-- ---- lists by their places

module _ {A : Type 0} where
  get_set_same : (xs : List A) (k : ℕ) (a b : A) → slice_get (set xs k a) k ≡ Some b → b ≡ a
  get_set_same [] k a b e = cc
  get_set_same (x ∷ xs) zero a b e = cc
  get_set_same (x ∷ xs) (suc k) a b e = get_set_same xs k a b e

  get_set_below : (xs : List A) (j k : ℕ) (a : A) → j < k → slice_get (set xs k a) j ≡ slice_get xs j
  get_set_below [] j k a h = refl
  get_set_below (x ∷ xs) j zero a h = absurd (omega arith)
  get_set_below (x ∷ xs) zero (suc k) a h = refl
  get_set_below (x ∷ xs) (suc j) (suc k) a h = get_set_below xs j k a (omega arith)

-- ---- one call after the others

module _ (u : Setup) (V : Service) where
  run_one :
      (cs : List rules.Call) (k : ℕ) (x : State) (c : rules.Call) → slice_get cs k ≡ Some c
      → run u V x (take (suc k) cs) ≡ (rules.meaning u V (run u V x (take k cs)) c).after
  run_one [] k x c e = cc
  run_one (d ∷ cs) zero x c e = let s : d ≡ c = cc in ap (λ z. (rules.meaning u V x z).after) s
  run_one (d ∷ cs) (suc k) x c e = run_one cs k (rules.meaning u V x d).after c e

  additions_one :
      (cs : List rules.Call) (k : ℕ) (x : State) (c : rules.Call) → slice_get cs k ≡ Some c
      → additions u V x (take (suc k) cs)
      ≡ additions u V x (take k cs) ++ addition_to (run u V x (take k cs)) (rules.meaning u V (run u V x (take k cs)) c).enters
  additions_one [] k x c e = cc
  additions_one (d ∷ cs) zero x c e =
      let s : d ≡ c = cc in append-nil (addition_to x (rules.meaning u V x d).enters) ∙ ap (λ z. addition_to x (rules.meaning u V x z).enters) s
  additions_one (d ∷ cs) (suc k) x c e =
      let y = (rules.meaning u V x d).after in
      let here = addition_to x (rules.meaning u V x d).enters in
      ap (λ rs. here ++ rs) (additions_one cs k y c e)
      ∙ sym (append_assoc here (additions u V y (take k cs)) (addition_to (run u V y (take k cs)) (rules.meaning u V (run u V y (take k cs)) c).enters))

  outcome_at :
      (cs : List rules.Call) (k : ℕ) (x : State) (c : rules.Call) → slice_get cs k ≡ Some c
      → slice_get (outcomes u V x cs) k ≡ Some (rules.meaning u V (run u V x (take k cs)) c).outcome
  outcome_at [] k x c e = cc
  outcome_at (d ∷ cs) zero x c e = let s : d ≡ c = cc in ap (λ z. Some (rules.meaning u V x z).outcome) s
  outcome_at (d ∷ cs) (suc k) x c e = outcome_at cs k (rules.meaning u V x d).after c e

-- ---- one call on a bench

told_of_answer : (a : Answer) → without_witnesses (granted_or_refused a) ≡ rules.if_granted a rules.Granted
told_of_answer (Ok t) = refl
told_of_answer (Err e) = refl

not_yes : (a : Answer) (w : List ℕ) → granted_or_refused a ≡ Yes w → ⊥
not_yes (Ok t) w e = cc
not_yes (Err f) w e = cc

module _ {R S : Type 0} (g : register.Ghosts R) (h : service.Ghosts S) where
  -- a call that is none for a certificate
  pub makes_acting :
      (old new : Bench R S) (c : rules.Call) (a : Answer) (o : Outcome) → Does g h old c a new → o ≡ granted_or_refused a
      → Makes g h old c o new
  makes_acting old new c a o D e =
      record {
        outcome = ap without_witnesses e ∙ told_of_answer a ∙ D.answer;
        after = D.after;
        memory = D.memory;
        witnesses = λ w r y. absurd (not_yes a w (sym e ∙ y));
        keeps = record { setup = D.setup; register = D.register_lent; service = D.service_lent; kind = D.kind };
      }

  keeps_on : (a b c : Bench R S) → Keeps h a b → Keeps h b c → Keeps h a c
  keeps_on a b c K L =
      record {
        setup = L.setup ∙ K.setup;
        register = L.register ∙ K.register;
        service = L.service ∙ K.service;
        kind = L.kind ∙ K.kind;
      }

  -- a bench of the same setup, with a service of the same kind, gives a call the same meaning
  service_alike : (s t : S) → kind_of h t ≡ kind_of h s → service_of h t ≡ service_of h s
  service_alike s t e = let V : h.State → Service = λ k ops op. h.answer (after h.next k ops) op in ap V e

  meaning_alike :
      (old b : Bench R S) (x : State) (c : rules.Call) → Keeps h old b
      → rules.meaning (setup_of b.setup) (service_of h b.service.now) x c
      ≡ rules.meaning (setup_of old.setup) (service_of h old.service.now) x c
  meaning_alike old b x c K =
      ap (λ z. rules.meaning (setup_of z) (service_of h b.service.now) x c) K.setup
      ∙ ap (λ V. rules.meaning (setup_of old.setup) V x c) (service_alike old.service.now b.service.now K.kind)

  -- ---- the first k of the calls cs, on the bench old

  module _ (old : Bench R S) (cs : List rules.Call) where
    abbrev u : Setup
    u = setup_of old.setup

    abbrev V : Service
    V = service_of h old.service.now

    abbrev x : State
    x = state_of g old

    call_at :
        (k : ℕ) (ts : List Turn) (d : Turn) (b : Bench R S) → Underway g h old cs k ts b → k < length ts
        → slice_get cs k ≡ Some (call_of (get_or ts k d).call)
    call_at k ts d b U l =
        subst (λ ds. slice_get ds k ≡ Some (call_of (get_or ts k d).call)) U.calls
        (slice_get-map (λ (a : Turn). call_of a.call) ts k
        ∙ ap (option_map (λ (a : Turn). call_of a.call)) (slice_get-get_or ts k d l))

    pub underway_further :
        (k : ℕ) (ts : List Turn) (d : Turn) (b new : Bench R S) (o : Outcome) → Underway g h old cs k ts b → k < length ts
        → Makes g h b (call_of (get_or ts k d).call) o new
        → Underway g h old cs (k + 1) (set ts k (record { call = (get_or ts k d).call; outcome = Some o })) new
    underway_further k ts d b new o U l M =
        let t = get_or ts k d in
        let c = call_of t.call in
        let s : Turn = record { call = t.call; outcome = Some o } in
        let at = call_at k ts d b U l in
        let w = run u V x (take k cs) in
        let rs = additions u V x (take k cs) in
        let m = rules.meaning u V w c in
        let is : meaning_of g h b c ≡ m =
        meaning_alike old b (state_of g b) c U.keeps ∙ ap (λ z. rules.meaning u V z c) U.state in
        record {
          calls = map-set_same (λ (a : Turn). call_of a.call) ts k s d refl ∙ U.calls;
          made = λ j a below e. elim (cases_lt j k) [
            | inl under ↦ U.made j a under (sym (get_set_below ts j k s under) ∙ e)
            | inr over ↦
                let same : j ≡ k = omega arith in
                let here : a ≡ s = get_set_same ts k s a (subst (λ i. slice_get (set ts k s) i ≡ Some a) same e) in
                subst (λ i. Made u V x cs i a) (sym same)
                (subst (λ (q : Turn). Made u V x cs k q) (sym here)
                (record {
                  outcome = ap Some (M.outcome ∙ ap (λ (z : rules.Meaning). z.outcome) is) ∙ sym (outcome_at u V cs k x c at);
                  witnesses =
                      λ ws r y f.
                      subst (λ z. Backed (members (setup_of z)) (said w.held r) ws) U.keeps.setup
                      (subst (λ (z : State). Backed (members (setup_of b.setup)) (said z.held r) ws) U.state
                      (M.witnesses ws r (cc) f));
                }))
          ];
          state =
              M.after
              ∙ ap (λ (z : rules.Meaning). z.after) is
              ∙ sym (run_one u V cs k x c at)
              ∙ ap (λ n. run u V x (take n cs)) (suc-eq-add-one k);
          memory =
              let new_one = λ (z : State) (p : rules.Meaning). addition_to z p.enters in
              M.memory
              ∙ ap (λ (p : rules.Meaning). fold g.stores (g.memory b.register.now) (new_one (state_of g b) p)) is
              ∙ ap (λ z. fold g.stores (g.memory b.register.now) (new_one z m)) U.state
              ∙ ap (λ z. fold g.stores z (new_one w m)) U.memory
              ∙ sym (fold-append g.stores (g.memory old.register.now) rs (new_one w m))
              ∙ ap (fold g.stores (g.memory old.register.now)) (sym (additions_one u V cs k x c at))
              ∙ ap (λ n. fold g.stores (g.memory old.register.now) (additions u V x (take n cs))) (suc-eq-add-one k);
          keeps = keeps_on old b new U.keeps M.keeps;
        }
