-- A life that was run to its end.
use Rattle.std.proofs.Common.{◌≡◌, ℕ, zero, suc, ◌<◌, ◌≤◌, true, false, ◌≢◌, eqb, List, [], ◌∷◌, length, get_or, take, sym, refl, ap, ◌∙◌, subst, arith}
use Rattle.std.proofs.lemmas.List.{length-map, length-take-le}
use Rattle.std.proofs.lemmas.Bool.{ne_eqb}
use Rattle.std.proofs.lemmas.Option.{slice_get_within}
use Rattle.std.proofs.Math.Seq.{take-length}
use Rattle.std.specs.List.{AllByRecursion, IsDistinct, fold}
use Rattle.std.proofs.lemmas.Map.Made.{AllPairs-from_IsDistinct}
use Rattle.record.specs.declared.Record.{Record}
use Rattle.service.specs.declared.Service as service
use Rattle.register.specs.Sets.{Set, nothing, Emptiness}
use Rattle.register.specs.declared.Register as register
use Rattle.quorum.specs.Quorums.{said, signed_by}
use Rattle.protocol.specs.Setup.{Setup, members, quorum_size}
use Rattle.protocol.specs.Service.{Service}
use Rattle.protocol.specs.State.{State, opened, opened_over}
use Rattle.protocol.specs.Call as rules
use Rattle.protocol.specs.Life.{Life, run, state_at, additions}
use Rattle.protocol.proofs.Entries.{entered_of_held}
use Rattle.protocol.proofs.Layouts.{Short}
use Rattle.protocol.proofs.Signing.{same_number}
use Rattle.protocol.proofs.Ledger.{one_ledger, keeps_rules, refuses_own_or_full}
use Rattle.bench.specs.Setups.{setup_of, OpenGranted}
use Rattle.bench.specs.States.{service_of, state_of}
use Rattle.bench.specs.Opening.{Opened}
use Rattle.bench.specs.declared.open.Bench.{Bench}
use Rattle.life.specs.Calls.{call_of, calls_of}
use Rattle.life.specs.Making.{Backed, Made, Underway}
use Rattle.life.specs.Lives.{WitnessesOf, Ran, life_of}
use Rattle.life.specs.declared.call.Turn.{Turn}
use Rattle.std.specs.Borrow.{MutBor}

-- the register over which a life began is the empty one
empty_set : (s : Set) → Emptiness s true → s ≡ nothing
empty_set s E k x = E.none refl x k

-- ---- the first numbers of a list, by their places

all_first :
    (P : ℕ → Type 0) (q : ℕ) (w : List ℕ) → q ≤ length w → ((j : ℕ) → j < q → P (get_or w j 0))
    → AllByRecursion P (take q w)
all_first P zero w h f = tt
all_first P (suc q) [] h f = absurd (omega arith)
all_first P (suc q) (x ∷ w) h f = (f 0 (omega arith), all_first P q w (omega arith) (λ j l. f (suc j) (omega arith)))

distinct_first :
    (q : ℕ) (w : List ℕ) → q ≤ length w → ((j k : ℕ) → j < k → k < q → get_or w j 0 ≢ get_or w k 0)
    → IsDistinct eqb (take q w)
unfolding IsDistinct
distinct_first zero w h f = tt
distinct_first (suc q) [] h f = absurd (omega arith)
distinct_first (suc q) (x ∷ w) h f = (
  all_first (λ j. eqb x j ≡ false) q w (omega arith)
      (λ j l. ne_eqb x (get_or w j 0) (f 0 (suc j) (omega arith) (omega arith))),
  distinct_first q w (omega arith) (λ j k l m. f (suc j) (suc k) (omega arith) (omega arith)),
)

-- ---- witnesses, in terms of the calls

module _ (y : Life) (k : ℕ) where
  witnesses_of : (r : Record) (w : List ℕ) → Backed (members y.bench) (said (state_at y k).held r) w → WitnessesOf y k r w
  witnesses_of r w B =
      let q = quorum_size y.bench in
      let W = B.1 in
      record {
        signers =
            record {
              who = take q w;
              enough = length-take-le q w B.0;
              different = AllPairs-from_IsDistinct same_number (take q w) (distinct_first q w B.0 W.different);
              each =
                  all_first _ q w B.0
                  (λ j l. (W.below j l, entered_of_held y k (signed_by r (get_or w j 0)) (W.pass j l)));
            };
        first = refl;
        others = W.others;
      }

module _
    {R S : Type 0} (g : register.Ghosts R) (h : service.Ghosts S) (u : Setup) (r : MutBor R) (s : MutBor S) (b : Bench R S)
    (granted : OpenGranted u (g.held r.now)) (O : Opened g u r s b)
  where
    abbrev V : Service
    V = service_of h s.now

    -- what is known with the bench's own setup, service and state is known with what it was opened with
    from_open :
        (P : Setup → Service → State → Type 0) → P (setup_of b.setup) (service_of h b.service.now) (state_of g b)
        → P u V (opened (g.free r.now))
    from_open P p =
        let n = g.free r.now in
        subst (λ v. P v V (opened n)) O.setup
        (subst (λ q. P (setup_of b.setup) (service_of h q) (opened n)) O.service
        (subst (λ z. P (setup_of b.setup) (service_of h b.service.now) (opened_over z n)) (empty_set (g.held r.now) granted.empty)
        (subst (P (setup_of b.setup) (service_of h b.service.now)) O.state p)))

    module _ (before after : List Turn) (c : Bench R S) (U : Underway g h b (calls_of before) (length after) after c)
      where
        abbrev y : Life
        y = life_of u V (g.free r.now) before granted.grounds

        abbrev cs : List rules.Call
        cs = calls_of before

        as_many : length after ≡ length cs
        as_many = sym (length-map after (λ (t : Turn). call_of t.call)) ∙ ap length U.calls

        all_made : take (length after) cs ≡ cs
        all_made = ap (λ n. take n cs) as_many ∙ take-length cs

        -- every call was made on it
        pub ran : Short V → (z : State) → state_of g c ≡ z → Ran u V (g.held r.now) (g.free r.now) before after z
        ran short z e =
            record {
              granted = granted;
              lived =
                  record {
                    calls = U.calls;
                    came = λ k t at.
                        let M = from_open (λ v W x. Made v W x (calls_of before) k t) (U.made k t (slice_get_within after k t at) at) in
                        record { outcome = M.outcome; witnesses = λ w r' f q. witnesses_of y k r' w (M.witnesses w r' f q) };
                    state =
                        sym e
                        ∙ from_open (λ v W x. state_of g c ≡ run v W x (take (length after) cs)) U.state
                        ∙ ap (λ j. run u V (opened (g.free r.now)) (take j cs)) as_many;
                    rules = keeps_rules y;
                    refusals = refuses_own_or_full y short;
                    ledger = one_ledger y;
                  };
            }

        pub stored :
            (q : R) → c.register.now ≡ q
            → g.memory q ≡ fold g.stores (g.memory r.now) (additions u V (opened (g.free r.now)) (calls_of before))
        stored q e =
            let all = λ (p : R) (ds : List rules.Call). fold g.stores (g.memory p) (additions u V (opened (g.free r.now)) ds) in
            let first = fold g.stores (g.memory b.register.now) in
            sym (ap g.memory e)
            ∙ from_open (λ v W x. g.memory c.register.now ≡ first (additions v W x (take (length after) cs))) U.memory
            ∙ ap (λ p. all p (take (length after) cs)) O.register
            ∙ ap (all r.now) all_made
