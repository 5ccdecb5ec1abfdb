-- A call that is granted makes a move: what all calls share.
--   Sound u V x    — what stays true of a bench in its lives, in the state x
--   Moved u V x y  — a step from the state x to y that keeps the number of places for replicas
--   Kept u V x m   — what a call with the meaning m keeps, in the state x
use Rattle.std.proofs.Common.{◌≡◌, ℕ, ◌<◌, ◌≤◌, Bool, true, false, cond, ◌⊎◌, eqb, Option, List, [], ◌∷◌, ◌++◌, length, get_or, set, is_ok, Some, None, Ok, Err, sym, refl, ap, ◌∙◌, subst, inl, inr, arith}
use Rattle.std.proofs.lemmas.List.{get_or-set_same, get_or-set_other, length-set}
use Rattle.std.proofs.lemmas.Bool.{cases_Bool, cases_eq, cond-true, cond-false, cond_both, eq-eqb, ne_eqb, or_left}
use Rattle.std.proofs.lemmas.Bool.Decides.{nat_tests}
use Rattle.refusal.proofs.Granted.{both_granted}
use Rattle.refusal.specs.Grounds.{Answer, refused, and_then}
use Rattle.refusal.specs.declared.Ground.TheVariants.{RegisterFull}
use Rattle.refusal.specs.declared.Refusal.{Refusal}
use Rattle.record.specs.Layout.{Layout, keeps_layout}
use Rattle.record.specs.Same.{same}
use Rattle.record.specs.declared.Record.{Record}
use Rattle.record.proofs.Layouts.{layout_from, layout_to}
use Rattle.record.proofs.Same.{same_decides}
use Rattle.register.specs.Sets.{Set, added, adds, entering, held_after}
use Rattle.replica.specs.Replicas.{initial}
use Rattle.replica.specs.declared.Replica.{Replica}
use Rattle.protocol.specs.Setup.{Setup}
use Rattle.protocol.specs.Service.{Service}
use Rattle.protocol.specs.State.{State, replica_at, Action, register_answer, answer_to, held_with, free_with}
use Rattle.protocol.specs.Call.{Meaning, Yes, No, Granted, Refused, if_granted, acting, asking}
use Rattle.protocol.specs.Model.{placed, Move, rests, stamping, forges, becomes, says, apply, InLayout}
use Rattle.protocol.specs.Rules.{Allowed, rest}
use Rattle.protocol.specs.Steps.{model, MovesByRules, OwnOrFull}
use Rattle.protocol.proofs.Invariant.{Inv}
use Rattle.protocol.proofs.Layouts.{Short, allowed_layout}

pub record Sound (u : Setup) (V : Service) (x : State) : Type 0 where
  pub inv : Inv u V (model x)
  pub faults : u.f ≤ 5
  pub room : length x.replicas ≡ 16

record Moved (u : Setup) (V : Service) (x y : State) : Type 0 where
  step : MovesByRules u V x y
  room : length y.replicas ≡ 16

pub record Kept (u : Setup) (V : Service) (x : State) (m : Meaning) : Type 0 where
  pub step : MovesByRules u V x m.after
  pub room : length m.after.replicas ≡ 16
  pub refusals : Short V → OwnOrFull m

-- a call that says what keeps the layout, if its own grounds are a grant
own_or_full : (x : State) (a : Action) → (is_ok a.grounds ≡ true → (r : Record) → a.says ≡ Some r → Layout r) → OwnOrFull (acting x a)
own_or_full x a f = record { either = by_grounds a.grounds a.says f }
  where
    full : (r : Record) → Layout r → (e : Refusal) → if_granted (entering x.held x.free r) Granted ≡ Refused e → e ≡ refused RegisterFull 0
    full r l e h = let k = layout_to r l in grind (arith, nat_tests)

    by_grounds : (g : Answer) (o : Option Record) → (is_ok g ≡ true → (r : Record) → o ≡ Some r → Layout r) → (e : Refusal)
        → if_granted (and_then g (register_answer x o)) Granted ≡ Refused e → (g ≡ Err e) ⊎ (e ≡ refused RegisterFull 0)
    by_grounds (Err e') o f e h = inl cc
    by_grounds (Ok t) None f e h = cc
    by_grounds (Ok t) (Some r) f e h = inr (full r (f refl r refl) e h)

module _ (s : Set) (n : ℕ) (r : Record) (ok : is_ok (entering s n r) ≡ true) where
  entered_layout : keeps_layout r ≡ true
  entered_layout = grind (arith, nat_tests)

  member_same : s r ≡ true → (y : Record) → s y ≡ added s r y
  member_same m y =
      elim (cases_Bool (same r y)) [
        | inl e ↦
            let t : s y ≡ true = subst (λ (z : Record). s z ≡ true) ((same_decides r y).0 e) m in
            t ∙ sym (or_left (s y) (same r y) t)
        | inr e ↦ grind arith
      ]

  -- a statement that is entered is in the set, whether it was new or not
  pub entered_held : held_after s n r ≡ added s r
  entered_held =
      elim (cases_Bool (adds s n r)) [
        | inl h ↦ cond-true (adds s n r) (added s r) s h
        | inr h ↦
            let m : s r ≡ true = grind (arith, nat_tests) in
            cond-false (adds s n r) (added s r) s h ∙ (λ k y. member_same m y k)
      ]

set_placed :
    (rs : List Replica) (i : ℕ) (r : Replica) → i < length rs → (j : ℕ)
    → get_or (set rs i r) j initial ≡ placed (λ k. get_or rs k initial) i r j
set_placed rs i r h j =
    elim (cases_eq i j) [
      | inl e ↦
          ap (λ (k : ℕ). get_or (set rs i r) k initial) (sym e)
          ∙ get_or-set_same rs i r initial h
          ∙ sym (cond-true (eqb i j) r (get_or rs j initial) (eq-eqb i j e))
      | inr e ↦
          get_or-set_other rs i j r initial (λ t. e (sym t))
          ∙ sym (cond-false (eqb i j) r (get_or rs j initial) (ne_eqb i j e))
    ]

placed_self : (f : ℕ → Replica) (i j : ℕ) → f j ≡ placed f i (f i) j
placed_self f i j =
    elim (cases_eq i j) [
      | inl e ↦ ap f (sym e) ∙ sym (cond-true (eqb i j) (f i) (f j) (eq-eqb i j e))
      | inr e ↦ sym (cond-false (eqb i j) (f i) (f j) (ne_eqb i j e))
    ]

some_same : {q r : Record} → Some r ≡ Some q → r ≡ q
some_same h = cc

module _ (u : Setup) (V : Service) (x : State) (S : Sound u V x) where
  stays : Moved u V x x
  stays = record { step = record { move = rests; allowed = rest; in_layout = tt; moves = refl }; room = S.room }

  -- a call that only asks
  pub asks : (a : Answer) (b : Bool) → Kept u V x (asking x a b)
  asks a b = record { step = stays.step; room = S.room; refusals = λ _. record { either = own a b } }
    where
      own : (a : Answer) (b : Bool) (e : Refusal) → if_granted a (cond b Yes No) ≡ Refused e → (a ≡ Err e) ⊎ (e ≡ refused RegisterFull 0)
      own (Err e') b e h = inl cc
      own (Ok t) true e h = cc
      own (Ok t) false e h = cc

  granted : Action → State
  granted a = record { stamped = a.stamped; held = held_with x a.says; free = free_with x a.says; replicas = a.replicas }

  -- a call that does what a says, which is the move v
  acts :
      (a : Action) (v : Move) → (is_ok a.grounds ≡ true → Allowed u V (model x) v) → (is_ok (register_answer x a.says) ≡ true → InLayout v)
      → (is_ok a.grounds ≡ true → is_ok (register_answer x a.says) ≡ true → model (granted a) ≡ apply (model x) v) → length a.replicas ≡ 16
      → (Short V → is_ok a.grounds ≡ true → (r : Record) → a.says ≡ Some r → Layout r) → Kept u V x (acting x a)
  unfolding granted
  acts a v allowed in_layout moves room layout =
      let M =
      cond_both (is_ok (answer_to x a)) _ x (λ (z : State). Moved u V x z)
      (λ e.
      let both = both_granted a.grounds (register_answer x a.says) e in
      record { step = record { move = v; allowed = allowed both.0; in_layout = in_layout both.1; moves = moves both.0 both.1 }; room = room })
      (λ _. stays) in
      record { step = M.step; room = M.room; refusals = λ s. own_or_full x a (layout s) }

  -- a call that makes the replicas rs, of which i is R, and says r for it
  says_for :
      (g : Answer) (i : ℕ) (R : Replica) (r : Record) (rs : List Replica)
      → (is_ok g ≡ true → (i < 16) × Allowed u V (model x) (says i R r)) → length rs ≡ 16
      → (i < 16 → (j : ℕ) → get_or rs j initial ≡ placed (λ n. replica_at x n) i R j)
      → Kept u V x (acting x (record { grounds = g; says = Some r; stamped = x.stamped; replicas = rs }))
  unfolding granted
  says_for g i R r rs f room replicas =
      acts (record { grounds = g; says = Some r; stamped = x.stamped; replicas = rs }) (says i R r) (λ e. (f e).1)
      (λ ok. entered_layout x.held x.free r ok)
      (λ e ok k. record { stamped = x.stamped; held = entered_held x.held x.free r ok k; replica = λ j. replicas (f e).0 j k }) room
      (λ short e q h. subst Layout (some_same h) (allowed_layout u V short (model x) S.inv (says i R r) (f e).1 (f e).0))

  pub speaks :
      (g : Answer) (i : ℕ) (R : Replica) (r : Record) → (is_ok g ≡ true → (i < 16) × Allowed u V (model x) (says i R r))
      → Kept u V x (acting x (record { grounds = g; says = Some r; stamped = x.stamped; replicas = set x.replicas i R }))
  speaks g i R r f =
      says_for g i R r (set x.replicas i R) f (length-set x.replicas i R ∙ S.room)
      (λ low j. set_placed x.replicas i R (omega (arith, low, S.room)) j)

  -- a call that says r for replica i, and changes no replica
  pub speaks_only :
      (g : Answer) (i : ℕ) (r : Record) → (is_ok g ≡ true → (i < 16) × Allowed u V (model x) (says i (replica_at x i) r))
      → Kept u V x (acting x (record { grounds = g; says = Some r; stamped = x.stamped; replicas = x.replicas }))
  speaks_only g i r f = says_for g i (replica_at x i) r x.replicas f S.room (λ _ j. placed_self (λ n. replica_at x n) i j)

  -- a call that enters a foreign replica's statement
  pub forged :
      (g : Answer) (r : Record) → (is_ok g ≡ true → (keeps_layout r ≡ true) × Allowed u V (model x) (forges r))
      → Kept u V x (acting x (record { grounds = g; says = Some r; stamped = x.stamped; replicas = x.replicas }))
  unfolding granted
  forged g r f =
      acts (record { grounds = g; says = Some r; stamped = x.stamped; replicas = x.replicas }) (forges r) (λ e. (f e).1)
      (λ ok. entered_layout x.held x.free r ok)
      (λ e ok k. record { stamped = x.stamped; held = entered_held x.held x.free r ok k; replica = λ j. replica_at x j }) S.room
      (λ short e q h. subst Layout (some_same h) (layout_from r (f e).0))

  -- a call that makes replica i be R, and says nothing
  pub turns :
      (g : Answer) (i : ℕ) (R : Replica) → (is_ok g ≡ true → (i < 16) × Allowed u V (model x) (becomes i R))
      → Kept u V x (acting x (record { grounds = g; says = None; stamped = x.stamped; replicas = set x.replicas i R }))
  unfolding granted
  turns g i R f =
      acts (record { grounds = g; says = None; stamped = x.stamped; replicas = set x.replicas i R }) (becomes i R) (λ e. (f e).1) (λ _. tt)
      (λ e _ k. record { stamped = x.stamped; held = x.held; replica = λ j. set_placed x.replicas i R (omega (arith, (f e).0, S.room)) j k })
      (length-set x.replicas i R ∙ S.room) (λ short e q h. cc)

  -- a call that stamps an operation
  pub stamps_one :
      (g : Answer) (op : ℕ) → (is_ok g ≡ true → Allowed u V (model x) (stamping op))
      → Kept u V x (acting x (record { grounds = g; says = None; stamped = x.stamped ++ op ∷ []; replicas = x.replicas }))
  unfolding granted
  stamps_one g op f =
      acts (record { grounds = g; says = None; stamped = x.stamped ++ op ∷ []; replicas = x.replicas }) (stamping op) f (λ _. tt)
      (λ e _. refl) S.room (λ short e q h. cc)
