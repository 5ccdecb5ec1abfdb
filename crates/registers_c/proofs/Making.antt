-- Requests that a loop makes, one after the other.
use Rattle.std.proofs.Common.{◌≡◌, ℕ, ◌+◌, ◌-◌, ◌<◌, ◌≤◌, ◌==◌, inl, inr, List, [], ◌∷◌, ◌++◌, length, get_or, set, take, drop, sym, ap, ◌∙◌, subst, arith}
use native.Mathlib.Numerals.{unary_clauses}
use Rattle.std.proofs.Math.Numerals.{suc-eq-add-one}
use Rattle.std.proofs.Math.Seq.{take-suc, take-suc-set}
use Rattle.std.proofs.lemmas.List.{append-nil, append_assoc, get_or-drop, drop-set-lt, drop-drop}
use Rattle.std.proofs.lemmas.List.Sums.{fold-append}
use Rattle.std.proofs.lemmas.Bool.{cases_Bool}
use Rattle.std.proofs.lemmas.Bool.Decides.{nat_tests}
use Rattle.std.specs.List.{fold}
use Rattle.record.specs.declared.Record.{Record}
use Rattle.register.specs.Sets.{Set, added, adds}
use Rattle.register.specs.declared.Register.{Ghosts}
use Rattle.registers_c.specs.Requests.{Served, Uses, held_then, free_then, addition_here, additions_of, Serves}
use Rattle.registers_c.specs.declared.request.Request.{Request}

one_more :
    (ts us : List Request) (s : Set) (n : ℕ) (s' : Set) (n' : ℕ) (t u : Request) → Uses s n ts us s' n' → Served s' n' t u
    → Uses s n (ts ++ t ∷ []) (us ++ u ∷ []) (held_then s' n' t) (free_then s' n' t)
one_more [] [] s n s' n' t u U M =
    let same : Served s n t u = subst (λ h. Served h n t u) U.0 (subst (λ k. Served s' k t u) U.1 M) in
    (same, (ap (λ (h : Set). held_then h n' t) U.0 ∙ ap (λ k. held_then s k t) U.1, ap (λ (h : Set). free_then h n' t) U.0 ∙ ap (λ k. free_then s k t) U.1))
one_more [] (y ∷ ys) s n s' n' t u U M = absurd U
one_more (x ∷ xs) [] s n s' n' t u U M = absurd U
one_more (x ∷ xs) (y ∷ ys) s n s' n' t u U M =
    (U.0, one_more xs ys (held_then s n x) (free_then s n x) s' n' t u U.1 M)

-- what a request more adds
additions_more :
    (ts us : List Request) (s : Set) (n : ℕ) (s' : Set) (n' : ℕ) (t : Request) → Uses s n ts us s' n'
    → additions_of s n (ts ++ t ∷ []) ≡ additions_of s n ts ++ addition_here s' n' t
additions_more [] [] s n s' n' t U =
    append-nil (addition_here s n t) ∙ ap (λ (h : Set). addition_here h n t) (sym U.0) ∙ ap (λ k. addition_here s' k t) (sym U.1)
additions_more [] (y ∷ ys) s n s' n' t U = absurd U
additions_more (x ∷ xs) [] s n s' n' t U = absurd U
additions_more (x ∷ xs) (y ∷ ys) s n s' n' t U =
    ap (λ (rs : List Record). addition_here s n x ++ rs) (additions_more xs ys (held_then s n x) (free_then s n x) s' n' t U.1)
    ∙ sym (append_assoc (addition_here s n x) (additions_of (held_then s n x) (free_then s n x) xs) (addition_here s' n' t))

same_here : (ts : List Request) (k : ℕ) (us : List Request) (d : Request) → drop k us ≡ drop k ts → get_or us k d ≡ get_or ts k d
same_here ts k us d e =
    simp unary_clauses at
    (sym (get_or-drop k us 0 d) ∙ ap (λ (xs : List Request). get_or xs 0 d) e ∙ get_or-drop k ts 0 d)

module _ {R : Type 0} (g : Ghosts R) (old : R) (ts : List Request) where
  abbrev s : Set
  s = g.held old

  abbrev n : ℕ
  n = g.free old

  -- the first k of the requests ts were made, and stand in us before the others; the register is b now
  pub record Underway (k : ℕ) (us : List Request) (b : R) : Type 0 where
    pub done : Uses s n (take k ts) (take k us) (g.held b) (g.free b)
    pub others : drop k us ≡ drop k ts
    pub memory : g.memory b ≡ fold g.stores (g.memory old) (additions_of s n (take k ts))

  -- the request in the place k is made, and is u then
  pub further :
      (k : ℕ) (us : List Request) (d u : Request) (b new : R) (r : ℕ × ℕ) → Underway k us b → k < length us → k < length ts
      → Served (g.held b) (g.free b) (get_or us k d) u → Serves g b (get_or us k d) r new
      → Underway (k + 1) (set us k u) new
  further k us d u b new r U h l M M' =
      let here : get_or us k d ≡ get_or ts k d = same_here ts k us d U.others in
      let t = get_or ts k d in
      let first = additions_of s n (take k ts) in
      let one = addition_here (g.held b) (g.free b) t in
      let served : Served (g.held b) (g.free b) t u = rw here at M in
      let more : additions_of s n (take (k + 1) ts) ≡ first ++ one =
      rw (sym (suc-eq-add-one k), take-suc ts k d l) (additions_more (take k ts) (take k us) s n (g.held b) (g.free b) t U.done) in
      record {
        done =
            rw (M'.held, M'.free, here, sym (suc-eq-add-one k), take-suc-set us k u h, take-suc ts k d l)
            (one_more (take k ts) (take k us) s n (g.held b) (g.free b) t u U.done served);
        others =
            drop-set-lt (k + 1) us k u (omega arith)
            ∙ sym (drop-drop 1 k us)
            ∙ ap (λ (xs : List Request). drop 1 xs) U.others
            ∙ drop-drop 1 k ts;
        memory =
            M'.memory
            ∙ ap (λ (a : Request). fold g.stores (g.memory b) (addition_here (g.held b) (g.free b) a)) here
            ∙ ap (λ z. fold g.stores z one) U.memory
            ∙ sym (fold-append g.stores (g.memory old) first one)
            ∙ ap (fold g.stores (g.memory old)) (sym more);
      }

-- no more is added than there are free places
pub adds_at_most : (s : Set) (n : ℕ) (ts : List Request) → length (additions_of s n ts) ≤ n
adds_at_most s n [] = omega arith
adds_at_most s n (t ∷ ts) =
    let r = t.statement in
    elim (cases_Bool (t.number == 3)) [
      | inl e ↦ elim (cases_Bool (adds s n r)) [
        | inl f ↦
            let some : 0 < n = grind (arith, nat_tests, f) in
            rw (e, f) (omega (arith, some, adds_at_most (added s r) (n - 1) ts))
        | inr f ↦ rw (e, f) (adds_at_most s n ts)
      ]
      | inr e ↦ rw e (adds_at_most s n ts)
    ]
