-- A service that is fed the operations below a slot, one after the other.
--   Fed h z b w l r s  — a service that was z was cleared and fed the operations of the book b below the slot l, but for the no-ops of the word w, and is s now; r are the word's bits from l on
use Rattle.std.proofs.Common.{◌≡◌, ℕ, ◌+◌, ◌/◌, ◌%◌, ◌^◌, ◌<◌, true, false, cond, eqb, List, [], ◌∷◌, ◌++◌, length, get_or, option_to_list, unwrap_or, sym, refl, ap, ◌∙◌, arith, shr-shr}
use native.Mathlib.Numerals.{unary_clauses}
use Rattle.std.proofs.lemmas.Bool.{cond-true, cond-false}
use Rattle.service.specs.Operations.{after}
use Rattle.service.specs.declared.Service.{Ghosts}
use Rattle.replica.specs.Words.{bit}
use Rattle.protocol.specs.Service.{Book, book, fed, answer_at}
use Rattle.protocol.proofs.Books.{book_at}
use Rattle.bench.specs.States.{service_of}

first_bit : (w l r : ℕ) → r ≡ w / 2 ^ l → bit w l ≡ eqb (r % 2) 1
unfolding bit
first_bit w l r e = ap (λ x. eqb (x % 2) 1) (sym e)

halved : (w l r : ℕ) → r ≡ w / 2 ^ l → r / 2 ≡ w / 2 ^ (l + 1)
halved w l r e = ap (λ x. x / 2) e ∙ shr-shr w l 1

after_one : {A : Type 0} (next : A → ℕ → A) (s : A) (ops : List ℕ) (o : ℕ) → after next s (ops ++ o ∷ []) ≡ next (after next s ops) o
after_one next s [] o = refl
after_one next s (x ∷ ops) o = after_one next (next s x) ops o

fed_next : (b : Book) (w l : ℕ) → fed b w (l + 1) ≡ cond (bit w l) (fed b w l) (fed b w l ++ option_to_list (b l))
unfolding fed
fed_next b w l = simp unary_clauses refl

module _ {S : Type 0} (h : Ghosts S) (z : S) where
  pub record Fed (b : Book) (w l r : ℕ) (s : S) : Type 0 where
    pub state : h.state s ≡ after h.next (h.fresh (h.state z)) (fed b w l)
    pub kind : h.fresh (h.state s) ≡ h.fresh (h.state z)
    pub rest : r ≡ w / 2 ^ l

  pub fed_none :
      (s : S) (b : Book) (w : ℕ) → h.state s ≡ h.fresh (h.state z) → h.fresh (h.state s) ≡ h.fresh (h.state z) → Fed b w 0 w s
  unfolding fed
  fed_none s b w e k = record { state = e; kind = k; rest = omega arith }

  pub fed_no_op : (s : S) (b : Book) (w l r : ℕ) → eqb (r % 2) 1 ≡ true → Fed b w l r s → Fed b w (l + 1) (r / 2) s
  fed_no_op s b w l r e F =
      record {
        state =
            F.state
            ∙ ap
            (after h.next (h.fresh (h.state z)))
            (sym (fed_next b w l ∙ cond-true (bit w l) (fed b w l) (fed b w l ++ option_to_list (b l)) (first_bit w l r F.rest ∙ e)));
        kind = F.kind;
        rest = halved w l r F.rest;
      }

  pub fed_one :
      (s t : S) (ops : List ℕ) (w l r : ℕ) → eqb (r % 2) 1 ≡ false → l < length ops → Fed (book ops) w l r s
      → h.state t ≡ h.next (h.state s) (get_or ops l 0) → h.fresh (h.state t) ≡ h.fresh (h.state s)
      → Fed (book ops) w (l + 1) (r / 2) t
  fed_one s t ops w l r e below F m k =
      let o = get_or ops l 0 in
      let first = h.fresh (h.state z) in
      record {
        state =
            m
            ∙ ap (λ (x : h.State). h.next x o) F.state
            ∙ sym (after_one h.next first (fed (book ops) w l) o)
            ∙ ap (λ p. after h.next first (fed (book ops) w l ++ option_to_list p)) (sym (book_at ops l below))
            ∙ ap
            (after h.next first)
            (sym
            (fed_next (book ops) w l
            ∙ cond-false (bit w l) (fed (book ops) w l) (fed (book ops) w l ++ option_to_list (book ops l)) (first_bit w l r F.rest ∙ e)));
        kind = k ∙ F.kind;
        rest = halved w l r F.rest;
      }

  pub answered :
      (s : S) (ops : List ℕ) (w l r : ℕ) → l < length ops → Fed (book ops) w l r s
      → h.answer (h.state s) (get_or ops l 0) ≡ answer_at (service_of h z) (book ops) w l
  unfolding answer_at
  answered s ops w l r below F =
      ap (λ x. h.answer x (get_or ops l 0)) F.state
      ∙ ap (λ p. h.answer (after h.next (h.fresh (h.state z)) (fed (book ops) w l)) (unwrap_or p 0)) (sym (book_at ops l below))
