-- The laws of books: a stamped slot stays stamped with its operation, and services that are fed alike answer alike.
--   Grown b b'  — the book b' keeps every operation of the book b
use Rattle.std.proofs.Common.{◌≡◌, ℕ, zero, suc, ◌<◌, ◌≤◌, Bool, cond, List, [], ◌∷◌, ◌++◌, length, get_or, Some, None, Option, option_to_list, sym, refl, ap, ◌∙◌, ap₂, inl, inr, arith, length-append}
use lib.ListN.{get_or-append}
use Rattle.std.proofs.lemmas.Bool.{cond-true, cases_lt, lt-ltb, le-ltb, cond-false}
use Rattle.replica.specs.Words.{bit}
use Rattle.protocol.specs.Service.{Book, book, is_stamped, Known, Service, fed, operation_at, answer_at}

abbrev pub Grown : Book → Book → Type 0
Grown b b' = (l o : ℕ) → b l ≡ Some o → b' l ≡ Some o

pub book_at : (ops : List ℕ) (l : ℕ) → l < length ops → book ops l ≡ Some (get_or ops l 0)
unfolding book
book_at ops l h = cond-true (is_stamped ops l) (Some (get_or ops l 0)) None (lt-ltb l (length ops) h)

pub known_below : (ops : List ℕ) (l : ℕ) → l < length ops → Known (book ops) l
known_below ops l h = (get_or ops l 0, book_at ops l h)

book_none : (ops : List ℕ) (l : ℕ) → length ops ≤ l → book ops l ≡ None
unfolding book
book_none ops l h = cond-false (is_stamped ops l) (Some (get_or ops l 0)) None (le-ltb l (length ops) h)

-- a slot that has an operation is below the number of the stamped ones
pub stamped_below : (ops : List ℕ) (l o : ℕ) → book ops l ≡ Some o → l < length ops
stamped_below ops l o e =
    elim (cases_lt l (length ops)) [
      | inl h ↦ h
      | inr h ↦
          let n = book_none ops l h in
          let z : ◌≡◌ {A = ℕ} 0 1 = cc in
          absurd (omega arith)
    ]

-- where every slot below n has an operation, n is at most the number of the stamped ones
pub all_stamped : (ops : List ℕ) (n : ℕ) → ((l : ℕ) → l < n → Known (book ops) l) → n ≤ length ops
all_stamped ops n h = elim (cases_lt (length ops) n) [
  | inl k ↦ let o = h (length ops) k in absurd (omega (arith, stamped_below ops (length ops) o.0 o.1))
  | inr k ↦ k
]

pub book_push : (ops : List ℕ) (op : ℕ) → Grown (book ops) (book (ops ++ op ∷ []))
book_push ops op l o e =
    let h = stamped_below ops l o e in
    book_at (ops ++ op ∷ []) l (omega (arith, length-append ops (op ∷ [])))
    ∙ ap Some (get_or-append ops (op ∷ []) 0 l h)
    ∙ sym (book_at ops l h)
    ∙ e

pub grown_refl : (b : Book) → Grown b b
grown_refl b l o e = e

-- what a known slot holds is kept
pub grown_same : (b b' : Book) → Grown b b' → (l : ℕ) → Known b l → b l ≡ b' l
grown_same b b' g l k = k.1 ∙ sym (g l k.0 k.1)

fed_step : Bool → List ℕ → Option ℕ → List ℕ
fed_step t xs o = cond t xs (xs ++ option_to_list o)

-- words with the same bits, and books with the same operations, below s feed alike
fed_alike :
    (b b' : Book) (w w' s : ℕ) → ((l : ℕ) → l < s → b l ≡ b' l) → ((l : ℕ) → l < s → bit w l ≡ bit w' l)
    → fed b w s ≡ fed b' w' s
unfolding fed fed_step
fed_alike b b' w w' zero f h = refl
fed_alike b b' w w' (suc s) f h =
    ap₂ (λ (t : Bool) (o : Option ℕ). fed_step t (fed b w s) o) (h s (omega arith)) (f s (omega arith))
    ∙ ap (λ (xs : List ℕ). fed_step (bit w' s) xs (b' s))
    (fed_alike b b' w w' s (λ l p. f l (omega arith)) (λ l p. h l (omega arith)))

pub answer_alike :
    (V : Service) (b b' : Book) (w w' s : ℕ) → ((l : ℕ) → l ≤ s → b l ≡ b' l) → ((l : ℕ) → l < s → bit w l ≡ bit w' l)
    → answer_at V b w s ≡ answer_at V b' w' s
unfolding answer_at
answer_alike V b b' w w' s f h =
    ap₂ V (fed_alike b b' w w' s (λ l p. f l (omega arith)) h)
    (ap (λ (o : Option ℕ). operation_at (λ _. o) s) (f s (omega arith)))
