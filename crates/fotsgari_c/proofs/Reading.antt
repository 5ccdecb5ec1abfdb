-- Reading a list one after the other.
use Rattle.std.proofs.Common.{refl, ◌≡◌, ℕ, zero, suc, ◌<◌, List, [], ◌∷◌, ◌++◌, length, get_or, take, Ok, Err, Result, arith}
use Rattle.fotsgari_c.specs.Calls.{before, each}
use Rattle.fotsgari_c.specs.declared.fault.Fault.{Fault}

before_stops :
    {A : Type 0} (a : Result A Fault) (r s : Result (List A) Fault) (e : Fault) (bs : List A) → before a r ≡ Ok bs
    → ((cs : List A) → r ≡ Ok cs → s ≡ Err e) → before a s ≡ Err e
before_stops (Ok a) (Ok cs) s e bs h f = rw (f cs refl)
before_stops (Ok a) (Err d) s e bs h f = cc
before_stops (Err d) r s e bs h f = cc

before_more :
    {A : Type 0} (a : Result A Fault) (r s : Result (List A) Fault) (b : A) (bs : List A) → before a r ≡ Ok bs
    → ((cs : List A) → r ≡ Ok cs → s ≡ Ok (cs ++ b ∷ [])) → before a s ≡ Ok (bs ++ b ∷ [])
before_more (Ok a) (Ok cs) s b bs h f =
    let t : bs ≡ a ∷ cs = cc in
    rw (f cs refl, t)
before_more (Ok a) (Err d) s b bs h f = cc
before_more (Err d) r s b bs h f = cc

before_length :
    {A : Type 0} (a : Result A Fault) (r : Result (List A) Fault) (bs : List A) (n : ℕ) → before a r ≡ Ok bs
    → ((cs : List A) → r ≡ Ok cs → length cs ≡ n) → length bs ≡ suc n
before_length (Ok a) (Ok cs) bs n h f = let t : bs ≡ a ∷ cs = cc in rw (t, f cs refl)
before_length (Ok a) (Err d) bs n h f = cc
before_length (Err d) r bs n h f = cc

module _ {A B : Type 0} (f : A → Result B Fault) where
  -- where the first i were read, and the next gives nothing, that is what is wrong with them all
  pub each_stops :
      (xs : List A) (i : ℕ) (d : A) (bs : List B) (e : Fault) → i < length xs → each f (take i xs) ≡ Ok bs
      → f (get_or xs i d) ≡ Err e → each f xs ≡ Err e
  each_stops [] i d bs e l h g = absurd (omega arith)
  each_stops (x ∷ xs) zero d bs e l h g = rw g
  each_stops (x ∷ xs) (suc i) d bs e l h g =
      before_stops (f x) (each f (take i xs)) (each f xs) e bs h (λ cs k. each_stops xs i d cs e (omega arith) k g)

  -- and where the next gives something, that comes last
  pub each_more :
      (xs : List A) (i : ℕ) (d : A) (bs : List B) (b : B) → i < length xs → each f (take i xs) ≡ Ok bs
      → f (get_or xs i d) ≡ Ok b → each f (take (suc i) xs) ≡ Ok (bs ++ b ∷ [])
  each_more [] i d bs b l h g = absurd (omega arith)
  each_more (x ∷ xs) zero d bs b l h g = let t : bs ≡ [] = cc in rw (g, t)
  each_more (x ∷ xs) (suc i) d bs b l h g =
      before_more (f x) (each f (take i xs)) (each f (take (suc i) xs)) b bs h (λ cs k. each_more xs i d cs b (omega arith) k g)

  -- as many come of it
  pub each_length : (xs : List A) (bs : List B) → each f xs ≡ Ok bs → length bs ≡ length xs
  each_length [] bs h = let t : bs ≡ [] = cc in rw t
  each_length (x ∷ xs) bs h = before_length (f x) (each f xs) bs (length xs) h (λ cs k. each_length xs cs k)
