-- What a table holds in its memory, once statements are stored one after the other.
use Rattle.std.proofs.Common.{◌≡◌, ℕ, suc, zero-add, ◌+◌, ◌≤◌, List, [], ◌∷◌, ◌++◌, length, refl, sym, ap, ◌∙◌, arith}
use native.Mathlib.Numerals.{unary_clauses}
use Rattle.std.proofs.Math.Seq.{set-append_seam}
use Rattle.std.proofs.lemmas.List.{append_assoc, length-append}
use Rattle.std.specs.Borrow.{GName}
use Rattle.std.specs.List.{fold}
use Rattle.record.specs.declared.Record.{Record}
use Rattle.registers.specs.Tables.{TableMemory, table_stores, with_first}

abbrev lent_places : GName → List Record → ℕ → TableMemory
lent_places lent ys n = record { lent = lent; places = ys; used = n }

-- the statements rs are stored, one after the other, behind the records ps
stored_behind :
    (lent : GName) (ps ys rs : List Record) → length rs ≤ length ys
    → fold table_stores (lent_places lent (ps ++ ys) (length ps)) rs
    ≡ lent_places lent (ps ++ with_first rs ys) (length ps + length rs)
stored_behind lent ps ys [] room = simp unary_clauses refl
stored_behind lent ps [] (r ∷ rs) room = absurd (omega arith)
stored_behind lent ps (y ∷ ys) (r ∷ rs) room =
    let qs = ps ++ r ∷ [] in
    let longer : length qs ≡ length ps + 1 = length-append ps (r ∷ []) in
    let count : length ps + 1 + length rs ≡ length ps + suc (length rs) = omega arith in
    let put = set-append_seam ps y ys r ∙ sym (append_assoc ps (r ∷ []) ys) in
    let end : lent_places lent (qs ++ with_first rs ys) (length qs + length rs) ≡ lent_places lent (ps ++ r ∷ with_first rs ys) (length ps + suc (length rs)) =
    rw (append_assoc ps (r ∷ []) (with_first rs ys), longer, count) in
    ap (λ (zs : List Record). fold table_stores (lent_places lent zs (length ps + 1)) rs) put
    ∙ ap (λ (k : ℕ). fold table_stores (lent_places lent (qs ++ ys) k) rs) (sym longer)
    ∙ stored_behind lent qs ys rs (omega (arith, room))
    ∙ end

-- all that a table which was empty stores stands in its first places
pub stored_first :
    (lent : GName) (ys rs : List Record) → length rs ≤ length ys
    → fold table_stores (lent_places lent ys 0) rs ≡ lent_places lent (with_first rs ys) (length rs)
stored_first lent ys rs room =
    stored_behind lent [] ys rs room ∙ ap (λ (k : ℕ). lent_places lent (with_first rs ys) k) (zero-add (length rs))
