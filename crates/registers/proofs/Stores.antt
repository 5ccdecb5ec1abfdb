-- What a store of records holds, and a record more.
use Rattle.std.proofs.Common.{◌≡◌, ℕ, ◌+◌, ◌<◌, true, false, List, [], ◌∷◌, ◌++◌, Ok, refl, ap, ◌∙◌, sym, subst, arith}
use Rattle.record.specs.Layout.{keeps_layout}
use Rattle.record.specs.Same.{same}
use Rattle.record.specs.declared.Record.{Record}
use Rattle.record.proofs.Same.{same_refl, same_decides}
use Rattle.register.specs.Sets.{EnteredInto}
use Rattle.register.specs.Stored.{stored}
use Rattle.register.proofs.Entering.{entered_new}
use Rattle.register.proofs.Stored.{Holds, HoldsNone, stored_push}
use Rattle.registers.specs.Places.{is_there}

-- r, which is no member of ys, is appended
pub appending_enters : (ys zs : List Record) (n k : ℕ) (r : Record) → keeps_layout r ≡ true → stored is_there ys r ≡ false → 0 < n → zs ≡ ys ++ r ∷ [] → k + 1 ≡ n → EnteredInto (stored is_there ys) n r (Ok tt) (stored is_there zs) k
appending_enters ys zs n k r kept absent room more less =
    entered_new (stored is_there ys) n r kept absent room _ _ (ap (stored is_there) more ∙ stored_push is_there ys r r kept (λ x _. refl)) less

pub holds_itself : (y : Record) → keeps_layout y ≡ true → Holds is_there y
holds_itself y kept = (y, kept, same_refl y)

pub holds_none : (y : Record) → keeps_layout y ≡ false → HoldsNone is_there y
holds_none y broken x kept =
    let decides = same_decides y x in
    let kept-too : same y x ≡ true → keeps_layout y ≡ true = λ h. subst (λ (u : Record). keeps_layout u ≡ true) (sym (decides.0 h)) kept in
    grind arith
