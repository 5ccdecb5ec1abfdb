-- The test `same` decides whether two records are equal.
use Rattle.std.proofs.Common.{◌≡◌, ℕ, true, Decides, subst, arith}
use Rattle.std.proofs.lemmas.Bool.Decides.{nat_tests}
use Rattle.record.specs.declared.Record.{Record}
use Rattle.record.specs.Same.{same}

abbrev made : (kind signer view last slot verdict word result : ℕ) → Record
made k i v l s d w a =
    record { kind = k; signer = i; view = v; last = l; slot = s; verdict = d; word = w; result = a }

same_is : (r x : Record) → same r x ≡ true → r ≡ x
unfolding same
same_is r x h =
    let kind : r.kind ≡ x.kind = grind (arith, nat_tests) in
    let signer : r.signer ≡ x.signer = grind (arith, nat_tests) in
    let view : r.view ≡ x.view = grind (arith, nat_tests) in
    let last : r.last ≡ x.last = grind (arith, nat_tests) in
    let slot : r.slot ≡ x.slot = grind (arith, nat_tests) in
    let verdict : r.verdict ≡ x.verdict = grind (arith, nat_tests) in
    let word : r.word ≡ x.word = grind (arith, nat_tests) in
    let result : r.result ≡ x.result = grind (arith, nat_tests) in
    let e : made r.kind r.signer r.view r.last r.slot r.verdict r.word r.result ≡ made x.kind x.signer x.view x.last x.slot x.verdict x.word x.result = cc in
    e

pub same_refl : (r : Record) → same r r ≡ true
unfolding same
same_refl r = grind (arith, nat_tests)

pub same_decides : (r x : Record) → Decides (same r x) (r ≡ x)
same_decides r x = (same_is r x, λ e. subst (λ (y : Record). same r y ≡ true) e (same_refl r))
