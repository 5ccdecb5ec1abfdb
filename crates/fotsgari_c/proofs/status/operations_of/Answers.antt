use Rattle.std.proofs.Common.{List, ℕ, ◌++◌, length, drop, replicate, ap, ◌∙◌}
use Rattle.std.proofs.lemmas.List.{drop-replicate}
use Rattle.fotsgari_c.proofs.status.operations_of.Goals as goal

pub returns : goal.returns
returns c =
    let n = length c.args.operations.now in
    let zeros : List ℕ = replicate 64 0 in
    ap (λ (xs : List ℕ). xs ++ drop n zeros) c.copy_from_slice.ensures.after
    ∙ ap (λ (zs : List ℕ). c.args.operations.now ++ zs) (drop-replicate n 64 0)
