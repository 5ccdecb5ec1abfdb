-- Laws of lines.
use Rattle.std.proofs.Common.{◌≡◌, ℕ, ◌+◌, ◌<◌}
use Rattle.std.proofs.lemmas.Bool.{cond-true, lt-ltb}
use Rattle.replica.specs.Replicas.{longer}

-- a line that is not full grows by one verdict
pub longer_is : (n : ℕ) → n < 64 → longer n ≡ n + 1
longer_is n h = cond-true _ _ _ (lt-ltb n 64 h)
