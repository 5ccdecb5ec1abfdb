-- Who said a statement, and how many did.
--   signed_by r i      — the record r with the signer i
--   said s r i         — replica i said r: the set s has r with the signer i
--   count n p          — how many numbers below n pass the test p
--   quorum s m r       — a quorum of the membership m said r: at least m.quorum of the replicas below m.replicas; as a test
--   Quorum s m r       — the same as a fact
--   Witnesses n q p w  — the first q numbers of w are different, are below n and pass the test p; the others are 0
--   Finds n q p a      — a is what looking for q numbers below n that pass the test p answers: them, or nothing if there are fewer
--   IsNext p s t i     — i is the first number of the range s that passes the test p; it is below 16, and the range t is what is left after it
--   FindsNext p s t a  — a is what looking for the first number of s that passes p answers, where t is left: that number, or nothing if none passes
use Rattle.std.specs.declared.ops.Range.{Range}
use Rattle.std.specs.Prelude.{◌≡◌, ℕ, zero, suc, ◌+◌, ◌<◌, ◌≤◌, Bool, true, false, cond, List, Some, None, Option, ◌≢◌, nat_le, slice_index}
use Rattle.record.specs.declared.Record.{Record}
use Rattle.register.specs.Sets.{Set}
use Rattle.quorum.specs.declared.Membership.{Membership}

abbrev pub signed_by : Record → ℕ → Record
signed_by r i = record r { signer = i }

abbrev pub said : Set → Record → ℕ → Bool
said s r i = s (signed_by r i)

unfoldable pub count : ℕ → (ℕ → Bool) → ℕ
count zero p = 0
count (suc n) p = count n p + cond (p n) 1 0

abbrev pub quorum : Set → Membership → Record → Bool
quorum s m r = nat_le m.quorum (count m.replicas (said s r))

abbrev pub Quorum : Set → Membership → Record → Type 0
Quorum s m r = m.quorum ≤ count m.replicas (said s r)

pub record Witnesses (n q : ℕ) (p : ℕ → Bool) (w : List ℕ) : Type 0 where
  pub below : (k : ℕ) → k < q → slice_index w k < n
  pub pass : (k : ℕ) → k < q → p (slice_index w k) ≡ true
  pub different : (j k : ℕ) → j < k → k < q → slice_index w j ≢ slice_index w k
  pub others : (k : ℕ) → q ≤ k → slice_index w k ≡ 0

abbrev pub Finds : ℕ → ℕ → (ℕ → Bool) → Option (List ℕ) → Type 0
Finds n q p (Some w) = (q ≤ count n p) × Witnesses n q p w
Finds n q p None = count n p < q

-- i is the first in the range s that passes, and t is what is left of the range
pub record IsNext (p : ℕ → Bool) (s t : Range ℕ) (i : ℕ) : Type 0 where
  pub from : s.start ≤ i
  pub below : i < s.end
  pub signer : i < 16
  pub pass : p i ≡ true
  pub before : (k : ℕ) → s.start ≤ k → k < i → p k ≡ false
  pub rest_start : t.start ≡ i + 1
  pub rest_end : t.end ≡ s.end

abbrev pub FindsNext : (ℕ → Bool) → Range ℕ → Range ℕ → Option ℕ → Type 0
FindsNext p s t (Some i) = IsNext p s t i
FindsNext p s t None = (k : ℕ) → s.start ≤ k → k < s.end → p k ≡ false
