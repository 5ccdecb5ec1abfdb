-- Quorums of a bench.
--   Many u p          — at least a quorum of the replicas pass the test p
--   QuorumSaid u h x  — a quorum of the replicas said the statement x, each under its own number, where h is the set of all that was said
use Rattle.std.proofs.Common.{ℕ, ◌≤◌, Bool}
use Rattle.record.specs.declared.Record.{Record}
use Rattle.register.specs.Sets.{Set}
use Rattle.quorum.specs.Quorums.{count, said}
use Rattle.protocol.specs.Setup.{Setup, replicas, quorum_size}

abbrev pub Many : Setup → (ℕ → Bool) → Type 0
Many u p = quorum_size u ≤ count (replicas u) p

abbrev pub QuorumSaid : Setup → Set → Record → Type 0
QuorumSaid u h x = Many u (said h x)
