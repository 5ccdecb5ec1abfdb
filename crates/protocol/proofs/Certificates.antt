-- What it is for one line to agree with all that a model certifies.
--   Certificates u V m line  — each answer and each no-op for which the model m has a quorum agrees with the line: a number whose bit l is set where slot l is a no-op
use Rattle.std.proofs.Common.{◌≡◌, ℕ, ◌%◌, ◌^◌, true, false, Some}
use Rattle.record.specs.Statements.{reply_by, commit_by}
use Rattle.replica.specs.Words.{bit}
use Rattle.protocol.specs.Setup.{Setup}
use Rattle.protocol.specs.Service.{Service, single}
use Rattle.protocol.specs.Model.{Model, stamps}
use Rattle.protocol.proofs.Quorums.{QuorumSaid}

pub record Certificates (u : Setup) (V : Service) (m : Model) (line : ℕ) : Type 0 where
  pub operation : (v s w a : ℕ) → QuorumSaid u m.held (reply_by 0 v s w a) → bit line s ≡ false
  pub word : (v s w a : ℕ) → QuorumSaid u m.held (reply_by 0 v s w a) → w ≡ line % 2 ^ s
  pub result : (v s w a : ℕ) → QuorumSaid u m.held (reply_by 0 v s w a) → single V (stamps m) line s ≡ Some a
  pub no_op : (v s : ℕ) → QuorumSaid u m.held (commit_by 0 v s 1) → bit line s ≡ true
