-- What a certificate call answers, and what it writes.
--   asked_outcome a           — the outcome where a certificate call answered a
--   Written m p b c           — a buffer with the bytes b has the bytes c: a quorum of different numbers below m.replicas that pass the test p, and then the bytes as they were
--   Writes m p b a c          — a tells whether a quorum of the membership m passes the test p; if so, one is written into a buffer that had the bytes b, and c is what it has then
--   Certifies g h z c b a b'  — the certificate call c on the bench z answered a, and a witness buffer with the bytes b has the bytes b' then; g and h tell of the types of its register and its service
use Rattle.std.specs.Prelude.{◌≡◌, ◌≢◌, ℕ, ◌<◌, ◌≤◌, Bool, true, false, cond, List, ◌++◌, length, take, drop, Some, Ok, Err, Result}
use Rattle.refusal.specs.declared.Refusal.{Refusal}
use Rattle.record.specs.declared.Record.{Record}
use Rattle.service.specs.declared.Service as service
use Rattle.register.specs.declared.Register as register
use Rattle.quorum.specs.Quorums.{count, said, Witnesses}
use Rattle.quorum.specs.declared.Membership.{Membership}
use Rattle.protocol.specs.Setup.{members}
use Rattle.protocol.specs.Call.{Call, Outcome, Yes, No, Refused, asks_for}
use Rattle.bench.specs.Setups.{setup_of}
use Rattle.bench.specs.States.{state_of, meaning_of}
use Rattle.bench.specs.declared.open.Bench.{Bench}

abbrev pub asked_outcome : Result Bool Refusal → Outcome
asked_outcome (Ok b) = cond b Yes No
asked_outcome (Err e) = Refused e

pub record Written (m : Membership) (p : ℕ → Bool) (b c : List ℕ) : Type 0 where
  pub found : List ℕ
  -- so a quorum of them are there
  pub enough : m.quorum ≤ length found
  pub witnesses : Witnesses m.replicas m.quorum p found
  pub bytes : c ≡ take m.quorum found ++ drop m.quorum b

abbrev pub Writes : Membership → (ℕ → Bool) → List ℕ → Bool → List ℕ → Type 0
Writes m p b true c = (m.quorum ≤ count m.replicas p) × Written m p b c
Writes m p b false c = (count m.replicas p < m.quorum) × (c ≡ b)

pub record Certifies
    {R S : Type 0} (g : register.Ghosts R) (h : service.Ghosts S) (z : Bench R S) (c : Call) (b : List ℕ)
    (a : Result Bool Refusal) (b' : List ℕ)
    : Type 0 where
  pub outcome : asked_outcome a ≡ (meaning_of g h z c).outcome
  pub yes :
      (r : Record) → asks_for c ≡ Some r → a ≡ Ok true
      → Written (members (setup_of z.setup)) (said (state_of g z).held r) b b'
  pub other : a ≢ Ok true → b' ≡ b
