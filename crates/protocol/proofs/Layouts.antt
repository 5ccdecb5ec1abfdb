-- What the rules let an honest replica say keeps the layout, where the service answers 64 bits.
--   SaysLayout a  — the statement that the move a says for a replica below 16, if it says one, keeps the layout
use Rattle.std.proofs.Common.{◌≡◌, ℕ, ◌^◌, ◌<◌, ◌≤◌, false, List, arith, pow_pos, pow_mono, lt_of_lt_of_le, mod-lt}
use Rattle.record.specs.Layout.{Layout}
use Rattle.record.specs.declared.Record.{Record}
use Rattle.merge.specs.Merges.{merge}
use Rattle.replica.specs.Replicas.{reach}
use Rattle.replica.specs.Verdicts.{verdict_number}
use Rattle.replica.specs.declared.Replica.{Replica}
use Rattle.replica.specs.declared.Verdict.{Verdict}
use Rattle.replica.specs.declared.Verdict.TheVariants.{Operation, NoOp}
use Rattle.replica.proofs.Words.{one_past_under, one_past_most}
use Rattle.protocol.specs.Setup.{Setup, foreign}
use Rattle.protocol.specs.Service.{Service, Book, Known, answer_at}
use Rattle.protocol.specs.Model.{Model, stamps, Move, rests, stamping, forges, becomes, says}
use Rattle.protocol.specs.Rules.{Acts, Allowed, Leaves, Merging, act, rest, stamp, deliver, find, drop, decide, prepare, commit, settle, reply, leave, forge, lead, start, enter}
use Rattle.protocol.proofs.Books.{all_stamped}
use Rattle.protocol.proofs.Invariant.{Inv}
use Rattle.protocol.proofs.Keeping.{slot_low}
use Rattle.protocol.proofs.Merging.{merge_small, merge_stamped}

abbrev SaysLayout : Move → Type 0
SaysLayout rests = Unit {0}
SaysLayout (stamping op) = Unit {0}
SaysLayout (forges x) = Unit {0}
SaysLayout (becomes i r) = Unit {0}
SaysLayout (says i r x) = i < 16 → Layout x

verdict_small : (d : Verdict) → verdict_number d ≤ 1
verdict_small Operation = omega arith
verdict_small NoOp = omega arith

-- the service V answers 64 bits
abbrev pub Short : Service → Type 0
Short V = (ops : List ℕ) (op : ℕ) → V ops op < 2 ^ 64

module _ (u : Setup) (V : Service) (short : Short V) (m : Model) (I : Inv u V m) where
  answer_small : (B : Book) (w s : ℕ) → answer_at V B w s < 2 ^ 64
  unfolding answer_at
  answer_small B w s = short _ _

  reach_small : (r : Replica) → r.sealed < 2 ^ 64 → r.sealed < 2 ^ reach r
  reach_small r h = lt_of_lt_of_le (one_past_under r.sealed h) (pow_mono (omega arith))

  line_short : (i : ℕ) → foreign u i ≡ false → (m.replica i).length ≤ 64
  line_short i f = omega (arith, all_stamped m.stamped (m.replica i).length (I.good i f).line.known, I.short)

  -- a statement on a gap: FIND or DROP
  gap_layout : (k i s : ℕ) → 2 ≤ k → k ≤ 3 → foreign u i ≡ false → Known (stamps m) s → i < 16 → Layout (record { kind = k; signer = i; view = (m.replica i).view; last = 0; slot = s; verdict = 0; word = 0; result = 0 })
  gap_layout k i s a b f p low = omega (arith, (I.good i f).bounds, slot_low u V m I s p, pow_pos s)

  -- a vote: DECISION, PREPARE or COMMIT
  vote_layout : (k i s : ℕ) (d : Verdict) → 4 ≤ k → k ≤ 6 → foreign u i ≡ false → Known (stamps m) s → i < 16 → Layout (record { kind = k; signer = i; view = (m.replica i).view; last = 0; slot = s; verdict = verdict_number d; word = 0; result = 0 })
  vote_layout k i s d a b f p low = omega (arith, (I.good i f).bounds, slot_low u V m I s p, pow_pos s, verdict_small d)

  -- a merged line: VIEW-START or ENTRY
  line_layout :
      (k i : ℕ) (ps : List Record) (b : ℕ × ℕ) → 8 ≤ k → k ≤ 9 → foreign u i ≡ false → Leaves (m.replica i) → Merging u m (m.replica i).target ps b → i < 16
      → Layout (record { kind = k; signer = i; view = (m.replica i).target; last = 0; slot = (merge b ps).0; verdict = 0; word = (merge b ps).1; result = 0 })
  line_layout k i ps b from to f w C low =
      omega (arith, w, (I.good i f).bounds, merge_small u V m I (m.replica i).target ps b C, merge_stamped u V m I (m.replica i).target ps b C, I.short)

  acts_layout : (i : ℕ) (a : Move) → foreign u i ≡ false → Acts u V m i (m.replica i) a → SaysLayout a
  acts_layout i a f (settle s d w O q) = tt
  acts_layout i a f (enter t n w p q Q) = tt
  acts_layout i a f (deliver w p d) =
      let G = I.good i f in
      λ low. omega (arith, low, G.bounds, G.line.small, slot_low u V m I (m.replica i).length (p (m.replica i).length (omega arith)), answer_small (stamps m) (m.replica i).word (m.replica i).length)
  acts_layout i a f (find w e p) = gap_layout 2 i (m.replica i).length (omega arith) (omega arith) f p
  acts_layout i a f (drop w e p) = gap_layout 3 i (m.replica i).length (omega arith) (omega arith) f p
  acts_layout i a f (decide s d w O e q n) = vote_layout 4 i s d (omega arith) (omega arith) f O.known
  acts_layout i a f (prepare s d w O e q n) = vote_layout 5 i s d (omega arith) (omega arith) f O.known
  acts_layout i a f (commit s d w O q) = vote_layout 6 i s d (omega arith) (omega arith) f O.known
  acts_layout i a f (reply s w p q z) =
      λ low. omega (arith, low, (I.good i f).bounds, slot_low u V m I s (p s (omega arith)), mod-lt (m.replica i).word (pow_pos s), answer_small (stamps m) (m.replica i).word s)
  acts_layout i a f (leave t p q) =
      let G = I.good i f in
      λ low. omega (arith, low, p, q, G.bounds, reach_small (m.replica i) G.bounds.small, line_short i f, one_past_most (m.replica i).sealed)
  acts_layout i a f (lead ps b w e C) = line_layout 8 i ps b (omega arith) (omega arith) f w C
  acts_layout i a f (start ps b w k e C) = line_layout 9 i ps b (omega arith) (omega arith) f w C

  pub allowed_layout : (a : Move) → Allowed u V m a → SaysLayout a
  allowed_layout a rest = tt
  allowed_layout a (stamp op p) = tt
  allowed_layout a (forge x p) = tt
  allowed_layout b (act i a f p) = acts_layout i a f p
