-- The rules of the replicas, as a relation: which moves a model allows.
--   Works r             — the replica r is at work
--   Leaves r            — the replica r is leaving
--   Open b r s          — slot s is open to votes of a replica r: stamped in the book b, from its base through its length
--   Upto b s            — every slot through s is stamped in the book b
--   Said h x            — the statement x was said, under the signer that stands in it
--   Dropped u h v s d   — where the verdict d is no-op, a quorum said DROP for slot s in view v
--   Merging u m v ps b  — ps are good picks for the view v over the base b, by what the model m holds
--   Acts u V m i r a    — the rules allow the move a to an honest replica i, which is r, in the model m, for a bench u with the service V
--   Allowed u V m a     — the rules allow the move a in the model m
use Rattle.std.specs.Prelude.{◌≡◌, ℕ, ◌%◌, ◌^◌, ◌<◌, ◌≤◌, true, false, List, length}
use Rattle.record.specs.Statements.{reply_by, find_by, drop_by, decision_by, prepare_by, commit_by, view_change_by, view_start_by, entry_by}
use Rattle.record.specs.declared.Record.{Record}
use Rattle.register.specs.Sets.{Set}
use Rattle.quorum.specs.Quorums.{Quorum}
use Rattle.replica.specs.Words.{bit}
use Rattle.replica.specs.Verdicts.{verdict_number, other_verdict}
use Rattle.replica.specs.Replicas.{reach, delivered, committed, settled, left, started, entered}
use Rattle.replica.specs.declared.Replica.{Replica}
use Rattle.replica.specs.declared.Verdict.{Verdict}
use Rattle.replica.specs.declared.Verdict.TheVariants.{NoOp}
use Rattle.merge.specs.Checks.{Checked}
use Rattle.merge.specs.Merges.{merge}
use Rattle.protocol.specs.Setup.{Setup, members, foreign, leader, change_to}
use Rattle.protocol.specs.Service.{Service, Book, Known, answer_at}
use Rattle.protocol.specs.Model.{Model, stamps, Move, rests, stamping, forges, becomes, says}

abbrev pub Works : Replica → Type 0
Works r = r.target ≡ r.view

abbrev pub Leaves : Replica → Type 0
Leaves r = r.view < r.target

pub record Open (b : Book) (r : Replica) (s : ℕ) : Type 0 where
  pub from : r.base ≤ s
  pub to : s ≤ r.length
  pub known : Known b s

abbrev pub Upto : Book → ℕ → Type 0
Upto b s = (l : ℕ) → l ≤ s → Known b l

abbrev pub Said : Set → Record → Type 0
Said h x = h x ≡ true

abbrev pub Dropped : Setup → Set → (v s : ℕ) → Verdict → Type 0
Dropped u h v s d = d ≡ NoOp → Quorum h (members u) (drop_by 0 v s)

abbrev pub Merging : Setup → Model → ℕ → List Record → ℕ × ℕ → Type 0
Merging u m v ps b = Checked m.held (change_to u (length m.stamped) v) ps b

module _ (u : Setup) (V : Service) (m : Model) where
  pub data Acts (i : ℕ) (r : Replica) : Move → Type 0 where
    -- at work, every slot through the end of its line is stamped and i has not dropped the one there: i answers for it and appends it
    deliver :
        Works r → Upto (stamps m) r.length → m.held (drop_by i r.view r.length) ≡ false
        → Acts i r
        (says i (delivered r) (reply_by i r.view r.length r.word (answer_at V (stamps m) r.word r.length)))
    -- the leader, at work, looks for the operation of the slot at the end of its line, which is stamped
    find :
        Works r → i ≡ leader u r.view → Known (stamps m) r.length
        → Acts i r (says i r (find_by i r.view r.length))
    -- at work, where its leader looks for the operation of the slot at the end of i's line, which is stamped, i says that it has not got it
    drop :
        Works r → Said m.held (find_by (leader u r.view) r.view r.length) → Known (stamps m) r.length
        → Acts i r (says i r (drop_by i r.view r.length))
    -- the leader, at work, decides an open slot, as it did not decide otherwise; a no-op needs a quorum of DROP
    decide :
        (s : ℕ) (d : Verdict) → Works r → Open (stamps m) r s → i ≡ leader u r.view → Dropped u m.held r.view s d
        → m.held (decision_by i r.view s (verdict_number (other_verdict d))) ≡ false
        → Acts i r (says i r (decision_by i r.view s (verdict_number d)))
    -- at work, i takes up its leader's decision on an open slot, as it took up no other; a no-op needs a quorum of DROP
    prepare :
        (s : ℕ) (d : Verdict) → Works r → Open (stamps m) r s
        → Said m.held (decision_by (leader u r.view) r.view s (verdict_number d)) → Dropped u m.held r.view s d
        → m.held (prepare_by i r.view s (verdict_number (other_verdict d))) ≡ false
        → Acts i r (says i r (prepare_by i r.view s (verdict_number d)))
    -- at work, i commits a verdict on an open slot that a quorum prepared
    commit :
        (s : ℕ) (d : Verdict) → Works r → Open (stamps m) r s
        → Quorum m.held (members u) (prepare_by 0 r.view s (verdict_number d))
        → Acts i r (says i (committed r s d) (commit_by i r.view s (verdict_number d)))
    -- at work, i settles a verdict on an open slot that a quorum committed
    settle :
        (s : ℕ) (d : Verdict) → Works r → Open (stamps m) r s
        → Quorum m.held (members u) (commit_by 0 r.view s (verdict_number d))
        → Acts i r (becomes i (settled r s d))
    -- at work, i answers again for an operation of its line
    reply :
        (s : ℕ) → Works r → Upto (stamps m) s → s < r.length → bit r.word s ≡ false
        → Acts i r (says i r (reply_by i r.view s (r.word % 2 ^ s) (answer_at V (stamps m) r.word s)))
    -- i leaves for a view above its target
    leave :
        (t : ℕ) → r.target < t → t ≤ 63
        → Acts i r (says i (left r t) (view_change_by i t r.view (reach r) r.sealed))
    -- leaving, the leader of its target starts it with the merge of good picks
    lead :
        (ps : List Record) (b : ℕ × ℕ) → Leaves r → i ≡ leader u r.target → Merging u m r.target ps b
        → Acts i r (says i r (view_start_by i r.target (merge b ps).0 (merge b ps).1))
    -- leaving and unmarked, i is ready for its target with the merge of good picks, which the leader started it with
    start :
        (ps : List Record) (b : ℕ × ℕ) → Leaves r → r.mark ≡ false
        → Said m.held (view_start_by (leader u r.target) r.target (merge b ps).0 (merge b ps).1)
        → Merging u m r.target ps b
        → Acts i r (says i (started r) (entry_by i r.target (merge b ps).0 (merge b ps).1))
    -- i enters a view above its own and not below its target, with a line for which a quorum is ready
    enter :
        (v n w : ℕ) → r.view < v → r.target ≤ v → Quorum m.held (members u) (entry_by 0 v n w)
        → Acts i r (becomes i (entered v n w))

  pub data Allowed : Move → Type 0 where
    -- a call that is refused, or only asks, moves nothing
    rest : Allowed rests
    -- the operation goes to the next of the 64 slots
    stamp : (op : ℕ) → length m.stamped < 64 → Allowed (stamping op)
    -- a foreign replica says anything
    forge : (x : Record) → foreign u x.signer ≡ true → Allowed (forges x)
    -- an honest replica acts
    act : (i : ℕ) (a : Move) → foreign u i ≡ false → Acts i (m.replica i) a → Allowed a
