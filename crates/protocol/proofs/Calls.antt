-- Each call is a step of the rules.
use Rattle.std.proofs.Common.{◌≡◌, ℕ, ◌<◌, ◌≤◌, true, false, List, length, is_ok, Ok, sym, ap, subst, arith, rules}
use Rattle.refusal.proofs.Granted.{both_granted}
use Rattle.refusal.specs.Grounds.{and_then, unless}
use Rattle.refusal.specs.declared.Ground.TheVariants.{ViewStartMissing}
use Rattle.record.specs.Statements.{reply_by, view_start_by}
use Rattle.record.specs.declared.Record.{Record}
use Rattle.replica.specs.Replicas.{delivered}
use Rattle.replica.specs.Verdicts.{verdict_number}
use Rattle.replica.specs.declared.Replica.{Replica}
use Rattle.replica.specs.declared.Verdict.{Verdict}
use Rattle.replica.specs.declared.Verdict.TheVariants.{Operation, NoOp}
use Rattle.protocol.specs.Setup.{Setup, replicas, foreign, leader, change_to}
use Rattle.merge.specs.Checks.{layout_grounds, merge_grounds}
use Rattle.merge.specs.Merges.{merge}
use Rattle.merge.proofs.Checking.{checked_from}
use Rattle.protocol.specs.Service.{Service, book, answer_at}
use Rattle.protocol.specs.State.{State, replica_at}
use Rattle.protocol.specs.Grounds.{dropped}
use Rattle.protocol.specs.Stamp.{stamp}
use Rattle.protocol.specs.Deliver.{deliver}
use Rattle.protocol.specs.Find.{find}
use Rattle.protocol.specs.Drop.{drop}
use Rattle.protocol.specs.Decide.{decide}
use Rattle.protocol.specs.Prepare.{prepare}
use Rattle.protocol.specs.Commit.{commit}
use Rattle.protocol.specs.Settle.{settle}
use Rattle.protocol.specs.Reply.{reply}
use Rattle.protocol.specs.Leave.{leave}
use Rattle.protocol.specs.Forge.{forge}
use Rattle.protocol.specs.Lead.{lead}
use Rattle.protocol.specs.Start.{start}
use Rattle.protocol.specs.Enter.{enter}
use Rattle.protocol.specs.Answer.{answer_grounds}
use Rattle.protocol.specs.NoOp.{no_op_grounds}
use Rattle.protocol.specs.Call.{Call, Stamp, Deliver, Find, Drop, Decide, Prepare, Commit, Settle, Reply, Leave, Forge, Lead, Start, Enter, AskAnswer, AskNoOp, acting, meaning}
use Rattle.protocol.specs.Model.{stamps, says}
use Rattle.protocol.specs.Rules as moves
use Rattle.protocol.specs.Rules.{Allowed, Works, Open, Upto, Dropped}
use Rattle.protocol.specs.Steps.{model}
use Rattle.protocol.proofs.Books.{known_below}
use Rattle.protocol.proofs.Stepping.{Sound, Kept, asks, speaks, speaks_only, forged, turns, stamps_one}

module _ (u : Setup) (V : Service) (x : State) (S : Sound u V x) where
  -- a replica below n has a place
  low : (i : ℕ) → i < replicas u → i < 16
  low i h = omega (arith, S.faults)

  works : (i : ℕ) → foreign u i ≡ false → (replica_at x i).target ≤ (replica_at x i).view → Works (replica_at x i)
  works i f h = let t = (S.inv.good i f).bounds.ahead in omega (arith, t)

  opens : (i s : ℕ) → (replica_at x i).base ≤ s → s ≤ (replica_at x i).length → s < length x.stamped → Open (stamps (model x)) (replica_at x i) s
  opens i s from to h = record { from = from; to = to; known = known_below x.stamped s h }

  through : (s : ℕ) → s < length x.stamped → Upto (stamps (model x)) s
  through s h l le = known_below x.stamped l (omega arith)

  drops_by : (v s : ℕ) (d : Verdict) → dropped u x v s d ≡ true → Dropped u x.held v s d
  drops_by v s Operation e n = let z : ◌≡◌ {A = ℕ} 0 1 = ap verdict_number n in absurd (omega (arith, z))
  drops_by v s NoOp e n = search rules

  stamp_step : (op : ℕ) → Kept u V x (acting x (stamp x op))
  stamp_step op = stamps_one u V x S (stamp x op).grounds op (λ e. moves.stamp op (search rules))

  -- the slot that is delivered is the length of the line
  delivers :
      (i s : ℕ) → s ≡ (replica_at x i).length → is_ok (deliver u V x i s).grounds ≡ true
      → Allowed u V (model x)
      (says i (delivered (replica_at x i))
      (reply_by i (replica_at x i).view s (replica_at x i).word (answer_at V (book x.stamped) (replica_at x i).word s)))
  delivers i s end = subst At (sym end) at_length
    where
      r : Replica
      r = replica_at x i

      At : ℕ → Type 0
      At l = is_ok (deliver u V x i l).grounds ≡ true
          → Allowed u V (model x) (says i (delivered r) (reply_by i r.view l r.word (answer_at V (book x.stamped) r.word l)))

      at_length : At r.length
      at_length e = moves.act i _ (search rules) (moves.deliver (works i (search rules) (search rules)) (through r.length (search rules)) (search rules))

  deliver_step : (i s : ℕ) → Kept u V x (acting x (deliver u V x i s))
  deliver_step i s =
      speaks u V x S (deliver u V x i s).grounds i _ _ (λ e. (low i (search rules), delivers i s (search rules) e))

  find_step : (i : ℕ) → Kept u V x (acting x (find u x i))
  find_step i =
      speaks_only u V x S (find u x i).grounds i _
      (λ e. (low i (search rules), moves.act i _ (search rules) (moves.find (works i (search rules) (search rules)) (search rules) (known_below x.stamped _ (search rules)))))

  drop_step : (i : ℕ) → Kept u V x (acting x (drop u x i))
  drop_step i =
      speaks_only u V x S (drop u x i).grounds i _
      (λ e. (low i (search rules), moves.act i _ (search rules) (moves.drop (works i (search rules) (search rules)) (search rules) (known_below x.stamped _ (search rules)))))

  decide_step : (i s : ℕ) (d : Verdict) → Kept u V x (acting x (decide u x i s d))
  decide_step i s d =
      speaks_only u V x S (decide u x i s d).grounds i _
      (λ e. (
        low i (search rules),
        moves.act i _ (search rules)
            (moves.decide s d (works i (search rules) (search rules)) (opens i s (search rules) (search rules) (search rules))
            (search rules) (drops_by _ s d (search rules)) (search rules)),
      ))

  prepare_step : (i s : ℕ) (d : Verdict) → Kept u V x (acting x (prepare u x i s d))
  prepare_step i s d =
      speaks_only u V x S (prepare u x i s d).grounds i _
      (λ e. (
        low i (search rules),
        moves.act i _ (search rules)
            (moves.prepare s d (works i (search rules) (search rules)) (opens i s (search rules) (search rules) (search rules))
            (search rules) (drops_by _ s d (search rules)) (search rules)),
      ))

  commit_step : (i s : ℕ) (d : Verdict) → Kept u V x (acting x (commit u x i s d))
  commit_step i s d =
      speaks u V x S (commit u x i s d).grounds i _ _
      (λ e. (
        low i (search rules),
        moves.act i _ (search rules)
            (moves.commit s d (works i (search rules) (search rules)) (opens i s (search rules) (search rules) (search rules))
            (search rules)),
      ))

  settle_step : (i s : ℕ) (d : Verdict) → Kept u V x (acting x (settle u x i s d))
  settle_step i s d =
      turns u V x S (settle u x i s d).grounds i _
      (λ e. (
        low i (search rules),
        moves.act i _ (search rules)
            (moves.settle s d (works i (search rules) (search rules)) (opens i s (search rules) (search rules) (search rules))
            (search rules)),
      ))

  reply_step : (i s : ℕ) → Kept u V x (acting x (reply u V x i s))
  reply_step i s =
      speaks_only u V x S (reply u V x i s).grounds i _
      (λ e. (low i (search rules), moves.act i _ (search rules) (moves.reply s (works i (search rules) (search rules)) (through s (search rules)) (search rules) (search rules))))

  leave_step : (i t : ℕ) → Kept u V x (acting x (leave u x i t))
  leave_step i t =
      speaks u V x S (leave u x i t).grounds i _ _ (λ e. (low i (search rules), moves.act i _ (search rules) (moves.leave t (search rules) (search rules))))

  forge_step : (r : Record) → Kept u V x (acting x (forge u x r))
  forge_step r = forged u V x S (forge u x r).grounds r (λ e. (search rules, moves.forge r (search rules)))

  enter_step : (i n w v : ℕ) → Kept u V x (acting x (enter u x i n w v))
  enter_step i n w v =
      turns u V x S (enter u x i n w v).grounds i _
      (λ e. (low i (search rules), moves.act i _ (search rules) (moves.enter v n w (search rules) (search rules) (search rules))))

  lead_step : (i : ℕ) (ps : List Record) (n w : ℕ) → Kept u V x (acting x (lead u x i ps n w))
  lead_step i ps n w =
      speaks_only u V x S (lead u x i ps n w).grounds i _
      (λ e.
      let rest = (both_granted (layout_grounds ps) _ e).1 in
      (low i (search rules), moves.act i _ (search rules) (moves.lead ps (n, w) (search rules) (search rules) (checked_from _ _ ps (n, w) (search rules)))))

  start_step : (i : ℕ) (ps : List Record) (n w : ℕ) → Kept u V x (acting x (start u x i ps n w))
  start_step i ps n w =
      speaks u V x S (start u x i ps n w).grounds i _ _
      (λ e.
      let rest = (both_granted (layout_grounds ps) _ e).1 in
      let line = merge (n, w) ps in
      let grounds = merge_grounds x.held (change_to u (length x.stamped) (replica_at x i).target) ps (n, w) in
      let led = x.held (view_start_by (leader u (replica_at x i).target) (replica_at x i).target line.0 line.1) in
      let both : is_ok (and_then grounds (unless {A = Unit {0}} led ViewStartMissing 0 (Ok tt))) ≡ true = search rules in
      let parts = both_granted grounds _ both in
      let merges = parts.0 in
      let leads = parts.1 in (
        low i (search rules),
        moves.act i _ (search rules)
            (moves.start ps (n, w) (search rules) (search rules) (search rules) (checked_from _ _ ps (n, w) merges)),
      ))

  -- every call is a step of the rules
  pub call_step : (c : Call) → Kept u V x (meaning u V x c)
  call_step (Stamp op) = stamp_step op
  call_step (Deliver i s) = deliver_step i s
  call_step (Find i) = find_step i
  call_step (Drop i) = drop_step i
  call_step (Decide i s d) = decide_step i s d
  call_step (Prepare i s d) = prepare_step i s d
  call_step (Commit i s d) = commit_step i s d
  call_step (Settle i s d) = settle_step i s d
  call_step (Reply i s) = reply_step i s
  call_step (Leave i t) = leave_step i t
  call_step (Forge r) = forge_step r
  call_step (Lead i ps n w) = lead_step i ps n w
  call_step (Start i ps n w) = start_step i ps n w
  call_step (Enter i n w v) = enter_step i n w v
  call_step (AskAnswer b v s w a) = asks u V x S (answer_grounds x b v s w) _
  call_step (AskNoOp b v s) = asks u V x S (no_op_grounds x b v s) _
