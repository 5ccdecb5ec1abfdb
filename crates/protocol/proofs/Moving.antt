-- Leaving a view, and being ready for the next and entering it, keep what holds of the replica that does so.
use Rattle.std.proofs.Common.{◌≡◌, ℕ, ◌^◌, ◌<◌, ◌≤◌, true, false, sym, refl, inl, arith}
use Rattle.std.proofs.lemmas.Bool.{both_ways}
use Rattle.record.specs.Statements.{reply_by, drop_by, commit_by, view_change_by, entry_by}
use Rattle.record.specs.declared.Record.{Record}
use Rattle.register.specs.Sets.{Set, added}
use Rattle.replica.specs.Words.{bit}
use Rattle.replica.specs.Replicas.{left, started, entered}
use Rattle.replica.specs.declared.Replica.{Replica}
use Rattle.replica.proofs.Words.{bit_above}
use Rattle.protocol.specs.Setup.{Setup}
use Rattle.protocol.specs.Service.{Service, Book, Known}
use Rattle.protocol.specs.Rules.{Said}
use Rattle.protocol.proofs.Starting.{Started}
use Rattle.protocol.proofs.Books.{grown_refl}
use Rattle.protocol.proofs.Saying.{added_other, added_grows}
use Rattle.protocol.proofs.Invariant.{Merged, Competing, Good}
use Rattle.protocol.proofs.Later.{by_other_kind, line_kept, speak_good, turn_good, merged_later}

module _ (u : Setup) (V : Service) (h : Set) (B : Book) (i : ℕ) (r : Replica) (G : Good u V h B i r) where
  -- the reach n and the word w of the VIEW-CHANGE cover the line and the sealed word
  pub leave_good :
      (t n w : ℕ) → r.target < t → t ≤ 63 → r.length ≤ n → ((l : ℕ) → bit r.sealed l ≡ true → (bit w l ≡ true) × (l < n))
      → Good u V (added h (view_change_by i t r.view n w)) B i (left r t)
  leave_good t n w p top over covered =
      let x = view_change_by i t r.view n w in
      let T = by_other_kind h i r (left r t) x (omega arith) (refl, omega arith, λ l e. e) (omega arith) (λ v k f y z. absurd (omega arith)) in
      let new : (y : Record) → Said h y → Competing x y → x ≡ y =
      λ y e k. absurd (omega (arith, k.views, ((G.facts y (sym k.signers) e).change (sym k.kinds)).past)) in
      speak_good u V h B i r (left r t) G x T (omega (arith, G.bounds))
      (line_kept u V h (added h x) B B (grown_refl B) i r (left r t) T refl refl refl refl G.line)
      (record {
        past = λ k. absurd (omega arith);
        reply = λ k. absurd (omega arith);
        prepare = λ k. absurd (omega arith);
        commit = λ k. absurd (omega arith);
        change = λ k.
            record {
              past = omega arith;
              replies = λ v s y a j d.
                  let F = G.facts (reply_by i v s y a) refl (added_other h x (reply_by i v s y a) (λ e. omega arith) d) in
                  ((F.past (omega arith)).old, λ e. omega (arith, (F.reply refl).now e, over));
              commits = λ v l j d.
                  let F = G.facts (commit_by i v l 1) refl (added_other h x (commit_by i v l 1) (λ e. omega arith) d) in
                  ((F.past (omega arith)).old, λ e. covered l ((F.commit refl).sealed e refl));
            };
        entry = λ k. absurd (omega arith);
      })
      new

  pub start_good :
      (n w : ℕ) → r.view < r.target → r.mark ≡ false → Merged u h B r.target n w
      → Good u V (added h (entry_by i r.target n w)) B i (started r)
  start_good n w p z M =
      let x = entry_by i r.target n w in
      let new : (y : Record) → Said h y → Competing x y → x ≡ y =
      λ y e k. absurd (both_ways r.mark z (((G.facts y (sym k.signers) e).entry (sym k.kinds)).marked (sym k.views) p)) in
      let T = by_other_kind h i r (started r) x (omega arith) (refl, omega arith, λ l e. e) (omega arith) (λ t k f y q. refl) in
      speak_good u V h B i r (started r) G x T G.bounds
      (line_kept u V h (added h x) B B (grown_refl B) i r (started r) T refl refl refl refl G.line)
      (record {
        past = λ k. absurd (omega arith);
        reply = λ k. absurd (omega arith);
        prepare = λ k. absurd (omega arith);
        commit = λ k. absurd (omega arith);
        change = λ k. absurd (omega arith);
        entry = λ k. record { past = omega arith; marked = λ y q. refl; merged = merged_later u h (added h x) (added_grows h x) B B (grown_refl B) M };
      })
      new

  pub enter_good :
      (v n w : ℕ) → r.view < v → r.target ≤ v → v ≤ 63 → Started u h v (n, w) → ((l : ℕ) → l < n → Known B l) → w < 2 ^ n
      → Good u V h B i (entered v n w)
  enter_good v n w p q top E k m =
      turn_good u V h B i r (entered v n w) G
      (record {
        grows = λ y e. e;
        view = inl p;
        target = q;
        mark = λ t j f x y. absurd (omega arith);
        drops = λ v' s l j e z. z;
        replies = λ v' s x a e z. z;
        commits = λ v' l e z. z;
      })
      (omega arith)
      (record {
        known = k;
        small = m;
        based = record { base_word = w; started = E; below = λ l x. refl };
        skipped = λ l x e. absurd (both_ways (bit w l) (bit_above n l w m x) e);
        kept = λ l d x e. absurd (omega (arith, ((G.facts (drop_by i v l) refl d).past (omega arith)).old));
      })
