-- What holds of every model that a bench comes to.
--   Bounds v t w            — a view, a target and a sealed word of an honest replica
--   Based u h v b w         — the word w agrees below the length b with the line that view v starts from
--   Line u h B i v b n w    — the line of replica i in view v: base length b, length n, word w
--   Reply u V h B i v n ..  — a REPLY of replica i, now in view v with a line of length n
--   Prepare u h v l d       — a PREPARE of view v for slot l
--   Commit u h B v w ..     — a COMMIT of a replica that is now in view v with the sealed word w
--   Change h i t ..         — a VIEW-CHANGE of replica i, whose target is now t
--   Covers h v t n w j      — replica j said a VIEW-CHANGE for v that the line n, w of the merge from view t covers
--   Merged u h B v n w      — the line n, w is a merge for view v
--   Ready u h B v t m ..    — an ENTRY of a replica that is now in view v with the target t and the mark m
--   Unique k                — the kinds of which an honest replica says one content only: PREPARE, by view and slot; VIEW-CHANGE and ENTRY, by view
--   Competing x y           — two statements of such a kind that an honest replica says only if they are one
--   Once h i                — replica i said no two of these that differ
--   Past v v'               — a statement of view v', by a replica that is now in view v
--   Fact u V h B i r x      — what holds of a statement x of replica i, which is now r
--   Good u V h B i r        — what holds of the honest replica i, which is now r
--   Inv u V m               — what holds of the model m
-- u is the bench's setup, V its service, h all that was said, B the book of the stamped operations.
use Rattle.std.proofs.Common.{◌≡◌, ℕ, ◌^◌, ◌<◌, ◌≤◌, Bool, true, false, ◌⊎◌, length, refl}
use Rattle.record.specs.Layout.{Layout}
use Rattle.record.specs.Statements.{reply_by, drop_by, prepare_by, commit_by, view_change_by, entry_by}
use Rattle.record.specs.declared.Record.{Record}
use Rattle.register.specs.Sets.{Set}
use Rattle.replica.specs.Words.{bit}
use Rattle.replica.specs.declared.Replica.{Replica}
use Rattle.protocol.specs.Setup.{Setup, replicas, foreign}
use Rattle.protocol.specs.Service.{Service, Book, Known, answer_at}
use Rattle.protocol.specs.Model.{Model, stamps}
use Rattle.protocol.specs.Rules.{Said, Upto}
use Rattle.protocol.proofs.Quorums.{Many, QuorumSaid}
use Rattle.protocol.proofs.Starting.{Started}
use Rattle.protocol.proofs.Counting.{Few}

pub record Bounds (v t w : ℕ) : Type 0 where
  pub ahead : v ≤ t
  pub most : t ≤ 63
  pub small : w < 2 ^ 64

pub record Based (u : Setup) (h : Set) (v b w : ℕ) : Type 0 where
  pub base_word : ℕ
  pub started : Started u h v (b, base_word)
  pub below : (l : ℕ) → l < b → bit w l ≡ bit base_word l

pub record Line (u : Setup) (h : Set) (B : Book) (i v b n w : ℕ) : Type 0 where
  pub known : (l : ℕ) → l < n → Known B l
  pub small : w < 2 ^ n
  pub based : Based u h v b w
  -- a no-op from the base on was committed by a quorum
  pub skipped : (l : ℕ) → b ≤ l → bit w l ≡ true → QuorumSaid u h (commit_by 0 v l 1)
  -- and so was an operation that i had dropped
  pub kept : (l : ℕ) → Said h (drop_by i v l) → l < n → bit w l ≡ false → QuorumSaid u h (commit_by 0 v l 0)

pub record Reply (u : Setup) (V : Service) (h : Set) (B : Book) (i v n v' s w a : ℕ) : Type 0 where
  pub now : v' ≡ v → s < n
  pub stamped : Upto B s
  pub right : a ≡ answer_at V B w s
  pub base : ℕ
  pub base_word : ℕ
  pub started : Started u h v' (base, base_word)
  pub below : (l : ℕ) → l ≤ s → l < base → bit w l ≡ bit base_word l
  pub above : (l : ℕ) → l ≤ s → base ≤ l → bit w l ≡ true → QuorumSaid u h (commit_by 0 v' l 1)
  pub dropped : (l : ℕ) → Said h (drop_by i v' l) → l ≤ s → bit w l ≡ false → QuorumSaid u h (commit_by 0 v' l 0)

pub record Prepare (u : Setup) (h : Set) (v l d : ℕ) : Type 0 where
  pub dropped : d ≡ 1 → QuorumSaid u h (drop_by 0 v l)
  pub base : ℕ
  pub base_word : ℕ
  pub started : Started u h v (base, base_word)
  pub from : base ≤ l

pub record Commit (u : Setup) (h : Set) (B : Book) (v w v' l d : ℕ) : Type 0 where
  pub prepared : QuorumSaid u h (prepare_by 0 v' l d)
  pub known : Known B l
  pub sealed : v' ≡ v → d ≡ 1 → bit w l ≡ true

pub record Change (h : Set) (i t v last n w : ℕ) : Type 0 where
  pub past : v ≤ t
  pub replies : (v' s w' a : ℕ) → v' < v → Said h (reply_by i v' s w' a) → (v' ≤ last) × (v' ≡ last → s < n)
  pub commits : (v' l : ℕ) → v' < v → Said h (commit_by i v' l 1) → (v' ≤ last) × (v' ≡ last → (bit w l ≡ true) × (l < n))

pub record Covers (h : Set) (v t n w j : ℕ) : Type 0 where
  pub last : ℕ
  pub reach : ℕ
  pub word : ℕ
  pub said : Said h (view_change_by j v last reach word)
  pub under : last ≤ t
  pub within : last ≡ t → reach ≤ n
  pub bits : last ≡ t → (l : ℕ) → bit word l ≡ true → bit w l ≡ true

pub record Merged (u : Setup) (h : Set) (B : Book) (v n w : ℕ) : Type 0 where
  pub top : ℕ
  pub base : ℕ
  pub base_word : ℕ
  pub older : top < v
  pub started : Started u h top (base, base_word)
  pub order : base ≤ n
  pub known : (l : ℕ) → l < n → Known B l
  pub below : (l : ℕ) → l < base → bit w l ≡ bit base_word l
  pub above : (l : ℕ) → base ≤ l → bit w l ≡ true → QuorumSaid u h (prepare_by 0 top l 1)
  -- the signers of the picks
  pub signs : ℕ → Bool
  pub many : Many u signs
  pub covers : (j : ℕ) → j < replicas u → signs j ≡ true → Covers h v top n w j

pub record Ready (u : Setup) (h : Set) (B : Book) (v t : ℕ) (m : Bool) (v' n w : ℕ) : Type 0 where
  pub past : v' ≤ t
  pub marked : v' ≡ t → v < t → m ≡ true
  pub merged : Merged u h B v' n w

abbrev pub Unique : ℕ → Type 0
Unique k = (k ≡ 5) ⊎ ((k ≡ 7) ⊎ (k ≡ 9))

pub record Competing (x y : Record) : Type 0 where
  pub unique : Unique x.kind
  pub kinds : x.kind ≡ y.kind
  pub signers : x.signer ≡ y.signer
  pub views : x.view ≡ y.view
  pub slots : x.kind ≡ 5 → x.slot ≡ y.slot

abbrev pub Once : Set → ℕ → Type 0
Once h i = (x y : Record) → x.signer ≡ i → Said h x → Said h y → Competing x y → x ≡ y

pub record Past (v v' : ℕ) : Type 0 where
  pub old : v' ≤ v

pub record Fact (u : Setup) (V : Service) (h : Set) (B : Book) (i : ℕ) (r : Replica) (x : Record) : Type 0 where
  pub past : x.kind ≤ 6 → Past r.view x.view
  pub reply : x.kind ≡ 1 → Reply u V h B i r.view r.length x.view x.slot x.word x.result
  pub prepare : x.kind ≡ 5 → Prepare u h x.view x.slot x.verdict
  pub commit : x.kind ≡ 6 → Commit u h B r.view r.sealed x.view x.slot x.verdict
  pub change : x.kind ≡ 7 → Change h i r.target x.view x.last x.slot x.word
  pub entry : x.kind ≡ 9 → Ready u h B r.view r.target r.mark x.view x.slot x.word

pub record Good (u : Setup) (V : Service) (h : Set) (B : Book) (i : ℕ) (r : Replica) : Type 0 where
  pub bounds : Bounds r.view r.target r.sealed
  pub line : Line u h B i r.view r.base r.length r.word
  pub facts : (x : Record) → x.signer ≡ i → Said h x → Fact u V h B i r x
  pub once : Once h i

pub record Inv (u : Setup) (V : Service) (m : Model) : Type 0 where
  pub few : Few u
  pub short : length m.stamped ≤ 64
  pub layout : (x : Record) → Said m.held x → Layout x
  pub good : (i : ℕ) → foreign u i ≡ false → Good u V m.held (stamps m) i (m.replica i)

-- what holds of the statements of an honest replica
module _ (u : Setup) (V : Service) (m : Model) (I : Inv u V m) (i : ℕ) (f : foreign u i ≡ false) where
  pub reply_of :
      (v l w a : ℕ) → Said m.held (reply_by i v l w a)
      → Reply u V m.held (stamps m) i (m.replica i).view (m.replica i).length v l w a
  reply_of v l w a e = ((I.good i f).facts (reply_by i v l w a) refl e).reply refl

  pub prepare_of : (v l d : ℕ) → Said m.held (prepare_by i v l d) → Prepare u m.held v l d
  prepare_of v l d e = ((I.good i f).facts (prepare_by i v l d) refl e).prepare refl

  pub commit_of :
      (v l d : ℕ) → Said m.held (commit_by i v l d)
      → Commit u m.held (stamps m) (m.replica i).view (m.replica i).sealed v l d
  commit_of v l d e = ((I.good i f).facts (commit_by i v l d) refl e).commit refl

  pub change_of :
      (v last n w : ℕ) → Said m.held (view_change_by i v last n w)
      → Change m.held i (m.replica i).target v last n w
  change_of v last n w e = ((I.good i f).facts (view_change_by i v last n w) refl e).change refl

  pub merged_of : (v n w : ℕ) → Said m.held (entry_by i v n w) → Merged u m.held (stamps m) v n w
  merged_of v n w e = (((I.good i f).facts (entry_by i v n w) refl e).entry refl).merged
