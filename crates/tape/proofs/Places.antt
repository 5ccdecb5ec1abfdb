-- What the places of a tape store, and a write to one of them.
use Rattle.std.proofs.Common.{◌≡◌, ℕ, zero, suc, zero-add, ◌+◌, ◌-◌, ◌*◌, ◌<◌, ◌≤◌, min, true, false, MatchBool, List, [], ◌∷◌, ◌++◌, length, take, drop, is_ok, Ok, Err, Result, sym, refl, ap, ◌∙◌, add-one, arith, length-drop}
use borrow.Rule.Slice.PartMut.{put_mid}
use Rattle.std.specs.Borrow.{GName}
use Rattle.std.specs.List.{fold, flat_map}
use Rattle.std.specs.Simd.{first_chunks}
use Rattle.std.proofs.lemmas.Slice.Eq.{bytes_eq-Decides}
use Rattle.std.proofs.lemmas.List.{take_at, append_assoc, append-nil, length-take-le, drop-append-le, take-append-le, take-take, drop-take, length-append, drop-drop}
use Rattle.std.proofs.lemmas.Slice.{drop-append-drop}
use Rattle.std.proofs.lemmas.List.FromFn.{take-map-range_with_len}
use Rattle.std.proofs.lemmas.Bool.{false_from_ne_true}
use Rattle.std.proofs.lemmas.Bool.Decides.{same_from_decides, Decides-like}
use Rattle.refusal.specs.declared.Refusal.{Refusal}
use Rattle.record.specs.Layout.{keeps_layout}
use Rattle.record.specs.Packed.{packed, Unpacks}
use Rattle.record.specs.Same.{same}
use Rattle.record.specs.Tapes.{places, place}
use Rattle.record.specs.declared.Record.{Record}
use Rattle.record.proofs.Chunks.{chunks_are}
use Rattle.record.proofs.Packs.{length_packed, packs_alone}
use Rattle.record.proofs.Same.{same_decides}
use Rattle.register.specs.Sets.{adds, addition, EnteredInto}
use Rattle.register.specs.Stored.{stored}
use Rattle.register.proofs.Entering.{adds_new, entered_new}
use Rattle.register.proofs.Stored.{Holds, HoldsNone, stored_push}
use Rattle.tape.specs.Tapes.{has_bytes, parts, used_parts, on_tape, room_on, replaced, TapeMemory, tape_stores, with_packed}

-- a is what unpacking the bytes y answers
pub unpacked : (y : List ℕ) (a : Result Record Refusal) → Unpacks 0 y a → MatchBool (is_ok a) (Holds has_bytes y) (HoldsNone has_bytes y)
unpacked y (Ok r) u = (r, u.layout, (bytes_eq-Decides y (packed r)).1 (sym u.bytes))
unpacked y (Err e) u =
    λ x kept. false_from_ne_true _ (λ h. u.1 x (record { layout = kept; bytes = sym ((bytes_eq-Decides y (packed x)).0 h) }))

abbrev lent_bytes : GName → List ℕ → ℕ → TapeMemory
lent_bytes lent b n = record { lent = lent; bytes = b; used = n }

-- the used places as chunks of 20 bytes
used_is : (u : ℕ) (b : List ℕ) → u ≤ places b → parts u b ≡ used_parts u b
used_is u b fits = let used : u ≡ min u (places b) = omega arith in ap (λ (k : ℕ). parts k b) used

used_are : (u : ℕ) (b : List ℕ) → u ≤ places b → first_chunks 20 u b ≡ used_parts u b
used_are u b fits = chunks_are b u ∙ used_is u b fits

pub used_chunks : (u : ℕ) (b : List ℕ) (ps : List (List ℕ)) → u ≤ places b → ps ≡ first_chunks 20 (places b) b → take u ps ≡ used_parts u b
used_chunks u b ps fits are =
    ap (take u) (are ∙ chunks_are b (places b)) ∙ take-map-range_with_len (λ k. place k b) 0 (places b) u fits ∙ used_is u b fits

pub write_replaces : (n : ℕ) (b y c : List ℕ) → y ≡ c → put_mid (20 * n) (20 * n + 20 - 20 * n) b y ≡ replaced n b c
write_replaces n b y c e =
    let k : 20 * n + 20 - 20 * n ≡ 20 = omega arith in
    rw (e, k, drop-drop)

-- the bytes c are written to the place n
module _ (c : List ℕ) (whole : length c ≡ 20) where
  front : (n : ℕ) (b : List ℕ) → n < places b → length (take (20 * n) b) ≡ 20 * n
  front n b room = length-take-le (20 * n) b (omega arith)

  length_replaced : (n : ℕ) (b : List ℕ) → n < places b → length (replaced n b c) ≡ length b
  length_replaced n b room =
      let outer = length-append (take (20 * n) b) (c ++ drop (20 * n + 20) b) in
      let inner = length-append c (drop (20 * n + 20) b) in
      omega (arith, outer, inner, front n b room, whole, length-drop (20 * n + 20) b)

  chunks_replaced : (n : ℕ) (b : List ℕ) → n < places b → first_chunks 20 (suc n) (replaced n b c) ≡ first_chunks 20 n b ++ c ∷ []
  chunks_replaced zero b room = ap (λ (p : List ℕ). p ∷ []) (take_at c (drop 20 b) 20 whole)
  chunks_replaced (suc n) b room =
      let before = take (20 * suc n) b in
      let after = c ++ drop (20 * suc n + 20) b in
      let long : 20 ≤ length before = omega (arith, front (suc n) b room) in
      let split : 20 * suc n ≡ 20 + 20 * n = omega arith in
      let later : 20 + 20 * n + 20 ≡ 20 + (20 * n + 20) = omega arith in
      let first : take 20 (before ++ after) ≡ take 20 b = take-append-le 20 before after long ∙ take-take 20 (20 * suc n) b (omega arith) in
      let rest : drop 20 (before ++ after) ≡ replaced n (drop 20 b) c = rw (drop-append-le 20 before after long, split, drop-take, later, ← drop-drop (20 * n + 20) 20 b) in
      rw (first, rest) (ap (λ (ps : List (List ℕ)). take 20 b ∷ ps) (chunks_replaced n (drop 20 b) (omega (arith, length-drop 20 b))))

  parts_replaced : (n : ℕ) (b : List ℕ) → n < places b → used_parts (n + 1) (replaced n b c) ≡ used_parts n b ++ c ∷ []
  parts_replaced n b room =
      sym (used_are (n + 1) (replaced n b c) (omega (arith, length_replaced n b room)))
      ∙ ap (λ (k : ℕ). first_chunks 20 k (replaced n b c)) (add-one n)
      ∙ chunks_replaced n b room
      ∙ ap (λ (ps : List (List ℕ)). ps ++ c ∷ []) (used_are n b (omega arith))

-- r, which is no member, is written to the place n
module _ (n : ℕ) (b : List ℕ) (r : Record) (room-left : n < places b) (kept : keeps_layout r ≡ true) (absent : on_tape n b r ≡ false) where
  pub is_added : adds (on_tape n b) (room_on n b) r ≡ true
  is_added = adds_new (on_tape n b) (room_on n b) r kept absent (omega arith)

  same_room : length (replaced n b (packed r)) ≡ length b
  same_room = length_replaced (packed r) (length_packed r) n b room-left

  holds_r : (x : Record) → keeps_layout x ≡ true → has_bytes x (packed r) ≡ same r x
  holds_r x kept-x =
      same_from_decides _ _ (Decides-like _ (λ e. sym (packs_alone r x (packed r) (record { layout = kept; bytes = refl }) (record { layout = kept-x; bytes = sym e }))) (ap packed) (bytes_eq-Decides (packed r) (packed x))) (same_decides r x)

  -- the tape after that is b'
  module _ (b' : List ℕ) (put : b' ≡ replaced n b (packed r)) where
    pub put_enters : EnteredInto (on_tape n b) (room_on n b) r (Ok tt) (on_tape (n + 1) b') (room_on (n + 1) b')
    put_enters =
        let held = ap (on_tape (n + 1)) put ∙ ap (stored has_bytes) (parts_replaced (packed r) (length_packed r) n b room-left) ∙ stored_push has_bytes (used_parts n b) (packed r) r kept holds_r in
        entered_new (on_tape n b) (room_on n b) r kept absent (omega arith) _ _ held (omega (arith, same_room, ap length put))

    pub put_is_stored : (lent : GName) → lent_bytes lent b' (n + 1) ≡ fold tape_stores (lent_bytes lent b n) (addition (on_tape n b) (room_on n b) r)
    put_is_stored lent = rw (put, is_added)

-- the statements rs are stored, one after the other, behind the bytes p
stored_behind : (lent : GName) (b p : List ℕ) (n : ℕ) (rs : List Record) → length p ≡ 20 * n → fold tape_stores (lent_bytes lent (p ++ drop (20 * n) b) n) rs ≡ lent_bytes lent (p ++ flat_map packed rs ++ drop (20 * (n + length rs)) b) (n + length rs)
stored_behind lent b p n [] whole = let count : n + 0 ≡ n = omega arith in simp (append-nil, count)
stored_behind lent b p n (r ∷ rs) whole =
    let c = packed r in
    let front = take_at p (drop (20 * n) b) (20 * n) whole in
    let rest = drop-append-drop (20 * n) b p (20 * n + 20) (omega arith) whole in
    let next : 20 * n + 20 ≡ 20 * (n + 1) = omega arith in
    let bytes : replaced n (p ++ drop (20 * n) b) c ≡ p ++ c ++ drop (20 * (n + 1)) b =
    rw (front, rest, next) (sym (append_assoc p c (drop (20 * (n + 1)) b))) in
    let longer : length (p ++ c) ≡ 20 * (n + 1) = omega (arith, length-append p c, length_packed r) in
    let count : n + 1 + length rs ≡ n + suc (length rs) = omega arith in
    ap (λ (y : List ℕ). fold tape_stores (lent_bytes lent y (n + 1)) rs) bytes
    ∙ stored_behind lent b (p ++ c) (n + 1) rs longer
    ∙ rw (append_assoc p c (flat_map packed rs), count)

-- all that a tape which was empty stores stands at its start
pub stored_at_start : (lent : GName) (b : List ℕ) (rs : List Record) → fold tape_stores (lent_bytes lent b 0) rs ≡ lent_bytes lent (with_packed rs b) (length rs)
stored_at_start lent b rs = let count = zero-add (length rs) in rw (← count) (stored_behind lent b [] 0 rs refl)
