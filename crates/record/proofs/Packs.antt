-- Records and their bytes: a record that keeps the layout has bytes of its own.
use Rattle.std.proofs.Common.{◌≡◌, ℕ, ◌+◌, ◌*◌, ◌%◌, ◌^◌, ◌<◌, ◌≤◌, List, ◌++◌, length, take, drop, replicate, sym, refl, ap, ◌∙◌, append_assoc, arith, pow_mono}
use borrow.Rule.Slice.PartMut.{put_mid}
use Rattle.std.proofs.lemmas.List.{take_all}
use Rattle.record.specs.Bytes.{be, joined}
use Rattle.record.specs.Heads.{head_of, with_head}
use Rattle.record.specs.Layout.{Layout}
use Rattle.record.specs.Packed.{fields, packed, Packs}
use Rattle.record.specs.declared.Record.{Record}
use Rattle.record.proofs.Bytes.{be_append, be_one_of, four_bytes, eight_bytes, length_be}
use Rattle.record.proofs.Heads.{Fits, head_below, head_even, head_returns, head_kept}
use Rattle.record.proofs.Layouts.{layout_from}
use Rattle.record.proofs.Lists.{first_part, second_part, third_part, three_parts}

fits : (r : Record) → Layout r → Fits r
fits r l = grind arith

word_below : (r : Record) → Layout r → r.word < 2 ^ 64
word_below r l = let p = pow_mono l.slot_field in omega (arith, l.word)

-- the bytes of a record are those of its head, its word and its result
packed_parts : (r : Record) → r.word < 2 ^ 64 → r.result < 2 ^ 64 → packed r ≡ be 4 (head_of r) ++ (be 8 r.word ++ be 8 r.result)
unfolding packed
packed_parts r w a =
    let number : joined 0 (fields r) ≡ (head_of r * 256 ^ 8 + r.word) * 256 ^ 8 + r.result = omega arith in
    ap (be 20) number
    ∙ be_append 12 8 (head_of r * 256 ^ 8 + r.word) r.result a
    ∙ ap (λ (l : List ℕ). l ++ be 8 r.result) (be_append 4 8 (head_of r) r.word w)
    ∙ append_assoc (be 4 (head_of r)) (be 8 r.word) (be 8 r.result)

-- the same, as the three parts are copied into a blank row of 20
copied : (h w a : ℕ) → put_mid 12 8 (put_mid 4 8 (be 4 h ++ replicate 16 0) (be 8 w)) (be 8 a) ≡ be 4 h ++ (be 8 w ++ be 8 a)
unfolding be
copied h w a = refl

pub packed_copied : (r : Record) → Layout r → (h w a : List ℕ) → h ≡ be 4 (head_of r) → w ≡ be 8 r.word → a ≡ be 8 r.result → put_mid 12 8 (put_mid 4 8 (h ++ replicate 16 0) w) a ≡ packed r
packed_copied r l h w a eh ew ea =
    ap (λ (x : List ℕ). put_mid 12 8 (put_mid 4 8 (x ++ replicate 16 0) w) a) eh
    ∙ ap (λ (x : List ℕ). put_mid 12 8 (put_mid 4 8 (be 4 (head_of r) ++ replicate 16 0) x) a) ew
    ∙ ap (λ (x : List ℕ). put_mid 12 8 (put_mid 4 8 (be 4 (head_of r) ++ replicate 16 0) (be 8 r.word)) x) ea
    ∙ copied (head_of r) r.word r.result
    ∙ sym (packed_parts r (word_below r l) l.result)

-- the bytes b begin with the head h, and go on with the word w and the result a
pub record Splits (b : List ℕ) (h w a : ℕ) : Type 0 where
  pub head : be 4 h ≡ take 4 b
  pub word : be 8 w ≡ take 8 (drop 4 b)
  pub result : be 8 a ≡ take 8 (drop 12 b)
  pub head_fits : h < 2 ^ 32
  pub word_fits : w < 2 ^ 64
  pub result_fits : a < 2 ^ 64

splits : (r : Record) (b : List ℕ) → Packs r b → Splits b (head_of r) r.word r.result
splits r b p =
    let l = layout_from r p.layout in
    let h = be 4 (head_of r) in
    let w = be 8 r.word in
    let a = be 8 r.result in
    let whole : b ≡ h ++ (w ++ a) = sym p.bytes ∙ packed_parts r (word_below r l) l.result in
    let front = length_be 4 (head_of r) in
    let middle = length_be 8 r.word in
    let back : drop 12 b ≡ a = third_part 4 8 b h w a whole front middle in
    let short : length a ≤ 8 = omega (arith, length_be 8 r.result) in
    record {
      head = sym (first_part 4 8 b h w a whole front middle);
      word = sym (second_part 4 8 b h w a whole front middle);
      result = sym (ap (take 8) back ∙ take_all 8 a short);
      head_fits = head_below r (fits r l);
      word_fits = word_below r l;
      result_fits = l.result;
    }

module _ (b : List ℕ) (h w a : ℕ) (s : Splits b h w a) where
  -- the bytes of a record split into its own head, word and result
  split_head : (r : Record) → Packs r b → h ≡ head_of r
  split_head r p =
      let t = splits r b p in
      be_one_of four_bytes h (head_of r) s.head_fits t.head_fits (s.head ∙ sym t.head)

  pub split_record : (r : Record) → Packs r b → with_head h w a ≡ r
  split_record r p =
      let t = splits r b p in
      let head = split_head r p in
      let word = be_one_of eight_bytes w r.word s.word_fits t.word_fits (s.word ∙ sym t.word) in
      let result = be_one_of eight_bytes a r.result s.result_fits t.result_fits (s.result ∙ sym t.result) in
      let same : with_head h w a ≡ with_head (head_of r) r.word r.result = cc in
      same ∙ head_returns r (fits r (layout_from r p.layout))

  -- where the filling bits are 0, the record read from the bytes has them
  pub split_packed : length b ≡ 20 → h % 16 ≡ 0 → packed (with_head h w a) ≡ b
  split_packed n z =
      packed_parts (with_head h w a) s.word_fits s.result_fits
      ∙ ap (λ (x : ℕ). be 4 x ++ (be 8 w ++ be 8 a)) (head_kept h w a z)
      ∙ ap (λ (l : List ℕ). l ++ (be 8 w ++ be 8 a)) s.head
      ∙ ap (λ (l : List ℕ). take 4 b ++ (l ++ be 8 a)) s.word
      ∙ ap (λ (l : List ℕ). take 4 b ++ (take 8 (drop 4 b) ++ l)) s.result
      ∙ three_parts 4 8 8 b n

-- no two records that keep the layout have the same bytes
pub packs_alone : (r x : Record) (b : List ℕ) → Packs r b → Packs x b → x ≡ r
packs_alone r x b p q =
    let s = splits r b p in
    sym (split_record b _ _ _ s x q) ∙ split_record b _ _ _ s r p

-- the filling bits of a record's bytes are 0
pub split_even : (b : List ℕ) (h w a : ℕ) → Splits b h w a → (r : Record) → Packs r b → h % 16 ≡ 0
split_even b h w a s r p = ap (λ (x : ℕ). x % 16) (split_head b h w a s r p) ∙ head_even r

pub length_packed : (r : Record) → length (packed r) ≡ 20
unfolding packed
length_packed r = length_be 20 (joined 0 (fields r))
