-- Operations, and what a list of them does to a service.
--   field at width op  — the bits of the operation op from bit `at` up, `width` of them, as a number
--   out_of_range       — the answer where the operation asks for what there is not: 2^63
--   malformed          — the answer where the bits are no operation of the service: 2^63 + 1
--   after next s ops   — the state after the operations ops, one after the other, from the state s
--   Decodes d op r     — r is the operation that d gives for the bits op, or an error where d gives none
--   Encodes d o r      — r is bits for which d gives the operation o, or an error where no 64 bits are such
use Rattle.std.specs.Prelude.{◌≡◌, ◌≢◌, List, [], ◌∷◌, ℕ, ◌+◌, ◌/◌, ◌%◌, ◌^◌, ◌<◌, Option, Some, None, Result, MatchResult}

abbrev pub field : ℕ → ℕ → ℕ → ℕ
field at width op = op / 2 ^ at % 2 ^ width

abbrev pub out_of_range : ℕ
out_of_range = 2 ^ 63

abbrev pub malformed : ℕ
malformed = 2 ^ 63 + 1

abbrev pub after : {S : Type 0} → (S → ℕ → S) → S → List ℕ → S
after next s [] = s
after next s (op ∷ ops) = after next (next s op) ops

abbrev pub Decodes : {O E : Type 0} → (ℕ → Option O) → ℕ → Result O E → Type 0
Decodes d op r = MatchResult r (λ o. d op ≡ Some o) (λ _. d op ≡ None)

abbrev pub Encodes : {O E : Type 0} → (ℕ → Option O) → O → Result ℕ E → Type 0
Encodes d o r = MatchResult r (λ op. d op ≡ Some o) (λ _. (op : ℕ) → op < 2 ^ 64 → d op ≢ Some o)
