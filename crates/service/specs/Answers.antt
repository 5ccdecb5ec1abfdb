-- The answers of 64 bits.
--   answer_number why    — the answer where there is no figure, for the reason why
--   unanswered_text why  — how the reason why is printed
--   answer_of r          — the answer for the result r: its figure, or the number of the reason why there is none
--   figure_of n          — the figure that the answer n is, or the reason why it is none
use Rattle.std.specs.Prelude.{ℕ, cond, ◌==◌, List, Result, Ok, Err, codes}
use Rattle.service.specs.Operations.{out_of_range, malformed}
use Rattle.service.specs.declared.answer.Unanswered.{Unanswered}
use Rattle.service.specs.declared.answer.Unanswered.TheVariants.{OutOfRange, Malformed}

abbrev pub answer_number : Unanswered → ℕ
answer_number OutOfRange = out_of_range
answer_number Malformed = malformed

abbrev pub unanswered_text : Unanswered → List ℕ
unanswered_text OutOfRange = codes "the operation asks for what is out of range"
unanswered_text Malformed = codes "the bits are no operation of the service"

abbrev pub answer_of : Result ℕ Unanswered → ℕ
answer_of (Ok n) = n
answer_of (Err why) = answer_number why

abbrev pub figure_of : ℕ → Result ℕ Unanswered
figure_of n = cond (n == out_of_range) (Err OutOfRange) (cond (n == malformed) (Err Malformed) (Ok n))
