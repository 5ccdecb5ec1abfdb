-- Why a life is not run.
--   fault_number e  — the number of the fault e
use Rattle.std.specs.Prelude.{ℕ}
use Rattle.refusal.specs.Grounds.{ground_number}
use Rattle.fotsgari_c.specs.declared.fault.Fault.{Fault}
use Rattle.fotsgari_c.specs.declared.fault.Fault.TheVariants as fault

abbrev pub fault_number : Fault → ℕ
fault_number (fault.Open e) = ground_number e.ground
fault_number fault.Outcomes = 101
fault_number fault.CallNumber = 102
fault_number fault.Verdict = 103
fault_number fault.Records = 104
fault_number fault.Memory = 105
