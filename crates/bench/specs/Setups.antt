-- A checked setup, and what checking one answers.
--   setup_of s         — who the replicas of a bench with the setup s are
--   OpenGranted u s    — an open of a bench u over a register with the set s is granted: the register is empty
--   OpenRefused u s e  — such an open is refused with e: whether or not the register is empty, or since it is not
--   Checks u s r       — r is what checking u for such an open answers: a setup that stands for u where it is granted, else the refusal
use Rattle.std.specs.Prelude.{◌≡◌, true, false, ◌⊎◌, Ok, Err, Result}
use Rattle.refusal.specs.declared.Refusal.{Refusal}
use Rattle.register.specs.Sets.{Set, Emptiness}
use Rattle.protocol.specs.Setup.{Setup}
use Rattle.protocol.specs.Open.{open_grounds}
use Rattle.bench.specs.declared.setup.Setup as code

abbrev pub setup_of : code.Setup → Setup
setup_of s = record { f = s.f; mask = s.foreign }

pub record OpenGranted (u : Setup) (s : Set) : Type 0 where
  pub grounds : open_grounds u true ≡ Ok tt
  pub empty : Emptiness s true

abbrev pub OpenRefused : Setup → Set → Refusal → Type 0
OpenRefused u s e = (open_grounds u true ≡ Err e) ⊎ (Emptiness s false × (open_grounds u false ≡ Err e))

abbrev pub Checks : Setup → Set → Result code.Setup Refusal → Type 0
Checks u s (Ok x) = (setup_of x ≡ u) × OpenGranted u s
Checks u s (Err e) = OpenRefused u s e
