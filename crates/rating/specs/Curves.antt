-- Rating curves, as a list with the curve loaded last first.
--   Curves         — lists of curves
--   holds c s      — the curve c holds the stage s
--   flow c s       — the flow that the curve c gives at the stage s
--   curve_text c   — how the curve c is printed
--   deciding s cs  — the curve that decides the flow at the stage s: of those that hold it, the one loaded last
--   without n cs   — the curves cs without the curve of number n
--   loaded c cs    — the curves after a LOAD of c
--   numbered k cs  — the curves have different numbers, all below k
use Rattle.std.specs.Prelude.{◌≢◌, ℕ, ◌+◌, ◌-◌, ◌*◌, ◌<◌, Bool, cond, ◌&&◌, List, [], ◌∷◌, Option, ◌==◌, nat_le, find, All, AllPairs, ◌++◌, codes, decimal}
use Rattle.rating.specs.declared.curve.Curve.{Curve}

abbrev pub Curves : Type 0
Curves = List Curve

abbrev pub holds : Curve → ℕ → Bool
holds c s = nat_le c.low s && nat_le s c.high

abbrev pub flow : Curve → ℕ → ℕ
flow c s = c.offset + c.slope * (s - c.low)

abbrev pub curve_text : Curve → List ℕ
curve_text c =
    codes "curve "
    ++ (decimal c.number
    ++ (codes ": "
    ++ (decimal c.low
    ++ (codes " to "
    ++ (decimal c.high
    ++ (codes " mm, "
    ++ (decimal c.offset
    ++ (codes " l/s at its low end, "
    ++ (decimal c.slope ++ codes " l/s more for each mm")))))))))

abbrev pub deciding : ℕ → Curves → Option Curve
deciding s cs = find (λ c. holds c s) cs

abbrev pub without : ℕ → Curves → Curves
without n [] = []
without n (c ∷ cs) = cond (c.number == n) cs (c ∷ without n cs)

abbrev pub loaded : Curve → Curves → Curves
loaded c cs = c ∷ without c.number cs

pub record numbered (k : ℕ) (cs : Curves) : Type 0 where
  pub below : All (λ c. c.number < k) cs
  pub apart : AllPairs (λ c d. c.number ≢ d.number) cs
