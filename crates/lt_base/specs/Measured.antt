-- What the two measures of a program add up.
use Rattle.std.specs.Prelude.{ℕ}
use Rattle.lt_base.specs.declared.weights.Measure.{Measure}
use Rattle.lt_base.specs.declared.weights.Measure.TheVariants.{Weight, Parts}
use Rattle.lt_base.specs.Program.{Function}
use Rattle.lt_base.specs.Sizes.{weight_with, parts_with}

-- the measure of a function from those of the called functions
abbrev pub measured : Measure → (ℕ → ℕ) → Function → ℕ
measured Weight = weight_with
measured Parts = parts_with
