-- What each function adds to a program's sizes.
use Rattle.std.specs.Prelude.{◌≡◌, ℕ}
use Rattle.std.specs.List.{sum_by}
use Rattle.lt_base.specs.Expression.{parts}
use Rattle.lt_base.specs.Program.{Function}
use Rattle.lt_base.specs.Calls.{equations_called}
use Rattle.lt_base.specs.Sizes.{cut, weight_with, parts_with}
use Rattle.lt_check.specs.declared.sizing.Measure.{Measure}
use Rattle.lt_check.specs.declared.sizing.Measure.TheVariants.{Weight, Parts}
use Rattle.lt_check.specs.declared.sizing.Share.{Share}

-- no size of any called function
abbrev pub nothing : ℕ → ℕ
nothing g = 0

-- the measure of a function from those of the called functions
abbrev pub share_measure : Measure → (ℕ → ℕ) → Function → ℕ
share_measure Weight = weight_with
share_measure Parts = parts_with

-- what a share has of a measure
abbrev pub own : Measure → Share → ℕ
own Weight s = s.weight
own Parts s = s.parts

-- what the function has without its calls, and its calls
pub record IsShare (s : Share) : Type 0 where
  pub weight : s.weight ≡ cut (weight_with nothing s.function.now)
  pub parts : s.parts ≡ cut (sum_by (λ e. parts e.1) s.function.now.eqs)
  pub calls : s.calls ≡ equations_called s.function.now.eqs
