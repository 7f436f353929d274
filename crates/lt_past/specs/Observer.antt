-- Observers, as contracts see them.
use Rattle.std.specs.Prelude.{ℕ, ◌<◌, List, length, slice_index_or}
use Rattle.std.proofs.Common.{refl}
use Rattle.std.specs.Coded.{Coded, code_by, coded×, coded_ℕ, coded_list}
use Rattle.lt_past.specs.Formula.{Formula, SignalsBelow}
use Rattle.lt_past.specs.Codes.{coded_formula}

-- a formula, whose signals are some outputs of a function, by their places among its outputs
pub record Observing : Type 0 where
  pub outs : List ℕ
  pub formula : Formula

abbrev pub coded_observing : Coded Observing
coded_observing = code_by (List ℕ × Formula) (coded× (coded_list coded_ℕ) coded_formula) (λ o. (o.outs, o.formula)) (λ p. record { outs = p.0; formula = p.1 }) (λ _. refl)

-- each number is below each later one
abbrev pub Increases : List ℕ → Type 0
Increases ns = (i j : ℕ) → i < j → j < length ns → slice_index_or ns i 0 < slice_index_or ns j 0

-- what every observer keeps: the places stand in order, each once, and there is one for each signal
pub record IsObserver (o : Observing) : Type 0 where
  pub ordered : Increases o.outs
  pub placed : SignalsBelow (length o.outs) o.formula
