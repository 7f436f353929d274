-- The shape of a word between two formulas.
use Rattle.std.proofs.Common.{◌≡◌, ap, sym, ◌∙◌, Box, Global}
use Rattle.lt_past.specs.declared.formula.Obs.{Obs, fold-roll-Obs}
use Rattle.lt_past.specs.declared.formula.Obs as obs
use Rattle.lt_past.specs.declared.formula.Obs.TheVariants.{rolls-And, rolls-Or, rolls-Since, rolls-Implies}
use Rattle.lt_past.specs.declared.formula.Obs.TheOpen as layer
use Rattle.lt_past.specs.declared.words.Infix.TheVariants.{And, Or, Since, Implies}
use Rattle.lt_past.specs.Formula.{Formula, binary}
use Rattle.lt_past.specs.Views.{formula_of, formula_step}

pub formula_of-And : (a b : Box Obs Global) → formula_of (obs.And a b) ≡ binary And (formula_of a.value) (formula_of b.value)
formula_of-And a b = ap formula_of (sym (rolls-And a b)) ∙ fold-roll-Obs Formula formula_step (layer.And a b)

pub formula_of-Or : (a b : Box Obs Global) → formula_of (obs.Or a b) ≡ binary Or (formula_of a.value) (formula_of b.value)
formula_of-Or a b = ap formula_of (sym (rolls-Or a b)) ∙ fold-roll-Obs Formula formula_step (layer.Or a b)

pub formula_of-Since : (a b : Box Obs Global) → formula_of (obs.Since a b) ≡ binary Since (formula_of a.value) (formula_of b.value)
formula_of-Since a b = ap formula_of (sym (rolls-Since a b)) ∙ fold-roll-Obs Formula formula_step (layer.Since a b)

pub formula_of-Implies : (a b : Box Obs Global) → formula_of (obs.Implies a b) ≡ binary Implies (formula_of a.value) (formula_of b.value)
formula_of-Implies a b = ap formula_of (sym (rolls-Implies a b)) ∙ fold-roll-Obs Formula formula_step (layer.Implies a b)
