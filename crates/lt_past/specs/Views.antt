-- What a formula in memory stands for.
use Rattle.lt_past.specs.declared.words.Prefix.TheVariants as prefix
use Rattle.lt_past.specs.declared.words.Infix.TheVariants as infix_word
use Rattle.lt_past.specs.declared.formula.Obs.{Obs}
use Rattle.lt_past.specs.declared.formula.Obs.TheOpen.{Obs-F, Lit, Out, Not, Previous, Once, Historically, And, Or, Since, Implies}
use Rattle.lt_past.specs.declared.formula.Obs.TheFolds.{fold-Obs}
use Rattle.lt_past.specs.Formula.{Formula, constant, signal, unary, binary}

abbrev pub formula_step : Obs-F Formula → Formula
formula_step (Lit b) = constant b
formula_step (Out k) = signal k
formula_step (Not f) = unary prefix.Not f.value
formula_step (Previous f) = unary prefix.Previous f.value
formula_step (Once f) = unary prefix.Once f.value
formula_step (Historically f) = unary prefix.Historically f.value
formula_step (And f g) = binary infix_word.And f.value g.value
formula_step (Or f g) = binary infix_word.Or f.value g.value
formula_step (Since f g) = binary infix_word.Since f.value g.value
formula_step (Implies f g) = binary infix_word.Implies f.value g.value

-- its shape
abbrev pub formula_of : Obs → Formula
formula_of = fold-Obs Formula formula_step
