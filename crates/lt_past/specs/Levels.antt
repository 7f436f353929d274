-- The lines of the grammar on which two formulas meet.
use Rattle.std.specs.Prelude.{ℕ}
use Rattle.lt_past.specs.declared.words.Infix.{Infix}
use Rattle.lt_past.specs.declared.words.Infix.TheVariants.{And, Or, Since, Implies}

-- Levels: 1 obs, 2 since, 3 disj, 4 conj, 5 unary, 6 atom.

-- the level of the whole
abbrev pub observer_level : Infix → ℕ
observer_level Implies = 1
observer_level Since = 2
observer_level Or = 3
observer_level And = 4

-- the level of what stands to the left of it
abbrev pub observer_left_level : Infix → ℕ
observer_left_level Implies = 2
observer_left_level Since = 2
observer_left_level Or = 3
observer_left_level And = 4

-- the level of what stands to the right of it
abbrev pub observer_right_level : Infix → ℕ
observer_right_level Implies = 1
observer_right_level Since = 3
observer_right_level Or = 4
observer_right_level And = 5
