-- The program's values in C.
use Rattle.std.specs.Prelude.{ℕ, List, ℤ}
use Rattle.lt_base.specs.declared.value.Value.{Value}
use Rattle.lt_base.specs.declared.value.Value.TheVariants.{Int, Bool as Truth}
use Rattle.lt_c.specs.Tree.{Tree, c_integer, c_truth}
use Rattle.lt_c.specs.Meaning.{of_truth}
use Rattle.lt_c.specs.Text.{integer_text, c_truth_text}

-- a value as C has it
abbrev pub c_number : Value → ℤ
c_number (Int z) = z
c_number (Truth b) = of_truth b

-- the literal of a value
abbrev pub of_value : Value → Tree
of_value (Int z) = c_integer z
of_value (Truth b) = c_truth b

-- its text
abbrev pub literal_text : Value → List ℕ
literal_text (Int z) = integer_text z
literal_text (Truth b) = c_truth_text b
