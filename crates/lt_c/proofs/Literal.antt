-- The text of literals.
use Rattle.std.proofs.Common.{◌≡◌, refl}
use Rattle.lt_base.specs.declared.value.Value.{Value}
use Rattle.lt_base.specs.declared.value.Value.TheVariants.{Int, Bool as Truth}
use Rattle.lt_c.specs.Text.{Spelling, tree_text}
use Rattle.lt_c.specs.Meaning.{Store, value}
use Rattle.lt_c.specs.Literals.{c_number, of_value, literal_text}

-- the tree of a literal has its text
pub literal_is : (nm : Spelling) (v : Value) → tree_text nm (of_value v) ≡ literal_text v
literal_is nm (Int z) = refl
literal_is nm (Truth b) = refl

-- and its value
pub literal_number : (m : Store) (v : Value) → value m (of_value v) ≡ c_number v
literal_number m (Int z) = refl
literal_number m (Truth b) = refl
