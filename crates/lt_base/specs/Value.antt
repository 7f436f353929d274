-- The types of values.
use Rattle.lt_base.specs.declared.value.Ty.{Ty}
use Rattle.lt_base.specs.declared.value.Ty.TheVariants as ty
use Rattle.lt_base.specs.declared.value.Value.{Value}
use Rattle.lt_base.specs.declared.value.Value.TheVariants.{Int, Bool}

-- the type of a value
abbrev pub ty_of : Value → Ty
ty_of (Int n) = ty.Int
ty_of (Bool b) = ty.Bool
