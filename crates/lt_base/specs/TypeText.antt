-- The words for types.
use Rattle.std.specs.Prelude.{ℕ, List, codes}
use Rattle.lt_base.specs.declared.value.Ty.{Ty}
use Rattle.lt_base.specs.declared.value.Ty.TheVariants as ty

abbrev pub ty_text : Ty → List ℕ
ty_text ty.Int = codes "int"
ty_text ty.Bool = codes "bool"
