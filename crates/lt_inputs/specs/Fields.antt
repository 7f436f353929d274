-- What a field of a table reads as.
use Rattle.std.specs.Prelude.{ℕ, ◌-◌, ◌^◌, ◌==◌, Bool, true, false, List, [], ◌∷◌, Option, Some, None, option_map, if◌then◌else◌, ℤ, pos, neg_ℤ, codes}
use Rattle.std.specs.Str.{bytes_eq}
use Rattle.lt_base.specs.declared.value.Ty.{Ty}
use Rattle.lt_base.specs.declared.value.Ty.TheVariants as ty
use Rattle.lt_base.specs.declared.value.Value.{Value}
use Rattle.lt_base.specs.declared.value.Value.TheVariants.{Int, Bool as Truth}
use Rattle.lt_base.specs.Digits.{number_of, up_to}

-- the int of an optional minus and digits, within 64 bits
abbrev pub int_of : List ℕ → Option ℤ
int_of [] = None
int_of (c ∷ cs) =
    if c == 45 then option_map (λ n. neg_ℤ (pos n)) (up_to (2 ^ 63) (number_of cs))
    else option_map pos (up_to (2 ^ 63 - 1) (number_of (c ∷ cs)))

-- the truth value of its word
abbrev pub bool_of : List ℕ → Option Bool
bool_of field = if bytes_eq field (codes "true") then Some true else if bytes_eq field (codes "false") then Some false else None

-- the value of a type
abbrev pub field_value : Ty → List ℕ → Option Value
field_value ty.Int field = option_map Int (int_of field)
field_value ty.Bool field = option_map Truth (bool_of field)
