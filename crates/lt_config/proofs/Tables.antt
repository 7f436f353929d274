-- The entries of a table, counted.
use Rattle.std.proofs.Common.{◌≡◌, List, [], ◌∷◌, length, refl, arith, String, Global}
use Rattle.toml.specs.View.{members_view}
use Rattle.toml.specs.declared.value.Value.{Value}
use Rattle.lt_config.specs.Values.{count_members}

pub count_view : (es : List (String Global × Value)) → count_members (members_view es) ≡ length es
count_view [] = refl
count_view (e ∷ es) = omega (arith, count_view es)
