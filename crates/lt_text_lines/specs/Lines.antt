-- The lines of refused programs, without their line feeds.
use Rattle.std.specs.Prelude.{ℕ, Option, List, ◌++◌, ◌∷◌, codes, bytes_eq, nat_lt, if◌then◌else◌}
use Rattle.std.specs.List.{flat_map}
use Rattle.std.specs.Fmt.{decimal}
use Rattle.lt_base.specs.declared.program.Sizes.{Sizes}
use Rattle.lt_base.specs.declared.value.Ty.{Ty}
use Rattle.lt_base.specs.Limits.{greatest_weight}
use Rattle.lt_syntax.specs.declared.fault.SyntaxFault.{SyntaxFault}
use Rattle.lt_syntax.specs.declared.tree.NodeText.{NodeText}
use Rattle.lt_resolve.specs.declared.fault.NameFault.{NameFault}
use Rattle.lt_resolve.specs.declared.fault.NameKind.{NameKind}
use Rattle.lt_resolve.specs.declared.fault.NameKind.TheVariants.{NoMain, Limit}
use Rattle.lt_check.specs.declared.typing.TypeFault.{TypeFault}
use Rattle.lt_check.specs.declared.clocking.ClockFault.{ClockFault}
use Rattle.lt_front.specs.declared.fault.ProgramFault.{ProgramFault}
use Rattle.lt_front.specs.declared.fault.ProgramFault.TheVariants as fault
use Rattle.lt_text_values.specs.Names.{function_name, variable_name}
use Rattle.lt_text_values.specs.Clocks.{clock_path_text, clock_place_text}
use Rattle.lt_text_lines.specs.Words.{syntax_kind_text, name_kind_text, found_text}
use Rattle.lt_base.specs.TypeText.{ty_text}

abbrev pub syntax_line : SyntaxFault → List ℕ
syntax_line f = codes "syntax " ++ syntax_kind_text f.kind ++ codes " at byte " ++ decimal f.at

-- the limit of the quantity that has this word
abbrev pub program_limit_line : List ℕ → List ℕ
program_limit_line word = codes "limit: " ++ word ++ (if bytes_eq word (codes "variables") then codes " 4096" else codes " 64")

-- the kind of a fault of names, its function and its name
abbrev pub named_text : NameFault → List NodeText → List ℕ
named_text f t = name_kind_text f.kind ++ codes " in node " ++ function_name t f.func ++ codes ": " ++ f.name

abbrev pub found_name_line : NameFault → List NodeText → List ℕ
found_name_line f t = codes "name " ++ named_text f t

abbrev pub name_line_of : NameKind → NameFault → List NodeText → List ℕ
name_line_of NoMain f t = codes "name 6 NoMain"
name_line_of Limit f t = program_limit_line f.name
name_line_of _ f t = found_name_line f t

abbrev pub name_line : NameFault → List NodeText → List ℕ
name_line f t = name_line_of f.kind f t

-- the type that a variable has, and the one that was found
abbrev pub types_text : Ty → Option Ty → List ℕ
types_text want got = codes " is " ++ ty_text want ++ codes ", found " ++ found_text got

-- a function, its variable that is at fault, and the types
abbrev pub mistyped_text : TypeFault → List NodeText → List ℕ
mistyped_text f t = function_name t f.func ++ codes ": " ++ variable_name t f.func f.var ++ types_text f.want f.got

abbrev pub type_line : TypeFault → List NodeText → List ℕ
type_line f t = codes "type in node " ++ mistyped_text f t

-- the variable that is at fault, and the clock that is wanted
abbrev pub wanted_text : ClockFault → List NodeText → List ℕ
wanted_text f t = codes " of " ++ variable_name t f.func f.var ++ codes " on " ++ clock_path_text t f.func f.want

-- a function, the place of its fault, and the clock
abbrev pub misclocked_text : ClockFault → List NodeText → List ℕ
misclocked_text f t = function_name t f.func ++ codes ": " ++ clock_place_text f.at ++ wanted_text f t

abbrev pub clock_line : ClockFault → List NodeText → List ℕ
clock_line f t = codes "clock in node " ++ misclocked_text f t

-- a space and a name for each of these variables of a function
abbrev pub spaced_variables : List NodeText → ℕ → List ℕ → List ℕ
spaced_variables t func vars = flat_map (λ x. 32 ∷ variable_name t func x) vars

-- a function, and the variables of its cycle
abbrev pub circle_text : ℕ → List ℕ → List NodeText → List ℕ
circle_text func vars t = function_name t func ++ codes ":" ++ spaced_variables t func vars

abbrev pub cycle_line : ℕ → List ℕ → List NodeText → List ℕ
cycle_line func vars t = codes "cycle in node " ++ circle_text func vars t

-- the first of the two sizes that passes its limit
abbrev pub size_line : Sizes → List ℕ
size_line s = if nat_lt greatest_weight s.weight then codes "limit: weight 4096" else codes "limit: parts 262144"

abbrev pub program_line : ProgramFault → List ℕ
program_line (fault.Syntax f) = syntax_line f
program_line (fault.Name f t) = name_line f t
program_line (fault.Type f t) = type_line f t
program_line (fault.Clock f t) = clock_line f t
program_line (fault.Cycle func cycle t) = cycle_line func cycle.vars t
program_line (fault.TooMany s) = size_line s
