-- The words for what a fault speaks of.
use Rattle.std.specs.Prelude.{ℕ, List, Option, Some, None, codes}
use Rattle.lt_base.specs.declared.value.Ty.{Ty}
use Rattle.lt_base.specs.declared.value.Ty.TheVariants as ty
use Rattle.lt_syntax.specs.declared.fault.SyntaxKind.{SyntaxKind}
use Rattle.lt_syntax.specs.declared.fault.SyntaxKind.TheVariants.{BadByte, BadNumber, Unexpected, TooDeep}
use Rattle.lt_resolve.specs.declared.fault.NameKind.{NameKind}
use Rattle.lt_resolve.specs.declared.fault.NameKind.TheVariants.{Twice, Unknown, NoEquation, TwoEquations, EquationForInput, NoMain, WrongCount, NotOneOutput, Recursive, Limit}
use Rattle.lt_base.specs.TypeText.{ty_text}

-- a kind's number and name
abbrev pub syntax_kind_text : SyntaxKind → List ℕ
syntax_kind_text BadByte = codes "1 BadByte"
syntax_kind_text BadNumber = codes "2 BadNumber"
syntax_kind_text Unexpected = codes "3 Unexpected"
syntax_kind_text TooDeep = codes "4 TooDeep"

-- a kind's number and name
abbrev pub name_kind_text : NameKind → List ℕ
name_kind_text Twice = codes "1 Twice"
name_kind_text Unknown = codes "2 Unknown"
name_kind_text NoEquation = codes "3 NoEquation"
name_kind_text TwoEquations = codes "4 TwoEquations"
name_kind_text EquationForInput = codes "5 EquationForInput"
name_kind_text NoMain = codes "6 NoMain"
name_kind_text WrongCount = codes "7 WrongCount"
name_kind_text NotOneOutput = codes "8 NotOneOutput"
name_kind_text Recursive = codes "9 Recursive"
name_kind_text Limit = codes "10 Limit"

-- a type that was found, or none
abbrev pub found_text : Option Ty → List ℕ
found_text (Some t) = ty_text t
found_text None = codes "no type"
