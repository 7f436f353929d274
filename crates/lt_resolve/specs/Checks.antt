-- What is looked for in one function after another.
use Rattle.std.specs.Prelude.{◌≡◌, ℕ, Option, length, codes}
use Rattle.lt_base.specs.declared.memory.Or.{Or}
use Rattle.lt_base.specs.declared.memory.Or.TheVariants.{Fault, Memory}
use Rattle.std.specs.Borrow.{Bor}
use Rattle.lt_syntax.specs.declared.tree.NodeText.{NodeText}
use Rattle.lt_resolve.specs.declared.fault.NameKind.{NameKind}
use Rattle.lt_resolve.specs.declared.fault.NameKind.TheVariants as kind
use Rattle.lt_resolve.specs.declared.fault.NameFault.{NameFault}
use Rattle.lt_resolve.specs.declared.checks.Check.{Check}
use Rattle.lt_resolve.specs.declared.checks.Check.TheVariants.{NoEquation, TwoEquations, EquationForInput, Inputs, Outputs}
use Rattle.lt_resolve.specs.Names.{Name}
use Rattle.lt_resolve.specs.Uses.{Site}
use Rattle.lt_resolve.specs.Faults.{no_equation_in, two_equations_in, input_equation_in, above, size}

-- what a check finds in a function
abbrev pub found : Check → NodeText → Option Name
found NoEquation n = no_equation_in n
found TwoEquations n = two_equations_in n
found EquationForInput n = input_equation_in n
found Inputs n = above 64 (length n.ins) (codes "inputs")
found Outputs n = above 64 (length n.outs) (codes "outputs")

-- the word of variables, where a function has too many of them and of delays
abbrev pub variables_limit : NodeText → Option Name
variables_limit n = above 4096 (size n) (codes "variables")

-- the kind of fault that it shows
abbrev pub check_kind : Check → NameKind
check_kind NoEquation = kind.NoEquation
check_kind TwoEquations = kind.TwoEquations
check_kind EquationForInput = kind.EquationForInput
check_kind Inputs = kind.Limit
check_kind Outputs = kind.Limit

-- the check is of a kind of its own
abbrev pub IsWhole : Check → Type 0
IsWhole Inputs = ⊥
IsWhole Outputs = ⊥
IsWhole _ = Unit {0}

-- the check looks at names and lengths that are there already, without a table of its own
abbrev pub NeedsNoTable : Check → Type 0
NeedsNoTable NoEquation = ⊥
NeedsNoTable TwoEquations = ⊥
NeedsNoTable _ = Unit {0}

-- the name's fault, or memory was wanting
abbrev pub Locates : NameKind → ℕ → Or (Bor Name) → Or NameFault → Type 0
Locates kind i (Fault x) (Fault f) = (f.kind ≡ kind) × (f.func ≡ i) × (f.name ≡ x.now)
Locates kind i Memory (Fault f) = ⊥
Locates kind i e Memory = Unit {0}

-- the fault of a call, or memory was wanting
abbrev pub ShowsSite : NameKind → Site → Or NameFault → Type 0
ShowsSite kind s (Fault f) = (f.kind ≡ kind) × (f.func ≡ s.caller) × (f.name ≡ s.name)
ShowsSite kind s Memory = Unit {0}
