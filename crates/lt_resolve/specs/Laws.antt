-- What holds of trees, their programs and their faults.
use Rattle.std.specs.Prelude.{◌≡◌, ◌<◌, List, length}
use Rattle.lt_base.specs.Program.{WholeProgram}
use Rattle.lt_syntax.specs.declared.tree.NodeText.{NodeText}
use Rattle.lt_resolve.specs.declared.fault.NameFault.{NameFault}
use Rattle.lt_resolve.specs.Named.{Named}
use Rattle.lt_resolve.specs.Faults.{IsFirstNameFault}

-- the first fault stands in a function of the tree
abbrev pub FaultsStandInside : Type 0
FaultsStandInside = (t : List NodeText) → 0 < length t → (f : NameFault) → IsFirstNameFault t f → f.func < length t

-- a tree names at most one program
abbrev pub OneProgram : Type 0
OneProgram = (t : List NodeText) (p q : WholeProgram) → Named t p → Named t q → p ≡ q
