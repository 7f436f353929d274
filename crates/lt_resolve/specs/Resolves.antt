-- What the program of a tree is, or which fault refuses the tree.
use Rattle.std.specs.Prelude.{◌≤◌, ◌+◌, List, length, Result, Ok, Err}
use Rattle.std.specs.List.{All, sum_by}
use Rattle.lt_base.specs.Program.{Function, WholeProgram}
use Rattle.lt_base.specs.Checked.{NamedProgram}
use Rattle.lt_base.specs.Sizes.{cost}
use Rattle.lt_syntax.specs.declared.tree.NodeText.{NodeText}
use Rattle.lt_resolve.specs.declared.fault.NameFault.{NameFault}
use Rattle.lt_resolve.specs.Named.{Named}
use Rattle.lt_resolve.specs.Faults.{NoNameFault, IsFirstNameFault}

-- a function within the limits: on its variables and delays, on its inputs and on its outputs
pub record IsSmallFunction (f : Function) : Type 0 where
  pub variables : length f.decls + sum_by (λ e. cost 1 (λ _. 0) e.1) f.eqs ≤ 4096
  pub inputs : f.n_in ≤ 64
  pub outputs : length f.outs ≤ 64

-- the program of a tree without a fault
pub record IsResolved (t : List NodeText) (p : WholeProgram) : Type 0 where
  pub faultless : NoNameFault t
  pub named : Named t p
  pub checked : NamedProgram p
  pub functions : length p.funcs ≤ 64
  pub small : All IsSmallFunction p.funcs

-- the program of the tree where there is no fault, and else the first fault
abbrev pub Resolves : List NodeText → Result WholeProgram NameFault → Type 0
Resolves t (Ok p) = IsResolved t p
Resolves t (Err f) = IsFirstNameFault t f
