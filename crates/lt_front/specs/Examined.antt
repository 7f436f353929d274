-- A program that passed all checks.
use Rattle.std.specs.Prelude.{◌<◌, ◌^◌, List, length}
use Rattle.std.proofs.Common.{refl}
use Rattle.std.specs.List.{All}
use Rattle.std.specs.Coded.{Coded, code_by, coded×, coded_list}
use Rattle.lt_base.specs.Program.{WholeProgram, coded_program}
use Rattle.lt_base.specs.Checked.{CheckedProgram}
use Rattle.lt_syntax.specs.declared.tree.NodeText.{NodeText}
use Rattle.lt_syntax.specs.contracts.tree.NodeText.{the_row as node_row}
use Rattle.lt_resolve.specs.Resolves.{IsResolved}
use Rattle.lt_expand.specs.Expansion.{WithinLimits}

-- the tree of a text, and the program that it names
pub record ExaminedText : Type 0 where
  pub tree : List NodeText
  pub program : WholeProgram

abbrev pub coded_examined : Coded ExaminedText
coded_examined = code_by (List NodeText × WholeProgram) (coded× (coded_list node_row.coded) coded_program) (λ c. (c.tree, c.program)) (λ p. record { tree = p.0; program = p.1 }) (λ _. refl)

-- the functions of a tree, and the equations of each, are numbered in 32 bits
pub record TreeNumbersFit (t : List NodeText) : Type 0 where
  pub functions : length t < 2 ^ 32
  pub equations : All (λ n. length n.eqs < 2 ^ 32) t

-- what a checked program keeps: the program is the tree's, the checks of names, types, clocks and causality hold, and it is not too large
pub record IsExamined (c : ExaminedText) : Type 0 where
  pub room : TreeNumbersFit c.tree
  pub resolved : IsResolved c.tree c.program
  pub checked : CheckedProgram c.program
  pub within : WithinLimits c.program
