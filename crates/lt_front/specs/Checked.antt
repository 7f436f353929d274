-- A program that passed all checks, with its flat form.
use Rattle.std.specs.Prelude.{◌≡◌, ℕ, List, Ok, Err}
use Rattle.std.proofs.Common.{refl}
use Rattle.std.specs.Coded.{Coded, code_by, coded×, coded_list}
use Rattle.lt_base.specs.Program.{WholeProgram, coded_program}
use Rattle.lt_syntax.specs.declared.tree.NodeText.{NodeText}
use Rattle.lt_syntax.specs.contracts.tree.NodeText.{the_row as node_row}
use Rattle.lt_norm.specs.Flat.{Originated, coded_originated}
use Rattle.lt_answer.specs.Answered.{Verdict}
use Rattle.lt_front.specs.declared.fault.ProgramFault.{ProgramFault}
use Rattle.lt_front.specs.Examined.{ExaminedText, IsExamined}
use Rattle.lt_front.specs.Flattened.{flat_of, KeepsMain}
use Rattle.lt_front.specs.Front.{examine_verdict}

-- the tree of a text, the program that it names, and a flat form
pub record CheckedText : Type 0 where
  pub tree : List NodeText
  pub program : WholeProgram
  pub flat : Originated

abbrev pub coded_checked : Coded CheckedText
coded_checked =
    code_by (List NodeText × (WholeProgram × Originated)) (coded× (coded_list node_row.coded) (coded× coded_program coded_originated)) (λ c. (c.tree, (c.program, c.flat)))
    (λ p. record { tree = p.0; program = p.1.0; flat = p.1.1 }) (λ _. refl)

-- the tree and the program without the flat form
abbrev pub examined_part : CheckedText → ExaminedText
examined_part c = record { tree = c.tree; program = c.program }

-- the program passed all checks, and its flat form keeps what its main function does
pub record IsChecked (c : CheckedText) : Type 0 where
  pub examined : IsExamined (examined_part c)
  pub flat : c.flat ≡ flat_of c.program
  pub keeps : KeepsMain c.program c.flat

-- the verdict of the checks, and of what passes them the flat form
abbrev pub front_verdict : List ℕ → Verdict CheckedText ProgramFault
front_verdict bytes (Ok c) = examine_verdict bytes (Ok (examined_part c)) × (c.flat ≡ flat_of c.program)
front_verdict bytes (Err e) = examine_verdict bytes (Err e)
