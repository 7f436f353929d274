-- What is right of single steps of the checks.
use Rattle.std.specs.Prelude.{◌≡◌, List, Ok, Err}
use Rattle.lt_syntax.specs.declared.tree.NodeText.{NodeText}
use Rattle.lt_answer.specs.Answered.{Verdict}
use Rattle.lt_front.specs.declared.named.Named.{Named}
use Rattle.lt_front.specs.declared.fault.ProgramFault.{ProgramFault}
use Rattle.lt_front.specs.Front.{name_verdict}

-- the tree beside the program that it names, or what its names are refused by
abbrev pub named_verdict : List NodeText → Verdict Named ProgramFault
named_verdict t (Ok n) = name_verdict t (Ok n.program) × (n.tree ≡ t)
named_verdict t (Err e) = name_verdict t (Err e)

-- the same tree and program where a rule of them holds, or a fault of it where it does not
abbrev pub HandsOn : Named → Type 0 → (ProgramFault → Type 0) → Verdict Named ProgramFault
HandsOn n Rule IsFault (Ok passed) = Rule × (passed ≡ n)
HandsOn n Rule IsFault (Err e) = (Rule → ⊥) × IsFault e
