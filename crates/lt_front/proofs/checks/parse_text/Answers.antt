use Rattle.std.proofs.Common.{◌≡◌, List, ℕ, Err}
use Rattle.lt_base.specs.declared.memory.Or.{Or}
use Rattle.lt_base.specs.declared.memory.Or.TheVariants.{Fault, Memory}
use Rattle.lt_base.specs.Or.{MapsFault}
use Rattle.lt_syntax.specs.declared.fault.SyntaxFault.{SyntaxFault}
use Rattle.lt_syntax.specs.declared.tree.NodeText.{NodeText}
use Rattle.lt_syntax.specs.Program.{Spells}
use Rattle.lt_syntax.specs.Reads.{AnswersSyntax, FindsTree}
use Rattle.lt_front.specs.declared.fault.ProgramFault.{ProgramFault}
use Rattle.lt_front.specs.declared.fault.ProgramFault.TheVariants as fault
use Rattle.lt_front.specs.Front.{syntax_verdict}
use Rattle.lt_answer.specs.Answered.{Settles}
use Rattle.lt_front.proofs.Lengths.{spelled_few}
use Rattle.lt_front.proofs.Rooms.{room_of}
use Rattle.lt_front.proofs.checks.parse_text.Goals as goal

-- no tree is spelled
no_tree : (bytes : List ℕ) (e : Or SyntaxFault) (e' : Or ProgramFault) → MapsFault e e' (λ f g. g ≡ fault.Syntax f)
    → AnswersSyntax 200 bytes (Err e) → ((t : List NodeText) → Spells 200 bytes t → FindsTree t (Err e)) → Settles (syntax_verdict bytes) (Err e')
no_tree bytes (Fault f) (Fault g) is exact only = rw is (only, exact)
no_tree bytes (Fault f) Memory is exact only = absurd is
no_tree bytes Memory (Fault g) is exact only = absurd is
no_tree bytes Memory Memory is exact only = tt

pub returns-in-Ok-clause-room : goal.returns-in-Ok-clause-room
returns-in-Ok-clause-room c = room_of _ _ c.requires (spelled_few 200 c.args.bytes.now c.in-Ok.tree c.in-Ok.ensures.exact)

pub returns-in-Err-clause-answered : goal.returns-in-Err-clause-answered
returns-in-Err-clause-answered c = no_tree c.args.bytes.now _ _ c.map.ensures c.in-Err.ensures.exact c.in-Err.ensures.only
