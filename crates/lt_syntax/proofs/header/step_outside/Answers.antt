use Rattle.std.proofs.Common.{[], subst}
use Rattle.lt_syntax.specs.Machine as machine
use Rattle.lt_syntax.specs.Parser as parser
use Rattle.lt_syntax.specs.Phases.{parser_phase_of, state_of, Proceeds}
use Rattle.lt_syntax.specs.Views.{mode_of, stack_of}
use Rattle.lt_syntax.proofs.Declares.{not_in, elsewhere}
use Rattle.lt_syntax.proofs.header.step_outside.Goals as goal

pub move_on-requires : goal.move_on-requires
move_on-requires c = not_in c.replace.result c.args.p.now.phase c.replace.ensures.value c.requires

pub returns-in_default : goal.returns-in_default
returns-in_default c =
    let p = c.args.p.now in
    let fs = stack_of p.frames.items in
    let m = mode_of p.mode in
    let next = parser.move 200 (parser_phase_of c.replace.result [] machine.Want) c.args.t in
    let stepped = elsewhere c.replace.result fs m (not_in c.replace.result p.phase c.replace.ensures.value c.requires) c.in_default.not-Body p.nodes c.args.t in
    let goes = Proceeds c.move_to.result (state_of c.move_to.new.p) in
    subst (λ q. goes (parser.step_on 200 p.nodes (parser_phase_of q fs m) c.args.t)) c.replace.ensures.value (subst goes stepped (c.move_to.ensures.proceeds next c.move_on.ensures))
