use Rattle.lt_syntax.proofs.Declares.{declare_more}
use Rattle.lt_syntax.proofs.header.declare.Goals as goal

pub loop-name-preserved : goal.loop-name-preserved
loop-name-preserved c = declare_more c.args.decls.now c.loop-name.decls c.push.new.self c.loop-name.yielded c.in-Some.name c.args.ty c.args.clock.now c.in_ok-clock.clock c.loop-name.invariant c.in_ok-clock.ensures c.in_ok-push.ensures.ok
