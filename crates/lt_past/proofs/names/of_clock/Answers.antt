use Rattle.lt_past.proofs.Places.{not_base}
use Rattle.lt_past.proofs.names.of_clock.Goals as goal

pub returns-else-is_empty : goal.returns-else-is_empty
returns-else-is_empty c = not_base c.args.place c.clock.inside.steps c.args.clock.now c.clock.view_is (λ e. let yes = c.is_empty.ensures.1 e in let no = c.if-is_empty.false in cc)
