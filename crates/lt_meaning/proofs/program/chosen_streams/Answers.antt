use Rattle.std.proofs.Common.{List, sym, subst}
use Rattle.lt_base.specs.declared.value.Cell.{Cell}
use Rattle.lt_meaning.specs.declared.plan.Plan.{Plan}
use Rattle.lt_meaning.specs.Ready.{ArePlans}
use Rattle.lt_meaning.specs.Streams.{HasStreamsOf}
use Rattle.lt_meaning.proofs.program.chosen_streams.Goals as goal

pub is_too_many-requires : goal.is_too_many-requires
is_too_many-requires c = c.requires.checked

pub plans_of-requires-clause-checked : goal.plans_of-requires-clause-checked
plans_of-requires-clause-checked c = c.requires.checked

pub plans_of-requires-clause-room : goal.plans_of-requires-clause-room
plans_of-requires-clause-room c = c.requires.room

pub columns_of-requires-clause-plans : goal.columns_of-requires-clause-plans
columns_of-requires-clause-plans c = subst (λ (l : List Plan). ArePlans c.args.p.now l) (sym c.deref.ensures.value) c.in_ok-plans.ensures

pub columns_of-requires-clause-fit : goal.columns_of-requires-clause-fit
columns_of-requires-clause-fit c = c.requires.fit

pub columns_of-requires-clause-variables : goal.columns_of-requires-clause-variables
columns_of-requires-clause-variables c = c.requires.variables

pub returns-clause-value : goal.returns-clause-value
returns-clause-value c = subst (λ (s : List (List Cell)). HasStreamsOf c.args.p.now c.args.inputs.now.rows c.args.variables.now s) (sym c.of.ensures) c.in_ok-columns.ensures

pub returns-clause-limit : goal.returns-clause-limit
returns-clause-limit c = c.in_ok-too_many.ensures.most c.if-too_many.false

pub returns-then-too_many-clause-limit : goal.returns-then-too_many-clause-limit
returns-then-too_many-clause-limit c = c.in_ok-too_many.ensures.more c.if-too_many.true
