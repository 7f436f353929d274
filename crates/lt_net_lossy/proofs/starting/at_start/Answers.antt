use Rattle.std.proofs.Common.{◌≡◌, sym, subst}
use Rattle.lt_net_bench.specs.Initial.{IsInitial}
use Rattle.lt_net_lossy.proofs.StartedLossy.{if_ok_too}
use Rattle.lt_net_lossy.proofs.starting.at_start.Goals as goal

pub returns-in-Ok-clause-initial : goal.returns-in-Ok-clause-initial
returns-in-Ok-clause-initial c = if_ok_too (λ first. first.initial ≡ c.in-Ok.initial) _ (λ first is. subst (IsInitial c.args.layout.now c.args.shape.now c.args.rows) (sym is) c.in-Ok.ensures) c.with_initial.result c.with_initial.ensures.initial
