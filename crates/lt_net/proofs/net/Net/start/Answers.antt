use Rattle.lt_net.proofs.Fitting.{given_by}
use Rattle.lt_net.proofs.Opening.{opened_by}
use Rattle.lt_net.proofs.net.Net.start.Goals as goal

pub returns-clause-opened : goal.returns-clause-opened
returns-clause-opened g c =
    opened_by g.C.Controller g.M.Machine c.args.layout c.args.shape c.args.timing c.args.rows c.args.machines.items c.args.controllers.items c.in_ok-bench.bench c.in_ok-bench.ensures.made c.in_ok-bench.ensures.fresh

pub returns-clause-given : goal.returns-clause-given
returns-clause-given g c = λ f inputs placed fit count.
    given_by f c.args.layout placed inputs fit c.args.shape c.args.timing c.args.rows c.args.machines.items c.args.controllers.items c.in_ok-bench.bench c.in_ok-bench.ensures.made c.requires.shape c.requires.one_place count c.in_ok-bench.ensures.kept.sized.executed
