use Rattle.std.proofs.Common.{sym, inl, inr}
use Rattle.lt_cli.proofs.Drawn.{recorded_ends, refusal_ends, drawn_short}
use Rattle.lt_cli.proofs.commands.sim.draw_loaded.Goals as goal

pub returns-in-Some-clause-reported : goal.returns-in-Some-clause-reported
returns-in-Some-clause-reported g c =
    recorded_ends c.args.loaded.now c.args.seed c.args.horizon _ _ _ c.print_drawn.result c.in-Some.status c.print_drawn.ensures.records c.print_drawn.ensures.keeps (sym c.in-Some.ensures)

pub returns-in-Some-clause-short : goal.returns-in-Some-clause-short
returns-in-Some-clause-short g c = λ at. inl (c.print_drawn.ensures.short (drawn_short c.print_drawn.result c.in-Some.status (sym c.in-Some.ensures) at))

pub returns-in-None-clause-reported : goal.returns-in-None-clause-reported
returns-in-None-clause-reported g c =
    refusal_ends c.args.loaded.now c.args.seed c.args.horizon _ _ _ c.print_drawn.result _ c.too_many.result c.refuse.result c.print_drawn.ensures.records (sym c.in-None.ensures) c.too_many.ensures c.refuse.ensures.written

pub returns-in-None-clause-short : goal.returns-in-None-clause-short
returns-in-None-clause-short g c = λ at. inr (c.refuse.ensures.short at)

pub returns-in-Some-clause-shown : goal.returns-in-Some-clause-shown
returns-in-Some-clause-shown g c = c.print_drawn.ensures.shown

pub returns-in-None-clause-shown : goal.returns-in-None-clause-shown
returns-in-None-clause-shown g c = c.print_drawn.ensures.shown
