use Rattle.std.proofs.Common.{◌≡◌, ◌++◌, ap, ◌∙◌, arith}
use Rattle.lt_plot.specs.Pieces.{pieces_from}
use Rattle.lt_plot.specs.Around.{plot_tick, plot_ticks}
use Rattle.lt_plot.proofs.Growing.{one_more}
use Rattle.lt_plot.proofs.axis.ticks.Goals as goal

pub loop-place-preserved : goal.loop-place-preserved
loop-place-preserved c = one_more (plot_tick c.args.chart.now c.args.bottom c.args.step) c.args.chart.now.first c.loop-place.place c.args.out.now c.loop-place.out c.tick.new.out c.loop-place.invariant c.in_ok-tick.ensures

pub returns : goal.returns
unfolding plot_ticks
returns c =
    let chart = c.args.chart.now in
    let all : c.loop-place.place ≡ chart.count = omega arith in
    c.loop-place.invariant ∙ ap (λ n. c.args.out.now ++ pieces_from (plot_tick chart c.args.bottom c.args.step) chart.first n) all
