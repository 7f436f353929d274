use Rattle.std.proofs.Common.{◌≡◌, length, map, arith}
use Rattle.lt_meaning.specs.Plan.{step_form}
use Rattle.lt_meaning.specs.Taken.{wait_form}
use Rattle.lt_meaning.proofs.planning.start.Goals as goal

pub returns : goal.returns
returns c =
    let cells : length c.loop-variable.cells.items ≡ length c.args.f.now.decls =
    let n = c.loop-variable.invariant in
    let low = c.loop-variable-test.false in
    let high = c.loop-variable.auto._variable-end in
    let all = c.variables-variable-end.ensures in
    omega (arith, n, low, high, all) in
    λ i. record { cells = cells i; steps = map step_form (c.new.ensures.items i); waits = map wait_form (c.new-2.ensures.items i) }
