use Rattle.std.proofs.Common.{◌≡◌, take}
use Rattle.std.specs.List.{sum_by}
use Rattle.lt_base.specs.Expression.{shape}
use Rattle.lt_base.specs.Sizes.{cost, cut}
use Rattle.lt_check.specs.Shares.{nothing}
use Rattle.lt_check.proofs.sizing.+delays.Given as goal

abbrev pub invariant-all_delays-arguments : goal.invariant-all_delays-arguments
invariant-all_delays-arguments l = l.sum ≡ cut (sum_by (λ e. cost 1 nothing (shape e)) (take l.a-index l.args))
