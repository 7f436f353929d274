use Rattle.std.proofs.Common.{◌≡◌, ◌^◌, ◌-◌, min, take}
use Rattle.std.specs.List.{sum_by}
use Rattle.lt_syntax.specs.Views.{tm_of}
use Rattle.lt_resolve.specs.Uses.{term_delays}
use Rattle.lt_resolve.proofs.delays.+delays.Given as goal

abbrev pub invariant-argument_delays-arguments : goal.invariant-argument_delays-arguments
invariant-argument_delays-arguments l = l.sum ≡ min (sum_by (λ a. term_delays (tm_of a)) (take l.a-index l.args)) (2 ^ 64 - 1)
