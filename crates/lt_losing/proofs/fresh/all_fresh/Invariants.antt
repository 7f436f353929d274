use Rattle.std.proofs.Common.{◌≡◌}
use Rattle.lt_losing.specs.Held.{all_heard}
use Rattle.lt_losing.proofs.fresh.all_fresh.Given as goal

abbrev pub invariant-loop-c : goal.invariant-loop-c
invariant-loop-c l = l.all ≡ all_heard l.channels l.newest l.node l.executed l.data_kind l.c
