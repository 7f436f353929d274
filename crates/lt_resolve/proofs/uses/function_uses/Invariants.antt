use Rattle.std.proofs.Common.{◌≡◌, ◌++◌, take, drop}
use Rattle.lt_resolve.specs.Uses.{equation_sites, all_delays}
use Rattle.lt_resolve.proofs.uses.function_uses.Given as goal

abbrev pub invariant-eqs : goal.invariant-eqs
invariant-eqs l = record {
  sites : l.uses.calls.items ++ equation_sites l.functions l.caller (drop l.eq-index l.eq-items) ≡ l.initial.uses.calls.items ++ equation_sites l.functions l.caller l.eq-items;
  sum : l.sum ≡ all_delays (take l.eq-index l.eq-items);
  kept : l.uses.delays.items ≡ l.initial.uses.delays.items;
}
