use Rattle.std.proofs.Common.{◌<◌, length}
use Rattle.lt_base.specs.Meaning.{clock_of}
use Rattle.lt_base.specs.Clocking.{WellFormed}
use Rattle.lt_check.proofs.innermost.is_well_formed.Given as goal

abbrev pub invariant-loop-variable : goal.invariant-loop-variable
invariant-loop-variable l = record {
  inside : l.at < length l.decls;
  forth : WellFormed l.decls (clock_of l.decls l.at) → WellFormed l.decls (clock_of l.decls l.variable);
  back : WellFormed l.decls (clock_of l.decls l.variable) → WellFormed l.decls (clock_of l.decls l.at);
}

abbrev pub decreases-loop-variable : goal.decreases-loop-variable
decreases-loop-variable l = length (clock_of l.decls l.at)
