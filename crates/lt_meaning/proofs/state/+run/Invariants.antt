use Rattle.lt_meaning.specs.declared.state.State.{out-State}
use Rattle.lt_meaning.proofs.Instant.{Along}
use Rattle.lt_meaning.proofs.state.+run.Given as goal

abbrev pub invariant-run-loop-i : goal.invariant-run-loop-i
invariant-run-loop-i l = record {
  unvisited : goal.unvisited-run-loop-i l;
  along : Along l.plans l.g l.fn.state (out-State l.state) l.i;
}
