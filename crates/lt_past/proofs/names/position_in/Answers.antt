use Rattle.std.proofs.Common.{arith}
use Rattle.std.specs.Prelude.{◌==◌}
use Rattle.lt_past.proofs.Places.{found_at, not_found}
use Rattle.lt_past.proofs.names.position_in.Goals as goal

pub returns-then-outs-k-clause-value : goal.returns-then-outs-k-clause-value
returns-then-outs-k-clause-value c = found_at (λ z. z == c.args.place) c.args.outs.now c.outs.k c.outs-test.true c.outs.invariant (grind arith)

pub returns-clause-value : goal.returns-clause-value
returns-clause-value c = not_found (λ z. z == c.args.place) c.args.outs.now (λ k h. c.outs.invariant k (omega arith))
