use Rattle.std.proofs.Common.{◌≡◌, ◌<◌, ℕ, length, get_or}
use Rattle.lt_meaning.proofs.program.variables_of.Given as goal

abbrev pub invariant-loop-x : goal.invariant-loop-x
invariant-loop-x l = record {
  number : length l.variables.items ≡ l.x;
  each : (y : ℕ) → y < l.x → get_or l.variables.items y 0 ≡ y;
}
