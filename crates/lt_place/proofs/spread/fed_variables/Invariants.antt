use Rattle.std.proofs.Common.{◌≡◌, ℕ, ◌<◌, false, None, length, get_or}
use Rattle.std.specs.Prelude.{nat_lt, ◌||◌}
use Rattle.std.specs.Option.{is_some}
use Rattle.lt_place.proofs.spread.fed_variables.Given as goal

abbrev pub invariant-loop-x : goal.invariant-loop-x
invariant-loop-x l = record {
  size : length l.fed.items ≡ l.x;
  each : (k : ℕ) → k < l.x → get_or l.fed.items k false ≡ (nat_lt k l.n_in || is_some (get_or l.places k None));
}
