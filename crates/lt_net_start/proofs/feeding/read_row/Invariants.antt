use Rattle.std.proofs.Common.{◌≡◌, ◌<◌, ℕ, [], length, get_or}
use Rattle.lt_base.specs.declared.value.Value.{Value}
use Rattle.lt_net_start.proofs.feeding.read_row.Given as goal

abbrev pub invariant-loop-input : goal.invariant-loop-input
invariant-loop-input l =
    (length l.row.items ≡ l.width) × ((i : ℕ) (d : Value) → i < l.input → get_or l.row.items i d ≡ get_or (get_or l.inputs.rows l.instant []) i d)
