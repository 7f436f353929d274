use Rattle.std.proofs.Common.{◌≡◌, ◌<◌, ℕ, Some, length}
use Rattle.std.specs.Prelude.{slice_get}
use Rattle.lt_base.specs.Inputs.{entry_at}
use Rattle.lt_meaning.proofs.program.load.Given as goal

abbrev pub invariant-loop-x : goal.invariant-loop-x
invariant-loop-x l = record {
  size : length l.cells.items ≡ length l.fn.cells.items;
  row : (x : ℕ) → x < l.x → slice_get l.cells.items x ≡ Some (entry_at l.inputs.rows l.k x);
}
