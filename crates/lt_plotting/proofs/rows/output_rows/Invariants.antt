use Rattle.std.proofs.Common.{◌≡◌, ◌≤◌, ℕ, [], map, length, get_or}
use Rattle.std.specs.Prelude.{slice_index_or}
use Rattle.lt_past.specs.Naming.{numbers_below}
use Rattle.lt_plotting.specs.Picture.{output_row}
use Rattle.lt_plotting.proofs.rows.output_rows.Given as goal

-- the rows so far, and the streams that are still there
abbrev pub invariant-outputs : goal.invariant-outputs
invariant-outputs l = record {
  rows : l.rows ≡ map (λ place. output_row l.fn.main place (slice_index_or l.fn.streams place []) (slice_index_or l.lengths place 0)) (numbers_below l.place);
  size : length l.columns.items ≡ length l.fn.streams;
  rest : (i : ℕ) → l.place ≤ i → get_or l.columns.items i [] ≡ get_or l.fn.streams i [];
}
