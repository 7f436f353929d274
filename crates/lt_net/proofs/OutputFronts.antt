-- A net's cells are fronts of the streams of the whole.
use Rattle.std.proofs.Common.{◌≡◌, ℕ, ◌<◌, List, length}
use Rattle.lt_base.specs.declared.value.Value.{Value}
use Rattle.lt_arch.specs.Readers.{node_count}
use Rattle.lt_net_node.specs.Payloads.{row_at}
use Rattle.lt_net_bench.proofs.OutputFronts.{output_front, whole_values, same_rows_of as same_rows_at}
use Rattle.lt_net.specs.Net.{TimedBenchState, Lists, bench_of, reached_state}
use Rattle.lt_net.specs.Chain.{SameInputs, CellsAreFronts, PayloadsAreWhole}
use Rattle.lt_net.proofs.Activations.{ahead_of}

pub same_rows_of : {C M : Type 0} (net : TimedBenchState C M) (ls : Lists) (rows : List (List Value)) → SameInputs net ls rows → (n k : ℕ) → n < node_count net.shape → k < length (ls.inputs n) → row_at (ls.inputs n) k ≡ row_at rows k
same_rows_of net ls rows inputs = same_rows_at net.shape ls.inputs rows inputs

pub cells_are_fronts : CellsAreFronts
cells_are_fronts C M ctl mch net ls f placed channels one_place s owns rows fit inputs =
    output_front ctl mch (bench_of net) (reached_state net ls) ls.inputs ls.got f placed channels (ahead_of net.shape (reached_state net ls) (one_place ls.events s.timely s.clean)) s.bench owns rows fit inputs

pub payloads_are_whole : PayloadsAreWhole
payloads_are_whole C M ctl mch net ls f placed channels one_place s owns rows fit inputs =
    whole_values ctl mch (bench_of net) (reached_state net ls) ls.inputs ls.got f placed channels (ahead_of net.shape (reached_state net ls) (one_place ls.events s.timely s.clean)) s.bench owns rows fit inputs
