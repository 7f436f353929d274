-- Over payloads with their senders' own values the cells of an output are a front of its stream in the whole.
use Rattle.std.proofs.Common.{◌≡◌, ℕ, suc, ◌<◌, List, [], length, min, take, Some, refl, sym, ap, ◌∙◌, subst, arith}
use Rattle.std.specs.Prelude.{slice_get, slice_index_or}
use Rattle.std.proofs.lemmas.List.{get_or-take, length-take}
use Rattle.std.proofs.lemmas.Option.{slice_get-get_or}
use Rattle.lt_base.specs.declared.value.Value.{Value}
use Rattle.lt_base.specs.declared.value.Cell.{Cell}
use Rattle.lt_base.specs.declared.value.Cell.TheVariants.{Absent, Here}
use Rattle.lt_base.specs.Program.{Function}
use Rattle.lt_base.specs.Meaning.{calls, cell, clock_of, here, stream_of}
use Rattle.lt_arch.specs.State.{State}
use Rattle.lt_arch.specs.declared.shape.Shape.{Shape}
use Rattle.lt_arch.specs.Readers.{node_count, to_of}
use Rattle.lt_place.specs.Layout.{PartGives, part_of, crossing_of}
use Rattle.lt_net_bench.specs.Changes.{IsAhead}
use Rattle.lt_net_node.specs.Channels.{HasChannels}
use Rattle.lt_net_node.specs.Layout.{IsLaidOut, crossing_place}
use Rattle.lt_net_node.specs.Local.{Messages, fed_row, firsts, newest, runs}
use Rattle.lt_net_bench.specs.Own.{PayloadsAreOwn, AreFronts}
use Rattle.lt_net_node.specs.Payloads.{payloads_between, row_at, channel_between}
use Rattle.lt_net_bench.specs.Bench.{BenchState}
use Rattle.lt_net_bench.specs.Standing.{HasOwnValues, StandsAt}
use Rattle.lt_net_bench.specs.Track.{track_at}
use Rattle.lt_net_bench.specs.Whole.{CarriesOwn, HasWholeValues, RowsCoverInputs}
use Rattle.lt_net_bench.proofs.Firsts.{get-firsts, length-firsts}
use Rattle.lt_net_bench.proofs.LocalFronts.{fronts, local_stream_same, local_runs_same, stream_firsts}
use Rattle.lt_machine.specs.declared.machine.Machine.{Ghosts as Machines}
use Rattle.lt_arch.specs.declared.controller.Controller.{Ghosts as Controls}

-- a front of the rows gives the same row
front_row : (rows : List (List Value)) (m k : ℕ) → k < m → row_at (take m rows) k ≡ row_at rows k
front_row rows m k h = get_or-take m rows k [] h

pub same_rows_of : (s : Shape) (inputs : ℕ → List (List Value)) (rows : List (List Value)) → AreFronts s inputs rows → (n k : ℕ) → n < node_count s → k < length (inputs n) → row_at (inputs n) k ≡ row_at rows k
same_rows_of s inputs rows are n k b h = ap (λ r. row_at r k) (are.fronts n b) ∙ front_row rows (length (inputs n)) k h

-- an entry of a list of cells that begins so
entry_of : (cells : List Cell) (shown : ℕ → Cell) (m k : ℕ) (w : Value) → take m cells ≡ firsts shown m → shown k ≡ Here w → k < m → slice_get cells k ≡ Some (Here w)
entry_of cells shown m k w front is low =
    let count : min m (length cells) ≡ m = sym (length-take m cells) ∙ ap length front ∙ length-firsts shown m in
    slice_get-get_or cells k Absent (omega (arith, count, low))
    ∙ ap (λ c. Some c) (sym (get_or-take m cells k Absent low) ∙ ap (λ cs. slice_index_or cs k Absent) front ∙ get-firsts shown m k Absent low ∙ is)

module _ {C M : Type 0} (ctl : Controls C) (mch : Machines M) (p : BenchState C M) (st : State) (inputs got : ℕ → List (List Value))
    (f : Function) (placed : IsLaidOut f p.layout) (channels : HasChannels p.layout p.shape) (ahead : IsAhead p.shape st)
    (s : StandsAt ctl mch p st inputs got) (owns : PayloadsAreOwn p.layout p.shape inputs got) (rows : List (List Value)) (fit : RowsCoverInputs f rows) (are : AreFronts p.shape inputs rows) where
  -- the channel of a crossing
  abbrev channel : ℕ → ℕ
  channel c = channel_between p.shape (crossing_of p.layout c).from (crossing_of p.layout c).to

  delivered : (c k : ℕ) → c < length p.layout.cross → suc k < length (inputs (crossing_of p.layout c).to) → k < length (got (channel c))
  delivered c k h e =
      let ch = channel c in
      let there = channels.there c h in
      let low = ahead.data_low ch there (channels.carries c h) in
      let count = s.messages ch there in
      let to = channels.to c h in
      let nodes = channels.nodes in
      let receiver = placed.receivers c h in
      let executed = s.rows (to_of p.shape ch) (omega (arith, to, nodes, receiver)) in
      let same : length (inputs (to_of p.shape ch)) ≡ length (inputs (crossing_of p.layout c).to) = ap (λ j. length (inputs j)) to in
      omega (arith, low, count, executed, same, e)

  carries : CarriesOwn (calls [] 0) p.layout (payloads_between p.shape got) (row_at rows) (λ n. length (inputs n))
  carries = record {
    sent_before = λ c k h e. subst (λ i. k < length (inputs i)) (channels.from c h) (owns.before (channel c) k (channels.there c h) (channels.carries c h) (delivered c k h e));
    own = λ c k x h e gives.
        let l = p.layout in
        let i = (crossing_of l c).from in
        let ch = channel c in
        let b : i < node_count p.shape = omega (arith, placed.senders c h, channels.nodes) in
        let payload : List Value = slice_index_or (got ch) k [] in
        let k_below : k < length (inputs i) = subst (λ j. k < length (inputs j)) (channels.from c h) (owns.before ch k (channels.there c h) (channels.carries c h) (delivered c k h e)) in
        let there : HasOwnValues l p.shape inputs got i (to_of p.shape ch) k payload =
        subst (λ j. HasOwnValues l p.shape inputs got j (to_of p.shape ch) k payload) (channels.from c h) (owns.own ch k (channels.there c h) (channels.carries c h) (delivered c k h e)) in
        ap (λ es. newest es x) (sym (local_runs_same l (payloads_between p.shape got) i (suc k) (row_at (inputs i)) (row_at rows) (λ j jb. same_rows_of p.shape inputs rows are i j b (omega (arith, jb, k_below))) (calls [] 0)))
        ∙ there c x h refl (sym (channels.to c h)) gives;
  }

  pub output_front : (y n x : ℕ) → y < length p.layout.outs → n < length p.layout.nodes → PartGives (part_of p.layout n) (slice_index_or p.layout.outs y 0) x →
      (track_at p.tracks y).cells ≡ take (st.node n).executed (stream_of [] f rows (slice_index_or p.layout.outs y 0))
  output_front y n x yb nb gives =
      let l = p.layout in
      let b : n < node_count p.shape = omega (arith, nb, channels.nodes) in
      let len = length (inputs n) in
      s.ran.cells y n x yb nb gives
      ∙ local_stream_same l (payloads_between p.shape got) n len (row_at (inputs n)) (row_at rows) (λ k h. same_rows_of p.shape inputs rows are n k b h) x
      ∙ fronts f l placed (payloads_between p.shape got) rows (λ n. length (inputs n))
      (λ i ib. are.within i (omega (arith, ib, channels.nodes))) fit carries n x nb (placed.given_declared n (slice_index_or p.layout.outs y 0) x nb gives)
      ∙ ap (λ z. take len (stream_of [] f rows z)) (placed.given_origin n (slice_index_or p.layout.outs y 0) x nb gives)
      ∙ ap (λ z. take z (stream_of [] f rows (slice_index_or p.layout.outs y 0))) (s.rows n b)

  -- a payload with its sender's own values of an instant has the entries of the whole at that instant
  whole_at : (c k : ℕ) (payload : List Value) → c < length p.layout.cross → k < length (inputs (crossing_of p.layout c).from) →
      HasOwnValues p.layout p.shape inputs got (crossing_of p.layout c).from (crossing_of p.layout c).to k payload →
      slice_get (stream_of [] f rows (crossing_of p.layout c).var) k ≡ Some (Here (slice_index_or payload (crossing_place p.layout c) (crossing_of p.layout c).first))
  whole_at c k payload h low own =
      let l = p.layout in
      let n : ℕ = (crossing_of l c).from in
      let v : ℕ = (crossing_of l c).var in
      let x : ℕ = (placed.gives c h).0 in
      let gives : PartGives (part_of l n) v x = (placed.gives c h).1 in
      let w : Value = slice_index_or payload (crossing_place l c) (crossing_of l c).first in
      let pay : Messages = payloads_between p.shape got in
      let nb : n < length l.nodes = placed.senders c h in
      let b : n < node_count p.shape = omega (arith, nb, channels.nodes) in
      let m : ℕ = length (inputs n) in
      let func : Function = (part_of l n).flat.func in
      let fed_rows : ℕ → List Value = λ j. fed_row l pay n (row_at rows j) j in
      let shown : ℕ → Cell = λ j. cell (newest (runs (calls [] 0) func fed_rows (suc j))) (clock_of func.decls x) x in
      let value : newest (runs (calls [] 0) func fed_rows (suc k)) x ≡ Some w =
      ap (λ es. newest es x) (sym (local_runs_same l pay n (suc k) (row_at (inputs n)) (row_at rows) (λ j jb. same_rows_of p.shape inputs rows are n j b (omega (arith, jb, low))) (calls [] 0)))
      ∙ own c x h refl refl gives in
      let is_here : shown k ≡ Here w = ap (λ ck. cell (newest (runs (calls [] 0) func fed_rows (suc k))) ck x) (placed.sent_base c x h gives) ∙ ap here value in
      let front : take m (stream_of [] f rows v) ≡ firsts shown m =
      ap (λ z. take m (stream_of [] f rows z)) (sym (placed.given_origin n v x nb gives))
      ∙ sym (fronts f l placed pay rows (λ i. length (inputs i)) (λ i ib. are.within i (omega (arith, ib, channels.nodes))) fit carries n x nb (placed.given_declared n v x nb gives))
      ∙ stream_firsts [] func fed_rows m x in
      entry_of (stream_of [] f rows v) shown m k w front is_here low

  pub whole_values : (i j k : ℕ) (payload : List Value) → k < length (inputs i) → HasOwnValues p.layout p.shape inputs got i j k payload → HasWholeValues f p.layout rows i j k payload
  whole_values i j k payload low own c h from to =
      whole_at c k payload h (subst (λ z. k < length (inputs z)) (sym from) low)
      (subst (λ z. HasOwnValues p.layout p.shape inputs got z (crossing_of p.layout c).to k payload) (sym from) (subst (λ z. HasOwnValues p.layout p.shape inputs got i z k payload) (sym to) own))
