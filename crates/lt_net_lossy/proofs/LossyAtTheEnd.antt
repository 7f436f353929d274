-- What a net at the end of a schedule over links that lose messages has, in the architecture's words.
use Rattle.std.proofs.Common.{◌≡◌, ℕ, ◌+◌, ◌<◌, List, [], ◌∷◌, length, map, take, Option, Some, None, IsTrue, refl, sym, ap, ◌∙◌, subst, arith}
use Rattle.std.specs.Prelude.{slice_get, slice_index_or, is_some, if◌then◌else◌}
use Rattle.std.proofs.lemmas.List.{get_or-map, length-map}
use Rattle.std.proofs.lemmas.Option.{slice_get_within}
use Rattle.lt_base.specs.declared.value.Value.{Value}
use Rattle.lt_base.specs.declared.value.Cell.{Cell}
use Rattle.lt_base.specs.Meaning.{calls, stream_of}
use Rattle.lt_arch.specs.declared.event.Offence.TheVariants.{NoEnd}
use Rattle.lt_arch.specs.declared.shape.Shape.{Shape}
use Rattle.lt_arch.specs.declared.timing.Timing.{Timing}
use Rattle.lt_arch.specs.Readers.{node_count, chan_count, from_of, to_of}
use Rattle.lt_io.specs.FabricState.{FabricState}
use Rattle.lt_place.specs.Layout.{part_of}
use Rattle.lt_lossy.specs.declared.event.LossyEvent.{LossyEvent}
use Rattle.lt_lossy.specs.declared.event.LossyOffence.{LossyOffence}
use Rattle.lt_lossy.specs.declared.event.LossyOffence.TheVariants.{Common}
use Rattle.lt_lossy.specs.State.{LossyState, lossy_start}
use Rattle.lt_lossy.specs.Step.{lossy_after}
use Rattle.lt_lossy.specs.Schedule.{lossy_reached, lossy_after_all, HasNoLossyOffence, IsLossyAdmissible, first_lossy_offence_from, numbered_lossy_or, missing_lossy_end}
use Rattle.lt_lossy.proofs.Pace.{law as least_length}
use Rattle.lt_net_bench.specs.Track.{TrackState, track_at}
use Rattle.lt_net_node.specs.Local.{fed_row, firsts, local_stream, local_value}
use Rattle.lt_net_bench.specs.Own.{PayloadsAreOwn}
use Rattle.lt_net_node.specs.Payloads.{payloads_between, row_at}
use Rattle.lt_net_bench.specs.Standing.{HasOwnValues}
use Rattle.lt_net_bench.proofs.Firsts.{firsts-same}
use Rattle.lt_net_bench.proofs.Fitting.{has_inputs}
use Rattle.lt_net_bench.proofs.LaidOut.{laid_out}
use Rattle.lt_net_bench.proofs.LocalFronts.{local_stream_same}
use Rattle.lt_net_bench.proofs.OutputFronts.{same_rows_of}
use Rattle.lt_net_lossy.specs.Net.{LossyBenchState, LossyLists, lossy_state_of}
use Rattle.lt_net_lossy.specs.Holds.{AreSent, OwnOn}
use Rattle.lt_net_lossy.specs.Kept.{IsFixedLossy, HasLossySizes}
use Rattle.lt_net_lossy.proofs.Fronts.{law-fronts}
use Rattle.lt_net_lossy.proofs.Transit.{sent_mapped}
use Rattle.lt_net.specs.declared.replayed.Replayed.{Replayed}
use Rattle.lt_net_lossy.specs.Rules.{lossy_unended}
use Rattle.lt_net_lossy.specs.Told.{IsToldLossy, messages_of}
use Rattle.lt_net_lossy.specs.LossyRun.{executed_in, rows_in, IsOwnOn, HasLossySteps}
use Rattle.lt_net_lossy.specs.LossyReplays.{IsLossyReplay}
use Rattle.lt_net_lossy.specs.LossyPlays.{IsOwnSoFar, KeepsLossy, IsTakenFrom}
use Rattle.lt_machine.specs.declared.machine.Machine.{Ghosts as Machines}
use Rattle.lt_arch.specs.declared.controller.Controller.{Ghosts as Controls}

-- events without an offence, and with an end, are admissible

first_none : (s : Shape) (t : Timing) (limit rows : ℕ) (st : LossyState) (number : ℕ) (es : List LossyEvent) → HasNoLossyOffence s t limit rows st es →
    first_lossy_offence_from s t limit rows st number es ≡ missing_lossy_end (lossy_after_all s t rows st es) (number + length es)
first_none s t limit rows st number [] free = ap (missing_lossy_end st) (omega arith)
first_none s t limit rows st number (e ∷ es) free =
    ap (λ z. numbered_lossy_or number z (first_lossy_offence_from s t limit rows (lossy_after s t rows st e) (number + 1) es)) free.0
    ∙ first_none s t limit rows (lossy_after s t rows st e) (number + 1) es free.1
    ∙ ap (missing_lossy_end (lossy_after_all s t rows (lossy_after s t rows st e) es)) (omega arith)

ended_at : (horizon : Option ℕ) → Path (Option LossyOffence) (if is_some horizon then None else Some (Common NoEnd)) None → (h : ℕ) × (horizon ≡ Some h)
ended_at None is = absurd (cc)
ended_at (Some h) is = (h, refl)

-- a list of which nothing is missing ends at a horizon
pub stopped_at : (st : LossyState) → lossy_unended st ≡ None → (h : ℕ) × (st.horizon ≡ Some h)
stopped_at st none = ended_at st.horizon none

admissible_by : (s : Shape) (t : Timing) (limit rows : ℕ) (es : List LossyEvent) (h : ℕ) → HasNoLossyOffence s t limit rows lossy_start es → (lossy_reached s t rows es).horizon ≡ Some h → IsLossyAdmissible s t limit rows es
admissible_by s t limit rows es h free is =
    first_none s t limit rows lossy_start 1 es free ∙ ap (λ (z : Option ℕ). if is_some z then None else Some (1 + length es, Common NoEnd)) is

-- the cells of an output
cells_at : (tracks : List TrackState) (cells : List (List Cell)) (y : ℕ) → cells ≡ map (λ (track : TrackState). track.cells) tracks → y < length tracks → slice_index_or cells y [] ≡ (track_at tracks y).cells
cells_at tracks cells y is low = ap (λ (columns : List (List Cell)). slice_index_or columns y []) is ∙ get_or-map (λ (track : TrackState). track.cells) tracks y (record { cells = []; room = 0 }) [] low

module _ {C M : Type 0} (ctl : Controls C) (mch : Machines M) (net : LossyBenchState C M) (inputs : List (List Value)) (events : List LossyEvent) (fabric : FabricState) (ls : LossyLists)
    (rows : net.rows ≡ length inputs) (fixed : IsFixedLossy net.layout net.shape net.timing) (k : KeepsLossy ctl mch inputs events net fabric ls) where
  abbrev last : LossyState
  last = lossy_reached net.shape net.timing (length inputs) events

  state_is : lossy_state_of net ls ≡ last
  state_is i = lossy_reached net.shape net.timing (rows i) (k.events i)

  count_is : (n : ℕ) → n < node_count net.shape → length (ls.inputs n) ≡ executed_in last n
  count_is n b = k.stood.standing.bench.rows n b ∙ ap (λ st. executed_in st n) state_is

  rows_are : (n : ℕ) → n < node_count net.shape → ls.inputs n ≡ rows_in last inputs n
  rows_are n b = k.fronts.fronts n b ∙ ap (λ m. take m inputs) (count_is n b)

  sender : (c : ℕ) → c < chan_count net.shape → from_of net.shape c < node_count net.shape
  sender c lt = let e = fixed.channels.ends c lt in omega (arith, e, fixed.channels.nodes)

  -- a value is a node's own on its rows
  own_on : (i j m : ℕ) (p : List Value) → i < node_count net.shape → HasOwnValues net.layout net.shape ls.inputs ls.got i j m p → HasOwnValues net.layout net.shape (rows_in last inputs) ls.got i j m p
  own_on i j m p b own c x cb from to gives = ap (λ rs. local_value (calls [] 0) net.layout (payloads_between net.shape ls.got) i (row_at rs) m x) (sym (rows_are i b)) ∙ own c x cb from to gives

  in_transit : (c : ℕ) → c < chan_count net.shape → AreSent (IsOwnOn net.layout net.shape last inputs ls.got c) (last.link c).transit (fabric.transit c)
  in_transit c lt = subst (λ (st : LossyState). AreSent (IsOwnOn net.layout net.shape last inputs ls.got c) (st.link c).transit (fabric.transit c)) state_is
      (sent_mapped (OwnOn net ls c) (IsOwnOn net.layout net.shape last inputs ls.got c) (λ m p own carries. own_on (from_of net.shape c) (to_of net.shape c) m p (sender c lt) (own carries))
      ((lossy_state_of net ls).link c).transit (fabric.transit c) (k.stood.holds.transit c lt))

  is_told : IsTrue fabric.told → IsToldLossy net.shape net.timing (length inputs) events ls.got fabric
  is_told told =
      let tells = k.tells told in
      subst (λ m. IsToldLossy net.shape net.timing m events ls.got fabric) rows (subst (λ es. IsToldLossy net.shape net.timing net.rows es ls.got fabric) k.events (record {
        taken = λ c lt. (tells.each c lt).taken;
        counted = λ c lt. (tells.each c lt).counted;
        total = λ c lt. (tells.each c lt).total;
        ran_on = λ i n j x. (tells.ran_on i n j x).1;
        unread = tells.unread;
      }))

  are_sent : IsTrue fabric.told → (c : ℕ) → c < chan_count net.shape → AreSent (IsOwnOn net.layout net.shape last inputs ls.got c) (messages_of net.shape net.timing (length inputs) c events) (fabric.sent c)
  are_sent told c lt = subst (λ m. AreSent (IsOwnOn net.layout net.shape last inputs ls.got c) (messages_of net.shape net.timing m c events) (fabric.sent c)) rows
      (subst (λ es. AreSent (IsOwnOn net.layout net.shape last inputs ls.got c) (messages_of net.shape net.timing net.rows c es) (fabric.sent c)) k.events
      (sent_mapped (IsOwnSoFar net.layout net.shape ls c) (IsOwnOn net.layout net.shape last inputs ls.got c) (λ m p own carries. own_on (from_of net.shape c) (to_of net.shape c) m p (sender c lt) (own carries).1)
      (messages_of net.shape net.timing net.rows c ls.events) (fabric.sent c) ((k.sent told).each c lt)))

  are_own : IsTrue fabric.faithful → PayloadsAreOwn net.layout net.shape (rows_in last inputs) ls.got
  are_own faithful =
      let own = k.own faithful in
      record {
        before = λ c m lt carries h. subst (λ rs. m < length rs) (rows_are (from_of net.shape c) (sender c lt)) (own.before c m lt carries h);
        own = λ c m lt carries h. own_on (from_of net.shape c) (to_of net.shape c) m _ (sender c lt) (own.own c m lt carries h);
      }

  has_steps : length net.machines ≡ length net.layout.nodes → HasLossySteps mch net.layout net.shape net.timing inputs events ls.got net.machines
  has_steps sized = record {
    count = sized;
    steps = λ n m is. k.stood.standing.bench.ran.steps_made n m is ∙ count_is n (within n m is);
    stand = λ n m is.
        let b = within n m is in
        let l = net.layout in
        subst (λ fed. mch.stands m (part_of l n).flat.func fed)
        (firsts-same (λ j. fed_row l (payloads_between net.shape ls.got) n (row_at (ls.inputs n) j) j) (λ j. fed_row l (payloads_between net.shape ls.got) n (row_at inputs j) j) (length (ls.inputs n))
        (λ j low. ap (λ row. fed_row l (payloads_between net.shape ls.got) n row j) (same_rows_of net.shape ls.inputs inputs k.fronts n j b low))
        ∙ ap (firsts (λ j. fed_row l (payloads_between net.shape ls.got) n (row_at inputs j) j)) (count_is n b))
        (k.stood.standing.bench.ran.machines n m is);
  }
    where
      within : (n : ℕ) (m : M) → slice_get net.machines n ≡ Some m → n < node_count net.shape
      within n m is = let w = slice_get_within net.machines n m is in omega (arith, w, sized, fixed.channels.nodes)

  pub is_replay : HasLossySizes net → length net.tracks ≡ length net.layout.outs → (taken : Replayed M) → IsTakenFrom net taken → IsLossyReplay mch net.layout net.shape net.timing net.watch.limit inputs fabric events taken
  is_replay sized tracks taken is = record {
    run = record {
      admissible = admissible;
      ends = horizon_is;
      got = ls.got;
      given = λ c lt. k.stood.standing.bench.messages c lt ∙ ap (λ (st : LossyState). (st.link c).newest) state_is;
      columns = ap length is.cells ∙ length-map net.tracks (λ (track : TrackState). track.cells) ∙ tracks;
      local = λ y n x yb nb gives.
          let b : n < node_count net.shape = omega (arith, nb, fixed.channels.nodes) in
          cells_at net.tracks taken.cells y is.cells (omega (arith, yb, tracks)) ∙ k.stood.standing.bench.ran.cells y n x yb nb gives
          ∙ local_stream_same net.layout (payloads_between net.shape ls.got) n (length (ls.inputs n)) (row_at (ls.inputs n)) (row_at inputs) (λ j jb. same_rows_of net.shape ls.inputs inputs k.fronts n j b jb) x
          ∙ ap (λ m. local_stream net.layout (payloads_between net.shape ls.got) n (row_at inputs) m x) (count_is n b);
      in_transit = in_transit;
      told = is_told;
      sent = are_sent;
      own = are_own;
      fronts = λ f placed fit faithful y n x yb nb gives.
          cells_at net.tracks taken.cells y is.cells (omega (arith, yb, tracks))
          ∙ law-fronts ctl mch net ls (record fixed { whole = f.func; laid = laid_out f net.layout placed }) k.stood.standing (k.own faithful) inputs (has_inputs f.func placed.good inputs fit) k.fronts y n x yb nb gives
          ∙ ap (λ (st : LossyState). take (executed_in st n) (stream_of [] f.func inputs (slice_index_or net.layout.outs y 0))) state_is;
      enough = λ n b. least_length net.shape net.timing net.watch.limit (length inputs) events taken.horizon n fixed.partners fixed.same_nodes admissible horizon_is b;
    };
    steps = subst (λ ms. HasLossySteps mch net.layout net.shape net.timing inputs events ls.got ms) (sym is.machines) (has_steps sized.bench.machines);
  }
    where
      horizon_is : last.horizon ≡ Some taken.horizon
      horizon_is = sym (ap (λ (st : LossyState). st.horizon) state_is) ∙ sym k.stood.standing.times.horizon ∙ is.horizon

      admissible : IsLossyAdmissible net.shape net.timing net.watch.limit (length inputs) events
      admissible = admissible_by net.shape net.timing net.watch.limit (length inputs) events taken.horizon
          (subst (λ es. HasNoLossyOffence net.shape net.timing net.watch.limit (length inputs) lossy_start es) k.events
          (subst (λ r. HasNoLossyOffence net.shape net.timing net.watch.limit r lossy_start ls.events) rows k.stood.standing.clean)) horizon_is
