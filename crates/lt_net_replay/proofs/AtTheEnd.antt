-- What a net at the end of a schedule has, in the architecture's words.
use Rattle.std.proofs.Common.{◌≡◌, ℕ, zero, suc, ◌+◌, ◌<◌, ◌≤◌, Bool, not, List, [], ◌∷◌, length, map, min, take, Option, Some, None, IsTrue, sym, ap, ◌∙◌, subst, arith, add-zero}
use Rattle.std.specs.Prelude.{slice_get, slice_index_or}
use Rattle.std.proofs.lemmas.List.{get_or-map, length-map}
use Rattle.std.proofs.lemmas.Option.{slice_get-get_or, slice_get_within}
use Rattle.lt_base.specs.declared.value.Value.{Value}
use Rattle.lt_base.specs.declared.value.Cell.{Cell}
use Rattle.lt_base.specs.Program.{Function}
use Rattle.lt_base.specs.Meaning.{stream_of}
use Rattle.lt_base.specs.Behaviour.{RowsFit}
use Rattle.lt_arch.specs.declared.event.Event.{Event}
use Rattle.lt_arch.specs.declared.shape.Shape.{Shape}
use Rattle.lt_arch.specs.declared.timing.Timing.{Timing}
use Rattle.lt_arch.specs.State.{State, start as at_start, sent_of, executed_of}
use Rattle.lt_arch.specs.Step.{after}
use Rattle.lt_arch.specs.declared.limits.TheConstants.{GREATEST_TIME}
use Rattle.lt_arch.specs.Times.{in_transit}
use Rattle.lt_arch.specs.Readers.{node_count, chan_count, from_of, to_of}
use Rattle.lt_arch.specs.Schedule.{AreUpTo, HasNoOffence, IsOffenceFree, IsAdmissible, OnePlace, reached}
use Rattle.lt_io.specs.declared.message.Message.{Message}
use Rattle.lt_io.specs.FabricState.{FabricState}
use Rattle.lt_link.specs.Bits.{bit_of}
use Rattle.lt_link.specs.Inbox.{no_inbox}
use Rattle.lt_norm.specs.Flat.{Originated}
use Rattle.lt_place.specs.Layout.{IsPlaced, part_of}
use Rattle.lt_net_bench.specs.Track.{TrackState, track_at}
use Rattle.lt_net_node.specs.Local.{fed_row, firsts, local_stream}
use Rattle.lt_net_node.specs.Payloads.{payloads_between, row_at}
use Rattle.lt_net.specs.Net.{TimedBenchState, Lists, reached_state}
use Rattle.lt_net.specs.Kept.{IsSized}
use Rattle.lt_net.specs.Event.{HeldBy}
use Rattle.lt_net.specs.Replay.{ReplayKeeps, ReplayEnds}
use Rattle.lt_net_bench.proofs.Firsts.{firsts-same}
use Rattle.lt_net.proofs.OutputFronts.{same_rows_of, payloads_are_whole}
use Rattle.lt_net_bench.proofs.LaidOut.{laid_out}
use Rattle.lt_net_bench.proofs.Fitting.{has_inputs}
use Rattle.lt_net_node.specs.Layout.{IsLaidOut}
use Rattle.lt_net_bench.specs.Whole.{RowsCoverInputs}
use Rattle.lt_net_replay.specs.Played.{IsLeastBound}
use Rattle.lt_net.specs.declared.replayed.Replayed.{Replayed}
use Rattle.lt_arch.specs.declared.pace.Pace.{Pace}
use Rattle.lt_lead.specs.Paced.{KeepsPace, bound_by}
use Rattle.lt_net_replay.specs.Sound.{PlanIsSound}
use Rattle.lt_net_replay.specs.Run.{WereGiven, message_at, IsLeft, RunIsTold, DeliveredAreOwn, HasSteps}
use Rattle.lt_net_replay.specs.Replays.{ReplayIsTaken, IsReplay}
use Rattle.lt_machine.specs.declared.machine.Machine.{Ghosts as Machines}
use Rattle.lt_arch.specs.declared.controller.Controller.{Ghosts as Controls}

-- events up to a time, and without an offence, from the front

timely_front : (limit i : ℕ) (es : List Event) → AreUpTo limit es → AreUpTo limit (take i es)
timely_front limit zero es up = tt
timely_front limit (suc i) [] up = tt
timely_front limit (suc i) (e ∷ es) up = (up.0, timely_front limit i es up.1)

clean_front : (s : Shape) (t : Timing) (rows : ℕ) (st : State) (i : ℕ) (es : List Event) → HasNoOffence s t rows st es → HasNoOffence s t rows st (take i es)
clean_front s t rows st zero es free = tt
clean_front s t rows st (suc i) [] free = tt
clean_front s t rows st (suc i) (e ∷ es) free = (free.0, clean_front s t rows (after s t rows st e) i es free.1)

-- what a channel holds

held_count : (sent : Option ℕ) (last : Bool) (ms : List Message) → HeldBy sent last ms → length ms ≡ length (in_transit sent)
held_count None last ms held = ap length held
held_count (Some at) last [] held = absurd held
held_count (Some at) last (m ∷ ms) held = ap (λ (r : List Message). length (m ∷ r)) held.1

held_bit : (sent : Option ℕ) (last : Bool) (ms : List Message) (g k : ℕ) → HeldBy sent last ms → last ≡ bit_of g → k < length ms → (message_at ms k).bit ≡ bit_of (suc (g + k))
held_bit None last ms g k held is low = absurd (let none = ap length held in omega (arith, none, low))
held_bit (Some at) last [] g k held is low = absurd held
held_bit (Some at) last (m ∷ ms) g zero held is low = held.0 ∙ ap not is ∙ ap (λ j. bit_of (suc j)) (sym (add-zero g))
held_bit (Some at) last (m ∷ ms) g (suc k) held is low = absurd (let none = ap length held.1 in omega (arith, none, low))

-- the cells of an output
cells_at : (tracks : List TrackState) (cells : List (List Cell)) (y : ℕ) → cells ≡ map (λ (track : TrackState). track.cells) tracks → y < length tracks → slice_index_or cells y [] ≡ (track_at tracks y).cells
cells_at tracks cells y is low = ap (λ (columns : List (List Cell)). slice_index_or columns y []) is ∙ get_or-map (λ (track : TrackState). track.cells) tracks y (record { cells = []; room = 0 }) [] low

module _ {C M : Type 0} (ctl : Controls C) (mch : Machines M) (net : TimedBenchState C M) (inputs : List (List Value)) (events : List Event) (fabric : FabricState) (ls : Lists)
    (rows : net.rows ≡ length inputs) (k : ReplayKeeps ctl mch inputs events net fabric ls) where
  abbrev last : State
  last = reached net.shape net.timing (length inputs) events

  state_is : reached_state net ls ≡ last
  state_is i = reached net.shape net.timing (rows i) (k.events i)

  count_is : (n : ℕ) → n < node_count net.shape → length (ls.inputs n) ≡ executed_of last n
  count_is n b = k.stands_for.bench.rows n b ∙ ap (λ st. executed_of st n) state_is

  were_given : WereGiven net.shape last inputs ls
  were_given = record {
    rows = λ n b. k.same_inputs.fronts n b ∙ ap (λ m. take m inputs) (count_is n b);
    payloads = λ c b. k.stands_for.bench.messages c b ∙ ap (λ (st : State). (st.chan c).delivered) state_is;
  }

  are_left : length net.inboxes ≡ chan_count net.shape → IsLeft net.shape last ls fabric
  are_left sized = record {
    count = λ c b. held_count (slice_index_or net.watch.sends c None) (slice_index_or net.inboxes c no_inbox).bit (fabric.transit c) (k.holds.transit c b)
        ∙ ap length (sym (k.stands_for.times.transit c b)) ∙ ap (λ (st : State). length (st.chan c).transit) state_is;
    bits = λ c j b low. held_bit (slice_index_or net.watch.sends c None) (slice_index_or net.inboxes c no_inbox).bit (fabric.transit c) (length (ls.got c)) j (k.holds.transit c b)
        (k.stands_for.bench.bits c (slice_index_or net.inboxes c no_inbox) (slice_get-get_or net.inboxes c no_inbox (omega (arith, b, sized)))) low;
  }

  is_told : IsTrue fabric.told → RunIsTold net.layout net.shape last ls fabric
  is_told told =
      let tells = k.tells told in
      record {
        delivered = tells.delivered;
        total = tells.total;
        sent_count = λ c b carries. tells.sent_count c b carries ∙ ap (λ st. sent_of st (from_of net.shape c)) state_is;
        sent_bits = tells.sent_bits;
        sent_own = tells.sent_own;
      }

  are_own : IsTrue fabric.faithful → DeliveredAreOwn net.layout net.shape ls fabric
  are_own faithful =
      let owns = k.owns faithful in
      let later = k.owns_transit faithful in
      record { before = owns.before; own = owns.own; transit_before = later.before; transit_own = later.own }

  has_steps : length net.machines ≡ length net.layout.nodes → node_count net.shape ≡ length net.layout.nodes → HasSteps mch net.layout net.shape net.timing inputs events ls.got net.machines
  has_steps sized nodes = record {
    count = sized;
    steps = λ n m is. k.stands_for.bench.ran.steps_made n m is ∙ count_is n (within n m is);
    stand = λ n m is.
        let b = within n m is in
        let l = net.layout in
        subst (λ fed. mch.stands m (part_of l n).flat.func fed)
        (firsts-same (λ j. fed_row l (payloads_between net.shape ls.got) n (row_at (ls.inputs n) j) j) (λ j. fed_row l (payloads_between net.shape ls.got) n (row_at inputs j) j) (length (ls.inputs n))
        (λ j low. ap (λ row. fed_row l (payloads_between net.shape ls.got) n row j) (same_rows_of net ls inputs k.same_inputs n j b low))
        ∙ ap (firsts (λ j. fed_row l (payloads_between net.shape ls.got) n (row_at inputs j) j)) (count_is n b))
        (k.stands_for.bench.ran.machines n m is);
  }
    where
      within : (n : ℕ) (m : M) → slice_get net.machines n ≡ Some m → n < node_count net.shape
      within n m is = let w = slice_get_within net.machines n m is in omega (arith, w, sized, nodes)

  pub is_replay : IsSized net → length net.tracks ≡ length net.layout.outs → node_count net.shape ≡ length net.layout.nodes → IsAdmissible net.shape net.timing net.rows events →
      ((f : Function) (bound : Timing → ℕ → ℕ → ℕ) → IsLaidOut f net.layout → RowsCoverInputs f inputs → IsLeastBound bound net.shape net.timing net.rows → ReplayEnds bound f inputs net fabric ls) →
      (f : Originated) → IsPlaced f net.layout → RowsFit f.func inputs → PlanIsSound net.layout net.shape net.timing (length inputs) →
      (taken : Replayed M) → ReplayIsTaken net taken → IsReplay mch net.layout net.shape net.timing inputs fabric events taken
  is_replay sized tracks nodes admissible ends f placed fit sound taken is = record {
    run = record {
      admissible = subst (λ m. IsAdmissible net.shape net.timing m events) rows admissible;
      ends = horizon_is;
      lists = ls;
      events_are = k.events;
      given = were_given;
      columns = ap length is.cells ∙ length-map net.tracks (λ (track : TrackState). track.cells) ∙ tracks;
      local = λ y n x yb nb gives.
          cells_at net.tracks taken.cells y is.cells (omega (arith, yb, tracks)) ∙ mine.local y n x yb nb gives
          ∙ ap (λ (st : State). local_stream net.layout (payloads_between net.shape ls.got) n (row_at inputs) (executed_of st n) x) state_is;
      in_transit = are_left sized.inboxes;
      told = is_told;
      own = are_own;
      fronts = λ g g_placed g_fit faithful y n x yb nb gives.
          cells_at net.tracks taken.cells y is.cells (omega (arith, yb, tracks)) ∙ (ends_of sound.paced.0 sound.paced.1 g g_placed g_fit).fronts faithful y n x yb nb gives
          ∙ ap (λ (st : State). take (executed_of st n) (stream_of [] g.func inputs (slice_index_or net.layout.outs y 0))) state_is;
      crosses = λ g g_placed g_fit faithful.
          let own = k.owns faithful in
          let later = k.owns_transit faithful in
          let whole = payloads_are_whole C M ctl mch net ls g.func (laid_out g net.layout g_placed) sound.fits.channels (subst (OnePlace net.shape net.timing) (sym rows) sound.one_place) k.stands_for own inputs
          (has_inputs g.func g_placed.good inputs g_fit) k.same_inputs in
          record {
            delivered = λ c j b carries low. whole (from_of net.shape c) (to_of net.shape c) j (slice_index_or (ls.got c) j []) (own.before c j b carries low) (own.own c j b carries low);
            under_way = λ c j b carries low.
                whole (from_of net.shape c) (to_of net.shape c) (length (ls.got c) + j) (message_at (fabric.transit c) j).payload (later.before c j b carries low) (later.own c j b carries low);
          };
      exact = λ counts i. sound.exact counts (take i events)
          (timely_front GREATEST_TIME i events (subst (AreUpTo GREATEST_TIME) k.events k.stands_for.timely))
          (clean_front net.shape net.timing (length inputs) (at_start net.timing.protocol) i events
          (subst (λ m. IsOffenceFree net.shape net.timing m events) rows (subst (λ es. IsOffenceFree net.shape net.timing net.rows es) k.events k.stands_for.clean)));
      enough = λ pace kept n b. subst (λ (st : State). min (bound_by pace net.timing n taken.horizon) (length inputs) ≤ executed_of st n) state_is
          ((ends_of pace kept f placed fit).enough taken.horizon n (ap (λ (st : State). st.horizon) state_is ∙ horizon_is) b);
    };
    steps = subst (λ ms. HasSteps mch net.layout net.shape net.timing inputs events ls.got ms) (sym is.machines) (has_steps sized.machines nodes);
  }
    where
      ends_of : (pace : Pace) → KeepsPace net.layout net.shape net.timing pace → (g : Originated) → IsPlaced g net.layout → RowsFit g.func inputs → ReplayEnds (bound_by pace) g.func inputs net fabric ls
      ends_of pace kept g g_placed g_fit =
          ends g.func (bound_by pace) (laid_out g net.layout g_placed) (has_inputs g.func g_placed.good inputs g_fit)
          (subst (λ m. IsLeastBound (bound_by pace) net.shape net.timing m) (sym rows) (sound.least pace kept))

      mine : ReplayEnds (bound_by sound.paced.0) f.func inputs net fabric ls
      mine = ends_of sound.paced.0 sound.paced.1 f placed fit

      horizon_is : last.horizon ≡ Some taken.horizon
      horizon_is = sym (ap (λ (st : State). st.horizon) state_is) ∙ sym k.stands_for.times.horizon ∙ is.horizon
