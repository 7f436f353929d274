-- What a replay has at its end.
use Rattle.std.proofs.Common.{◌≡◌, ℕ, ◌+◌, ◌<◌, ◌≤◌, List, [], ◌∷◌, length, Option, Some, None, min, sym, ap, ◌∙◌, subst, arith}
use Rattle.std.specs.Prelude.{is_some, if◌then◌else◌}
use Rattle.lt_base.specs.declared.value.Value.{Value}
use Rattle.lt_arch.specs.declared.event.Event.{Event}
use Rattle.lt_arch.specs.declared.event.Offence.TheVariants.{NoEnd}
use Rattle.lt_arch.specs.declared.shape.Shape.{Shape}
use Rattle.lt_arch.specs.declared.timing.Timing.{Timing}
use Rattle.lt_arch.specs.State.{State, start as at_start, executed_of}
use Rattle.lt_arch.specs.Step.{after}
use Rattle.lt_arch.specs.Readers.{node_count}
use Rattle.lt_arch.specs.Schedule.{after_all, reached, HasNoOffence, IsOffenceFree, IsAdmissible, numbered_or, missing_end, first_offence, first_offence_from}
use Rattle.lt_io.specs.FabricState.{FabricState}
use Rattle.lt_net_node.specs.Payloads.{payloads_between, row_at}
use Rattle.lt_net.specs.Net.{TimedBenchState, reached_state}
use Rattle.lt_net_node.specs.Local.{local_stream}
use Rattle.lt_net.specs.Event.{SameStatic}
use Rattle.lt_net.specs.Stands.{NetStands}
use Rattle.lt_net.specs.Loop.{KeptOfLists, ReplayIsGiven, ReplayIsClosed}
use Rattle.lt_net.specs.Replay.{Closes}
use Rattle.lt_net_bench.proofs.LocalFronts.{local_stream_same}
use Rattle.lt_net.proofs.OutputFronts.{cells_are_fronts, same_rows_of}
use Rattle.lt_machine.specs.declared.machine.Machine.{Ghosts as Machines}
use Rattle.lt_arch.specs.declared.controller.Controller.{Ghosts as Controls}

pub closes : Closes
closes C M ctl mch inputs events net fabric ls bound f placed channels one_place rows fit admissible least k = record {
  local = λ y n x yb nb gives.
      let b : n < node_count net.shape = omega (arith, nb, channels.nodes) in
      let len = k.stands_for.bench.rows n b in
      k.stands_for.bench.ran.cells y n x yb nb gives
      ∙ local_stream_same net.layout (payloads_between net.shape ls.got) n (length (ls.inputs n)) (row_at (ls.inputs n)) (row_at inputs) (λ j jb. same_rows_of net ls inputs k.same_inputs n j b jb) x
      ∙ ap (λ m. local_stream net.layout (payloads_between net.shape ls.got) n (row_at inputs) m x) len;
  holds = k.holds;
  tells = k.tells;
  fronts = λ faithful y n x yb nb gives. cells_are_fronts C M ctl mch net ls f placed channels one_place k.stands_for (k.owns faithful) inputs fit k.same_inputs y n x yb nb gives;
  enough = λ h n horizon b.
      let here = least ls.events h n k.stands_for.timely (subst (λ es. IsAdmissible net.shape net.timing net.rows es) (sym k.events) admissible) horizon b in
      subst (λ m. min (bound net.timing n h) m ≤ executed_of (reached_state net ls) n) rows here;
}

module _ (s : Shape) (t : Timing) (rows : ℕ) where
  -- where none has one, an end is asked for
  first_none : (st : State) (number : ℕ) (es : List Event) → HasNoOffence s t rows st es → first_offence_from s t rows st number es ≡ missing_end (after_all s t rows st es) (number + length es)
  first_none st number [] free = ap (missing_end st) (omega arith)
  first_none st number (x ∷ es) free =
      ap (λ z. numbered_or number z (first_offence_from s t rows (after s t rows st x) (number + 1) es)) free.0
      ∙ first_none (after s t rows st x) (number + 1) es free.1
      ∙ ap (missing_end (after_all s t rows (after s t rows st x) es)) (omega arith)

  offence_past : (events : List Event) → IsOffenceFree s t rows events → first_offence s t rows events ≡ missing_end (reached s t rows events) (length events + 1)
  offence_past events free = first_none (at_start t.protocol) 1 events free ∙ ap (missing_end (reached s t rows events)) (omega arith)

module _ {C M : Type 0} (ctl : Controls C) (mch : Machines M) (inputs : List (List Value)) (read : List Event) (start net : TimedBenchState C M) (fabric : FabricState)
    (kept : KeptOfLists ctl mch inputs read net fabric) (given : ReplayIsGiven net inputs) (fixed : SameStatic start net) where
  s : NetStands ctl mch net kept.0
  s = kept.1.stands_for

  clean : IsOffenceFree net.shape net.timing net.rows read
  clean = subst (λ es. IsOffenceFree net.shape net.timing net.rows es) kept.1.events s.clean

  same_first : first_offence start.shape start.timing start.rows read ≡ first_offence net.shape net.timing net.rows read
  same_first = λ i. first_offence (sym fixed.shape i) (sym fixed.timing i) (sym fixed.rows i) read

  -- where all events were taken
  past : (h : Option ℕ) → net.watch.horizon ≡ h → first_offence start.shape start.timing start.rows read ≡ (if is_some h then None else Some (length read + 1, NoEnd))
  past h is =
      same_first
      ∙ offence_past net.shape net.timing net.rows read clean
      ∙ ap (λ (x : Option ℕ). if is_some x then None else Some (length read + 1, NoEnd)) (sym (ap (λ es. (reached net.shape net.timing net.rows es).horizon) kept.1.events) ∙ sym s.times.horizon ∙ is)

  pub admissible : (h : ℕ) → net.watch.horizon ≡ Some h → IsAdmissible start.shape start.timing start.rows read
  admissible h is = past (Some h) is

  pub closed : (h : ℕ) → net.watch.horizon ≡ Some h → ReplayIsClosed net inputs fabric
  closed h is =
      let here : IsAdmissible net.shape net.timing net.rows read = sym same_first ∙ past (Some h) is in
      record {
        given = given;
        ends = λ bound fit least. (kept.0, closes C M ctl mch inputs read net fabric kept.0 bound given.whole given.placed given.channels given.one_place given.rows fit here least kept.1);
      }
