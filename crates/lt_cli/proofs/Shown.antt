-- What a reader has of a run that ended well, from its verdict.
use Rattle.std.proofs.Common.{◌≡◌, ◌<◌, ◌≤◌, ◌+◌, ℕ, min, List, [], length, take, Option, Ok, refl, sym, ◌∙◌, ap, subst, inl, inr, arith}
use Rattle.std.specs.Prelude.{slice_index_or}
use Rattle.lt_base.specs.declared.value.Value.{Value}
use Rattle.lt_base.specs.declared.value.Cell.{Cell}
use Rattle.lt_base.proofs.Streams.{stream_length}
use Rattle.lt_arch.specs.declared.shape.Shape.{Shape}
use Rattle.lt_arch.specs.State.{executed_of}
use Rattle.lt_arch.specs.Schedule.{reached}
use Rattle.lt_io.specs.FabricState.{FabricState}
use Rattle.lt_answer.specs.Answered.{AndThen}
use Rattle.lt_front.specs.Flattened.{flat_of}
use Rattle.lt_place.specs.declared.layout.Layout.{Layout}
use Rattle.lt_place.specs.Layout.{IsLayoutOf, PartGives, part_of}
use Rattle.lt_timing.specs.Bounds.{bound_of}
use Rattle.lt_lead.specs.Paced.{IsShapeBy}
use Rattle.lt_lead.proofs.ByPace.{nodes_are}
use Rattle.lt_net_node.specs.Local.{local_stream, fed_row}
use Rattle.lt_net_node.specs.Payloads.{payloads_between, row_at}
use Rattle.lt_net_bench.proofs.Firsts.{length-firsts}
use Rattle.lt_evaluate.specs.Main.{output_streams}
use Rattle.lt_load.specs.Plan.{Plan, load_verdict}
use Rattle.lt_evaluate.specs.declared.outputs.Outputs.{Outputs}
use Rattle.lt_run.specs.Printed.{AreShown}
use Rattle.lt_run.specs.Run.{IsLaidOutBy, OutputsShow, run_along_verdict, ordered_verdict, run_verdict}
use Rattle.lt_run.proofs.Reading.{has_read}
use Rattle.lt_big.specs.Big as big
use Rattle.lt_big.specs.Big.{ShowsList, big_verdict, big_loaded_verdict, events_of}
use Rattle.lt_big_texts.specs.Texts.{horizon_of}
use Rattle.lt_big.proofs.Plainly.{plain_plan}
use Rattle.lt_text_answers.specs.Replies.{printed_text, summarized_text}
use Rattle.lt_cli.specs.Objects.{Objects, world_of}
use Rattle.lt_cli.specs.Taken.{TookText}
use Rattle.lt_cli.specs.Headline.{IsOutputShown, IsRunAlong, IsRunShown, IsBigShown}

-- one output

module _ (p : Plan) (l : Layout) (s : Shape) (fabric : FabricState) (executed : ℕ → ℕ) (got : ℕ → List (List Value)) (least : ℕ → ℕ) (printed : Outputs) (shaped : IsShapeBy l p.setup.pace p.setup.timing s)
    (laid : IsLayoutOf (flat_of p.checked.program) p.setup.placement l) (shown : AreShown p.checked.program l s p.inputs.rows fabric executed got least printed.names printed.cells) where
  -- a node of the layout is one of the shape
  in_shape : (n : ℕ) → n < length l.nodes → n < length s.nodes
  in_shape n within =
      let names : length s.nodes ≡ length l.names = ap (λ (ns : List (List ℕ)). length ns) (nodes_are l p.setup.pace p.setup.timing s shaped) in
      let same : length l.names ≡ length l.nodes = ap (λ (ns : List (List ℕ)). length ns) laid.names ∙ sym laid.nodes in
      omega (arith, within, names, same)

  output_shown : (y n x : ℕ) → y < length l.outs → n < length l.nodes → PartGives (part_of l n) (slice_index_or l.outs y 0) x → IsOutputShown p.checked.program l s p.inputs.rows fabric got (executed n) (least n) y n x (slice_index_or printed.cells y [])
  output_shown y n x out within gives =
      let cells : List Cell = slice_index_or printed.cells y [] in
      let rows = p.inputs.rows in
      let among = payloads_between s got in
      let local : cells ≡ local_stream l among n (row_at rows) (executed n) x = shown.local y n x out within gives in
      let count : length cells ≡ executed n =
      ap (λ (cs : List Cell). length cs) local
      ∙ stream_length [] (part_of l n).flat.func x _
      ∙ length-firsts (λ k. fed_row l among n (row_at rows k) k) (executed n) in
      record {
        count = count;
        local = subst (λ (m : ℕ). cells ≡ local_stream l among n (row_at rows) m x) (sym count) local;
        whole = λ faithful. subst (λ (m : ℕ). cells ≡ take m (slice_index_or (output_streams p.checked.program rows) y [])) (sym count) (shown.whole faithful y n x out within gives);
        enough = subst (λ (m : ℕ). min (least n) (length rows) ≤ m) (sym count) (shown.enough n (in_shape n within));
      }

module _ (named : List ℕ → Option (List ℕ)) (program inputs schedule : List ℕ) (config : Option (List ℕ)) (fabric : FabricState) (ran : Outputs) where
  -- the run of a plan
  pub run_along : (p : Plan) → load_verdict named program inputs config (Ok p) → run_along_verdict fabric (named schedule) p (Ok ran) → (r : IsRunAlong named program inputs schedule config fabric ran) × (r.plan ≡ p)
  unfolding run_along_verdict
  run_along p loaded (l, s, site, played) =
      let read = has_read p.setup.pace (OutputsShow p.checked.program l s p.setup.timing p.setup.pace p.inputs.rows fabric) s p.setup.timing (length p.inputs.rows) (named schedule) ran played in (
        record {
          plan = p;
          loaded = loaded;
          layout = l;
          laid = site.layout;
          shape = s;
          shaped = site.shape;
          bytes = read.bytes;
          file = read.file_is;
          events = read.events;
          reads = read.reads;
          shows = read.at_end;
          outputs = output_shown p l s fabric _ read.at_end.told.got _ ran site.shape site.layout read.at_end.told.shown;
          exact = read.at_end.told.exact;
          crosses = read.at_end.told.crosses;
        },
        refl,
      )

module _ (named : List ℕ → Option (List ℕ)) (program inputs schedule : List ℕ) (config : Option (List ℕ)) (old new : Objects) (printed : Outputs) (text : TookText (printed_text printed) old new) where
  steps_shown : AndThen (load_verdict named program inputs config) (λ plan. run_along_verdict new.fabric (named schedule) plan) (Ok printed) → IsRunShown named program inputs schedule config old new
  steps_shown (inl refused) = absurd refused
  steps_shown (inr (p, loaded, played)) = record { printed = printed; text = text; run = (run_along named program inputs schedule config new.fabric printed p loaded played).0 }

  pub run_shown : run_verdict named program inputs schedule config (world_of new) (Ok printed) → IsRunShown named program inputs schedule config old new
  unfolding ordered_verdict
  run_shown right = steps_shown right

-- the large input

module _ (instants : ℕ) (old new : Objects) (printed : Outputs) (text : TookText (summarized_text instants printed) old new) where
  -- each output, with what the run delivered
  list_shown : (p : Plan) (l : Layout) (s : Shape) → IsLaidOutBy p l s → (list : ShowsList instants new.fabric p.checked.program l s p.setup.timing p.inputs.rows printed) → (y n x : ℕ) → y < length l.outs → n < length l.nodes → PartGives (part_of l n) (slice_index_or l.outs y 0) x
      → IsOutputShown p.checked.program l s p.inputs.rows new.fabric list.shows.told.run.lists.got (executed_of (reached s p.setup.timing (length p.inputs.rows) (events_of instants s p.setup.timing (length p.inputs.rows))) n) (bound_of p.setup.timing n list.shows.horizon) y n x (slice_index_or printed.cells y [])
  list_shown p l s site list =
      let told = list.shows.told in
      let t = p.setup.timing in
      let executed : ℕ → ℕ = executed_of (reached s t (length p.inputs.rows) (events_of instants s t (length p.inputs.rows))) in
      let least : ℕ → ℕ = λ n. bound_of t n list.shows.horizon in
      let shown = subst (λ (got : ℕ → List (List Value)). AreShown p.checked.program l s p.inputs.rows new.fabric executed got least printed.names printed.cells) told.got_is told.shown in
      output_shown p l s new.fabric executed told.run.lists.got least printed site.shape site.layout shown

  big_along : (p : Plan) → big_loaded_verdict instants (Ok p) → big.big_along_verdict instants new.fabric p (Ok printed) → IsBigShown instants old new
  unfolding big.big_along_verdict
  big_along p loaded (l, s, site, list) = record {
    plan = p;
    loaded = loaded;
    plain = plain_plan instants p loaded;
    layout = l;
    laid = site.layout;
    shape = s;
    shaped = site.shape;
    few = list.few;
    printed = printed;
    text = text;
    shows = list.shows;
    at_horizon = list.at_horizon;
    outputs = list_shown p l s site list;
  }

  big_steps : AndThen (big_loaded_verdict instants) (λ plan. big.big_along_verdict instants new.fabric plan) (Ok printed) → IsBigShown instants old new
  big_steps (inl refused) = absurd refused
  big_steps (inr (p, loaded, played)) = big_along p loaded played

  pub big_shown : big_verdict instants new.fabric (Ok printed) → IsBigShown instants old new
  unfolding big_verdict
  big_shown right = big_steps right
