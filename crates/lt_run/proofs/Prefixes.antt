-- What a run shows of its program: each output is on a node, and over a faithful fabric shows the first cells of its stream.
use Rattle.std.proofs.Common.{◌≡◌, ◌∙◌, ℕ, min, ◌<◌, ◌≤◌, true, inl, List, [], length, take, IsTrue, refl, sym, ap, subst}
use Rattle.std.specs.Prelude.{slice_index_or, nat_eq}
use Rattle.std.proofs.lemmas.List.{get_or-map}
use Rattle.std.proofs.lemmas.List.Folds.{list_any_at}
use Rattle.lt_base.specs.declared.value.Value.{Value}
use Rattle.lt_base.specs.declared.value.Cell.{Cell}
use Rattle.lt_base.specs.Program.{GoodProgram, WholeProgram}
use Rattle.lt_base.specs.Meaning.{stream_of}
use Rattle.lt_base.specs.Behaviour.{RowsFit}
use Rattle.lt_base.specs.Dependence.{has}
use Rattle.lt_base.proofs.Lookups.{same_self}
use Rattle.lt_arch.specs.declared.event.Event.{Event}
use Rattle.lt_arch.specs.declared.shape.Shape.{Shape}
use Rattle.lt_arch.specs.declared.timing.Timing.{Timing}
use Rattle.lt_arch.specs.Readers.{node_count}
use Rattle.lt_arch.specs.State.{executed_of}
use Rattle.lt_arch.specs.Schedule.{reached}
use Rattle.lt_io.specs.FabricState.{FabricState}
use Rattle.lt_norm.specs.Flat.{Originated}
use Rattle.lt_place.specs.declared.layout.Layout.{Layout}
use Rattle.lt_place.specs.Layout.{IsPlaced, PartGives, part_of}
use Rattle.lt_place.specs.Nodes.{node_of}
use Rattle.lt_net_node.proofs.Named.{node_below}
use Rattle.lt_net_node.specs.Local.{local_stream}
use Rattle.lt_net_node.specs.Payloads.{payloads_between, row_at}
use Rattle.lt_arch.specs.declared.pace.Pace.{Pace}
use Rattle.lt_arch.specs.declared.pace.Pace.TheVariants.{Plain, Lossy, Leader}
use Rattle.lt_lead.specs.Paced.{KeepsPace, bound_by}
use Rattle.lt_front.specs.Flattened.{KeepsMain}
use Rattle.lt_net_replay.specs.Run.{IsRun}
use Rattle.lt_lossy.specs.declared.event.LossyEvent.{LossyEvent}
use Rattle.lt_lossy.specs.Schedule.{lossy_reached}
use Rattle.lt_lossy.specs.Laws.{lossy_bound}
use Rattle.lt_net_lossy.specs.LossyRun.{IsLossyRun, executed_in}
use Rattle.lt_load_fit.specs.Main.{main_in}
use Rattle.lt_load.proofs.Flattens.{main_good, flat_stream, outputs_same}
use Rattle.lt_evaluate.specs.Main.{output_names, output_streams}
use Rattle.lt_run.specs.Kinds.{EventsBy, executed_by, IsRunBy, got_by}
use Rattle.lt_run.specs.Printed.{AreShown}

-- each output of a placed function is on a node
home_of : (f : Originated) (l : Layout) → IsPlaced f l → (y : ℕ) → y < length f.func.outs → (n : ℕ) × (n < length l.nodes) × (x : ℕ) × PartGives (part_of l n) (slice_index_or f.func.outs y 0) x
home_of f l placed y inside =
    let v = slice_index_or f.func.outs y 0 in
    let n = node_of f placed.placement v in
    let nb : n < length l.nodes = subst (λ k. n < k) (sym placed.layout.nodes) (node_below f placed.placement v) in
    let out : has v f.func.outs ≡ true = list_any_at (nat_eq v) f.func.outs y 0 inside (same_self v) in
    let g = (placed.layout.parts n nb).gives v (placed.good.outs y 0 inside) refl (inl out) in
    (n, nb, g.0, g.1)

module _ (p : WholeProgram) (good : GoodProgram p) (f : Originated) (keeps : KeepsMain p f) (l : Layout) (placed : IsPlaced f l) where
  flat_outs : f.func.outs ≡ (main_in p).outs
  flat_outs = outputs_same p good f keeps

  pub layout_outs : l.outs ≡ (main_in p).outs
  layout_outs = placed.layout.outs ∙ flat_outs

  pub home : (y : ℕ) → y < length l.outs → (n : ℕ) × (n < length l.nodes) × (x : ℕ) × PartGives (part_of l n) (slice_index_or l.outs y 0) x
  home y inside =
      subst (λ (outs : List ℕ). (n : ℕ) × (n < length l.nodes) × (x : ℕ) × PartGives (part_of l n) (slice_index_or outs y 0) x) (sym placed.layout.outs)
      (home_of f l placed y (subst (λ (outs : List ℕ). y < length outs) placed.layout.outs inside))

  -- an output's stream in the flat form is that of the program
  output_stream : (inputs : List (List Value)) (y : ℕ) → y < length l.outs → stream_of [] f.func inputs (slice_index_or l.outs y 0) ≡ slice_index_or (output_streams p inputs) y []
  output_stream inputs y inside =
      let main = main_in p in
      let here : y < length main.outs = subst (λ (outs : List ℕ). y < length outs) layout_outs inside in
      let v = slice_index_or main.outs y 0 in
      ap (λ (outs : List ℕ). stream_of [] f.func inputs (slice_index_or outs y 0)) layout_outs
      ∙ flat_stream p good f keeps inputs v ((main_good p good).outs y 0 here)
      ∙ sym (get_or-map (stream_of p.funcs main inputs) main.outs y 0 [] here)

  -- what outputs show whose cells are local streams and, over a faithful fabric, the first of the flat form's
  module _ (s : Shape) (inputs : List (List Value)) (fabric : FabricState) (executed : ℕ → ℕ) (got : ℕ → List (List Value)) (least : ℕ → ℕ) (cells : List (List Cell)) where
    abbrev Locals : Type 0
    Locals = (y n x : ℕ) → y < length l.outs → n < length l.nodes → PartGives (part_of l n) (slice_index_or l.outs y 0) x → slice_index_or cells y [] ≡ local_stream l (payloads_between s got) n (row_at inputs) (executed n) x

    abbrev Fronts : Type 0
    Fronts =
        IsTrue fabric.faithful → (y n x : ℕ) → y < length l.outs → n < length l.nodes → PartGives (part_of l n) (slice_index_or l.outs y 0) x →
        slice_index_or cells y [] ≡ take (executed n) (stream_of [] f.func inputs (slice_index_or l.outs y 0))

    whole : Fronts → IsTrue fabric.faithful → (y n x : ℕ) → y < length l.outs → n < length l.nodes → PartGives (part_of l n) (slice_index_or l.outs y 0) x →
        slice_index_or cells y [] ≡ take (executed n) (slice_index_or (output_streams p inputs) y [])
    whole fronts faithful y n x inside below gives = fronts faithful y n x inside below gives ∙ ap (take (executed n)) (output_stream inputs y inside)

    shown : length cells ≡ length l.outs → Locals → Fronts → ((n : ℕ) → n < node_count s → min (least n) (length inputs) ≤ executed n) → (names : List (List ℕ)) → names ≡ output_names p
        → AreShown p l s inputs fabric executed got least names cells
    shown columns local fronts enough names are = record {
      names_are = are;
      outputs_are = layout_outs;
      columns = columns;
      home = home;
      local = local;
      whole = whole fronts;
      enough = enough;
    }

  module _ (s : Shape) (t : Timing) (inputs : List (List Value)) (fit : RowsFit f.func inputs) (fabric : FabricState) where
    -- so do those of a run without losses
    plain_shown : (pace : Pace) → KeepsPace l s t pace → (events : List Event) (cells : List (List Cell)) (horizon : ℕ) (run : IsRun l s t inputs fabric events cells horizon) (names : List (List ℕ)) → names ≡ output_names p
        → AreShown p l s inputs fabric (λ n. executed_of (reached s t (length inputs) events) n) run.lists.got (λ n. bound_by pace t n horizon) names cells
    plain_shown pace paced events cells horizon run names are =
        shown s inputs fabric (λ n. executed_of (reached s t (length inputs) events) n) run.lists.got (λ n. bound_by pace t n horizon) cells run.columns run.local (λ faithful. run.fronts f placed fit faithful) (run.enough pace paced) names are

    -- and over links that lose messages
    lossy_shown : (losses : ℕ) (events : List LossyEvent) (cells : List (List Cell)) (horizon : ℕ) (run : IsLossyRun l s t losses inputs fabric events cells horizon) (names : List (List ℕ)) → names ≡ output_names p
        → AreShown p l s inputs fabric (λ n. executed_in (lossy_reached s t (length inputs) events) n) run.got (λ n. lossy_bound t losses n horizon) names cells
    lossy_shown losses events cells horizon run names are =
        shown s inputs fabric (λ n. executed_in (lossy_reached s t (length inputs) events) n) run.got (λ n. lossy_bound t losses n horizon) cells run.columns run.local (λ faithful. run.fronts f placed fit faithful) run.enough names are

    -- whoever paces the rounds
    pub shows : (pace : Pace) → KeepsPace l s t pace → (events : EventsBy pace) (cells : List (List Cell)) (horizon : ℕ) (run : IsRunBy pace l s t inputs fabric events cells horizon) (names : List (List ℕ)) → names ≡ output_names p
        → AreShown p l s inputs fabric (executed_by pace s t (length inputs) events) (got_by pace l s t inputs fabric events cells horizon run) (λ n. bound_by pace t n horizon) names cells
    shows Plain paced events cells horizon run names are = plain_shown Plain paced events cells horizon run names are
    shows (Lossy losses) paced events cells horizon run names are = lossy_shown losses events cells horizon run names are
    shows (Leader leader) paced events cells horizon run names are = plain_shown (Leader leader) paced events cells horizon run names are

    -- there is a column for each output
    pub columns : (pace : Pace) (events : EventsBy pace) (cells : List (List Cell)) (horizon : ℕ) → IsRunBy pace l s t inputs fabric events cells horizon → length cells ≡ length (main_in p).outs
    columns Plain events cells horizon run = run.columns ∙ ap length layout_outs
    columns (Lossy losses) events cells horizon run = run.columns ∙ ap length layout_outs
    columns (Leader leader) events cells horizon run = run.columns ∙ ap length layout_outs
