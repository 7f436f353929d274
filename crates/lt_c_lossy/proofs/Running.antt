-- Whole lists of events keep emitted nodes tied to the architecture over links that lose messages, and they show the program's streams.
use Rattle.std.proofs.Common.{◌≡◌, inl, inr, ℕ, ◌+◌, ◌<◌, ◌≤◌, Bool, true, false, List, [], ◌∷◌, ◌++◌, length, take, min, None, refl, sym, ap, ◌∙◌, subst, arith, pos}
use Rattle.std.specs.Prelude.{◌&&◌, ◌==◌, slice_index_or, if◌then◌else◌}
use Rattle.std.specs.List.{AllByRecursion}
use Rattle.std.proofs.lemmas.Bool.Decides.{eqb_tells}
use Rattle.std.proofs.lemmas.List.{append-nil, length-take-le}
use Rattle.lt_base.specs.declared.value.Cell.{Cell}
use Rattle.lt_base.specs.Operators.{int_eq}
use Rattle.lt_base.specs.Program.{Function}
use Rattle.lt_base.specs.Meaning.{stream_of}
use Rattle.lt_base.proofs.Streams.{stream_length}
use Rattle.lt_arch.specs.declared.event.Deed.{Deed}
use Rattle.lt_arch.specs.declared.event.Deed.TheVariants.{Nothing, Execute, Send}
use Rattle.lt_arch.specs.declared.event.Event.TheVariants.{Act, Del, End}
use Rattle.lt_arch.specs.declared.shape.Shape.{Shape}
use Rattle.lt_arch.specs.declared.timing.Timing.{Timing}
use Rattle.lt_arch.specs.State.{NodeState}
use Rattle.lt_arch.specs.Readers.{node_count, chan_count}
use Rattle.lt_arch.specs.Step.{is_execute}
use Rattle.lt_lossy.specs.declared.event.LossyEvent.{LossyEvent}
use Rattle.lt_lossy.specs.declared.event.LossyEvent.TheVariants.{Plain, Lose}
use Rattle.lt_lossy.specs.Events.{IsLossyEventOf}
use Rattle.lt_lossy.specs.State.{Message, LinkState, LossyState, lossy_start, number_on}
use Rattle.lt_lossy.specs.Step.{lossy_offence, lossy_after, link_with_message, link_delivered, link_lost, sends_number}
use Rattle.lt_lossy.specs.Schedule.{lossy_after_all, HasNoLossyOffence}
use Rattle.lt_lossy.specs.Laws.{lossy_bound}
use Rattle.lt_lossy.proofs.Changes.{node-act_here, node-act_other, link-del, link-lose, node-del, node-lose, node-end, link-end}
use Rattle.lt_lossy.proofs.Pace as pace
use Rattle.lt_norm.specs.Flat.{Originated}
use Rattle.lt_place.specs.Layout.{part_of}
use Rattle.lt_c.specs.Tree.{did}
use Rattle.lt_c.specs.Meaning.{Store}
use Rattle.lt_c_control.specs.Control.{deed_number}
use Rattle.lt_c_net.specs.Stands.{Packet}
use Rattle.lt_c_net.specs.Emitted.{has_executed, told_cell}
use Rattle.lt_c_net.specs.Runs.{NodesRunning}
use Rattle.lt_c_net.specs.WholeRuns.{GivesOutput}
use Rattle.lt_c_lossy.specs.LosingStands.{CarryNumbers}
use Rattle.lt_c_lossy.specs.LosingRuns.{LosingDeployment, begun_losing, acted_losing, put_again, with_acted, with_newer, with_loss, with_lossy_event, with_lossy_events}
use Rattle.lt_c_lossy.specs.LosingWholeRuns.{IsDeployedLosing, LossyRunIsWhole}
use Rattle.lt_c_lossy.specs.LosingLaws.{state_after, next_after, NoneSoFar, IsLosingAt, next_deed, next_node, sent_if, RunStands, LosingRunStands}
use Rattle.lt_c_lossy.proofs.Crossings.{fits_of}
use Rattle.lt_c_lossy.proofs.Standing.{stands_still}
use Rattle.lt_c_lossy.proofs.Begun.{losing_starts}
use Rattle.lt_c_lossy.proofs.Brought.{losing_delivers}
use Rattle.lt_c_lossy.proofs.Acted.{losing_acts, within_rows}
use Rattle.lt_c_lossy.proofs.Handed.{numbers_handed_out}
use Rattle.lt_c_lossy.proofs.Shown.{losing_tells}

carry_more : (f : Function) (d : LosingDeployment) (c : ℕ) (ks js : List Packet) (ms ns : List Message) → CarryNumbers f d.base.layout d.base.shape d.base.inputs c ks ms → CarryNumbers f d.base.layout d.base.shape d.base.inputs c js ns →
    CarryNumbers f d.base.layout d.base.shape d.base.inputs c (ks ++ js) (ms ++ ns)
carry_more f d c [] js [] ns a b = b
carry_more f d c [] js (m ∷ ms) ns a b = absurd a
carry_more f d c (k ∷ ks) js [] ns a b = absurd a
carry_more f d c (k ∷ ks) js (m ∷ ms) ns a b = (a.0, carry_more f d c ks js ms ns a.1 b)

-- what a link has in transit after an activation
transit_more : (b : Bool) (number at : ℕ) (link : LinkState) → (link_with_message b number at link).transit ≡ link.transit ++ (if b then record { number = number; sent_at = at } ∷ [] else [])
transit_more true number at link = refl
transit_more false number at link = sym (append-nil link.transit)

executed_told : (deed : Deed) → int_eq (deed_number deed) (pos 1) ≡ is_execute deed
executed_told Nothing = refl
executed_told Execute = refl
executed_told Send = refl

same_one : (i : ℕ) → (i == i) ≡ true
same_one i = elim (eqb_tells i i) [ inl h ↦ h.0 | inr h ↦ absurd (h.1 refl) ]

module _ (f : Originated) (losses : ℕ) (d : LosingDeployment) (is : IsDeployedLosing f losses d) where
  abbrev s : Shape
  s = d.base.shape

  abbrev t : Timing
  t = d.base.timing

  abbrev rows : ℕ
  rows = length d.base.inputs

  abbrev stream : ℕ → List Cell
  stream y = stream_of [] f.func d.base.inputs (slice_index_or d.base.layout.outs y 0)

  in_shape : (n : ℕ) → n < length d.base.layout.nodes → n < node_count s
  in_shape n lt = let k = (fits_of f losses d is).channels.nodes in omega (arith, k, lt)

  -- before the first event
  tied_begun : (memory : ℕ → Store) → RunStands f d lossy_start (begun_losing d memory)
  tied_begun memory = record {
    nodes = λ i ib. losing_starts f losses d is i ib (memory i);
    packets = λ c cb. tt;
    used = λ i ib. refl;
    shown = λ y i x g. refl;
  }

  module _ (es : List LossyEvent) (free : NoneSoFar d losses es) (w : NodesRunning) (tied : RunStands f d (state_after d es) w) where
    abbrev st : LossyState
    st = state_after d es

    -- ---- an activation

    module _ (n at : ℕ) (nb : n < node_count s) where
      abbrev st' : LossyState
      st' = next_after d es (Plain (Act n at))

      abbrev e : ℕ
      e = (st.node n).executed

      abbrev deed : Deed
      deed = next_deed d es n

      abbrev m' : Store
      m' = acted_losing d n e (w.stores n)

      own : IsLosingAt f d st' n m' × (m' did ≡ deed_number deed)
      own = losing_acts.own f losses d is es free n at nb (w.stores n) (tied.nodes n nb)

      node_is : st'.node n ≡ next_node d es n at
      node_is = node-act_here s t rows st n at n refl

      told : has_executed m' ≡ is_execute deed
      told = ap (λ z. int_eq z (pos 1)) own.1 ∙ executed_told deed

      nodes_acted : (i : ℕ) → i < node_count s → IsLosingAt f d st' i ((with_acted d w n m').stores i)
      nodes_acted i ib = elim (eqb_tells i n) [
        | inl h ↦ subst (λ (z : Store). IsLosingAt f d st' i z) (ap (λ (b : Bool). if b then m' else w.stores i) (sym h.0)) (subst (λ j. IsLosingAt f d st' j m') (sym h.1) own.0)
        | inr h ↦ subst (λ (z : Store). IsLosingAt f d st' i z) (ap (λ (b : Bool). if b then m' else w.stores i) (sym h.0)) (losing_acts.others f d st n i at h.1 (w.stores i) (tied.nodes i ib))
      ]

      link_acted : (c : ℕ) → (st'.link c).transit ≡ (st.link c).transit ++ sent_if d n at c (next_node d es n at)
      unfolding lossy_after
      link_acted c = transit_more (sends_number s n (next_node d es n at) c) (number_on s (next_node d es n at) c) at (st.link c)

      packets_acted : (c : ℕ) → c < chan_count s → CarryNumbers f.func d.base.layout s d.base.inputs c (w.under_way c ++ put_again d n m' c) (st'.link c).transit
      packets_acted c cb =
          subst (λ ms. CarryNumbers f.func d.base.layout s d.base.inputs c (w.under_way c ++ put_again d n m' c) ms) (sym (link_acted c))
          (carry_more f.func d c (w.under_way c) (put_again d n m' c) (st.link c).transit (sent_if d n at c (next_node d es n at)) (tied.packets c cb)
          (subst (λ (v : NodeState). CarryNumbers f.func d.base.layout s d.base.inputs c (put_again d n m' c) (sent_if d n at c v)) node_is (numbers_handed_out f losses d is st' n at c nb cb m' own.0)))

      used_acted : (i : ℕ) → i < node_count s → (with_acted d w n m').used i ≡ (st'.node i).executed
      used_acted i ib = elim (eqb_tells i n) [
        | inl h ↦ subst (λ j. (if (j == n) && has_executed m' then w.used j + 1 else w.used j) ≡ (st'.node j).executed) (sym h.1) used_own
        | inr h ↦ ap (λ (b : Bool). if b && has_executed m' then w.used i + 1 else w.used i) h.0 ∙ tied.used i ib ∙ ap (λ (v : NodeState). v.executed) (sym (node-act_other s t rows st n at i h.1))
      ]
        where
          used_own : (if (n == n) && has_executed m' then w.used n + 1 else w.used n) ≡ (st'.node n).executed
          used_own =
              ap (λ (b : Bool). if b && has_executed m' then w.used n + 1 else w.used n) (same_one n)
              ∙ (λ k. if told k then tied.used n nb k + 1 else tied.used n nb k)
              ∙ ap (λ (v : NodeState). v.executed) (sym node_is)

      shown_acted : (y i x : ℕ) → GivesOutput d.base y i x → (with_acted d w n m').shown_so_far i x ≡ take (st'.node i).executed (stream y)
      shown_acted y i x g = elim (eqb_tells i n) [
        | inl h ↦ subst (λ j. (if (j == n) && has_executed m' then w.shown_so_far j x ++ told_cell (part_of d.base.layout n).flat.func.decls x m' ∷ [] else w.shown_so_far j x) ≡ take (st'.node j).executed (stream y)) (sym h.1)
            (shown_own (subst (λ j. GivesOutput d.base y j x) h.1 g))
        | inr h ↦
            ap (λ (b : Bool). if b && has_executed m' then w.shown_so_far i x ++ told_cell (part_of d.base.layout n).flat.func.decls x m' ∷ [] else w.shown_so_far i x) h.0
            ∙ tied.shown y i x g ∙ ap (λ (v : NodeState). take v.executed (stream y)) (sym (node-act_other s t rows st n at i h.1))
      ]
        where
          shown_by : Bool → List Cell
          shown_by b = if b then w.shown_so_far n x ++ told_cell (part_of d.base.layout n).flat.func.decls x m' ∷ [] else w.shown_so_far n x

          by_deed : GivesOutput d.base y n x → (z : Deed) → deed ≡ z → shown_by (is_execute z) ≡ take (if is_execute z then e + 1 else e) (stream y)
          by_deed g Nothing h = tied.shown y n x g
          by_deed g Send h = tied.shown y n x g
          by_deed g Execute h = ap (λ cs. cs ++ told_cell (part_of d.base.layout n).flat.func.decls x m' ∷ []) (tied.shown y n x g) ∙ sym (losing_tells f losses d is es free n nb (w.stores n) (tied.nodes n nb) h y x g)

          shown_own : GivesOutput d.base y n x → (if (n == n) && has_executed m' then w.shown_so_far n x ++ told_cell (part_of d.base.layout n).flat.func.decls x m' ∷ [] else w.shown_so_far n x) ≡ take (st'.node n).executed (stream y)
          shown_own g =
              ap (λ (b : Bool). if b && has_executed m' then w.shown_so_far n x ++ told_cell (part_of d.base.layout n).flat.func.decls x m' ∷ [] else w.shown_so_far n x) (same_one n)
              ∙ ap shown_by told ∙ by_deed g deed refl ∙ ap (λ (v : NodeState). take v.executed (stream y)) (sym node_is)

      tied_by : RunStands f d st' (with_acted d w n m')
      tied_by = record { nodes = nodes_acted; packets = packets_acted; used = used_acted; shown = shown_acted }

      pub tied_acted : RunStands f d st' (with_lossy_event d w (Plain (Act n at)))
      tied_acted = subst (λ k. RunStands f d st' (with_acted d w n (acted_losing d n k (w.stores n)))) (sym (tied.used n nb)) tied_by

    -- ---- a delivery

    module _ (c at : ℕ) (cb : c < chan_count s) where
      abbrev st_brought : LossyState
      st_brought = next_after d es (Plain (Del c at))

      used_brought : (i : ℕ) → i < node_count s → w.used i ≡ (st_brought.node i).executed
      used_brought i ib = tied.used i ib ∙ ap (λ (v : NodeState). v.executed) (sym (node-del s t rows st c at i))

      shown_brought : (y i x : ℕ) → GivesOutput d.base y i x → w.shown_so_far i x ≡ take (st_brought.node i).executed (stream y)
      shown_brought y i x g = tied.shown y i x g ∙ ap (λ (v : NodeState). take v.executed (stream y)) (sym (node-del s t rows st c at i))

      brought_by : (ks : List Packet) (ms : List Message) → w.under_way c ≡ ks → (st.link c).transit ≡ ms → CarryNumbers f.func d.base.layout s d.base.inputs c ks ms → RunStands f d st_brought (with_newer d w c ks)
      brought_by [] (m ∷ ms) g h carry = absurd carry
      brought_by (k ∷ ks) [] g h carry = absurd carry
      brought_by [] [] g h carry = record {
        nodes = λ i ib. stands_still f.func d.base.layout s d.base.inputs st st_brought i (d.base.nodes i).code (w.stores i) (tied.nodes i ib) (node-del s t rows st c at i)
            (λ e. link-del s t rows st c at (λ (z : LinkState). z.newest ≡ (st.link e).newest) e (λ same. ap (λ ms. (link_delivered (st.link c) ms).newest) h ∙ ap (λ j. (st.link j).newest) (sym same)) (λ ne. refl));
        packets = λ e eb. link-del s t rows st c at (λ (z : LinkState). CarryNumbers f.func d.base.layout s d.base.inputs e (w.under_way e) z.transit) e
            (λ same. subst (λ ms. CarryNumbers f.func d.base.layout s d.base.inputs e (w.under_way e) (link_delivered (st.link c) ms).transit) (sym h) (subst (λ j. CarryNumbers f.func d.base.layout s d.base.inputs e (w.under_way e) (st.link j).transit) same (tied.packets e eb)))
            (λ ne. tied.packets e eb);
        used = used_brought;
        shown = shown_brought;
      }
      brought_by (k ∷ ks) (m ∷ ms) g h carry = record {
        nodes = λ i ib. losing_delivers.delivery f losses d is es free i c at ib cb k m ms h carry.0 (w.stores i) (tied.nodes i ib);
        packets = λ e eb. elim (eqb_tells e c) [
          | inl same ↦ subst (λ (b : Bool). CarryNumbers f.func d.base.layout s d.base.inputs e (if b then ks else w.under_way e) (st_brought.link e).transit) (sym same.0)
              (link-del s t rows st c at (λ (z : LinkState). CarryNumbers f.func d.base.layout s d.base.inputs e ks z.transit) e
              (λ is. subst (λ xs. CarryNumbers f.func d.base.layout s d.base.inputs e ks (link_delivered (st.link c) xs).transit) (sym h) (subst (λ j. CarryNumbers f.func d.base.layout s d.base.inputs j ks ms) (sym is) carry.1))
              (λ ne. absurd (ne same.1)))
          | inr other ↦ subst (λ (b : Bool). CarryNumbers f.func d.base.layout s d.base.inputs e (if b then ks else w.under_way e) (st_brought.link e).transit) (sym other.0)
              (link-del s t rows st c at (λ (z : LinkState). CarryNumbers f.func d.base.layout s d.base.inputs e (w.under_way e) z.transit) e (λ is. absurd (other.1 is)) (λ ne. tied.packets e eb))
        ];
        used = used_brought;
        shown = shown_brought;
      }

      tied_brought : RunStands f d st_brought (with_lossy_event d w (Plain (Del c at)))
      tied_brought = brought_by (w.under_way c) (st.link c).transit refl refl (tied.packets c cb)

      -- ---- a loss

      abbrev st_lost : LossyState
      st_lost = next_after d es (Lose c at)

      nodes_lost : (i : ℕ) → i < node_count s → IsLosingAt f d st_lost i (w.stores i)
      nodes_lost i ib = losing_delivers.loss f d st i c at (w.stores i) (tied.nodes i ib)

      used_lost : (i : ℕ) → i < node_count s → w.used i ≡ (st_lost.node i).executed
      used_lost i ib = tied.used i ib ∙ ap (λ (v : NodeState). v.executed) (sym (node-lose s t rows st c at i))

      shown_lost : (y i x : ℕ) → GivesOutput d.base y i x → w.shown_so_far i x ≡ take (st_lost.node i).executed (stream y)
      shown_lost y i x g = tied.shown y i x g ∙ ap (λ (v : NodeState). take v.executed (stream y)) (sym (node-lose s t rows st c at i))

      lost_by : (ks : List Packet) (ms : List Message) → w.under_way c ≡ ks → (st.link c).transit ≡ ms → CarryNumbers f.func d.base.layout s d.base.inputs c ks ms → RunStands f d st_lost (with_loss w c ks)
      lost_by [] (m ∷ ms) g h carry = absurd carry
      lost_by (k ∷ ks) [] g h carry = absurd carry
      lost_by [] [] g h carry = record {
        nodes = nodes_lost;
        packets = λ e eb. link-lose s t rows st c at (λ (z : LinkState). CarryNumbers f.func d.base.layout s d.base.inputs e (w.under_way e) z.transit) e
            (λ same. subst (λ ms. CarryNumbers f.func d.base.layout s d.base.inputs e (w.under_way e) (link_lost (st.link c) ms).transit) (sym h) (subst (λ j. CarryNumbers f.func d.base.layout s d.base.inputs e (w.under_way e) (st.link j).transit) same (tied.packets e eb)))
            (λ ne. tied.packets e eb);
        used = used_lost;
        shown = shown_lost;
      }
      lost_by (k ∷ ks) (m ∷ ms) g h carry = record {
        nodes = nodes_lost;
        packets = λ e eb. elim (eqb_tells e c) [
          | inl same ↦ subst (λ (b : Bool). CarryNumbers f.func d.base.layout s d.base.inputs e (if b then ks else w.under_way e) (st_lost.link e).transit) (sym same.0)
              (link-lose s t rows st c at (λ (z : LinkState). CarryNumbers f.func d.base.layout s d.base.inputs e ks z.transit) e
              (λ is. subst (λ xs. CarryNumbers f.func d.base.layout s d.base.inputs e ks (link_lost (st.link c) xs).transit) (sym h) (subst (λ j. CarryNumbers f.func d.base.layout s d.base.inputs j ks ms) (sym is) carry.1))
              (λ ne. absurd (ne same.1)))
          | inr other ↦ subst (λ (b : Bool). CarryNumbers f.func d.base.layout s d.base.inputs e (if b then ks else w.under_way e) (st_lost.link e).transit) (sym other.0)
              (link-lose s t rows st c at (λ (z : LinkState). CarryNumbers f.func d.base.layout s d.base.inputs e (w.under_way e) z.transit) e (λ is. absurd (other.1 is)) (λ ne. tied.packets e eb))
        ];
        used = used_lost;
        shown = shown_lost;
      }

      tied_lost : RunStands f d st_lost (with_lossy_event d w (Lose c at))
      tied_lost = lost_by (w.under_way c) (st.link c).transit refl refl (tied.packets c cb)

    -- ---- an end

    tied_ended : (at : ℕ) → RunStands f d (next_after d es (Plain (End at))) w
    tied_ended at = record {
      nodes = λ i ib. stands_still f.func d.base.layout s d.base.inputs st (next_after d es (Plain (End at))) i (d.base.nodes i).code (w.stores i) (tied.nodes i ib) (node-end s t rows st at i) (λ e. ap (λ (z : LinkState). z.newest) (link-end s t rows st at e));
      packets = λ c cb. subst (λ (z : LinkState). CarryNumbers f.func d.base.layout s d.base.inputs c (w.under_way c) z.transit) (sym (link-end s t rows st at c)) (tied.packets c cb);
      used = λ i ib. tied.used i ib ∙ ap (λ (v : NodeState). v.executed) (sym (node-end s t rows st at i));
      shown = λ y i x g. tied.shown y i x g ∙ ap (λ (v : NodeState). take v.executed (stream y)) (sym (node-end s t rows st at i));
    }

    tied_event : (ev : LossyEvent) → IsLossyEventOf s ev → RunStands f d (next_after d es ev) (with_lossy_event d w ev)
    tied_event (Plain (Act n at)) event = tied_acted n at event.placed
    tied_event (Plain (Del c at)) event = tied_brought c at event.placed
    tied_event (Plain (End at)) event = tied_ended at
    tied_event (Lose c at) event = tied_lost c at event.placed

  -- ---- lists of events

  one_more : (old : LossyState) (es : List LossyEvent) (ev : LossyEvent) → lossy_after_all s t rows old (es ++ ev ∷ []) ≡ lossy_after s t rows (lossy_after_all s t rows old es) ev
  one_more old [] ev = refl
  one_more old (x ∷ es) ev = one_more (lossy_after s t rows old x) es ev

  free_more : (old : LossyState) (es : List LossyEvent) (ev : LossyEvent) → HasNoLossyOffence s t losses rows old es → lossy_offence s t losses (lossy_after_all s t rows old es) ev ≡ None → HasNoLossyOffence s t losses rows old (es ++ ev ∷ [])
  free_more old [] ev free clean = (clean, tt)
  free_more old (x ∷ es) ev free clean = (free.0, free_more (lossy_after s t rows old x) es ev free.1 clean)

  tied_events : (more es : List LossyEvent) → NoneSoFar d losses es → (w : NodesRunning) → RunStands f d (state_after d es) w → AllByRecursion (IsLossyEventOf s) more → HasNoLossyOffence s t losses rows (state_after d es) more →
      RunStands f d (lossy_after_all s t rows (state_after d es) more) (with_lossy_events d w more)
  tied_events [] es free w tied events clean = tied
  tied_events (ev ∷ more) es free w tied events clean =
      let later : state_after d (es ++ ev ∷ []) ≡ next_after d es ev = one_more lossy_start es ev in
      subst (λ st. RunStands f d (lossy_after_all s t rows st more) (with_lossy_events d (with_lossy_event d w ev) more)) later
      (tied_events more (es ++ ev ∷ []) (free_more lossy_start es ev free clean.0) (with_lossy_event d w ev)
      (subst (λ st. RunStands f d st (with_lossy_event d w ev)) (sym later) (tied_event es free w tied ev events.0)) events.1
      (subst (λ st. HasNoLossyOffence s t losses rows st more) (sym later) clean.1))

  pub tied_run : (memory : ℕ → Store) (es : List LossyEvent) → AllByRecursion (IsLossyEventOf s) es → NoneSoFar d losses es → RunStands f d (state_after d es) (with_lossy_events d (begun_losing d memory) es)
  tied_run memory es events free = tied_events es [] tt (begun_losing d memory) (tied_begun memory) events free

pub losing_run_stands : LosingRunStands
losing_run_stands f losses d is memory events are free = tied_run f losses d is memory events are free

pub lossy_run_is_whole : LossyRunIsWhole
lossy_run_is_whole f losses d is memory events are free =
    let s : Shape = d.base.shape in
    let rows : ℕ = length d.base.inputs in
    let fits = fits_of f losses d is in
    let tied = tied_run f losses d is memory events are free in
    let count : (y n x : ℕ) → GivesOutput d.base y n x → length ((with_lossy_events d (begun_losing d memory) events).shown_so_far n x) ≡ ((state_after d events).node n).executed =
    λ y n x g.
    ap length (tied.shown y n x g)
    ∙ length-take-le ((state_after d events).node n).executed (stream_of [] f.func d.base.inputs (slice_index_or d.base.layout.outs y 0))
    (subst (λ k. ((state_after d events).node n).executed ≤ k) (sym (stream_length [] f.func (slice_index_or d.base.layout.outs y 0) d.base.inputs)) (within_rows s d.base.timing losses rows events free n)) in
    record {
      fronts = tied.shown;
      count = count;
      enough = λ h admissible ends y n x g.
          subst (λ k. min (lossy_bound d.base.timing losses n h) rows ≤ k) (sym (count y n x g))
          (pace.law s d.base.timing losses rows events h n (fits.back_pressure refl) (fits.timed d.base.timing is.timed) admissible ends (let k = fits.channels.nodes in let b = g.1 in omega (arith, k, b)));
    }
