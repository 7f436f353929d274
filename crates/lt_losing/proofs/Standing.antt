-- A drawing that stands for a list.
use Rattle.std.proofs.Common.{◌≡◌, ◌≢◌, ℕ, ◌+◌, ◌*◌, ◌<◌, ◌≤◌, List, [], ◌∷◌, ◌++◌, length, drop, map, set, replicate, Option, Some, Result, Ok, Err, OnOk, Bool, true, false, if◌then◌else◌, inl, inr, refl, sym, ◌∙◌, ap, subst, arith, slice_index_or, length-set}
use Rattle.std.proofs.lemmas.List.{get_or-set_same, get_or-set_other, get_or-replicate, length-replicate, length-append, get_or_push, get_or_append_left, map-append}
use Rattle.rand_core.specs.Stream.{next_u64}
use Rattle.rand_core.specs.Steps.{stream_of}
use Rattle.rand_xoshiro.specs.SplitMix64.{splitmix_steps}
use Rattle.lt_base.specs.Truths.{how_many}
use Rattle.lt_arch.specs.declared.event.Event.TheVariants.{Act, Del}
use Rattle.lt_arch.specs.declared.shape.Shape.{Shape}
use Rattle.lt_arch.specs.declared.timing.Timing.{Timing}
use Rattle.lt_arch.specs.State.{NodeState}
use Rattle.lt_arch.specs.Readers.{node_count, chan_count, tmax_of}
use Rattle.lt_arch.specs.Deadline.{least_below}
use Rattle.lt_arch.specs.Shapes.{HaveSameNodes}
use Rattle.lt_arch.specs.Step.{updated, woken}
use Rattle.lt_arch.proofs.Changes.{same_or_not, at_updated}
use Rattle.lt_lossy.specs.declared.event.LossyEvent.TheVariants.{Plain, Lose}
use Rattle.lt_lossy.specs.State.{Message, LinkState, plain_of, sent_count, number_on}
use Rattle.lt_lossy.specs.Step.{lossy_after, link_with_message, link_delivered, link_lost}
use Rattle.lt_lossy.specs.Times.{oldest_in}
use Rattle.lt_lossy.proofs.Changes.{node-act, newest-act, losses-act, link-del, link-lose}
use Rattle.lt_sim.specs.Words.{left_after, drawn_word, number_in}
use Rattle.lt_sim.specs.Drawn.{pending_at, gap, delay}
use Rattle.lt_sim.proofs.Delays.{left-next}
use Rattle.lt_sim.proofs.Dues.{pending-node, pending-chan}
use Rattle.lt_losing.specs.Losing.{LossyDraw, as_lossless, next_lossy_due, lossy_beginning, sends_anew, with_arrival, lossy_activated, lossy_arrived}
use Rattle.lt_losing.specs.Held.{phase_when, count_on, sends_count, oldest_or_0, SendsAnew, TakesOldest, HoldsAll, LossyDrawingStands, HasFirstTimes}
use Rattle.lt_losing.specs.declared.drawing.LossyDrawing.{LossyDrawing}
use Rattle.lt_losing.proofs.Changed.{changed_all}
use Rattle.lt_losing.proofs.Least.{least_same}

pub on_both : {X E : Type 0} (r : Result X E) (A B C : Type 0) → OnOk r A → OnOk r B → (A → B → C) → OnOk r C
on_both (Ok x) A B C a b f = f a b
on_both (Err e) A B C a b f = tt

-- The first activations.

pub times_none : (t : Timing) (seed : ℕ) (xs : List ℕ) → xs ≡ [] → HasFirstTimes t seed 0 xs
times_none t seed xs is = record { size = ap (λ (l : List ℕ). length l) is; each = λ i lt. absurd (omega (arith, lt)) }

pub times_more : (t : Timing) (seed n v : ℕ) (xs ys : List ℕ) → HasFirstTimes t seed n xs → v ≡ number_in 0 (tmax_of t n) (drawn_word seed (n + 1)) → ys ≡ xs ++ v ∷ [] → HasFirstTimes t seed (n + 1) ys
times_more t seed n v xs ys h is ys_is = record {
  size = let size = h.size in let grown = ap (λ (l : List ℕ). length l) ys_is ∙ length-append xs (v ∷ []) in omega (arith, size, grown);
  each = λ i lt. ap (λ (l : List ℕ). slice_index_or l i 0) ys_is ∙ elim (same_or_not i n) [
    | inl e ↦ get_or_push xs v 0 i (h.size ∙ sym e) ∙ (is ∙ ap (λ k. number_in 0 (tmax_of t k) (drawn_word seed (k + 1))) (sym e))
    | inr ne ↦ let size = h.size in get_or_append_left xs (v ∷ []) 0 i (omega (arith, lt, ne, size)) ∙ h.each i (omega (arith, lt, ne))
  ];
}

-- The start.

pub stands_first : (k : LossyDrawing) (s : Shape) (t : Timing) (seed : ℕ) → HaveSameNodes s t → 2 * (node_count s + chan_count s) < 4294967296
    → HasFirstTimes t seed (length t.nodes) k.activations.items → stream_of splitmix_steps k.generator ≡ left_after seed (length t.nodes)
    → k.ready.items ≡ replicate (node_count s) false → k.executed.items ≡ replicate (node_count s) 0 → k.newest.items ≡ replicate (chan_count s) 0 → k.losses.items ≡ replicate (chan_count s) 0
    → k.numbers.items ≡ replicate {A = List ℕ} (chan_count s) [] → k.arrivals.items ≡ replicate {A = List ℕ} (chan_count s) [] → LossyDrawingStands k s t seed (lossy_beginning s t seed)
stands_first k s t seed same numbered times left ready executed newest losses numbers arrivals = record {
  same = same;
  numbered = numbered;
  holds = record {
    activations = times.size ∙ same;
    ready = ap (λ (l : List Bool). length l) ready ∙ length-replicate (node_count s) false;
    executed = ap (λ (l : List ℕ). length l) executed ∙ length-replicate (node_count s) 0;
    newest = ap (λ (l : List ℕ). length l) newest ∙ length-replicate (chan_count s) 0;
    losses = ap (λ (l : List ℕ). length l) losses ∙ length-replicate (chan_count s) 0;
    numbers = ap (λ (l : List (List ℕ)). length l) numbers ∙ length-replicate {A = List ℕ} (chan_count s) [];
    arrivals = ap (λ (l : List (List ℕ)). length l) arrivals ∙ length-replicate {A = List ℕ} (chan_count s) [];
  };
  left = left ∙ ap (left_after seed) same;
  activations = λ n lt. times.each n (omega (arith, lt, same));
  phases = λ n lt. sym (ap phase_when (ap (λ (l : List Bool). slice_index_or l n false) ready ∙ get_or-replicate (node_count s) n false false lt));
  executed = λ n lt. ap (λ (l : List ℕ). slice_index_or l n 0) executed ∙ get_or-replicate (node_count s) n 0 0 lt;
  newest = λ c lt. ap (λ (l : List ℕ). slice_index_or l c 0) newest ∙ get_or-replicate (chan_count s) c 0 0 lt;
  losses = λ c lt. ap (λ (l : List ℕ). slice_index_or l c 0) losses ∙ get_or-replicate (chan_count s) c 0 0 lt;
  numbers = λ c lt. ap (λ (l : List (List ℕ)). slice_index_or l c []) numbers ∙ get_or-replicate {A = List ℕ} (chan_count s) c [] [] lt;
  arrivals = λ c lt. ap (λ (l : List (List ℕ)). slice_index_or l c []) arrivals ∙ get_or-replicate {A = List ℕ} (chan_count s) c [] [] lt;
}

-- What happens next.

pub first_is : (k : LossyDrawing) (s : Shape) (t : Timing) (seed : ℕ) (d : LossyDraw) → LossyDrawingStands k s t seed d → (nodes : ℕ) (best result : Option (ℕ × ℕ)) → nodes ≡ length k.activations.items
    → best ≡ least_below (λ n. Some (slice_index_or k.activations.items n 0)) (length k.activations.items)
    → ((f : ℕ → Option ℕ) → best ≡ least_below f nodes → ((c : ℕ) → c < length k.arrivals.items → f (nodes + c) ≡ oldest_in (slice_index_or k.arrivals.items c [])) → result ≡ least_below f (nodes + length k.arrivals.items))
    → result ≡ next_lossy_due s d
first_is k s t seed d stands nodes best result nodes_is best_is result_is =
    let holds = stands.holds in
    let size : nodes ≡ node_count s = nodes_is ∙ holds.activations in
    let f : ℕ → Option ℕ = pending_at s (as_lossless d) in
    let each : (n : ℕ) → n < node_count s → Some (slice_index_or k.activations.items n 0) ≡ f n = λ n lt. ap (λ v. Some v) (stands.activations n lt) ∙ sym (pending-node s (as_lossless d) n lt) in
    let first : best ≡ least_below f nodes =
    best_is ∙ (ap (least_below (λ n. Some (slice_index_or k.activations.items n 0))) holds.activations ∙ (least_same (λ n. Some (slice_index_or k.activations.items n 0)) f (node_count s) each ∙ ap (least_below f) (sym size))) in
    let chans : (c : ℕ) → c < length k.arrivals.items → f (nodes + c) ≡ oldest_in (slice_index_or k.arrivals.items c []) =
    λ c lt. let few = holds.arrivals in ap (λ n. f (n + c)) size ∙ (pending-chan s (as_lossless d) c ∙ ap oldest_in (sym (stands.arrivals c (omega (arith, lt, few))))) in
    result_is f first chans ∙ (λ i. least_below f (size i + holds.arrivals i))

-- An activation.

numbers_sent : (b : Bool) (number at : ℕ) (link : LinkState) → (if b then map (λ (m : Message). m.number) link.transit ++ number ∷ [] else map (λ (m : Message). m.number) link.transit) ≡ map (λ (m : Message). m.number) (link_with_message b number at link).transit
numbers_sent true number at link = sym (map-append (λ (m : Message). m.number) link.transit (record { number = number; sent_at = at } ∷ []))
numbers_sent false number at link = refl

module _ (k : LossyDrawing) (s : Shape) (t : Timing) (rows seed : ℕ) (d : LossyDraw) (stands : LossyDrawingStands k s t seed d) (n at : ℕ) (lt : n < node_count s) where
  -- the node after it
  abbrev node_after : NodeState
  node_after = woken s t rows (plain_of d.state) n at

  module _ (new : LossyDrawing) (ready : Bool) (gap_drawn : ℕ) (phase : phase_when ready ≡ node_after.phase) (gap_is : gap_drawn ≡ gap t seed n (d.words + 1))
      (activations_set : new.activations.items ≡ set k.activations.items n (at + gap_drawn)) (ready_set : new.ready.items ≡ set k.ready.items n ready) (executed_set : new.executed.items ≡ set k.executed.items n node_after.executed)
      (sends : SendsAnew s t seed (d.words + 1) at (chan_count s) (sends_count s n (sent_count node_after) node_after.executed) (count_on s (sent_count node_after) node_after.executed) k.numbers.items k.arrivals.items new.numbers.items new.arrivals.items) where
    activation-act : (i : ℕ) → i < node_count s → slice_index_or new.activations.items i 0 ≡ updated d.activation n (at + gap t seed n (d.words + 1)) i
    activation-act i within =
        ap (λ (xs : List ℕ). slice_index_or xs i 0) activations_set
        ∙ at_updated (λ i v. i < node_count s → slice_index_or (set k.activations.items n (at + gap_drawn)) i 0 ≡ v) d.activation n (at + gap t seed n (d.words + 1))
        (λ _. let size = stands.holds.activations in get_or-set_same k.activations.items n (at + gap_drawn) 0 (omega (arith, lt, size)) ∙ ap (λ v. at + v) gap_is)
        (λ i ne inside. get_or-set_other k.activations.items n i (at + gap_drawn) 0 ne ∙ stands.activations i inside) i within

    phase-act : (i : ℕ) → i < node_count s → ((lossy_after s t rows d.state (Plain (Act n at))).node i).phase ≡ phase_when (slice_index_or new.ready.items i false)
    phase-act i within =
        node-act s t rows d.state n at (λ (v : NodeState). v.phase ≡ phase_when (slice_index_or (set k.ready.items n ready) i false)) i
        (λ e. let size = stands.holds.ready in
        sym phase ∙ ap phase_when (sym (subst (λ j. slice_index_or (set k.ready.items n ready) j false ≡ ready) (sym e) (get_or-set_same k.ready.items n ready false (omega (arith, lt, size))))))
        (λ ne. stands.phases i within ∙ ap phase_when (sym (get_or-set_other k.ready.items n i ready false ne)))
        ∙ ap (λ (xs : List Bool). phase_when (slice_index_or xs i false)) (sym ready_set)

    executed-act : (i : ℕ) → i < node_count s → slice_index_or new.executed.items i 0 ≡ ((lossy_after s t rows d.state (Plain (Act n at))).node i).executed
    executed-act i within =
        ap (λ (xs : List ℕ). slice_index_or xs i 0) executed_set
        ∙ node-act s t rows d.state n at (λ (v : NodeState). slice_index_or (set k.executed.items n node_after.executed) i 0 ≡ v.executed) i
        (λ e. let size = stands.holds.executed in subst (λ j. slice_index_or (set k.executed.items n node_after.executed) j 0 ≡ node_after.executed) (sym e) (get_or-set_same k.executed.items n node_after.executed 0 (omega (arith, lt, size))))
        (λ ne. get_or-set_other k.executed.items n i node_after.executed 0 ne ∙ stands.executed i within)

    numbers-act : (c : ℕ) → c < chan_count s → slice_index_or new.numbers.items c [] ≡ map (λ (m : Message). m.number) ((lossy_after s t rows d.state (Plain (Act n at))).link c).transit
    unfolding lossy_after
    numbers-act c within =
        let on = sends_anew s t rows d.state n at c in
        let number = number_on s node_after c in
        changed_all (chan_count s) (sends_count s n (sent_count node_after) node_after.executed) (λ c. slice_index_or k.numbers.items c [] ++ count_on s (sent_count node_after) node_after.executed c ∷ []) k.numbers.items new.numbers.items sends.numbers_are c within
        ∙ (ap (λ (xs : List ℕ). if on then xs ++ number ∷ [] else xs) (stands.numbers c within)
        ∙ numbers_sent on number at (d.state.link c))

    arrivals-act : (c : ℕ) → c < chan_count s → slice_index_or new.arrivals.items c [] ≡ (lossy_activated s t rows seed d n at).arrivals c
    arrivals-act c within =
        let on : ℕ → Bool = sends_anew s t rows d.state n at in
        let place : d.words + 1 + 1 + how_many on c ≡ d.words + 2 + how_many on c = omega arith in
        changed_all (chan_count s) (sends_count s n (sent_count node_after) node_after.executed)
        (λ c. with_arrival (slice_index_or k.arrivals.items c []) (at + delay s t seed c (d.words + 1 + 1 + how_many (sends_count s n (sent_count node_after) node_after.executed) c)))
        k.arrivals.items new.arrivals.items sends.arrivals_are c within
        ∙ (λ i. if on c then with_arrival (stands.arrivals c within i) (at + delay s t seed c (place i)) else stands.arrivals c within i)

    pub stands_act : new.newest.items ≡ k.newest.items → new.losses.items ≡ k.losses.items
        → stream_of splitmix_steps new.generator ≡ left_after seed (d.words + 1 + how_many (sends_count s n (sent_count node_after) node_after.executed) (chan_count s))
        → LossyDrawingStands new s t seed (lossy_activated s t rows seed d n at)
    stands_act newest_same losses_same left = record {
      same = stands.same;
      numbered = stands.numbered;
      holds = record {
        activations = ap (λ (xs : List ℕ). length xs) activations_set ∙ (length-set k.activations.items n (at + gap_drawn) ∙ stands.holds.activations);
        ready = ap (λ (xs : List Bool). length xs) ready_set ∙ (length-set k.ready.items n ready ∙ stands.holds.ready);
        executed = ap (λ (xs : List ℕ). length xs) executed_set ∙ (length-set k.executed.items n node_after.executed ∙ stands.holds.executed);
        newest = ap (λ (xs : List ℕ). length xs) newest_same ∙ stands.holds.newest;
        losses = ap (λ (xs : List ℕ). length xs) losses_same ∙ stands.holds.losses;
        numbers = sends.numbers_length ∙ stands.holds.numbers;
        arrivals = sends.arrivals_length ∙ stands.holds.arrivals;
      };
      left = left;
      activations = activation-act;
      phases = phase-act;
      executed = executed-act;
      newest = λ c within. ap (λ (xs : List ℕ). slice_index_or xs c 0) newest_same ∙ (stands.newest c within ∙ sym (newest-act s t rows d.state n at c));
      losses = λ c within. ap (λ (xs : List ℕ). slice_index_or xs c 0) losses_same ∙ (stands.losses c within ∙ sym (losses-act s t rows d.state n at c));
      numbers = numbers-act;
      arrivals = arrivals-act;
    }

-- A message that leaves its channel.

delivered-newest : (link : LinkState) (ms : List Message) → 1 ≤ length ms → oldest_or_0 (map (λ (m : Message). m.number) ms) ≡ (link_delivered link ms).newest
delivered-newest link [] some = absurd (omega (arith, some))
delivered-newest link (m ∷ ms) some = refl

delivered-losses : (link : LinkState) (ms : List Message) → 1 ≤ length ms → 0 ≡ (link_delivered link ms).losses
delivered-losses link [] some = absurd (omega (arith, some))
delivered-losses link (m ∷ ms) some = refl

delivered-numbers : (link : LinkState) (ms : List Message) → 1 ≤ length ms → drop 1 (map (λ (m : Message). m.number) ms) ≡ map (λ (m : Message). m.number) (link_delivered link ms).transit
delivered-numbers link [] some = absurd (omega (arith, some))
delivered-numbers link (m ∷ ms) some = refl

lost-newest : (link : LinkState) (ms : List Message) → link.newest ≡ (link_lost link ms).newest
lost-newest link [] = refl
lost-newest link (m ∷ ms) = refl

lost-losses : (link : LinkState) (ms : List Message) → 1 ≤ length ms → link.losses + 1 ≡ (link_lost link ms).losses
lost-losses link [] some = absurd (omega (arith, some))
lost-losses link (m ∷ ms) some = refl

lost-numbers : (link : LinkState) (ms : List Message) → 1 ≤ length ms → drop 1 (map (λ (m : Message). m.number) ms) ≡ map (λ (m : Message). m.number) (link_lost link ms).transit
lost-numbers link [] some = absurd (omega (arith, some))
lost-numbers link (m ∷ ms) some = refl

-- a list that was set at one place
set_at : {A : Type 0} (xs ys : List A) (c i : ℕ) (v d w : A) → ys ≡ set xs c v → c < length xs → (i ≡ c → v ≡ w) → (i ≢ c → slice_index_or xs i d ≡ w) → slice_index_or ys i d ≡ w
set_at xs ys c i v d w is lt here there = ap (λ l. slice_index_or l i d) is ∙ elim (same_or_not i c) [
  | inl e ↦ subst (λ j. slice_index_or (set xs c v) j d ≡ v) (sym e) (get_or-set_same xs c v d lt) ∙ here e
  | inr ne ↦ get_or-set_other xs c i v d ne ∙ there ne
]

module _ (k new : LossyDrawing) (s : Shape) (t : Timing) (rows seed : ℕ) (d : LossyDraw) (stands : LossyDrawingStands k s t seed d) (c at : ℕ) (lt : c < chan_count s) (some : 1 ≤ length (d.state.link c).transit) where
  module _ (lost : Bool) (takes : TakesOldest k new c lost) where
    holds-take : HoldsAll new (node_count s) (chan_count s)
    holds-take = record {
      activations = ap (λ (xs : List ℕ). length xs) takes.activations ∙ stands.holds.activations;
      ready = ap (λ (xs : List Bool). length xs) takes.ready ∙ stands.holds.ready;
      executed = ap (λ (xs : List ℕ). length xs) takes.executed ∙ stands.holds.executed;
      newest = ap (λ (xs : List ℕ). length xs) takes.newest ∙ (length-set k.newest.items c _ ∙ stands.holds.newest);
      losses = ap (λ (xs : List ℕ). length xs) takes.losses ∙ (length-set k.losses.items c _ ∙ stands.holds.losses);
      numbers = ap (λ (xs : List (List ℕ)). length xs) takes.numbers ∙ (length-set k.numbers.items c _ ∙ stands.holds.numbers);
      arrivals = ap (λ (xs : List (List ℕ)). length xs) takes.arrivals ∙ (length-set k.arrivals.items c _ ∙ stands.holds.arrivals);
    }

    left-take : stream_of splitmix_steps new.generator ≡ left_after seed (d.words + 1)
    left-take = takes.left ∙ (ap (λ stream. (next_u64 stream).1) stands.left ∙ sym (left-next seed d.words))

    arrivals-take : (i : ℕ) → i < chan_count s → slice_index_or new.arrivals.items i [] ≡ updated d.arrivals c (drop 1 (d.arrivals c)) i
    arrivals-take i within =
        ap (λ (xs : List (List ℕ)). slice_index_or xs i []) takes.arrivals
        ∙ at_updated (λ i v. i < chan_count s → slice_index_or (set k.arrivals.items c (drop 1 (slice_index_or k.arrivals.items c []))) i [] ≡ v) d.arrivals c (drop 1 (d.arrivals c))
        (λ _. let size = stands.holds.arrivals in get_or-set_same k.arrivals.items c (drop 1 (slice_index_or k.arrivals.items c [])) [] (omega (arith, lt, size)) ∙ ap (drop 1) (stands.arrivals c lt))
        (λ i ne inside. get_or-set_other k.arrivals.items c i (drop 1 (slice_index_or k.arrivals.items c [])) [] ne ∙ stands.arrivals i inside) i within

    executed-take : (i : ℕ) → i < node_count s → slice_index_or new.executed.items i 0 ≡ (d.state.node i).executed
    executed-take i within = ap (λ (xs : List ℕ). slice_index_or xs i 0) takes.executed ∙ stands.executed i within

    phases-take : (i : ℕ) → i < node_count s → (d.state.node i).phase ≡ phase_when (slice_index_or new.ready.items i false)
    phases-take i within = stands.phases i within ∙ ap (λ (xs : List Bool). phase_when (slice_index_or xs i false)) (sym takes.ready)

    activations-take : (i : ℕ) → i < node_count s → slice_index_or new.activations.items i 0 ≡ d.activation i
    activations-take i within = ap (λ (xs : List ℕ). slice_index_or xs i 0) takes.activations ∙ stands.activations i within

  pub stands_del : TakesOldest k new c false → LossyDrawingStands new s t seed (lossy_arrived s t rows d c (Plain (Del c at)))
  unfolding lossy_after
  stands_del takes =
      let sizes = stands.holds in
      let newest_in : c < length k.newest.items = let size = sizes.newest in omega (arith, lt, size) in
      let losses_in : c < length k.losses.items = let size = sizes.losses in omega (arith, lt, size) in
      let numbers_in : c < length k.numbers.items = let size = sizes.numbers in omega (arith, lt, size) in
      record {
        same = stands.same;
        numbered = stands.numbered;
        holds = holds-take false takes;
        left = left-take false takes;
        activations = activations-take false takes;
        phases = phases-take false takes;
        executed = executed-take false takes;
        newest = λ i within. link-del s t rows d.state c at (λ (l : LinkState). slice_index_or new.newest.items i 0 ≡ l.newest) i
            (λ e. set_at k.newest.items new.newest.items c i (oldest_or_0 (slice_index_or k.numbers.items c [])) 0 _ takes.newest newest_in (λ _. ap oldest_or_0 (stands.numbers c lt) ∙ delivered-newest (d.state.link c) (d.state.link c).transit some) (λ ne. absurd (ne e)))
            (λ ne. set_at k.newest.items new.newest.items c i (oldest_or_0 (slice_index_or k.numbers.items c [])) 0 _ takes.newest newest_in (λ e. absurd (ne e)) (λ _. stands.newest i within));
        losses = λ i within. link-del s t rows d.state c at (λ (l : LinkState). slice_index_or new.losses.items i 0 ≡ l.losses) i
            (λ e. set_at k.losses.items new.losses.items c i 0 0 _ takes.losses losses_in (λ _. delivered-losses (d.state.link c) (d.state.link c).transit some) (λ ne. absurd (ne e)))
            (λ ne. set_at k.losses.items new.losses.items c i 0 0 _ takes.losses losses_in (λ e. absurd (ne e)) (λ _. stands.losses i within));
        numbers = λ i within. link-del s t rows d.state c at (λ (l : LinkState). slice_index_or new.numbers.items i [] ≡ map (λ (m : Message). m.number) l.transit) i
            (λ e. set_at k.numbers.items new.numbers.items c i (drop 1 (slice_index_or k.numbers.items c [])) [] _ takes.numbers numbers_in (λ _. ap (drop 1) (stands.numbers c lt) ∙ delivered-numbers (d.state.link c) (d.state.link c).transit some) (λ ne. absurd (ne e)))
            (λ ne. set_at k.numbers.items new.numbers.items c i (drop 1 (slice_index_or k.numbers.items c [])) [] _ takes.numbers numbers_in (λ e. absurd (ne e)) (λ _. stands.numbers i within));
        arrivals = arrivals-take false takes;
      }

  pub stands_lose : TakesOldest k new c true → LossyDrawingStands new s t seed (lossy_arrived s t rows d c (Lose c at))
  unfolding lossy_after
  stands_lose takes =
      let sizes = stands.holds in
      let newest_in : c < length k.newest.items = let size = sizes.newest in omega (arith, lt, size) in
      let losses_in : c < length k.losses.items = let size = sizes.losses in omega (arith, lt, size) in
      let numbers_in : c < length k.numbers.items = let size = sizes.numbers in omega (arith, lt, size) in
      record {
        same = stands.same;
        numbered = stands.numbered;
        holds = holds-take true takes;
        left = left-take true takes;
        activations = activations-take true takes;
        phases = phases-take true takes;
        executed = executed-take true takes;
        newest = λ i within. link-lose s t rows d.state c at (λ (l : LinkState). slice_index_or new.newest.items i 0 ≡ l.newest) i
            (λ e. set_at k.newest.items new.newest.items c i (slice_index_or k.newest.items c 0) 0 _ takes.newest newest_in (λ _. stands.newest c lt ∙ lost-newest (d.state.link c) (d.state.link c).transit) (λ ne. absurd (ne e)))
            (λ ne. set_at k.newest.items new.newest.items c i (slice_index_or k.newest.items c 0) 0 _ takes.newest newest_in (λ e. absurd (ne e)) (λ _. stands.newest i within));
        losses = λ i within. link-lose s t rows d.state c at (λ (l : LinkState). slice_index_or new.losses.items i 0 ≡ l.losses) i
            (λ e. set_at k.losses.items new.losses.items c i (slice_index_or k.losses.items c 0 + 1) 0 _ takes.losses losses_in (λ _. ap (λ x. x + 1) (stands.losses c lt) ∙ lost-losses (d.state.link c) (d.state.link c).transit some) (λ ne. absurd (ne e)))
            (λ ne. set_at k.losses.items new.losses.items c i (slice_index_or k.losses.items c 0 + 1) 0 _ takes.losses losses_in (λ e. absurd (ne e)) (λ _. stands.losses i within));
        numbers = λ i within. link-lose s t rows d.state c at (λ (l : LinkState). slice_index_or new.numbers.items i [] ≡ map (λ (m : Message). m.number) l.transit) i
            (λ e. set_at k.numbers.items new.numbers.items c i (drop 1 (slice_index_or k.numbers.items c [])) [] _ takes.numbers numbers_in (λ _. ap (drop 1) (stands.numbers c lt) ∙ lost-numbers (d.state.link c) (d.state.link c).transit some) (λ ne. absurd (ne e)))
            (λ ne. set_at k.numbers.items new.numbers.items c i (drop 1 (slice_index_or k.numbers.items c [])) [] _ takes.numbers numbers_in (λ e. absurd (ne e)) (λ _. stands.numbers i within));
        arrivals = arrivals-take true takes;
      }
