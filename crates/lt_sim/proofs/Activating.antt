-- A drawing after what happens next.
use Rattle.std.proofs.Common.{◌≡◌, ℕ, ◌+◌, ◌-◌, ◌<◌, ◌≤◌, inl, inr, List, [], ◌∷◌, length, set, Option, Some, None, Bool, true, false, ◌&&◌, ◌||◌, ◌==◌, nat_lt, if◌then◌else◌, refl, sym, ◌∙◌, ap, subst, arith, slice_index_or, length-set, lt-ltb, add-zero}
use Rattle.std.specs.Prelude.{slice_set}
use Rattle.std.proofs.lemmas.Bool.{cases_lt}
use Rattle.std.proofs.lemmas.Bool.Decides.{eqb_tells}
use Rattle.std.proofs.lemmas.List.{get_or-set_same, get_or-set_other}
use Rattle.lt_arch.specs.declared.event.Deed.{Deed}
use Rattle.lt_arch.specs.declared.event.Deed.TheVariants.{Nothing, Execute, Send}
use Rattle.lt_arch.specs.declared.event.Event.TheVariants.{Act, Del}
use Rattle.lt_arch.specs.declared.shape.Shape.{Shape}
use Rattle.lt_arch.specs.declared.timing.Timing.{Timing}
use Rattle.lt_arch.specs.State.{State, Phase, executed_of, sent_of}
use Rattle.lt_arch.specs.Readers.{node_count, chan_count, chan_of, from_of, to_of, carries_data, dmin_of, dmax_of, is_back_pressure}
use Rattle.lt_arch.specs.Deeds.{deed_at, phase_at, more, data_from, ack_from}
use Rattle.lt_arch.specs.Step.{after, is_execute, updated, with_delivered, sends_on}
use Rattle.lt_arch.specs.Schedule.{IsOnePlace}
use Rattle.lt_arch.proofs.Changes.{same_or_not, updated-here, updated-other, delivered-act, executed-act, one_if}
use Rattle.lt_sim.specs.declared.drawing.Drawing.{Drawing}
use Rattle.lt_sim.specs.declared.progress.Progress.{Progress}
use Rattle.rand_core.specs.Steps.{stream_of}
use Rattle.rand_xoshiro.specs.SplitMix64.{splitmix_steps}
use Rattle.lt_sim.specs.Words.{left_after}
use Rattle.lt_sim.specs.Drawn.{Draw, pending_at, sends, gap, delay, activated, delivered}
use Rattle.lt_base.specs.Truths.{how_many}
use Rattle.lt_sim.specs.Tallies.{leads_kind_from}
use Rattle.lt_sim.specs.Progress.{ProgressIsAt, HasNode, IsNoneAhead}
use Rattle.lt_sim.specs.Controlled.{Controlled, no_controller, controller_of, controlled_after, IsControlled, AreControlled}
use Rattle.lt_sim.specs.Spans.{AreSpans, DrawsDelays}
use Rattle.lt_sim.specs.Standing.{IsTransitPending, IsPending, DrawingStands}
use Rattle.lt_sim.proofs.Counting.{how_many-same}
use Rattle.lt_sim.proofs.Dues.{pending-node, pending-chan}
use Rattle.lt_sim.proofs.Controls.{controlled_on}

-- What is kept has each node.
pub has_node : (p : Progress) (s : Shape) (e d : ℕ → ℕ) (n : ℕ) → ProgressIsAt p s e d → n < node_count s → HasNode p n
has_node p s e d n at lt =
    let a = at.executed_length in
    let m = at.messages in
    let k = at.acks in
    let mw = m.wanted_length in
    let mf = m.fresh_length in
    let me = m.early_length in
    let kw = k.wanted_length in
    let kf = k.fresh_length in
    let ke = k.early_length in
    record {
      executed = omega (arith, lt, a);
      messages_wanted = omega (arith, lt, mw);
      messages_fresh = omega (arith, lt, mf);
      messages_early = omega (arith, lt, me);
      acks_wanted = omega (arith, lt, kw);
      acks_fresh = omega (arith, lt, kf);
      acks_early = omega (arith, lt, ke);
    }

-- A channel is never far ahead of its receiver.

sent_low : (s : Shape) (st : State) (n : ℕ) → sent_of st n ≤ executed_of st n
sent_low s st n = omega arith

module _ (s : Shape) (st : State) (one : IsOnePlace s st) where
  pub ahead : (c : ℕ) → c < chan_count s → (st.chan c).delivered ≤ executed_of st (to_of s c) + 1
  ahead c lt = by (carries_data s c) refl
    where
      by : (b : Bool) → carries_data s c ≡ b → (st.chan c).delivered ≤ executed_of st (to_of s c) + 1
      by true is = let high = one.data_high c lt is in omega (arith, high)
      by false is = let high = one.ack_high c lt is in let low = sent_low s st (to_of s c) in omega (arith, high, low)

  pub none_ahead : (n : ℕ) → IsNoneAhead s (executed_of st) (λ c. (st.chan c).delivered) n
  none_ahead n c lt to = let h = ahead c lt in let e = ap (executed_of st) to in omega (arith, h, e)

-- The state after an activation.

module _ (s : Shape) (t : Timing) (rows : ℕ) (st : State) (n at : ℕ) where
  pub phases-act : (i : ℕ) → ((after s t rows st (Act n at)).node i).phase ≡ updated (λ i. (st.node i).phase) n (phase_at s t rows st n) i
  unfolding after
  phases-act i = elim (eqb_tells i n) [ inl e ↦ rw e.0 refl | inr e ↦ rw e.0 refl ]

  pub executed-more : deed_at s rows st n ≡ Execute → (i : ℕ) → executed_of (after s t rows st (Act n at)) i ≡ updated (executed_of st) n (executed_of st n + 1) i
  executed-more is i = executed-act s t rows st n at i ∙ elim (eqb_tells i n) [
    | inl e ↦
        let grown : executed_of st i + one_if ((i == n) && is_execute (deed_at s rows st n)) ≡ executed_of st i + 1 = λ j. executed_of st i + one_if (e.0 j && is_execute (is j)) in
        grown ∙ (ap (λ m. executed_of st m + 1) e.1 ∙ sym (updated-here (executed_of st) n (executed_of st n + 1) i e.1))
    | inr e ↦
        let same : executed_of st i + one_if ((i == n) && is_execute (deed_at s rows st n)) ≡ executed_of st i + 0 = λ j. executed_of st i + one_if (e.0 j && is_execute (deed_at s rows st n)) in
        same ∙ (add-zero (executed_of st i) ∙ sym (updated-other (executed_of st) n (executed_of st n + 1) i e.1))
  ]

  pub executed-same : is_execute (deed_at s rows st n) ≡ false → (i : ℕ) → executed_of (after s t rows st (Act n at)) i ≡ executed_of st i
  executed-same is i = executed-act s t rows st n at i ∙ ((λ j. executed_of st i + one_if ((i == n) && is j)) ∙ (ap (λ b. executed_of st i + one_if b) (and_no (i == n)) ∙ add-zero (executed_of st i)))
    where
      and_no : (b : Bool) → (b && false) ≡ false
      and_no true = refl
      and_no false = refl

pub at_same : (p : Progress) (s : Shape) (e f d g : ℕ → ℕ) → ((n : ℕ) → f n ≡ e n) → ((c : ℕ) → g c ≡ d c) → ProgressIsAt p s e d → ProgressIsAt p s f g
at_same p s e f d g he hd h =
    let pe : e ≡ f = λ i n. sym (he n) i in
    let pd : d ≡ g = λ i c. sym (hd c) i in
    subst (λ (g : ℕ → ℕ). ProgressIsAt p s f g) pd (subst (λ (f : ℕ → ℕ). ProgressIsAt p s f d) pe h)

-- On which channels a deed sends.

or_no : (b : Bool) → (b || false) ≡ b
or_no true = refl
or_no false = refl

pub sends-nothing : (s : Shape) (t : Timing) (rows : ℕ) (st : State) (n : ℕ) → deed_at s rows st n ≡ Nothing → (c : ℕ) → sends s t rows st n c ≡ false
sends-nothing s t rows st n is c = ap (λ (d : Deed). sends_on s t n d c) is

pub sends-data : (s : Shape) (t : Timing) (rows : ℕ) (st : State) (n : ℕ) → deed_at s rows st n ≡ Send → (c : ℕ) → sends s t rows st n c ≡ leads_kind_from s.channels true n c
unfolding chan_of
sends-data s t rows st n is c = ap (λ (d : Deed). sends_on s t n d c) is ∙ or_no (data_from s n c)

pub sends-acks : (s : Shape) (t : Timing) (rows : ℕ) (st : State) (n : ℕ) → deed_at s rows st n ≡ Execute → is_back_pressure t.protocol ≡ true → (c : ℕ) → sends s t rows st n c ≡ leads_kind_from s.channels false n c
unfolding chan_of
sends-acks s t rows st n is pressure c = ap (λ (d : Deed). sends_on s t n d c) is ∙ ap (λ (b : Bool). b && ack_from s n c) pressure

pub sends-none : (s : Shape) (t : Timing) (rows : ℕ) (st : State) (n : ℕ) → deed_at s rows st n ≡ Execute → is_back_pressure t.protocol ≡ false → (c : ℕ) → sends s t rows st n c ≡ false
sends-none s t rows st n is pressure c = ap (λ (d : Deed). sends_on s t n d c) is ∙ ap (λ (b : Bool). b && ack_from s n c) pressure

-- An activation.

module _ (k : Drawing) (s : Shape) (t : Timing) (rows seed : ℕ) (d : Draw) (stands : DrawingStands k s t seed d) (n at : ℕ) (lt : n < node_count s) where
  next : ℕ
  next = at + gap t seed n (d.words + 1)

  module _ (mid new : List (Option ℕ)) (on : ℕ → Bool) (on_is : (c : ℕ) → on c ≡ sends s t rows d.state n c)
      (mid_is : mid ≡ slice_set k.pending n (Some next)) (draws : DrawsDelays s t seed (d.words + 1) at (chan_count s) on mid new) where
    numbers : (c : ℕ) → how_many on c ≡ how_many (sends s t rows d.state n) c
    numbers c = how_many-same on (sends s t rows d.state n) c (λ i _. on_is i)

    places-act : length new ≡ node_count s + chan_count s
    places-act = draws.same_length ∙ (ap (λ (xs : List (Option ℕ)). length xs) mid_is ∙ (length-set k.pending n (Some next) ∙ stands.places))

    node-act : (i : ℕ) → i < node_count s → slice_index_or new i None ≡ pending_at s (activated s t rows seed d n at) i
    unfolding next
    node-act i within =
        let size = stands.places in
        draws.nodes i within ∙ (ap (λ (xs : List (Option ℕ)). slice_index_or xs i None) mid_is ∙ (elim (eqb_tells i n) [
          | inl e ↦
              let here : slice_index_or (set k.pending n (Some next)) i None ≡ Some next = subst (λ j. slice_index_or (set k.pending n (Some next)) j None ≡ Some next) (sym e.1) (get_or-set_same k.pending n (Some next) None (omega (arith, lt, size))) in
              let there : updated d.activation n next i ≡ next = updated-here d.activation n next i e.1 in
              here ∙ sym (pending-node s (activated s t rows seed d n at) i within ∙ ap (λ v. Some v) there)
          | inr e ↦
              let there : updated d.activation n next i ≡ d.activation i = updated-other d.activation n next i e.1 in
              get_or-set_other k.pending n i (Some next) None e.1 ∙ (stands.pending i (omega (arith, within)) ∙ (pending-node s d i within ∙ sym (pending-node s (activated s t rows seed d n at) i within ∙ ap (λ v. Some v) there)))
        ]))

    chan-act : (c : ℕ) → c < chan_count s → slice_index_or new (node_count s + c) None ≡ pending_at s (activated s t rows seed d n at) (node_count s + c)
    chan-act c within =
        let size = stands.places in
        let other : slice_index_or mid (node_count s + c) None ≡ d.delivery c =
        ap (λ (xs : List (Option ℕ)). slice_index_or xs (node_count s + c) None) mid_is ∙ (get_or-set_other k.pending n (node_count s + c) (Some next) None (λ e. absurd (omega (arith, e, lt)))
        ∙ (stands.pending (node_count s + c) (omega (arith, within)) ∙ pending-chan s d c)) in
        let test : (nat_lt c (chan_count s) && on c) ≡ sends s t rows d.state n c = λ i. lt-ltb c (chan_count s) within i && on_is c i in
        let place : d.words + 1 + 1 + how_many on c ≡ d.words + 2 + how_many (sends s t rows d.state n) c = let m = numbers c in omega (arith, m) in
        draws.channels c within
        ∙ ((λ i. if test i then Some (at + delay s t seed c (place i)) else other i) ∙ sym (pending-chan s (activated s t rows seed d n at) c))

    pending-act : (place : ℕ) → place < node_count s + chan_count s → slice_index_or new place None ≡ pending_at s (activated s t rows seed d n at) place
    pending-act place within = elim (cases_lt place (node_count s)) [
      | inl node ↦ node-act place node
      | inr past ↦
          let c = place - node_count s in
          let there : place ≡ node_count s + c = omega (arith, past) in
          subst (λ p. slice_index_or new p None ≡ pending_at s (activated s t rows seed d n at) p) (sym there) (chan-act c (omega (arith, within, there)))
    ]

  controllers-act : (cs : List Controlled) → cs ≡ slice_set k.controllers n (controlled_after (controller_of k.controllers n) (deed_at s rows d.state n))
      → AreControlled t (node_count s) (λ i. ((after s t rows d.state (Act n at)).node i).phase) cs
  controllers-act cs is = subst (AreControlled t (node_count s) (λ i. ((after s t rows d.state (Act n at)).node i).phase)) (sym is) (record {
    size = length-set k.controllers n (controlled_after (controller_of k.controllers n) (deed_at s rows d.state n)) ∙ stands.controllers.size;
    each = λ i within. subst (λ (ph : Phase). IsControlled t i ph (controller_of (set k.controllers n (controlled_after (controller_of k.controllers n) (deed_at s rows d.state n))) i)) (sym (phases-act s t rows d.state n at i)) (elim (same_or_not i n) [
      | inl e ↦
          let size = stands.controllers.size in
          let got : controller_of (set k.controllers n (controlled_after (controller_of k.controllers n) (deed_at s rows d.state n))) n ≡ controlled_after (controller_of k.controllers n) (deed_at s rows d.state n) =
          get_or-set_same k.controllers n (controlled_after (controller_of k.controllers n) (deed_at s rows d.state n)) no_controller (omega (arith, lt, size)) in
          let here = controlled_on t n (d.state.node n).phase (controller_of k.controllers n) (deed_at s rows d.state n) (stands.controllers.each n lt) in
          subst (λ j. IsControlled t j (updated (λ i. (d.state.node i).phase) n (phase_at s t rows d.state n) j) (controller_of (set k.controllers n (controlled_after (controller_of k.controllers n) (deed_at s rows d.state n))) j)) (sym e)
          (subst (λ (c : Controlled). IsControlled t n (updated (λ i. (d.state.node i).phase) n (phase_at s t rows d.state n) n) c) (sym got)
          (subst (λ (ph : Phase). IsControlled t n ph (controlled_after (controller_of k.controllers n) (deed_at s rows d.state n))) (sym (updated-here (λ i. (d.state.node i).phase) n (phase_at s t rows d.state n) n refl)) here))
      | inr ne ↦
          let got : controller_of (set k.controllers n (controlled_after (controller_of k.controllers n) (deed_at s rows d.state n))) i ≡ controller_of k.controllers i =
          get_or-set_other k.controllers n i (controlled_after (controller_of k.controllers n) (deed_at s rows d.state n)) no_controller ne in
          subst (λ (c : Controlled). IsControlled t i (updated (λ i. (d.state.node i).phase) n (phase_at s t rows d.state n) i) c) (sym got)
          (subst (λ (ph : Phase). IsControlled t i ph (controller_of k.controllers i)) (sym (updated-other (λ i. (d.state.node i).phase) n (phase_at s t rows d.state n) i ne)) (stands.controllers.each i within))
    ]);
  })

  -- the drawing after an activation
  pub stands-act : (new : Drawing) (deed : Deed) (mid : List (Option ℕ)) (gap_drawn : ℕ) (on : ℕ → Bool) → deed ≡ deed_at s rows d.state n → ((c : ℕ) → on c ≡ sends s t rows d.state n c)
      → gap_drawn ≡ gap t seed n (d.words + 1) → mid ≡ slice_set k.pending n (Some (at + gap_drawn)) → DrawsDelays s t seed (d.words + 1) at (chan_count s) on mid new.pending
      → stream_of splitmix_steps new.generator ≡ left_after seed (d.words + 1 + how_many on (chan_count s))
      → new.controllers ≡ slice_set k.controllers n (controlled_after (controller_of k.controllers n) deed)
      → ProgressIsAt new.progress s (executed_of (after s t rows d.state (Act n at))) (λ c. (d.state.chan c).delivered)
      → new.messages.items ≡ k.messages.items → new.acks.items ≡ k.acks.items
      → DrawingStands new s t seed (activated s t rows seed d n at)
  unfolding next
  stands-act new deed mid gap_drawn on deed_is on_is gap_is mid_is draws left controllers progress messages acks =
      let mid' : mid ≡ slice_set k.pending n (Some next) = mid_is ∙ ap (λ v. slice_set k.pending n (Some (at + v))) gap_is in
      record {
        same = stands.same;
        numbered = stands.numbered;
        left = left ∙ ap (λ m. left_after seed (d.words + 1 + m)) (numbers mid new.pending on on_is mid' draws (chan_count s));
        places = places-act mid new.pending on on_is mid' draws;
        pending = pending-act mid new.pending on on_is mid' draws;
        controllers = controllers-act new.controllers (controllers ∙ ap (λ (x : Deed). slice_set k.controllers n (controlled_after (controller_of k.controllers n) x)) deed_is);
        progress = at_same new.progress s (executed_of (after s t rows d.state (Act n at))) (executed_of (after s t rows d.state (Act n at))) (λ c. (d.state.chan c).delivered) (λ c. ((after s t rows d.state (Act n at)).chan c).delivered)
            (λ i. refl) (λ c. delivered-act s t rows d.state n at c) progress;
        messages = subst (AreSpans s.channels true (node_count s)) (sym messages) stands.messages;
        acks = subst (AreSpans s.channels false (node_count s)) (sym acks) stands.acks;
      }

-- A delivery.

transit_one : (dmin dmax : ℕ) (transit : List ℕ) (pending : Option ℕ) (at : ℕ) → IsTransitPending dmin dmax transit pending → pending ≡ Some at → (sent : ℕ) × (transit ≡ sent ∷ [])
transit_one dmin dmax [] None at h is = absurd cc
transit_one dmin dmax [] (Some p) at h is = absurd h
transit_one dmin dmax (sent ∷ []) pending at h is = (sent, refl)
transit_one dmin dmax (sent ∷ more ∷ later) pending at h is = absurd h

module _ (k : Drawing) (s : Shape) (t : Timing) (rows seed : ℕ) (d : Draw) (stands : DrawingStands k s t seed d) (pending : IsPending s t d) (c at : ℕ) (lt : c < chan_count s) (due : d.delivery c ≡ Some at) where
  delivered-more : (i : ℕ) → ((after s t rows d.state (Del c at)).chan i).delivered ≡ updated (λ i. (d.state.chan i).delivered) c ((d.state.chan c).delivered + 1) i
  unfolding after
  delivered-more i =
      let one = transit_one (dmin_of t (from_of s c) (to_of s c)) (dmax_of t (from_of s c) (to_of s c)) (d.state.chan c).transit (d.delivery c) at (pending.deliveries c lt) due in
      elim (eqb_tells i c) [
        | inl e ↦ rw e.0 (ap (λ (xs : List ℕ). (with_delivered (d.state.chan c) xs).delivered) one.1)
        | inr e ↦ rw e.0 refl
      ]

  executed-del : (i : ℕ) → executed_of (after s t rows d.state (Del c at)) i ≡ executed_of d.state i
  unfolding after
  executed-del i = refl

  pending-del : (place : ℕ) → place < node_count s + chan_count s → slice_index_or (slice_set k.pending (node_count s + c) None) place None ≡ pending_at s (delivered s t rows d c at) place
  pending-del place within = elim (cases_lt place (node_count s)) [
    | inl node ↦ get_or-set_other k.pending (node_count s + c) place None None (λ e. absurd (omega (arith, e, node))) ∙ (stands.pending place within ∙ (pending-node s d place node ∙ sym (pending-node s (delivered s t rows d c at) place node)))
    | inr past ↦
        let i = place - node_count s in
        let there : place ≡ node_count s + i = omega (arith, past) in
        let size = stands.places in
        subst (λ p. slice_index_or (slice_set k.pending (node_count s + c) None) p None ≡ pending_at s (delivered s t rows d c at) p) (sym there) (elim (same_or_not i c) [
          | inl e ↦ subst (λ j. slice_index_or (slice_set k.pending (node_count s + c) None) (node_count s + j) None ≡ pending_at s (delivered s t rows d c at) (node_count s + j)) (sym e)
              (get_or-set_same k.pending (node_count s + c) None None (omega (arith, lt, size)) ∙ sym (pending-chan s (delivered s t rows d c at) c ∙ updated-here d.delivery c None c refl))
          | inr ne ↦ get_or-set_other k.pending (node_count s + c) (node_count s + i) None None (λ e. ne (omega (arith, e)))
              ∙ (stands.pending (node_count s + i) (omega (arith, within, there)) ∙ (pending-chan s d i ∙ sym (pending-chan s (delivered s t rows d c at) i ∙ updated-other d.delivery c None i ne)))
        ])
  ]

  pub stands-del : (new : Drawing) (place : ℕ) → place ≡ node_count s + c → stream_of splitmix_steps new.generator ≡ stream_of splitmix_steps k.generator → new.pending ≡ slice_set k.pending place None → new.controllers ≡ k.controllers
      → ProgressIsAt new.progress s (executed_of d.state) (updated (λ i. (d.state.chan i).delivered) c ((d.state.chan c).delivered + 1)) → new.messages.items ≡ k.messages.items → new.acks.items ≡ k.acks.items
      → DrawingStands new s t seed (delivered s t rows d c at)
  unfolding after
  stands-del new place there generator set_is controllers progress messages acks =
      let is : new.pending ≡ slice_set k.pending (node_count s + c) None = set_is ∙ ap (λ p. slice_set k.pending p None) there in
      record {
        same = stands.same;
        numbered = stands.numbered;
        left = generator ∙ stands.left;
        places = ap (λ (xs : List (Option ℕ)). length xs) is ∙ (length-set k.pending (node_count s + c) None ∙ stands.places);
        pending = λ p within. ap (λ (xs : List (Option ℕ)). slice_index_or xs p None) is ∙ pending-del p within;
        controllers = subst (AreControlled t (node_count s) (λ i. (d.state.node i).phase)) (sym controllers) stands.controllers;
        progress = at_same new.progress s (executed_of d.state) (executed_of (after s t rows d.state (Del c at))) (updated (λ i. (d.state.chan i).delivered) c ((d.state.chan c).delivered + 1)) (λ i. ((after s t rows d.state (Del c at)).chan i).delivered) executed-del delivered-more progress;
        messages = subst (AreSpans s.channels true (node_count s)) (sym messages) stands.messages;
        acks = subst (AreSpans s.channels false (node_count s)) (sym acks) stands.acks;
      }
