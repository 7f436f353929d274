-- Deliveries, an end, and whole lists of events keep emitted nodes tied to the made net, which shows the program's streams.
use Rattle.std.proofs.Common.{◌≡◌, inl, inr, ℕ, ◌+◌, ◌*◌, ◌^◌, ◌<◌, ◌≤◌, Bool, true, false, List, [], ◌∷◌, ◌++◌, length, map, take, min, set, Some, None, refl, sym, ap, ◌∙◌, subst, arith}
use Rattle.std.specs.Prelude.{◌==◌, slice_index_or, if◌then◌else◌}
use Rattle.std.specs.List.{AllByRecursion}
use Rattle.std.proofs.lemmas.Bool.Decides.{eqb_tells}
use Rattle.std.proofs.lemmas.List.{append_assoc, append-nil, length-take-le}
use Rattle.lt_base.specs.Value.{ty_of}
use Rattle.lt_base.specs.Meaning.{stream_of}
use Rattle.lt_base.specs.Behaviour.{RowsFit}
use Rattle.lt_base.proofs.Streams.{stream_length}
use Rattle.lt_arch.specs.declared.event.Event.{Event}
use Rattle.lt_arch.specs.declared.event.Event.TheVariants.{Act, Del, End}
use Rattle.lt_arch.specs.declared.shape.Shape.{Shape}
use Rattle.lt_arch.specs.declared.timing.Timing.{Timing}
use Rattle.lt_arch.specs.State.{State, start, executed_of}
use Rattle.lt_arch.specs.Readers.{node_count, chan_count, carries_data, chan_of, no_chan, is_data}
use Rattle.lt_arch.specs.Schedule.{AreUpTo, IsEventOf, IsOffenceFree, HasNoOffence, OnePlace, reached}
use Rattle.lt_arch.specs.declared.limits.TheConstants.{GREATEST_TIME}
use Rattle.lt_arch.specs.Step.{offence_of}
use Rattle.lt_arch.specs.Times.{Times, HasTimes}
use Rattle.lt_io.specs.declared.message.Message.{Message}
use Rattle.lt_io.specs.FabricState.{FabricState, KeepsFabric, Delivers, channel_kind}
use Rattle.lt_link.specs.Inbox.{InboxState, no_inbox}
use Rattle.lt_link.specs.Ports.{is_to}
use Rattle.lt_norm.specs.Flat.{Originated}
use Rattle.lt_place.specs.Layout.{IsPlaced}
use Rattle.lt_net_node.specs.Channels.{FitsLayout}
use Rattle.lt_net_bench.proofs.Entries.{and_parts, same_number, other_number}
use Rattle.lt_net_bench.proofs.Fitting.{has_inputs}
use Rattle.lt_net_bench.proofs.LaidOut.{laid_out}
use Rattle.lt_net.specs.Net.{TimedBenchState, Lists, bench_of, reached_state}
use Rattle.lt_net.specs.Event.{EventIsTaken, FabricHolds, Happens, ListsGoOn, SameStatic}
use Rattle.lt_net.specs.Kept.{Kept}
use Rattle.lt_net.specs.Loop.{ReplayIsGiven}
use Rattle.lt_net.specs.Receives.{Receives}
use Rattle.lt_net.specs.Replay.{ReplayKeeps}
use Rattle.lt_net.specs.Stands.{NetStands}
use Rattle.lt_net.proofs.DeliveryTaken.{some_there, kept_arrival, arrival_happens, arrival_holds}
use Rattle.lt_net.proofs.EndStands.{after_all-more}
use Rattle.lt_net.proofs.EndTaken.{end_taken, kinds_kept}
use Rattle.lt_net.proofs.NextLists.{next_lists}
use Rattle.lt_net.proofs.OutputFronts.{cells_are_fronts}
use Rattle.lt_net.proofs.ReplayStep.{keeps_on}
use Rattle.lt_lead.specs.Paced.{bound_by}
use Rattle.lt_net_replay.specs.Sound.{PlansAreSound, PlanIsSound}
use Rattle.lt_c.specs.Meaning.{Store, store_left}
use Rattle.lt_c_control.specs.Inboxes.{delivering, acknowledging}
use Rattle.lt_c_net.specs.Stands.{sender, Packet, Carries, handed}
use Rattle.lt_c_net.specs.Laws.{taken_in}
use Rattle.lt_c_net.specs.Lists.{NodeFollows}
use Rattle.lt_c_net.specs.Nets.{NetDelivers, NetFollows}
use Rattle.lt_c_net.specs.Emitted.{IsEmittedNode}
use Rattle.lt_c_net.specs.Runs.{Deployment, NodesRunning, begun_with, with_event, with_events, with_delivery, value_count}
use Rattle.lt_c_net.specs.WholeRuns.{GivesOutput, EmittedRunIsWhole}
use Rattle.lt_c_net.proofs.Netted.{delivery_net}
use Rattle.lt_c_net.proofs.Packets.{how_many_values}
use Rattle.lt_c_net.proofs.SameOffence.{offence_same}
use Rattle.lt_c_net.proofs.MadeNet.{MadeControl, MadeMachine, made_controls, made_machines, MadeParts, made_net}
use Rattle.lt_c_net.proofs.Tied.{AllCarry, Tied, is_same, given_of, tied_at_start}
use Rattle.lt_c_net.proofs.TiedActs.{tied_act}

-- the kind of a channel that leads to a node
to_data : (s : Shape) (i c : ℕ) → is_to s.channels i true c ≡ true → carries_data s c ≡ true
unfolding chan_of
to_data s i c h = is_same (is_data (slice_index_or s.channels c no_chan).kind) (and_parts ((slice_index_or s.channels c no_chan).to == i) _ h).1

-- only of data it counts how many values come
count_matters : (s : Shape) (i c a b : ℕ) (k : Packet) (m : Store) → (carries_data s c ≡ true → a ≡ b) → taken_in s.channels i c a k m ≡ taken_in s.channels i c b k m
count_matters s i c a b k m same = by_kind (is_to s.channels i true c) refl
  where
    by_kind : (x : Bool) → is_to s.channels i true c ≡ x → taken_in s.channels i c a k m ≡ taken_in s.channels i c b k m
    by_kind true e = ap (λ count. taken_in s.channels i c count k m) (same (to_data s i c e))
    by_kind false e =
        let rest : Store = if is_to s.channels i false c then store_left (acknowledging (sender s.channels c)) (handed k m) else m in
        (λ j. if e j then store_left (delivering (sender s.channels c) a) (handed k m) else rest)
        ∙ sym (λ j. if e j then store_left (delivering (sender s.channels c) b) (handed k m) else rest)

module _ (f : Originated) (d : Deployment) (placed : IsPlaced f d.layout) (fits : FitsLayout d.layout d.timing.protocol d.shape) (one : OnePlace d.shape d.timing (length d.inputs)) (rows_fit : RowsFit f.func d.inputs) where
  -- ---- a delivery

  module _ (read : List Event) (w : NodesRunning) (t : Tied d read w) (ch at : ℕ) (event : IsEventOf d.shape (Del ch at)) (clean : offence_of d.shape d.timing (reached d.shape d.timing (length d.inputs) read) (Del ch at) ≡ None) where
    abbrev net : TimedBenchState MadeControl MadeMachine
    net = made_net d t.parts

    given : ReplayIsGiven net d.inputs
    given = given_of f d placed fits one rows_fit t.parts t.kept

    passes : (s : Shape) (u : Timing) (st : State) → HasTimes t.parts.watch s u st → offence_of s u st (Del ch at) ≡ None
    passes s u st h =
        sym (offence_same t.parts.watch d.shape s d.timing u (reached_state net t.ls) st t.keeps.stands_for.times h (Del ch at) event.placed)
        ∙ ap (λ es. offence_of d.shape d.timing (reached d.shape d.timing (length d.inputs) es) (Del ch at)) t.keeps.events ∙ clean

    -- with its oldest packet and message
    module _ (k : Packet) (ks : List Packet) (m : Message) (ms : List Message) (packets_are : w.under_way ch ≡ k ∷ ks) (messages_are : t.links.transit ch ≡ m ∷ ms) where
      carried : Carries k m × AllCarry ks ms
      carried = subst (λ xs. AllCarry xs (m ∷ ms)) packets_are (subst (AllCarry (w.under_way ch)) messages_are (t.packets ch event.placed))

      abbrev links_after : FabricState
      links_after = record t.links {
        transit = λ c. if c == ch then ms else t.links.transit c;
        delivered = λ c. if c == ch then t.links.delivered c ++ m ∷ [] else t.links.delivered c;
      }

      typed_here : (map ty_of m.payload ≡ channel_kind t.links ch) × AllByRecursion (λ (m : Message). map ty_of m.payload ≡ channel_kind t.links ch) ms
      typed_here = subst (AllByRecursion (λ (m : Message). map ty_of m.payload ≡ channel_kind t.links ch)) messages_are (t.typed ch event.placed)

      delivers : Delivers t.links links_after ch m
      delivers = record {
        kinds = refl;
        oldest = m;
        taken = messages_are ∙ ap (λ (b : Bool). m ∷ (if b then ms else t.links.transit ch)) (sym (same_number ch));
        elsewhere = λ c ne. ap (λ (b : Bool). if b then ms else t.links.transit c) (other_number c ch ne);
        bit = refl;
        types = refl;
        typed = typed_here.0;
        values = λ _. refl;
        sent = λ _ c. refl;
        delivered = λ _. record {
          there = ap (λ (b : Bool). if b then t.links.delivered ch ++ m ∷ [] else t.links.delivered ch) (same_number ch);
          elsewhere = λ c ne. ap (λ (b : Bool). if b then t.links.delivered c ++ m ∷ [] else t.links.delivered c) (other_number c ch ne);
        };
      }

      keeps_links : KeepsFabric t.links links_after
      keeps_links = record { faithful = refl; sound = refl; told = refl; prompt = λ p. p; opens = refl; kinds = refl }

      abbrev boxes : List InboxState
      boxes = set t.parts.inboxes ch (record (slice_index_or t.parts.inboxes ch no_inbox) { payload = m.payload; bit = m.bit })

      receives : Receives t.parts.inboxes boxes t.links links_after ch
      receives = record { message = m; delivers = delivers; inboxes = refl }

      abbrev watch_after : Times
      watch_after = record t.parts.watch { sends = set t.parts.watch.sends ch None; latest = Some at }

      abbrev parts_after : MadeParts
      parts_after = record t.parts { inboxes = boxes; watch = watch_after }

      abbrev later : TimedBenchState MadeControl MadeMachine
      later = made_net d parts_after

      static : SameStatic net later
      static = record { layout = refl; shape = refl; timing = refl; rows = refl }

      go : (next : Lists) × ListsGoOn net t.ls next (Del ch at) None m.payload
      go = next_lists net t.ls None m.payload (Del ch at) (λ i u e x none. absurd (cc))

      happens : Happens (NetStands made_controls made_machines net) (NetStands made_controls made_machines later) net (Del ch at) None t.links links_after
      happens = arrival_happens made_controls made_machines net t.kept ch at event.timely event.placed passes t.links links_after t.keeps.holds t.keeps.kinds boxes receives watch_after refl None

      -- the links are faithful, so what happened took this message
      payload_is : happens.payload ≡ m.payload
      payload_is =
          let some = next_lists net t.ls None happens.payload (Del ch at) (λ i u e x none. absurd (cc)) in
          let took = happens.carried t.ls some.0 t.keeps.stands_for some.1 in
          sym took.1 ∙ took.2.values t.faithful ∙ ap (λ (x : Message). x.payload) (one_oldest took.2.oldest m (links_after.transit ch) ms (sym took.2.taken ∙ messages_are))
        where
          one_oldest : (a b : Message) (xs ys : List Message) → a ∷ xs ≡ b ∷ ys → a ≡ b
          one_oldest a b xs ys e = cc

      kept_after : Kept made_controls made_machines later
      kept_after = kept_arrival made_controls made_machines net t.kept ch at event.timely event.placed passes t.links links_after t.keeps.holds t.keeps.kinds boxes receives watch_after refl

      holds_after : FabricHolds later links_after
      holds_after = arrival_holds made_controls made_machines net t.kept ch at event.timely event.placed passes t.links links_after t.keeps.holds t.keeps.kinds boxes receives watch_after refl

      stands_next : NetStands made_controls made_machines later go.0
      stands_next = happens.goes t.ls go.0 t.keeps.stands_for (subst (λ vs. ListsGoOn net t.ls go.0 (Del ch at) None vs) (sym payload_is) go.1)

      keeps_next : ReplayKeeps made_controls made_machines d.inputs (read ++ Del ch at ∷ []) later links_after go.0
      keeps_next = keeps_on MadeControl MadeMachine made_controls made_machines d.inputs read net later t.links links_after t.ls go.0 (Del ch at) None m.payload given.whole given.placed given.channels given.one_place given.rows t.keeps event.placed
          (λ i u r same is lt. absurd (cc)) go.1 (m, refl, delivers) keeps_links stands_next holds_after (kinds_kept net later t.links links_after t.keeps.kinds static refl) static

      net_delivers : NetDelivers made_controls made_machines net later t.ls go.0 ch at t.links links_after
      unfolding receives
      net_delivers = record {
        is_net = record { fixed = t.kept.fixed; sized = t.kept.sized; room = t.room; stood = t.keeps.stands_for };
        channel = event.placed;
        receives = receives;
        goes = go.1;
        static = static;
        controllers = refl;
        executed = refl;
      }

      count_is : carries_data d.shape ch ≡ true → length m.payload ≡ value_count d ch
      count_is data_too = how_many_values d.layout d.shape ch m.payload data_too (typed_here.0 ∙ t.keeps.kinds.each ch event.placed)

      follows_next : NetFollows made_controls later go.0 (λ n. (d.nodes n).code) (with_delivery d w ch (k ∷ ks)).stores
      unfolding net_delivers
      follows_next i lt =
          subst (λ s. NodeFollows made_controls (bench_of later) go.0.inputs go.0.got i (d.nodes i).code s)
          (count_matters d.shape i ch (length m.payload) (value_count d ch) k (w.stores i) count_is)
          (delivery_net made_controls made_machines net later t.ls go.0 ch at (λ n. (d.nodes n).code) w.stores t.links links_after net_delivers k carried.0 t.follows i lt)

      packets_next : (c : ℕ) → c < chan_count d.shape → AllCarry (if c == ch then ks else w.under_way c) (if c == ch then ms else t.links.transit c)
      packets_next c lt = by_channel (c == ch)
        where
          by_channel : (b : Bool) → AllCarry (if b then ks else w.under_way c) (if b then ms else t.links.transit c)
          by_channel true = carried.1
          by_channel false = t.packets c lt

      typed_next : (c : ℕ) → c < chan_count d.shape → AllByRecursion (λ (m : Message). map ty_of m.payload ≡ channel_kind t.links c) (if c == ch then ms else t.links.transit c)
      typed_next c lt = elim (eqb_tells c ch) [
        | inl e ↦ subst (AllByRecursion (λ (m : Message). map ty_of m.payload ≡ channel_kind t.links c)) (ap (λ (b : Bool). if b then ms else t.links.transit c) (sym e.0))
            (subst (λ j. AllByRecursion (λ (m : Message). map ty_of m.payload ≡ channel_kind t.links j) ms) (sym e.1) typed_here.1)
        | inr e ↦ subst (AllByRecursion (λ (m : Message). map ty_of m.payload ≡ channel_kind t.links c)) (ap (λ (b : Bool). if b then ms else t.links.transit c) (sym e.0)) (t.typed c lt)
      ]

      tied_with : Tied d (read ++ Del ch at ∷ []) (with_delivery d w ch (k ∷ ks))
      tied_with = record {
        parts = parts_after;
        links = links_after;
        ls = go.0;
        kept = kept_after;
        room = record { messages = t.room.messages; inputs = t.room.inputs; outputs = t.room.outputs; tracks = t.room.tracks; cells = t.room.cells; routes = t.room.routes; exits = t.room.exits; ports = t.room.ports };
        configured = t.configured;
        keeps = keeps_next;
        faithful = t.faithful;
        typed = typed_next;
        follows = follows_next;
        phases = t.phases;
        used = t.used;
        packets = packets_next;
        shown = t.shown;
      }

    pub tied_del : Tied d (read ++ Del ch at ∷ []) (with_delivery d w ch (w.under_way ch))
    tied_del = by_lists (w.under_way ch) (t.links.transit ch) refl refl
      where
        by_lists : (ks : List Packet) (ms : List Message) → w.under_way ch ≡ ks → t.links.transit ch ≡ ms → Tied d (read ++ Del ch at ∷ []) (with_delivery d w ch ks)
        by_lists (k ∷ ks) (m ∷ ms) e g = tied_with k ks m ms e g
        by_lists ks [] e g = absurd (some_there made_controls made_machines net t.kept ch at event.timely event.placed passes t.links t.keeps.holds g)
        by_lists [] (m ∷ ms) e g = absurd (subst (λ xs. AllCarry xs (m ∷ ms)) e (subst (AllCarry (w.under_way ch)) g (t.packets ch event.placed)))

  -- ---- an end

  module _ (read : List Event) (w : NodesRunning) (t : Tied d read w) (at : ℕ) (event : IsEventOf d.shape (End at)) (clean : offence_of d.shape d.timing (reached d.shape d.timing (length d.inputs) read) (End at) ≡ None) where
    abbrev net_before : TimedBenchState MadeControl MadeMachine
    net_before = made_net d t.parts

    passes_end : (s : Shape) (u : Timing) (st : State) → HasTimes t.parts.watch s u st → offence_of s u st (End at) ≡ None
    passes_end s u st h =
        sym (offence_same t.parts.watch d.shape s d.timing u (reached_state net_before t.ls) st t.keeps.stands_for.times h (End at) tt)
        ∙ ap (λ es. offence_of d.shape d.timing (reached d.shape d.timing (length d.inputs) es) (End at)) t.keeps.events ∙ clean

    abbrev parts_ended : MadeParts
    parts_ended = record t.parts { watch = record t.parts.watch { latest = Some at; horizon = Some at } }

    ended : EventIsTaken made_controls made_machines net_before (made_net d parts_ended) (End at) None t.links t.links
    ended = end_taken made_controls made_machines net_before t.kept at event.timely parts_ended.watch refl passes_end None t.links t.keeps.holds

    static_end : SameStatic net_before (made_net d parts_ended)
    static_end = record { layout = refl; shape = refl; timing = refl; rows = refl }

    given_end : ReplayIsGiven net_before d.inputs
    given_end = given_of f d placed fits one rows_fit t.parts t.kept

    go_end : (next : Lists) × ListsGoOn net_before t.ls next (End at) None ended.happens.payload
    go_end = next_lists net_before t.ls None ended.happens.payload (End at) (λ i u e x none. absurd (cc))

    stands_end : NetStands made_controls made_machines (made_net d parts_ended) go_end.0
    stands_end = ended.happens.goes t.ls go_end.0 t.keeps.stands_for go_end.1

    pub tied_end : Tied d (read ++ End at ∷ []) w
    tied_end = record {
      parts = parts_ended;
      links = t.links;
      ls = go_end.0;
      kept = ended.kept;
      room = record { messages = t.room.messages; inputs = t.room.inputs; outputs = t.room.outputs; tracks = t.room.tracks; cells = t.room.cells; routes = t.room.routes; exits = t.room.exits; ports = t.room.ports };
      configured = t.configured;
      keeps = keeps_on MadeControl MadeMachine made_controls made_machines d.inputs read net_before (made_net d parts_ended) t.links t.links t.ls go_end.0 (End at) None ended.happens.payload given_end.whole given_end.placed given_end.channels given_end.one_place given_end.rows t.keeps tt
          (λ i u r same is lt. absurd (cc)) go_end.1 (ended.happens.carried t.ls go_end.0 t.keeps.stands_for go_end.1) (record { faithful = refl; sound = refl; told = refl; prompt = λ p. p; opens = refl; kinds = refl }) stands_end ended.holds
          (kinds_kept net_before (made_net d parts_ended) t.links t.links t.keeps.kinds static_end refl) static_end;
      faithful = t.faithful;
      typed = t.typed;
      follows = λ n lt. subst (λ (z : Lists). NodeFollows made_controls (bench_of (made_net d parts_ended)) z.inputs z.got n (d.nodes n).code (w.stores n))
          (λ i. record { events = go_end.0.events; inputs = λ n. sym (go_end.1.inputs n) i; got = λ c. sym (go_end.1.got c) i }) (t.follows n lt);
      phases = t.phases;
      used = t.used;
      packets = t.packets;
      shown = t.shown;
    }

  module _ (few : 2 * (node_count d.shape + chan_count d.shape) < 2 ^ 32) (coded : (n : ℕ) → n < node_count d.shape → IsEmittedNode d.layout d.shape n (d.nodes n)) where
    tied_event : (read : List Event) (w : NodesRunning) → Tied d read w → (e : Event) → IsEventOf d.shape e → offence_of d.shape d.timing (reached d.shape d.timing (length d.inputs) read) e ≡ None → Tied d (read ++ e ∷ []) (with_event d w e)
    tied_event read w t (Act n at) event clean = tied_act f d placed fits one rows_fit coded read w t n at event clean
    tied_event read w t (Del c at) event clean = tied_del read w t c at event clean
    tied_event read w t (End at) event clean = tied_end read w t at event clean

    tied_events : (es read : List Event) (w : NodesRunning) → Tied d read w → AllByRecursion (IsEventOf d.shape) es → HasNoOffence d.shape d.timing (length d.inputs) (reached d.shape d.timing (length d.inputs) read) es → Tied d (read ++ es) (with_events d w es)
    tied_events [] read w t events clean = subst (λ r. Tied d r w) (sym (append-nil read)) t
    tied_events (e ∷ es) read w t events clean =
        subst (λ r. Tied d r (with_events d (with_event d w e) es)) (append_assoc read (e ∷ []) es)
        (tied_events es (read ++ e ∷ []) (with_event d w e) (tied_event read w t e events.0 clean.0) events.1
        (subst (λ st. HasNoOffence d.shape d.timing (length d.inputs) st es) (sym (after_all-more d.shape d.timing (length d.inputs) (start d.timing.protocol) read e)) clean.1))

    -- along every list of events
    pub tied_run : (memory : ℕ → Store) (es : List Event) → AllByRecursion (IsEventOf d.shape) es → IsOffenceFree d.shape d.timing (length d.inputs) es → Tied d es (with_events d (begun_with d memory) es)
    tied_run memory es events clean = tied_events es [] (begun_with d memory) (tied_at_start f d placed fits one rows_fit few coded memory) events clean

-- ---- the whole

up_to : (s : Shape) (es : List Event) → AllByRecursion (IsEventOf s) es → AreUpTo GREATEST_TIME es
up_to s [] h = tt
up_to s (e ∷ es) h = (h.0.timely, up_to s es h.1)

pub run_is_whole : PlansAreSound → EmittedRunIsWhole
run_is_whole plans f pace d is memory events are clean =
    let sound : PlanIsSound d.layout d.shape d.timing (length d.inputs) = plans f d.layout d.shape d.timing (length d.inputs) is.placed (pace, is.paced) is.timed is.accepted in
    let t = tied_run f d is.placed sound.fits sound.one_place is.fit (sound.numbered is.few) is.coded memory events are clean in
    let net : TimedBenchState MadeControl MadeMachine = made_net d t.parts in
    let st : State = reached d.shape d.timing (length d.inputs) events in
    let st_is : reached_state net t.ls ≡ st = ap (reached d.shape d.timing (length d.inputs)) t.keeps.events in
    let laid = laid_out f d.layout is.placed in
    let covers = has_inputs f.func is.placed.good d.inputs is.fit in
    let fronts : (y n x : ℕ) → GivesOutput d y n x → (with_events d (begun_with d memory) events).shown_so_far n x ≡ take (executed_of st n) (stream_of [] f.func d.inputs (slice_index_or d.layout.outs y 0)) =
    λ y n x g.
    t.shown y n x g
    ∙ cells_are_fronts MadeControl MadeMachine made_controls made_machines net t.ls f.func laid sound.fits.channels sound.one_place t.keeps.stands_for (t.keeps.owns t.faithful) d.inputs covers t.keeps.same_inputs y n x g.0 g.1 g.2
    ∙ ap (λ (z : State). take (executed_of z n) (stream_of [] f.func d.inputs (slice_index_or d.layout.outs y 0))) st_is in
    let few_rows : (n : ℕ) → n < length d.layout.nodes → executed_of st n ≤ length d.inputs =
    λ n lt.
    let node : n < node_count d.shape = let k = sound.fits.channels.nodes in omega (arith, k, lt) in
    let within = t.keeps.same_inputs.within n node in
    let rows : length (t.ls.inputs n) ≡ executed_of st n = t.keeps.stands_for.bench.rows n node ∙ ap (λ (z : State). executed_of z n) st_is in
    omega (arith, within, rows) in
    let count : (y n x : ℕ) → GivesOutput d y n x → length ((with_events d (begun_with d memory) events).shown_so_far n x) ≡ executed_of st n =
    λ y n x g.
    ap length (fronts y n x g)
    ∙ length-take-le (executed_of st n) (stream_of [] f.func d.inputs (slice_index_or d.layout.outs y 0))
    (subst (λ k. executed_of st n ≤ k) (sym (stream_length [] f.func (slice_index_or d.layout.outs y 0) d.inputs)) (few_rows n g.1)) in
    record {
      fronts = fronts;
      count = count;
      enough = λ h admissible ends y n x g.
          let node : n < node_count d.shape = let k = sound.fits.channels.nodes in let b = g.1 in omega (arith, k, b) in
          subst (λ k. min (bound_by pace d.timing n h) (length d.inputs) ≤ k) (sym (count y n x g)) (sound.least pace is.paced events h n (up_to d.shape events are) admissible ends node);
    }
