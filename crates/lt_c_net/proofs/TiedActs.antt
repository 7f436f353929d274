-- An activation keeps emitted nodes tied to the made net.
use Rattle.std.proofs.Common.{◌≡◌, inl, inr, ℕ, ◌+◌, ◌^◌, ◌<◌, ◌≤◌, Bool, true, false, pos, List, [], ◌∷◌, ◌++◌, length, map, Some, None, IsTrue, refl, sym, ap, ◌∙◌, subst, arith, length-append}
use Rattle.std.specs.Prelude.{◌&&◌, ◌==◌, nat_lt, slice_index_or, if◌then◌else◌}
use Rattle.std.specs.List.{slice_get, AllByRecursion}
use Rattle.std.proofs.lemmas.Bool.Decides.{Decides-eqb, eqb_tells, nat_tests}
use Rattle.std.proofs.lemmas.Option.{slice_get_within}
use Rattle.lt_base.specs.declared.value.Value.{Value}
use Rattle.lt_base.specs.declared.value.Cell.{Cell}
use Rattle.lt_base.specs.Value.{ty_of}
use Rattle.lt_base.specs.Behaviour.{RowsFit}
use Rattle.lt_base.specs.Operators.{int_eq}
use Rattle.lt_arch.specs.declared.event.Deed.{Deed}
use Rattle.lt_arch.specs.declared.event.Deed.TheVariants.{Nothing, Execute, Send}
use Rattle.lt_arch.specs.declared.event.Event.{Event}
use Rattle.lt_arch.specs.declared.event.Event.TheVariants.{Act, Del, End}
use Rattle.lt_arch.specs.declared.shape.Shape.{Shape}
use Rattle.lt_arch.specs.declared.timing.Protocol.{Protocol}
use Rattle.lt_arch.specs.declared.timing.Protocol.TheVariants.{BackPressure, TimeBased}
use Rattle.lt_arch.specs.declared.timing.Timing.{Timing}
use Rattle.lt_arch.specs.State.{State}
use Rattle.lt_arch.specs.Readers.{node_count, chan_count, from_of, to_of, carries_data, is_back_pressure, send_of, execute_of, chan_of, no_chan, is_data}
use Rattle.lt_arch.specs.Deeds.{deed_at, phase_after}
use Rattle.lt_arch.specs.Schedule.{IsEventOf, OnePlace, reached}
use Rattle.lt_arch.specs.Step.{offence_of, is_execute, is_send}
use Rattle.lt_arch.specs.Times.{HasTimes}
use Rattle.lt_io.specs.declared.message.Message.{Message}
use Rattle.lt_io.specs.FabricState.{channel_kind}
use Rattle.lt_link.specs.Ports.{is_from}
use Rattle.lt_norm.specs.Flat.{Originated}
use Rattle.lt_place.specs.Layout.{IsPlaced, part_of}
use Rattle.lt_net_node.specs.Channels.{FitsLayout}
use Rattle.lt_net_node.specs.Local.{local_stream}
use Rattle.lt_net_node.specs.Payloads.{payloads_between, row_at}
use Rattle.lt_net_node.specs.Wakes.{Wakes}
use Rattle.lt_net_bench.specs.Executes.{bits_at}
use Rattle.lt_net_bench.specs.Track.{track_at}
use Rattle.lt_net_bench.proofs.Entries.{got_entry, and_parts, true_false}
use Rattle.lt_net.specs.Net.{TimedBenchState, Lists, bench_of, reached_state}
use Rattle.lt_net.specs.Event.{ListsGoOn, InputsGo, SameStatic}
use Rattle.lt_net.specs.Loop.{ReplayIsGiven}
use Rattle.lt_net.specs.Replay.{ReplayKeeps}
use Rattle.lt_net.specs.Sends.{message_on, messages_with}
use Rattle.lt_net.specs.Stands.{NetStands}
use Rattle.lt_net.proofs.EndTaken.{kinds_kept}
use Rattle.lt_net.proofs.NextLists.{next_lists}
use Rattle.lt_net.proofs.ReplayStep.{keeps_on, deed_more}
use Rattle.lt_c.specs.Meaning.{Store, store_left}
use Rattle.lt_c_control.specs.Control.{deed_number, IsCounting}
use Rattle.lt_c_net.specs.Stands.{Carries, offered, ListsSenders}
use Rattle.lt_c_net.specs.Moves.{IsCodeOfNode, Moves, own_row}
use Rattle.lt_c_net.specs.Lists.{NodeFollows, FollowsAfter, ActsListed}
use Rattle.lt_c_net.specs.Nets.{IsNet, NetActs, NetFollows, with_store}
use Rattle.lt_c_net.specs.Emitted.{NodeCode, IsEmittedNode, activation_under, has_executed, has_sent, packet_for, answer_packet, told_cell}
use Rattle.lt_c_net.specs.Runs.{Deployment, NodesRunning, activated_store, put_on, with_activation}
use Rattle.lt_c_net.specs.Told.{TellsNextCells}
use Rattle.lt_c_net.specs.WholeRuns.{GivesOutput}
use Rattle.lt_c_net.proofs.Answered.{deeds_agree}
use Rattle.lt_c_net.proofs.Listed.{pressing_follows, counting_follows}
use Rattle.lt_c_net.proofs.Netted.{listed, all_follow}
use Rattle.lt_c_net.proofs.Packets.{packets_agree}
use Rattle.lt_c_net.proofs.Shaped.{pressing_stays, counting_stays}
use Rattle.lt_c_net.proofs.Telling.{pressing_tells, counting_tells}
use Rattle.lt_c_net.proofs.SameOffence.{offence_same}
use Rattle.lt_c_net.proofs.MadeNet.{MadeControl, MadeMachine, made_controls, made_machines, made_net}
use Rattle.lt_c_net.proofs.MadeActs.{puts_by, ActMade, acts_made}
use Rattle.lt_c_net.proofs.Tied.{AllCarry, IsPhaseOf, Tied, executed_told, sent_told, puts_bit, puts_are, carry_on, typed_more, from_parts, is_same, is_opposite, send_fits, execute_fits, given_of}

node_in : Event → ℕ
node_in (Act n at) = n
node_in (Del c at) = c
node_in (End at) = 0

below : (a b : ℕ) → nat_lt a b ≡ true → a < b
below a b h = grind (arith, nat_tests, h)

-- how long lists of rows become
longer_by : (n at i : ℕ) (row : List Value) (old new : ℕ → List (List Value)) (deed : Deed) → InputsGo (Act n at) deed (Some row) old new → length (new i) ≡ (if (i == n) && is_execute deed then length (old i) + 1 else length (old i))
longer_by n at i row old new Nothing goes = ap length (goes i) ∙ sym (stays (i == n))
  where
    stays : (b : Bool) → (if b && false then length (old i) + 1 else length (old i)) ≡ length (old i)
    stays true = refl
    stays false = refl
longer_by n at i row old new Send goes = ap length (goes i) ∙ sym (stays (i == n))
  where
    stays : (b : Bool) → (if b && false then length (old i) + 1 else length (old i)) ≡ length (old i)
    stays true = refl
    stays false = refl
longer_by n at i row old new Execute goes = elim (eqb_tells i n) [
  | inl e ↦ ap (λ j. length (new j)) e.1 ∙ ap length goes.there ∙ length-append (old n) (row ∷ []) ∙ ap (λ j. length (old j) + 1) (sym e.1) ∙ sym (ap (λ (b : Bool). if b && true then length (old i) + 1 else length (old i)) e.0)
  | inr e ↦ ap length (goes.elsewhere i e.1) ∙ sym (ap (λ (b : Bool). if b && true then length (old i) + 1 else length (old i)) e.0)
]

-- nodes that execute nothing keep theirs
rows_stay : (n at i : ℕ) (row : List Value) (old new : ℕ → List (List Value)) (deed : Deed) → ((i == n) && is_execute deed) ≡ false → InputsGo (Act n at) deed (Some row) old new → new i ≡ old i
rows_stay n at i row old new Nothing idle goes = goes i
rows_stay n at i row old new Send idle goes = goes i
rows_stay n at i row old new Execute idle goes = elim (eqb_tells i n) [
  | inl e ↦ absurd (true_false (sym (ap (λ (b : Bool). b && true) e.0) ∙ idle))
  | inr e ↦ goes.elsewhere i e.1
]

-- under the time-based protocol no acknowledgements come
no_answers : (s : Shape) (n : ℕ) → ((c : ℕ) → c < chan_count s → carries_data s c ≡ true) → ListsSenders s.channels n false []
unfolding chan_of
no_answers s n only_data = record {
  all = λ c lt to.
      let p = and_parts ((slice_index_or s.channels c no_chan).to == n) _ to in
      absurd (true_false (sym (only_data c lt) ∙ is_opposite (is_data (slice_index_or s.channels c no_chan).kind) p.1));
  only = λ j h. absurd (cc);
}

module _ (f : Originated) (d : Deployment) (placed : IsPlaced f d.layout) (fits : FitsLayout d.layout d.timing.protocol d.shape) (one : OnePlace d.shape d.timing (length d.inputs)) (rows_fit : RowsFit f.func d.inputs)
    (coded : (n : ℕ) → n < node_count d.shape → IsEmittedNode d.layout d.shape n (d.nodes n))
    (read : List Event) (w : NodesRunning) (t : Tied d read w) (n at : ℕ) (event : IsEventOf d.shape (Act n at)) (clean : offence_of d.shape d.timing (reached d.shape d.timing (length d.inputs) read) (Act n at) ≡ None) where
  abbrev net : TimedBenchState MadeControl MadeMachine
  net = made_net d t.parts

  abbrev count : ℕ
  count = slice_index_or t.parts.executed n 0

  abbrev row : List Value
  row = row_at d.inputs count

  abbrev node : NodeCode
  node = d.nodes n

  abbrev m' : Store
  m' = activated_store d w n

  given : ReplayIsGiven net d.inputs
  given = given_of f d placed fits one rows_fit t.parts t.kept

  clean_now : offence_of d.shape d.timing (reached_state net t.ls) (Act n at) ≡ None
  clean_now = ap (λ es. offence_of d.shape d.timing (reached d.shape d.timing (length d.inputs) es) (Act n at)) t.keeps.events ∙ clean

  passes : (s : Shape) (u : Timing) (st : State) → HasTimes t.parts.watch s u st → offence_of s u st (Act n at) ≡ None
  passes s u st h = sym (offence_same t.parts.watch d.shape s d.timing u (reached_state net t.ls) st t.keeps.stands_for.times h (Act n at) event.placed) ∙ clean_now

  -- the made net goes on
  made : (deed : Deed) × ActMade d t.parts t.links n at row deed
  made = acts_made d t.parts t.links t.kept t.room t.configured t.keeps.holds n at event.timely event.placed passes row (λ lt. given.fit n count event.placed lt)

  abbrev deed : Deed
  deed = made.0

  abbrev later : TimedBenchState MadeControl MadeMachine
  later = made_net d made.1.later

  static : SameStatic net later
  static = record { layout = refl; shape = refl; timing = refl; rows = refl }

  go : (next : Lists) × ListsGoOn net t.ls next (Act n at) (Some row) []
  go = next_lists net t.ls (Some row) [] (Act n at) (λ i u e x none. absurd (cc))

  abbrev next : Lists
  next = go.0

  goes : ListsGoOn net t.ls next (Act n at) (Some row) made.1.happens.payload
  goes = record { events = go.1.events; inputs = go.1.inputs; got = go.1.got }

  stands_next : NetStands made_controls made_machines later next
  stands_next = made.1.happens.goes t.ls next t.keeps.stands_for goes

  keeps_next : ReplayKeeps made_controls made_machines d.inputs (read ++ Act n at ∷ []) later made.1.links_after next
  unfolding node_in
  keeps_next =
      keeps_on MadeControl MadeMachine made_controls made_machines d.inputs read net later t.links made.1.links_after t.ls next (Act n at) (Some row) made.1.happens.payload given.whole given.placed given.channels given.one_place given.rows t.keeps event.placed
      right_row goes (made.1.happens.carried t.ls next t.keeps.stands_for goes) made.1.keeps stands_next made.1.holds (kinds_kept net later t.links made.1.links_after t.keeps.kinds static made.1.keeps.kinds) static
    where
      right_row : (i u : ℕ) (r : List Value) → Act n at ≡ Act i u → Some row ≡ Some r → length (t.ls.inputs i) < length d.inputs → r ≡ row_at d.inputs (length (t.ls.inputs i))
      right_row i u r same is lt =
          let r_is : row ≡ r = cc in
          sym r_is ∙ ap (row_at d.inputs) (t.keeps.stands_for.bench.ran.executed n event.placed ∙ ap (λ e. length (t.ls.inputs (node_in e))) same)

  is_net : IsNet made_controls made_machines net t.ls
  is_net = record { fixed = t.kept.fixed; sized = t.kept.sized; room = t.room; stood = t.keeps.stands_for }

  is_net_next : IsNet made_controls made_machines later next
  is_net_next = record { fixed = made.1.kept.fixed; sized = made.1.kept.sized; room = made.1.room; stood = stands_next }

  deed_is : deed ≡ deed_at d.shape (length d.inputs) (reached_state net t.ls) n
  deed_is = deeds_agree made_controls made_machines net t.ls n made.1.later.controllers deed is_net event.placed made.1.wakes

  acts : NetActs made_controls made_machines net later t.ls next n at row
  acts = record {
    is_net = is_net;
    node = event.placed;
    timely = event.timely;
    clean = clean_now;
    goes = go.1;
    fits = λ is.
        let before = made.1.wakes.before in
        let bits = bits_at (bench_of net) n in
        given.fit n count event.placed (below count (length d.inputs) (deed_more (made_controls.phase before) bits.all_in bits.any_in bits.all_ack bits.more (sym made.1.wakes.deed_is ∙ deed_is ∙ is)));
    static = static;
    wakes = subst (λ x. Wakes made_controls t.parts.controllers made.1.later.controllers n (bits_at (bench_of net) n) x) deed_is made.1.wakes;
    moves = subst (λ x. Moves made_machines (bench_of net) (bench_of later) n row x) deed_is made.1.moves;
  }

  abbrev deed_then : Deed
  deed_then = deed_at d.shape (length d.inputs) (reached_state net t.ls) n

  acts_listed : ActsListed made_controls made_machines (bench_of net) (bench_of later) t.ls.inputs next.inputs t.ls.got n row deed_then
  acts_listed = listed made_controls made_machines net later t.ls next n at row acts

  -- the store after the activation, by the protocol
  under : Protocol → Store
  under p = store_left (activation_under p (send_of d.timing n) (execute_of d.timing n) node) (offered (nat_lt count (length d.inputs)) (own_row d.layout n row) (w.stores n))

  store_is : (p : Protocol) → d.timing.protocol ≡ p → under p ≡ m'
  unfolding under
  store_is p is = λ i.
      store_left (activation_under (sym is i) (send_of d.timing n) (execute_of d.timing n) node) (offered (nat_lt (sym (t.used n event.placed) i) (length d.inputs)) (own_row d.layout n (row_at d.inputs (sym (t.used n event.placed) i))) (w.stores n))

  -- without acknowledgements the code is that of a file that names none
  counting_code : d.timing.protocol ≡ TimeBased → IsCodeOfNode d.layout d.shape n node.code node.ins [] node.sources node.outputs
  counting_code tb =
      let c = (coded n event.placed).made in
      record { code_of = c.code_of; ins_are = c.ins_are; acks_are = no_answers d.shape n (fits.only_data tb); sources_are = c.sources_are; differ = c.differ }

  counting_phase : d.timing.protocol ≡ TimeBased → (c : MadeControl) → slice_get t.parts.controllers n ≡ Some c → IsCounting c.at × (c.send_after ≡ send_of d.timing n) × (c.execute_after ≡ execute_of d.timing n)
  counting_phase tb c there = (subst (λ p. IsPhaseOf p c.at) tb (t.phases n c there), t.configured.sends tb n c there, t.configured.executes tb n c there)

  follows_by : (p : Protocol) → d.timing.protocol ≡ p → FollowsAfter made_controls (bench_of later) next.inputs t.ls.got n node.code deed_then (under p)
  unfolding under
  follows_by BackPressure bp =
      pressing_follows made_controls made_machines (bench_of net) (bench_of later) t.ls.inputs next.inputs t.ls.got n node.code node.ins node.acks node.sources node.outputs row deed_then (w.stores n) (coded n event.placed).made
      (λ c there. subst (λ p. IsPhaseOf p c.at) bp (t.phases n c there)) acts_listed (t.follows n event.placed)
  follows_by TimeBased tb =
      counting_follows made_controls made_machines (bench_of net) (bench_of later) t.ls.inputs next.inputs t.ls.got n node.code node.ins node.sources node.outputs row deed_then (w.stores n) (send_of d.timing n) (execute_of d.timing n) (counting_code tb)
      (counting_phase tb) acts_listed (t.follows n event.placed)

  follows_own : FollowsAfter made_controls (bench_of later) next.inputs t.ls.got n node.code deed_then m'
  follows_own = subst (FollowsAfter made_controls (bench_of later) next.inputs t.ls.got n node.code deed_then) (store_is d.timing.protocol refl) (follows_by d.timing.protocol refl)

  follows_next : NetFollows made_controls later next (λ i. (d.nodes i).code) (with_store n m' w.stores)
  follows_next = all_follow made_controls made_machines net later t.ls next n at row acts (λ i. (d.nodes i).code) w.stores m' t.follows follows_own.0

  executed_is : has_executed m' ≡ is_execute deed
  executed_is = ap (λ z. int_eq z (pos 1)) (follows_own.1 ∙ ap deed_number (sym deed_is)) ∙ executed_told deed

  sent_is : has_sent m' ≡ is_send deed
  sent_is = ap (λ z. int_eq z (pos 2)) (follows_own.1 ∙ ap deed_number (sym deed_is)) ∙ sent_told deed

  goes_by_deed : InputsGo (Act n at) deed (Some row) t.ls.inputs next.inputs
  goes_by_deed = subst (λ x. InputsGo (Act n at) x (Some row) t.ls.inputs next.inputs) (sym deed_is) go.1.inputs

  used_next : (i : ℕ) → i < node_count d.shape → (with_activation d w n m').used i ≡ slice_index_or made.1.later.executed i 0
  used_next i lt =
      (λ k. if (i == n) && executed_is k then (t.used i lt ∙ t.keeps.stands_for.bench.ran.executed i lt) k + 1 else (t.used i lt ∙ t.keeps.stands_for.bench.ran.executed i lt) k)
      ∙ sym (longer_by n at i row t.ls.inputs next.inputs deed goes_by_deed)
      ∙ sym (stands_next.bench.ran.executed i lt)

  -- phases lead to phases of the protocol
  phase_next : (p : Protocol) → d.timing.protocol ≡ p → IsPhaseOf p (made_controls.phase made.1.wakes.after)
  phase_next BackPressure bp =
      let k = made.1.wakes in
      let bits = bits_at (bench_of net) n in
      subst (IsPhaseOf BackPressure) (sym (k.phase_is ∙ ap (phase_after k.before.send_after k.before.execute_after k.before.at) k.deed_is))
      (pressing_stays k.before.at k.before.send_after k.before.execute_after bits.all_in bits.any_in bits.all_ack bits.more (subst (λ p. IsPhaseOf p k.before.at) bp (t.phases n k.before k.there)))
  phase_next TimeBased tb =
      let k = made.1.wakes in
      let bits = bits_at (bench_of net) n in
      let c = counting_phase tb k.before k.there in
      let send = subst (λ x. (1 ≤ x) × (x < 2 ^ 63)) (sym c.1) (send_fits d.timing n) in
      let execute = subst (λ x. (1 ≤ x) × (x < 2 ^ 63)) (sym c.2) (execute_fits d.timing n) in
      subst (IsPhaseOf TimeBased) (sym (k.phase_is ∙ ap (phase_after k.before.send_after k.before.execute_after k.before.at) k.deed_is))
      (counting_stays k.before.at k.before.send_after k.before.execute_after bits.all_in bits.any_in bits.all_ack bits.more send.0 send.1 execute.0 execute.1 c.0)

  phases_next : (i : ℕ) (c : MadeControl) → slice_get made.1.later.controllers i ≡ Some c → IsPhaseOf d.timing.protocol c.at
  phases_next i c h = elim (got_entry t.parts.controllers n i made.1.wakes.after c (slice_get_within t.parts.controllers n made.1.wakes.before made.1.wakes.there) (ap (λ xs. slice_get xs i) (sym made.1.wakes.is) ∙ h)) [
    | inl e ↦ subst (λ (z : MadeControl). IsPhaseOf d.timing.protocol z.at) (sym e.1) (phase_next d.timing.protocol refl)
    | inr e ↦ t.phases i c e.1
  ]

  -- what is put on channels are the net's messages
  agree : (c : ℕ) → c < chan_count d.shape → from_of d.shape c ≡ n →
      (carries_data d.shape c ≡ true → deed_then ≡ Send → Carries (packet_for node (to_of d.shape c) m') (message_on made.1.later.buffers made.1.later.inboxes c))
      × (carries_data d.shape c ≡ false → d.timing.protocol ≡ BackPressure → deed_then ≡ Execute → Carries (answer_packet m') (message_on made.1.later.buffers made.1.later.inboxes c))
  agree c lt from = packets_agree made_controls made_machines net later t.ls next n at c node m' is_net_next static go.1.events event.placed lt from (coded n event.placed)
      (subst (λ g. NodeFollows made_controls (bench_of later) next.inputs g n node.code m') (λ i e. sym (go.1.got e) i) follows_own.0)

  presses_where_answered : (p : Protocol) → d.timing.protocol ≡ p → (c : ℕ) → c < chan_count d.shape → carries_data d.shape c ≡ false → d.timing.protocol ≡ BackPressure
  presses_where_answered BackPressure is c lt answers = is
  presses_where_answered TimeBased is c lt answers = absurd (true_false (sym (t.kept.fixed.no_acks (ap is_back_pressure is) c lt) ∙ answers))

  packets_next : (c : ℕ) → c < chan_count d.shape → AllCarry (w.under_way c ++ put_on d n m' c) (made.1.links_after.transit c)
  packets_next c lt =
      let a : Bool = is_from d.shape.channels n true c in
      let b : Bool = is_from d.shape.channels n false c in
      let msg = message_on made.1.later.buffers made.1.later.inboxes c in
      let all = carry_on deed a b (w.under_way c) (t.links.transit c) (packet_for node (to_of d.shape c) m') (answer_packet m') msg (t.packets c lt)
      (λ on is. let p = from_parts d.shape n c true on in (agree c lt p.0).0 (is_same (carries_data d.shape c) p.1) (sym deed_is ∙ is))
      (λ on is. let p = from_parts d.shape n c false on in let k = is_opposite (carries_data d.shape c) p.1 in (agree c lt p.0).1 k (presses_where_answered d.timing.protocol refl c lt k) (sym deed_is ∙ is)) in
      subst (λ ms. AllCarry (w.under_way c ++ put_on d n m' c) ms) (sym (made.1.puts c lt ∙ ap (λ x. messages_with x (t.links.transit c) msg) (puts_are d n c deed)))
      (subst (λ ks. AllCarry (w.under_way c ++ ks) (messages_with (puts_bit deed a b) (t.links.transit c) msg))
      (λ i. if a && sym sent_is i then packet_for node (to_of d.shape c) m' ∷ [] else (if b && sym executed_is i then answer_packet m' ∷ [] else [])) all)

  typed_next : (c : ℕ) → c < chan_count d.shape → AllByRecursion (λ (m : Message). map ty_of m.payload ≡ channel_kind made.1.links_after c) (made.1.links_after.transit c)
  typed_next c lt =
      let kind = channel_kind in
      let msg = message_on made.1.later.buffers made.1.later.inboxes c in
      subst (λ ks. AllByRecursion (λ (m : Message). map ty_of m.payload ≡ slice_index_or ks c []) (made.1.links_after.transit c)) (sym made.1.keeps.kinds)
      (subst (AllByRecursion (λ (m : Message). map ty_of m.payload ≡ kind t.links c)) (sym (made.1.puts c lt))
      (typed_more (λ (m : Message). map ty_of m.payload ≡ kind t.links c) (puts_by d n deed c) (t.links.transit c) msg (t.typed c lt) (made.1.kept.sized.buffer_types c lt ∙ sym (t.keeps.kinds.each c lt))))

  -- each output that the node gives shows its next cell where it executes
  tells_by : (p : Protocol) → d.timing.protocol ≡ p → deed_then ≡ Execute → TellsNextCells (bench_of net) t.ls.inputs next.inputs t.ls.got n node.outputs (under p)
  unfolding under
  tells_by BackPressure bp is =
      pressing_tells made_controls made_machines (bench_of net) (bench_of later) t.ls.inputs next.inputs t.ls.got n node.code node.ins node.acks node.sources node.outputs row (w.stores n) (coded n event.placed).made
      (λ c there. subst (λ p. IsPhaseOf p c.at) bp (t.phases n c there)) (subst (ActsListed made_controls made_machines (bench_of net) (bench_of later) t.ls.inputs next.inputs t.ls.got n row) is acts_listed) (t.follows n event.placed)
  tells_by TimeBased tb is =
      counting_tells made_controls made_machines (bench_of net) (bench_of later) t.ls.inputs next.inputs t.ls.got n node.code node.ins node.sources node.outputs row (w.stores n) (send_of d.timing n) (execute_of d.timing n) (counting_code tb)
      (counting_phase tb) (subst (ActsListed made_controls made_machines (bench_of net) (bench_of later) t.ls.inputs next.inputs t.ls.got n row) is acts_listed) (t.follows n event.placed)

  cells_now : (y i x : ℕ) → GivesOutput d y i x → (track_at t.parts.tracks y).cells ≡ local_stream d.layout (payloads_between d.shape t.ls.got) i (row_at (t.ls.inputs i)) (length (t.ls.inputs i)) x
  cells_now y i x g = t.keeps.stands_for.bench.ran.cells y i x g.0 g.1 g.2

  cells_next : (y i x : ℕ) → GivesOutput d y i x → (track_at made.1.later.tracks y).cells ≡ local_stream d.layout (payloads_between d.shape t.ls.got) i (row_at (next.inputs i)) (length (next.inputs i)) x
  cells_next y i x g =
      stands_next.bench.ran.cells y i x g.0 g.1 g.2
      ∙ (λ k. local_stream d.layout (payloads_between d.shape (λ c. go.1.got c k)) i (row_at (next.inputs i)) (length (next.inputs i)) x)

  shown_next : (y i x : ℕ) → GivesOutput d y i x → (with_activation d w n m').shown_so_far i x ≡ (track_at made.1.later.tracks y).cells
  shown_next y i x g = by_node ((i == n) && is_execute deed) refl ∙ sym (cells_next y i x g)
    where
      shown_by : Bool → List Cell
      shown_by b = if b then w.shown_so_far i x ++ told_cell (part_of d.layout n).flat.func.decls x m' ∷ [] else w.shown_so_far i x

      by_node : (b : Bool) → ((i == n) && is_execute deed) ≡ b → shown_by ((i == n) && has_executed m') ≡ local_stream d.layout (payloads_between d.shape t.ls.got) i (row_at (next.inputs i)) (length (next.inputs i)) x
      by_node false e =
          ap shown_by (ap (λ z. (i == n) && z) executed_is ∙ e) ∙ t.shown y i x g ∙ cells_now y i x g
          ∙ ap (λ rs. local_stream d.layout (payloads_between d.shape t.ls.got) i (row_at rs) (length rs) x) (sym (rows_stay n at i row t.ls.inputs next.inputs deed e goes_by_deed))
      by_node true e =
          let parts = and_parts (i == n) (is_execute deed) e in
          let at_n : i ≡ n = (Decides-eqb i n).0 parts.0 in
          let g_n : GivesOutput d y n x = subst (λ j. GivesOutput d y j x) at_n g in
          let is : deed_then ≡ Execute = sym deed_is ∙ only_executes deed parts.1 in
          let outs = (coded n event.placed).shows y x g_n.0 g_n.2 in
          let tells = tells_by d.timing.protocol refl is outs.0 x (given_in g_n) outs.1 in
          ap shown_by (ap (λ z. (i == n) && z) executed_is ∙ e)
          ∙ ap (λ cs. cs ++ told_cell (part_of d.layout n).flat.func.decls x m' ∷ []) (t.shown y i x g ∙ cells_now y i x g ∙ ap (λ j. local_stream d.layout (payloads_between d.shape t.ls.got) j (row_at (t.ls.inputs j)) (length (t.ls.inputs j)) x) at_n)
          ∙ ap (λ m. local_stream d.layout (payloads_between d.shape t.ls.got) n (row_at (t.ls.inputs n)) (length (t.ls.inputs n)) x ++ told_cell (part_of d.layout n).flat.func.decls x m ∷ []) (sym (store_is d.timing.protocol refl))
          ∙ sym tells
          ∙ ap (λ j. local_stream d.layout (payloads_between d.shape t.ls.got) j (row_at (next.inputs j)) (length (next.inputs j)) x) (sym at_n)
        where
          only_executes : (deed : Deed) → is_execute deed ≡ true → deed ≡ Execute
          only_executes Execute h = refl
          only_executes Nothing h = absurd (cc)
          only_executes Send h = absurd (cc)

          given_in : GivesOutput d y n x → x < length (part_of d.layout n).flat.func.decls
          given_in g = t.kept.fixed.laid.given_declared n _ x g.1 g.2

  pub tied_act : Tied d (read ++ Act n at ∷ []) (with_activation d w n m')
  tied_act = record {
    parts = made.1.later;
    links = made.1.links_after;
    ls = next;
    kept = made.1.kept;
    room = made.1.room;
    configured = made.1.configured;
    keeps = keeps_next;
    faithful = subst IsTrue (sym made.1.keeps.faithful) t.faithful;
    typed = typed_next;
    follows = follows_next;
    phases = phases_next;
    used = used_next;
    packets = packets_next;
    shown = shown_next;
  }
