-- The packets that a node tells are the messages of its net.
use Rattle.std.proofs.Common.{◌≡◌, ℕ, zero, suc, ◌+◌, ◌-◌, ◌<◌, Bool, true, false, List, [], ◌∷◌, ◌++◌, length, map, take, filter, Some, refl, sym, ap, ◌∙◌, subst, arith, cond}
use Rattle.std.specs.Prelude.{◌==◌, nat_eq, slice_index_or, if◌then◌else◌}
use Rattle.std.specs.List.{slice_get, count_by}
use Rattle.std.proofs.Math.Nat.{add-zero, zero-add}
use Rattle.std.proofs.lemmas.Bool.Decides.{Decides-eqb, nat_tests}
use Rattle.std.proofs.lemmas.List.{get_or_default, length-map}
use Rattle.std.proofs.lemmas.List.Sums.{sum_by-cons, length-filter}
use Rattle.lt_base.specs.declared.value.Value.{Value}
use Rattle.lt_base.specs.declared.value.Value.TheVariants.{Bool as Truth}
use Rattle.lt_base.specs.Value.{ty_of}
use Rattle.lt_arch.specs.declared.event.Event.{Event}
use Rattle.lt_arch.specs.declared.event.Event.TheVariants.{Act}
use Rattle.lt_arch.specs.declared.event.Deed.TheVariants.{Send}
use Rattle.lt_arch.specs.declared.limits.TheConstants.{GREATEST_TIME}
use Rattle.lt_arch.specs.declared.shape.Shape.{Shape}
use Rattle.lt_arch.specs.State.{State, executed_of, unsent}
use Rattle.lt_arch.specs.Readers.{node_count, chan_count, from_of, to_of, carries_data}
use Rattle.lt_arch.specs.Deeds.{deed_at}
use Rattle.lt_arch.specs.Schedule.{AreUpTo, IsOffenceFree, OnePlace, reached}
use Rattle.lt_place_reads.specs.declared.crossing.Crossing.{Crossing}
use Rattle.lt_place.specs.declared.layout.Layout.{Layout}
use Rattle.lt_place.specs.Layout.{PartGives, no_crossing, part_of, crossing_of}
use Rattle.lt_net_node.specs.Channels.{HasChannels}
use Rattle.lt_net_node.specs.Layout.{joins, crossing_place, IsLaidOut}
use Rattle.lt_net_node.specs.Payloads.{channel_between, types_for}
use Rattle.lt_net_bench.specs.Standing.{StandsAt}
use Rattle.lt_net_bench.proofs.Entries.{and_parts}
use Rattle.lt_net.specs.Net.{TimedBenchState, Lists, bench_of, reached_state}
use Rattle.lt_net.specs.Event.{SameStatic}
use Rattle.lt_c.specs.Tree.{slot, sent, message_bit, message}
use Rattle.lt_c.specs.Meaning.{Store, stored, store_left}
use Rattle.lt_c.specs.Literals.{c_number}
use Rattle.lt_c.proofs.Stores.{same_self}
use Rattle.lt_c_control.specs.Inboxes.{payload_value}
use Rattle.lt_c_net.specs.Lists.{NodeFollows}
use Rattle.lt_c_net.specs.Nets.{IsNet}
use Rattle.lt_c_net.specs.Emitted.{NodeCode, IsEmittedNode, values_tree, packet_for}
use Rattle.lt_c_net.specs.Told.{PacketsAgree}
use Rattle.lt_c_net.proofs.Answered.{bits_in_net}
use Rattle.lt_c_net.proofs.InTurn.{messages_in_turn}
use Rattle.lt_c_net.proofs.Showing.{values_agree}
use Rattle.lt_machine.specs.declared.machine.Machine.{Ghosts as Machines}
use Rattle.lt_arch.specs.declared.controller.Controller.{Ghosts as Controls}

-- ---- the statements that make a message

differ_below : (i k : ℕ) → i < k → nat_eq i k ≡ false
differ_below i k lt = grind (arith, nat_tests, lt)

-- with the bit of a message
abbrev with_bit : Store → Store
with_bit m = stored m message_bit (m sent)

-- values at earlier places stay
earlier_stay : (xs : List ℕ) (k i : ℕ) (m : Store) → i < k → store_left (values_tree k xs) m (message i) ≡ m (message i)
earlier_stay [] k i m lt = refl
earlier_stay (x ∷ xs) k i m lt =
    earlier_stay xs (suc k) i (stored m (message k) (m (slot x))) (omega (arith, lt))
    ∙ ap (λ (b : Bool). if b then m (slot x) else m (message i)) (differ_below i k lt)

value_told : (xs : List ℕ) (k i x : ℕ) (m : Store) → slice_get xs i ≡ Some x → store_left (values_tree k xs) m (message (k + i)) ≡ m (slot x)
value_told [] k i x m is = absurd (cc)
value_told (y ∷ ys) k zero x m is =
    ap (λ j. store_left (values_tree k (y ∷ ys)) m (message j)) (add-zero k)
    ∙ earlier_stay ys (suc k) k (stored m (message k) (m (slot y))) (omega arith)
    ∙ ap (λ (b : Bool). if b then m (slot y) else m (message k)) (same_self k)
    ∙ ap (λ j. m (slot j)) (some_same y x is)
  where
    some_same : (a b : ℕ) → Some a ≡ Some b → a ≡ b
    some_same a b e = cc
value_told (y ∷ ys) k (suc i) x m is =
    let next : k + suc i ≡ suc k + i = omega arith in
    ap (λ j. store_left (values_tree k (y ∷ ys)) m (message j)) next
    ∙ value_told ys (suc k) i x (stored m (message k) (m (slot y))) is

mark_told : (xs : List ℕ) (k : ℕ) (m : Store) → store_left (values_tree k xs) m message_bit ≡ m message_bit
mark_told [] k m = refl
mark_told (x ∷ xs) k m = mark_told xs (suc k) (stored m (message k) (m (slot x)))

-- ---- the crossing at a place of a message

abbrev AtPlace : (p : Crossing → Bool) → List Crossing → ℕ → Type 0
AtPlace p xs i = (c : ℕ) × (c < length xs) × (p (slice_index_or xs c no_crossing) ≡ true) × (count_by p (take c xs) ≡ i)

at_place : (p : Crossing → Bool) (xs : List Crossing) (i : ℕ) → i < count_by p xs → AtPlace p xs i
at_place p [] i lt = absurd (omega (arith, lt))
at_place p (x ∷ xs) i lt = by_first (p x) refl i (subst (λ n. i < n) (sum_by-cons (λ z. cond (p z) 1 0) x xs) lt) (λ j l. at_place p xs j l)
  where
    by_first : (b : Bool) → p x ≡ b → (i : ℕ) → i < cond (p x) 1 0 + count_by p xs → ((j : ℕ) → j < count_by p xs → AtPlace p xs j) → AtPlace p (x ∷ xs) i
    by_first true e zero lt rest = (0, omega arith, e, refl)
    by_first true e (suc i) lt rest =
        let one : ◌≡◌ {A = ℕ} (cond (p x) 1 0) 1 = ap (λ b. cond b 1 0) e in
        let r = rest i (omega (arith, lt, one)) in
        let within = r.1 in
        let count = sum_by-cons (λ z. cond (p z) 1 0) x (take r.0 xs) in
        let here = r.3 in
        (suc r.0, omega (arith, within), r.2, omega (arith, count, one, here))
    by_first false e i lt rest =
        let none : ◌≡◌ {A = ℕ} (cond (p x) 1 0) 0 = ap (λ b. cond b 1 0) e in
        let r = rest i (omega (arith, lt, none)) in
        let within = r.1 in
        let count = sum_by-cons (λ z. cond (p z) 1 0) x (take r.0 xs) in
        let here = r.3 in
        (suc r.0, omega (arith, within), r.2, omega (arith, count, none, here))

place_is : (l : Layout) (c i j : ℕ) → (crossing_of l c).from ≡ i → (crossing_of l c).to ≡ j → crossing_place l c ≡ count_by (joins i j) (take c l.cross)
unfolding crossing_place
place_is l c i j from to = (λ k. count_by (joins (from k) (to k)) (take c l.cross))

-- as many values as crossings
pub how_many_values : (l : Layout) (s : Shape) (c : ℕ) (payload : List Value) → carries_data s c ≡ true → map ty_of payload ≡ types_for l s c → length payload ≡ count_by (joins (from_of s c) (to_of s c)) l.cross
how_many_values l s c payload carries typed =
    sym (length-map payload ty_of)
    ∙ ap length typed
    ∙ ap (λ (b : Bool). length (if b then map (λ cr. ty_of cr.first) (filter (joins (from_of s c) (to_of s c)) l.cross) else [])) carries
    ∙ length-map (filter (joins (from_of s c) (to_of s c)) l.cross) (λ cr. ty_of cr.first)
    ∙ length-filter (joins (from_of s c) (to_of s c)) l.cross

no_values : (l : Layout) (s : Shape) (c : ℕ) (payload : List Value) → carries_data s c ≡ false → map ty_of payload ≡ types_for l s c → length payload ≡ 0
no_values l s c payload nay typed =
    sym (length-map payload ty_of)
    ∙ ap length typed
    ∙ ap (λ (b : Bool). length (if b then map (λ cr. ty_of cr.first) (filter (joins (from_of s c) (to_of s c)) l.cross) else [])) nay

module _ {C M : Type 0} (ctl : Controls C) (mch : Machines M) (net later : TimedBenchState C M) (ls next : Lists) (n at c : ℕ) (node : NodeCode) (m : Store) (b : IsNet ctl mch later next) (static : SameStatic net later)
    (events : next.events ≡ ls.events ++ Act n at ∷ []) (in_nodes : n < node_count net.shape) (in_channels : c < chan_count net.shape) (from : from_of net.shape c ≡ n) (is : IsEmittedNode net.layout net.shape n node)
    (at_lists : NodeFollows ctl (bench_of later) next.inputs next.got n node.code m) where
  abbrev l : Layout
  l = net.layout

  abbrev s : Shape
  s = net.shape

  abbrev payload : List Value
  payload = slice_index_or later.buffers c []

  in_later : c < chan_count later.shape
  in_later = subst (λ (z : Shape). c < chan_count z) (sym static.shape) in_channels

  typed : map ty_of payload ≡ types_for l s c
  typed = b.sized.buffer_types c in_later ∙ (λ i. types_for (static.layout i) (static.shape i) c)

  -- the node has executed an instant where it has sent
  executed_some : carries_data s c ≡ true → deed_at s net.rows (reached_state net ls) n ≡ Send → (k : ℕ) × (length (next.inputs n) ≡ suc k)
  executed_some carries deed =
      let es : List Event = ls.events ++ Act n at ∷ [] in
      let st' : State = reached s net.timing net.rows es in
      let st_is : reached_state later next ≡ st' = (λ i. reached (static.shape i) (static.timing i) (static.rows i) (events i)) in
      let timely : AreUpTo GREATEST_TIME es = subst (AreUpTo GREATEST_TIME) events b.stood.timely in
      let clean : IsOffenceFree s net.timing net.rows es = subst (λ x. x) (λ i. IsOffenceFree (static.shape i) (static.timing i) (static.rows i) (events i)) b.stood.clean in
      let one = subst (λ x. x) (λ i. OnePlace (static.shape i) (static.timing i) (static.rows i)) b.fixed.one_place in
      let turn = (messages_in_turn s net.timing net.rows ls.events n at c in_channels from timely clean one).0 carries deed in
      let rows : length (next.inputs n) ≡ executed_of st' n = b.stood.bench.rows n (subst (λ (z : Shape). n < node_count z) (sym static.shape) in_nodes) ∙ ap (λ (z : State). (z.node n).executed) st_is in
      (length (next.inputs n) - 1, at_least ((st'.chan c).delivered) (executed_of st' n) (unsent (st'.node n).phase) (length (next.inputs n)) turn rows)
    where
      at_least : (d e u k : ℕ) → d + 1 ≡ e - u → k ≡ e → k ≡ suc (k - 1)
      at_least d e u k h g = omega (arith, h, g)

  module _ (carries : carries_data s c ≡ true) (k : ℕ) (len : length (next.inputs n) ≡ suc k) where
    value_of_place : (i : ℕ) → i < length payload → (packet_for node (to_of s c) m).values i ≡ c_number (payload_value payload i)
    unfolding crossing_of
    value_of_place i lt =
        let many = how_many_values l s c payload carries typed in
        let r = at_place (joins (from_of s c) (to_of s c)) l.cross i (omega (arith, lt, many)) in
        let x : ℕ = r.0 in
        let ends = and_parts ((crossing_of l x).from == from_of s c) ((crossing_of l x).to == to_of s c) r.2 in
        let from_is : (crossing_of l x).from ≡ from_of s c = (Decides-eqb (crossing_of l x).from (from_of s c)).0 ends.0 in
        let to_is : (crossing_of l x).to ≡ to_of s c = (Decides-eqb (crossing_of l x).to (to_of s c)).0 ends.1 in
        let from_n : (crossing_of l x).from ≡ n = from_is ∙ from in
        let place : crossing_place l x ≡ i = place_is l x (from_of s c) (to_of s c) from_is to_is ∙ r.3 in
        let laid : IsLaidOut b.fixed.whole l = subst (λ z. IsLaidOut b.fixed.whole z) static.layout b.fixed.laid in
        let channels : HasChannels l s = subst (λ z. z) (λ j. HasChannels (static.layout j) (static.shape j)) b.fixed.channels in
        let gives = laid.gives x r.1 in
        let gives_n : PartGives (part_of l n) (crossing_of l x).var gives.0 = subst (λ j. PartGives (part_of l j) (crossing_of l x).var gives.0) from_n gives.1 in
        let slot_is : slice_get (node.slots_for (to_of s c)) i ≡ Some gives.0 = (λ j. slice_get (node.slots_for (sym to_is j)) (sym place j)) ∙ is.sends x gives.0 r.1 from_n gives_n in
        let node_in : n < length l.nodes = let e = channels.nodes in omega (arith, in_nodes, e) in
        let ch_is : channel_between s (crossing_of l x).from (crossing_of l x).to ≡ c =
        channels.once (channel_between s (crossing_of l x).from (crossing_of l x).to) c (channels.there x r.1) in_channels (channels.carries x r.1) carries (channels.from x r.1 ∙ from_is) (channels.to x r.1 ∙ to_is) in
        let agree = agrees x gives.0 r.1 from_n gives_n node_in in
        ap (λ j. store_left (values_tree 0 (node.slots_for (to_of s c))) (with_bit m) (message j)) (sym (zero-add i))
        ∙ value_told (node.slots_for (to_of s c)) 0 i gives.0 (with_bit m) slot_is
        ∙ agree
        ∙ (λ j. c_number (slice_index_or (slice_index_or later.buffers (ch_is j) []) (place j) (crossing_of l x).first))
        ∙ ap c_number (get_or_default payload i (crossing_of l x).first (Truth false) lt)
      where
        agrees : (x v : ℕ) → x < length l.cross → (crossing_of l x).from ≡ n → PartGives (part_of l n) (crossing_of l x).var v → n < length l.nodes →
            m (slot v) ≡ c_number (slice_index_or (slice_index_or later.buffers (channel_between s (crossing_of l x).from (crossing_of l x).to) []) (crossing_place l x) (crossing_of l x).first)
        agrees x v lt from_n gives node_in =
            values_agree ctl mch (record (bench_of later) { layout = l; shape = s }) (reached_state later next) next.inputs next.got n k x v node.code node.ins node.acks node.sources node.outputs m b.fixed.whole
            (subst (λ z. IsLaidOut b.fixed.whole z) static.layout b.fixed.laid)
            (subst (λ z. z) (λ j. HasChannels (static.layout j) (static.shape j)) b.fixed.channels)
            (subst (λ z. z) (λ j. StandsAt ctl mch (record (bench_of later) { layout = static.layout j; shape = static.shape j }) (reached_state later next) next.inputs next.got) b.stood.bench)
            node_in is.made
            (subst (λ z. z) (λ j. NodeFollows ctl (record (bench_of later) { layout = static.layout j; shape = static.shape j }) next.inputs next.got n node.code m) at_lists)
            len lt from_n gives

pub packets_agree : {C M : Type 0} (ctl : Controls C) (mch : Machines M) → PacketsAgree ctl mch
packets_agree ctl mch net later ls next n at c node m b static events in_nodes in_channels from is at_lists =
    let bits = bits_in_net ctl mch net later ls next n at c node.code m b static events in_nodes in_channels from at_lists in (
      λ carries deed.
          let some = executed_some ctl mch net later ls next n at c node m b static events in_nodes in_channels from is at_lists carries deed in
          record {
            mark_is = mark_told (node.slots_for (to_of net.shape c)) 0 (with_bit m) ∙ bits.0 carries deed;
            values_are = value_of_place ctl mch net later ls next n at c node m b static events in_nodes in_channels from is at_lists carries some.0 some.1;
          },
      λ ack bp deed. record {
        mark_is = bits.1 ack bp deed;
        values_are = λ i lt. absurd (let none = no_values net.layout net.shape c (slice_index_or later.buffers c []) ack (typed ctl mch net later ls next n at c node m b static events in_nodes in_channels from is at_lists) in omega (arith, lt, none));
      },
    )
