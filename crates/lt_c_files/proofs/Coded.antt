-- The code of a node's file is that of an emitted node.
use Rattle.std.proofs.Common.{◌≡◌, ℕ, suc, ◌<◌, Bool, true, false, not, List, [], ◌∷◌, length, map, filter, take, Some, None, refl, sym, ap, ◌∙◌, subst, arith, cond, eqb-true, lt-ltb}
use Rattle.std.specs.Prelude.{◌==◌, ◌&&◌, ◌||◌, nat_eq, nat_lt, slice_index_or, slice_index, unwrap_or, if◌then◌else◌}
use Rattle.std.specs.List.{All, AllByRecursion, count_by, list_any, position_or_len, slice_get}
use Rattle.std.proofs.lemmas.List.Elements.{All-head, All-tail}
use Rattle.std.proofs.lemmas.List.Folds.{list_any_at}
use Rattle.std.proofs.lemmas.List.Sums.{position_or_len_is}
use Rattle.std.proofs.lemmas.Option.{slice_get_within, get_or_from_slice_get, slice_get-get_or}
use Rattle.lt_base.specs.Dependence.{has}
use Rattle.lt_arch.specs.declared.chan.Chan.{Chan}
use Rattle.lt_arch.specs.declared.chan.ChanKind.{ChanKind}
use Rattle.lt_arch.specs.declared.chan.ChanKind.TheVariants.{Data, Ack}
use Rattle.lt_arch.specs.declared.shape.Shape.{Shape}
use Rattle.lt_arch.specs.Readers.{is_data, no_chan, chan_of}
use Rattle.lt_link.specs.Ports.{is_to}
use Rattle.lt_norm.specs.Flat.{Originated}
use Rattle.lt_place_reads.specs.declared.crossing.Crossing.{Crossing}
use Rattle.lt_place_reads.specs.Origins.{origin_of}
use Rattle.lt_place.specs.declared.layout.Feed.{Feed}
use Rattle.lt_place.specs.declared.layout.Feed.TheVariants.{Input, Cross}
use Rattle.lt_place.specs.declared.layout.Part.{Part}
use Rattle.lt_place.specs.declared.layout.Layout.{Layout}
use Rattle.lt_place.specs.Layout.{IsPlaced, PartGives, part_of, crossing_of, no_crossing}
use Rattle.lt_net_node.specs.Channels.{HasChannels}
use Rattle.lt_net_node.specs.Layout.{IsLaidOut, joins, crossing_place}
use Rattle.lt_net_node.specs.Payloads.{channel_between}
use Rattle.lt_net_bench.proofs.CrossingPlaces.{place_entry}
use Rattle.lt_net_bench.proofs.Entries.{same_number, other_number}
use Rattle.lt_net_bench.proofs.LaidOut.{laid_out}
use Rattle.lt_c_step.specs.declared.sources.Output.{Output}
use Rattle.lt_c_step.specs.Part.{Differ}
use Rattle.lt_c_control.specs.Inboxes.{FirstData, DifferInNode}
use Rattle.lt_c_net.specs.Stands.{ListsSenders, OneEach}
use Rattle.lt_c_net.specs.Moves.{feed_source, feed_sources}
use Rattle.lt_c_net.specs.Laws.{firsts_from}
use Rattle.lt_c_net.proofs.Shaped.{shapes_serve}
use Rattle.lt_c_heads.specs.declared.file.Carried.{Carried}
use Rattle.lt_c_heads.specs.declared.file.Peer.{Peer}
use Rattle.lt_c_heads.specs.Words.{made_from}
use Rattle.lt_c_bodies.specs.Acts.{peer_numbers}
use Rattle.lt_c_node.specs.NodeOf.{source_of, is_output, output_for, outputs_of, given_slot, carried, values_between, brings_data, takes_data, is_answer, brings_answers}
use Rattle.lt_c_files.specs.FileNodes.{slots_to, FilesAreNodes}
use Rattle.lt_c_files.proofs.Picked.{AllApart, in_picked, of_picked, picked_apart}

-- ---- senders

and_turned : (a b : Bool) → (a && b) ≡ (b && a)
and_turned true true = refl
and_turned true false = refl
and_turned false true = refl
and_turned false false = refl

answers_are : (kind : ChanKind) → is_answer kind ≡ not (is_data kind)
answers_are Data = refl
answers_are Ack = refl

brings_is_to : (cs : List Chan) (n c : ℕ) → brings_data n (slice_index_or cs c no_chan) ≡ is_to cs n true c
brings_is_to cs n c = and_turned (is_data (slice_index_or cs c no_chan).kind) ((slice_index_or cs c no_chan).to == n)

answers_is_to : (cs : List Chan) (n c : ℕ) → brings_answers n (slice_index_or cs c no_chan) ≡ is_to cs n false c
answers_is_to cs n c =
    ap (λ b. b && ((slice_index_or cs c no_chan).to == n)) (answers_are (slice_index_or cs c no_chan).kind)
    ∙ and_turned (not (is_data (slice_index_or cs c no_chan).kind)) ((slice_index_or cs c no_chan).to == n)

-- the numbers of the channels that a test of one kind picks
module _ (cs : List Chan) (n : ℕ) (kind : Bool) (test : Chan → Bool) (same : (c : ℕ) → test (slice_index_or cs c no_chan) ≡ is_to cs n kind c) where
  pub lists_senders : (js : List ℕ) → js ≡ map (λ ch. ch.from) (filter test cs) → ListsSenders cs n kind js
  lists_senders js is = subst (ListsSenders cs n kind) (sym is) (record {
    all = λ c lt to. in_picked no_chan (λ (ch : Chan). ch.from) test cs c lt (same c ∙ to);
    only = λ j h. let r = of_picked no_chan (λ (ch : Chan). ch.from) test cs j h in (r.0, r.1, sym (same r.0) ∙ r.2, r.3);
  })

  pub senders_apart : OneEach cs n kind → (js : List ℕ) → js ≡ map (λ ch. ch.from) (filter test cs) → AllApart js
  senders_apart one js is = subst AllApart (sym is) (picked_apart no_chan (λ (ch : Chan). ch.from) test cs
      (λ c d lc ld tc td e. one c d lc ld (sym (same c) ∙ tc) (sym (same d) ∙ td) e))

or_false_left : (a b : Bool) → (a || b) ≡ false → a ≡ false
or_false_left true b h = absurd (cc)
or_false_left false b h = refl

or_false_right : (a b : Bool) → (a || b) ≡ false → b ≡ false
or_false_right true b h = absurd (cc)
or_false_right false b h = h

-- a number that stands nowhere in a list is that of no item
others_from : (cross : List Crossing) (n j : ℕ) (js : List ℕ) → list_any (nat_eq j) js ≡ false → AllByRecursion (λ (e : FirstData). nat_eq j e.from_node ≡ false) (firsts_from cross n js)
others_from cross n j [] h = tt
others_from cross n j (i ∷ js) h = (or_false_left (nat_eq j i) (list_any (nat_eq j) js) h, others_from cross n j js (or_false_right (nat_eq j i) (list_any (nat_eq j) js) h))

firsts_differ : (cross : List Crossing) (n : ℕ) (js : List ℕ) → AllApart js → DifferInNode (firsts_from cross n js)
firsts_differ cross n [] h = tt
firsts_differ cross n (j ∷ js) h = (others_from cross n j js h.0, firsts_differ cross n js h.1)

-- ---- sources and outputs

source_is : (l : Layout) (x : ℕ) (d : Feed) → source_of l x d ≡ feed_source l x d
source_is l x (Input i) = refl
source_is l x (Cross c) = refl

pub sources_are : (l : Layout) (x : ℕ) (ds : List Feed) → made_from (source_of l) x ds ≡ feed_sources l x ds
sources_are l x [] = refl
sources_are l x (d ∷ ds) = let first = source_is l x d in let rest = sources_are l (suc x) ds in (λ i. first i ∷ rest i)

other_outputs : (q : Part) (y : ℕ) (ys : List ℕ) → list_any (nat_eq y) (map (λ z. z) ys) ≡ false → AllByRecursion (λ (o : Output). nat_eq y o.output_number ≡ false) (map (output_for q) ys)
other_outputs q y [] h = tt
other_outputs q y (z ∷ ys) h =
    (or_false_left (nat_eq y z) (list_any (nat_eq y) (map (λ z. z) ys)) h, other_outputs q y ys (or_false_right (nat_eq y z) (list_any (nat_eq y) (map (λ z. z) ys)) h))

outputs_differ : (q : Part) (ys : List ℕ) → AllApart (map (λ z. z) ys) → Differ (map (output_for q) ys)
outputs_differ q [] h = tt
outputs_differ q (y ∷ ys) h = (other_outputs q y ys h.0, outputs_differ q ys h.1)

-- ---- what is sent

slots_carried : (l : Layout) (xs : List Crossing) → map (λ (v : Carried). v.from_slot) (map (carried l) xs) ≡ map (λ cr. (carried l cr).from_slot) xs
slots_carried l [] = refl
slots_carried l (x ∷ xs) = ap (λ ys. (carried l x).from_slot ∷ ys) (slots_carried l xs)

-- the slots of the values to a node that is among the receivers
pub slots_found : (l : Layout) (n j : ℕ) (ps : List Peer) → list_any (nat_eq j) (peer_numbers ps) ≡ true → All (λ (p : Peer). p.values ≡ values_between l n p.number) ps →
    slots_to j ps ≡ map (λ (v : Carried). v.from_slot) (values_between l n j)
slots_found l n j [] h are = absurd (cc)
slots_found l n j (p ∷ ps) h are =
    by_number (nat_eq j p.number) refl (λ g. slots_found l n j ps g (All-tail (λ (p : Peer). p.values ≡ values_between l n p.number) p ps are)) h
  where
    by_number : (b : Bool) → nat_eq j p.number ≡ b → (list_any (nat_eq j) (peer_numbers ps) ≡ true → slots_to j ps ≡ map (λ (v : Carried). v.from_slot) (values_between l n j)) → (b || list_any (nat_eq j) (peer_numbers ps)) ≡ true →
        (if b then map (λ (v : Carried). v.from_slot) p.values else slots_to j ps) ≡ map (λ (v : Carried). v.from_slot) (values_between l n j)
    by_number true e rest g =
        ap (map (λ (v : Carried). v.from_slot)) (All-head (λ (p : Peer). p.values ≡ values_between l n p.number) p ps are ∙ ap (values_between l n) (sym (eqb-true j p.number e)))
    by_number false e rest g = rest g

pub place_is : (l : Layout) (c i j : ℕ) → (crossing_of l c).from ≡ i → (crossing_of l c).to ≡ j → crossing_place l c ≡ count_by (joins i j) (take c l.cross)
unfolding crossing_place
place_is l c i j from to = (λ k. count_by (joins (from k) (to k)) (take c l.cross))

pub crossing_there : (l : Layout) (c : ℕ) → c < length l.cross → slice_get l.cross c ≡ Some (crossing_of l c)
unfolding crossing_of
crossing_there l c lt = slice_get-get_or l.cross c no_crossing lt

pub joins_ends : (i j : ℕ) (cr : Crossing) → cr.from ≡ i → cr.to ≡ j → joins i j cr ≡ true
joins_ends i j cr from to = (λ k. ap (λ x. x == i) from k && ap (λ x. x == j) to k) ∙ (λ k. same_number i k && same_number j k)

-- ---- the place of what a part gives out

place_or : (b : Bool) (k : ℕ) → b ≡ true → unwrap_or (cond b (Some k) None) 0 ≡ k
place_or b k h = ap (λ (b : Bool). unwrap_or (cond b (Some k) None) 0) h

module _ (f : Originated) (l : Layout) (placed : IsPlaced f l) (n : ℕ) (lt : n < length l.nodes) where
  abbrev q : Part
  q = part_of l n

  laid : IsLaidOut f.func l
  laid = laid_out f l placed

  out_place : (v p : ℕ) → slice_get q.outs p ≡ Some v → position_or_len (λ u. u == v) q.outs ≡ p
  out_place v p at =
      position_or_len_is (λ u. u == v) q.outs p 0 (let w = slice_get_within q.outs p v at in omega (arith, w))
      (λ k k_lt. other_number (slice_index_or q.outs k 0) v (λ e.
      let w = slice_get_within q.outs p v at in
      let same : k ≡ p = laid.one_place n k p v lt (slice_get-get_or q.outs k 0 (omega (arith, k_lt, w)) ∙ ap (λ z. Some z) e) at in
      omega (arith, same, k_lt)))
      (λ _. ap (λ z. z == v) (get_or_from_slice_get q.outs p v 0 at) ∙ same_number v)

  pub slot_is : (v x : ℕ) → PartGives q v x → given_slot q v ≡ x
  slot_is v x gives =
      let there = out_place v gives.place gives.out in
      let w = slice_get_within q.outs gives.place v gives.out in
      let found : nat_lt (position_or_len (λ u. u == v) q.outs) (length q.outs) ≡ true = ap (λ k. nat_lt k (length q.outs)) there ∙ lt-ltb gives.place (length q.outs) w in
      ap (slice_index q.flat.func.outs) (place_or (nat_lt (position_or_len (λ u. u == v) q.outs) (length q.outs)) (position_or_len (λ u. u == v) q.outs) found ∙ there)
      ∙ get_or_from_slice_get q.flat.func.outs gives.place x 0 gives.own

  -- a variable of the part is given out at one place
  own_once : (c d : ℕ) → c < length q.flat.func.outs → d < length q.flat.func.outs → slice_index_or q.flat.func.outs c 0 ≡ slice_index_or q.flat.func.outs d 0 → c ≡ d
  own_once c d lc ld e =
      let same : length q.flat.func.outs ≡ length q.outs = laid.outs n lt in
      let at : (k : ℕ) → k < length q.flat.func.outs → PartGives q (slice_index_or q.outs k 0) (slice_index_or q.flat.func.outs k 0) =
      λ k lk. record { place = k; out = slice_get-get_or q.outs k 0 (omega (arith, lk, same)); own = slice_get-get_or q.flat.func.outs k 0 lk } in
      let oc = laid.given_origin n (slice_index_or q.outs c 0) (slice_index_or q.flat.func.outs c 0) lt (at c lc) in
      let od = laid.given_origin n (slice_index_or q.outs d 0) (slice_index_or q.flat.func.outs d 0) lt (at d ld) in
      let v : slice_index_or q.outs c 0 ≡ slice_index_or q.outs d 0 = sym oc ∙ ap (origin_of q.flat) e ∙ od in
      laid.one_place n c d (slice_index_or q.outs d 0) lt ((at c lc).out ∙ ap (λ z. Some z) v) (at d ld).out

  pub part_outputs_differ : Differ (outputs_of l q)
  part_outputs_differ =
      outputs_differ q (filter (is_output l q) q.flat.func.outs) (picked_apart 0 (λ z. z) (is_output l q) q.flat.func.outs (λ c d lc ld tc td e. own_once c d lc ld e))

  pub output_there : (y x : ℕ) → y < length l.outs → PartGives q (slice_index_or l.outs y 0) x → (i : ℕ) × (slice_get (outputs_of l q) i ≡ Some (output_for q x))
  output_there y x y_lt gives =
      let is_one : is_output l q x ≡ true =
      ap (λ v. has v l.outs) (laid.given_origin n (slice_index_or l.outs y 0) x lt gives) ∙ list_any_at (nat_eq (slice_index_or l.outs y 0)) l.outs y 0 y_lt (same_number (slice_index_or l.outs y 0)) in
      (count_by (is_output l q) (take gives.place q.flat.func.outs), place_entry (is_output l q) (output_for q) q.flat.func.outs gives.place x gives.own is_one)

  -- ---- the whole

  module _ (s : Shape) (channels : HasChannels l s) (ps : List Peer) (numbers : peer_numbers ps ≡ map (λ ch. ch.to) (filter (takes_data n) s.channels)) (values : All (λ (p : Peer). p.values ≡ values_between l n p.number) ps) where
    pub receiver : (c : ℕ) → c < length l.cross → (crossing_of l c).from ≡ n → list_any (nat_eq (crossing_of l c).to) (peer_numbers ps) ≡ true
    unfolding chan_of
    receiver c c_lt from =
        let ch : ℕ = channel_between s (crossing_of l c).from (crossing_of l c).to in
        let one : Chan = slice_index_or s.channels ch no_chan in
        let from_is : one.from ≡ n = channels.from c c_lt ∙ from in
        let takes : takes_data n one ≡ true = (λ k. channels.carries c c_lt k && ap (λ z. z == n) from_is k) ∙ same_number n in
        subst (λ js. list_any (nat_eq (crossing_of l c).to) js ≡ true) (sym numbers)
        (subst (λ j. list_any (nat_eq j) (map (λ (ch : Chan). ch.to) (filter (takes_data n) s.channels)) ≡ true) (channels.to c c_lt)
        (in_picked no_chan (λ (ch : Chan). ch.to) (takes_data n) s.channels ch (channels.there c c_lt) takes))

    pub sends_there : (c x : ℕ) → c < length l.cross → (crossing_of l c).from ≡ n → PartGives q (crossing_of l c).var x → slice_get (slots_to (crossing_of l c).to ps) (crossing_place l c) ≡ Some x
    sends_there c x c_lt from gives =
        let cr : Crossing = crossing_of l c in
        let entry = place_entry (joins n cr.to) (λ (z : Crossing). (carried l z).from_slot) l.cross c cr (crossing_there l c c_lt) (joins_ends n cr.to cr from refl) in
        ap (λ xs. slice_get xs (crossing_place l c)) (slots_found l n cr.to ps (receiver c c_lt from) values ∙ slots_carried l (filter (joins n cr.to) l.cross))
        ∙ ap (slice_get (map (λ (z : Crossing). (carried l z).from_slot) (filter (joins n cr.to) l.cross))) (place_is l c n cr.to from refl)
        ∙ entry
        ∙ ap (λ z. Some z) (ap (λ i. given_slot (part_of l i) cr.var) from ∙ slot_is cr.var x gives)

pub files_are_nodes : FilesAreNodes
files_are_nodes f l s t pace n file placed channels lt is =
    let data_one = shapes_serve s n true in
    record {
      made = record {
        code_of = is.part.code;
        ins_are = lists_senders s.channels n true (brings_data n) (brings_is_to s.channels n) (peer_numbers file.links.senders) is.links.senders.numbers;
        acks_are = lists_senders s.channels n false (brings_answers n) (answers_is_to s.channels n) file.links.answerers is.links.answerers;
        sources_are = is.part.sources ∙ sources_are l 0 (part_of l n).feeds;
        differ = subst Differ (sym is.part.outputs) (part_outputs_differ f l placed n lt);
      };
      differ = firsts_differ l.cross n (peer_numbers file.links.senders)
          (senders_apart s.channels n true (brings_data n) (brings_is_to s.channels n) data_one.1 (peer_numbers file.links.senders) is.links.senders.numbers);
      shows = λ y x y_lt gives.
          let r = output_there f l placed n lt y x y_lt gives in
          (r.0, ap (λ os. slice_get os r.0) is.part.outputs ∙ r.1);
      sends = λ c x c_lt from gives. sends_there f l placed n lt s channels file.links.receivers is.links.receivers.numbers is.links.receivers.values c x c_lt from gives;
    }
