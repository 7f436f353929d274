-- What an emitted file keeps to send it again: each crossing from its node, and none twice.
use Rattle.std.proofs.Math.Nat.{zero-add}
use Rattle.std.proofs.Common.{◌≡◌, ◌≢◌, ℕ, zero, suc, ◌+◌, ◌<◌, Bool, true, false, List, [], ◌∷◌, ◌++◌, length, map, filter, take, Some, refl, sym, ap, ◌∙◌, subst, arith, get_or, cond}
use Rattle.std.specs.Prelude.{◌&&◌, ◌==◌, nat_eq, slice_index, slice_index_or, unwrap_or, position}
use Rattle.std.specs.List.{slice_get, flat_map, count_by, position_or_len, AllByRecursion}
use Rattle.std.proofs.lemmas.Bool.Decides.{Decides-eqb, nat_tests}
use Rattle.std.proofs.lemmas.List.Elements.{recursion_from_All}
use Rattle.std.proofs.lemmas.List.Quantifiers.{position-Some}
use Rattle.std.proofs.lemmas.Option.{slice_get_within, get_or_from_slice_get, slice_get-get_or}
use Rattle.lt_arch.specs.declared.chan.Chan.{Chan}
use Rattle.lt_base.specs.Program.{Function}
use Rattle.lt_arch.specs.declared.shape.Shape.{Shape}
use Rattle.lt_arch.specs.declared.timing.Protocol.TheVariants.{BackPressure}
use Rattle.lt_arch.specs.Readers.{chan_count, chan_of, no_chan, from_of, to_of, carries_data}
use Rattle.lt_place.specs.declared.layout.Part.{Part}
use Rattle.lt_place.specs.declared.layout.Layout.{Layout}
use Rattle.lt_place.specs.Layout.{PartGives, part_of, crossing_of}
use Rattle.lt_net_node.specs.Channels.{HasChannels}
use Rattle.lt_net_node.specs.Layout.{IsLaidOut, joins, crossing_place}
use Rattle.lt_net_node.proofs.DrawnShape.{found}
use Rattle.lt_net_node.proofs.LayoutShape.{shapes_fit}
use Rattle.lt_net_bench.proofs.CrossingPlaces.{place_entry}
use Rattle.lt_net_bench.proofs.Entries.{same_number, other_number, and_parts}
use Rattle.lt_net_bench.proofs.FedRows.{map_entry}
use Rattle.lt_net_bench.proofs.LaidOut.{laid_out}
use Rattle.lt_c_control.specs.declared.posts.Post.{Post}
use Rattle.lt_c_control.specs.Lossy.{is_post, DifferAsPosts}
use Rattle.lt_c_heads.specs.declared.file.Carried.{Carried}
use Rattle.lt_c_heads.specs.declared.file.Peer.{Peer}
use Rattle.lt_c_heads.specs.Words.{made_from}
use Rattle.lt_c_bodies.specs.Acts.{peer_numbers, post_of, posts_to, posts_of}
use Rattle.lt_c_node.specs.NodeOf.{given_slot, carried, values_between, takes_data, AreReceivers}
use Rattle.lt_c_lossy.specs.Crossed.{crossing_channel}
use Rattle.lt_c_lossy.specs.LosingFiles.{FilesKeepCrossings}
use Rattle.lt_c_lossy.proofs.Whole.{entry_between, some_same}

-- ---- none is kept twice

neither_one : (a b : Bool) → b ≡ false → (a && b) ≡ false
neither_one true b h = h
neither_one false b h = refl

and_none : (a b : Bool) → a ≡ false → (a && b) ≡ false
and_none true b h = absurd (cc)
and_none false b h = refl

less_differs : (x k : ℕ) → x < k → nat_eq x k ≡ false
less_differs x k l = grind (arith, nat_tests, l)

all_append : {A : Type 0} (P : A → Type 0) (xs ys : List A) → AllByRecursion P xs → AllByRecursion P ys → AllByRecursion P (xs ++ ys)
all_append P [] ys a b = b
all_append P (x ∷ xs) ys a b = (a.0, all_append P xs ys a.1 b)

-- a value of another place, or of another node
later_places : (j i k : ℕ) (vs : List Carried) → i < k → AllByRecursion (λ q. is_post q j i ≡ false) (made_from (post_of j) k vs)
later_places j i k [] lt = tt
later_places j i k (v ∷ vs) lt = (and_none (nat_eq i k) (nat_eq j j) (less_differs i k lt), later_places j i (suc k) vs (omega (arith, lt)))

other_nodes : (j i o k : ℕ) (vs : List Carried) → nat_eq j o ≡ false → AllByRecursion (λ q. is_post q j i ≡ false) (made_from (post_of o) k vs)
other_nodes j i o k [] ne = tt
other_nodes j i o k (v ∷ vs) ne = (neither_one (nat_eq i k) (nat_eq j o) ne, other_nodes j i o (suc k) vs ne)

others_keep : (j i : ℕ) (ps : List Peer) → AllByRecursion (λ p. nat_eq j p.number ≡ false) ps → AllByRecursion (λ q. is_post q j i ≡ false) (posts_of ps)
others_keep j i [] h = tt
others_keep j i (p ∷ ps) h = all_append (λ q. is_post q j i ≡ false) (posts_to p) (posts_of ps) (other_nodes j i p.number 0 p.values h.0) (others_keep j i ps h.1)

-- those of one node, before others
one_differs : (j k : ℕ) (vs : List Carried) (rest : List Post) → ((i : ℕ) → AllByRecursion (λ q. is_post q j i ≡ false) rest) → DifferAsPosts rest → DifferAsPosts (made_from (post_of j) k vs ++ rest)
one_differs j k [] rest apart d = d
one_differs j k (v ∷ vs) rest apart d = (all_append (λ q. is_post q j k ≡ false) (made_from (post_of j) (suc k) vs) rest (later_places j k (suc k) vs (omega arith)) (apart k), one_differs j (suc k) vs rest apart d)

-- nodes that differ
abbrev PeersDiffer : List Peer → Type 0
PeersDiffer [] = Unit {0}
PeersDiffer (p ∷ ps) = AllByRecursion (λ q. nat_eq p.number q.number ≡ false) ps × PeersDiffer ps

all_differ : (ps : List Peer) → PeersDiffer ps → DifferAsPosts (posts_of ps)
all_differ [] h = tt
all_differ (p ∷ ps) h = one_differs p.number 0 p.values (posts_of ps) (λ i. others_keep p.number i ps h.0) (all_differ ps h.1)

abbrev NumbersDiffer : List ℕ → Type 0
NumbersDiffer [] = Unit {0}
NumbersDiffer (n ∷ ns) = AllByRecursion (λ m. nat_eq n m ≡ false) ns × NumbersDiffer ns

of_numbers : (n : ℕ) (ps : List Peer) → AllByRecursion (λ m. nat_eq n m ≡ false) (peer_numbers ps) → AllByRecursion (λ q. nat_eq n q.number ≡ false) ps
of_numbers n [] h = tt
of_numbers n (p ∷ ps) h = (h.0, of_numbers n ps h.1)

peers_differ : (ps : List Peer) → NumbersDiffer (peer_numbers ps) → PeersDiffer ps
peers_differ [] h = tt
peers_differ (p ∷ ps) h = (of_numbers p.number ps h.0, peers_differ ps h.1)

-- ---- the nodes to which the channels from one lead differ

module _ (n : ℕ) where
  abbrev ends : List Chan → List ℕ
  ends cs = map (λ ch. ch.to) (filter (takes_data n) cs)

  none_ends : (to : ℕ) (cs : List Chan) → ((c : ℕ) → c < length cs → takes_data n (slice_index_or cs c no_chan) ≡ true → to ≢ (slice_index_or cs c no_chan).to) → AllByRecursion (λ m. nat_eq to m ≡ false) (ends cs)
  none_ends to [] h = tt
  none_ends to (x ∷ cs) h = by_test (takes_data n x) refl (none_ends to cs (λ c lt. h (suc c) (omega (arith, lt))))
    where
      by_test : (b : Bool) → takes_data n x ≡ b → AllByRecursion (λ m. nat_eq to m ≡ false) (ends cs) → AllByRecursion (λ m. nat_eq to m ≡ false) (map (λ (ch : Chan). ch.to) (cond b (x ∷ filter (takes_data n) cs) (filter (takes_data n) cs)))
      by_test true e rest = (other_number to x.to (h 0 (omega arith) e), rest)
      by_test false e rest = rest

  ends_differ : (cs : List Chan) → ((c e : ℕ) → c < e → e < length cs → takes_data n (slice_index_or cs c no_chan) ≡ true → takes_data n (slice_index_or cs e no_chan) ≡ true → (slice_index_or cs c no_chan).to ≢ (slice_index_or cs e no_chan).to) → NumbersDiffer (ends cs)
  ends_differ [] h = tt
  ends_differ (x ∷ cs) h = by_test (takes_data n x) refl (ends_differ cs (λ c e less lt. h (suc c) (suc e) (omega (arith, less)) (omega (arith, lt))))
    where
      by_test : (b : Bool) → takes_data n x ≡ b → NumbersDiffer (ends cs) → NumbersDiffer (map (λ (ch : Chan). ch.to) (cond b (x ∷ filter (takes_data n) cs) (filter (takes_data n) cs)))
      by_test true e rest = (none_ends x.to cs (λ c lt t. h 0 (suc c) (omega arith) (omega (arith, lt)) e t), rest)
      by_test false e rest = rest

-- ---- each crossing is kept

get_left : {A : Type 0} (xs ys : List A) (i : ℕ) (y : A) → slice_get xs i ≡ Some y → slice_get (xs ++ ys) i ≡ Some y
get_left [] ys i y h = absurd (cc)
get_left (x ∷ xs) ys zero y h = h
get_left (x ∷ xs) ys (suc i) y h = get_left xs ys i y h

get_right : {A : Type 0} (xs ys : List A) (y : A) → (i : ℕ) × (slice_get ys i ≡ Some y) → (k : ℕ) × (slice_get (xs ++ ys) k ≡ Some y)
get_right [] ys y h = h
get_right (x ∷ xs) ys y h = let r = get_right xs ys y h in (suc r.0, r.1)

flat_entry : {A B : Type 0} (g : A → List B) (xs : List A) (a i : ℕ) (x : A) (y : B) → slice_get xs a ≡ Some x → slice_get (g x) i ≡ Some y → (k : ℕ) × (slice_get (flat_map g xs) k ≡ Some y)
flat_entry g [] a i x y h e = absurd (cc)
flat_entry g (z ∷ xs) zero i x y h e = (i, get_left (g z) (flat_map g xs) i y (ap (λ w. slice_get (g w) i) (some_same z x h) ∙ e))
flat_entry g (z ∷ xs) (suc a) i x y h e = get_right (g z) (flat_map g xs) y (flat_entry g xs a i x y h e)

made_entry : (j k i : ℕ) (vs : List Carried) (v : Carried) → slice_get vs i ≡ Some v → slice_get (made_from (post_of j) k vs) i ≡ Some (post_of j (k + i) v)
made_entry j k i [] v h = absurd (cc)
made_entry j k zero (w ∷ vs) v h = (λ t. Some (post_of j (plus_zero k t) (some_same w v h t)))
  where
    plus_zero : (k : ℕ) → k ≡ k + 0
    plus_zero k = omega arith
made_entry j k (suc i) (w ∷ vs) v h = made_entry j (suc k) i vs v h ∙ ap (λ p. Some (post_of j p v)) (turn k i)
  where
    turn : (k i : ℕ) → suc k + i ≡ k + suc i
    turn k i = omega arith

pub one_of_all : {A : Type 0} (P : A → Type 0) (xs : List A) (i : ℕ) (x : A) → AllByRecursion P xs → slice_get xs i ≡ Some x → P x
one_of_all P [] i x h is = absurd (cc)
one_of_all P (y ∷ ys) zero x h is = subst P (some_same y x is) h.0
one_of_all P (y ∷ ys) (suc i) x h is = one_of_all P ys i x h.1 is

-- the slot of what a part gives out
slot_is : (q : Part) (v x : ℕ) → ((i j : ℕ) → slice_get q.outs i ≡ Some v → slice_get q.outs j ≡ Some v → i ≡ j) → PartGives q v x → given_slot q v ≡ x
slot_is q v x once gives =
    let test : ℕ → Bool = λ u. u == v in
    let within = slice_get_within q.outs gives.place v gives.out in
    let at : ℕ = position_or_len test q.outs in
    let is : position test q.outs ≡ Some at = found test q.outs gives.place 0 within (ap test (get_or_from_slice_get q.outs gives.place v 0 gives.out) ∙ same_number v) in
    let there = position-Some test q.outs at 0 is in
    let entry : slice_get q.outs at ≡ Some v = slice_get-get_or q.outs at 0 there.0 ∙ ap (λ u. Some u) ((Decides-eqb (get_or q.outs at 0) v).0 there.1) in
    ap (λ o. slice_index q.flat.func.outs (unwrap_or o 0)) is
    ∙ ap (slice_index q.flat.func.outs) (once at gives.place entry gives.out)
    ∙ get_or_from_slice_get q.flat.func.outs gives.place x 0 gives.own

module _ (whole : Function) (l : Layout) (s : Shape) (laid : IsLaidOut whole l) (channels : HasChannels l s) (n : ℕ) (nb : n < length l.nodes) (ps : List Peer) (are : AreReceivers l s.channels n ps) where
  -- a channel for data from the node
  takes_of : (c : ℕ) → takes_data n (slice_index_or s.channels c no_chan) ≡ true → (carries_data s c ≡ true) × (from_of s c ≡ n)
  unfolding chan_of
  takes_of c h = let p = and_parts (carries_data s c) (from_of s c == n) h in (p.0, (Decides-eqb (from_of s c) n).0 p.1)

  takes_at : (c : ℕ) → carries_data s c ≡ true → from_of s c ≡ n → takes_data n (slice_index_or s.channels c no_chan) ≡ true
  unfolding chan_of
  takes_at c carries from = ap (λ (b : Bool). b && (from_of s c == n)) carries ∙ ap (λ i. i == n) from ∙ same_number n

  differ_at : (c e : ℕ) → c < e → e < chan_count s → takes_data n (slice_index_or s.channels c no_chan) ≡ true → takes_data n (slice_index_or s.channels e no_chan) ≡ true → to_of s c ≢ to_of s e
  differ_at c e less lt g h same =
      let a = takes_of c g in
      let b = takes_of e h in
      let one : c ≡ e = channels.once c e (omega (arith, less, lt)) lt a.0 b.0 (a.1 ∙ sym b.1) same in
      omega (arith, less, one)

  ends_apart : NumbersDiffer (ends n s.channels)
  unfolding chan_of
  ends_apart = ends_differ n s.channels differ_at

  pub kept_once : DifferAsPosts (posts_of ps)
  kept_once = all_differ ps (peers_differ ps (subst NumbersDiffer (sym are.numbers) ends_apart))

  -- the peer to which a crossing leads
  peer_of : (x : ℕ) → x < length l.cross → (crossing_of l x).from ≡ n → (a : ℕ) × (p : Peer) × (slice_get ps a ≡ Some p) × (p.number ≡ (crossing_of l x).to)
  unfolding chan_of
  peer_of x lt from =
      let c : ℕ = crossing_channel l s x in
      let ch : Chan = slice_index_or s.channels c no_chan in
      let entry = place_entry (takes_data n) (λ (z : Chan). z.to) s.channels c ch (slice_get-get_or s.channels c no_chan (channels.there x lt)) (takes_at c (channels.carries x lt) (channels.from x lt ∙ from)) in
      let at : ℕ = count_by (takes_data n) (take c s.channels) in
      let found_at = map_entry (λ (p : Peer). p.number) ps at ch.to (ap (λ ns. slice_get ns at) are.numbers ∙ entry) in
      (at, found_at.0, found_at.1, found_at.2 ∙ channels.to x lt)

  pub all_are_kept : (x v : ℕ) → x < length l.cross → (crossing_of l x).from ≡ n → PartGives (part_of l n) (crossing_of l x).var v →
      (i : ℕ) × (slice_get (posts_of ps) i ≡ Some (record { to_node = (crossing_of l x).to; at_place = crossing_place l x; from_slot = v }))
  all_are_kept x v lt from gives =
      let r = peer_of x lt from in
      let p : Peer = r.1 in
      let j : ℕ = (crossing_of l x).to in
      let values : p.values ≡ values_between l n p.number = one_of_all (λ (p : Peer). p.values ≡ values_between l n p.number) ps r.0 p (recursion_from_All (λ (p : Peer). p.values ≡ values_between l n p.number) ps are.values) r.2 in
      let there : slice_get p.values (crossing_place l x) ≡ Some (carried l (crossing_of l x)) =
      ap (λ vs. slice_get vs (crossing_place l x)) (values ∙ (λ i. map (carried l) (filter (joins (sym from i) (r.3 i)) l.cross))) ∙ entry_between l (carried l) x lt in
      let slot : (carried l (crossing_of l x)).from_slot ≡ v =
      slot_is (part_of l (crossing_of l x).from) (crossing_of l x).var v (λ a b. laid.one_place (crossing_of l x).from a b (crossing_of l x).var (laid.senders x lt))
      (subst (λ i. PartGives (part_of l i) (crossing_of l x).var v) (sym from) gives) in
      let k = flat_entry posts_to ps r.0 (crossing_place l x) p (post_of p.number (0 + crossing_place l x) (carried l (crossing_of l x))) r.2 (made_entry p.number 0 (crossing_place l x) p.values (carried l (crossing_of l x)) there) in
      (k.0, k.1 ∙ (λ i. Some (record { to_node = r.3 i; at_place = zero-add (crossing_place l x) i; from_slot = slot i })))

pub files_keep_crossings : FilesKeepCrossings
files_keep_crossings f l s n ps placed shaped nb are =
    let laid = laid_out f l placed in
    let channels = (shapes_fit f l BackPressure s placed shaped).0.channels in
    record { differ = kept_once f.func l s laid channels n nb ps are; all_kept = all_are_kept f.func l s laid channels n nb ps are }
