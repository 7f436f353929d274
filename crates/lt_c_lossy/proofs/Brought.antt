-- A delivery over links that lose messages keeps each node's store, and so does a loss.
use Rattle.std.proofs.Common.{◌≡◌, ◌≢◌, inl, inr, ℕ, ◌<◌, ◌≤◌, Bool, true, false, List, ◌∷◌, length, refl, sym, ap, ◌∙◌, subst, arith, pos, ltb-false}
use Rattle.std.specs.Prelude.{nat_eq, nat_lt, int_lt, if◌then◌else◌}
use Rattle.std.specs.List.{count_by}
use Rattle.std.proofs.lemmas.Bool.Decides.{eqb_tells}
use Rattle.lt_base.specs.declared.value.Value.{Value}
use Rattle.lt_base.specs.Program.{Function}
use Rattle.lt_arch.specs.declared.chan.Chan.{Chan}
use Rattle.lt_arch.specs.declared.shape.Shape.{Shape}
use Rattle.lt_arch.specs.declared.timing.Timing.{Timing}
use Rattle.lt_arch.specs.declared.event.Event.TheVariants.{Del}
use Rattle.lt_arch.specs.Readers.{chan_count, from_of, to_of}
use Rattle.lt_arch.proofs.Changes.{updated-here, updated-other}
use Rattle.lt_link.specs.Ports.{is_to}
use Rattle.lt_lossy.specs.declared.event.LossyEvent.TheVariants.{Plain, Lose}
use Rattle.lt_lossy.specs.State.{Message, LinkState, LossyState, number_on}
use Rattle.lt_lossy.specs.Step.{lossy_after, link_delivered, link_lost}
use Rattle.lt_lossy.specs.Schedule.{lossy_reached}
use Rattle.lt_lossy.specs.Laws.{Ascends}
use Rattle.lt_lossy.proofs.Balance.{law-order}
use Rattle.lt_lossy.proofs.Changes.{link-lose, node-lose}
use Rattle.lt_lossy.proofs.Numbers.{newest-lost}
use Rattle.lt_place.specs.declared.layout.Layout.{Layout}
use Rattle.lt_place.specs.Layout.{crossing_of}
use Rattle.lt_net_node.specs.Layout.{joins, crossing_place}
use Rattle.lt_net_node.specs.Channels.{HasChannels}
use Rattle.lt_net_bench.proofs.Entries.{other_number}
use Rattle.lt_step.specs.Code.{StepCode}
use Rattle.lt_c.specs.Tree.{payload, newest, answered}
use Rattle.lt_c.specs.Meaning.{Store, c_truth_of, of_truth, stored, store_left}
use Rattle.lt_c.specs.Literals.{c_number}
use Rattle.lt_c.proofs.Stores.{truth_back, other_tag, same_self}
use Rattle.lt_c_control.specs.Inboxes.{taking}
use Rattle.lt_c_control.proofs.Delivered.{taking_others}
use Rattle.lt_c_bodies.specs.Messages.{delivering_newer, acknowledging_newer}
use Rattle.lt_c_net.specs.Stands.{sender, Packet, OneEach}
use Rattle.lt_c_net.proofs.Shaped.{shapes_serve}
use Rattle.lt_c_lossy.specs.Crossed.{crossing_value, crossing_channel}
use Rattle.lt_c_lossy.specs.Losing.{handed_number, taken_newer}
use Rattle.lt_c_lossy.specs.LosingStands.{LosingAt, CarriesNumber}
use Rattle.lt_c_lossy.specs.LosingLaws.{LosingDelivers}
use Rattle.lt_c_lossy.proofs.Crossings.{fits_of, one_kind_to, channel_sender, channel_to, place_in_channel}
use Rattle.lt_c_lossy.proofs.Filled.{taking_leaves, taken}
use Rattle.lt_c_lossy.proofs.Standing.{phase_kept, with_inboxes, stands_still}

-- numbers in C
less_pos : (a b : ℕ) → int_lt (pos a) (pos b) ≡ nat_lt a b
less_pos a b = refl

-- what is left where one number is less than another
where_less : (a b : ℕ) (x y : Store) → (if c_truth_of (of_truth (int_lt (pos a) (pos b))) then x else y) ≡ (if nat_lt a b then x else y)
where_less a b x y = ap (λ (t : Bool). if t then x else y) (truth_back (int_lt (pos a) (pos b)) ∙ less_pos a b)

-- the store of a receiver, where channel c to it delivered this number
module _ (f : Function) (l : Layout) (s : Shape) (channels : HasChannels l s) (rows : List (List Value)) (st st' : LossyState) (n : ℕ) (code : StepCode) (m : Store) (at : LosingAt f l s rows st n code m)
    (c number : ℕ) (in_channels : c < chan_count s) (k : Packet) (carries : CarriesNumber f l s rows c number k) (up : (st.link c).newest ≤ number)
    (node : st'.node n ≡ st.node n) (here : (st'.link c).newest ≡ number) (elsewhere : (e : ℕ) → e ≢ c → (st'.link e).newest ≡ (st.link e).newest) where
  abbrev cs : List Chan
  cs = s.channels

  abbrev j : ℕ
  j = sender cs c

  abbrev m1 : Store
  m1 = handed_number k m

  -- a packet at hand changes nothing of it
  at1 : LosingAt f l s rows st n code m1
  at1 = record {
    phase_is = phase_kept m m1 (st.node n).phase refl refl at.phase_is;
    executions_are = at.executions_are;
    sendings_are = at.sendings_are;
    numbers = at.numbers;
    answers = at.answers;
    values = at.values;
    slots = at.slots;
    kept = at.kept;
  }

  -- no newer number has come
  still : nat_lt (st.link c).newest number ≡ false → LosingAt f l s rows st' n code m1
  still old = stands_still f l s rows st st' n code m1 at1 node (λ e. elim (eqb_tells e c) [
    | inl h ↦ subst (λ e. (st'.link e).newest ≡ (st.link e).newest) (sym h.1) (here ∙ (let le = ltb-false (st.link c).newest number old in omega (arith, le, up)))
    | inr h ↦ elsewhere e h.1
  ])

  -- a channel that is not of the kind is another
  is_other : (kind : Bool) → is_to cs n kind c ≡ false → (e : ℕ) → is_to cs n kind e ≡ true → e ≢ c
  is_other kind nay e yea same = let x : is_to cs n kind c ≡ true = subst (λ e. is_to cs n kind e ≡ true) same yea in let y : false ≡ true = sym nay ∙ x in absurd (cc)

  -- the numbers of other channels of a kind to the node
  number_elsewhere : (e : ℕ) → e ≢ c → pos (st.link e).newest ≡ pos (st'.link e).newest
  number_elsewhere e ne = ap pos (sym (elsewhere e ne))

  value_elsewhere : (x : ℕ) → crossing_channel l s x ≢ c → c_number (crossing_value f rows (crossing_of l x) (st.link (crossing_channel l s x)).newest) ≡ c_number (crossing_value f rows (crossing_of l x) (st'.link (crossing_channel l s x)).newest)
  value_elsewhere x ne = ap (λ q. c_number (crossing_value f rows (crossing_of l x) q)) (sym (elsewhere (crossing_channel l s x) ne))

  -- the channel does not lead to the node
  pub takes_none : is_to cs n true c ≡ false → is_to cs n false c ≡ false → LosingAt f l s rows st' n code m
  takes_none nay none = with_inboxes f l s rows st st' n code m at node m (λ p f g h. refl)
      (λ e lt to. at.numbers e lt to ∙ number_elsewhere e (is_other true nay e to))
      (λ e lt to. at.answers e lt to ∙ number_elsewhere e (is_other false none e to))
      (λ x lt to. at.values x lt to ∙ value_elsewhere x (is_other true nay (crossing_channel l s x) (channel_to l s channels x n lt to)))

  -- it brings data
  module _ (one : OneEach cs n true) (is : is_to cs n true c ≡ true) where
    abbrev count : ℕ
    count = count_by (joins (from_of s c) (to_of s c)) l.cross

    abbrev marked : Store
    marked = stored m1 (newest j) k.mark

    abbrev filled_in : Store
    filled_in = store_left (taking j count) marked

    -- another channel of the kind is from another node
    other_sender : (e : ℕ) → e < chan_count s → is_to cs n true e ≡ true → e ≢ c → nat_eq (sender cs e) j ≡ false
    other_sender e lt to ne = other_number (sender cs e) j (λ same. ne (one e c lt in_channels to is same))

    number_in : (e : ℕ) → e < chan_count s → is_to cs n true e ≡ true → filled_in (newest (sender cs e)) ≡ pos (st'.link e).newest
    number_in e lt to = elim (eqb_tells e c) [
      | inl h ↦ subst (λ e. filled_in (newest (sender cs e)) ≡ pos (st'.link e).newest) (sym h.1)
          (taking_leaves j count marked (newest j) refl ∙ ap (λ (b : Bool). if b then k.mark else m1 (newest j)) (same_self j) ∙ carries.mark_is ∙ ap pos (sym here))
      | inr h ↦ taking_leaves j count marked (newest (sender cs e)) refl ∙ ap (λ (b : Bool). if b then k.mark else m1 (newest (sender cs e))) (other_sender e lt to h.1) ∙ at.numbers e lt to ∙ number_elsewhere e h.1
    ]

    value_in : (x : ℕ) → x < length l.cross → (crossing_of l x).to ≡ n → filled_in (payload (crossing_of l x).from (crossing_place l x)) ≡ c_number (crossing_value f rows (crossing_of l x) (st'.link (crossing_channel l s x)).newest)
    value_in x lt to =
        let ch : ℕ = crossing_channel l s x in
        let from_is = channel_sender l s channels x lt in
        elim (eqb_tells ch c) [
          | inl h ↦
              ap (λ i. filled_in (payload i (crossing_place l x))) (sym from_is ∙ ap (sender cs) h.1)
              ∙ taken j count marked (crossing_place l x) (place_in_channel l s channels x c lt h.1)
              ∙ carries.values_are x lt h.1
              ∙ ap (λ q. c_number (crossing_value f rows (crossing_of l x) q)) (sym (ap (λ e. (st'.link e).newest) h.1 ∙ here))
          | inr h ↦
              taking_others j count marked (crossing_of l x).from (crossing_place l x) (ap (λ i. nat_eq i j) (sym from_is) ∙ other_sender ch (channels.there x lt) (channel_to l s channels x n lt to) h.1)
              ∙ at.values x lt to ∙ value_elsewhere x h.1
        ]

    newer : LosingAt f l s rows st' n code filled_in
    newer = with_inboxes f l s rows st st' n code m1 at1 node filled_in
        (λ p g h i. taking_leaves j count marked p g ∙ other_tag m1 (newest j) p k.mark h)
        number_in
        (λ e lt to. taking_leaves j count marked (answered (sender cs e)) refl ∙ at.answers e lt to ∙ number_elsewhere e (is_other false (one_kind_to cs n c is) e to))
        value_in

    pub takes_data : LosingAt f l s rows st' n code (store_left (delivering_newer j count) m1)
    takes_data =
        subst (λ (z : Store). LosingAt f l s rows st' n code z) (sym chosen) (by_order (nat_lt (st.link c).newest number) refl)
      where
        chosen : store_left (delivering_newer j count) m1 ≡ (if nat_lt (st.link c).newest number then filled_in else m1)
        chosen = (λ i. if c_truth_of (of_truth (int_lt (at.numbers c in_channels is i) (carries.mark_is i))) then filled_in else m1) ∙ where_less (st.link c).newest number filled_in m1

        by_order : (b : Bool) → nat_lt (st.link c).newest number ≡ b → LosingAt f l s rows st' n code (if b then filled_in else m1)
        by_order true e = newer
        by_order false e = still e

  -- it brings acknowledgements
  module _ (one : OneEach cs n false) (nay : is_to cs n true c ≡ false) (is : is_to cs n false c ≡ true) where
    abbrev noted : Store
    noted = stored m1 (answered j) k.mark

    answer_in : (e : ℕ) → e < chan_count s → is_to cs n false e ≡ true → noted (answered (sender cs e)) ≡ pos (st'.link e).newest
    answer_in e lt to = elim (eqb_tells e c) [
      | inl h ↦ subst (λ e. noted (answered (sender cs e)) ≡ pos (st'.link e).newest) (sym h.1)
          (ap (λ (b : Bool). if b then k.mark else m1 (answered j)) (same_self j) ∙ carries.mark_is ∙ ap pos (sym here))
      | inr h ↦
          ap (λ (b : Bool). if b then k.mark else m1 (answered (sender cs e))) (other_number (sender cs e) j (λ same. h.1 (one e c lt in_channels to is same)))
          ∙ at.answers e lt to ∙ number_elsewhere e h.1
    ]

    heard : LosingAt f l s rows st' n code noted
    heard = with_inboxes f l s rows st st' n code m1 at1 node noted
        (λ p g h i. other_tag m1 (answered j) p k.mark i)
        (λ e lt to. at.numbers e lt to ∙ number_elsewhere e (is_other true nay e to))
        answer_in
        (λ x lt to. at.values x lt to ∙ value_elsewhere x (is_other true nay (crossing_channel l s x) (channel_to l s channels x n lt to)))

    pub takes_answer : LosingAt f l s rows st' n code (store_left (acknowledging_newer j) m1)
    takes_answer =
        subst (λ (z : Store). LosingAt f l s rows st' n code z) (sym chosen) (by_order (nat_lt (st.link c).newest number) refl)
      where
        chosen : store_left (acknowledging_newer j) m1 ≡ (if nat_lt (st.link c).newest number then noted else m1)
        chosen = (λ i. if c_truth_of (of_truth (int_lt (at.answers c in_channels is i) (carries.mark_is i))) then noted else m1) ∙ where_less (st.link c).newest number noted m1

        by_order : (b : Bool) → nat_lt (st.link c).newest number ≡ b → LosingAt f l s rows st' n code (if b then noted else m1)
        by_order true e = heard
        by_order false e = still e

  pub takes : LosingAt f l s rows st' n code (taken_newer cs n c (count_by (joins (from_of s c) (to_of s c)) l.cross) k m)
  takes = by_kind (is_to cs n true c) (is_to cs n false c) refl refl
    where
      by_kind : (a b : Bool) → is_to cs n true c ≡ a → is_to cs n false c ≡ b →
          LosingAt f l s rows st' n code (if a then store_left (delivering_newer j (count_by (joins (from_of s c) (to_of s c)) l.cross)) m1 else (if b then store_left (acknowledging_newer j) m1 else m))
      by_kind true b h g = takes_data (shapes_serve s n true).1 h
      by_kind false true h g = takes_answer (shapes_serve s n false).1 h g
      by_kind false false h g = takes_none h g

-- what a delivery and a loss do to the newest number of a channel
module _ (s : Shape) (t : Timing) (count : ℕ) (st : LossyState) (c at : ℕ) where
  pub brought_here : (oldest : Message) (later : List Message) → (st.link c).transit ≡ oldest ∷ later → ((lossy_after s t count st (Plain (Del c at))).link c).newest ≡ oldest.number
  unfolding lossy_after
  brought_here oldest later is =
      ap (λ (z : LinkState). z.newest) (updated-here st.link c (link_delivered (st.link c) (st.link c).transit) c refl)
      ∙ ap (λ ms. (link_delivered (st.link c) ms).newest) is

  pub brought_elsewhere : (e : ℕ) → e ≢ c → ((lossy_after s t count st (Plain (Del c at))).link e).newest ≡ (st.link e).newest
  unfolding lossy_after
  brought_elsewhere e ne = ap (λ (z : LinkState). z.newest) (updated-other st.link c (link_delivered (st.link c) (st.link c).transit) e ne)

  pub node_brought : (i : ℕ) → (lossy_after s t count st (Plain (Del c at))).node i ≡ st.node i
  unfolding lossy_after
  node_brought i = refl

  lost_same : (e : ℕ) → ((lossy_after s t count st (Lose c at)).link e).newest ≡ (st.link e).newest
  lost_same e = link-lose s t count st c at (λ z. z.newest ≡ (st.link e).newest) e
      (λ h. subst (λ e. (link_lost (st.link c) (st.link c).transit).newest ≡ (st.link e).newest) (sym h) (newest-lost (st.link c) (st.link c).transit))
      (λ ne. refl)

  pub node_lost : (i : ℕ) → (lossy_after s t count st (Lose c at)).node i ≡ st.node i
  node_lost i = node-lose s t count st c at i

  pub loses : (f : Function) (l : Layout) (rows : List (List Value)) (n : ℕ) (code : StepCode) (m : Store) → LosingAt f l s rows st n code m → LosingAt f l s rows (lossy_after s t count st (Lose c at)) n code m
  loses f l rows n code m stands = stands_still f l s rows st (lossy_after s t count st (Lose c at)) n code m stands (node_lost n) lost_same

-- the oldest message has at least the newest number that was delivered
least_oldest : (low : ℕ) (ms : List Message) (high : ℕ) (oldest : Message) (later : List Message) → ms ≡ oldest ∷ later → Ascends low ms high → low ≤ oldest.number
least_oldest low ms high oldest later is up = (subst (λ xs. Ascends low xs high) is up).0

pub losing_delivers : LosingDelivers
losing_delivers = record {
  delivery = λ f losses d is es free n c at nb cb k oldest later transit carries m stands.
      let s = d.base.shape in
      let t = d.base.timing in
      let count : ℕ = length d.base.inputs in
      let st : LossyState = lossy_reached s t count es in
      let order = law-order s t losses count es free in
      takes f.func d.base.layout s (fits_of f losses d is).channels d.base.inputs st (lossy_after s t count st (Plain (Del c at))) n (d.base.nodes n).code m stands c oldest.number cb k carries
      (least_oldest (st.link c).newest (st.link c).transit (number_on s (st.node (from_of s c)) c) oldest later transit (order.ascends c cb))
      (node_brought s t count st c at n) (brought_here s t count st c at oldest later transit) (brought_elsewhere s t count st c at);
  loss = λ f d st n c at m stands. loses d.base.shape d.base.timing (length d.base.inputs) st c at f.func d.base.layout d.base.inputs n (d.base.nodes n).code m stands;
}
