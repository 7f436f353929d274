-- A store whose node does a deed.
use Rattle.std.proofs.Math.Nat.{zero-add, add-zero}
use Rattle.std.proofs.Common.{◌≡◌, ℕ, zero, suc, ◌<◌, ◌+◌, ◌-◌, ℤ, pos, Bool, true, false, not, List, [], ◌∷◌, length, map, Some, refl, sym, ap, ◌∙◌, subst, arith, add-one}
use Rattle.std.specs.Prelude.{◌&&◌, ◌||◌, ◌==◌, nat_eq, nat_lt, slice_index_or, if◌then◌else◌}
use Rattle.std.specs.List.{slice_get, list_any}
use Rattle.std.proofs.lemmas.Bool.Decides.{nat_tests}
use Rattle.std.proofs.lemmas.List.{get_or-set_same}
use Rattle.lt_base.specs.declared.value.Value.{Value}
use Rattle.lt_arch.specs.declared.chan.Chan.{Chan}
use Rattle.lt_arch.specs.declared.event.Deed.{Deed}
use Rattle.lt_arch.specs.declared.event.Deed.TheVariants.{Nothing, Execute, Send}
use Rattle.lt_arch.specs.State.{Phase, Wait, Ready, First, Sending, Executing, unsent}
use Rattle.lt_arch.specs.Step.{is_execute, is_send}
use Rattle.lt_arch.specs.Readers.{chan_of, is_data, no_chan, to_of, carries_data}
use Rattle.lt_arch.proofs.Changes.{one_if}
use Rattle.lt_link.specs.Bits.{bit_of}
use Rattle.lt_link.specs.Inbox.{InboxState, no_inbox}
use Rattle.lt_place.specs.declared.layout.Feed.{Feed}
use Rattle.lt_place.specs.declared.layout.Feed.TheVariants.{Input, Cross}
use Rattle.lt_place.specs.declared.layout.Layout.{Layout}
use Rattle.lt_place.specs.Layout.{part_of, crossing_of}
use Rattle.lt_net_node.specs.declared.route.Route.{Route}
use Rattle.lt_net_node.specs.Acts.{marked}
use Rattle.lt_net_node.specs.Fed.{fed_by, route_of, CanFeed}
use Rattle.lt_net_node.specs.Freshness.{TakenUpTo}
use Rattle.lt_link.specs.Ports.{is_to}
use Rattle.lt_net_node.specs.Layout.{crossing_place}
use Rattle.lt_net_node.specs.Payloads.{channel_between}
use Rattle.lt_net_bench.specs.Bench.{BenchState}
use Rattle.lt_net_bench.specs.Executes.{ins_of}
use Rattle.lt_net_bench.proofs.Entries.{same_number, or_false}
use Rattle.lt_net.proofs.Counts as counts
use Rattle.lt_step.specs.Code.{StepCode}
use Rattle.lt_step.specs.Run.{slots_after}
use Rattle.lt_c.specs.Tree.{did, sent, executed, bit, read, payload, ack, seen, Statement, perform}
use Rattle.lt_c.specs.Meaning.{Store, c_truth_of, of_truth, stored, store_left}
use Rattle.lt_c_step.specs.Laws.{Matches}
use Rattle.lt_c.specs.Literals.{c_number}
use Rattle.lt_c_step.specs.declared.sources.Source.{Source}
use Rattle.lt_c_step.specs.declared.sources.Output.{Output}
use Rattle.lt_c_step.specs.Part.{source_variable, part_step, Offers}
use Rattle.lt_c_control.specs.Control.{HasPhase, Does}
use Rattle.lt_c.proofs.Stores.{truth_back}
use Rattle.lt_c_step.proofs.Executing.{parts_execute}
use Rattle.lt_c_control.specs.Inboxes.{payload_value, HasData, HasAck}
use Rattle.lt_c_net.specs.Stands.{sender, NodeAt, offered, ListsSenders}
use Rattle.lt_c_net.specs.Moves.{feed_source, feed_sources, given_by, IsCodeOfNode, Moves, rows_after, own_row}
use Rattle.lt_c_net.specs.Laws.{IsFed}
use Rattle.lt_c_net.proofs.Taking.{one_kind}
use Rattle.lt_machine.specs.declared.machine.Machine.{Ghosts as Machines}

-- a bit that alternates is that of its count
pub turned_bit : (b : Bool) (old new : ℤ) (a a' : ℕ) → old ≡ of_truth (bit_of a) → a' ≡ a + one_if b → new ≡ (if b then of_truth (not (c_truth_of old)) else old) → new ≡ of_truth (bit_of a')
turned_bit true old new a a' was grows is =
    is ∙ ap (λ z. of_truth (not (c_truth_of z))) was ∙ ap (λ (x : Bool). of_truth (not x)) (truth_back (bit_of a)) ∙ ap (λ k. of_truth (bit_of k)) (sym (add-one a) ∙ sym grows)
turned_bit false old new a a' was grows is = is ∙ was ∙ ap (λ k. of_truth (bit_of k)) (let e : a ≡ a' = omega (arith, grows) in e)

-- which inboxes become read
abbrev takes : List Chan → (n : ℕ) → Deed → (c : ℕ) → Bool
takes cs n deed c = (is_execute deed && is_to cs n true c) || (is_send deed && is_to cs n false c)

takes_data : (x y a b : Bool) → a ≡ true → b ≡ false → ((x && a) || (y && b)) ≡ x
takes_data true y true false f g = refl
takes_data false true true false f g = refl
takes_data false false true false f g = refl
takes_data x y false b f g = absurd (cc)
takes_data x y true true f g = absurd (cc)

takes_ack : (x y a b : Bool) → a ≡ false → b ≡ true → ((x && a) || (y && b)) ≡ y
takes_ack true y false true f g = and_true y
  where
    and_true : (y : Bool) → (y && true) ≡ y
    and_true true = refl
    and_true false = refl
takes_ack false true false true f g = refl
takes_ack false false false true f g = refl
takes_ack x y true b f g = absurd (cc)
takes_ack x y false false f g = absurd (cc)

other_kind : (cs : List Chan) (n c : ℕ) → is_to cs n false c ≡ true → is_to cs n true c ≡ false
other_kind cs n c h = by_kind ((slice_index_or cs c no_chan).to == n) (is_data (slice_index_or cs c no_chan).kind) h
  where
    by_kind : (a b : Bool) → (a && not b) ≡ true → (a && b) ≡ false
    by_kind true false h = refl
    by_kind true true h = absurd (cc)
    by_kind false b h = refl

module _ (ins acks : List ℕ) (run : Statement) (m m' : Store) (deed : Deed) (next : Phase) (d : Does ins acks run m m' deed next) where
  data_after : (j : ℕ) (b : InboxState) (x : Bool) → is_execute deed ≡ x → list_any (nat_eq j) ins ≡ true → HasData m j b → HasData m' j (marked x b)
  data_after j b true is is_in h = record {
    bit_is = d.bits j ∙ h.bit_is;
    read_is = d.reads j ∙ (λ i. if is i && is_in i then m (bit j) else m (read j)) ∙ h.bit_is;
    values = λ k lt. d.payloads j k ∙ h.values k lt;
  }
  data_after j b false is is_in h = record {
    bit_is = d.bits j ∙ h.bit_is;
    read_is = d.reads j ∙ (λ i. if is i && is_in i then m (bit j) else m (read j)) ∙ h.read_is;
    values = λ k lt. d.payloads j k ∙ h.values k lt;
  }

  ack_after : (j : ℕ) (b : InboxState) (x : Bool) → is_send deed ≡ x → list_any (nat_eq j) acks ≡ true → HasAck m j b → HasAck m' j (marked x b)
  ack_after j b true is is_in h = record {
    bit_is = d.acks_stay j ∙ h.bit_is;
    read_is = d.seens j ∙ (λ i. if is i && is_in i then m (ack j) else m (seen j)) ∙ h.bit_is;
  }
  ack_after j b false is is_in h = record {
    bit_is = d.acks_stay j ∙ h.bit_is;
    read_is = d.seens j ∙ (λ i. if is i && is_in i then m (ack j) else m (seen j)) ∙ h.read_is;
  }

  module _ (cs : List Chan) (n : ℕ) (ph : Phase) (count count' : ℕ) (bs bs' : List InboxState) (code : StepCode) (rows rows' : List (List Value)) (at : NodeAt cs n ph count bs code rows m) (ins_are : ListsSenders cs n true ins) (acks_are : ListsSenders cs n false acks)
      (goes : counts.Wakes ph count deed next count') (grown : count' ≡ count + one_if (is_execute deed))
      (took : (c : ℕ) → c < length cs → slice_index_or bs' c no_inbox ≡ marked (takes cs n deed c) (slice_index_or bs c no_inbox))
      (slots : Matches (slots_after code (map (map Some) rows')) m') where
    data_at : (c : ℕ) → c < length cs → is_to cs n true c ≡ true → HasData m' (sender cs c) (slice_index_or bs' c no_inbox)
    data_at c lt to =
        subst (λ b. HasData m' (sender cs c) b)
        (sym (took c lt ∙ ap (λ x. marked x (slice_index_or bs c no_inbox)) (takes_data (is_execute deed) (is_send deed) (is_to cs n true c) (is_to cs n false c) to (one_kind cs n c to))))
        (data_after (sender cs c) (slice_index_or bs c no_inbox) (is_execute deed) refl (ins_are.all c lt to) (at.messages c lt to))

    ack_at : (c : ℕ) → c < length cs → is_to cs n false c ≡ true → HasAck m' (sender cs c) (slice_index_or bs' c no_inbox)
    ack_at c lt to =
        subst (λ b. HasAck m' (sender cs c) b)
        (sym (took c lt ∙ ap (λ x. marked x (slice_index_or bs c no_inbox)) (takes_ack (is_execute deed) (is_send deed) (is_to cs n true c) (is_to cs n false c) (other_kind cs n c to) to)))
        (ack_after (sender cs c) (slice_index_or bs c no_inbox) (is_send deed) refl (acks_are.all c lt to) (at.acks c lt to))

    pub stands : NodeAt cs n next count' bs' code rows' m'
    stands = record {
      phase_is = d.next_is;
      messages = data_at;
      acks = ack_at;
      slots = slots;
      executed_is = turned_bit (is_execute deed) (m executed) (m' executed) count count' at.executed_is grown d.executed_is;
      sent_is = turned_bit (is_send deed) (m sent) (m' sent) (count - unsent ph) (count' - unsent next) at.sent_is goes.sends d.sent_is;
      counted = goes.phase;
    }

-- inputs at hand change nothing of it
pub offers : (cs : List Chan) (n : ℕ) (ph : Phase) (count : ℕ) (bs : List InboxState) (code : StepCode) (rows : List (List Value)) (m : Store) (has : Bool) (row : List Value) → NodeAt cs n ph count bs code rows m → NodeAt cs n ph count bs code rows (offered has row m)
offers cs n ph count bs code rows m has row at = record {
  phase_is = phase_stays ph at.phase_is;
  messages = λ c lt to. let h = at.messages c lt to in record { bit_is = h.bit_is; read_is = h.read_is; values = h.values };
  acks = λ c lt to. let h = at.acks c lt to in record { bit_is = h.bit_is; read_is = h.read_is };
  slots = at.slots;
  executed_is = at.executed_is;
  sent_is = at.sent_is;
  counted = at.counted;
}
  where
    phase_stays : (ph : Phase) → HasPhase m ph → HasPhase (offered has row m) ph
    phase_stays Wait h = h
    phase_stays Ready h = h
    phase_stays First h = h
    phase_stays (Sending k) h = h
    phase_stays (Executing k) h = h

-- what a part is fed with is offered
all_offered : (m : Store) (l : Layout) (routes : List Route) (bs : List InboxState) (row : List Value) (from : ℕ) (feeds : List Feed) → ((x : ℕ) (d : Feed) → slice_get feeds x ≡ Some d → m (source_variable (feed_source l (from + x) d)) ≡ c_number (fed_by routes bs row d)) →
    Offers m (feed_sources l from feeds) (map (fed_by routes bs row) feeds)
all_offered m l routes bs row from [] h = tt
all_offered m l routes bs row from (d ∷ ds) h = (
  subst (λ x. m (source_variable (feed_source l x d)) ≡ c_number (fed_by routes bs row d)) (add-zero from) (h 0 d refl),
  all_offered m l routes bs row (suc from) ds (λ x e is. let next : from + suc x ≡ suc from + x = omega arith in subst (λ y. m (source_variable (feed_source l y e)) ≡ c_number (fed_by routes bs row e)) next (h (suc x) e is)),
)

-- the value of an input that comes from outside
given_value : (row : List Value) (feeds : List Feed) (x : ℕ) (d : Feed) → slice_get feeds x ≡ Some d → payload_value (map (given_by row) feeds) x ≡ given_by row d
given_value row [] x d h = absurd (cc)
given_value row (e ∷ es) zero d h = ap (given_by row) (some_same e d h)
  where
    some_same : (a b : Feed) → Some a ≡ Some b → a ≡ b
    some_same a b h = cc
given_value row (e ∷ es) (suc x) d h = given_value row es x d h

module _ {C M : Type 0} (p : BenchState C M) (n : ℕ) (row : List Value) (rows : List (List Value)) (fed : IsFed p n row rows) (ph : Phase) (count : ℕ) (code : StepCode) (m : Store) (at : NodeAt p.shape.channels n ph count p.inboxes code rows m) where
  abbrev k : (c : ℕ) → ℕ
  k c = channel_between p.shape (crossing_of p.layout c).from (crossing_of p.layout c).to

  leads : (to : ℕ) (is : Bool) → to ≡ n → is ≡ true → ((to == n) && is) ≡ true
  leads to is e yea = ap (λ (b : Bool). (to == n) && b) yea ∙ subst (λ to. ((to == n) && true) ≡ true) (sym e) (ap (λ (b : Bool). b && true) (same_number n))

  is_channel : (c : ℕ) → c < length p.layout.cross → (crossing_of p.layout c).to ≡ n → is_to p.shape.channels n true (k c) ≡ true
  unfolding chan_of
  is_channel c lt to = leads (to_of p.shape (k c)) (carries_data p.shape (k c)) (fed.channels.to c lt ∙ to) (fed.channels.carries c lt)

  is_sender : (c : ℕ) → c < length p.layout.cross → sender p.shape.channels (k c) ≡ (crossing_of p.layout c).from
  unfolding chan_of
  is_sender c lt = fed.channels.from c lt

  crossed : (c : ℕ) → c < length p.layout.cross → (crossing_of p.layout c).to ≡ n → CanFeed p.routes p.inboxes row (Cross c) → m (payload (crossing_of p.layout c).from (crossing_place p.layout c)) ≡ c_number (fed_by p.routes p.inboxes row (Cross c))
  crossed c lt to can =
      let ch = fed.routes.channels c lt in
      let pl = fed.routes.places c lt in
      let b : InboxState = slice_index_or p.inboxes (k c) no_inbox in
      let within : crossing_place p.layout c < length b.payload = subst (λ x. x < length b.payload) pl (subst (λ x. (route_of p.routes c).place < length (slice_index_or p.inboxes x no_inbox).payload) ch can.2) in
      let h : HasData m (sender p.shape.channels (k c)) b = at.messages (k c) (fed.channels.there c lt) (is_channel c lt to) in
      ap (λ j. m (payload j (crossing_place p.layout c))) (sym (is_sender c lt))
      ∙ h.values (crossing_place p.layout c) within
      ∙ ap (λ x. c_number (payload_value b.payload x)) (sym pl)
      ∙ ap (λ x. c_number (payload_value (slice_index_or p.inboxes x no_inbox).payload (route_of p.routes c).place)) (sym ch)

  fed_at : (has : Bool) (x : ℕ) (d : Feed) → slice_get (part_of p.layout n).feeds x ≡ Some d → CanFeed p.routes p.inboxes row d → stored (offered has (own_row p.layout n row) m) did (pos 0) (source_variable (feed_source p.layout x d)) ≡ c_number (fed_by p.routes p.inboxes row d)
  fed_at has x (Input i) is can = ap c_number (given_value row (part_of p.layout n).feeds x (Input i) is)
  fed_at has x (Cross c) is can = let on = fed.crosses x c is in crossed c on.0 on.1 can

  -- the store offers the row
  pub feeds_offered : (has : Bool) (ins acks : List ℕ) (ss : List Source) (os : List Output) → IsCodeOfNode p.layout p.shape n code ins acks ss os → Offers (stored (offered has (own_row p.layout n row) m) did (pos 0)) ss (ins_of p n row)
  feeds_offered has ins acks ss os file =
      subst (λ ss. Offers (stored (offered has (own_row p.layout n row) m) did (pos 0)) ss (ins_of p n row)) (sym file.sources_are)
      (all_offered (stored (offered has (own_row p.layout n row) m) did (pos 0)) p.layout p.routes p.inboxes row 0 (part_of p.layout n).feeds (λ x d is. subst (λ y. stored (offered has (own_row p.layout n row) m) did (pos 0) (source_variable (feed_source p.layout y d)) ≡ c_number (fed_by p.routes p.inboxes row d)) (sym (zero-add x)) (fed_at has x d is (fed.feeds x d is))))

  -- the step of the part leaves the slots of one more instant
  pub slots_go : (has : Bool) (ins acks : List ℕ) (ss : List Source) (os : List Output) → IsCodeOfNode p.layout p.shape n code ins acks ss os → Matches (slots_after code (map (map Some) (ins_of p n row ∷ rows))) (store_left (part_step ss os code) (stored (offered has (own_row p.layout n row) m) did (pos 0)))
  slots_go has ins acks ss os file =
      (parts_execute (part_of p.layout n).flat.func code file.code_of ss os file.differ rows (ins_of p n row) fed.fit (stored (offered has (own_row p.layout n row) m) did (pos 0)) at.slots (feeds_offered has ins acks ss os file)).matches

module _ {C M : Type 0} (mch : Machines M) (p q : BenchState C M) (n : ℕ) (row : List Value) (rows : List (List Value)) (ph : Phase) (code : StepCode) (ins acks : List ℕ) (ss : List Source) (os : List Output) (file : IsCodeOfNode p.layout p.shape n code ins acks ss os)
    (m : Store) (has : Bool) (in_range : n < length p.executed) (at : NodeAt p.shape.channels n ph (slice_index_or p.executed n 0) p.inboxes code rows m) where
  abbrev cs : List Chan
  cs = p.shape.channels

  abbrev count : ℕ
  count = slice_index_or p.executed n 0

  abbrev m1 : Store
  m1 = offered has (own_row p.layout n row) m

  at1 : NodeAt cs n ph count p.inboxes code rows m1
  at1 = offers cs n ph count p.inboxes code rows m has (own_row p.layout n row) at

  less : (a b : ℕ) → a < b → nat_lt a b ≡ true
  less a b lt = grind (arith, nat_tests)

  -- where the controller does this deed, and the bench too
  pub deed_keeps : (deed : Deed) (next : Phase) (m' : Store) → Does ins acks (perform (part_step ss os code)) m1 m' deed next → Moves mch p q n row deed → (deed ≡ Execute → IsFed p n row rows) →
      counts.Wakes ph count deed next (if is_execute deed then count + 1 else count) → NodeAt cs n next (slice_index_or q.executed n 0) q.inboxes code (rows_after p n row deed rows) m'
  deed_keeps Nothing next m' d moves fed goes =
      let same : slice_index_or q.executed n 0 ≡ count = ap (λ e. slice_index_or e n 0) moves.1 in
      stands ins acks (perform (part_step ss os code)) m1 m' Nothing next d cs n ph count (slice_index_or q.executed n 0) p.inboxes q.inboxes code rows rows at1 file.ins_are file.acks_are
      (subst (λ x. counts.Wakes ph count Nothing next x) (sym same) goes) (omega (arith, same))
      (λ c lt. ap (λ b. slice_index_or b c no_inbox) moves.0)
      (λ x v h. d.slots x ∙ at1.slots x v h)
  deed_keeps Send next m' d moves fed goes =
      let same : slice_index_or q.executed n 0 ≡ count = ap (λ e. slice_index_or e n 0) moves.1 in
      let taken : TakenUpTo (length cs) (is_to cs n false) p.inboxes q.inboxes = moves.0 in
      stands ins acks (perform (part_step ss os code)) m1 m' Send next d cs n ph count (slice_index_or q.executed n 0) p.inboxes q.inboxes code rows rows at1 file.ins_are file.acks_are
      (subst (λ x. counts.Wakes ph count Send next x) (sym same) goes) (omega (arith, same))
      (λ c lt. taken.each c ∙ ap (λ x. marked (x && is_to cs n false c) (slice_index_or p.inboxes c no_inbox)) (less c (length cs) lt))
      (λ x v h. d.slots x ∙ at1.slots x v h)
  deed_keeps Execute next m' d moves fed goes =
      let same : slice_index_or q.executed n 0 ≡ count + 1 = ap (λ e. slice_index_or e n 0) moves.executed ∙ get_or-set_same p.executed n (count + 1) 0 in_range in
      let taken : TakenUpTo (length cs) (is_to cs n true) p.inboxes q.inboxes = moves.taken in
      let go = slots_go p n row rows (fed refl) ph count code m at has ins acks ss os file in
      stands ins acks (perform (part_step ss os code)) m1 m' Execute next d cs n ph count (slice_index_or q.executed n 0) p.inboxes q.inboxes code rows (ins_of p n row ∷ rows) at1 file.ins_are file.acks_are
      (subst (λ x. counts.Wakes ph count Execute next x) (sym same) goes) same
      (λ c lt. taken.each c ∙ ap (λ x. marked (x && is_to cs n true c) (slice_index_or p.inboxes c no_inbox)) (less c (length cs) lt) ∙ ap (λ x. marked x (slice_index_or p.inboxes c no_inbox)) (sym (or_false (is_to cs n true c))))
      (λ x v h. d.slots x ∙ go x v h)
