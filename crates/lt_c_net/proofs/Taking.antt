-- A delivery keeps each node's store standing.
use Rattle.std.proofs.Common.{◌≡◌, ◌≢◌, inl, inr, ℕ, ◌<◌, Bool, true, false, not, List, length, refl, sym, ap, ◌∙◌, subst}
use Rattle.std.specs.Prelude.{◌&&◌, ◌==◌, nat_eq, slice_index_or, slice_set, if◌then◌else◌}
use Rattle.std.specs.List.{slice_get}
use Rattle.std.proofs.lemmas.Bool.Decides.{eqb_tells}
use Rattle.std.proofs.lemmas.List.{get_or-set_same, get_or-set_other}
use Rattle.lt_base.specs.declared.value.Value.{Value}
use Rattle.lt_arch.specs.declared.chan.Chan.{Chan}
use Rattle.lt_arch.specs.State.{Phase, Wait, Ready, First, Sending, Executing}
use Rattle.lt_arch.specs.declared.shape.Shape.{Shape}
use Rattle.lt_arch.specs.Readers.{is_data, no_chan}
use Rattle.lt_io.specs.declared.message.Message.{Message}
use Rattle.lt_link.specs.Inbox.{InboxState, no_inbox}
use Rattle.lt_link.specs.Ports.{is_to}
use Rattle.lt_net_bench.proofs.Entries.{other_number}
use Rattle.lt_step.specs.Code.{StepCode}
use Rattle.lt_c.specs.Tree.{slot, phase, left, sent, executed, bit, read, payload, ack, seen}
use Rattle.lt_c.specs.Meaning.{Store, of_truth, store_left}
use Rattle.lt_c_control.specs.Control.{HasPhase}
use Rattle.lt_c_control.specs.Inboxes.{HasData, HasAck, delivering, acknowledging, PutsData, PutsAck}
use Rattle.lt_c_control.proofs.Delivered.{messages_put}
use Rattle.lt_c_net.specs.Stands.{sender, NodeAt, Packet, Carries, handed, OneEach}
use Rattle.lt_c_net.specs.Laws.{taken_in, DeliveriesKeep}
use Rattle.lt_machine.specs.declared.machine.Machine.{Ghosts as Machines}
use Rattle.lt_arch.specs.declared.controller.Controller.{Ghosts as Controls}

-- no channel is of both kinds
pub one_kind : (cs : List Chan) (n c : ℕ) → is_to cs n true c ≡ true → is_to cs n false c ≡ false
one_kind cs n c h = by_kind ((slice_index_or cs c no_chan).to == n) (is_data (slice_index_or cs c no_chan).kind) h
  where
    by_kind : (a b : Bool) → (a && b) ≡ true → (a && not b) ≡ false
    by_kind true true h = refl
    by_kind true false h = absurd (cc)
    by_kind false b h = refl

not_same : (a b : ℕ) → a ≢ b → nat_eq a b ≡ false
not_same a b ne = other_number a b ne

-- a message at hand changes nothing of it
hands : (cs : List Chan) (n : ℕ) (ph : Phase) (count : ℕ) (bs : List InboxState) (code : StepCode) (rows : List (List Value)) (m : Store) (k : Packet) → NodeAt cs n ph count bs code rows m → NodeAt cs n ph count bs code rows (handed k m)
hands cs n ph count bs code rows m k at = record {
  phase_is = phase_stays ph at.phase_is;
  messages = λ c lt to. let h = at.messages c lt to in record { bit_is = h.bit_is; read_is = h.read_is; values = h.values };
  acks = λ c lt to. let h = at.acks c lt to in record { bit_is = h.bit_is; read_is = h.read_is };
  slots = at.slots;
  executed_is = at.executed_is;
  sent_is = at.sent_is;
  counted = at.counted;
}
  where
    phase_stays : (ph : Phase) → HasPhase m ph → HasPhase (handed k m) ph
    phase_stays Wait h = h
    phase_stays Ready h = h
    phase_stays First h = h
    phase_stays (Sending i) h = h
    phase_stays (Executing i) h = h

-- where the controller's variables stay, it is in its phase
phase_kept : (m new : Store) (ph : Phase) → new phase ≡ m phase → new left ≡ m left → HasPhase m ph → HasPhase new ph
phase_kept m new Wait e f h = e ∙ h
phase_kept m new Ready e f h = e ∙ h
phase_kept m new First e f h = e ∙ h
phase_kept m new (Sending k) e f h = (e ∙ h.0, f ∙ h.1)
phase_kept m new (Executing k) e f h = (e ∙ h.0, f ∙ h.1)

module _ (cs : List Chan) (n : ℕ) (ph : Phase) (count : ℕ) (bs : List InboxState) (code : StepCode) (rows : List (List Value)) (m : Store) (at : NodeAt cs n ph count bs code rows m) (ch : ℕ) (msg : Message) (in_channels : ch < length cs) (in_inboxes : ch < length bs) where
  abbrev put : InboxState
  put = record (slice_index_or bs ch no_inbox) { payload = msg.payload; bit = msg.bit }

  abbrev bs' : List InboxState
  bs' = slice_set bs ch put

  here : slice_index_or bs' ch no_inbox ≡ put
  here = get_or-set_same bs ch put no_inbox in_inboxes

  elsewhere : (c : ℕ) → c ≢ ch → slice_index_or bs' c no_inbox ≡ slice_index_or bs c no_inbox
  elsewhere c ne = get_or-set_other bs ch c put no_inbox ne

  abbrev j : ℕ
  j = sender cs ch

  -- a channel that is not of the kind is another
  is_other : (kind : Bool) → is_to cs n kind ch ≡ false → (c : ℕ) → is_to cs n kind c ≡ true → c ≢ ch
  is_other kind nay c yea same = let e : is_to cs n kind ch ≡ true = subst (λ c. is_to cs n kind c ≡ true) same yea in let f : false ≡ true = sym nay ∙ e in absurd (cc)

  -- the store whose inbox for the data of the sender is this one, and which is else the same
  module _ (new : Store) (puts : PutsData j new m put) where
    other_data : (i : ℕ) (b : InboxState) → i ≢ j → HasData m i b → HasData new i b
    other_data i b ne h = record {
      bit_is = puts.other_bits i (not_same i j ne) ∙ h.bit_is;
      read_is = puts.others (read i) refl refl ∙ h.read_is;
      values = λ k lt. puts.other_values i k (not_same i j ne) ∙ h.values k lt;
    }

    data_at : OneEach cs n true → is_to cs n true ch ≡ true → (c : ℕ) → c < length cs → is_to cs n true c ≡ true → HasData new (sender cs c) (slice_index_or bs' c no_inbox)
    data_at one is c lt to = elim (eqb_tells c ch) [
      | inl e ↦ subst (λ c. HasData new (sender cs c) (slice_index_or bs' c no_inbox)) (sym e.1) (subst (λ b. HasData new j b) (sym here) puts.is)
      | inr e ↦ subst (λ b. HasData new (sender cs c) b) (sym (elsewhere c e.1))
          (other_data (sender cs c) (slice_index_or bs c no_inbox) (λ same. e.1 (one c ch lt in_channels to is same)) (at.messages c lt to))
    ]

    pub takes_data : OneEach cs n true → is_to cs n true ch ≡ true → NodeAt cs n ph count bs' code rows new
    takes_data one is = record {
      phase_is = phase_kept m new ph (puts.others phase refl refl) (puts.others left refl refl) at.phase_is;
      messages = data_at one is;
      acks = λ c lt to. let h = at.acks c lt to in subst (λ b. HasAck new (sender cs c) b) (sym (elsewhere c (is_other false (one_kind cs n ch is) c to)))
          (record { bit_is = puts.others (ack (sender cs c)) refl refl ∙ h.bit_is; read_is = puts.others (seen (sender cs c)) refl refl ∙ h.read_is });
      slots = λ x v h. puts.others (slot x) refl refl ∙ at.slots x v h;
      executed_is = puts.others executed refl refl ∙ at.executed_is;
      sent_is = puts.others sent refl refl ∙ at.sent_is;
      counted = at.counted;
    }

  -- so with that for the sender's acknowledgements
  module _ (new : Store) (b : InboxState) (puts : PutsAck j new m b) (bit_same : b.bit ≡ msg.bit) (read_same : b.read ≡ (slice_index_or bs ch no_inbox).read) where
    own_ack : HasAck new j put
    own_ack = record { bit_is = puts.is.bit_is ∙ ap of_truth bit_same; read_is = puts.is.read_is ∙ ap of_truth read_same }

    other_ack : (i : ℕ) (b : InboxState) → i ≢ j → HasAck m i b → HasAck new i b
    other_ack i b ne h = record { bit_is = puts.other_acks i (not_same i j ne) ∙ h.bit_is; read_is = puts.others (seen i) refl ∙ h.read_is }

    acks_at : OneEach cs n false → is_to cs n false ch ≡ true → (c : ℕ) → c < length cs → is_to cs n false c ≡ true → HasAck new (sender cs c) (slice_index_or bs' c no_inbox)
    acks_at one is c lt to = elim (eqb_tells c ch) [
      | inl e ↦ subst (λ c. HasAck new (sender cs c) (slice_index_or bs' c no_inbox)) (sym e.1) (subst (λ b. HasAck new j b) (sym here) own_ack)
      | inr e ↦ subst (λ b. HasAck new (sender cs c) b) (sym (elsewhere c e.1))
          (other_ack (sender cs c) (slice_index_or bs c no_inbox) (λ same. e.1 (one c ch lt in_channels to is same)) (at.acks c lt to))
    ]

    pub takes_ack : OneEach cs n false → is_to cs n true ch ≡ false → is_to cs n false ch ≡ true → NodeAt cs n ph count bs' code rows new
    takes_ack one nay is = record {
      phase_is = phase_kept m new ph (puts.others phase refl) (puts.others left refl) at.phase_is;
      messages = λ c lt to. let d = at.messages c lt to in subst (λ b. HasData new (sender cs c) b) (sym (elsewhere c (is_other true nay c to)))
          (record { bit_is = puts.others (bit (sender cs c)) refl ∙ d.bit_is; read_is = puts.others (read (sender cs c)) refl ∙ d.read_is; values = λ k lt. puts.others (payload (sender cs c) k) refl ∙ d.values k lt });
      acks = acks_at one is;
      slots = λ x v h. puts.others (slot x) refl ∙ at.slots x v h;
      executed_is = puts.others executed refl ∙ at.executed_is;
      sent_is = puts.others sent refl ∙ at.sent_is;
      counted = at.counted;
    }

  pub takes_none : is_to cs n true ch ≡ false → is_to cs n false ch ≡ false → NodeAt cs n ph count bs' code rows m
  takes_none nay none = record {
    phase_is = at.phase_is;
    messages = λ c lt to. subst (λ b. HasData m (sender cs c) b) (sym (elsewhere c (is_other true nay c to))) (at.messages c lt to);
    acks = λ c lt to. subst (λ b. HasAck m (sender cs c) b) (sym (elsewhere c (is_other false none c to))) (at.acks c lt to);
    slots = at.slots;
    executed_is = at.executed_is;
    sent_is = at.sent_is;
    counted = at.counted;
  }

module _ (cs : List Chan) (n : ℕ) (ph : Phase) (count : ℕ) (bs : List InboxState) (code : StepCode) (rows : List (List Value)) (m : Store) (at : NodeAt cs n ph count bs code rows m) (ch : ℕ) (msg : Message) (k : Packet) (is : Carries k msg) (in_channels : ch < length cs) (in_inboxes : ch < length bs) where
  abbrev after_it : List InboxState
  after_it = slice_set bs ch (record (slice_index_or bs ch no_inbox) { payload = msg.payload; bit = msg.bit })

  abbrev m1 : Store
  m1 = handed k m

  at1 : NodeAt cs n ph count bs code rows m1
  at1 = hands cs n ph count bs code rows m k at

  pub takes : OneEach cs n true → OneEach cs n false → NodeAt cs n ph count after_it code rows (taken_in cs n ch (length msg.payload) k m)
  takes one one' = by_kind (is_to cs n true ch) (is_to cs n false ch) refl refl
    where
      by_kind : (a b : Bool) → is_to cs n true ch ≡ a → is_to cs n false ch ≡ b →
          NodeAt cs n ph count after_it code rows (if a then store_left (delivering (sender cs ch) (length msg.payload)) m1 else (if b then store_left (acknowledging (sender cs ch)) m1 else m))
      by_kind true b h g = takes_data cs n ph count bs code rows m1 at1 ch msg in_channels in_inboxes (store_left (delivering (sender cs ch) (length msg.payload)) m1)
          (messages_put.messages (sender cs ch) (slice_index_or bs ch no_inbox) msg.bit msg.payload m1 (at1.messages ch in_channels h) is.mark_is is.values_are) one h
      by_kind false true h g = takes_ack cs n ph count bs code rows m1 at1 ch msg in_channels in_inboxes (store_left (acknowledging (sender cs ch)) m1) (record (slice_index_or bs ch no_inbox) { bit = msg.bit })
          (messages_put.acks (sender cs ch) (slice_index_or bs ch no_inbox) msg.bit m1 (at1.acks ch in_channels g) is.mark_is) refl refl one' h g
      by_kind false false h g = takes_none cs n ph count bs code rows m at ch msg in_channels in_inboxes h g

pub deliveries_keep : {C M : Type 0} (ctl : Controls C) (mch : Machines M) → DeliveriesKeep ctl mch
deliveries_keep {C} {M} ctl mch p q n ch code rows m old new one one' in_channels in_inboxes same r k is s = (
  s.0,
  ap (λ cs. slice_get cs n) same.controllers ∙ s.1,
  subst (λ cs. NodeAt cs n (ctl.phase s.0) (slice_index_or q.executed n 0) q.inboxes code rows (taken_in p.shape.channels n ch (length r.message.payload) k m)) (ap (λ (z : Shape). z.channels) (sym same.shape))
      (subst (λ e. NodeAt p.shape.channels n (ctl.phase s.0) (slice_index_or e n 0) q.inboxes code rows (taken_in p.shape.channels n ch (length r.message.payload) k m)) (sym same.executed)
      (subst (λ b. NodeAt p.shape.channels n (ctl.phase s.0) (slice_index_or p.executed n 0) b code rows (taken_in p.shape.channels n ch (length r.message.payload) k m)) (sym r.inboxes)
      (takes p.shape.channels n (ctl.phase s.0) (slice_index_or p.executed n 0) p.inboxes code rows m s.2 ch r.message k is in_channels in_inboxes one one'))),
)
