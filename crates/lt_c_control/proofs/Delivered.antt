-- What comes is put into its inbox.
use Rattle.std.proofs.Common.{◌≡◌, ℕ, zero, suc, ◌<◌, Bool, true, false, List, length, refl, sym, ap, ◌∙◌, eqb-true, arith}
use Rattle.std.specs.Prelude.{◌&&◌, nat_eq, if◌then◌else◌}
use Rattle.std.proofs.lemmas.Bool.Decides.{nat_tests}
use Rattle.lt_base.specs.declared.value.Value.{Value}
use Rattle.lt_link.specs.Inbox.{InboxState}
use Rattle.lt_c.specs.Tree.{CVariable, bit, read, payload, ack, message_bit, message, answer_bit, tag}
use Rattle.lt_c.specs.Meaning.{Store, of_truth, stored, store_left}
use Rattle.lt_c.specs.Literals.{c_number}
use Rattle.lt_c.proofs.Stores.{other_tag, same_self}
use Rattle.lt_c_control.specs.Inboxes.{payload_value, HasData, HasAck, taking, delivering, acknowledging, PutsData, PutsAck, MessagesPut}

taking_leaves : (j n : ℕ) (m : Store) (p : CVariable) → nat_eq (tag p) 9 ≡ false → store_left (taking j n) m p ≡ m p
taking_leaves j zero m p h = refl
taking_leaves j (suc n) m p h =
    other_tag (store_left (taking j n) m) (payload j n) p (store_left (taking j n) m (message n)) h
    ∙ taking_leaves j n m p h

neither_one : (a b : Bool) → b ≡ false → (a && b) ≡ false
neither_one true b h = h
neither_one false b h = refl

pub taking_others : (j n : ℕ) (m : Store) (i k : ℕ) → nat_eq i j ≡ false → store_left (taking j n) m (payload i k) ≡ m (payload i k)
taking_others j zero m i k h = refl
taking_others j (suc n) m i k h =
    ap (λ (b : Bool). if b then store_left (taking j n) m (message n) else store_left (taking j n) m (payload i k)) (neither_one (nat_eq k n) (nat_eq i j) h)
    ∙ taking_others j n m i k h

earlier : (k n : ℕ) → k < suc n → nat_eq k n ≡ false → k < n
earlier k n l h = grind (arith, nat_tests, h, l)

taken : (j n : ℕ) (m : Store) (k : ℕ) → k < n → store_left (taking j n) m (payload j k) ≡ m (message k)
taken j zero m k l = absurd (omega (arith, l))
taken j (suc n) m k l = go (nat_eq k n) refl (taken j n m k)
  where
    go : (b : Bool) → nat_eq k n ≡ b → (k < n → store_left (taking j n) m (payload j k) ≡ m (message k)) → (if b && nat_eq j j then store_left (taking j n) m (message n) else store_left (taking j n) m (payload j k)) ≡ m (message k)
    go true e r =
        ap (λ (b : Bool). if b then store_left (taking j n) m (message n) else store_left (taking j n) m (payload j k)) (same_self j)
        ∙ taking_leaves j n m (message n) refl ∙ ap (λ x. m (message x)) (sym (eqb-true k n e))
    go false e r = r (earlier k n l e)

module _ (j : ℕ) (b : InboxState) (t : Bool) (vs : List Value) (m : Store) (has : HasData m j b) (bit_at : m message_bit ≡ of_truth t) (values_at : (k : ℕ) → k < length vs → m (message k) ≡ c_number (payload_value vs k)) where
  abbrev marked : Store
  marked = stored m (bit j) (m message_bit)

  pub data_put : PutsData j (store_left (delivering j (length vs)) m) m (record b { payload = vs; bit = t })
  data_put = record {
    is = record {
      bit_is = taking_leaves j (length vs) marked (bit j) refl ∙ ap (λ (b : Bool). if b then m message_bit else m (bit j)) (same_self j) ∙ bit_at;
      read_is = taking_leaves j (length vs) marked (read j) refl ∙ has.read_is;
      values = λ k l. taken j (length vs) marked k l ∙ values_at k l;
    };
    other_bits = λ i h. taking_leaves j (length vs) marked (bit i) refl ∙ ap (λ (b : Bool). if b then m message_bit else m (bit i)) h;
    other_values = λ i k h. taking_others j (length vs) marked i k h;
    others = λ p h g. taking_leaves j (length vs) marked p g ∙ other_tag m (bit j) p (m message_bit) h;
  }

acks_put : (j : ℕ) (b : InboxState) (t : Bool) (m : Store) → HasAck m j b → m answer_bit ≡ of_truth t → PutsAck j (store_left (acknowledging j) m) m (record b { bit = t })
acks_put j b t m h e = record {
  is = record {
    bit_is = ap (λ (b : Bool). if b then m answer_bit else m (ack j)) (same_self j) ∙ e;
    read_is = h.read_is;
  };
  other_acks = λ i d. ap (λ (b : Bool). if b then m answer_bit else m (ack i)) d;
  others = λ p d. other_tag m (ack j) p (m answer_bit) d;
}

pub messages_put : MessagesPut
messages_put = record { messages = data_put; acks = acks_put }
