-- A bit that differs from the one last read tells what the counts tell.
use Rattle.std.proofs.Common.{◌≡◌, ◌⊎◌, inl, inr, ℕ, suc, ◌+◌, ◌<◌, ◌≤◌, Bool, true, false, not, refl, sym, ap, ◌∙◌, arith, le-leb}
use Rattle.std.proofs.lemmas.Bool.{cases_lt}
use Rattle.std.proofs.lemmas.Bool.Decides.{leb_tells}
use Rattle.std.specs.Prelude.{nat_le}
use Rattle.lt_arch.specs.declared.shape.Shape.{Shape}
use Rattle.lt_arch.specs.State.{State, Phase, Wait, Ready, First, Sending, Executing, sent_of, unsent}
use Rattle.lt_arch.specs.Readers.{chan_count, to_of, carries_data}
use Rattle.lt_arch.specs.Deeds.{deed_of, is_fresh}
use Rattle.lt_net_bench.specs.Changes.{IsAhead}
use Rattle.lt_link.specs.Bits.{bit_of, differ}

differ_self : (b : Bool) → differ b (not b) ≡ true
differ_self true = refl
differ_self false = refl

differ_twice : (b : Bool) → differ b (not (not b)) ≡ false
differ_twice true = refl
differ_twice false = refl

pub differ_not : (b : Bool) → differ (not b) b ≡ true
differ_not true = refl
differ_not false = refl

pub differ_same : (b : Bool) → differ b b ≡ false
differ_same true = refl
differ_same false = refl

-- bits differ exactly where one is the other's opposite
pub differ_is : (a b : Bool) → differ a b ≡ true → a ≡ not b
differ_is true true h = absurd (cc)
differ_is true false h = refl
differ_is false true h = refl
differ_is false false h = absurd (cc)

pub differ_none : (a b : Bool) → differ a b ≡ false → a ≡ b
differ_none true true h = refl
differ_none true false h = absurd (cc)
differ_none false true h = absurd (cc)
differ_none false false h = refl

either : (e d : ℕ) → e ≤ d + 1 → d ≤ e → (e ≡ d) ⊎ (e ≡ suc d)
either e d a b = elim (cases_lt d e) [ inl h ↦ inr (omega (arith, h)) | inr h ↦ inl (omega (arith, h)) ]

not_le : (n : ℕ) → nat_le (suc n) n ≡ false
not_le n = elim (leb_tells (suc n) n) [ inl h ↦ absurd (omega (arith, h.1)) | inr h ↦ h.0 ]

-- data: the bit last read is that of the number before the executed count
pub data_fresh : (e d : ℕ) → e ≤ d + 1 → d ≤ e → differ (bit_of d) (bit_of (suc e)) ≡ nat_le e d
data_fresh e d a b = elim (either e d a b) [
  | inl h ↦ rw h (differ_self (bit_of d) ∙ sym (le-leb d d (omega arith)))
  | inr h ↦ rw h (differ_twice (bit_of d) ∙ sym (not_le d))
]

-- acknowledgements: the bit last read is that of the sent count
pub ack_fresh : (s d : ℕ) → s ≤ d → d ≤ s + 1 → differ (bit_of d) (bit_of s) ≡ nat_le (suc s) d
ack_fresh s d a b = elim (either d s b a) [
  | inl h ↦ rw h (differ_same (bit_of s) ∙ sym (not_le s))
  | inr h ↦ rw h (differ_not (bit_of s) ∙ sym (le-leb (suc s) (suc s) (omega arith)))
]

module _ (s : Shape) (st : State) (one : IsAhead s st) (c : ℕ) (within : c < chan_count s) where
  -- in the phases in which a deed looks at acknowledgements
  pub ack_bit_tells : carries_data s c ≡ false → (st.node (to_of s c)).executed ≡ suc (sent_of st (to_of s c)) → differ (bit_of (st.chan c).delivered) (bit_of (sent_of st (to_of s c))) ≡ is_fresh s st c
  ack_bit_tells h e =
      ack_fresh (sent_of st (to_of s c)) (st.chan c).delivered (one.ack_low c within h) (one.ack_high c within h)
      ∙ ap (λ x. nat_le x (st.chan c).delivered) (sym e)

-- no deed of another phase looks at acknowledgements
pub acks_unread : (ph : Phase) (ins some acks acks' left : Bool) → (unsent ph ≡ 1 → acks ≡ acks') → deed_of ph ins some acks left ≡ deed_of ph ins some acks' left
acks_unread Wait ins some acks acks' left h = refl
acks_unread Ready ins some acks acks' left h = ap (λ a. deed_of Ready ins some a left) (h refl)
acks_unread First ins some acks acks' left h = refl
acks_unread (Sending n) ins some acks acks' left h = refl
acks_unread (Executing n) ins some acks acks' left h = refl

pub leb-le : (a b : ℕ) → nat_le a b ≡ true → a ≤ b
leb-le a b h = elim (leb_tells a b) [ inl e ↦ e.1 | inr e ↦ absurd (let f = sym e.0 ∙ h in cc) ]
