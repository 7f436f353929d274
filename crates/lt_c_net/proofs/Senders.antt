-- What holds of the channels of a kind to a node, and of the nodes from which they come.
use Rattle.std.proofs.Common.{◌≡◌, ◌⊎◌, inl, inr, ℕ, zero, suc, ◌<◌, Bool, true, false, not, List, [], ◌∷◌, length, refl, sym, ap, ◌∙◌, subst, arith, eqb-true}
use Rattle.std.specs.Prelude.{◌&&◌, ◌||◌, nat_eq}
use Rattle.std.specs.List.{list_any}
use Rattle.lt_arch.specs.declared.chan.Chan.{Chan}
use Rattle.lt_arch.specs.Deeds.{all_below, some_below}
use Rattle.lt_base.specs.Operators.{int_eq}
use Rattle.lt_link.specs.Bits.{differ}
use Rattle.lt_link.specs.Inbox.{InboxState}
use Rattle.lt_net_node.specs.Freshness.{fresh_at, fresh_or_other, fresh_one}
use Rattle.lt_link.specs.Ports.{is_to}
use Rattle.lt_net_bench.proofs.Entries.{same_number, and_parts}
use Rattle.std.proofs.lemmas.Bool.{cases_lt}
use Rattle.lt_c.specs.Meaning.{Store, of_truth}
use Rattle.lt_c_control.specs.Control.{every, some, fresh_data, fresh_ack}
use Rattle.lt_c_control.specs.Inboxes.{HasData, HasAck}
use Rattle.lt_c_net.specs.Stands.{sender, ListsSenders}

-- two truth values of which each brings the other
pub both_ways : (a b : Bool) → (a ≡ true → b ≡ true) → (b ≡ true → a ≡ true) → a ≡ b
both_ways true b f g = sym (f refl)
both_ways false true f g = g refl
both_ways false false f g = refl

-- of all numbers of a list
pub every-at : (p : ℕ → Bool) (js : List ℕ) (j : ℕ) → every p js ≡ true → list_any (nat_eq j) js ≡ true → p j ≡ true
every-at p [] j h is_in = absurd (cc)
every-at p (i ∷ js) j h is_in = let parts = and_parts (p i) (every p js) h in here (nat_eq j i) refl parts.0 (λ k. every-at p js j parts.1 k) is_in
  where
    here : (b : Bool) → nat_eq j i ≡ b → p i ≡ true → (list_any (nat_eq j) js ≡ true → p j ≡ true) → (b || list_any (nat_eq j) js) ≡ true → p j ≡ true
    here true e first rest k = subst (λ x. p x ≡ true) (sym (eqb-true j i e)) first
    here false e first rest k = rest k

pub every-of : (p : ℕ → Bool) (js : List ℕ) → ((j : ℕ) → list_any (nat_eq j) js ≡ true → p j ≡ true) → every p js ≡ true
every-of p [] h = refl
every-of p (i ∷ js) h =
    let first : p i ≡ true = h i (ap (λ (b : Bool). b || list_any (nat_eq i) js) (same_number i)) in
    let rest : every p js ≡ true = every-of p js (λ j e. h j (later (nat_eq j i) (list_any (nat_eq j) js) e)) in
    (λ k. first k && rest k)
  where
    later : (a b : Bool) → b ≡ true → (a || b) ≡ true
    later true b e = refl
    later false b e = e

-- of some number of a list
pub some-of : (p : ℕ → Bool) (js : List ℕ) (j : ℕ) → list_any (nat_eq j) js ≡ true → p j ≡ true → some p js ≡ true
some-of p [] j is_in h = absurd (cc)
some-of p (i ∷ js) j is_in h = here (nat_eq j i) refl (λ k. some-of p js j k h) is_in
  where
    later : (a b : Bool) → b ≡ true → (a || b) ≡ true
    later true b e = refl
    later false b e = e

    here : (b : Bool) → nat_eq j i ≡ b → (list_any (nat_eq j) js ≡ true → some p js ≡ true) → (b || list_any (nat_eq j) js) ≡ true → (p i || some p js) ≡ true
    here true e rest k = ap (λ (b : Bool). b || some p js) (ap p (sym (eqb-true j i e)) ∙ h)
    here false e rest k = later (p i) (some p js) (rest k)

pub some-at : (p : ℕ → Bool) (js : List ℕ) → some p js ≡ true → (j : ℕ) × (list_any (nat_eq j) js ≡ true) × (p j ≡ true)
some-at p [] h = absurd (cc)
some-at p (i ∷ js) h = by_first (p i) refl (λ k. some-at p js k) h
  where
    later : (a b : Bool) → b ≡ true → (a || b) ≡ true
    later true b e = refl
    later false b e = e

    by_first : (b : Bool) → p i ≡ b → (some p js ≡ true → (j : ℕ) × (list_any (nat_eq j) js ≡ true) × (p j ≡ true)) → (b || some p js) ≡ true → (j : ℕ) × (list_any (nat_eq j) (i ∷ js) ≡ true) × (p j ≡ true)
    by_first true e rest k = (i, ap (λ (b : Bool). b || list_any (nat_eq i) js) (same_number i), e)
    by_first false e rest k = let r = rest k in (r.0, later (nat_eq r.0 i) (list_any (nat_eq r.0) js) r.1, r.2)

last : (c k : ℕ) → c < suc k → (c ≡ k) ⊎ (c < k)
last c k lt = elim (cases_lt c k) [ inl h ↦ inr h | inr h ↦ inl (omega (arith, h, lt)) ]

-- of all channels below a number
pub all_below-at : (p : ℕ → Bool) (n c : ℕ) → all_below p n ≡ true → c < n → p c ≡ true
all_below-at p zero c h lt = absurd (omega (arith, lt))
all_below-at p (suc k) c h lt = elim (last c k lt) [
  | inl e ↦ subst (λ c. p c ≡ true) (sym e) (and_parts (p k) (all_below p k) h).0
  | inr l ↦ all_below-at p k c (and_parts (p k) (all_below p k) h).1 l
]

pub all_below-of : (p : ℕ → Bool) (n : ℕ) → ((c : ℕ) → c < n → p c ≡ true) → all_below p n ≡ true
all_below-of p zero h = refl
all_below-of p (suc k) h =
    let first : p k ≡ true = h k (omega arith) in
    let rest : all_below p k ≡ true = all_below-of p k (λ c lt. h c (omega (arith, lt))) in
    (λ i. first i && rest i)

-- of some channel below a number
pub some_below-of : (p : ℕ → Bool) (n c : ℕ) → c < n → p c ≡ true → some_below p n ≡ true
some_below-of p zero c lt h = absurd (omega (arith, lt))
some_below-of p (suc k) c lt h = elim (last c k lt) [
  | inl e ↦ ap (λ (b : Bool). b || some_below p k) (ap p (sym e) ∙ h)
  | inr l ↦ later (p k) (some_below p k) (some_below-of p k c l h)
]
  where
    later : (a b : Bool) → b ≡ true → (a || b) ≡ true
    later true b e = refl
    later false b e = e

pub some_below-at : (p : ℕ → Bool) (n : ℕ) → some_below p n ≡ true → (c : ℕ) × (c < n) × (p c ≡ true)
some_below-at p zero h = absurd (cc)
some_below-at p (suc k) h = by_last (p k) refl (λ g. some_below-at p k g) h
  where
    by_last : (b : Bool) → p k ≡ b → (some_below p k ≡ true → (c : ℕ) × (c < k) × (p c ≡ true)) → (b || some_below p k) ≡ true → (c : ℕ) × (c < suc k) × (p c ≡ true)
    by_last true e rest g = (k, omega arith, e)
    by_last false e rest g = let r = rest g in (r.0, (let l = r.1 in omega (arith, l)), r.2)

-- an inbox's test in C
pub bits_differ : (a b : Bool) → not (int_eq (of_truth a) (of_truth b)) ≡ differ a b
bits_differ true true = refl
bits_differ true false = refl
bits_differ false true = refl
bits_differ false false = refl

pub data_is : (m : Store) (j : ℕ) (b : InboxState) → HasData m j b → fresh_data m j ≡ differ b.bit b.read
data_is m j b h = (λ i. not (int_eq (h.bit_is i) (h.read_is i))) ∙ bits_differ b.bit b.read

pub ack_is : (m : Store) (j : ℕ) (b : InboxState) → HasAck m j b → fresh_ack m j ≡ differ b.bit b.read
ack_is m j b h = (λ i. not (int_eq (h.bit_is i) (h.read_is i))) ∙ bits_differ b.bit b.read

-- a test of senders that is one of channels
module _ (cs : List Chan) (n : ℕ) (kind : Bool) (js : List ℕ) (are : ListsSenders cs n kind js) (bs : List InboxState) (p : ℕ → Bool)
    (same : (c : ℕ) → c < length cs → is_to cs n kind c ≡ true → p (sender cs c) ≡ fresh_at bs c) where
  -- a channel of the kind is fresh where each that is, or another, is
  holds_of : (a f : Bool) → (not a || f) ≡ true → a ≡ true → f ≡ true
  holds_of true f h e = h
  holds_of false f h e = absurd (cc)

  pub every_sender : every p js ≡ all_below (fresh_or_other cs bs n kind) (length cs)
  every_sender = both_ways _ _
      (λ h. all_below-of (fresh_or_other cs bs n kind) (length cs) (λ c lt. by_kind c lt h (is_to cs n kind c) refl))
      (λ h. every-of p js (λ j is_in. let at = are.only j is_in in
      subst (λ i. p i ≡ true) at.3 (same at.0 at.1 at.2 ∙ holds_of (is_to cs n kind at.0) (fresh_at bs at.0) (all_below-at (fresh_or_other cs bs n kind) (length cs) at.0 h at.1) at.2)))
    where
      by_kind : (c : ℕ) → c < length cs → every p js ≡ true → (b : Bool) → is_to cs n kind c ≡ b → (not b || fresh_at bs c) ≡ true
      by_kind c lt h true e = sym (same c lt e) ∙ every-at p js (sender cs c) h (are.all c lt e)
      by_kind c lt h false e = refl

  pub some_sender : some p js ≡ some_below (fresh_one cs bs n kind) (length cs)
  some_sender = both_ways _ _
      (λ h. let at = some-at p js h in let on = are.only at.0 at.1 in
      some_below-of (fresh_one cs bs n kind) (length cs) on.0 on.1
      (let f : fresh_at bs on.0 ≡ true = sym (same on.0 on.1 on.2) ∙ ap p on.3 ∙ at.2 in (λ i. on.2 i && f i)))
      (λ h. let at = some_below-at (fresh_one cs bs n kind) (length cs) h in
      let parts = and_parts (is_to cs n kind at.0) (fresh_at bs at.0) at.2 in
      some-of p js (sender cs at.0) (are.all at.0 at.1 parts.0) (same at.0 at.1 parts.0 ∙ parts.1))
