-- Entries of lists after one was set, and truth values, for lemmas on nodes and channels.
use Rattle.std.proofs.Common.{◌≡◌, ◌≢◌, ◌⊎◌, inl, inr, ℕ, zero, suc, ◌<◌, Bool, true, false, List, [], set, Some, refl, sym, ap, ◌∙◌, arith, length, length-set}
use Rattle.std.specs.Prelude.{slice_index_or, ◌==◌, ◌&&◌, ◌||◌}
use Rattle.std.specs.List.{slice_get}
use Rattle.std.proofs.lemmas.Bool.Decides.{eqb_tells}
use Rattle.std.proofs.lemmas.List.{get_or-set_same, get_or-set_other}
use Rattle.std.proofs.lemmas.Option.{slice_get_within, get_or_from_slice_get, slice_get-get_or}
use Rattle.lt_base.specs.declared.value.Value.{Value}
use Rattle.lt_arch.specs.declared.shape.Shape.{Shape}
use Rattle.lt_place.specs.declared.layout.Layout.{Layout}
use Rattle.lt_net_node.specs.Payloads.{message_of}

pub got_entry : {C : Type 0} (cs : List C) (n i : ℕ) (v c : C) → n < length cs → slice_get (set cs n v) i ≡ Some c → ((i ≡ n) × (c ≡ v)) ⊎ (i ≢ n) × (slice_get cs i ≡ Some c)
got_entry cs n i v c lt e =
    let w = slice_get_within (set cs n v) i c e in
    let g = get_or_from_slice_get (set cs n v) i c c e in
    elim (eqb_tells i n) [
      | inl h ↦ inl (h.1, sym (rw h.1 at g) ∙ get_or-set_same cs n v c lt)
      | inr h ↦
          let g' = sym (get_or-set_other cs n i v c h.1) ∙ g in
          let w' : i < length cs = omega (arith, w, length-set cs n v) in
          inr (h.1, slice_get-get_or cs i c w' ∙ ap (λ x. Some x) g')
    ]

pub message_same : (l : Layout) (s : Shape) (got got' : ℕ → List (List Value)) (c k : ℕ) → got' c ≡ got c → message_of l s got' c k ≡ message_of l s got c k
message_same l s got got' c zero h = refl
message_same l s got got' c (suc k) h = ap (λ ms. slice_index_or ms k []) h

pub same_number : (i : ℕ) → (i == i) ≡ true
same_number i = elim (eqb_tells i i) [ inl h ↦ h.0 | inr h ↦ absurd (h.1 refl) ]

pub other_number : (i n : ℕ) → i ≢ n → (i == n) ≡ false
other_number i n ne = elim (eqb_tells i n) [ inl h ↦ absurd (ne h.1) | inr h ↦ h.0 ]

pub either_way : (b : Bool) → (b ≡ true) ⊎ (b ≡ false)
either_way true = inl refl
either_way false = inr refl

pub and_parts : (a b : Bool) → (a && b) ≡ true → (a ≡ true) × (b ≡ true)
and_parts true b h = (refl, h)
and_parts false b h = absurd (cc)

pub true_false : true ≡ false → ⊥
true_false h = absurd (cc)

pub or_false : (b : Bool) → (b || false) ≡ b
or_false true = refl
or_false false = refl
