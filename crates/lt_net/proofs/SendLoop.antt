-- One channel more.
use Rattle.std.proofs.Common.{◌≡◌, ℕ, ◌+◌, ◌<◌, Bool, true, false, List, [], ◌∷◌, ◌++◌, length, set, Option, Some, None, refl, sym, ap, ◌∙◌, subst, arith, inl, inr, length-set, cond}
use Rattle.std.specs.Prelude.{◌&&◌, nat_lt, IsTrue, slice_index_or}
use Rattle.std.proofs.lemmas.Bool.Decides.{eqb_tells}
use Rattle.std.proofs.lemmas.List.{get_or-set_same, get_or-set_other}
use Rattle.lt_arch.specs.Times.{Times}
use Rattle.lt_io.specs.declared.message.Message.{Message}
use Rattle.lt_io.specs.FabricState.{FabricState, Grows, Sends, KeepsFabric}
use Rattle.lt_net.specs.Sends.{SendsOn, messages_with, SendsUpTo}
use Rattle.lt_net_node.proofs.Below.{lt_none, lt_here, lt_self, lt_other}

pub keeps_refl : (s : FabricState) → KeepsFabric s s
keeps_refl s = record { faithful = refl; sound = refl; told = refl; prompt = λ t. t; opens = refl; kinds = refl }

pub keeps_trans : (a b c : FabricState) → KeepsFabric a b → KeepsFabric b c → KeepsFabric a c
keeps_trans a b c x y = record { faithful = y.faithful ∙ x.faithful; sound = y.sound ∙ x.sound; told = y.told ∙ x.told; prompt = λ t. y.prompt (x.prompt t); opens = y.opens ∙ x.opens; kinds = y.kinds ∙ x.kinds }

pub sends_none : (p : ℕ → Bool) (m : ℕ → Message) (s : FabricState) → SendsOn (λ c. nat_lt c 0 && p c) m s s
sends_none p m s =
    let same : (ms : ℕ → List Message) (c : ℕ) → ms c ≡ messages_with (nat_lt c 0 && p c) (ms c) (m c) =
    λ ms c. ap (λ b. messages_with (b && p c) (ms c) (m c)) (sym (lt_none c)) in
    record { kinds = refl; told = refl; transit = same s.transit; sent = λ _. same s.sent; delivered = λ _ c. refl }

module _ (p : ℕ → Bool) (m : ℕ → Message) (i : ℕ) where
  grown : (old mid new : ℕ → List Message) → ((c : ℕ) → mid c ≡ messages_with (nat_lt c i && p c) (old c) (m c)) → p i ≡ true → Grows mid new i (m i) → (c : ℕ) → new c ≡ messages_with (nat_lt c (i + 1) && p c) (old c) (m c)
  grown old mid new is yes_here grows c = elim (eqb_tells c i) [
    | inl h ↦
        let before : mid i ≡ old i = is i ∙ ap (λ b. messages_with (b && p i) (old i) (m i)) (lt_self i) in
        let here : new i ≡ messages_with (nat_lt i (i + 1) && p i) (old i) (m i) =
        grows.there ∙ ap (λ ms. ms ++ m i ∷ []) before ∙ sym (ap (λ b. messages_with (b && p i) (old i) (m i)) (lt_here i) ∙ ap (λ b. messages_with b (old i) (m i)) yes_here) in
        subst (λ c. new c ≡ messages_with (nat_lt c (i + 1) && p c) (old c) (m c)) (sym h.1) here
    | inr h ↦ grows.elsewhere c h.1 ∙ is c ∙ ap (λ b. messages_with (b && p c) (old c) (m c)) (sym (lt_other c i h.1))
  ]

  kept : (old mid : ℕ → List Message) → ((c : ℕ) → mid c ≡ messages_with (nat_lt c i && p c) (old c) (m c)) → p i ≡ false → (c : ℕ) → mid c ≡ messages_with (nat_lt c (i + 1) && p c) (old c) (m c)
  kept old mid is no_here c = elim (eqb_tells c i) [
    | inl h ↦
        let here : mid i ≡ messages_with (nat_lt i (i + 1) && p i) (old i) (m i) =
        is i ∙ ap (λ b. messages_with (b && p i) (old i) (m i)) (lt_self i) ∙ sym (ap (λ b. messages_with (b && p i) (old i) (m i)) (lt_here i) ∙ ap (λ b. messages_with b (old i) (m i)) no_here) in
        subst (λ c. mid c ≡ messages_with (nat_lt c (i + 1) && p c) (old c) (m c)) (sym h.1) here
    | inr h ↦ is c ∙ ap (λ b. messages_with (b && p c) (old c) (m c)) (sym (lt_other c i h.1))
  ]

  pub sends_more : (old mid new : FabricState) → SendsOn (λ c. nat_lt c i && p c) m old mid → p i ≡ true → Sends mid new i (m i) → new.told ≡ mid.told → SendsOn (λ c. nat_lt c (i + 1) && p c) m old new
  sends_more old mid new s h t kept = record {
    kinds = t.kinds ∙ s.kinds;
    told = kept ∙ s.told;
    transit = grown old.transit mid.transit new.transit s.transit h t.transit;
    sent = λ told. grown old.sent mid.sent new.sent (s.sent told) h (t.sent (subst IsTrue (sym s.told) told));
    delivered = λ told c. t.delivered (subst IsTrue (sym s.told) told) c ∙ s.delivered told c;
  }

  pub sends_skip : (old mid : FabricState) → SendsOn (λ c. nat_lt c i && p c) m old mid → p i ≡ false → SendsOn (λ c. nat_lt c (i + 1) && p c) m old mid
  sends_skip old mid s h = record {
    kinds = s.kinds;
    told = s.told;
    transit = kept old.transit mid.transit s.transit h;
    sent = λ told. kept old.sent mid.sent (s.sent told) h;
    delivered = s.delivered;
  }

  -- the watch's send times
  noted : (at : ℕ) (olds mid : List (Option ℕ)) → length mid ≡ length olds → ((c : ℕ) → c < length olds → slice_index_or mid c None ≡ cond (nat_lt c i && p c) (Some at) (slice_index_or olds c None)) →
      i < length olds → p i ≡ true → (c : ℕ) → c < length olds → slice_index_or (set mid i (Some at)) c None ≡ cond (nat_lt c (i + 1) && p c) (Some at) (slice_index_or olds c None)
  noted at olds mid same each lt yes_here c h = elim (eqb_tells c i) [
    | inl e ↦
        let here : slice_index_or (set mid i (Some at)) i None ≡ cond (nat_lt i (i + 1) && p i) (Some at) (slice_index_or olds i None) =
        get_or-set_same mid i (Some at) None (omega (arith, lt, same)) ∙ sym (ap (λ b. cond (b && p i) (Some at) (slice_index_or olds i None)) (lt_here i) ∙ ap (λ b. cond b (Some at) (slice_index_or olds i None)) yes_here) in
        subst (λ c. slice_index_or (set mid i (Some at)) c None ≡ cond (nat_lt c (i + 1) && p c) (Some at) (slice_index_or olds c None)) (sym e.1) here
    | inr e ↦ get_or-set_other mid i c (Some at) None e.1 ∙ each c h ∙ ap (λ b. cond (b && p c) (Some at) (slice_index_or olds c None)) (sym (lt_other c i e.1))
  ]

  unnoted : (at : ℕ) (olds mid : List (Option ℕ)) → ((c : ℕ) → c < length olds → slice_index_or mid c None ≡ cond (nat_lt c i && p c) (Some at) (slice_index_or olds c None)) →
      p i ≡ false → (c : ℕ) → c < length olds → slice_index_or mid c None ≡ cond (nat_lt c (i + 1) && p c) (Some at) (slice_index_or olds c None)
  unnoted at olds mid each no_here c h = elim (eqb_tells c i) [
    | inl e ↦
        let here : slice_index_or mid i None ≡ cond (nat_lt i (i + 1) && p i) (Some at) (slice_index_or olds i None) =
        each i (subst (λ c. c < length olds) e.1 h) ∙ ap (λ b. cond (b && p i) (Some at) (slice_index_or olds i None)) (lt_self i)
        ∙ sym (ap (λ b. cond (b && p i) (Some at) (slice_index_or olds i None)) (lt_here i) ∙ ap (λ b. cond b (Some at) (slice_index_or olds i None)) no_here) in
        subst (λ c. slice_index_or mid c None ≡ cond (nat_lt c (i + 1) && p c) (Some at) (slice_index_or olds c None)) (sym e.1) here
    | inr e ↦ each c h ∙ ap (λ b. cond (b && p c) (Some at) (slice_index_or olds c None)) (sym (lt_other c i e.1))
  ]

  module _ (at : ℕ) (old mid : FabricState) (w v : Times) (upto : SendsUpTo i p m at old mid w v) where
    mid_length : length v.sends ≡ length w.sends
    mid_length = ap (λ (z : Times). length z.sends) upto.notes.is ∙ upto.notes.same_length

    pub up_to_more : (new : FabricState) (u : Times) → i < length w.sends → p i ≡ true → Sends mid new i (m i) → KeepsFabric mid new → new.faults ≡ mid.faults →
        u ≡ record v { sends = set v.sends i (Some at) } → SendsUpTo (i + 1) p m at old new w u
    up_to_more new u lt h sends keeps faults is = record {
      sends = sends_more old mid new upto.sends h sends keeps.told;
      notes = record {
        sends = set v.sends i (Some at);
        is = is ∙ ap (λ (z : Times). record z { sends = set v.sends i (Some at) }) upto.notes.is;
        same_length = length-set v.sends i (Some at) ∙ mid_length;
        each = noted at w.sends v.sends mid_length (λ c h. ap (λ (z : Times). slice_index_or z.sends c None) upto.notes.is ∙ upto.notes.each c h) lt h;
      };
      faults = faults ∙ upto.faults;
      keeps = keeps_trans old mid new upto.keeps keeps;
    }

    pub up_to_skip : p i ≡ false → SendsUpTo (i + 1) p m at old mid w v
    up_to_skip h = record {
      sends = sends_skip old mid upto.sends h;
      notes = record {
        sends = v.sends;
        is = upto.notes.is ∙ ap (λ (xs : List (Option ℕ)). record w { sends = xs }) (sym (ap (λ (z : Times). z.sends) upto.notes.is));
        same_length = mid_length;
        each = unnoted at w.sends v.sends (λ c h. ap (λ (z : Times). slice_index_or z.sends c None) upto.notes.is ∙ upto.notes.each c h) h;
      };
      faults = upto.faults;
      keeps = upto.keeps;
    }

    -- the watch has as many places
    pub size_is : length v.lasts + length v.sends ≡ length w.lasts + length w.sends
    size_is = let a = ap (λ (z : Times). length z.lasts) upto.notes.is in let b = mid_length in omega (arith, a, b)

pub up_to_none : (p : ℕ → Bool) (m : ℕ → Message) (at : ℕ) (s : FabricState) (w : Times) → SendsUpTo 0 p m at s s w w
up_to_none p m at s w = record {
  sends = sends_none p m s;
  notes = record { sends = w.sends; is = refl; same_length = refl; each = λ c h. ap (λ b. cond (b && p c) (Some at) (slice_index_or w.sends c None)) (sym (lt_none c)) };
  faults = refl;
  keeps = keeps_refl s;
}
