-- What is kept of controllers.
use Rattle.std.proofs.Common.{◌≡◌, ℕ, ◌+◌, ◌<◌, inl, inr, List, [], ◌∷◌, ◌++◌, length, map, set, if◌then◌else◌, refl, sym, ◌∙◌, ap, subst, arith, slice_index_or}
use Rattle.std.specs.Prelude.{slice_set}
use Rattle.std.proofs.lemmas.List.{get_or-map, map-set, map-append, length-map, get_or_append_left, get_or_push}
use Rattle.lt_arch.specs.declared.event.Deed.{Deed}
use Rattle.lt_arch.specs.declared.event.Deed.TheVariants.{Nothing, Execute, Send}
use Rattle.lt_arch.specs.declared.timing.Timing.{Timing}
use Rattle.lt_arch.specs.declared.timing.Protocol.{Protocol}
use Rattle.lt_arch.specs.declared.timing.Protocol.TheVariants.{BackPressure as ByPressure, TimeBased as ByTime}
use Rattle.lt_arch.specs.State.{Phase, Wait, Ready, First, Sending, Executing, first_phase}
use Rattle.lt_arch.specs.Readers.{send_of, execute_of}
use Rattle.lt_arch.specs.Deeds.{phase_after}
use Rattle.lt_arch.proofs.Changes.{same_or_not}
use Rattle.lt_tb.specs.Countdown.{phase_of}
use Rattle.lt_lead.specs.declared.controller.NodeController.{NodeController}
use Rattle.lt_lead.specs.Chosen.{of_either}
use Rattle.lt_sim.specs.Controlled.{Controlled, no_controller, controller_of, controlled_after, IsUncounted, IsControlled}

abbrev pub controlled : NodeController → Controlled
controlled c = record {
  protocol = of_either (λ _. ByPressure) (λ _. ByTime) c;
  send = of_either (λ _. 1) (λ c. c.send) c;
  execute = of_either (λ _. 1) (λ c. c.execute) c;
  phase = of_either (λ c. if c.ready then Ready else Wait) (λ c. phase_of c.countdown) c;
}

-- At the start.

pub started : (t : Timing) (n : ℕ) (c : NodeController) → (controlled c).phase ≡ first_phase t.protocol → (t.protocol ≡ ByTime → (controlled c).send ≡ send_of t n) → (t.protocol ≡ ByTime → (controlled c).execute ≡ execute_of t n)
    → IsControlled t n (first_phase t.protocol) (controlled c)
started t n c phase sends executes = record {
  phase_is = phase;
  sends = sends;
  executes = executes;
  uncounted = λ by_pressure. let waits : (controlled c).phase ≡ Wait = phase ∙ ap first_phase by_pressure in subst IsUncounted (sym waits) tt;
}

module _ (t : Timing) (phase : Phase) (items : List NodeController) (c : NodeController) where
  pub one_more : (n : ℕ) → length items ≡ n → ((k : ℕ) → k < n → IsControlled t k phase (controller_of (map controlled items) k)) → IsControlled t n phase (controlled c)
      → (k : ℕ) → k < n + 1 → IsControlled t k phase (controller_of (map controlled (items ++ c ∷ [])) k)
  one_more n size each here k lt =
      let all : map controlled (items ++ c ∷ []) ≡ map controlled items ++ controlled c ∷ [] = map-append controlled items (c ∷ []) in
      let length_is : length (map controlled items) ≡ n = length-map items controlled ∙ size in
      subst (λ (cs : List Controlled). IsControlled t k phase (controller_of cs k)) (sym all) (elim (same_or_not k n) [
        | inl e ↦
            let at : controller_of (map controlled items ++ controlled c ∷ []) k ≡ controlled c = get_or_push (map controlled items) (controlled c) no_controller k (length_is ∙ sym e) in
            subst (IsControlled t k phase) (sym at) (subst (λ j. IsControlled t j phase (controlled c)) (sym e) here)
        | inr ne ↦
            let at : controller_of (map controlled items ++ controlled c ∷ []) k ≡ controller_of (map controlled items) k = get_or_append_left (map controlled items) (controlled c ∷ []) no_controller k (omega (arith, lt, ne, length_is)) in
            subst (IsControlled t k phase) (sym at) (each k (omega (arith, lt, ne)))
      ])

-- After a deed.

pub woken : (items : List NodeController) (n : ℕ) (old new : NodeController) (deed : Deed) → n < length (map controlled items) → controlled old ≡ controller_of (map controlled items) n → controlled new ≡ controlled_after (controlled old) deed
    → map controlled (set items n new) ≡ slice_set (map controlled items) n (controlled_after (controller_of (map controlled items) n) deed)
woken items n old new deed lt is after = map-set controlled items n new ∙ ap (λ (c : Controlled). slice_set (map controlled items) n c) (after ∙ ap (λ (c : Controlled). controlled_after c deed) is)

pub read : (items : List NodeController) (n : ℕ) (c : NodeController) → n < length items → c ≡ slice_index_or items n c → controlled c ≡ controller_of (map controlled items) n
read items n c lt is = ap controlled is ∙ sym (get_or-map controlled items n c no_controller lt)

uncounted_next : (p q : ℕ) (ph : Phase) (d : Deed) → IsUncounted ph → IsUncounted (phase_after p q ph d)
uncounted_next p q Wait Nothing h = tt
uncounted_next p q Wait Execute h = tt
uncounted_next p q Wait Send h = tt
uncounted_next p q Ready Nothing h = tt
uncounted_next p q Ready Execute h = tt
uncounted_next p q Ready Send h = tt
uncounted_next p q First d h = absurd h
uncounted_next p q (Sending left) d h = absurd h
uncounted_next p q (Executing left) d h = absurd h

uncounted_same : (p q p' q' : ℕ) (ph : Phase) (d : Deed) → IsUncounted ph → phase_after p q ph d ≡ phase_after p' q' ph d
uncounted_same p q p' q' Wait Nothing h = refl
uncounted_same p q p' q' Wait Execute h = refl
uncounted_same p q p' q' Wait Send h = refl
uncounted_same p q p' q' Ready Nothing h = refl
uncounted_same p q p' q' Ready Execute h = refl
uncounted_same p q p' q' Ready Send h = refl
uncounted_same p q p' q' First d h = absurd h
uncounted_same p q p' q' (Sending left) d h = absurd h
uncounted_same p q p' q' (Executing left) d h = absurd h

-- the phase is that of the timing's countdowns, whatever a controller of back-pressure keeps
same_phase : (p : Protocol) (t : Timing) (n : ℕ) (phase : Phase) (c : Controlled) (deed : Deed) → t.protocol ≡ p → IsControlled t n phase c → phase_after c.send c.execute c.phase deed ≡ phase_after (send_of t n) (execute_of t n) phase deed
same_phase ByPressure t n phase c deed is h = uncounted_same c.send c.execute (send_of t n) (execute_of t n) c.phase deed (h.uncounted is) ∙ ap (λ (ph : Phase). phase_after (send_of t n) (execute_of t n) ph deed) h.phase_is
same_phase ByTime t n phase c deed is h = λ i. phase_after (h.sends is i) (h.executes is i) (h.phase_is i) deed

pub controlled_on : (t : Timing) (n : ℕ) (phase : Phase) (c : Controlled) (deed : Deed) → IsControlled t n phase c → IsControlled t n (phase_after (send_of t n) (execute_of t n) phase deed) (controlled_after c deed)
controlled_on t n phase c deed h = record {
  phase_is = same_phase t.protocol t n phase c deed refl h;
  sends = h.sends;
  executes = h.executes;
  uncounted = λ by_pressure. uncounted_next c.send c.execute c.phase deed (h.uncounted by_pressure);
}
