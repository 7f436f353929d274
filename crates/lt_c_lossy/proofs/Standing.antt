-- A store stands where the state of its node, and the newest numbers of its channels, are the same.
use Rattle.std.proofs.Common.{◌≡◌, ℕ, ◌<◌, true, false, List, length, map, Some, refl, sym, ap, ◌∙◌, subst, pos}
use Rattle.std.specs.Prelude.{nat_eq}
use Rattle.lt_base.specs.declared.value.Value.{Value}
use Rattle.lt_base.specs.Program.{Function}
use Rattle.lt_arch.specs.declared.shape.Shape.{Shape}
use Rattle.lt_arch.specs.Readers.{chan_count}
use Rattle.lt_link.specs.Ports.{is_to}
use Rattle.lt_arch.specs.State.{NodeState, Phase, Wait, Ready, First, Sending, Executing}
use Rattle.lt_lossy.specs.State.{LossyState, sent_count}
use Rattle.lt_place.specs.declared.layout.Layout.{Layout}
use Rattle.lt_place.specs.Layout.{crossing_of}
use Rattle.lt_net_node.specs.Layout.{crossing_place}
use Rattle.lt_net_node.specs.Local.{upto}
use Rattle.lt_step.specs.Code.{StepCode}
use Rattle.lt_step.specs.Run.{slots_after}
use Rattle.lt_c.specs.Tree.{CVariable, slot, phase, left, executions, sendings, payload, newest, answered, posted, tag}
use Rattle.lt_c.specs.Meaning.{Store}
use Rattle.lt_c.specs.Literals.{c_number}
use Rattle.lt_c_step.specs.Laws.{Matches}
use Rattle.lt_c_control.specs.Control.{HasPhase}
use Rattle.lt_c_net.specs.Stands.{sender}
use Rattle.lt_c_lossy.specs.Crossed.{crossing_value, crossing_channel, whole_row}
use Rattle.lt_c_lossy.specs.LosingStands.{LosingAt}

-- where the controller's variables stay, it is in its phase
pub phase_kept : (m new : Store) (ph : Phase) → new phase ≡ m phase → new left ≡ m left → HasPhase m ph → HasPhase new ph
phase_kept m new Wait e f h = e ∙ h
phase_kept m new Ready e f h = e ∙ h
phase_kept m new First e f h = e ∙ h
phase_kept m new (Sending k) e f h = (e ∙ h.0, f ∙ h.1)
phase_kept m new (Executing k) e f h = (e ∙ h.0, f ∙ h.1)

module _ (f : Function) (l : Layout) (s : Shape) (rows : List (List Value)) (st st' : LossyState) (n : ℕ) (code : StepCode) (m : Store) (at : LosingAt f l s rows st n code m) (node : st'.node n ≡ st.node n) where
  -- with other inboxes
  pub with_inboxes : (new : Store) → ((p : CVariable) → nat_eq (tag p) 9 ≡ false → nat_eq (tag p) 20 ≡ false → nat_eq (tag p) 21 ≡ false → new p ≡ m p) →
      ((c : ℕ) → c < chan_count s → is_to s.channels n true c ≡ true → new (newest (sender s.channels c)) ≡ pos (st'.link c).newest) →
      ((c : ℕ) → c < chan_count s → is_to s.channels n false c ≡ true → new (answered (sender s.channels c)) ≡ pos (st'.link c).newest) →
      ((x : ℕ) → x < length l.cross → (crossing_of l x).to ≡ n → new (payload (crossing_of l x).from (crossing_place l x)) ≡ c_number (crossing_value f rows (crossing_of l x) (st'.link (crossing_channel l s x)).newest)) →
      LosingAt f l s rows st' n code new
  with_inboxes new others numbers answers values = record {
    phase_is = phase_kept m new (st'.node n).phase (others phase refl refl refl) (others left refl refl refl) (subst (λ (v : NodeState). HasPhase m v.phase) (sym node) at.phase_is);
    executions_are = others executions refl refl refl ∙ at.executions_are ∙ ap (λ (v : NodeState). pos v.executed) (sym node);
    sendings_are = others sendings refl refl refl ∙ at.sendings_are ∙ ap (λ (v : NodeState). pos (sent_count v)) (sym node);
    numbers = numbers;
    answers = answers;
    values = values;
    slots = λ x v h. others (slot x) refl refl refl ∙ (subst (λ (v : NodeState). Matches (slots_after code (map (map Some) (upto (whole_row f l rows n) v.executed))) m) (sym node) at.slots) x v h;
    kept = λ x lt from some.
        others (posted (crossing_of l x).to (crossing_place l x)) refl refl refl
        ∙ at.kept x lt from (subst (λ (v : NodeState). 0 < sent_count v) node some)
        ∙ ap (λ (v : NodeState). c_number (crossing_value f rows (crossing_of l x) (sent_count v))) (sym node);
  }

  -- where the newest numbers are the same
  pub stands_still : ((c : ℕ) → (st'.link c).newest ≡ (st.link c).newest) → LosingAt f l s rows st' n code m
  stands_still same = with_inboxes m (λ p f g h. refl)
      (λ c lt to. at.numbers c lt to ∙ ap pos (sym (same c)))
      (λ c lt to. at.answers c lt to ∙ ap pos (sym (same c)))
      (λ x lt to. at.values x lt to ∙ ap (λ k. c_number (crossing_value f rows (crossing_of l x) k)) (sym (same (crossing_channel l s x))))
