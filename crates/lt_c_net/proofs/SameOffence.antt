-- Which offence an event has is told by the times that a watch keeps.
use Rattle.std.proofs.Common.{◌≡◌, inl, inr, ℕ, ◌+◌, ◌-◌, ◌<◌, Bool, List, length, Option, Some, None, is_some, refl, sym, ap, ◌∙◌, arith, lt-ltb, le-ltb}
use Rattle.std.specs.Prelude.{nat_lt, slice_index_or, if◌then◌else◌}
use Rattle.std.proofs.Math.Nat.{add-sub_cancel_left}
use Rattle.std.proofs.lemmas.List.{get_or_default}
use Rattle.lt_arch.specs.declared.event.Event.{Event}
use Rattle.lt_arch.specs.declared.event.Event.TheVariants.{Act, Del, End}
use Rattle.lt_arch.specs.declared.event.Offence.TheVariants.{NodeOverdue, ChannelOverdue}
use Rattle.lt_arch.specs.declared.shape.Shape.{Shape}
use Rattle.lt_arch.specs.declared.timing.Timing.{Timing}
use Rattle.lt_arch.specs.State.{State}
use Rattle.lt_arch.specs.Readers.{node_count, tmax_of, dmax_of}
use Rattle.lt_arch.specs.Deadline.{first_due, after_last, after_oldest}
use Rattle.lt_arch.specs.Step.{offence_of, own_offence, overdue_by, offence_or_else, is_backwards, is_late, time_of}
use Rattle.lt_arch.specs.Schedule.{IsPlacedIn}
use Rattle.lt_arch.specs.Times.{Times, HasTimes, AreDue, last_in, sent_in, chan_in, in_transit}
use Rattle.lt_arch.proofs.Watching.{first-due, own-act, own-del, judge-ended, judge-backwards, judge-rest}
use Rattle.lt_net_node.specs.Local.{firsts}
use Rattle.lt_net_bench.proofs.Entries.{either_way}
use Rattle.lt_net_bench.proofs.Firsts.{get-firsts, length-firsts}

-- the deadlines by the times of a watch
abbrev due_at : Times → (k : ℕ) → Option ℕ
due_at w k =
    if nat_lt k (length w.lasts) then Some (after_last (last_in w k) (tmax_of w.timing k))
    else after_oldest (in_transit (sent_in w (k - length w.lasts))) (dmax_of w.timing (chan_in w (k - length w.lasts)).from (chan_in w (k - length w.lasts)).to)

abbrev all_due : Times → List (Option ℕ)
all_due w = firsts (due_at w) (length w.lasts + length w.sends)

are_due : (w : Times) → AreDue w (all_due w)
are_due w = record {
  size = length-firsts (due_at w) (length w.lasts + length w.sends);
  node = λ n lt.
      get-firsts (due_at w) (length w.lasts + length w.sends) n None (omega (arith, lt))
      ∙ ap (λ (b : Bool). if b then Some (after_last (last_in w n) (tmax_of w.timing n)) else after_oldest (in_transit (sent_in w (n - length w.lasts))) (dmax_of w.timing (chan_in w (n - length w.lasts)).from (chan_in w (n - length w.lasts)).to)) (lt-ltb n (length w.lasts) lt);
  chan = λ c lt.
      let k : ℕ = length w.lasts + c in
      get-firsts (due_at w) (length w.lasts + length w.sends) k None (omega (arith, lt))
      ∙ ap (λ (b : Bool). if b then Some (after_last (last_in w k) (tmax_of w.timing k)) else after_oldest (in_transit (sent_in w (k - length w.lasts))) (dmax_of w.timing (chan_in w (k - length w.lasts)).from (chan_in w (k - length w.lasts)).to)) (le-ltb k (length w.lasts) (omega arith))
      ∙ ap (λ i. after_oldest (in_transit (sent_in w i)) (dmax_of w.timing (chan_in w i).from (chan_in w i).to)) (add-sub_cancel_left (length w.lasts) c);
}

overdue_same : (s s' : Shape) (e : Event) (due : Option (ℕ × ℕ)) → node_count s ≡ node_count s' → overdue_by s e due ≡ overdue_by s' e due
overdue_same s s' e None h = refl
overdue_same s s' e (Some due) h = ap (λ n. if is_late e due.0 then Some (if nat_lt due.1 n then NodeOverdue due.1 else ChannelOverdue (due.1 - n)) else None) h

module _ (w : Times) (s s' : Shape) (t t' : Timing) (st st' : State) (h : HasTimes w s t st) (h' : HasTimes w s' t' st') where
  due_same : first_due s t st ≡ first_due s' t' st'
  due_same = sym (first-due w s t st h (all_due w) (are_due w)) ∙ first-due w s' t' st' h' (all_due w) (are_due w)

  own_same : (e : Event) → IsPlacedIn s e → own_offence s t st e ≡ own_offence s' t' st' e
  own_same (Act n at) lt =
      let within : n < length w.lasts = let c = h.node_count in omega (arith, c, lt) in
      let v = get_or_default w.lasts n None (slice_index_or w.lasts n None) within in
      own-act w s t st h n at (slice_index_or w.lasts n None) within v ∙ sym (own-act w s' t' st' h' n at (slice_index_or w.lasts n None) within v)
  own_same (Del c at) lt =
      let within : c < length w.sends = let k = h.chan_count in omega (arith, k, lt) in
      let v = get_or_default w.sends c None (slice_index_or w.sends c None) within in
      own-del w s t st h c at (slice_index_or w.sends c None) within v ∙ sym (own-del w s' t' st' h' c at (slice_index_or w.sends c None) within v)
  own_same (End at) lt = refl

  pub offence_same : (e : Event) → IsPlacedIn s e → offence_of s t st e ≡ offence_of s' t' st' e
  offence_same e there = elim (either_way (is_some w.horizon)) [
    | inl ended ↦ judge-ended w s t st h e ended ∙ sym (judge-ended w s' t' st' h' e ended)
    | inr runs ↦ elim (either_way (is_backwards (time_of e) w.latest)) [
      | inl back ↦ judge-backwards w s t st h e runs back ∙ sym (judge-backwards w s' t' st' h' e runs back)
      | inr on ↦
          let nodes : node_count s ≡ node_count s' = sym h.node_count ∙ h'.node_count in
          judge-rest w s t st h e runs on
          ∙ ap (λ x. offence_or_else x (own_offence s t st e)) (ap (overdue_by s e) due_same ∙ overdue_same s s' e (first_due s' t' st') nodes)
          ∙ ap (offence_or_else (overdue_by s' e (first_due s' t' st'))) (own_same e there)
          ∙ sym (judge-rest w s' t' st' h' e runs on)
    ]
  ]
