-- Where a node leads, every list of events keeps the rounds, and the other nodes keep up.
use Rattle.std.proofs.Common.{◌≡◌, ◌≢◌, ℕ, suc, ◌+◌, ◌<◌, ◌≤◌, inl, inr, min, List, [], ◌∷◌, Option, Some, None, nat_lt, ◌==◌, if◌then◌else◌, refl, sym, ◌∙◌, arith, ap, subst, eq-eqb, ne_eqb}
use Rattle.std.proofs.lemmas.Bool.{cases_lt}
use Rattle.lt_arch.specs.declared.limits.TheConstants.{GREATEST_TIME}
use Rattle.lt_arch.specs.declared.event.Deed.{Deed}
use Rattle.lt_arch.specs.declared.event.Deed.TheVariants.{Nothing, Execute, Send}
use Rattle.lt_arch.specs.declared.event.Event.{Event}
use Rattle.lt_arch.specs.declared.event.Event.TheVariants.{Act, Del, End}
use Rattle.lt_arch.specs.declared.timing.Protocol.{Protocol}
use Rattle.lt_arch.specs.declared.timing.Protocol.TheVariants.{TimeBased}
use Rattle.lt_arch.specs.declared.timing.Timing.{Timing}
use Rattle.lt_arch.specs.declared.shape.Shape.{Shape}
use Rattle.lt_arch.specs.State.{Phase, State, start, sent_of, executed_of}
use Rattle.lt_arch.specs.Readers.{node_count, tmin_of, tmax_of, send_of, execute_of, dmax_of, is_back_pressure}
use Rattle.lt_arch.specs.Deeds.{any_in, all_in, all_ack, deed_at, phase_at}
use Rattle.lt_arch.specs.Step.{offence_of, after, time_of}
use Rattle.lt_arch.specs.Schedule.{AreUpTo, HasNoOffence, after_all}
use Rattle.lt_arch.specs.Shapes.{HaveSameNodes}
use Rattle.lt_arch.proofs.Facts.{IsInTime, clear, in_time, rested}
use Rattle.lt_arch.proofs.Changes.{same_or_not, at_updated, woke}
use Rattle.lt_arch.proofs.Ranges.{send-some, execute-some, tmin-some, tmin-tmax}
use Rattle.lt_timing.specs.Accepts.{MeetsEach}
use Rattle.lt_timing.specs.Bounds.{time_based_cycle, time_based_bound, back_pressure_bound, bound_of}
use Rattle.lt_tb.specs.Rounds.{IsRoundShape, IsPaced}
use Rattle.lt_tb.proofs.Round.{IsRound, InRounds, MayBegin, IsOpening}
use Rattle.lt_tb.proofs.Steady.{AreSteady}
use Rattle.lt_tb.proofs.Wake.{kept, Kept}
use Rattle.lt_tb.proofs.Acts.{waking}
use Rattle.lt_tb.proofs.Starts.{ready_for_next}
use Rattle.lt_tb.proofs.Opening.{kept_open, KeptOpen, no_fresh, first_ready, open_executed}
use Rattle.lt_tb.proofs.Least.{some_cycle, step_steady, starts_steady, least}
use Rattle.lt_tb.proofs.Whole.{step_keeps, starts}
use Rattle.lt_arch.specs.Paced.{IsLed}
use Rattle.lt_lead.specs.Shapes.{IsLeaderShape}
use Rattle.lt_lead.specs.Bounds.{leader_sent_by, second_by, lead_bound_of}
use Rattle.lt_lead.proofs.Premises.{only_leader, leader_shape, lead_reach, reach_other, lead_paced}
use Rattle.lt_lead.proofs.Following.{IsFollowing, HasCome, begin_by, lead_by, follow_woken, open_come, round_come, come_bound}

at_least : (e rows b : ℕ) → b ≤ e → min b rows ≤ e
at_least e rows b h = omega arith

at_rows : (e rows b : ℕ) → rows ≤ e → min b rows ≤ e
at_rows e rows b h = omega arith

module _ (s : Shape) (t : Timing) (rows leader : ℕ) (shape : IsLeaderShape s leader) (same_nodes : HaveSameNodes s t) (led : IsLed t leader) (m : MeetsEach t (send_of t) (execute_of t)) where
  abbrev pub the_shape : IsRoundShape s t GREATEST_TIME
  the_shape = leader_shape s t leader same_nodes led shape

  abbrev pub the_paced : IsPaced s t GREATEST_TIME
  the_paced = lead_paced s t leader same_nodes led m

  -- a round begins in time
  abbrev pub in_turn : ℕ → ℕ → ℕ → Type 0
  in_turn turn starter start = start ≤ leader_sent_by t leader turn

  pub record KeepsUp (st : State) : Type 0 where
    pub steady : AreSteady s t rows st
    pub rounds : InRounds s t rows GREATEST_TIME the_paced in_turn st
    pub following : (j : ℕ) → j < node_count s → j ≢ leader → IsFollowing t rows leader j (st.node j).phase (st.node j).executed (st.node j).last

  may_begin : (st : State) (e : Event) → offence_of s t st e ≡ None → AreSteady s t rows st → MayBegin s t GREATEST_TIME in_turn st (time_of e)
  may_begin st e none k n turn within paces is had =
      let same : n ≡ leader = only_leader s t leader same_nodes led n within paces in
      let by : time_of e ≤ leader_sent_by t n turn = begin_by t rows n (st.node n).phase (st.node n).executed (st.node n).last turn (time_of e) (k.steady n within) is had ((in_time s t st e none).by_node n within) in
      subst (λ i. time_of e ≤ leader_sent_by t i turn) same by

  follow_by : (k turn at start : ℕ) (j e : ℕ) → leader ≢ j → e ≡ suc k → e ≡ suc turn → start ≤ leader_sent_by t leader turn → at ≤ start + lead_reach t leader j → at ≤ leader_sent_by t leader k + (tmax_of t j + dmax_of t leader j)
  follow_by k turn at start j e other is is' begun by =
      let same : turn ≡ k = omega arith in
      let r : lead_reach t leader j ≡ tmax_of t j + dmax_of t leader j = reach_other t leader j other in
      let begun' : start ≤ leader_sent_by t leader k = subst (λ i. start ≤ leader_sent_by t leader i) same begun in
      omega arith

  sends_in_round : (st : State) (turn starter start : ℕ) (r : IsRound s t rows GREATEST_TIME the_paced st turn starter start) → start ≤ leader_sent_by t leader turn → (n at : ℕ) → n < node_count s → at ≤ GREATEST_TIME → leader ≢ n → IsInTime s t st at →
      (deed : Deed) (phase : Phase) → Kept s t rows turn start (lead_reach t leader n) n at (sent_of st n) (executed_of st n) deed phase → deed ≡ Send →
      (k : ℕ) → executed_of st n ≡ suc k → at ≤ leader_sent_by t leader k + (tmax_of t n + dmax_of t leader n)
  sends_in_round st turn starter start r begun n at within in_limit other in_time Nothing phase q is k e = absurd cc
  sends_in_round st turn starter start r begun n at within in_limit other in_time Execute phase q is k e = absurd cc
  sends_in_round st turn starter start r begun n at within in_limit other in_time Send phase (inl q) is k e = follow_by k turn at start n (executed_of st n) other e q.executed_is begun q.in_reach
  sends_in_round st turn starter start r begun n at within in_limit other in_time Send phase (inr q) is k e =
      let ready = ready_for_next s t rows GREATEST_TIME the_shape the_paced st turn starter start r at n phase in_time within in_limit q in
      absurd (other (sym (only_leader s t leader same_nodes led n within ready.paces)))

  sends_in_opening : (st : State) (o : IsOpening s t rows st) (n at : ℕ) → n < node_count s → at ≤ GREATEST_TIME → leader ≢ n → IsInTime s t st at →
      (deed : Deed) (phase : Phase) → KeptOpen t rows n at (executed_of st n) deed phase → deed ≡ Send → (k : ℕ) → executed_of st n ≡ suc k → at ≤ leader_sent_by t leader k + (tmax_of t n + dmax_of t leader n)
  sends_in_opening st o n at within in_limit other in_time Nothing phase q is k e = absurd cc
  sends_in_opening st o n at within in_limit other in_time Execute phase q is k e = absurd cc
  sends_in_opening st o n at within in_limit other in_time Send phase q is k e =
      let ready = first_ready s t rows GREATEST_TIME the_shape the_paced st o at n phase in_time within in_limit q in
      absurd (other (sym (only_leader s t leader same_nodes led n within ready.paces)))

  sends : (st : State) → InRounds s t rows GREATEST_TIME the_paced in_turn st → (n at : ℕ) → offence_of s t st (Act n at) ≡ None → n < node_count s → at ≤ GREATEST_TIME → leader ≢ n →
      deed_at s rows st n ≡ Send → (k : ℕ) → executed_of st n ≡ suc k → at ≤ leader_sent_by t leader k + (tmax_of t n + dmax_of t leader n)
  sends st (inl o) n at none within in_limit other is k e =
      let facts = in_time s t st (Act n at) none in
      let rest = rested n (tmin_of t n) at (st.node n).last (clear s t st (Act n at) none).own in
      let q = kept_open t rows n at (executed_of st n) (st.node n).phase (st.node n).last (all_in s st n) (any_in s st n) (all_ack s st n) (o.opens n within) rest (send-some t n) (no_fresh s t rows GREATEST_TIME the_shape the_paced st o n) in
      sends_in_opening st o n at within in_limit other facts (deed_at s rows st n) (phase_at s t rows st n) q is k e
  sends st (inr r) n at none within in_limit other is k e =
      let facts = in_time s t st (Act n at) none in
      let rest = rested n (tmin_of t n) at (st.node n).last (clear s t st (Act n at) none).own in
      let w = waking s t rows GREATEST_TIME the_shape the_paced st r.0 r.1 r.2 r.3 at facts n within rest in
      let q = kept s t rows r.0 r.2 (lead_reach t leader n) n at (executed_of st n) (st.node n).phase (st.node n).last (all_in s st n) (any_in s st n) (all_ack s st n) (r.3.stands n within) w in
      sends_in_round st r.0 r.1 r.2 r.3 r.4 n at within in_limit other facts (deed_at s rows st n) (phase_at s t rows st n) q is k e

  act_follows : (st : State) (n at : ℕ) → KeepsUp st → at ≤ GREATEST_TIME → offence_of s t st (Act n at) ≡ None →
      (j : ℕ) → j < node_count s → j ≢ leader → IsFollowing t rows leader j ((woke s t st n at (deed_at s rows st n) (phase_at s t rows st n)).node j).phase ((woke s t st n at (deed_at s rows st n) (phase_at s t rows st n)).node j).executed ((woke s t st n at (deed_at s rows st n) (phase_at s t rows st n)).node j).last
  act_follows st n at k in_limit none =
      at_updated (λ j nd. j < node_count s → j ≢ leader → IsFollowing t rows leader j nd.phase nd.executed nd.last) st.node n _
      (λ w ne. follow_woken t rows leader n at (executed_of st n) (execute-some t n) (st.node n).phase (st.node n).last (all_in s st n) (any_in s st n) (all_ack s st n)
      (k.following n w ne) ((in_time s t st (Act n at) none).by_node n w) (sends st k.rounds n at none w in_limit (λ h. ne (sym h))))
      (λ j other w ne. k.following j w ne)

  step_follows : (st : State) (e : Event) → KeepsUp st → time_of e ≤ GREATEST_TIME → offence_of s t st e ≡ None → (j : ℕ) → j < node_count s → j ≢ leader → IsFollowing t rows leader j ((after s t rows st e).node j).phase ((after s t rows st e).node j).executed ((after s t rows st e).node j).last
  unfolding after
  step_follows st (Act n at) k in_limit none = act_follows st n at k in_limit none
  step_follows st (Del c at) k in_limit none = k.following
  step_follows st (End at) k in_limit none = k.following

  step_up : (st : State) (e : Event) → time_of e ≤ GREATEST_TIME → offence_of s t st e ≡ None → KeepsUp st → KeepsUp (after s t rows st e)
  step_up st e in_limit none k = record {
    steady = step_steady s t rows st e none k.steady;
    rounds = step_keeps s t rows GREATEST_TIME the_shape the_paced in_turn st e (may_begin st e none k.steady) in_limit none k.rounds;
    following = step_follows st e k in_limit none;
  }

  all_up : (st : State) (es : List Event) → AreUpTo GREATEST_TIME es → HasNoOffence s t rows st es → KeepsUp st → KeepsUp (after_all s t rows st es)
  all_up st [] by clean k = k
  all_up st (e ∷ es) by clean k = all_up (after s t rows st e) es by.1 clean.1 (step_up st e by.0 clean.0 k)

  starts_up : KeepsUp (start TimeBased)
  starts_up = record { steady = starts_steady s t rows; rounds = starts s t rows GREATEST_TIME the_shape the_paced in_turn; following = λ j w ne. refl }

  -- how far a follower has come by its next deadline
  leader_by : (st : State) → AreSteady s t rows st → (h : ℕ) → st.horizon ≡ Some h → (m : ℕ) → sent_of st leader ≡ m → m < rows → h < leader_sent_by t leader m
  leader_by st k h is m had row = lead_by t rows leader (st.node leader).phase (st.node leader).executed (st.node leader).last m h (k.steady leader shape.leader_in) had row (k.ended h is leader shape.leader_in)

  come_from : (st : State) → InRounds s t rows GREATEST_TIME the_paced in_turn st → KeepsUp st → (h : ℕ) → st.horizon ≡ Some h → (n : ℕ) → n < node_count s → n ≢ leader → executed_of st n < rows → HasCome t leader n h (executed_of st n)
  come_from st (inl o) k h is n w ne row =
      let none : sent_of st leader ≡ 0 = (open_executed t rows leader 0 _ _ _ (o.opens leader shape.leader_in)).1 in
      open_come t rows leader n h (executed_of st n) (st.node n).phase (st.node n).last (o.opens n w) row (k.steady.ended h is n w) (leader_by st k.steady h is 0 none (omega arith))
  come_from st (inr r) k h is n w ne row =
      let same : r.1 ≡ leader = only_leader s t leader same_nodes led r.1 r.3.starter_in r.3.paces in
      let had : sent_of st leader ≡ suc r.0 = subst (λ i. sent_of st i ≡ suc r.0) same r.3.started in
      round_come s t rows leader n r.0 r.2 (lead_reach t leader n) h (executed_of st n) (reach_other t leader n (λ e. ne (sym e))) r.4 (λ m. leader_by st k.steady h is (suc r.0) had m)
      (st.node n).phase (st.node n).last (r.3.stands n w) (k.following n w ne) row (k.steady.ended h is n w)

  has_come_led : (st : State) → KeepsUp st → (h : ℕ) → st.horizon ≡ Some h → (n : ℕ) → n < node_count s → n ≢ leader → executed_of st n < rows → HasCome t leader n h (executed_of st n)
  has_come_led st k h is n w ne row = come_from st k.rounds k h is n w ne row

  pub lead_least : (st : State) → KeepsUp st → (h : ℕ) → st.horizon ≡ Some h → (n : ℕ) → n < node_count s → min (lead_bound_of t leader n h) rows ≤ executed_of st n
  lead_least st k h is n w = elim (same_or_not n leader) [
    | inl e ↦ rw (eq-eqb n leader e) (subst (λ b. min b rows ≤ executed_of st n) (sym own_bound) (least s t rows st k.steady h is n w))
    | inr ne ↦ rw (ne_eqb n leader ne) (elim (cases_lt (executed_of st n) rows) [
      | inl row ↦
          let some : 1 ≤ time_based_cycle t leader = some_cycle (send_of t leader) (execute_of t leader) (tmin_of t leader) (tmax_of t leader) (send-some t leader) (tmin-some t leader) (tmin-tmax t leader) in
          at_least (executed_of st n) rows _ (come_bound (nat_lt h (tmax_of t n)) (nat_lt h (second_by t leader n)) h (tmax_of t n) (second_by t leader n) (time_based_cycle t leader) (executed_of st n) refl refl some (has_come_led st k h is n w ne row))
      | inr out ↦ at_rows (executed_of st n) rows _ out
    ])
  ]
    where
      own_bound : bound_of t n h ≡ time_based_bound t n h
      own_bound = ap (λ q. if is_back_pressure q then back_pressure_bound t n h else time_based_bound t n h) led.counts

  -- the whole list
  pub kept_up : (es : List Event) → AreUpTo GREATEST_TIME es → HasNoOffence s t rows (start t.protocol) es → KeepsUp (after_all s t rows (start t.protocol) es)
  kept_up es by clean = all_up (start t.protocol) es by clean (subst (λ (p : Protocol). KeepsUp (start p)) (sym led.counts) starts_up)
