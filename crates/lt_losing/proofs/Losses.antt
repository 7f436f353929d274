-- What a drawn list loses.
use Rattle.std.proofs.Common.{◌≡◌, ℕ, zero, suc, ◌+◌, ◌%◌, ◌<◌, ◌≤◌, List, [], ◌∷◌, ◌++◌, Option, Some, None, is_some, Bool, true, false, not, ◌&&◌, ◌==◌, nat_lt, if◌then◌else◌, refl, sym, ◌∙◌, ap, subst, arith, append_assoc, le-ltb, eq-eqb, ne_eqb}
use Rattle.std.specs.List.{AllPass}
use Rattle.std.proofs.lemmas.List.Elements.{All-cons, All-nil}
use Rattle.lt_arch.specs.declared.event.Event.{Event}
use Rattle.lt_arch.specs.declared.event.Event.TheVariants.{Act, Del, End}
use Rattle.lt_arch.specs.declared.event.Offence.{Offence}
use Rattle.lt_arch.specs.declared.event.Offence.TheVariants.{AfterEnd, Backwards}
use Rattle.lt_arch.specs.declared.shape.Shape.{Shape}
use Rattle.lt_arch.specs.declared.timing.Timing.{Timing}
use Rattle.lt_arch.specs.Readers.{chan_count}
use Rattle.lt_arch.specs.Deadline.{first_due}
use Rattle.lt_arch.specs.Step.{offence_or_else, where_true, is_backwards, overdue_by}
use Rattle.lt_arch.proofs.Changes.{one_if}
use Rattle.lt_lossy.specs.declared.event.LossyEvent.{LossyEvent}
use Rattle.lt_lossy.specs.declared.event.LossyEvent.TheVariants.{Plain, Lose}
use Rattle.lt_lossy.specs.State.{Message, LinkState, LossyState, lossy_start, plain_of}
use Rattle.lt_lossy.specs.Step.{lossy_offence, lossy_after, too_many_lost, link_lost}
use Rattle.lt_lossy.specs.Schedule.{lossy_after_all, HasNoLossyOffence}
use Rattle.lt_lossy.specs.Laws.{nothing_sent, loss_offence}
use Rattle.lt_lossy.proofs.Balance.{law-order}
use Rattle.lt_lossy.proofs.Changes.{none_common, losses-act, link-del, link-lose, link-end}
use Rattle.lt_lossy.proofs.Losses.{loss-judged_in_order}
use Rattle.lt_sim.specs.Words.{drawn_word}
use Rattle.lt_sim.specs.Drawn.{most_to}
use Rattle.lt_losing.specs.Losing.{LossyDraw, next_lossy_due, loses_next, lossy_or, due_lossy_event, lossy_beginning, lossy_drawn_on, unless_lossy_past, lossy_events_to, lossy_drawn}
use Rattle.lt_losing.specs.Laws.{is_loss, losses_among, HasNoLossyDelivery, LosesAtMost}

-- At rate 0 nothing is lost.

and_false : (b : Bool) → (b && false) ≡ false
and_false true = refl
and_false false = refl

module _ (s : Shape) (t : Timing) (limit rows seed horizon : ℕ) where
  not_lost : (d : LossyDraw) (c : ℕ) → loses_next limit 0 seed d c ≡ false
  not_lost d c = (λ i. nat_lt (d.state.link c).losses limit && le-ltb (drawn_word seed (d.words + 1) % 1000) 0 (omega arith) i) ∙ and_false (nat_lt (d.state.link c).losses limit)

  no_loss : (d : LossyDraw) (e : Event) → not (is_loss (lossy_or limit 0 seed d e)) ≡ true
  no_loss d (Act n at) = refl
  no_loss d (Del c at) = ap (λ (b : Bool). not (is_loss (if b then Lose c at else Plain (Del c at)))) (not_lost d c)
  no_loss d (End at) = refl

  nothing_to : (most : ℕ) (d : LossyDraw) → AllPass (λ e. not (is_loss e)) (lossy_events_to s t limit rows 0 seed horizon most d)
  unfolding lossy_events_to
  nothing_to zero d = All-cons (λ e. not (is_loss e) ≡ true) (Plain (End horizon)) [] refl (All-nil (λ e. not (is_loss e) ≡ true))
  nothing_to (suc most) d = by (λ next. nothing_to most next) (next_lossy_due s d)
    where
      next_of : ℕ × ℕ → List LossyEvent
      next_of due = due_lossy_event s limit 0 seed d due ∷ lossy_events_to s t limit rows 0 seed horizon most (lossy_drawn_on s t rows seed d (due_lossy_event s limit 0 seed d due))

      at_due : ((next : LossyDraw) → AllPass (λ e. not (is_loss e)) (lossy_events_to s t limit rows 0 seed horizon most next)) → (due : ℕ × ℕ) (b : Bool)
          → AllPass (λ e. not (is_loss e)) (if b then Plain (End horizon) ∷ [] else next_of due)
      at_due again due true = All-cons (λ e. not (is_loss e) ≡ true) (Plain (End horizon)) [] refl (All-nil (λ e. not (is_loss e) ≡ true))
      at_due again due false = All-cons (λ e. not (is_loss e) ≡ true) (due_lossy_event s limit 0 seed d due) _ (no_loss d _) (again _)

      by : ((next : LossyDraw) → AllPass (λ e. not (is_loss e)) (lossy_events_to s t limit rows 0 seed horizon most next)) → (o : Option (ℕ × ℕ))
          → AllPass (λ e. not (is_loss e)) (unless_lossy_past horizon o next_of)
      by again None = All-cons (λ e. not (is_loss e) ≡ true) (Plain (End horizon)) [] refl (All-nil (λ e. not (is_loss e) ≡ true))
      by again (Some due) = at_due again due (nat_lt horizon due.0)

  pub nothing_lost : AllPass (λ e. not (is_loss e)) (lossy_drawn s t limit rows 0 seed horizon)
  unfolding lossy_drawn
  nothing_lost = nothing_to (most_to s horizon) (lossy_beginning s t seed)

-- Losses in a row.

if_more : (b : Bool) (x : ℕ) → (if b then x + 1 else x) ≡ x + one_if b
if_more true x = refl
if_more false x = omega arith

or_none : (a b : Option Offence) → offence_or_else a b ≡ None → b ≡ None
or_none None b h = h
or_none (Some o) b h = absurd cc

lost_more : (c : ℕ) (link : LinkState) (ms : List Message) → nothing_sent c ms ≡ None → (link_lost link ms).losses ≡ link.losses + 1
lost_more c link [] h = absurd cc
lost_more c link (m ∷ later) h = refl

module _ (s : Shape) (t : Timing) (limit rows : ℕ) where
  some_sent : (st : LossyState) (c at : ℕ) → lossy_offence s t limit st (Lose c at) ≡ None → nothing_sent c (st.link c).transit ≡ None
  some_sent st c at h =
      let judged = (none_common (loss_offence s t st c at) (too_many_lost limit c (st.link c).losses) (sym (loss-judged_in_order s t st c at limit) ∙ h)).0 in
      let own = nothing_sent c (st.link c).transit in
      let overdue = overdue_by s (Del c at) (first_due s t (plain_of st)) in
      let backwards = where_true (is_backwards at st.latest) Backwards in
      let ended = where_true (is_some st.horizon) AfterEnd in
      or_none overdue own (or_none backwards (offence_or_else overdue own) (or_none ended (offence_or_else backwards (offence_or_else overdue own)) judged))

  losses-lose : (st : LossyState) (d at c : ℕ) → lossy_offence s t limit st (Lose d at) ≡ None → ((lossy_after s t rows st (Lose d at)).link c).losses ≡ (st.link c).losses + one_if (d == c)
  losses-lose st d at c free = link-lose s t rows st d at (λ l. l.losses ≡ (st.link c).losses + one_if (d == c)) c
      (λ e.
      let more = lost_more d (st.link d) (st.link d).transit (some_sent st d at free) in
      let same : (st.link d).losses ≡ (st.link c).losses = ap (λ k. (st.link k).losses) (sym e) in
      let one : one_if (d == c) ≡ 1 = ap one_if (eq-eqb d c (sym e)) in
      omega (arith, more, same, one))
      (λ ne. let none : one_if (d == c) ≡ 0 = ap one_if (ne_eqb d c (λ e. ne (sym e))) in omega (arith, none))

  -- where a channel delivers nothing, its losses in a row grow by each loss
  losses_grow : (c : ℕ) (st : LossyState) (es : List LossyEvent) → HasNoLossyOffence s t limit rows st es → HasNoLossyDelivery c es → ((lossy_after_all s t rows st es).link c).losses ≡ (st.link c).losses + losses_among c es
  losses_grow c st [] free none = omega arith
  losses_grow c st (Plain (Act n at) ∷ es) free none =
      let rest : ((lossy_after_all s t rows (lossy_after s t rows st (Plain (Act n at))) es).link c).losses ≡ ((lossy_after s t rows st (Plain (Act n at))).link c).losses + losses_among c es =
      losses_grow c (lossy_after s t rows st (Plain (Act n at))) es free.1 none in
      rest ∙ ap (λ k. k + losses_among c es) (losses-act s t rows st n at c)
  losses_grow c st (Plain (Del d at) ∷ es) free none =
      let rest : ((lossy_after_all s t rows (lossy_after s t rows st (Plain (Del d at))) es).link c).losses ≡ ((lossy_after s t rows st (Plain (Del d at))).link c).losses + losses_among c es =
      losses_grow c (lossy_after s t rows st (Plain (Del d at))) es free.1 none.1 in
      rest ∙ ap (λ k. k + losses_among c es) (link-del s t rows st d at (λ l. l.losses ≡ (st.link c).losses) c (λ e. absurd (none.0 (sym e))) (λ ne. refl))
  losses_grow c st (Plain (End at) ∷ es) free none =
      let rest : ((lossy_after_all s t rows (lossy_after s t rows st (Plain (End at))) es).link c).losses ≡ ((lossy_after s t rows st (Plain (End at))).link c).losses + losses_among c es =
      losses_grow c (lossy_after s t rows st (Plain (End at))) es free.1 none in
      rest ∙ ap (λ (l : LinkState). l.losses + losses_among c es) (link-end s t rows st at c)
  losses_grow c st (Lose d at ∷ es) free none =
      let rest : ((lossy_after_all s t rows (lossy_after s t rows st (Lose d at)) es).link c).losses ≡ ((lossy_after s t rows st (Lose d at)).link c).losses + losses_among c es =
      losses_grow c (lossy_after s t rows st (Lose d at)) es free.1 none in
      let one = losses-lose st d at c free.0 in
      let grown = if_more (d == c) (losses_among c es) in
      omega (arith, rest, one, grown)

  free-front : (st : LossyState) (xs ys : List LossyEvent) → HasNoLossyOffence s t limit rows st (xs ++ ys) → HasNoLossyOffence s t limit rows st xs × HasNoLossyOffence s t limit rows (lossy_after_all s t rows st xs) ys
  free-front st [] ys h = (tt, h)
  free-front st (x ∷ xs) ys h = let rest = free-front (lossy_after s t rows st x) xs ys h.1 in ((h.0, rest.0), rest.1)

  after-append : (st : LossyState) (xs ys : List LossyEvent) → lossy_after_all s t rows st (xs ++ ys) ≡ lossy_after_all s t rows (lossy_after_all s t rows st xs) ys
  after-append st [] ys = refl
  after-append st (x ∷ xs) ys = after-append (lossy_after s t rows st x) xs ys

  -- no list without an offence loses more in a row than are allowed
  pub few_losses : (c : ℕ) (es : List LossyEvent) → c < chan_count s → HasNoLossyOffence s t limit rows lossy_start es → LosesAtMost limit c es
  few_losses c es lt free front between later is none =
      let part : HasNoLossyOffence s t limit rows lossy_start (front ++ between) =
      (free-front lossy_start (front ++ between) later (subst (HasNoLossyOffence s t limit rows lossy_start) (is ∙ sym (append_assoc front between later)) free)).0 in
      let behind = (free-front lossy_start front between part).1 in
      let grown = losses_grow c (lossy_after_all s t rows lossy_start front) between behind none in
      let few : ((lossy_after_all s t rows lossy_start (front ++ between)).link c).losses ≤ limit = (law-order s t limit rows (front ++ between) part).losses c lt in
      let same : ((lossy_after_all s t rows lossy_start (front ++ between)).link c).losses ≡ ((lossy_after_all s t rows (lossy_after_all s t rows lossy_start front) between).link c).losses =
      ap (λ (st : LossyState). (st.link c).losses) (after-append lossy_start front between) in
      omega (arith, grown, few, same)
