-- What is oldest in transit.
use Rattle.std.proofs.Common.{◌≡◌, ◌≢◌, ℕ, ◌+◌, ◌<◌, List, [], ◌∷◌, map, Option, Some, None, is_some, sym, ap, ◌∙◌, subst, arith}
use Rattle.lt_base.specs.declared.value.Value.{Value}
use Rattle.lt_arch.specs.declared.event.Event.TheVariants.{Del}
use Rattle.lt_arch.specs.declared.event.Offence.{Offence}
use Rattle.lt_arch.specs.declared.shape.Shape.{Shape}
use Rattle.lt_arch.specs.declared.timing.Timing.{Timing}
use Rattle.lt_arch.specs.declared.event.Offence.TheVariants.{AfterEnd, Backwards}
use Rattle.lt_arch.specs.Deadline.{first_due}
use Rattle.lt_arch.specs.Step.{offence_or_else, too_early, where_true, is_backwards, overdue_by}
use Rattle.lt_arch.proofs.Facts.{clear}
use Rattle.lt_io.specs.declared.message.Message.{Message}
use Rattle.lt_lossy.specs.declared.event.LossyEvent.TheVariants.{Plain, Lose}
use Rattle.lt_lossy.specs.State.{Message as Numbered, LossyState, plain_of}
use Rattle.lt_lossy.specs.Step.{lossy_offence, too_many_lost}
use Rattle.lt_lossy.specs.Laws.{nothing_sent}
use Rattle.lt_lossy.proofs.Changes.{plain_clear, none_common}
use Rattle.lt_lossy.proofs.Losses.{loss-judged_in_order}
use Rattle.lt_net_lossy.specs.Holds.{AreSent}

none_later : (a b : Option Offence) → offence_or_else a b ≡ None → b ≡ None
none_later None b h = h
none_later (Some o) b h = absurd (cc)

not_early : (c dmin at : ℕ) (ns : List Numbered) → too_early c dmin at (map (λ (m : Numbered). m.sent_at) ns) ≡ None → ns ≢ []
not_early c dmin at [] h e = absurd (cc)
not_early c dmin at (n ∷ ns) h e = absurd (cc)

some_sent : (c : ℕ) (ns : List Numbered) → nothing_sent c ns ≡ None → ns ≢ []
some_sent c [] h e = absurd (cc)
some_sent c (n ∷ ns) h e = absurd (cc)

module _ (s : Shape) (t : Timing) (limit : ℕ) (st : LossyState) (c at : ℕ) where
  -- a message is delivered, or lost, only where one is in transit
  pub delivery_some : lossy_offence s t limit st (Plain (Del c at)) ≡ None → (st.link c).transit ≢ []
  delivery_some h = not_early c _ at (st.link c).transit (clear s t (plain_of st) (Del c at) (plain_clear s t limit st (Del c at) h)).own

  pub loss_some : lossy_offence s t limit st (Lose c at) ≡ None → (st.link c).transit ≢ []
  loss_some h =
      let none = (none_common _ (too_many_lost limit c (st.link c).losses) (sym (loss-judged_in_order s t st c at limit) ∙ h)).0 in
      some_sent c (st.link c).transit
      (none_later (overdue_by s (Del c at) (first_due s t (plain_of st))) _ (none_later (where_true (is_backwards at st.latest) Backwards) _ (none_later (where_true (is_some st.horizon) AfterEnd) _ none)))

pub some_held : (own : ℕ → List Value → Type 0) (ns : List Numbered) (ms : List Message) → AreSent own ns ms → ns ≢ [] → ms ≢ []
some_held own [] ms h some e = absurd (some Rattle.std.proofs.Common.refl)
some_held own (n ∷ ns) [] h some e = absurd h
some_held own (n ∷ ns) (m ∷ ms) h some e = absurd (cc)
