-- A drawing that follows the drawn list.
use Rattle.std.proofs.Common.{◌≡◌, ℕ, ◌+◌, ◌<◌, ◌≤◌, List, [], ◌∷◌, ◌++◌, length, Option, Some, None, Bool, true, false, nat_lt, if◌then◌else◌, refl, sym, ◌∙◌, ap, subst, arith, ltb-false, append_assoc}
use Rattle.std.proofs.lemmas.List.{length-append}
use Rattle.lt_arch.specs.declared.event.Event.{Event}
use Rattle.lt_arch.specs.declared.event.Event.TheVariants.{End}
use Rattle.lt_arch.specs.declared.limits.TheConstants.{GREATEST_TIME}
use Rattle.lt_arch.specs.declared.shape.Shape.{Shape}
use Rattle.lt_arch.specs.declared.timing.Timing.{Timing}
use Rattle.lt_arch.specs.Schedule.{OnePlace, IsEventOf}
use Rattle.lt_sim.specs.declared.drawing.Drawing.{Drawing}
use Rattle.lt_sim.specs.Drawn.{Draw, next_due, due_event, beginning, drawn_on, unless_past, drawn}
use Rattle.lt_sim.specs.Standing.{DrawingStands, DrawKeeps, IsDue, unless_later}
use Rattle.lt_sim.proofs.Measure.{rest, rest-is, drawn-is}
use Rattle.lt_sim.proofs.Keeping.{keeps_first, keeps_on}
use Rattle.lt_sim.proofs.Ending.{placed-next}

-- behind these events it stands for what is left of the drawn list
pub record Follows (k : Drawing) (s : Shape) (t : Timing) (rows seed horizon : ℕ) (front : List Event) : Type 0 where
  pub draw : Draw
  pub stands : DrawingStands k s t seed draw
  pub keeps : DrawKeeps s t rows front draw
  pub list_is : drawn s t rows seed horizon ≡ front ++ rest s t rows seed horizon draw

later_none : (horizon : ℕ) (o : Option (ℕ × ℕ)) (later : ℕ × ℕ → List Event) → unless_later horizon o ≡ None → unless_past horizon o later ≡ End horizon ∷ []
later_none horizon None later is = refl
later_none horizon (Some due) later is = by (nat_lt horizon due.0) is
  where
    by : (b : Bool) → (if b then None else Some due) ≡ None → (if b then End horizon ∷ [] else later due) ≡ End horizon ∷ []
    by true is = refl
    by false is = absurd cc

-- what happens next is not past the horizon
record IsLater (horizon : ℕ) (o : Option (ℕ × ℕ)) (due : ℕ × ℕ) : Type 0 where
  next : o ≡ Some due
  test : nat_lt horizon due.0 ≡ false

later_some : (horizon : ℕ) (o : Option (ℕ × ℕ)) (due : ℕ × ℕ) → unless_later horizon o ≡ Some due → IsLater horizon o due
later_some horizon None due is = absurd cc
later_some horizon (Some first) due is = by (nat_lt horizon first.0) refl is
  where
    by : (b : Bool) → nat_lt horizon first.0 ≡ b → (if b then None else Some first) ≡ Some due → IsLater horizon (Some first) due
    by true test is = absurd cc
    by false test is = let same : first ≡ due = cc in record { next = is; test = subst (λ (d : ℕ × ℕ). nat_lt horizon d.0 ≡ false) same test }

some_list : (b : Bool) (e f : Event) (later : List Event) → 1 ≤ length (if b then e ∷ [] else f ∷ later)
some_list true e f later = omega arith
some_list false e f later = omega arith

module _ (s : Shape) (t : Timing) (rows seed horizon : ℕ) (one_place : OnePlace s t rows) (near : horizon ≤ GREATEST_TIME) where
  pub follows_first : (k : Drawing) → DrawingStands k s t seed (beginning s t seed) → Follows k s t rows seed horizon []
  follows_first k stands = record { draw = beginning s t seed; stands = stands; keeps = keeps_first s t rows seed one_place; list_is = drawn-is s t rows seed horizon }

  module _ (k : Drawing) (front : List Event) (h : Follows k s t rows seed horizon front) where
    module _ (due : ℕ × ℕ) (is : unless_later horizon (next_due s h.draw) ≡ Some due) where
      pub next_is : next_due s h.draw ≡ Some due
      next_is = (later_some horizon (next_due s h.draw) due is).next

      pub due_near : due.0 ≤ horizon
      due_near = ltb-false horizon due.0 (later_some horizon (next_due s h.draw) due is).test

      pub due_timely : due.0 ≤ GREATEST_TIME
      due_timely = let le = due_near in omega (arith, le, near)

      pub is_due : IsDue k s t rows due
      is_due = record { seed = seed; draw = h.draw; stands = h.stands; front = front; keeps = h.keeps; next = next_is }

      pub is_placed : IsEventOf s (due_event s due)
      is_placed = placed-next s t rows seed horizon one_place near h.draw due next_is due_near

      list_on : rest s t rows seed horizon h.draw ≡ due_event s due ∷ rest s t rows seed horizon (drawn_on s t rows seed h.draw (due_event s due))
      list_on =
          let later : ℕ × ℕ → List Event = λ due. due_event s due ∷ rest s t rows seed horizon (drawn_on s t rows seed h.draw (due_event s due)) in
          rest-is s t rows seed horizon h.draw
          ∙ (ap (λ (o : Option (ℕ × ℕ)). unless_past horizon o later) next_is
          ∙ ap (λ (b : Bool). if b then End horizon ∷ [] else later due) (later_some horizon (next_due s h.draw) due is).test)

      pub follows_on : (new : Drawing) → DrawingStands new s t seed (drawn_on s t rows seed h.draw (due_event s due)) → Follows new s t rows seed horizon (front ++ due_event s due ∷ [])
      follows_on new stands = record {
        draw = drawn_on s t rows seed h.draw (due_event s due);
        stands = stands;
        keeps = keeps_on s t rows seed one_place front h.draw h.keeps due next_is due_timely;
        list_is = h.list_is ∙ (ap (λ (es : List Event). front ++ es) list_on ∙ sym (append_assoc front (due_event s due ∷ []) (rest s t rows seed horizon (drawn_on s t rows seed h.draw (due_event s due)))));
      }

      -- there is more of the list behind this event
      pub list_more : (later : List Event) × (drawn s t rows seed horizon ≡ front ++ due_event s due ∷ later)
      list_more = (rest s t rows seed horizon (drawn_on s t rows seed h.draw (due_event s due)), h.list_is ∙ ap (λ (es : List Event). front ++ es) list_on)

    pub follows_end : unless_later horizon (next_due s h.draw) ≡ None → drawn s t rows seed horizon ≡ front ++ End horizon ∷ []
    follows_end is = h.list_is ∙ ap (λ (es : List Event). front ++ es)
        (rest-is s t rows seed horizon h.draw ∙ later_none horizon (next_due s h.draw) (λ due. due_event s due ∷ rest s t rows seed horizon (drawn_on s t rows seed h.draw (due_event s due))) is)

    rest_some : 1 ≤ length (rest s t rows seed horizon h.draw)
    rest_some = subst (λ (es : List Event). 1 ≤ length es) (sym (rest-is s t rows seed horizon h.draw)) (by (next_due s h.draw))
      where
        by : (o : Option (ℕ × ℕ)) → 1 ≤ length (unless_past horizon o (λ due. due_event s due ∷ rest s t rows seed horizon (drawn_on s t rows seed h.draw (due_event s due))))
        by None = omega arith
        by (Some due) = some_list (nat_lt horizon due.0) (End horizon) (due_event s due) (rest s t rows seed horizon (drawn_on s t rows seed h.draw (due_event s due)))

    pub list_longer : length front < length (drawn s t rows seed horizon)
    list_longer = let some = rest_some in let size = ap (λ (es : List Event). length es) h.list_is ∙ length-append front (rest s t rows seed horizon h.draw) in omega (arith, some, size)

    -- the number of events, at the end
    pub counts : (number : ℕ) → length front ≡ number → unless_later horizon (next_due s h.draw) ≡ None → number + 1 ≡ length (drawn s t rows seed horizon)
    counts number size is =
        let whole = ap (λ (es : List Event). length es) (follows_end is) ∙ length-append front (End horizon ∷ []) in
        omega (arith, whole, size)

-- behind so many events
pub record Passes (k : Drawing) (s : Shape) (t : Timing) (rows seed horizon number : ℕ) : Type 0 where
  pub front : List Event
  pub size : length front ≡ number
  pub follows : Follows k s t rows seed horizon front
