-- A drawing that follows the drawn list.
use Rattle.std.proofs.Common.{◌≡◌, ℕ, ◌<◌, ◌≤◌, List, [], ◌∷◌, ◌++◌, length, Option, Some, None, Bool, true, false, nat_lt, if◌then◌else◌, refl, sym, ◌∙◌, ap, subst, arith, lt-ltb, le-ltb, ltb-false, append_assoc}
use Rattle.std.proofs.lemmas.List.{length-append}
use Rattle.lt_arch.specs.declared.event.Event.TheVariants.{End}
use Rattle.lt_arch.specs.declared.limits.TheConstants.{GREATEST_TIME}
use Rattle.lt_arch.specs.declared.shape.Shape.{Shape}
use Rattle.lt_arch.specs.declared.timing.Timing.{Timing}
use Rattle.lt_lossy.specs.declared.event.LossyEvent.{LossyEvent}
use Rattle.lt_lossy.specs.declared.event.LossyEvent.TheVariants.{Plain}
use Rattle.lt_sim.specs.Standing.{unless_later}
use Rattle.lt_losing.specs.Losing.{LossyDraw, next_lossy_due, due_lossy_event, lossy_beginning, lossy_drawn_on, unless_lossy_past, lossy_drawn}
use Rattle.lt_losing.specs.Bounds.{IsUpcoming}
use Rattle.lt_losing.specs.Held.{LossyDrawingStands, IsLossyDue}
use Rattle.lt_losing.specs.LossyRecorded.{IsHeldWhole}
use Rattle.lt_losing.specs.declared.drawing.LossyDrawing.{LossyDrawing}
use Rattle.lt_losing.proofs.Measure.{behind, rest, rest-is, drawn-is}
use Rattle.lt_losing.proofs.Upcoming.{next-same, upcoming_on, upcoming_first}

-- What happens next, by what is the first to happen.

pub none_due : (horizon : ℕ) (next : Option (ℕ × ℕ)) → next ≡ None → None ≡ unless_later horizon next
none_due horizon next is = ap (unless_later horizon) (sym is)

pub later_due : (horizon : ℕ) (next : Option (ℕ × ℕ)) (due : ℕ × ℕ) → next ≡ Some due → horizon < due.0 → None ≡ unless_later horizon next
later_due horizon next due is past = sym (ap (λ (b : Bool). if b then None else Some due) (lt-ltb horizon due.0 past)) ∙ ap (unless_later horizon) (sym is)

pub some_due : (horizon : ℕ) (next : Option (ℕ × ℕ)) (due : ℕ × ℕ) → next ≡ Some due → due.0 ≤ horizon → Some due ≡ unless_later horizon next
some_due horizon next due is near = sym (ap (λ (b : Bool). if b then None else Some due) (le-ltb horizon due.0 near)) ∙ ap (unless_later horizon) (sym is)

later_none : (horizon : ℕ) (o : Option (ℕ × ℕ)) (later : ℕ × ℕ → List LossyEvent) → unless_later horizon o ≡ None → unless_lossy_past horizon o later ≡ Plain (End horizon) ∷ []
later_none horizon None later is = refl
later_none horizon (Some due) later is = by (nat_lt horizon due.0) is
  where
    by : (b : Bool) → (if b then None else Some due) ≡ None → (if b then Plain (End horizon) ∷ [] else later due) ≡ Plain (End horizon) ∷ []
    by true is = refl
    by false is = absurd cc

-- it is not past the horizon
record IsLater (horizon : ℕ) (o : Option (ℕ × ℕ)) (due : ℕ × ℕ) : Type 0 where
  next : o ≡ Some due
  test : nat_lt horizon due.0 ≡ false

later_some : (horizon : ℕ) (o : Option (ℕ × ℕ)) (due : ℕ × ℕ) → unless_later horizon o ≡ Some due → IsLater horizon o due
later_some horizon None due is = absurd cc
later_some horizon (Some first) due is = by (nat_lt horizon first.0) refl is
  where
    by : (b : Bool) → nat_lt horizon first.0 ≡ b → (if b then None else Some first) ≡ Some due → IsLater horizon (Some first) due
    by true test is = absurd cc
    by false test is = let same : first ≡ due = cc in record { next = is; test = subst (λ (d : ℕ × ℕ). nat_lt horizon d.0 ≡ false) same test }

some_list : (b : Bool) (e f : LossyEvent) (later : List LossyEvent) → 1 ≤ length (if b then e ∷ [] else f ∷ later)
some_list true e f later = omega arith
some_list false e f later = omega arith

-- behind these events it stands for what is left of the drawn list
pub record LossyFollows (k : LossyDrawing) (s : Shape) (t : Timing) (limit rows rate seed horizon : ℕ) (front : List LossyEvent) : Type 0 where
  pub draw : LossyDraw
  pub stands : LossyDrawingStands k s t seed draw
  pub upcoming : IsUpcoming s t draw
  pub list_is : lossy_drawn s t limit rows rate seed horizon ≡ front ++ rest s t limit rows rate seed horizon draw

module _ (s : Shape) (t : Timing) (limit rows rate seed horizon : ℕ) (near : horizon ≤ GREATEST_TIME) where
  pub follows_first : (k : LossyDrawing) (front : List LossyEvent) → front ≡ [] → LossyDrawingStands k s t seed (lossy_beginning s t seed) → LossyFollows k s t limit rows rate seed horizon front
  follows_first k front is stands = record {
    draw = lossy_beginning s t seed;
    stands = stands;
    upcoming = upcoming_first s t seed;
    list_is = drawn-is s t limit rows rate seed horizon ∙ ap (λ (es : List LossyEvent). es ++ rest s t limit rows rate seed horizon (lossy_beginning s t seed)) (sym is);
  }

  module _ (k : LossyDrawing) (front : List LossyEvent) (h : LossyFollows k s t limit rows rate seed horizon front) where
    module _ (due : ℕ × ℕ) (is : unless_later horizon (next_lossy_due s h.draw) ≡ Some due) where
      pub next_is : next_lossy_due s h.draw ≡ Some due
      next_is = (later_some horizon (next_lossy_due s h.draw) due is).next

      pub due_timely : due.0 ≤ GREATEST_TIME
      due_timely = let le = ltb-false horizon due.0 (later_some horizon (next_lossy_due s h.draw) due is).test in omega (arith, le, near)

      pub is_due : IsLossyDue k s t due
      is_due = record { seed = seed; draw = h.draw; stands = h.stands; upcoming = h.upcoming; next = next_is }

      list_on : rest s t limit rows rate seed horizon h.draw ≡ behind s t limit rows rate seed horizon (rest s t limit rows rate seed horizon) h.draw due
      list_on =
          let later : ℕ × ℕ → List LossyEvent = behind s t limit rows rate seed horizon (rest s t limit rows rate seed horizon) h.draw in
          rest-is s t limit rows rate seed horizon h.draw
          ∙ (ap (λ (o : Option (ℕ × ℕ)). unless_lossy_past horizon o later) next_is
          ∙ ap (λ (b : Bool). if b then Plain (End horizon) ∷ [] else later due) (later_some horizon (next_lossy_due s h.draw) due is).test)

      pub follows_on : (new : LossyDrawing) (e : LossyEvent) (longer : List LossyEvent) → e ≡ due_lossy_event s limit rate seed h.draw due → longer ≡ front ++ e ∷ []
          → LossyDrawingStands new s t seed (lossy_drawn_on s t rows seed h.draw (due_lossy_event s limit rate seed h.draw due)) → LossyFollows new s t limit rows rate seed horizon longer
      follows_on new e longer e_is longer_is stands =
          let next : LossyDraw = lossy_drawn_on s t rows seed h.draw (due_lossy_event s limit rate seed h.draw due) in
          let later = rest s t limit rows rate seed horizon next in
          record {
            draw = next;
            stands = stands;
            upcoming = upcoming_on s t limit rows rate seed h.draw h.upcoming due (sym (next-same s h.draw) ∙ next_is);
            list_is = h.list_is ∙ (ap (λ (es : List LossyEvent). front ++ es) list_on
                ∙ (sym (append_assoc front (due_lossy_event s limit rate seed h.draw due ∷ []) later)
                ∙ (ap (λ (x : LossyEvent). (front ++ x ∷ []) ++ later) (sym e_is) ∙ ap (λ (es : List LossyEvent). es ++ later) (sym longer_is))));
          }

    pub follows_end : unless_later horizon (next_lossy_due s h.draw) ≡ None → lossy_drawn s t limit rows rate seed horizon ≡ front ++ Plain (End horizon) ∷ []
    follows_end is = h.list_is ∙ ap (λ (es : List LossyEvent). front ++ es)
        (rest-is s t limit rows rate seed horizon h.draw ∙ later_none horizon (next_lossy_due s h.draw) (behind s t limit rows rate seed horizon (rest s t limit rows rate seed horizon) h.draw) is)

    rest_some : 1 ≤ length (rest s t limit rows rate seed horizon h.draw)
    rest_some = subst (λ (es : List LossyEvent). 1 ≤ length es) (sym (rest-is s t limit rows rate seed horizon h.draw)) (by (next_lossy_due s h.draw))
      where
        by : (o : Option (ℕ × ℕ)) → 1 ≤ length (unless_lossy_past horizon o (behind s t limit rows rate seed horizon (rest s t limit rows rate seed horizon) h.draw))
        by None = omega arith
        by (Some due) = some_list (nat_lt horizon due.0) (Plain (End horizon)) (due_lossy_event s limit rate seed h.draw due) (rest s t limit rows rate seed horizon (lossy_drawn_on s t rows seed h.draw (due_lossy_event s limit rate seed h.draw due)))

    -- the list with its end, where it is within the limit
    pub whole_ends : (number : ℕ) (held : List LossyEvent) → length front ≡ number → number < 5000000 → unless_later horizon (next_lossy_due s h.draw) ≡ None → held ≡ front ++ Plain (End horizon) ∷ []
        → IsHeldWhole (lossy_drawn s t limit rows rate seed horizon) held true
    whole_ends number held size few is held_is =
        let whole = ap (λ (es : List LossyEvent). length es) (follows_end is) ∙ length-append front (Plain (End horizon) ∷ []) in
        (held_is ∙ sym (follows_end is), omega (arith, whole, size, few))

    pub whole_not : (held : List LossyEvent) → length front ≡ 5000000 → IsHeldWhole (lossy_drawn s t limit rows rate seed horizon) held false
    whole_not held size =
        let some = rest_some in
        let all = ap (λ (es : List LossyEvent). length es) h.list_is ∙ length-append front (rest s t limit rows rate seed horizon h.draw) in
        omega (arith, some, all, size)
