-- The strokes that count in a window stand for all.
use Rattle.std.proofs.Common.{◌≡◌, ◌∙◌, ℕ, ◌+◌, ◌≤◌, ◌&&◌, nat_le, min, Bool, true, false, List, [], ◌∷◌, ◌++◌, if◌then◌else◌, refl, sym, ap, arith, leb-true, le-leb}
use Rattle.std.specs.List.{filter, flat_map}
use Rattle.std.proofs.lemmas.Bool.{false≢true}
use Rattle.std.proofs.Math.Nat.{min-le_left, min-le_right}
use Rattle.lt_diagram.specs.declared.picture.Mark.{Mark}
use Rattle.lt_tape.specs.declared.stroke.Stroke.{Stroke}
use Rattle.lt_tape.specs.declared.stroke.Stroke.TheVariants.{Point, Line, Edge}
use Rattle.lt_tape.specs.declared.window.Window.{Window}
use Rattle.lt_tape.specs.Kept.{count_in, early_after, early_from, is_in_window, is_on_way, line_within, lines_in, mark_in}
use Rattle.lt_tape.specs.Tapes.{is_loud}
use Rattle.lt_tape.specs.Times.{stroke_begin, stroke_time}

pub both_true : (a b : Bool) → (a && b) ≡ true → (a ≡ true) × (b ≡ true)
both_true true b is = (refl, is)
both_true false b is = absurd (false≢true is)

pub both_are : (a b : Bool) → a ≡ true → b ≡ true → (a && b) ≡ true
both_are a b p q = λ i. p i && q i

pub never : (b : Bool) → (b ≡ true → ⊥) → b ≡ false
never true wrong = absurd (wrong refl)
never false wrong = refl

begin_by : (x : Stroke) → stroke_begin x ≤ stroke_time x
begin_by (Point m) = omega arith
begin_by (Line a) = min-le_right a.sent a.come
begin_by (Edge at) = omega arith

module _ (w : Window) where
  -- what is in the window counts
  loud_inside : (x : Stroke) → is_in_window w (stroke_time x) ≡ true → is_loud w x ≡ true
  loud_inside x is =
      let both = both_true (nat_le w.from (stroke_time x)) (nat_le (stroke_time x) w.to) is in
      let within = leb-true (stroke_time x) w.to both.1 in
      let begins = begin_by x in
      both_are _ _ both.0 (le-leb (stroke_begin x) w.to (omega (arith, within, begins)))

  quiet_outside : (x : Stroke) → is_loud w x ≡ false → is_in_window w (stroke_time x) ≡ false
  quiet_outside x quiet = never _ (λ is. false≢true (sym quiet ∙ loud_inside x is))

  quiet_mark : (x : Stroke) → is_loud w x ≡ false → mark_in w x ≡ []
  quiet_mark (Point m) quiet = ap (λ b. if b then m ∷ [] else []) (quiet_outside (Point m) quiet)
  quiet_mark (Line a) quiet = refl
  quiet_mark (Edge at) quiet = refl

  quiet_line : (x : Stroke) → is_loud w x ≡ false → line_within w x ≡ []
  quiet_line (Point m) quiet = refl
  quiet_line (Line a) quiet =
      ap (λ b. if b then a ∷ [] else [])
      (never (is_on_way w a) (λ is.
      let both = both_true (nat_le a.sent w.to) (nat_le w.from a.come) is in
      let within = leb-true a.sent w.to both.0 in
      let begins = min-le_left a.sent a.come in
      false≢true (sym quiet ∙ both_are _ _ both.1 (le-leb (min a.sent a.come) w.to (omega (arith, within, begins))))))
  quiet_line (Edge at) quiet = refl

  count_step : (b : Bool) (n : ℕ) (x : Stroke) (xs : List Stroke) → is_loud w x ≡ b → ((k : ℕ) → count_in w k (filter (is_loud w) xs) ≡ count_in w k xs)
      → count_in w n (if b then x ∷ filter (is_loud w) xs else filter (is_loud w) xs) ≡ count_in w n (x ∷ xs)
  count_step true n x xs is rest = rest (if is_in_window w (stroke_time x) then n + 1 else n)
  count_step false n x xs is rest = rest n ∙ ap (λ b. count_in w (if b then n + 1 else n) xs) (sym (quiet_outside x is))

  count_loud : (xs : List Stroke) (n : ℕ) → count_in w n (filter (is_loud w) xs) ≡ count_in w n xs
  count_loud [] n = refl
  count_loud (x ∷ xs) n = count_step (is_loud w x) n x xs refl (count_loud xs)

  module _ {A : Type 0} (f : Stroke → List A) (quiet : (x : Stroke) → is_loud w x ≡ false → f x ≡ []) where
    flat_step : (b : Bool) (x : Stroke) (xs : List Stroke) → is_loud w x ≡ b → flat_map f (filter (is_loud w) xs) ≡ flat_map f xs → flat_map f (if b then x ∷ filter (is_loud w) xs else filter (is_loud w) xs) ≡ flat_map f (x ∷ xs)
    flat_step true x xs is rest = ap (λ ys. f x ++ ys) rest
    flat_step false x xs is rest = rest ∙ ap (λ ys. ys ++ flat_map f xs) (sym (quiet x is))

    flat_loud : (xs : List Stroke) → flat_map f (filter (is_loud w) xs) ≡ flat_map f xs
    flat_loud [] = refl
    flat_loud (x ∷ xs) = flat_step (is_loud w x) x xs refl (flat_loud xs)

  module _ (kept xs : List Stroke) (same : filter (is_loud w) kept ≡ filter (is_loud w) xs) where
    pub same_count : count_in w 0 kept ≡ count_in w 0 xs
    same_count = sym (count_loud kept 0) ∙ ap (count_in w 0) same ∙ count_loud xs 0

    pub same_marks : flat_map (mark_in w) kept ≡ flat_map (mark_in w) xs
    same_marks = sym (flat_loud (mark_in w) quiet_mark kept) ∙ ap (flat_map (mark_in w)) same ∙ flat_loud (mark_in w) quiet_mark xs

    pub same_lines : lines_in w kept ≡ lines_in w xs
    same_lines = sym (flat_loud (line_within w) quiet_line kept) ∙ ap (flat_map (line_within w)) same ∙ flat_loud (line_within w) quiet_line xs

-- executions that came before

pub early_append : (from : ℕ) (found : List Mark) (xs ys : List Stroke) → early_from from found (xs ++ ys) ≡ early_from from (early_from from found xs) ys
early_append from found [] ys = refl
early_append from found (x ∷ xs) ys = early_append from (early_after from x found) xs ys
