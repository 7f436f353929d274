-- One stroke more is kept behind the others, and the first are dropped.
use Rattle.std.proofs.Common.{◌≡◌, ◌∙◌, ℕ, zero, suc, ◌+◌, ◌-◌, ◌<◌, ◌≤◌, ◌&&◌, nat_le, Bool, true, false, List, [], ◌∷◌, ◌++◌, All, length, take, drop, if◌then◌else◌, refl, sym, ap, subst, arith, append_assoc, length-append, length-drop, leb-false, le-leb, lt-ltb}
use Rattle.std.specs.Prelude.{OnOk, Result, Ok, Err}
use Rattle.std.specs.List.{filter}
use Rattle.lt_base.specs.declared.memory.Memory.{Memory}
use Rattle.std.proofs.lemmas.Bool.{lt-leb}
use Rattle.std.proofs.lemmas.List.{get_or-append-add, take-append-drop}
use Rattle.std.proofs.lemmas.List.Elements.{All-append, All-cons, All-head, All-nil, All-tail, All-weaker, filter-append}
use Rattle.lt_diagram.specs.declared.picture.Mark.{Mark}
use Rattle.lt_diagram.specs.Tints.{is_execution}
use Rattle.lt_tape.specs.declared.stroke.Stroke.{Stroke}
use Rattle.lt_tape.specs.declared.stroke.Stroke.TheVariants.{Point, Line, Edge}
use Rattle.lt_tape.specs.declared.tail.Tail.{Tail}
use Rattle.lt_tape.specs.declared.window.Window.{Window}
use Rattle.lt_tape.specs.Kept.{early_after, early_from, mark_noted}
use Rattle.lt_tape.specs.Tapes.{AreOrdered, IsPruned, IsTailOf, is_loud, pruned_at}
use Rattle.lt_tape.specs.Times.{stroke_begin, stroke_time, stroke_time_at}
use Rattle.lt_tape.specs.Windows.{skipped_to}
use Rattle.lt_tape.proofs.Loud.{early_append}
use Rattle.lt_tape.proofs.Tallying.{one_longer, time_left}

abbrev IsBefore : ℕ → Stroke → Type 0
IsBefore k x = stroke_time x < k

-- the tick of the last events but so many never goes back
later_cut : (xs : List Stroke) (x : Stroke) (most n : ℕ) → 1 ≤ most → AreOrdered (xs ++ x ∷ []) → n < stroke_time_at xs (length xs - most) → n < stroke_time_at (xs ++ x ∷ []) (length (xs ++ x ∷ []) - most)
later_cut [] x most n some ordered lt = absurd (omega (arith, lt))
later_cut (y ∷ ys) x most n some ordered lt =
    let all = y ∷ ys ++ x ∷ [] in
    let longer : length all ≡ length (y ∷ ys) + 1 = one_longer (y ∷ ys) x in
    let here : length (y ∷ ys) - most < length (y ∷ ys) = omega (arith, some) in
    let same : stroke_time_at all (length (y ∷ ys) - most) ≡ stroke_time_at (y ∷ ys) (length (y ∷ ys) - most) = time_left (y ∷ ys) (x ∷ []) (length (y ∷ ys) - most) here in
    let no_less = ordered (length (y ∷ ys) - most) (length all - most) (omega (arith, longer)) (omega (arith, longer, some)) in
    omega (arith, lt, same, no_less)

module _ (t : Tail) (xs : List Stroke) (x : Stroke) (limit : ℕ) (is : IsTailOf t xs) (ordered : AreOrdered (xs ++ x ∷ [])) where
  pub tail_push : IsTailOf (record { most = t.most; limit = limit; kept = t.kept ++ x ∷ []; early = t.early }) (xs ++ x ∷ [])
  tail_push = record {
    some = is.some;
    gone = is.gone;
    all = ap (λ ys. ys ++ x ∷ []) is.all ∙ append_assoc is.gone t.kept (x ∷ []);
    before = All-weaker (λ y. stroke_time y < stroke_time_at xs (length xs - t.most)) (λ y. stroke_time y < stroke_time_at (xs ++ x ∷ []) (length (xs ++ x ∷ []) - t.most))
        (λ y lt. later_cut xs x t.most (stroke_time y) is.some ordered lt) is.gone is.before;
    enough = λ some. let much = is.enough some in let n = one_longer t.kept x in omega (arith, much, n);
    early = is.early;
  }

-- those before the first one at a tick

before_by : (b : Bool) (cut : ℕ) (y : Stroke) (k : ℕ) (ys : List Stroke) → nat_le cut (stroke_time y) ≡ b → All (λ x. stroke_time x < cut) (take k ys) → All (λ x. stroke_time x < cut) (take (if b then 0 else k + 1) (y ∷ ys))
before_by true cut y k ys is rest = All-nil (IsBefore cut)
before_by false cut y k ys is rest =
    let e : suc k ≡ k + 1 = omega arith in
    subst (λ (m : ℕ). All (λ x. stroke_time x < cut) (take m (y ∷ ys))) e (All-cons (IsBefore cut) y (take k ys) (leb-false cut (stroke_time y) is) rest)

pub skipped_before : (cut : ℕ) (xs : List Stroke) → All (λ x. stroke_time x < cut) (take (skipped_to cut xs) xs)
skipped_before cut [] = All-nil (IsBefore cut)
skipped_before cut (y ∷ ys) = before_by (nat_le cut (stroke_time y)) cut y (skipped_to cut ys) ys refl (skipped_before cut ys)

up_to_by : (b : Bool) (k i : ℕ) → k ≤ i → (if b then 0 else k + 1) ≤ suc i
up_to_by true k i le = omega arith
up_to_by false k i le = omega (arith, le)

at_once_by : (b : Bool) (k : ℕ) → b ≡ true → (if b then 0 else k + 1) ≤ 0
at_once_by true k is = omega arith
at_once_by false k is = cc

pub skipped_up_to : (cut : ℕ) (xs : List Stroke) (i : ℕ) → i < length xs → cut ≤ stroke_time_at xs i → skipped_to cut xs ≤ i
skipped_up_to cut [] i lt le = absurd (omega (arith, lt))
skipped_up_to cut (y ∷ ys) zero lt le = at_once_by (nat_le cut (stroke_time y)) (skipped_to cut ys) (le-leb cut (stroke_time y) le)
skipped_up_to cut (y ∷ ys) (suc i) lt le = up_to_by (nat_le cut (stroke_time y)) (skipped_to cut ys) i (skipped_up_to cut ys i (omega (arith, lt)) le)

-- executions before one tick or another

early_one : (a b : ℕ) (found : List Mark) (x : Stroke) → stroke_time x < a → stroke_time x < b → early_after a x found ≡ early_after b x found
early_one a b found (Point m) la lb =
    (λ i. if lt-ltb m.time a la i && is_execution m.sign then mark_noted m found else found) ∙ (λ i. if sym (lt-ltb m.time b lb) i && is_execution m.sign then mark_noted m found else found)
early_one a b found (Line r) la lb = refl
early_one a b found (Edge at) la lb = refl

pub early_same : (a b : ℕ) (found : List Mark) (xs : List Stroke) → All (λ x. stroke_time x < a) xs → All (λ x. stroke_time x < b) xs → early_from a found xs ≡ early_from b found xs
early_same a b found [] la lb = refl
early_same a b found (x ∷ xs) la lb =
    ap (λ (ms : List Mark). early_from a ms xs) (early_one a b found x (All-head (IsBefore a) x xs la) (All-head (IsBefore b) x xs lb))
    ∙ early_same a b (early_after b x found) xs (All-tail (IsBefore a) x xs la) (All-tail (IsBefore b) x xs lb)

all_left : (P : Stroke → Type 0) (xs ys : List Stroke) → All P (xs ++ ys) → All P xs
all_left P [] ys all = All-nil P
all_left P (x ∷ xs) ys all = All-cons P x xs (All-head P x (xs ++ ys) all) (all_left P xs ys (All-tail P x (xs ++ ys) all))

all_right : (P : Stroke → Type 0) (xs ys : List Stroke) → All P (xs ++ ys) → All P ys
all_right P [] ys all = all
all_right P (x ∷ xs) ys all = all_right P xs ys (All-tail P x (xs ++ ys) all)

-- the place of the last events but so many, among all and among those that are kept
pub cut_place : (t : Tail) (xs : List Stroke) (is : IsTailOf t xs) → t.most ≤ length t.kept → stroke_time_at xs (length xs - t.most) ≡ stroke_time_at t.kept (length t.kept - t.most)
cut_place t xs is much =
    let n = ap (length {A = Stroke}) is.all ∙ length-append is.gone t.kept in
    let place : length xs - t.most ≡ length is.gone + (length t.kept - t.most) = omega (arith, n, much) in
    (λ i. stroke_time_at (is.all i) (place i)) ∙ ap stroke_time (get_or-append-add is.gone t.kept (length t.kept - t.most) (Edge 0))

module _ (t u : Tail) (xs : List Stroke) (is : IsTailOf t xs) (much : t.most ≤ length t.kept) (pruned : IsPruned t u) where
  abbrev cut : ℕ
  cut = stroke_time_at t.kept (length t.kept - t.most)

  abbrev left : List Stroke
  left = take (skipped_to cut t.kept) t.kept

  few : skipped_to cut t.kept ≤ length t.kept - t.most
  few = let some = is.some in skipped_up_to cut t.kept (length t.kept - t.most) (omega (arith, some, much)) (omega arith)

  tail_at : IsTailOf (pruned_at cut t u.limit) xs
  tail_at = record {
    some = is.some;
    gone = is.gone ++ left;
    all = is.all ∙ ap (λ ys. is.gone ++ ys) (sym (take-append-drop (skipped_to cut t.kept) t.kept)) ∙ sym (append_assoc is.gone left (drop (skipped_to cut t.kept) t.kept));
    before = All-append (λ y. stroke_time y < stroke_time_at xs (length xs - t.most)) is.gone left is.before (subst (λ (k : ℕ). All (λ y. stroke_time y < k) left) (sym (cut_place t xs is much)) (skipped_before cut t.kept));
    enough = λ some. let n = length-drop (skipped_to cut t.kept) t.kept in let f = few in omega (arith, n, f, much);
    early = λ from all.
        let first = all_left (λ y. stroke_time y < from) is.gone left all in
        let second = all_right (λ y. stroke_time y < from) is.gone left all in
        ap (λ (ms : List Mark). early_from cut ms left) (is.early from first) ∙ early_same cut from (early_from from [] is.gone) left (skipped_before cut t.kept) second ∙ sym (early_append from [] is.gone left);
  }

  pub tail_pruned : IsTailOf u xs
  tail_pruned = subst (λ (v : Tail). IsTailOf v xs) (sym pruned) tail_at

-- at the end

module _ (t : Tail) (xs : List Stroke) (is : IsTailOf t xs) (w : Window) (before : All (λ y. stroke_time y < w.from) is.gone) where
  silent : (ys : List Stroke) → All (λ y. stroke_time y < w.from) ys → filter (is_loud w) ys ≡ []
  silent [] all = refl
  silent (y ∷ ys) all =
      (λ i. if lt-leb w.from (stroke_time y) (All-head (IsBefore w.from) y ys all) i && nat_le (stroke_begin y) w.to then y ∷ filter (is_loud w) ys else filter (is_loud w) ys) ∙ silent ys (All-tail (IsBefore w.from) y ys all)

  pub tail_serves : filter (is_loud w) t.kept ≡ filter (is_loud w) xs
  tail_serves = sym (ap (filter (is_loud w)) is.all ∙ filter-append (is_loud w) is.gone t.kept ∙ ap (λ ys. ys ++ filter (is_loud w) t.kept) (silent is.gone before))

  pub tail_early : early_from w.from t.early t.kept ≡ early_from w.from [] xs
  tail_early = ap (λ (ms : List Mark). early_from w.from ms t.kept) (is.early w.from before) ∙ sym (early_append w.from [] is.gone t.kept) ∙ ap (early_from w.from []) (sym is.all)

-- a stroke is taken

pub on_ok : {P Q : Type 0} (r : Result (Unit {0}) Memory) → (P → Q) → OnOk r P → OnOk r Q
on_ok (Ok done) f p = f p
on_ok (Err e) f p = tt

abbrev pub holding : Tail → List Stroke → Tail
holding t kept = record { most = t.most; limit = t.limit; kept = kept; early = t.early }

module _ (t : Tail) (x : Stroke) (kept : List Stroke) (pushed : kept ≡ t.kept ++ x ∷ []) (xs : List Stroke) (is : IsTailOf t xs) (ordered : AreOrdered (xs ++ x ∷ [])) where
  pub tail_took : IsTailOf (holding t kept) (xs ++ x ∷ [])
  tail_took = subst (λ (ys : List Stroke). IsTailOf (holding t ys) (xs ++ x ∷ [])) (sym pushed) (tail_push t xs x t.limit is ordered)

  pub tail_took_pruned : (u : Tail) → t.most ≤ length kept → IsPruned (holding t kept) u → IsTailOf u (xs ++ x ∷ [])
  tail_took_pruned u much pruned = tail_pruned (holding t kept) u (xs ++ x ∷ []) tail_took much pruned

pub fresh_tail : (most limit : ℕ) (kept : List Stroke) (early : List Mark) → kept ≡ [] → early ≡ [] → 1 ≤ most → IsTailOf (record { most = most; limit = limit; kept = kept; early = early }) []
fresh_tail most limit kept early kept_is early_is some = record {
  some = some;
  gone = [];
  all = sym kept_is;
  before = All-nil (λ y. stroke_time y < stroke_time_at [] (length {A = Stroke} [] - most));
  enough = λ more. absurd (omega (arith, more));
  early = λ from all. early_is;
}
