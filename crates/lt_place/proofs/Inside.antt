-- What the equations of a function read are its variables.
use Rattle.std.proofs.Common.{◌≡◌, ℕ, ◌+◌, ◌<◌, true, List, [], ◌∷◌, ◌++◌, length, take, get_or, Option, sym, ap, ◌∙◌, subst, arith, All}
use Rattle.std.proofs.lemmas.List.{append_assoc, append-nil, take_more}
use Rattle.std.proofs.lemmas.List.Elements.{All-nil, All-cons}
use Rattle.lt_base.specs.declared.value.Ty.TheVariants.{Int as IntTy}
use Rattle.lt_base.specs.declared.function.Decl.{Decl}
use Rattle.lt_base.specs.Expression.{Expression, literal, variable, unary, binary, imported, choose, sampled, merged, delayed, follow, arrow, call, Arguments, no_arguments, argument}
use Rattle.lt_base.specs.Program.{GoodFunction, VarsBelow, ArgumentVarsBelow}
use Rattle.lt_base.specs.Meaning.{ClockPairs, clock_of}
use Rattle.lt_base.specs.Dependence.{has, reads}
use Rattle.lt_base.specs.Order.{EachRead, EachArgumentRead, EachClockVar}
use Rattle.lt_base.proofs.Lookups.{same_self}
use Rattle.lt_base.proofs.Reading.{has_one, each_at, each_clock_at, or_left, or_right}
use Rattle.lt_norm.specs.Flat.{Originated}
use Rattle.lt_place_reads.specs.declared.look.Look.{Look}
use Rattle.lt_place_reads.specs.declared.look.Look.TheVariants.{Clocks, Direct, Slow}
use Rattle.lt_place_reads.specs.Origins.{HasOrigins, variable_count}
use Rattle.lt_place_reads.specs.Reads.{parts_read, whole_read, direct_reads, delayed_reads, unless_base, looked}
use Rattle.lt_place_reads.proofs.Decls.{clock_get}
use Rattle.lt_place_reads.proofs.Lefts.{lefts_below}
use Rattle.lt_place.specs.Reports.{Report, HasLeast, elsewhere, reports}
use Rattle.lt_place.proofs.Lists.{each_of_all}

mutual
  each_below : (n : ℕ) (e : Expression) → VarsBelow n e → EachRead (λ y. y < n) e
  each_below n (literal v) h = tt
  each_below n (variable x) h = h
  each_below n (unary o a) h = each_below n a h
  each_below n (binary o a b) h = (each_below n a h.0, each_below n b h.1)
  each_below n (imported o a b) h = (each_below n a h.0, each_below n b h.1)
  each_below n (choose c a b) h = (each_below n c h.0, each_below n a h.1, each_below n b h.2)
  each_below n (sampled e c b) h = (each_below n e h.0, h.1)
  each_below n (merged c a b) h = (h.0, each_below n a h.1, each_below n b h.2)
  each_below n (delayed v e) h = tt
  each_below n (follow a b) h = each_below n a h.0
  each_below n (arrow a b) h = (each_below n a h.0, each_below n b h.1)
  each_below n (call g args) h = each_argument_below n args h

  each_argument_below : (n : ℕ) (args : Arguments) → ArgumentVarsBelow n args → EachArgumentRead (λ y. y < n) args
  each_argument_below n no_arguments h = tt
  each_argument_below n (argument e args) h = (each_below n e h.0, each_argument_below n args h.1)

pub reads_below : (n : ℕ) (e : Expression) → VarsBelow n e → (y : ℕ) → has y (reads e) ≡ true → y < n
reads_below n e h y r = each_at (λ y. y < n) e (each_below n e h) y r

has_only : (x y n : ℕ) → x < n → has y (x ∷ []) ≡ true → y < n
has_only x y n l h = has_one (λ y. y < n) x [] y h l (λ k. absurd (cc))

parts_below : (n : ℕ) (a : Expression) → VarsBelow n a → (y : ℕ) → has y (parts_read a) ≡ true → y < n
parts_below n (variable x) h y r = absurd (cc)
parts_below n (literal v) h y r = reads_below n (literal v) h y r
parts_below n (unary o a) h y r = reads_below n (unary o a) h y r
parts_below n (binary o a b) h y r = reads_below n (binary o a b) h y r
parts_below n (imported o a b) h y r = reads_below n (imported o a b) h y r
parts_below n (choose c a b) h y r = reads_below n (choose c a b) h y r
parts_below n (sampled e c b) h y r = reads_below n (sampled e c b) h y r
parts_below n (merged c a b) h y r = reads_below n (merged c a b) h y r
parts_below n (delayed v e) h y r = reads_below n (delayed v e) h y r
parts_below n (follow a b) h y r = reads_below n (follow a b) h y r
parts_below n (arrow a b) h y r = reads_below n (arrow a b) h y r
parts_below n (call g args) h y r = reads_below n (call g args) h y r

whole_below : (n : ℕ) (a : Expression) → VarsBelow n a → (y : ℕ) → has y (whole_read a) ≡ true → y < n
whole_below n (variable x) h y r = has_only x y n h r
whole_below n (literal v) h y r = absurd (cc)
whole_below n (unary o a) h y r = absurd (cc)
whole_below n (binary o a b) h y r = absurd (cc)
whole_below n (imported o a b) h y r = absurd (cc)
whole_below n (choose c a b) h y r = absurd (cc)
whole_below n (sampled e c b) h y r = absurd (cc)
whole_below n (merged c a b) h y r = absurd (cc)
whole_below n (delayed v e) h y r = absurd (cc)
whole_below n (follow a b) h y r = absurd (cc)
whole_below n (arrow a b) h y r = absurd (cc)
whole_below n (call g args) h y r = absurd (cc)

pub direct_below : (n : ℕ) (e : Expression) → VarsBelow n e → (y : ℕ) → has y (direct_reads e) ≡ true → y < n
direct_below n (delayed v a) h y r = parts_below n a h y r
direct_below n (literal v) h y r = reads_below n (literal v) h y r
direct_below n (variable x) h y r = reads_below n (variable x) h y r
direct_below n (unary o a) h y r = reads_below n (unary o a) h y r
direct_below n (binary o a b) h y r = reads_below n (binary o a b) h y r
direct_below n (imported o a b) h y r = reads_below n (imported o a b) h y r
direct_below n (choose c a b) h y r = reads_below n (choose c a b) h y r
direct_below n (sampled e c b) h y r = reads_below n (sampled e c b) h y r
direct_below n (merged c a b) h y r = reads_below n (merged c a b) h y r
direct_below n (follow a b) h y r = reads_below n (follow a b) h y r
direct_below n (arrow a b) h y r = reads_below n (arrow a b) h y r
direct_below n (call g args) h y r = reads_below n (call g args) h y r

pub delayed_below : (n : ℕ) (e : Expression) → VarsBelow n e → (y : ℕ) → has y (delayed_reads e) ≡ true → y < n
delayed_below n (delayed v a) h y r = whole_below n a h y r
delayed_below n (literal v) h y r = absurd (cc)
delayed_below n (variable x) h y r = absurd (cc)
delayed_below n (unary o a) h y r = absurd (cc)
delayed_below n (binary o a b) h y r = absurd (cc)
delayed_below n (imported o a b) h y r = absurd (cc)
delayed_below n (choose c a b) h y r = absurd (cc)
delayed_below n (sampled e c b) h y r = absurd (cc)
delayed_below n (merged c a b) h y r = absurd (cc)
delayed_below n (follow a b) h y r = absurd (cc)
delayed_below n (arrow a b) h y r = absurd (cc)
delayed_below n (call g args) h y r = absurd (cc)

pub unless_below : (n : ℕ) (ck : ClockPairs) (ys : List ℕ) → ((y : ℕ) → has y ys ≡ true → y < n) → (y : ℕ) → has y (unless_base ck ys) ≡ true → y < n
unless_below n [] ys h y r = absurd (cc)
unless_below n (p ∷ ck) ys h y r = h y r

pub all_from_has : (P : ℕ → Type 0) (ys : List ℕ) → ((y : ℕ) → has y ys ≡ true → P y) → All P ys
all_from_has P [] h = All-nil P
all_from_has P (y ∷ ys) h = All-cons P y ys (h y (or_left _ _ (same_self y))) (all_from_has P ys (λ z k. h z (or_right _ _ k)))

module _ (f : Originated) (good : GoodFunction f.func) where
  pub clocks_below : (x : ℕ) → x < variable_count f → EachClockVar (λ y. y < variable_count f) (clock_of f.func.decls x)
  clocks_below x l =
      let d : Decl = record { name = []; ty = IntTy; clock = [] } in
      subst (EachClockVar (λ y. y < variable_count f)) (sym (clock_get f.func.decls x d l)) (each_of_all (λ y. y < variable_count f) (get_or f.func.decls x d).clock (good.clocks x d l))

  looked_below : (look : Look) (x : ℕ) (e : Expression) → x < variable_count f → VarsBelow (variable_count f) e → (y : ℕ) → has y (looked look f x e) ≡ true → y < variable_count f
  looked_below Clocks x e l h y r = each_clock_at (λ y. y < variable_count f) (clock_of f.func.decls x) (clocks_below x l) y r
  looked_below Direct x e l h y r = direct_below (variable_count f) e h y r
  looked_below Slow x e l h y r = unless_below (variable_count f) (clock_of f.func.decls x) (delayed_reads e) (delayed_below (variable_count f) e h) y r

  pub looked_inside : (look : Look) (q : ℕ × Expression) (items : List (ℕ × Expression)) (i : ℕ) → items ≡ f.func.eqs → i < length items → q ≡ get_or items i q → All (λ y. y < variable_count f) (looked look f q.0 q.1)
  looked_inside look q items i e l r =
      let here : q ≡ get_or f.func.eqs i q = r ∙ ap (λ qs. get_or qs i q) e in
      let k : i < length f.func.eqs = let z = ap length e in omega (arith, z, l) in
      all_from_has (λ y. y < variable_count f) (looked look f q.0 q.1)
      (looked_below look q.0 q.1
      (subst (λ (q : ℕ × Expression). q.0 < variable_count f) (sym here) (lefts_below f good i q k))
      (subst (λ (q : ℕ × Expression). VarsBelow (variable_count f) q.1) (sym here) (good.rights i q k)))

module _ (f : Originated) (h : HasOrigins f) (origin : List ℕ) (o : origin ≡ f.origin) where
  pub origin_size : length origin ≡ variable_count f
  origin_size = ap length o ∙ h.each

  pub note_variable : (left x : ℕ) → left ≡ x → x < variable_count f → left < length origin
  note_variable left x e l = let s = origin_size in omega (arith, s, e, l)

  pub note_marks : (left x m : ℕ) → left ≡ x → x < variable_count f → m ≡ variable_count f → get_or origin left 0 < m
  note_marks left x m e l k =
      let d = (h.main x l).declared in
      let s : get_or origin left 0 ≡ get_or f.origin x 0 = λ i. get_or (o i) (e i) 0 in
      omega (arith, d, s, k)

  pub note_reads : (ys zs : List ℕ) → ys ≡ zs → All (λ y. y < variable_count f) zs → All (λ y. y < length origin) ys
  note_reads ys zs e a = subst (λ n. All (λ y. y < n) ys) (sym origin_size) (subst (All (λ y. y < variable_count f)) (sym e) a)

-- ---- one equation more

pub reports_more : (read_by : ℕ → Expression → List ℕ) (nodes origin : List ℕ) (qs : List (ℕ × Expression)) (i : ℕ) (q : ℕ × Expression) → i < length qs → q ≡ get_or qs i q → reports read_by nodes origin (take (i + 1) qs) ≡ reports read_by nodes origin (take i qs) ++ elsewhere nodes origin q.0 (read_by q.0 q.1)
reports_more read_by nodes origin qs i q l r =
    ap (reports read_by nodes origin) (take_more qs i q l ∙ ap (λ z. take i qs ++ z ∷ []) (sym r)) ∙ go (take i qs)
  where
    go : (xs : List (ℕ × Expression)) → reports read_by nodes origin (xs ++ q ∷ []) ≡ reports read_by nodes origin xs ++ elsewhere nodes origin q.0 (read_by q.0 q.1)
    go [] = append-nil (elsewhere nodes origin q.0 (read_by q.0 q.1))
    go (x ∷ xs) = ap (λ l. elsewhere nodes origin x.0 (read_by x.0 x.1) ++ l) (go xs) ∙ sym (append_assoc (elsewhere nodes origin x.0 (read_by x.0 x.1)) (reports read_by nodes origin xs) (elsewhere nodes origin q.0 (read_by q.0 q.1)))

pub marks_more : (read_by : ℕ → Expression → List ℕ) (nodes origin : List ℕ) (qs : List (ℕ × Expression)) (i : ℕ) (q : ℕ × Expression) → i < length qs → q ≡ get_or qs i q → (left : ℕ) (ys : List ℕ) → left ≡ q.0 → ys ≡ read_by q.0 q.1 → (marks marks' : List (Option ℕ)) → ((rs : List Report) → HasLeast marks rs → HasLeast marks' (rs ++ elsewhere nodes origin left ys)) → HasLeast marks (reports read_by nodes origin (take i qs)) → HasLeast marks' (reports read_by nodes origin (take (i + 1) qs))
marks_more read_by nodes origin qs i q l r left ys e y marks marks' step h =
    subst (HasLeast marks') ((λ j. reports read_by nodes origin (take i qs) ++ elsewhere nodes origin (e j) (y j)) ∙ sym (reports_more read_by nodes origin qs i q l r)) (step (reports read_by nodes origin (take i qs)) h)
