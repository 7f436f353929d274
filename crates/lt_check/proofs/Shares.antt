-- The sizes of functions from their shares.
use Rattle.std.proofs.Common.{◌≡◌, ℕ, zero, suc, ◌+◌, ◌-◌, ◌≤◌, true, eqb-true, List, [], ◌∷◌, ◌++◌, map, take, length, get_or, ◌<◌, Option, Some, None, Result, Ok, Err, refl, sym, ap, ◌∙◌, subst, arith}
use Rattle.std.specs.Prelude.{nat_eq}
use Rattle.std.specs.Result.{OnOk}
use Rattle.std.specs.List.{All, sum_by}
use Rattle.std.specs.Cmp.Lexicographic.{pointwise}
use Rattle.std.proofs.lemmas.List.{append_assoc, take_more}
use Rattle.std.proofs.lemmas.List.Elements.{All-push}
use Rattle.std.proofs.lemmas.List.Sums.{sum_by-cons, sum_by-append}
use Rattle.lt_base.specs.declared.expression.Expr.{Expr}
use Rattle.lt_base.specs.Expression.{Expression, literal, variable, unary, binary, imported, choose, sampled, merged, delayed, follow, arrow, call, Arguments, no_arguments, argument, shape, arguments_of, parts}
use Rattle.lt_base.specs.Program.{Function}
use Rattle.lt_base.specs.Meaning.{function_of}
use Rattle.lt_base.specs.Calls.{called, arguments_called, equations_called}
use Rattle.lt_base.specs.Sizes.{cost, arguments_cost, cut, in_table, size_of, nested, weight_with}
use Rattle.lt_base.proofs.Solution.{and_left, and_right}
use Rattle.lt_check.specs.declared.sizing.Measure.{Measure}
use Rattle.lt_check.specs.declared.sizing.Measure.TheVariants.{Weight, Parts}
use Rattle.lt_check.specs.declared.sizing.Share.{Share}
use Rattle.lt_check.specs.Shares.{nothing, share_measure, own, IsShare}

pub arguments_cost-map : (es : List Expr) → arguments_cost 1 nothing (arguments_of (map shape es)) ≡ sum_by (λ e. cost 1 nothing (shape e)) es
arguments_cost-map [] = refl
arguments_cost-map (e ∷ es) = ap (λ n. cost 1 nothing (shape e) + n) (arguments_cost-map es) ∙ sym (sum_by-cons (λ x. cost 1 nothing (shape x)) e es)

-- a call and the calls in its arguments
pub called_in : {E : Type 0} (r : Result (Unit {0}) E) (old mid new : List ℕ) (g : ℕ) (es slice : List Expr) (e : Expression) → e ≡ call g (arguments_of (map shape es)) → slice ≡ es → mid ≡ old ++ g ∷ [] → OnOk r (new ≡ mid ++ arguments_called (arguments_of (map shape slice))) → OnOk r (new ≡ old ++ called e)
called_in (Ok u) old mid new g es slice e is same pushed h =
    h
    ∙ (λ j. pushed j ++ arguments_called (arguments_of (map shape (same j))))
    ∙ append_assoc old (g ∷ []) (arguments_called (arguments_of (map shape es)))
    ∙ ap (λ x. old ++ called x) (sym is)
called_in (Err f) old mid new g es slice e is same pushed h = tt

-- an expression whose one part was gone over
pub one_called : {E : Type 0} (r : Result (Unit {0}) E) (old new xs ys : List ℕ) → ys ≡ xs → OnOk r (new ≡ old ++ xs) → OnOk r (new ≡ old ++ ys)
one_called r old new xs ys e h = subst (λ z. OnOk r (new ≡ old ++ z)) (sym e) h

-- and one whose parts were gone over in two steps
pub two_called : {E : Type 0} (r : Result (Unit {0}) E) (old mid new xs ys zs : List ℕ) → zs ≡ xs ++ ys → mid ≡ old ++ xs → OnOk r (new ≡ mid ++ ys) → OnOk r (new ≡ old ++ zs)
two_called r old mid new xs ys zs e first h = subst (λ z. OnOk r (new ≡ z)) (ap (λ m. m ++ ys) first ∙ append_assoc old xs ys ∙ ap (λ z. old ++ z) (sym e)) h

-- ---- one more share

map_snoc : {S F : Type 0} (f : S → F) (xs : List S) (x : S) → map f (xs ++ x ∷ []) ≡ map f xs ++ f x ∷ []
map_snoc f [] x = refl
map_snoc f (y ∷ xs) x = ap (λ z. f y ∷ z) (map_snoc f xs x)

pub one_more : {S F : Type 0} (f : S → F) (items : List F) (i : ℕ) (d : F) (old new : List S) (s : S) → i < length items → new ≡ old ++ s ∷ [] → f s ≡ get_or items i d → map f old ≡ take i items → map f new ≡ take (i + 1) items
one_more f items i d old new s within pushed is done =
    ap (map f) pushed ∙ map_snoc f old s ∙ ap (λ z. z ++ f s ∷ []) done ∙ ap (λ z. take i items ++ z ∷ []) is ∙ sym (take_more items i d within)

pub all_more : {S : Type 0} (P : S → Type 0) (old new : List S) (s : S) → new ≡ old ++ s ∷ [] → All P old → P s → All P new
all_more P old new s pushed all p = subst (All P) (sym pushed) (All-push P old s all p)

-- ---- what an expression costs, without its calls and of its calls

module _ (d : ℕ) (w : ℕ → ℕ) where
  two : (a b : Expression) → cost d w a ≡ cost d nothing a + sum_by w (called a) → cost d w b ≡ cost d nothing b + sum_by w (called b) → cost d w a + cost d w b ≡ cost d nothing a + cost d nothing b + sum_by w (called a ++ called b)
  two a b h k = let both = sum_by-append w (called a) (called b) in omega (arith, h, k, both)

  mutual
    cost_split : (e : Expression) → cost d w e ≡ cost d nothing e + sum_by w (called e)
    cost_split (literal v) = refl
    cost_split (variable x) = refl
    cost_split (unary o a) = cost_split a
    cost_split (binary o a b) = two a b (cost_split a) (cost_split b)
    cost_split (imported o a b) = two a b (cost_split a) (cost_split b)
    cost_split (choose c a b) = let both = sum_by-append w (called c) (called a ++ called b) in omega (arith, cost_split c, two a b (cost_split a) (cost_split b), both)
    cost_split (sampled e c b) = cost_split e
    cost_split (merged c a b) = two a b (cost_split a) (cost_split b)
    cost_split (delayed v e) = omega (arith, cost_split e)
    cost_split (follow a b) = omega (arith, two a b (cost_split a) (cost_split b))
    cost_split (arrow a b) = omega (arith, two a b (cost_split a) (cost_split b))
    cost_split (call g args) = let more = sum_by-cons w g (arguments_called args) in omega (arith, arguments_split args, more)

    arguments_split : (args : Arguments) → arguments_cost d w args ≡ arguments_cost d nothing args + sum_by w (arguments_called args)
    arguments_split no_arguments = refl
    arguments_split (argument e args) = let both = sum_by-append w (called e) (arguments_called args) in omega (arith, cost_split e, arguments_split args, both)

mutual
  cost_nothing : (e : Expression) → cost 0 nothing e ≡ 0
  cost_nothing (literal v) = refl
  cost_nothing (variable x) = refl
  cost_nothing (unary o a) = cost_nothing a
  cost_nothing (binary o a b) = omega (arith, cost_nothing a, cost_nothing b)
  cost_nothing (imported o a b) = omega (arith, cost_nothing a, cost_nothing b)
  cost_nothing (choose c a b) = omega (arith, cost_nothing c, cost_nothing a, cost_nothing b)
  cost_nothing (sampled e c b) = cost_nothing e
  cost_nothing (merged c a b) = omega (arith, cost_nothing a, cost_nothing b)
  cost_nothing (delayed v e) = omega (arith, cost_nothing e)
  cost_nothing (follow a b) = omega (arith, cost_nothing a, cost_nothing b)
  cost_nothing (arrow a b) = omega (arith, cost_nothing a, cost_nothing b)
  cost_nothing (call g args) = omega (arith, arguments_cost_nothing args)

  arguments_cost_nothing : (args : Arguments) → arguments_cost 0 nothing args ≡ 0
  arguments_cost_nothing no_arguments = refl
  arguments_cost_nothing (argument e args) = omega (arith, cost_nothing e, arguments_cost_nothing args)

module _ (w : ℕ → ℕ) where
  costs_split : (eqs : List (ℕ × Expression)) → sum_by (λ e. cost 1 w e.1) eqs ≡ sum_by (λ e. cost 1 nothing e.1) eqs + sum_by w (equations_called eqs)
  costs_split [] = refl
  costs_split (e ∷ eqs) =
      let one = sum_by-cons (λ (e : ℕ × Expression). cost 1 w e.1) e eqs in
      let own = sum_by-cons (λ (e : ℕ × Expression). cost 1 nothing e.1) e eqs in
      let calls = sum_by-append w (called e.1) (equations_called eqs) in
      omega (arith, cost_split 1 w e.1, costs_split eqs, one, own, calls)

  parts_split : (eqs : List (ℕ × Expression)) → sum_by (λ e. parts e.1 + cost 0 w e.1) eqs ≡ sum_by (λ e. parts e.1) eqs + sum_by w (equations_called eqs)
  parts_split [] = refl
  parts_split (e ∷ eqs) =
      let one = sum_by-cons (λ (e : ℕ × Expression). parts e.1 + cost 0 w e.1) e eqs in
      let own = sum_by-cons (λ (e : ℕ × Expression). parts e.1) e eqs in
      let calls = sum_by-append w (called e.1) (equations_called eqs) in
      omega (arith, cost_split 0 w e.1, cost_nothing e.1, parts_split eqs, one, own, calls)

-- what a function has without its calls
abbrev alone : Measure → Function → ℕ
alone Weight f = weight_with nothing f
alone Parts f = sum_by (λ e. parts e.1) f.eqs

measured_split : (m : Measure) (w : ℕ → ℕ) (f : Function) → share_measure m w f ≡ alone m f + sum_by w (equations_called f.eqs)
measured_split Weight w f = omega (arith, costs_split w f.eqs)
measured_split Parts w f = parts_split w f.eqs

own_alone : (m : Measure) (s : Share) → IsShare s → own m s ≡ cut (alone m s.function.now)
own_alone Weight s h = h.weight
own_alone Parts s h = h.parts

pub share_total : (m : Measure) (w : ℕ → ℕ) (s : Share) → IsShare s → cut (own m s + sum_by w s.calls) ≡ cut (share_measure m w s.function.now)
share_total m w s h = let calls = ap (sum_by w) h.calls in omega (arith, own_alone m s h, measured_split m w s.function.now, calls)

-- ---- rounds

module _ (w v : ℕ → ℕ) (h : (g : ℕ) → w g ≡ cut (v g)) where
  cut_sums : (xs : List ℕ) → cut (sum_by w xs) ≡ cut (sum_by v xs)
  cut_sums [] = refl
  cut_sums (g ∷ xs) = omega (arith, h g, cut_sums xs, sum_by-cons w g xs, sum_by-cons v g xs)

  cut_measured : (m : Measure) (f : Function) → cut (share_measure m w f) ≡ cut (share_measure m v f)
  cut_measured m f = omega (arith, cut_sums (equations_called f.eqs), measured_split m w f, measured_split m v f)

-- two tables that test as equal are
pub same_tables : (xs ys : List ℕ) → pointwise nat_eq xs ys ≡ true → xs ≡ ys
same_tables [] [] h = refl
same_tables [] (y ∷ ys) h = absurd (cc)
same_tables (x ∷ xs) [] h = absurd (cc)
same_tables (x ∷ xs) (y ∷ ys) h =
    let first = eqb-true x y (and_left (nat_eq x y) (pointwise nat_eq xs ys) h) in
    let rest = same_tables xs ys (and_right (nat_eq x y) (pointwise nat_eq xs ys) h) in
    λ i. first i ∷ rest i

table_of : (s : Function → ℕ) (fs : List Function) (g : ℕ) → in_table (map s fs) g ≡ size_of s (function_of fs g)
table_of s [] g = refl
table_of s (f ∷ fs) zero = refl
table_of s (f ∷ fs) (suc g) = table_of s fs g

cut_size : (s t : Function → ℕ) → ((f : Function) → s f ≡ cut (t f)) → (o : Option Function) → size_of s o ≡ cut (size_of t o)
cut_size s t h None = refl
cut_size s t h (Some f) = h f

map_twice : {A B C : Type 0} (f : B → C) (g : A → B) (xs : List A) → map (λ x. f (g x)) xs ≡ map f (map g xs)
map_twice f g [] = refl
map_twice f g (x ∷ xs) = ap (λ l. f (g x) ∷ l) (map_twice f g xs)

module _ (m : Measure) (shares : List Share) where
  abbrev fs : List Function
  fs = map (λ s. s.function.now) shares

  abbrev after_rounds : List ℕ → ℕ → Type 0
  after_rounds table n = (g : ℕ) → in_table table g ≡ cut (nested (share_measure m) fs n g)

  abbrev is_next : List ℕ → List ℕ → Type 0
  is_next table next = next ≡ map (λ s. cut (share_measure m (in_table table) s.function.now)) shares

  -- one more round
  pub one_round : (n : ℕ) (table next : List ℕ) → after_rounds table n → is_next table next → after_rounds next (suc n)
  one_round n table next h e g =
      ap (λ l. in_table l g) (e ∙ map_twice (λ f. cut (share_measure m (in_table table) f)) (λ (s : Share). s.function.now) shares)
      ∙ table_of (λ f. cut (share_measure m (in_table table) f)) fs g
      ∙ cut_size (λ f. cut (share_measure m (in_table table) f)) (share_measure m (nested (share_measure m) fs n)) (cut_measured (in_table table) (nested (share_measure m) fs n) h m) (function_of fs g)

  -- after a round that changes nothing no later one does
  pub settled_rounds : (n : ℕ) (table : List ℕ) → after_rounds table n → is_next table table → (k : ℕ) → n ≤ k → after_rounds table k
  settled_rounds n table h e k l = let same : n + (k - n) ≡ k = omega arith in subst (after_rounds table) same (more (k - n))
    where
      more : (j : ℕ) → after_rounds table (n + j)
      more zero = let same : n + zero ≡ n = omega arith in subst (after_rounds table) (sym same) h
      more (suc j) = let same : n + suc j ≡ suc (n + j) = omega arith in subst (after_rounds table) (sym same) (one_round (n + j) table table (more j) e)
