-- A function is causal exactly where its equations have an order.
use Rattle.std.proofs.Common.{◌≡◌, ℕ, ◌<◌, Bool, true, false, List, [], ◌∷◌, ◌++◌, map, Option, Some, None, refl, ap, ◌∙◌, arith, ⊎_elim}
use Rattle.std.specs.Prelude.{◌||◌, nat_eq, if◌then◌else◌, is_none}
use Rattle.std.proofs.lemmas.List.{length-map}
use Rattle.lt_base.specs.Expression.{Expression}
use Rattle.lt_base.specs.Program.{Function}
use Rattle.lt_base.specs.Meaning.{clock_of, right_of}
use Rattle.lt_base.specs.Dependence.{has, reads, clock_vars, dependencies_of, dependencies, Depends, Causal}
use Rattle.lt_base.specs.Order.{Ranked, Ordered}
use Rattle.lt_base.proofs.Reading.{has_front, has_back, has_cases, each_at, each_clock_at, each_from, each_clock_from}
use Rattle.lt_base.proofs.Graph.{no_closed_walk, order, before, order_le, order_pos}

-- ---- ranks leave no closed walk

module _ (f : Function) (rank : ℕ → ℕ) (ranked : Ranked f rank) where
  depends_lower_by : (x y : ℕ) (o : Option Expression) → right_of f.eqs x ≡ o → has y (dependencies_of o (clock_of f.decls x)) ≡ true → rank y < rank x
  depends_lower_by x y None e h = absurd (cc)
  depends_lower_by x y (Some a) e h =
      ⊎_elim (each_at (λ z. rank z < rank x) a (ranked.reads_before x a e) y) (each_clock_at (λ z. rank z < rank x) (clock_of f.decls x) (ranked.clocks_before x a e) y) (has_cases y (reads a) (clock_vars (clock_of f.decls x)) h)

  -- what a variable depends on has a lower rank
  pub depends_lower : (x y : ℕ) → Depends f x y → rank y < rank x
  depends_lower x y d = depends_lower_by x y (right_of f.eqs x) refl d

  -- a function with ranks is causal
  pub causal_from_ranks : Causal f
  causal_from_ranks = no_closed_walk (Depends f) rank depends_lower

-- ---- a causal function has an order

left_of : (eqs : List (ℕ × Expression)) (x : ℕ) → is_none (right_of eqs x) ≡ false → has x (map (λ e. e.0) eqs) ≡ true
left_of [] x h = absurd (cc)
left_of ((y, a) ∷ eqs) x h =
    let go : (b : Bool) → is_none (if b then Some a else right_of eqs x) ≡ false → (b || has x (map (λ e. e.0) eqs)) ≡ true =
    elim [ true ↦ λ _. refl | false ↦ λ k. left_of eqs x k ] in
    go (nat_eq x y) h

module _ (f : Function) (causal : Causal f) where
  abbrev is_given : ℕ → Bool
  is_given x = is_none (right_of f.eqs x)

  no_dependencies_by : (x : ℕ) (o : Option Expression) → is_none o ≡ true → dependencies_of o (clock_of f.decls x) ≡ []
  no_dependencies_by x None h = refl
  no_dependencies_by x (Some a) h = absurd (cc)

  no_dependencies : (x : ℕ) → is_given x ≡ true → dependencies f x ≡ []
  no_dependencies x h = no_dependencies_by x (right_of f.eqs x) h

  abbrev lefts : List ℕ
  lefts = map (λ e. e.0) f.eqs

  -- a place for each variable: 0 for an input
  pub place_of : ℕ → ℕ
  place_of x = order (dependencies f) is_given no_dependencies lefts (left_of f.eqs) causal x

  later : (x y : ℕ) → Depends f x y → place_of y < place_of x
  unfolding place_of
  later x y d = before (dependencies f) is_given no_dependencies lefts (left_of f.eqs) causal x y d

  pub ordered : Ordered f place_of
  unfolding place_of
  ordered = record {
    within = λ x a e. let n = length-map f.eqs (λ (e : ℕ × Expression). e.0) in let l = order_le (dependencies f) is_given no_dependencies lefts (left_of f.eqs) causal x in omega (arith, n, l);
    later = λ x a e. order_pos (dependencies f) is_given no_dependencies lefts (left_of f.eqs) causal x (ap is_none e);
    ranked = record {
      reads_before = λ x a e. each_from (λ y. place_of y < place_of x) a (λ y m. later x y (ap (has y) (dependencies_are x a e) ∙ has_front y (reads a) (clock_vars (clock_of f.decls x)) m));
      clocks_before = λ x a e. each_clock_from (λ y. place_of y < place_of x) (clock_of f.decls x) (λ y m. later x y (ap (has y) (dependencies_are x a e) ∙ has_back y (reads a) (clock_vars (clock_of f.decls x)) m));
    };
  }
    where
      dependencies_are : (x : ℕ) (a : Expression) → right_of f.eqs x ≡ Some a → dependencies f x ≡ reads a ++ clock_vars (clock_of f.decls x)
      dependencies_are x a e = ap (λ o. dependencies_of o (clock_of f.decls x)) e
