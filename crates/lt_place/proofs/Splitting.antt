-- A legal function can be split.
use Rattle.std.proofs.Common.{◌≡◌, ◌≢◌, ℕ, ◌<◌, Bool, true, false, List, [], ◌∷◌, get_or, Option, Some, None, refl, sym, ap, ◌∙◌, arith, ⊎_elim, ltb-true, ltb-false}
use Rattle.std.specs.Prelude.{nat_lt, ◌||◌}
use Rattle.std.specs.Option.{is_some}
use Rattle.std.proofs.lemmas.Bool.{cases_eq, or_cases}
use Rattle.lt_base.specs.declared.value.Value.{Value}
use Rattle.lt_base.specs.Expression.{Expression, literal, variable, unary, binary, imported, choose, sampled, merged, delayed, follow, arrow, call}
use Rattle.lt_base.specs.Program.{GoodFunction, VarsBelow}
use Rattle.lt_base.specs.Meaning.{ClockPairs, clock_of, right_of}
use Rattle.lt_base.specs.Dependence.{has}
use Rattle.lt_base.proofs.Lookups.{right_all, left_below, same_self}
use Rattle.lt_base.proofs.Reading.{has_one, or_left, each_clock_at}
use Rattle.lt_norm.specs.Flat.{Originated, FlatRight, FlatFunction}
use Rattle.lt_place_reads.specs.declared.crossing.Crossing.{Crossing}
use Rattle.lt_place_reads.specs.Origins.{variable_count}
use Rattle.lt_place_reads.specs.Reads.{whole_read, delayed_reads}
use Rattle.lt_place_reads.specs.Crossings.{cross_by, HasReaders, HasPlaces}
use Rattle.lt_place.specs.Spread.{HasFed, IsLocal}
use Rattle.lt_place.proofs.Inputs.{input_clock}
use Rattle.lt_place.proofs.Inside.{direct_below, delayed_below, clocks_below}
use Rattle.lt_place.proofs.Crosses.{IsCross, cross_is, is_cross}
use Rattle.lt_place.proofs.Vars.{EachVar, flat_vars, clock_vars_each}
use Rattle.lt_place.proofs.Parts.{Splits}

whole_is : (a : Expression) (y : ℕ) → has y (whole_read a) ≡ true → a ≡ variable y
whole_is (variable x) y h = has_one (λ z. variable x ≡ variable z) x [] y h refl (λ k. absurd (cc))
whole_is (literal v) y h = absurd (cc)
whole_is (unary o a) y h = absurd (cc)
whole_is (binary o a b) y h = absurd (cc)
whole_is (imported o a b) y h = absurd (cc)
whole_is (choose c a b) y h = absurd (cc)
whole_is (sampled e c b) y h = absurd (cc)
whole_is (merged c a b) y h = absurd (cc)
whole_is (delayed v e) y h = absurd (cc)
whole_is (follow a b) y h = absurd (cc)
whole_is (arrow a b) y h = absurd (cc)
whole_is (call g args) y h = absurd (cc)

delayed_is : (e : Expression) (y : ℕ) → has y (delayed_reads e) ≡ true → (v : Value) × (e ≡ delayed v (variable y))
delayed_is (delayed v a) y h = (v, ap (delayed v) (whole_is a y h))
delayed_is (literal v) y h = absurd (cc)
delayed_is (variable x) y h = absurd (cc)
delayed_is (unary o a) y h = absurd (cc)
delayed_is (binary o a b) y h = absurd (cc)
delayed_is (imported o a b) y h = absurd (cc)
delayed_is (choose c a b) y h = absurd (cc)
delayed_is (sampled e c b) y h = absurd (cc)
delayed_is (merged c a b) y h = absurd (cc)
delayed_is (follow a b) y h = absurd (cc)
delayed_is (arrow a b) y h = absurd (cc)
delayed_is (call g args) y h = absurd (cc)

clock_case : (ck : ClockPairs) → (ck ≢ [] → ⊥) → ck ≡ []
clock_case [] h = refl
clock_case (p ∷ ck) h = absurd (h (λ e. cc))

or_none : (a b : Bool) → (a || b) ≡ false → (a ≡ false) × (b ≡ false)
or_none true b h = absurd (cc)
or_none false b h = (refl, h)

some_case : {A : Type 0} (o : Option A) → (o ≡ None → ⊥) → (a : A) × (o ≡ Some a)
some_case None h = absurd (h refl)
some_case (Some a) h = (a, refl)

module _ (f : Originated) (good : GoodFunction f.func) (flat : FlatFunction f.func) (nodes : List ℕ) (local : IsLocal f nodes) (readers : List (Option Crossing)) (r : HasReaders f nodes readers) (list : List Crossing) (places : List (Option ℕ)) (h : HasPlaces readers (variable_count f) list places) (fed : List Bool) (g : HasFed f.func.n_in places fed) where
  fed_is : (x : ℕ) → x < variable_count f → get_or fed x false ≡ (nat_lt x f.func.n_in || is_some (get_or places x None))
  fed_is x l = g.each x (let s = h.size in omega (arith, s, l))

  -- a variable with a place reads a crossing
  pub placed_cross : (x : ℕ) → x < variable_count f → is_some (get_or places x None) ≡ true → (c : Crossing) × IsCross nodes x (right_of f.func.eqs x) c
  placed_cross x l t =
      let w = some_case (get_or readers x None) (λ e. let z : is_some (get_or places x None) ≡ false = ap is_some (h.none x l e) in absurd (cc)) in
      (w.0, cross_is nodes x (right_of f.func.eqs x) w.0 (sym (r.each x l) ∙ w.1))

  -- and the other way round
  pub cross_placed : (x : ℕ) (v : Value) (y : ℕ) → right_of f.func.eqs x ≡ Some (delayed v (variable y)) → get_or nodes y 0 ≢ get_or nodes x 0 → (k : ℕ) × (get_or places x None ≡ Some k)
  cross_placed x v y e a =
      let l = left_below f.func good x (delayed v (variable y)) e in
      let c = is_cross nodes x v y a in
      let s = h.some x c.0 l (r.each x l ∙ ap (cross_by nodes x) e ∙ c.1) in
      (s.0, s.1)

  base : (x : ℕ) → x < variable_count f → get_or fed x false ≡ true → clock_of f.func.decls x ≡ []
  base x l t = ⊎_elim
      (λ a. input_clock f.func good x (ltb-true x f.func.n_in a))
      (λ a.
      let c = placed_cross x l a in
      let o = c.1 in
      clock_case (clock_of f.func.decls x) (λ n. o.away (local.slow x (delayed c.0.first (variable c.0.var)) c.0.var o.equation n (or_left _ _ (same_self c.0.var)))))
      (or_cases (nat_lt x f.func.n_in) (is_some (get_or places x None)) (sym (fed_is x l) ∙ t))

  abbrev Near : ℕ → ℕ → Type 0
  Near x y = (y < variable_count f) × (get_or nodes y 0 ≡ get_or nodes x 0)

  reads : (x : ℕ) (e : Expression) → right_of f.func.eqs x ≡ Some e → get_or fed x false ≡ false → EachVar (Near x) e
  reads x e q t =
      let l = left_below f.func good x e q in
      let below = right_all (λ q. VarsBelow (variable_count f) q.1) f.func.eqs good.rights x e q in
      let unplaced = (or_none (nat_lt x f.func.n_in) (is_some (get_or places x None)) (sym (fed_is x l) ∙ t)).1 in
      flat_vars (Near x) e (right_all (λ q. FlatRight q.1) f.func.eqs flat x e q)
      (λ y k. (direct_below (variable_count f) e below y k, local.direct x e y q k))
      (λ y k. (
        delayed_below (variable_count f) e below y k,
        ⊎_elim (λ s. s) (λ s.
            let d = delayed_is e y k in
            let p = cross_placed x d.0 y (q ∙ ap Some d.1) s in
            let z : is_some (get_or places x None) ≡ true = ap is_some p.1 in
            absurd (cc)) (cases_eq (get_or nodes y 0) (get_or nodes x 0)),
      ))

  pub splits : Splits f nodes fed
  splits = record {
    base = base;
    free = λ x l t. ltb-false x f.func.n_in (or_none (nat_lt x f.func.n_in) (is_some (get_or places x None)) (sym (fed_is x l) ∙ t)).0;
    reads = reads;
    clocks = λ x l. clock_vars_each (Near x) (clock_of f.func.decls x) (λ y k. (each_clock_at (λ y. y < variable_count f) (clock_of f.func.decls x) (clocks_below f good x l) y k, local.clocks x y l k));
  }
