-- The normal form is what it should be.
use Rattle.std.proofs.Common.{◌≡◌, ℕ, zero, suc, ◌+◌, ◌-◌, ◌<◌, ◌≤◌, true, false, List, [], ◌∷◌, ◌++◌, length, map, refl, sym, ap, ◌∙◌, arith, length-append}
use Rattle.std.specs.List.{sum_by}
use Rattle.std.specs.Prelude.{replicate, slice_index_or}
use Rattle.std.proofs.lemmas.List.{length-map, map-append, length-replicate}
use Rattle.std.proofs.lemmas.List.Sums.{sum_by-cons}
use Rattle.lt_base.specs.declared.function.Decl.{Decl}
use Rattle.lt_base.specs.Expression.{Expression, literal, variable, unary, binary, imported, choose, sampled, merged, delayed, follow, arrow, call}
use Rattle.lt_base.specs.Program.{Function, GoodFunction}
use Rattle.lt_base.specs.Meaning.{ClockPairs, clock_of, right_of, outer, calls}
use Rattle.lt_base.specs.Typing.{TypedFunction}
use Rattle.lt_base.specs.Clocking.{ClockedFunction}
use Rattle.lt_base.specs.Dependence.{Causal}
use Rattle.lt_base.specs.Sizes.{cost}
use Rattle.lt_base.proofs.Kept.{kept_streams}
use Rattle.lt_norm.specs.Plain.{plain, plain_equations, plain_function}
use Rattle.lt_norm.specs.Lift.{delays, Delay, lifted_delays, right_delays, right_fresh, equations_fresh, new_decl, normal_form, Stand}
use Rattle.lt_norm.specs.Flat.{Direct, FlatFunction}
use Rattle.lt_norm.specs.NormalForm.{places, right_places, equations_places, lifted_origins, DelaysAlone, NormalFormOf}
use Rattle.lt_norm.proofs.Stands.{right_length, Rows, rows, lift_more, lift_stands, lift_keeps}
use Rattle.lt_norm.proofs.Lifted.{lift_good, lift_typed, lift_clocked, lift_flat, causal_again, direct_rows}
use Rattle.lt_norm.proofs.Plains.{plain_is_good, plain_is_clocked, plain_is_simple, plain_is_typed, plain_is_causal, plain_keeps}

-- ---- the places of the lifted delays

abbrev pub place_of_delay : Delay → ClockPairs
place_of_delay r = r.0

two_places : (xs ys : List Delay) (ps qs : List ClockPairs) → map place_of_delay xs ≡ ps → map place_of_delay ys ≡ qs → map place_of_delay (xs ++ ys) ≡ ps ++ qs
two_places xs ys ps qs p q = map-append place_of_delay xs ys ∙ (λ i. p i ++ q i)

pub fresh_places : (ds : List Decl) (e : Expression) (n : ℕ) (ck : ClockPairs) → map place_of_delay (lifted_delays n ck (plain ds e)) ≡ places ck e
fresh_places ds (literal v) n ck = refl
fresh_places ds (variable x) n ck = refl
fresh_places ds (unary o a) n ck = fresh_places ds a n ck
fresh_places ds (binary o a b) n ck = two_places _ _ _ _ (fresh_places ds a n ck) (fresh_places ds b (n + delays (plain ds a)) ck)
fresh_places ds (imported o a b) n ck = two_places _ _ _ _ (fresh_places ds a n ck) (fresh_places ds b (n + delays (plain ds a)) ck)
fresh_places ds (choose c a b) n ck =
    let m = n + delays (plain ds c) in
    two_places _ _ _ _ (fresh_places ds c n ck) (two_places _ _ _ _ (fresh_places ds a m ck) (fresh_places ds b (m + delays (plain ds a)) ck))
fresh_places ds (sampled e c b) n ck = fresh_places ds e n (outer ck)
fresh_places ds (merged c a b) n ck =
    two_places _ _ _ _ (fresh_places ds a n ((c, true) ∷ ck)) (fresh_places ds b (n + delays (plain ds a)) ((c, false) ∷ ck))
fresh_places ds (delayed v e) n ck = two_places (lifted_delays n ck (plain ds e)) _ _ (ck ∷ []) (fresh_places ds e n ck) refl
fresh_places ds (follow a b) n ck =
    let m = n + 1 in
    let k = m + delays (plain ds a) in
    ap (λ l. ck ∷ l) (two_places (lifted_delays m ck (plain ds a)) _ _ _ (fresh_places ds a m ck) (two_places (lifted_delays k ck (plain ds b)) _ _ (ck ∷ []) (fresh_places ds b k ck) refl))
fresh_places ds (arrow a b) n ck =
    let m = n + 1 in
    ap (λ l. ck ∷ l) (two_places (lifted_delays m ck (plain ds a)) _ _ _ (fresh_places ds a m ck) (fresh_places ds b (m + delays (plain ds a)) ck))
fresh_places ds (call g args) n ck = refl

pub right_fresh_places : (ds : List Decl) (e : Expression) (n : ℕ) (ck : ClockPairs) → map place_of_delay (right_fresh n ck (plain ds e)) ≡ right_places ck e
right_fresh_places ds (delayed v e) n ck = fresh_places ds e n ck
right_fresh_places ds (literal v) n ck = refl
right_fresh_places ds (variable x) n ck = refl
right_fresh_places ds (unary o a) n ck = fresh_places ds (unary o a) n ck
right_fresh_places ds (binary o a b) n ck = fresh_places ds (binary o a b) n ck
right_fresh_places ds (imported o a b) n ck = fresh_places ds (imported o a b) n ck
right_fresh_places ds (choose c a b) n ck = fresh_places ds (choose c a b) n ck
right_fresh_places ds (sampled e c b) n ck = fresh_places ds (sampled e c b) n ck
right_fresh_places ds (merged c a b) n ck = fresh_places ds (merged c a b) n ck
right_fresh_places ds (follow a b) n ck = fresh_places ds (follow a b) n ck
right_fresh_places ds (arrow a b) n ck = fresh_places ds (arrow a b) n ck
right_fresh_places ds (call g args) n ck = refl

-- a right side has as many lifted delays as places
pub right_count : (ds : List Decl) (e : Expression) (ck : ClockPairs) → right_delays (plain ds e) ≡ length (right_places ck e)
right_count ds e ck =
    sym (right_length 0 ck (plain ds e)) ∙ sym (length-map (right_fresh 0 ck (plain ds e)) place_of_delay) ∙ ap length (right_fresh_places ds e 0 ck)

equations_fresh_places : (ds : List Decl) (qs : List (ℕ × Expression)) (n : ℕ) → map place_of_delay (equations_fresh ds n (plain_equations ds qs)) ≡ equations_places ds qs
equations_fresh_places ds [] n = refl
equations_fresh_places ds (q ∷ qs) n =
    two_places (right_fresh n (clock_of ds q.0) (plain ds q.1)) _ _ _ (right_fresh_places ds q.1 n (clock_of ds q.0)) (equations_fresh_places ds qs (n + right_delays (plain ds q.1)))

new_clocks : (rs : List Delay) → map (λ d. d.clock) (map new_decl rs) ≡ map place_of_delay rs
new_clocks [] = refl
new_clocks (r ∷ rs) = ap (λ l. r.0 ∷ l) (new_clocks rs)

-- ---- no more places than the delays of the weight

abbrev pub delay_cost : Expression → ℕ
delay_cost e = cost 1 (λ _. 0) e

places_cost : (e : Expression) (ck : ClockPairs) → length (places ck e) ≤ delay_cost e
places_cost (literal v) ck = omega arith
places_cost (variable x) ck = omega arith
places_cost (unary o a) ck = places_cost a ck
places_cost (binary o a b) ck = let l = length-append (places ck a) (places ck b) in omega (arith, l, places_cost a ck, places_cost b ck)
places_cost (imported o a b) ck = let l = length-append (places ck a) (places ck b) in omega (arith, l, places_cost a ck, places_cost b ck)
places_cost (choose c a b) ck =
    let l = length-append (places ck c) (places ck a ++ places ck b) in
    let m = length-append (places ck a) (places ck b) in
    omega (arith, l, m, places_cost c ck, places_cost a ck, places_cost b ck)
places_cost (sampled e c b) ck = places_cost e (outer ck)
places_cost (merged c a b) ck =
    let l = length-append (places ((c, true) ∷ ck) a) (places ((c, false) ∷ ck) b) in
    omega (arith, l, places_cost a ((c, true) ∷ ck), places_cost b ((c, false) ∷ ck))
places_cost (delayed v e) ck = let l = length-append (places ck e) (ck ∷ []) in omega (arith, l, places_cost e ck)
places_cost (follow a b) ck =
    let l = length-append (places ck a) (places ck b ++ ck ∷ []) in
    let m = length-append (places ck b) (ck ∷ []) in
    omega (arith, l, m, places_cost a ck, places_cost b ck)
places_cost (arrow a b) ck = let l = length-append (places ck a) (places ck b) in omega (arith, l, places_cost a ck, places_cost b ck)
places_cost (call g args) ck = omega arith

pub right_cost : (e : Expression) (ck : ClockPairs) → length (right_places ck e) ≤ delay_cost e
right_cost (delayed v e) ck = let h = places_cost e ck in omega (arith, h)
right_cost (literal v) ck = omega arith
right_cost (variable x) ck = omega arith
right_cost (unary o a) ck = places_cost (unary o a) ck
right_cost (binary o a b) ck = places_cost (binary o a b) ck
right_cost (imported o a b) ck = places_cost (imported o a b) ck
right_cost (choose c a b) ck = places_cost (choose c a b) ck
right_cost (sampled e c b) ck = places_cost (sampled e c b) ck
right_cost (merged c a b) ck = places_cost (merged c a b) ck
right_cost (follow a b) ck = places_cost (follow a b) ck
right_cost (arrow a b) ck = places_cost (arrow a b) ck
right_cost (call g args) ck = omega arith

pub equations_cost : (ds : List Decl) (qs : List (ℕ × Expression)) → length (equations_places ds qs) ≤ sum_by (λ e. cost 1 (λ _. 0) e.1) qs
equations_cost ds [] = omega arith
equations_cost ds (q ∷ qs) =
    let l = length-append (right_places (clock_of ds q.0) q.1) (equations_places ds qs) in
    let s = sum_by-cons (λ (e : ℕ × Expression). cost 1 (λ _. 0) e.1) q qs in
    omega (arith, l, s, right_cost q.1 (clock_of ds q.0), equations_cost ds qs)

new_origins_length : (origin : List ℕ) (ds : List Decl) (qs : List (ℕ × Expression)) → length (lifted_origins origin ds qs) ≡ length (equations_places ds qs)
new_origins_length origin ds [] = refl
new_origins_length origin ds (q ∷ qs) =
    let ps = right_places (clock_of ds q.0) q.1 in
    let o = slice_index_or origin q.0 0 in
    let l = length-append (replicate (length ps) o) (lifted_origins origin ds qs) in
    let m = length-append ps (equations_places ds qs) in
    let k = length-replicate (length ps) o in
    let h = new_origins_length origin ds qs in
    omega (arith, l, m, k, h)

-- ---- a lifted delay is alone

stands_alone : (F : Function) (n : ℕ) (rs : List Delay) → Stand F n rs → Rows (λ r. Direct r.2) rs → (i x : ℕ) → x ≡ n + i → i < length rs → DelaysAlone F x
stands_alone F n [] s d i x e l = absurd (omega (arith, l))
stands_alone F n (r ∷ rs) s d zero x e l =
    record { first = r.1; operand = r.2; equation = ap (right_of F.eqs) (omega (arith, e)) ∙ s.3; direct = d.0 }
stands_alone F n (r ∷ rs) s d (suc i) x e l = stands_alone F (suc n) rs s.4 d.1 i x (omega (arith, e)) (omega (arith, l))

-- ---- the function

module _ (f : Function) (good : GoodFunction f) (typed : TypedFunction [] f) (clocked : ClockedFunction [] f) (causal : Causal f) where
  abbrev p : Function
  p = plain_function f

  abbrev F : Function
  F = normal_form f

  p_good : GoodFunction p
  p_good = plain_is_good f good

  p_typed : TypedFunction [] p
  p_typed = plain_is_typed f good typed

  p_clocked : ClockedFunction [] p
  p_clocked = plain_is_clocked f clocked

  p_causal : Causal p
  p_causal = plain_is_causal f causal

  pub normal_good : GoodFunction F
  normal_good = lift_good p p_good p_typed p_clocked p_causal (plain_is_simple f clocked)

  pub normal_flat : FlatFunction F
  normal_flat = lift_flat p p_good p_typed p_clocked p_causal (plain_is_simple f clocked)

  normal_causal : Causal F
  normal_causal = causal_again p p_good p_typed p_clocked p_causal (plain_is_simple f clocked)

  abbrev new_rows : List Delay
  new_rows = rows p p_good

  count : length new_rows ≡ length (equations_places f.decls f.eqs)
  count = sym (length-map new_rows place_of_delay) ∙ ap length (equations_fresh_places f.decls f.eqs (length f.decls))

  grown : length F.decls ≡ length f.decls + length (equations_places f.decls f.eqs)
  grown = lift_more p p_good ∙ ap (λ k. length f.decls + k) count

  pub normal_is : (origin : List ℕ) → NormalFormOf f origin F (origin ++ lifted_origins origin f.decls f.eqs)
  normal_is origin = record {
    name = refl;
    inputs = refl;
    outputs = refl;
    more = map new_decl new_rows;
    declarations = refl;
    on_place = new_clocks new_rows ∙ equations_fresh_places f.decls f.eqs (length f.decls);
    alone = λ x l h. let m = lift_more p p_good in stands_alone F (length f.decls) new_rows (lift_stands p p_good) (direct_rows p p_good p_typed p_clocked p_causal (plain_is_simple f clocked)) (x - length f.decls) x (omega (arith, l)) (omega (arith, l, h, m));
    streams = λ rows x d. kept_streams [] F p (lift_keeps p p_good (calls [] 0)) normal_causal p_causal p_clocked rows x d ∙ kept_streams [] p f (plain_keeps f (calls [] 0)) p_causal causal clocked rows x d;
    typed = lift_typed p p_good p_typed p_clocked p_causal (plain_is_simple f clocked);
    clocked = lift_clocked p p_good p_typed p_clocked p_causal (plain_is_simple f clocked);
    causal = normal_causal;
    flat = normal_flat;
    origins = refl;
    each = λ e. let l = length-append origin (lifted_origins origin f.decls f.eqs) in let k = new_origins_length origin f.decls f.eqs in omega (arith, l, k, e, grown);
    size = grown;
    within = let c = equations_cost f.decls f.eqs in omega (arith, grown, c);
  }
