-- What the tables of reads on other nodes say of a placement.
use Rattle.std.proofs.Common.{◌≡◌, ◌≢◌, ℕ, ◌<◌, true, List, [], ◌∷◌, get_or, Option, Some, None, refl, sym, ap, ◌∙◌, subst, ⊎_elim}
use Rattle.std.specs.Prelude.{MatchOption, slice_get}
use Rattle.std.proofs.lemmas.Bool.{cases_eq}
use Rattle.lt_base.specs.Expression.{Expression}
use Rattle.lt_base.specs.Meaning.{ClockPairs, clock_of, right_of}
use Rattle.lt_base.specs.Dependence.{has, clock_vars}
use Rattle.lt_base.specs.Program.{GoodFunction}
use Rattle.lt_base.proofs.Lookups.{is_input, left_below}
use Rattle.lt_norm.specs.Flat.{Originated}
use Rattle.lt_place_reads.specs.declared.look.Look.TheVariants.{Clocks, Direct, Slow}
use Rattle.lt_place_reads.specs.Origins.{IsMain, HasOrigins, origin_of, variable_count}
use Rattle.lt_place_reads.specs.Reads.{delayed_reads, clock_reads, plain_reads, slow_reads, unless_base}
use Rattle.lt_arch.specs.declared.placement.Placement.{Placement}
use Rattle.lt_place.specs.declared.fault.PlaceFault.{PlaceFault}
use Rattle.lt_place.specs.declared.fault.PlaceFault.TheVariants.{DirectCross, SlowCross, ClockElsewhere}
use Rattle.lt_place.specs.Nodes.{node_of}
use Rattle.lt_place.specs.Legal.{Legal}
use Rattle.lt_place.specs.Faults.{IsLowest, ReadsElsewhere, IsClear, IsReached, IsFirstPlaceFault, judged_variables}
use Rattle.lt_place.specs.Reports.{MarksReads, IsAssigned, reported_fault}
use Rattle.lt_place.proofs.Inputs.{input_clock}

match_none : {A : Type 0} (P : Type 0) (Q : A → Type 0) (o : Option A) → o ≡ None → MatchOption o P Q → P
match_none P Q None e h = h
match_none P Q (Some a) e h = absurd (cc)

unless : (ck : ClockPairs) (ys : List ℕ) (y : ℕ) → ck ≢ [] → has y ys ≡ true → has y (unless_base ck ys) ≡ true
unless [] ys y n h = absurd (n refl)
unless (p ∷ ck) ys y n h = h

-- nothing is found at m
pub record Silent (clocks direct slow : List (Option ℕ)) (m : ℕ) : Type 0 where
  pub no_clock : get_or clocks m None ≡ None
  pub no_direct : get_or direct m None ≡ None
  pub no_slow : get_or slow m None ≡ None

silent_by : (m : ℕ) (c d s : Option ℕ) → reported_fault m c d s ≡ None → (c ≡ None) × (d ≡ None) × (s ≡ None)
silent_by m None None None e = (refl, refl, refl)
silent_by m (Some n) d s e = absurd (cc)
silent_by m None (Some n) s e = absurd (cc)
silent_by m None None (Some n) e = absurd (cc)

pub silent : (clocks direct slow : List (Option ℕ)) (m : ℕ) → reported_fault m (get_or clocks m None) (get_or direct m None) (get_or slow m None) ≡ None → Silent clocks direct slow m
silent clocks direct slow m e =
    let t = silent_by m (get_or clocks m None) (get_or direct m None) (get_or slow m None) e in
    record { no_clock = t.0; no_direct = t.1; no_slow = t.2 }

module _ (f : Originated) (good : GoodFunction f.func) (origins : HasOrigins f) (p : Placement) (nodes : List ℕ) (a : IsAssigned f p nodes) where
  apart_or : (read_by : ℕ → Expression → List ℕ) (x : ℕ) (e : Expression) (y : ℕ) → right_of f.func.eqs x ≡ Some e → has y (read_by x e) ≡ true → ((n : ℕ) → ReadsElsewhere f p read_by (origin_of f x) n → ⊥) → node_of f p y ≡ node_of f p x
  apart_or read_by x e y h r none =
      ⊎_elim (λ s. s) (λ s. absurd (none (origin_of f y) (record { reader = x; right = e; read = y; equation = h; arose = refl; reads = r; named = refl; apart = s }))) (cases_eq (node_of f p y) (node_of f p x))

  clocks_by : (x y : ℕ) → x < variable_count f → has y (clock_vars (clock_of f.func.decls x)) ≡ true → ((n : ℕ) → ReadsElsewhere f p (clock_reads f) (origin_of f x) n → ⊥) → node_of f p y ≡ node_of f p x
  clocks_by x y l r none =
      let go : (o : Option Expression) → right_of f.func.eqs x ≡ o → node_of f p y ≡ node_of f p x =
      elim [
        | None ↦ λ h. let c : clock_of f.func.decls x ≡ [] = input_clock f.func good x (is_input f.func good x l h) in absurd (empty y (ap (λ k. has y (clock_vars k)) (sym c) ∙ r))
        | Some e ↦ λ h. apart_or (clock_reads f) x e y h r none
      ] in
      go (right_of f.func.eqs x) refl
    where
      empty : (y : ℕ) → has y [] ≡ true → ⊥
      empty y h = absurd (cc)

  -- where nothing is at fault, the placement is legal
  pub legal : ((m : ℕ) → IsMain f m → IsClear f p m) → Legal f p
  legal clear =
      let at : (x : ℕ) → x < variable_count f → IsClear f p (origin_of f x) = λ x l. clear (origin_of f x) (origins.main x l) in
      record {
        once = a.once;
        known = a.known;
        direct = λ x e y h r. apart_or (plain_reads f) x e y h r ((at x (left_below f.func good x e h)).direct);
        slow = λ x e y h n r. apart_or (slow_reads f) x e y h (unless (clock_of f.func.decls x) (delayed_reads e) y n r) ((at x (left_below f.func good x e h)).slow);
        clocks = λ x y l r. clocks_by x y l r ((at x l).clocks);
      }

  module _ (clocks direct slow : List (Option ℕ)) (hc : MarksReads f p Clocks clocks) (hd : MarksReads f p Direct direct) (hs : MarksReads f p Slow slow) where
    pub clear : (m : ℕ) → m < variable_count f → Silent clocks direct slow m → IsClear f p m
    clear m l s = record {
      clocks = match_none _ (λ n. IsLowest (ReadsElsewhere f p (clock_reads f) m) n) (get_or clocks m None) s.no_clock (hc m l);
      direct = match_none _ (λ n. IsLowest (ReadsElsewhere f p (plain_reads f) m) n) (get_or direct m None) s.no_direct (hd m l);
      slow = match_none _ (λ n. IsLowest (ReadsElsewhere f p (slow_reads f) m) n) (get_or slow m None) s.no_slow (hs m l);
    }

    abbrev Says : (ℕ → Expression → List ℕ) → ℕ → Option ℕ → Type 0
    Says read_by m o = MatchOption o ((n : ℕ) → ReadsElsewhere f p read_by m n → ⊥) (λ n. IsLowest (ReadsElsewhere f p read_by m) n)

    first_by : (m : ℕ) → IsReached f p m → (c d s : Option ℕ) → Says (clock_reads f) m c → Says (plain_reads f) m d → Says (slow_reads f) m s → (e : PlaceFault) → reported_fault m c d s ≡ Some e → IsFirstPlaceFault f p e
    first_by m r (Some n) d s kc kd ks e h = let q : ClockElsewhere m n ≡ e = cc in subst (IsFirstPlaceFault f p) q (r, kc)
    first_by m r None (Some n) s kc kd ks e h = let q : DirectCross m n ≡ e = cc in subst (IsFirstPlaceFault f p) q (r, kc, kd)
    first_by m r None None (Some n) kc kd ks e h = let q : SlowCross m n ≡ e = cc in subst (IsFirstPlaceFault f p) q (r, kc, kd, ks)
    first_by m r None None None kc kd ks e h = absurd (cc)

    -- the first fault found is the first one
    pub first_fault : (turn m : ℕ) → m < variable_count f → slice_get (judged_variables f) turn ≡ Some m → ((i k : ℕ) → i < turn → slice_get (judged_variables f) i ≡ Some k → IsClear f p k) → (e : PlaceFault) → reported_fault m (get_or clocks m None) (get_or direct m None) (get_or slow m None) ≡ Some e → IsFirstPlaceFault f p e
    first_fault turn m l here before e h =
        first_by m (record { once = a.once; known = a.known; turn = turn; here = here; before = before }) (get_or clocks m None) (get_or direct m None) (get_or slow m None) (hc m l) (hd m l) (hs m l) e h
