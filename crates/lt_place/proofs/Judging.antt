-- The loop that judges the equations of `main`.
use Rattle.std.proofs.Common.{◌≡◌, ℕ, ◌+◌, ◌<◌, ◌≤◌, List, length, get_or, Option, Some, None, sym, ap, ◌∙◌, subst, arith, ⊎_elim}
use Rattle.std.specs.Prelude.{slice_get}
use Rattle.std.proofs.lemmas.Bool.{cases_eq}
use Rattle.lt_base.specs.Program.{GoodFunction}
use Rattle.lt_norm.specs.Flat.{Originated}
use Rattle.lt_place_reads.specs.declared.look.Look.{Look}
use Rattle.lt_place_reads.specs.declared.look.Look.TheVariants.{Clocks, Direct, Slow}
use Rattle.lt_place_reads.specs.Origins.{HasOrigins, variable_count}
use Rattle.lt_place_reads.specs.Reads.{looked}
use Rattle.lt_place_reads.proofs.Lefts.{lefts_below}
use Rattle.lt_arch.specs.declared.placement.Placement.{Placement}
use Rattle.lt_place.specs.declared.fault.PlaceFault.{PlaceFault}
use Rattle.lt_place.specs.Legal.{Legal}
use Rattle.lt_place.specs.Faults.{IsFirstPlaceFault, judged_variables}
use Rattle.lt_place.specs.Reports.{HasLeast, MarksReads, IsAssigned, reported_fault, reports}
use Rattle.lt_place.proofs.Found.{lowest}
use Rattle.lt_place.proofs.Turns.{is_judged, var_inside, var_at, at_inside}
use Rattle.lt_place.proofs.Verdicts.{Silent, silent, clear, first_fault, legal}
use Rattle.lt_place.proofs.Marked.{default_free}

module _ (f : Originated) (good : GoodFunction f.func) (origins : HasOrigins f) (nodes : List ℕ) where
  -- a table of the lowest reports
  pub record Table (look : Look) (marks : List (Option ℕ)) : Type 0 where
    pub size : length marks ≡ variable_count f
    pub least : HasLeast marks (reports (looked look f) nodes f.origin f.func.eqs)

  marks_of : (p : Placement) → IsAssigned f p nodes → (look : Look) (marks : List (Option ℕ)) → Table look marks → MarksReads f p look marks
  marks_of p a look marks t m l = lowest f p nodes a.each (looked look f) good marks t.least m (let s = t.size in omega (arith, s, l))

  module _ (clocks direct slow : List (Option ℕ)) (tc : Table Clocks clocks) (td : Table Direct direct) (ts : Table Slow slow) (order : List ℕ) (o : order ≡ judged_variables f) where
    inside : (i : ℕ) → i < length order → get_or order i 0 < variable_count f
    inside i l = var_inside f good (lefts_below f good) order o i l

    pub index_inside : (look : Look) (marks : List (Option ℕ)) → Table look marks → (n : ℕ) → n ≡ length marks → (i : ℕ) → i < length order → get_or order i 0 < n
    index_inside look marks t n e i l = let s = t.size in let b = inside i l in omega (arith, s, b, e)

    abbrev pub SilentTo : ℕ → Type 0
    SilentTo n = (i m : ℕ) → i < n → slice_get order i ≡ Some m → Silent clocks direct slow m

    module _ (turn : ℕ) (l : turn < length order) (c d s : Option ℕ) (rc : c ≡ get_or clocks (get_or order turn 0) c) (rd : d ≡ get_or direct (get_or order turn 0) d) (rs : s ≡ get_or slow (get_or order turn 0) s) where
      abbrev m : ℕ
      m = get_or order turn 0

      read : (look : Look) (marks : List (Option ℕ)) (t : Table look marks) (o : Option ℕ) → o ≡ get_or marks m o → o ≡ get_or marks m None
      read look marks t o r = r ∙ default_free marks m o None (let s = t.size in let b = inside turn l in omega (arith, s, b))

      found : (o : Option PlaceFault) → o ≡ reported_fault m c d s → o ≡ reported_fault m (get_or clocks m None) (get_or direct m None) (get_or slow m None)
      found o e = e ∙ (λ i. reported_fault m (read Clocks clocks tc c rc i) (read Direct direct td d rd i) (read Slow slow ts s rs i))

      pub one_fault : SilentTo turn → (e : PlaceFault) → Some e ≡ reported_fault m c d s → (p : Placement) → IsAssigned f p nodes → IsFirstPlaceFault f p e
      one_fault before e h p a =
          let hc = marks_of p a Clocks clocks tc in
          let hd = marks_of p a Direct direct td in
          let hs = marks_of p a Slow slow ts in
          first_fault f good origins p nodes a clocks direct slow hc hd hs turn m (inside turn l)
          (ap (λ xs. slice_get xs turn) (sym o) ∙ var_at order turn l)
          (λ i k b r.
          let q : slice_get order i ≡ Some k = ap (λ xs. slice_get xs i) o ∙ r in
          let w = at_inside order i k q in
          clear f good origins p nodes a clocks direct slow hc hd hs k (subst (λ z. z < variable_count f) w.1 (inside i w.0)) (before i k b q))
          e (sym (found (Some e) h))

      pub one_silent : SilentTo turn → None ≡ reported_fault m c d s → SilentTo (turn + 1)
      one_silent before h i k b r = ⊎_elim
          (λ (e : i ≡ turn).
          let w = at_inside order i k r in
          let same : k ≡ m = sym w.1 ∙ ap (λ z. get_or order z 0) e in
          subst (Silent clocks direct slow) (sym same) (silent clocks direct slow m (sym (found None h))))
          (λ e. before i k (omega (arith, e)) r)
          (cases_eq i turn)

    pub all_legal : (n : ℕ) → length order ≤ n → SilentTo n → (p : Placement) → IsAssigned f p nodes → Legal f p
    all_legal n b silent p a =
        legal f good origins p nodes a (λ m main.
        let t = is_judged f good m main in
        let q : slice_get order t.0 ≡ Some m = ap (λ xs. slice_get xs t.0) o ∙ t.1 in
        let w = at_inside order t.0 m q in
        clear f good origins p nodes a clocks direct slow (marks_of p a Clocks clocks tc) (marks_of p a Direct direct td) (marks_of p a Slow slow ts) m main.declared (silent t.0 m (let l = w.0 in omega (arith, l)) q))
