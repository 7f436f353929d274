-- The parts of a formula name signals and earlier parts alone.
use Rattle.std.proofs.Common.{◌≡◌, ℕ, zero, suc, ◌+◌, ◌-◌, ◌<◌, false, List, [], ◌∷◌, ◌++◌, length, sym, ap, subst, arith}
use Rattle.std.specs.Prelude.{slice_index_or}
use Rattle.lt_past.specs.declared.monitor.Part.{Part}
use Rattle.lt_past.specs.declared.monitor.Part.TheVariants as part
use Rattle.lt_past.specs.Formula.{Formula, constant, signal, unary, binary, SignalsBelow}
use Rattle.lt_past.specs.Parts.{part_count, parts_of, FitsAt, Fit}
use Rattle.lt_past.proofs.Rows.{length_parts}
use Rattle.lt_past.proofs.Stepping.{some_parts}

-- of parts that stand from number n on
abbrev Row : ℕ → ℕ → List Part → Type 0
Row w n [] = Unit {0}
Row w n (p ∷ ps) = FitsAt w n p × Row w (n + 1) ps

row_append : (w n m : ℕ) (ps qs : List Part) → m ≡ n + length ps → Row w n ps → Row w m qs → Row w n (ps ++ qs)
row_append w n m [] qs e r s = let k : m ≡ n = omega (arith, e) in subst (λ z. Row w z qs) k s
row_append w n m (p ∷ ps) qs e r s = let k : m ≡ n + 1 + length ps = omega (arith, e) in (r.0, row_append w (n + 1) m ps qs k r.1 s)

row_of : (w n : ℕ) (f : Formula) → SignalsBelow w f → Row w n (parts_of n f)
row_of w n (constant b) h = (tt, tt)
row_of w n (signal k) h = (h, tt)
row_of w n (unary p f) h = row_append w n (n + part_count f) (parts_of n f) (part.Before p ∷ []) (ap (λ m. n + m) (sym (length_parts n f))) (row_of w n f h) (tt, tt)
row_of w n (binary o f g) h =
    let k = n + part_count f in
    let low : k - 1 < k + part_count g = omega (arith, some_parts f) in
    let gs = row_append w k (k + part_count g) (parts_of k g) (part.Between o (k - 1) ∷ []) (ap (λ m. k + m) (sym (length_parts k g))) (row_of w k g h.1) (low, tt) in
    row_append w n k (parts_of n f) (parts_of k g ++ part.Between o (k - 1) ∷ []) (ap (λ m. n + m) (sym (length_parts n f))) (row_of w n f h.0) gs

row_at : (w n : ℕ) (ps : List Part) → Row w n ps → (k : ℕ) → k < length ps → FitsAt w (n + k) (slice_index_or ps k (part.Lit false))
row_at w n [] r k h = absurd (omega (arith, h))
row_at w n (p ∷ ps) r zero h = let e : n ≡ n + 0 = omega arith in subst (λ m. FitsAt w m p) e r.0
row_at w n (p ∷ ps) r (suc k) h = let e : n + 1 + k ≡ n + suc k = omega arith in subst (λ m. FitsAt w m (slice_index_or ps k (part.Lit false))) e (row_at w (n + 1) ps r.1 k (omega (arith, h)))

pub parts_fit : (w : ℕ) (f : Formula) → SignalsBelow w f → (ps : List Part) → ps ≡ parts_of 0 f → Fit w ps
parts_fit w f h ps e = subst (Fit w) (sym e) (λ k lt. let z : 0 + k ≡ k = omega arith in subst (λ m. FitsAt w m (slice_index_or (parts_of 0 f) k (part.Lit false))) z (row_at w 0 (parts_of 0 f) (row_of w 0 f h) k lt))
