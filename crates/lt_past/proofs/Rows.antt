-- The parts of a formula in a row.
use Rattle.std.proofs.Common.{◌≡◌, ℕ, ◌+◌, ◌-◌, List, [], ◌∷◌, ◌++◌, length, Result, refl, sym, ap, ap₂, ◌∙◌, subst, arith, append_assoc, length-append}
use Rattle.std.specs.Prelude.{OnOk}
use Rattle.lt_past.specs.declared.words.Infix.{Infix}
use Rattle.lt_past.specs.declared.monitor.Part.{Part}
use Rattle.lt_past.specs.declared.monitor.Part.TheVariants as part
use Rattle.lt_past.specs.Formula.{Formula, constant, signal, unary, binary}
use Rattle.lt_past.specs.Parts.{part_count, parts_of}

pub length_parts : (n : ℕ) (f : Formula) → length (parts_of n f) ≡ part_count f
length_parts n (constant b) = refl
length_parts n (signal k) = refl
length_parts n (unary p f) = length-append (parts_of n f) (part.Before p ∷ []) ∙ ap (λ m. m + 1) (length_parts n f)
length_parts n (binary o f g) =
    let l = n + part_count f in
    let a = length-append (parts_of n f) (parts_of l g ++ part.Between o (l - 1) ∷ []) in
    let b = length-append (parts_of l g) (part.Between o (l - 1) ∷ []) in
    omega (arith, a, b, length_parts n f, length_parts l g)

-- two operands and then their word
pub two_parts : {E : Type 0} (r : Result (Unit {0}) E) (o : Infix) (f g f' g' h : Formula) (ps qs rs ss : List Part) (first : ℕ) → f ≡ f' → g ≡ g' → h ≡ binary o f' g' → qs ≡ ps ++ parts_of (length ps) f → first ≡ length qs - 1 → rs ≡ qs ++ parts_of (length qs) g → OnOk r (ss ≡ rs ++ part.Between o first ∷ [])
    → OnOk r (ss ≡ ps ++ parts_of (length ps) h)
two_parts r o f g f' g' h ps qs rs ss first ef eg eh q at s pushed =
    let n : length qs ≡ length ps + part_count f = ap length q ∙ length-append ps (parts_of (length ps) f) ∙ ap (λ m. length ps + m) (length_parts (length ps) f) in
    let l = length ps + part_count f in
    let a : first ≡ l - 1 = at ∙ ap (λ m. m - 1) n in
    let b : rs ≡ (ps ++ parts_of (length ps) f) ++ parts_of l g = s ∙ ap (λ m. qs ++ parts_of m g) n ∙ ap (λ z. z ++ parts_of l g) q in
    let c : rs ++ part.Between o first ∷ [] ≡ ps ++ parts_of (length ps) (binary o f g) =
    ap (λ z. z ++ part.Between o first ∷ []) b ∙ ap (λ m. ((ps ++ parts_of (length ps) f) ++ parts_of l g) ++ part.Between o m ∷ []) a
    ∙ append_assoc (ps ++ parts_of (length ps) f) (parts_of l g) (part.Between o (l - 1) ∷ []) ∙ append_assoc ps (parts_of (length ps) f) (parts_of l g ++ part.Between o (l - 1) ∷ []) in
    let d : ps ++ parts_of (length ps) (binary o f g) ≡ ps ++ parts_of (length ps) h = ap (λ z. ps ++ parts_of (length ps) z) (ap₂ (binary o) ef eg ∙ sym eh) in
    subst (λ z. OnOk r (ss ≡ z)) (c ∙ d) pushed
