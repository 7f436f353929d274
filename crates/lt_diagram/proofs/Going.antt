-- Loops that go on by one item.
use Rattle.std.proofs.Common.{◌≡◌, ℕ, zero, suc, ◌+◌, ◌-◌, ◌*◌, ◌/◌, ◌^◌, ◌<◌, ◌≤◌, ◌≢◌, inl, inr, min, max, Bool, List, [], ◌∷◌, ◌++◌, length, take, drop, get_or, refl, sym, ap, ◌∙◌, arith, append_assoc, append-nil, add-one, subst}
use Rattle.std.proofs.Math.Nat.{div-mul-le_self}
use Rattle.std.proofs.lemmas.List.{drop_all}
use Rattle.std.proofs.lemmas.Bool.Decides.{eqb_tells}
use Rattle.lt_diagram.specs.declared.chart.Chart.{Chart}
use Rattle.lt_diagram.specs.declared.picture.Mark.{Mark}
use Rattle.lt_diagram.specs.declared.picture.Sign.TheVariants.{Nothing}
use Rattle.lt_diagram.specs.Marks.{gap_after, closest_from}
use Rattle.lt_diagram.specs.Axis.{drawn_tick, ticks_from, node_piece, nodes_from}
use Rattle.lt_diagram.proofs.Pieces.{rest_there}

-- what stands past the end of a list of marks
abbrev pub no_mark : Mark
no_mark = record { event = 0; node = 0; time = 0; sign = Nothing }

-- the least way, with one more mark
pub closest_on : (c : Chart) (best : ℕ) (ms : List Mark) (i : ℕ) (d : Mark) → i < length ms
    → closest_from c best (drop i ms) ≡ closest_from c (min best (gap_after c (get_or ms i d) (drop (i + 1) ms))) (drop (i + 1) ms)
unfolding closest_from
closest_on c best ms i d h = ap (closest_from c best) (rest_there ms i d h)

pub closest_ends : (c : Chart) (best : ℕ) (ms : List Mark) (i : ℕ) → length ms ≤ i → closest_from c best (drop i ms) ≡ best
unfolding closest_from
closest_ends c best ms i h = ap (closest_from c best) (drop_all i ms h)

-- one less is left
pub left_less : (k e : ℕ) → k < e → e - k ≡ suc (e - (k + 1))
left_less k e h = omega arith

-- the greatest multiple of a step within a number
pub quotient_fits : (n s : ℕ) → n < 2 ^ 64 → n / s * s < 2 ^ 64
quotient_fits n s h = omega (arith, div-mul-le_self n s)

-- the ticks, with one more
pub ticks_on : (c : Chart) (s k e : ℕ) (m n o : List ℕ) → k < e → m ++ ticks_from c s k (e - k) ≡ o → n ≡ m ++ drawn_tick c (k * s) → n ++ ticks_from c s (k + 1) (e - (k + 1)) ≡ o
ticks_on c s k e m n o h p q =
    ap (λ z. z ++ ticks_from c s (k + 1) (e - (k + 1))) q ∙ append_assoc m (drawn_tick c (k * s)) (ticks_from c s (k + 1) (e - (k + 1)))
    ∙ ap (λ z. m ++ (drawn_tick c (k * s) ++ ticks_from c s z (e - (k + 1)))) (add-one k) ∙ ap (λ z. m ++ ticks_from c s k z) (sym (left_less k e h)) ∙ p

pub ticks_end : (c : Chart) (s k e : ℕ) (m o : List ℕ) → e ≤ k → m ++ ticks_from c s k (e - k) ≡ o → m ≡ o
ticks_end c s k e m o h p =
    let none : e - k ≡ 0 = omega arith in
    sym (ap (λ z. m ++ ticks_from c s k z) none ∙ append-nil m) ∙ p

-- the nodes' lines, with one more
pub nodes_on : (c : Chart) (names : List (List ℕ)) (i : ℕ) (x m n o : List ℕ) → i < length names → x ≡ get_or names i x → m ++ nodes_from c i (drop i names) ≡ o → n ≡ m ++ node_piece c i x
    → n ++ nodes_from c (i + 1) (drop (i + 1) names) ≡ o
nodes_on c names i x m n o h is p q =
    let rest = drop (i + 1) names in
    ap (λ z. z ++ nodes_from c (i + 1) rest) q ∙ append_assoc m (node_piece c i x) (nodes_from c (i + 1) rest)
    ∙ ap (λ z. m ++ (node_piece c i x ++ nodes_from c z rest)) (add-one i)
    ∙ ap (λ z. m ++ (node_piece c i z ++ nodes_from c (suc i) rest)) is
    ∙ ap (λ z. m ++ nodes_from c i z) (sym (rest_there names i x h)) ∙ p

pub nodes_end : (c : Chart) (names : List (List ℕ)) (i : ℕ) (m o : List ℕ) → length names ≤ i → m ++ nodes_from c i (drop i names) ≡ o → m ≡ o
nodes_end c names i m o h p = sym (ap (λ z. m ++ nodes_from c i z) (drop_all i names h) ∙ append-nil m) ∙ p
