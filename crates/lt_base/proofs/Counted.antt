-- Each equation has a part.
use Rattle.std.proofs.Common.{ℕ, ◌≤◌, List, [], ◌∷◌, length, arith}
use Rattle.std.specs.List.{sum_by}
use Rattle.std.proofs.lemmas.List.Sums.{sum_by-cons}
use Rattle.lt_base.specs.Expression.{Expression, literal, variable, unary, binary, imported, choose, sampled, merged, delayed, follow, arrow, call, parts}

has_part : (e : Expression) → 1 ≤ parts e
has_part (literal v) = omega arith
has_part (variable x) = omega arith
has_part (unary o a) = omega arith
has_part (binary o a b) = omega arith
has_part (imported o a b) = omega arith
has_part (choose e a b) = omega arith
has_part (sampled e x b) = omega arith
has_part (merged x a b) = omega arith
has_part (delayed v e) = omega arith
has_part (follow a b) = omega arith
has_part (arrow a b) = omega arith
has_part (call g args) = omega arith

-- there are no more equations than parts
pub equations_fewer : (eqs : List (ℕ × Expression)) → length eqs ≤ sum_by (λ q. parts q.1) eqs
equations_fewer [] = omega arith
equations_fewer (q ∷ eqs) =
    let all = sum_by-cons (λ (r : ℕ × Expression). parts r.1) q eqs in
    let here = has_part q.1 in
    let rest = equations_fewer eqs in
    omega (arith, all, here, rest)
