-- What was read, one more at a time.
use Rattle.std.proofs.Common.{◌≡◌, ℕ, ◌<◌, ◌+◌, Bool, List, [], ◌∷◌, ◌++◌, length, map, take, get_or, refl, sym, ap, ◌∙◌}
use Rattle.std.proofs.lemmas.List.{append_assoc, append-nil, map_more}
use Rattle.lt_base.specs.declared.expression.Expr.{Expr}
use Rattle.lt_base.specs.Expression.{Expression, shape, arguments_of}
use Rattle.lt_base.specs.Meaning.{ClockPairs}
use Rattle.lt_base.specs.Dependence.{reads, arguments_reads, clock_vars}

clock_vars_push : (ck : ClockPairs) (p : ℕ × Bool) → clock_vars (ck ++ p ∷ []) ≡ clock_vars ck ++ p.0 ∷ []
clock_vars_push [] p = refl
clock_vars_push (q ∷ ck) p = ap (λ l. q.0 ∷ l) (clock_vars_push ck p)

pub clock_more : (to fn pushed : List ℕ) (seen : List (ℕ × Bool)) (p : ℕ × Bool) → to ≡ fn ++ clock_vars seen → pushed ≡ to ++ p.0 ∷ [] → pushed ≡ fn ++ clock_vars (seen ++ p ∷ [])
clock_more to fn pushed seen p before push =
    push ∙ ap (λ t. t ++ p.0 ∷ []) before ∙ append_assoc fn (clock_vars seen) (p.0 ∷ []) ∙ ap (λ t. fn ++ t) (sym (clock_vars_push seen p))
