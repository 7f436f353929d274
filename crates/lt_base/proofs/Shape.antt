-- The shape of a call.
use Rattle.std.proofs.Common.{◌≡◌, ℕ, ◌+◌, List, [], ◌∷◌, map, Vec, Global, refl, sym, ap, ◌∙◌}
use Rattle.std.specs.List.{sum_by}
use Rattle.std.proofs.lemmas.List.Sums.{sum_by-cons}
use mathlib.Core.Former.{Count}
use Rattle.lt_base.specs.declared.expression.Expr.{Expr, Call, Call', Row_of-Expr, end_of-Expr, more_of-Expr, items-the_row-Expr, items_hidden-the_row-Expr-0}
use Rattle.lt_base.specs.Expression.{call, argument, shape, arguments_shape, arguments_of, parts, arguments_parts}

row_shape : (n : _) (row : Row_of-Expr n) → arguments_shape row ≡ arguments_of (map shape (items-the_row-Expr n row))
row_shape n end_of-Expr = refl
row_shape n (more_of-Expr e rest) = ap (argument (shape e)) (row_shape _ rest)

abbrev row_of : Expr → (n : Count) × Row_of-Expr n
row_of (Call' _ _ row) = (_, row)
row_of _ = (_, end_of-Expr)

pub shape-Call : (g : ℕ) (args : Vec Expr Global) → shape (Call g args) ≡ call g (arguments_of (map shape args.items))
shape-Call g args =
    let row = row_of (Call g args) in
    ap (call g) (row_shape row.0 row.1) ∙ ap (λ l. call g (arguments_of (map shape l))) (items_hidden-the_row-Expr-0 args)

pub arguments_parts-map : (es : List Expr) → arguments_parts (arguments_of (map shape es)) ≡ sum_by (λ e. parts (shape e)) es
arguments_parts-map [] = refl
arguments_parts-map (e ∷ es) = ap (λ n. parts (shape e) + n) (arguments_parts-map es) ∙ sym (sum_by-cons (λ x. parts (shape x)) e es)
