-- An argument of a call is less deep than the call.
use Rattle.std.proofs.Common.{◌≡◌, ℕ, ◌<◌, ◌≤◌, List, length, get_or, Vec, Global, ap, ◌∙◌, arith}
use denote.Param.Weighed.{at_most, most}
use Rattle.lt_base.proofs.expression.Expr.TheLaws.{the_size}
use Rattle.lt_base.specs.declared.expression.Expr.{Expr, Call}
use Rattle.lt_base.specs.declared.expression.Expr.TheViews.{sized-Call}

item_lower : (g : ℕ) (args : Vec Expr Global) (i : ℕ) (d : Expr) → i < length args.items → the_size (get_or args.items i d) < the_size (Call g args)
item_lower g args i d l =
    let s = sized-Call g args in
    let m : the_size (get_or args.items i d) ≤ most the_size args.items = at_most the_size args.items i d l in
    omega (arith, s, m)

pub argument_lower : (e : Expr) (g : ℕ) (args : Vec Expr Global) → e ≡ Call g args → (items : List Expr) → items ≡ args.items → (i : ℕ) (a : Expr) → i < length items → a ≡ get_or items i a → the_size a < the_size e
argument_lower e g args is items are i a l read =
    let n = ap length are in
    let low = item_lower g args i a (omega (arith, n, l)) in
    let p = ap the_size is in
    let q = ap the_size (read ∙ ap (λ z. get_or z i a) are) in
    omega (arith, low, p, q)
