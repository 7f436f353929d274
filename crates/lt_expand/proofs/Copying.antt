-- What a copy of a function asks for.
use Rattle.std.proofs.Common.{◌≡◌, ℕ, ◌+◌, ◌-◌, ◌^◌, ◌<◌, length, get_or, All, Vec, Global, ap, ◌∙◌, subst, arith}
use Rattle.lt_base.specs.declared.expression.Expr.{Expr, Call}
use Rattle.lt_base.specs.Expression.{shape}
use Rattle.lt_base.specs.Program.{Function, GoodFunction, VarsBelow}
use Rattle.lt_base.specs.Calls.{EachCall}
use Rattle.lt_base.proofs.Shape.{shape-Call}
use Rattle.lt_base.proofs.Lookups.{all_found, left_below, below_more}
use Rattle.lt_expand.proofs.Basics.{all_equations}

-- no call is left
pub no_call : (P : ℕ → Type 0) (e : Expr) (g : ℕ) (args : Vec Expr Global) → e ≡ Call g args → EachCall P (shape e) → P g
no_call P e g args is c = (subst (EachCall P) (ap shape is ∙ shape-Call g args) c).0

-- the numbers in a copy have room
module _ (F : Function) (good : GoodFunction F) (m : ℕ) (room : m + length F.decls < 2 ^ 32) where
  pub lefts_fit : All (λ q. q.0 + m < 2 ^ 32) F.eqs
  lefts_fit = all_equations (λ x e. x + m < 2 ^ 32) F F.eqs (all_found F good) (λ x e h. let l = left_below F good x e h in omega (arith, l, room))

  pub rights_fit : All (λ q. VarsBelow (2 ^ 32 - m) q.1) F.eqs
  rights_fit i q l = below_more (length F.decls) (2 ^ 32 - m) (omega (arith, room)) (get_or F.eqs i q).1 (good.rights i q l)
