-- The left sides of the equations of a function are its variables.
use Rattle.std.proofs.Common.{◌≡◌, ℕ, ◌<◌, List, length, get_or, sym, ap, ◌∙◌, subst, arith, All}
use Rattle.lt_base.specs.Expression.{Expression}
use Rattle.lt_base.specs.Program.{GoodFunction}
use Rattle.lt_norm.specs.Flat.{Originated}
use Rattle.lt_norm.proofs.Loop.{lefts_inside}
use Rattle.lt_place_reads.specs.Origins.{variable_count}

module _ (f : Originated) (good : GoodFunction f.func) where
  pub lefts_below : All (λ q. q.0 < variable_count f) f.func.eqs
  lefts_below = lefts_inside f.func good

  pub left_inside : (q : ℕ × Expression) (items : List (ℕ × Expression)) (i : ℕ) → items ≡ f.func.eqs → i < length items → q ≡ get_or items i q → q.0 < variable_count f
  left_inside q items i e l r =
      let here : q ≡ get_or f.func.eqs i q = r ∙ ap (λ qs. get_or qs i q) e in
      let k : i < length f.func.eqs = let z = ap length e in omega (arith, z, l) in
      subst (λ (q : ℕ × Expression). q.0 < variable_count f) (sym here) (lefts_below i q k)
