-- Types and clocks of a function together.
use Rattle.std.proofs.Common.{◌≡◌, ℕ, List, All, Some, get_or}
use Rattle.std.specs.List.{slice_get}
use Rattle.lt_base.specs.Expression.{Expression}
use Rattle.lt_base.specs.Program.{Function, GoodFunction}
use Rattle.lt_check.specs.Fitting.{FitsVariable, HasGoodClocks, IsTypedAndClocked}
use Rattle.lt_check.proofs.Found.{right_inside}
use Rattle.lt_check.proofs.TypeLemmas.{typed_from, typed_declared, typed_equated}
use Rattle.lt_check.proofs.ClockedLemmas.{clocked_from, clocked_equated, test_decides}

-- without good clocks
pub not_declared : (fs : List Function) (f : Function) → (HasGoodClocks f → ⊥) → IsTypedAndClocked fs f → ⊥
not_declared fs f never t = never (typed_declared fs f t.0, λ x l. t.1.clocks x)

module _ (fs : List Function) (f : Function) (good : All GoodFunction fs) (own : GoodFunction f) where
  -- every equation fits
  pub all_fit : HasGoodClocks f → All (FitsVariable fs f.decls) f.eqs → IsTypedAndClocked fs f
  all_fit d a = (
    typed_from fs f d.0 (λ k q l. (a k q l).0),
    clocked_from fs f d.1 (λ k q l. (test_decides fs f good d.1 (get_or f.eqs k q) (own.rights k q l)).0 (a k q l).1),
  )

  -- an equation does not fit
  pub one_unfit : HasGoodClocks f → (k : ℕ) (q : ℕ × Expression) → slice_get f.eqs k ≡ Some q → (FitsVariable fs f.decls q → ⊥) → IsTypedAndClocked fs f → ⊥
  one_unfit d k q h never t = never (
    typed_equated fs f own t.0 k q h,
    (test_decides fs f good d.1 q (right_inside f own k q h)).1 (clocked_equated fs f own t.1 k q h),
  )
