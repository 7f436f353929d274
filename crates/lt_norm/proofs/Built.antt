-- The normal form that the parts make.
use Rattle.std.proofs.Common.{◌≡◌, ℕ, List, [], ◌++◌, sym, ap, ◌∙◌, subst}
use Rattle.lt_base.specs.declared.function.Decl.{Decl}
use Rattle.lt_base.specs.Expression.{Expression}
use Rattle.lt_base.specs.Program.{Function, GoodFunction}
use Rattle.lt_base.specs.Typing.{TypedFunction}
use Rattle.lt_base.specs.Clocking.{ClockedFunction}
use Rattle.lt_base.specs.Dependence.{Causal}
use Rattle.lt_norm.specs.Lift.{normal_form}
use Rattle.lt_norm.specs.Flat.{FlatFunction}
use Rattle.lt_norm.specs.NormalForm.{NormalFormOf}
use Rattle.lt_norm.specs.Walk.{AllLifted}
use Rattle.lt_norm.proofs.NormalForms.{normal_good, normal_flat, normal_is}

module _ (f F : Function) (o : List ℕ) (view : f ≡ F) (good : GoodFunction f) (typed : TypedFunction [] F) (clocked : ClockedFunction [] F) (causal : Causal F) where
  f_typed : TypedFunction [] f
  f_typed = subst (λ (g : Function). TypedFunction [] g) (sym view) typed

  f_clocked : ClockedFunction [] f
  f_clocked = subst (λ (g : Function). ClockedFunction [] g) (sym view) clocked

  f_causal : Causal f
  f_causal = subst (λ (g : Function). Causal g) (sym view) causal

  module _ (decls decls' : List Decl) (all all' eqs new : List (ℕ × Expression)) (origins : List ℕ) (a : AllLifted f.decls o f.eqs decls' eqs new origins) (d : decls ≡ decls') (e' : all ≡ all') (e : all' ≡ eqs ++ new) where
    abbrev made : Function
    made = record { name = f.name; decls = decls; n_in = f.n_in; outs = f.outs; eqs = all }

    made_is : made ≡ normal_form f
    made_is = λ i. record {
      name = f.name;
      decls = (d ∙ a.decls) i;
      n_in = f.n_in;
      outs = f.outs;
      eqs = (e' ∙ e ∙ (λ j. a.eqs_are j ++ a.new_are j)) i;
    }

    pub made_good : GoodFunction made
    made_good = subst GoodFunction (sym made_is) (normal_good f good f_typed f_clocked f_causal)

    pub made_flat : (g : Function) → g ≡ made → FlatFunction g
    made_flat g p = subst FlatFunction (sym (p ∙ made_is)) (normal_flat f good f_typed f_clocked f_causal)

    pub made_form : (g : Function) → g ≡ made → g ≡ normal_form F
    made_form g p = p ∙ made_is ∙ ap normal_form view

    pub made_keeps : (g : Function) → g ≡ made → (os : List ℕ) → os ≡ origins → NormalFormOf F o g os
    made_keeps g p os q =
        subst (λ (h : Function). NormalFormOf h o g os) view
        (subst (λ (g : Function). NormalFormOf f o g os) (sym (p ∙ made_is))
        (subst (λ os. NormalFormOf f o (normal_form f) os) (sym (q ∙ a.origins_are)) (normal_is f good f_typed f_clocked f_causal o)))
