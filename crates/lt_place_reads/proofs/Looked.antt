-- What is looked at in an equation.
use Rattle.std.proofs.Common.{◌≡◌, ℕ, ◌<◌, Bool, true, false, List, [], ◌∷◌, ◌++◌, length, reverse, get_or, refl, sym, ap, ◌∙◌, arith}
use Rattle.std.specs.Prelude.{IsTrue, ◌↔◌}
use Rattle.std.proofs.lemmas.List.{length-reverse}
use Rattle.lt_base.specs.declared.function.Decl.{Decl}
use Rattle.lt_base.specs.Expression.{Expression}
use Rattle.lt_base.specs.Meaning.{ClockPairs, clock_of}
use Rattle.lt_base.specs.Dependence.{clock_vars}
use Rattle.lt_norm.specs.Flat.{Originated}
use Rattle.lt_place_reads.specs.declared.look.Look.{Look}
use Rattle.lt_place_reads.specs.declared.look.Look.TheVariants.{Clocks, Direct, Slow}
use Rattle.lt_place_reads.specs.Origins.{variable_count}
use Rattle.lt_place_reads.specs.Reads.{direct_reads, delayed_reads, unless_base, looked}
use Rattle.lt_place_reads.proofs.Decls.{clock_get}

no_steps : (steps : List (ℕ × Bool)) → reverse steps ≡ [] → steps ≡ []
no_steps [] h = refl
no_steps (p ∷ steps) h = let e = length-reverse (p ∷ steps) in let l = ap length h in absurd (omega (arith, e, l))

pub unless_at : (ck : ClockPairs) (steps : List (ℕ × Bool)) (b : Bool) → (IsTrue b ↔ (steps ≡ [])) → b ≡ false → reverse steps ≡ ck → (ys : List ℕ) → unless_base ck ys ≡ ys
unless_at [] steps b h f e ys = let t : b ≡ true = h.1 (no_steps steps e) in absurd (cc)
unless_at (p ∷ ck) steps b h f e ys = refl

module _ (f : Originated) (x : ℕ) (e : Expression) (decls : List Decl) (d : Decl) (left : ℕ) (ds : decls ≡ f.func.decls) (l : left ≡ x) (inside : x < variable_count f) where
  abbrev ck : ClockPairs
  ck = (get_or decls left d).clock

  clock_is : ck ≡ clock_of f.func.decls x
  clock_is = (λ i. (get_or (ds i) (l i) d).clock) ∙ sym (clock_get f.func.decls x d inside)

  module _ (look : Look) (none ys : List ℕ) (n : none ≡ []) where
    pub looked_clocks : look ≡ Clocks → ys ≡ none ++ clock_vars ck → ys ≡ looked look f x e
    looked_clocks k h = h ∙ (λ i. n i ++ clock_vars (clock_is i)) ∙ ap (λ k. looked k f x e) (sym k)

    pub looked_direct : (right : Expression) → right ≡ e → look ≡ Direct → ys ≡ none ++ direct_reads right → ys ≡ looked look f x e
    looked_direct right r k h = h ∙ (λ i. n i ++ direct_reads (r i)) ∙ ap (λ k. looked k f x e) (sym k)

    pub looked_slow : (right : Expression) → right ≡ e → look ≡ Slow → ys ≡ none ++ unless_base ck (delayed_reads right) → ys ≡ looked look f x e
    looked_slow right r k h = h ∙ (λ i. n i ++ unless_base (clock_is i) (delayed_reads (r i))) ∙ ap (λ k. looked k f x e) (sym k)
