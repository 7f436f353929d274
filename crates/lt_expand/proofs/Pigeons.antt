-- A good function has no more equations than variables.
use Rattle.std.proofs.Common.{◌≡◌, ℕ, zero, suc, ◌+◌, ◌<◌, ◌≤◌, Bool, true, false, cond, List, [], ◌∷◌, length, All, refl, sym, ap, ◌∙◌, subst, arith, eqb-true}
use Rattle.std.specs.Prelude.{nat_eq}
use Rattle.std.proofs.lemmas.List.Elements.{All-head, All-tail}
use Rattle.std.proofs.lemmas.Bool.Decides.{nat_tests}
use Rattle.lt_base.specs.Expression.{Expression}
use Rattle.lt_base.specs.Program.{Function, GoodFunction}
use Rattle.lt_base.specs.Equations.{left_count}
use Rattle.lt_base.proofs.Lookups.{lefts_cons, inside_most, all_found, left_below}
use Rattle.lt_expand.proofs.Basics.{all_equations}

-- how many of the equations have a number below n
abbrev low_lefts : ℕ → List (ℕ × Expression) → ℕ
low_lefts zero eqs = 0
low_lefts (suc n) eqs = left_count n eqs + low_lefts n eqs

low_none : (n : ℕ) → low_lefts n [] ≡ 0
low_none zero = refl
low_none (suc n) = let h = low_none n in omega (arith, h)

low_past : (n : ℕ) (q : ℕ × Expression) (qs : List (ℕ × Expression)) → n ≤ q.0 → low_lefts n (q ∷ qs) ≡ low_lefts n qs
low_past zero q qs h = refl
low_past (suc n) q qs h =
    let other : nat_eq n q.0 ≡ false = not_equal n q.0 h in
    let c = lefts_cons n q qs ∙ ap (λ b. cond b 1 0 + left_count n qs) other in
    let r = low_past n q qs (omega (arith, h)) in
    omega (arith, c, r)
  where
    not_equal : (n m : ℕ) → suc n ≤ m → nat_eq n m ≡ false
    not_equal n m h = grind (arith, nat_tests)

low_more : (n : ℕ) (q : ℕ × Expression) (qs : List (ℕ × Expression)) → q.0 < n → low_lefts n (q ∷ qs) ≡ suc (low_lefts n qs)
low_more zero q qs h = absurd (omega arith)
low_more (suc n) q qs h =
    let go : (t : Bool) → nat_eq n q.0 ≡ t → low_lefts (suc n) (q ∷ qs) ≡ suc (low_lefts (suc n) qs) =
    elim [
      | true ↦ λ t.
          let e = eqb-true n q.0 t in
          let c = lefts_cons n q qs ∙ ap (λ b. cond b 1 0 + left_count n qs) t in
          let r = low_past n q qs (omega (arith, e)) in
          omega (arith, c, r)
      | false ↦ λ t.
          let c = lefts_cons n q qs ∙ ap (λ b. cond b 1 0 + left_count n qs) t in
          let r = low_more n q qs (below n q.0 h t) in
          omega (arith, c, r)
    ] in
    go (nat_eq n q.0) refl
  where
    below : (n m : ℕ) → m < suc n → nat_eq n m ≡ false → m < n
    below n m h t = grind (arith, nat_tests)

low_all : (n : ℕ) (qs : List (ℕ × Expression)) → All (λ q. q.0 < n) qs → low_lefts n qs ≡ length qs
low_all n [] a = low_none n
low_all n (q ∷ qs) a = low_more n q qs (All-head (λ q. q.0 < n) q qs a) ∙ ap suc (low_all n qs (All-tail (λ q. q.0 < n) q qs a))

low_once : (n : ℕ) (qs : List (ℕ × Expression)) → ((x : ℕ) → left_count x qs ≤ 1) → low_lefts n qs ≤ n
low_once zero qs m = omega arith
low_once (suc n) qs m = let h = low_once n qs m in let k = m n in omega (arith, h, k)

pub equations_few : (f : Function) → GoodFunction f → length f.eqs ≤ length f.decls
equations_few f good =
    let inside_all = all_equations (λ x e. x < length f.decls) f f.eqs (all_found f good) (λ x e h. left_below f good x e h) in
    let all = low_all (length f.decls) f.eqs inside_all in
    let few = low_once (length f.decls) f.eqs (λ x. subst (λ k. k ≤ 1) (sym (good.lefts x)) (inside_most f.n_in (length f.decls) x)) in
    omega (arith, all, few)
