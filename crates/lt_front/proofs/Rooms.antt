-- The functions of a program are those of its tree.
use Rattle.std.proofs.Common.{◌≡◌, ℕ, zero, suc, ◌<◌, ◌≤◌, List, [], ◌∷◌, length, get_or, refl, sym, ap, subst, arith}
use Rattle.std.specs.Prelude.{◌^◌, MatchOption}
use Rattle.std.specs.List.{All}
use Rattle.std.proofs.lemmas.List.Elements.{All-nil, All-cons, All-head, All-tail, All-weaker}
use Rattle.lt_base.specs.Program.{Function, WholeProgram}
use Rattle.lt_base.specs.Meaning.{function_of}
use Rattle.lt_base.specs.Dependence.{Causal, CausalProgram}
use Rattle.lt_cause.specs.Orders.{IsLeastCycle}
use Rattle.lt_syntax.specs.declared.tree.NodeText.{NodeText}
use Rattle.lt_resolve.specs.Names.{Name}
use Rattle.lt_resolve.specs.Named.{Along, IsFunction}
use Rattle.lt_resolve.specs.Resolves.{IsResolved}
use Rattle.lt_front.specs.Examined.{TreeNumbersFit}
use Rattle.lt_front.specs.Causality.{IsFirstCycle}
use Rattle.lt_front.proofs.Lengths.{IsFew}

along_length : {A B : Type 0} (R : A → B → Type 0) (xs : List A) (ys : List B) → Along R xs ys → length xs ≡ length ys
along_length R [] [] along = refl
along_length R [] (y ∷ ys) along = absurd along
along_length R (x ∷ xs) [] along = absurd along
along_length R (x ∷ xs) (y ∷ ys) along = ap suc (along_length R xs ys along.1)

equations_along : (funcs : List Name) (k : ℕ) (t : List NodeText) (fs : List Function) → Along (IsFunction funcs) t fs → All (λ n. length n.eqs < k) t → All (λ f. length f.eqs < k) fs
equations_along funcs k [] [] along few = All-nil (λ f. length f.eqs < k)
equations_along funcs k [] (f ∷ fs) along few = absurd along
equations_along funcs k (n ∷ t) [] along few = absurd along
equations_along funcs k (n ∷ t) (f ∷ fs) along few =
    let same = along_length _ n.eqs f.eqs along.0.eqs in
    let here : length n.eqs < k = All-head (λ (m : NodeText). length m.eqs < k) n t few in
    All-cons (λ g. length g.eqs < k) f fs (omega (arith, same, here)) (equations_along funcs k t fs along.1 (All-tail (λ (m : NodeText). length m.eqs < k) n t few))

-- the equations of a program are numbered in 32 bits, as those of its tree are
pub equations_fit : (t : List NodeText) (p : WholeProgram) → TreeNumbersFit t → IsResolved t p → All (λ f. length f.eqs < 2 ^ 32) p.funcs
equations_fit t p room resolved = equations_along _ (2 ^ 32) t p.funcs resolved.named.funcs room.equations

-- a text of fewer bytes has so few functions and equations
pub room_of : (n : ℕ) (t : List NodeText) → n < 2 ^ 32 → IsFew n t → TreeNumbersFit t
room_of n t short few = record { functions = omega (arith, few.functions, short); equations = All-weaker (λ (m : NodeText). length m.eqs ≤ n) (λ m. length m.eqs < 2 ^ 32) (λ m less. omega (arith, less, short)) t few.equations }

-- a fact of the function of a number
pub function_here : (P : Function → Type 0) (fs : List Function) (n : ℕ) (f : Function) → n < length fs → f ≡ get_or fs n f → P f → MatchOption (function_of fs n) ⊥ P
function_here P [] n f low is holds = absurd (omega (arith, low))
function_here P (g ∷ fs) zero f low is holds = subst P is holds
function_here P (g ∷ fs) (suc n) f low is holds = function_here P fs n f (omega (arith, low)) is holds

no_cycle : (fs : List Function) (n : ℕ) (vars : List ℕ) → MatchOption (function_of fs n) ⊥ (λ f. IsLeastCycle f vars) → All Causal fs → ⊥
no_cycle [] n vars here all = here
no_cycle (f ∷ fs) zero vars here all = All-head Causal f fs all vars here.closed
no_cycle (f ∷ fs) (suc n) vars here all = no_cycle fs n vars here (All-tail Causal f fs all)

-- where a function has a cycle, not all functions are causal
pub cycle_excludes : (p : WholeProgram) (n : ℕ) (vars : List ℕ) → IsFirstCycle p n vars → CausalProgram p → ⊥
cycle_excludes p n vars first all = no_cycle p.funcs n vars first.here all
