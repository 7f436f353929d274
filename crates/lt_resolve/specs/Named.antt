-- The program of a tree: each name replaced by the number of its declaration.
use Rattle.std.specs.Prelude.{◌≡◌, ℕ, suc, zero, Bool, Option, Some, None, List, [], ◌∷◌, length, reverse, codes, if◌then◌else◌}
use Rattle.std.specs.Str.{bytes_eq}
use Rattle.lt_base.specs.declared.operators.Imp.{Imp}
use Rattle.lt_base.specs.declared.operators.Imp.TheVariants.{Min, Max, Gcd}
use Rattle.lt_base.specs.declared.function.Decl.{Decl}
use Rattle.lt_base.specs.Expression.{Expression, literal, variable, unary, binary, imported, choose, sampled, merged, delayed, follow, arrow, call, Arguments, no_arguments, argument}
use Rattle.lt_base.specs.Program.{Function, WholeProgram}
use Rattle.lt_syntax.specs.declared.tree.DeclText.{DeclText}
use Rattle.lt_syntax.specs.declared.tree.NodeText.{NodeText}
use Rattle.lt_syntax.specs.Tree.{Tm, Lit, Var, Unary, Binary, Choice, Sampled, Merged, Delayed, Followed, Arrow, Call, Tms, Nil, Cons}
use Rattle.lt_resolve.specs.Names.{Name, number_of_name}
use Rattle.lt_resolve.specs.Scopes.{declarations, variables, functions}

-- the imported operator of this name, if there is one
abbrev pub operator_of : Name → Option Imp
operator_of f =
    if bytes_eq f (codes "min") then Some Min else (if bytes_eq f (codes "max") then Some Max else (if bytes_eq f (codes "gcd") then Some Gcd else None))

-- the expression is the term, in which each variable and each function has its number;
-- a called name without a function is the imported operator of that name
abbrev mutual
  pub IsNamed : List Name → List Name → Tm → Expression → Type 0
  IsNamed vars funcs (Lit v) (literal w) = w ≡ v
  IsNamed vars funcs (Var x) (variable i) = number_of_name vars x ≡ Some i
  IsNamed vars funcs (Unary o a) (unary p e) = (p ≡ o) × IsNamed vars funcs a e
  IsNamed vars funcs (Binary o a b) (binary p d e) = (p ≡ o) × IsNamed vars funcs a d × IsNamed vars funcs b e
  IsNamed vars funcs (Choice c a b) (choose h d e) = IsNamed vars funcs c h × IsNamed vars funcs a d × IsNamed vars funcs b e
  IsNamed vars funcs (Sampled a c t) (sampled e i u) = IsNamed vars funcs a e × (number_of_name vars c ≡ Some i) × (u ≡ t)
  IsNamed vars funcs (Merged c a b) (merged i d e) = (number_of_name vars c ≡ Some i) × IsNamed vars funcs a d × IsNamed vars funcs b e
  IsNamed vars funcs (Delayed v a) (delayed w e) = (w ≡ v) × IsNamed vars funcs a e
  IsNamed vars funcs (Followed a b) (follow d e) = IsNamed vars funcs a d × IsNamed vars funcs b e
  IsNamed vars funcs (Arrow a b) (arrow d e) = IsNamed vars funcs a d × IsNamed vars funcs b e
  IsNamed vars funcs (Call f args) (call g es) = (number_of_name funcs f ≡ Some g) × AreNamed vars funcs args es
  IsNamed vars funcs (Call f args) (imported o d e) = (number_of_name funcs f ≡ None) × (operator_of f ≡ Some o) × AreNamed vars funcs args (argument d (argument e no_arguments))
  IsNamed vars funcs _ _ = ⊥

  pub AreNamed : List Name → List Name → Tms → Arguments → Type 0
  AreNamed vars funcs Nil no_arguments = Unit {0}
  AreNamed vars funcs (Cons a args) (argument e es) = IsNamed vars funcs a e × AreNamed vars funcs args es
  AreNamed vars funcs _ _ = ⊥

-- two lists of one length, each element related to the one at its place
abbrev pub Along : {A B : Type 0} → (A → B → Type 0) → List A → List B → Type 0
Along R [] [] = Unit {0}
Along R (x ∷ xs) (y ∷ ys) = R x y × Along R xs ys
Along R _ _ = ⊥

-- a pair of a clock with the number of its variable
abbrev pub IsPair : List Name → Name × Bool → ℕ × Bool → Type 0
IsPair vars p q = (number_of_name vars p.0 ≡ Some q.0) × (q.1 ≡ p.1)

-- the declaration has the same name and type, and its clock the numbers of the same variables, innermost first
pub record IsDeclared (vars : List Name) (d : DeclText) (e : Decl) : Type 0 where
  pub name : e.name ≡ d.name
  pub ty : e.ty ≡ d.ty
  pub clock : Along (IsPair vars) d.clock (reverse e.clock)

-- an equation with the number of its variable
abbrev pub IsNamedEquation : List Name → List Name → Name × Tm → ℕ × Expression → Type 0
IsNamedEquation vars funcs q e = (number_of_name vars q.0 ≡ Some e.0) × IsNamed vars funcs q.1 e.1

-- as many numbers, from the first on
abbrev pub numbers_from : ℕ → ℕ → List ℕ
numbers_from first zero = []
numbers_from first (suc n) = first ∷ numbers_from (suc first) n

-- the function is the node: inputs, then outputs, then locals have the numbers from 0 on
pub record IsFunction (funcs : List Name) (n : NodeText) (f : Function) : Type 0 where
  pub name : f.name ≡ n.name
  pub decls : Along (IsDeclared (variables n)) (declarations n) f.decls
  pub n_in : f.n_in ≡ length n.ins
  pub outs : f.outs ≡ numbers_from (length n.ins) (length n.outs)
  pub eqs : Along (IsNamedEquation (variables n) funcs) n.eqs f.eqs

-- the name of the function that is run
abbrev pub main : Name
main = codes "main"

-- the program is the tree, in which each name is replaced by the number of its declaration, functions in text order
pub record Named (t : List NodeText) (p : WholeProgram) : Type 0 where
  pub funcs : Along (IsFunction (functions t)) t p.funcs
  pub main : number_of_name (functions t) main ≡ Some p.main
