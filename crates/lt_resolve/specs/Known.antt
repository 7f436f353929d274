-- Terms all of whose names have numbers.
use Rattle.std.specs.Prelude.{◌≡◌, ℕ, true, is_some, Option, Some, None, List}
use Rattle.lt_base.specs.declared.operators.Imp.{Imp}
use Rattle.lt_base.specs.Expression.{Expression, imported, call, Arguments, no_arguments, argument}
use Rattle.lt_syntax.specs.Tree.{Tm, Lit, Var, Unary, Binary, Choice, Sampled, Merged, Delayed, Followed, Arrow, Call, Tms, Nil, Cons}
use Rattle.lt_resolve.specs.Names.{Name, number_of_name}
use Rattle.lt_resolve.specs.declared.expression.Callee.{Callee}
use Rattle.lt_resolve.specs.declared.expression.Callee.TheVariants.{Function, Operator}
use Rattle.lt_resolve.specs.Named.{operator_of, IsNamed, AreNamed}
use Rattle.lt_resolve.specs.Uses.{term_count}

-- the name has a number
abbrev pub HasNumber : List Name → Name → Type 0
HasNumber names x = is_some (number_of_name names x) ≡ true

-- a function is called, or an imported operator with its two arguments
abbrev pub IsCallable : Option ℕ → Option Imp → ℕ → Type 0
IsCallable (Some g) o n = Unit {0}
IsCallable None (Some o) n = n ≡ 2
IsCallable None None n = ⊥

-- each name in a term is declared, and each imported operator has two arguments
abbrev mutual
  pub IsKnown : List Name → List Name → Tm → Type 0
  IsKnown vars funcs (Lit v) = Unit {0}
  IsKnown vars funcs (Var x) = HasNumber vars x
  IsKnown vars funcs (Unary o a) = IsKnown vars funcs a
  IsKnown vars funcs (Binary o a b) = IsKnown vars funcs a × IsKnown vars funcs b
  IsKnown vars funcs (Choice c a b) = IsKnown vars funcs c × IsKnown vars funcs a × IsKnown vars funcs b
  IsKnown vars funcs (Sampled a c t) = IsKnown vars funcs a × HasNumber vars c
  IsKnown vars funcs (Merged c a b) = HasNumber vars c × IsKnown vars funcs a × IsKnown vars funcs b
  IsKnown vars funcs (Delayed v a) = IsKnown vars funcs a
  IsKnown vars funcs (Followed a b) = IsKnown vars funcs a × IsKnown vars funcs b
  IsKnown vars funcs (Arrow a b) = IsKnown vars funcs a × IsKnown vars funcs b
  IsKnown vars funcs (Call f args) = IsCallable (number_of_name funcs f) (operator_of f) (term_count args) × AreKnown vars funcs args

  pub AreKnown : List Name → List Name → Tms → Type 0
  AreKnown vars funcs Nil = Unit {0}
  AreKnown vars funcs (Cons a args) = IsKnown vars funcs a × AreKnown vars funcs args

-- the expression is the operator on these arguments
abbrev pub IsOperation : Imp → Arguments → Expression → Type 0
IsOperation o es (imported p d e) = (p ≡ o) × (es ≡ argument d (argument e no_arguments))
IsOperation o es _ = ⊥

-- the name is a function's, or that of the imported operator and no function's
abbrev pub StandsFor : List Name → Name → Callee → Type 0
StandsFor funcs f (Function g) = number_of_name funcs f ≡ Some g
StandsFor funcs f (Operator o) = (number_of_name funcs f ≡ None) × (operator_of f ≡ Some o)

-- the expression is the call of the function on these arguments, or the imported operator on them where they are two
abbrev pub IsCalled : Callee → ℕ → Arguments → Expression → Type 0
IsCalled (Function g) n es (call h ds) = (h ≡ g) × (ds ≡ es)
IsCalled (Function g) n es _ = ⊥
IsCalled (Operator o) n es e = n ≡ 2 → IsOperation o es e

-- the expression is the term, in which each variable and each function has its number, if each imported operator has two arguments
abbrev pub IsTranslated : List Name → List Name → Tm → Expression → Type 0
IsTranslated vars funcs a e = IsKnown vars funcs a → IsNamed vars funcs a e

abbrev pub AreTranslated : List Name → List Name → Tms → Arguments → Type 0
AreTranslated vars funcs args es = AreKnown vars funcs args → AreNamed vars funcs args es
