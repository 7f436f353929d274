-- Dependencies within an instant.
use Rattle.std.specs.Prelude.{◌≡◌, ℕ, Bool, true, Option, Some, None, List, [], ◌∷◌, ◌++◌, nat_eq}
use Rattle.std.specs.List.{All, list_any}
use Rattle.lt_base.specs.Expression.{Expression, literal, variable, unary, binary, imported, choose, sampled, merged, delayed, follow, arrow, call, Arguments, no_arguments, argument}
use Rattle.lt_base.specs.Program.{Function, WholeProgram}
use Rattle.lt_base.specs.Meaning.{ClockPairs, clock_of, right_of}
use Rattle.lt_base.specs.Graph.{NoClosedWalk}

-- the variables read outside the right side of every delay, in text order
abbrev mutual
  pub reads : Expression → List ℕ
  reads (literal v) = []
  reads (variable x) = x ∷ []
  reads (unary o a) = reads a
  reads (binary o a b) = reads a ++ reads b
  reads (imported o a b) = reads a ++ reads b
  reads (choose c a b) = reads c ++ (reads a ++ reads b)
  reads (sampled e c b) = reads e ++ c ∷ []
  reads (merged c a b) = c ∷ (reads a ++ reads b)
  reads (delayed v e) = []
  reads (follow a b) = reads a
  reads (arrow a b) = reads a ++ reads b
  reads (call g args) = arguments_reads args

  pub arguments_reads : Arguments → List ℕ
  arguments_reads no_arguments = []
  arguments_reads (argument e args) = reads e ++ arguments_reads args

-- the variables of a clock
abbrev pub clock_vars : ClockPairs → List ℕ
clock_vars [] = []
clock_vars ((c, b) ∷ ck) = c ∷ clock_vars ck

abbrev pub has : ℕ → List ℕ → Bool
has y xs = list_any (nat_eq y) xs

abbrev pub dependencies_of : Option Expression → ClockPairs → List ℕ
dependencies_of None ck = []
dependencies_of (Some e) ck = reads e ++ clock_vars ck

-- what a variable depends on: what its equation reads outside the right side of every delay, and its clock variables
abbrev pub dependencies : Function → ℕ → List ℕ
dependencies f x = dependencies_of (right_of f.eqs x) (clock_of f.decls x)

-- x depends on y
abbrev pub Depends : Function → ℕ → ℕ → Type 0
Depends f x y = has y (dependencies f x) ≡ true

-- no walk of dependencies is closed
abbrev pub Causal : Function → Type 0
Causal f = NoClosedWalk (Depends f)

-- every function of a program is causal
abbrev pub CausalProgram : WholeProgram → Type 0
CausalProgram p = All Causal p.funcs
