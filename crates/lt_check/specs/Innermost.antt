-- A well-formed clock is told by its innermost pair.
use Rattle.std.specs.Prelude.{◌≡◌, ℕ, ◌<◌, ◌&&◌, Bool, true, false, nat_eq, is_none, Option, Some, None, List, [], ◌∷◌, length, slice_index_or, MatchBool}
use Rattle.lt_base.specs.declared.function.Decl.{Decl}
use Rattle.lt_base.specs.Expression.{Expression, literal, variable, unary, binary, imported, choose, sampled, merged, delayed, follow, arrow, call, Arguments, no_arguments, argument}
use Rattle.lt_base.specs.Operators.{bool_eq}
use Rattle.lt_base.specs.Program.{Function}
use Rattle.lt_base.specs.Meaning.{ClockPairs, clock_of, function_of}

-- the innermost pair of a clock
abbrev pub innermost : ClockPairs → Option (ℕ × Bool)
innermost [] = None
innermost (p ∷ ck) = Some p

-- the clock that ends in the pair, by the declared clock of the pair's variable
abbrev pub clock_to : List Decl → Option (ℕ × Bool) → ClockPairs
clock_to ds None = []
clock_to ds (Some p) = p ∷ clock_of ds p.0

-- the clock without its innermost pair is the declared clock of that pair's variable
abbrev pub Linked : List Decl → ClockPairs → Type 0
Linked ds [] = Unit {0}
Linked ds ((c, b) ∷ ck) = (c < length ds) × (clock_of ds c ≡ ck)

-- the table tells of each variable whether its declared clock is linked
pub record TellsLinks (ds : List Decl) (table : List Bool) : Type 0 where
  pub size : length table ≡ length ds
  pub tells : (x : ℕ) → x < length ds → MatchBool (slice_index_or table x false) (Linked ds (clock_of ds x)) (Linked ds (clock_of ds x) → ⊥)

-- whether two innermost pairs are the same
abbrev pub same_pair : Option (ℕ × Bool) → Option (ℕ × Bool) → Bool
same_pair None None = true
same_pair None (Some q) = false
same_pair (Some p) None = false
same_pair (Some p) (Some q) = nat_eq p.0 q.0 && bool_eq p.1 q.1

-- whether the first output is on the base clock
abbrev pub first_on_base : List Decl → List ℕ → Bool
first_on_base ds [] = false
first_on_base ds (y ∷ ys) = is_none (innermost (clock_of ds y))

-- whether a called function answers on its base clock
abbrev pub answers_on_base : Option Function → Bool
answers_on_base None = false
answers_on_base (Some f) = first_on_base f.decls f.outs

-- whether an expression is at the clock with that innermost pair
abbrev mutual
  pub is_at : List Function → List Decl → Expression → Option (ℕ × Bool) → Bool
  is_at fs ds (literal v) pair = true
  is_at fs ds (variable x) pair = same_pair (innermost (clock_of ds x)) pair
  is_at fs ds (unary o a) pair = is_at fs ds a pair
  is_at fs ds (binary o a b) pair = is_at fs ds a pair && is_at fs ds b pair
  is_at fs ds (imported o a b) pair = is_at fs ds a pair && is_at fs ds b pair
  is_at fs ds (choose c a b) pair = is_at fs ds c pair && is_at fs ds a pair && is_at fs ds b pair
  is_at fs ds (sampled e c b) pair = same_pair pair (Some (c, b)) && is_at fs ds e (innermost (clock_of ds c))
  is_at fs ds (merged c a b) pair = same_pair (innermost (clock_of ds c)) pair && is_at fs ds a (Some (c, true)) && is_at fs ds b (Some (c, false))
  is_at fs ds (delayed v e) pair = is_at fs ds e pair
  is_at fs ds (follow a b) pair = is_at fs ds a pair && is_at fs ds b pair
  is_at fs ds (arrow a b) pair = is_at fs ds a pair && is_at fs ds b pair
  is_at fs ds (call g args) pair = answers_on_base (function_of fs g) && arguments_at fs ds args pair

  pub arguments_at : List Function → List Decl → Arguments → Option (ℕ × Bool) → Bool
  arguments_at fs ds no_arguments pair = true
  arguments_at fs ds (argument e args) pair = is_at fs ds e pair && arguments_at fs ds args pair
