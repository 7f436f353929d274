-- What a program means.
use Rattle.std.specs.Prelude.{ℕ, zero, suc, Bool, true, false, ◌&&◌, ◌||◌, nat_eq, Option, Some, None, List, [], ◌∷◌, length, reverse, map, slice_index_or, if◌then◌else◌}
use Rattle.std.specs.Option.{option_and_then}
use Rattle.lt_base.specs.declared.value.Value.{Value}
use Rattle.lt_base.specs.declared.value.Value.TheVariants.{Int, Bool as Truth}
use Rattle.lt_base.specs.declared.value.Cell.{Cell}
use Rattle.lt_base.specs.declared.value.Cell.TheVariants.{Absent, Here}
use Rattle.lt_base.specs.Expression.{Expression, literal, variable, unary, binary, imported, choose, sampled, merged, delayed, follow, arrow, call, Arguments, no_arguments, argument}
use Rattle.lt_base.specs.declared.function.Decl.{Decl}
use Rattle.lt_base.specs.Program.{Function}
use Rattle.lt_base.specs.Operators.{op1, op2, imp_value}

-- a clock: variables with their polarities, innermost first
abbrev pub ClockPairs : Type 0
ClockPairs = List (ℕ × Bool)

-- the values at an instant, by variable
abbrev pub Environment : Type 0
Environment = ℕ → Option Value

-- the values of the inputs, in order
abbrev pub Row : Type 0
Row = List (Option Value)

-- the value of an input in a row
abbrev pub entry : Row → ℕ → Option Value
entry row x = slice_index_or row x None

-- the right side of a variable's equation
abbrev pub right_of : List (ℕ × Expression) → ℕ → Option Expression
right_of [] x = None
right_of ((y, e) ∷ eqs) x = if nat_eq x y then Some e else right_of eqs x

-- the declared clock of a variable
abbrev pub clock_of : List Decl → ℕ → ClockPairs
clock_of [] x = []
clock_of (d ∷ ds) zero = d.clock
clock_of (d ∷ ds) (suc x) = clock_of ds x

-- a truth value that is that one
abbrev pub is_truth : Option Value → Bool → Bool
is_truth (Some (Truth true)) b = b
is_truth (Some (Truth false)) true = false
is_truth (Some (Truth false)) false = true
is_truth (Some (Int n)) b = false
is_truth None b = false

-- whether a clock is present: each of its variables has the value that the clock asks for
abbrev pub present : Environment → ClockPairs → Bool
present env [] = true
present env ((c, b) ∷ ck) = present env ck && is_truth (env c) b

-- the clock before the innermost pair
abbrev pub outer : ClockPairs → ClockPairs
outer [] = []
outer (p ∷ ck) = ck

-- an operator of two operands, where both have a value
abbrev pub both : (Value → Value → Option Value) → Option Value → Option Value → Option Value
both f None o = None
both f (Some v) None = None
both f (Some v) (Some w) = f v w

-- the branch that a condition picks
abbrev pub pick : Option Value → Option Value → Option Value → Option Value
pick None a b = None
pick (Some (Int n)) a b = None
pick (Some (Truth true)) a b = a
pick (Some (Truth false)) a b = b

-- what f gives at the newest instant at which the clock is present, or the start where there is none
abbrev pub latest : ClockPairs → Option Value → (List Environment → Environment → Option Value) → List Environment → Option Value
latest ck start f [] = start
latest ck start f (env ∷ past) = if present env ck then f past env else latest ck start f past

-- whether the clock was present at one of these instants
abbrev pub was_present : ClockPairs → List Environment → Bool
was_present ck [] = false
was_present ck (env ∷ past) = present env ck || was_present ck past

-- what f gives at the instants at which the clock is present
abbrev pub rows_at : ClockPairs → (List Environment → Environment → Row) → List Environment → List Row
rows_at ck f [] = []
rows_at ck f (env ∷ past) = if present env ck then f past env ∷ rows_at ck f past else rows_at ck f past

-- the value of a function's output at the last of these rows, newest first
abbrev pub Callee : Type 0
Callee = ℕ → List Row → Option Value

-- an expression at a clock, after these instants, newest first, and at this one
abbrev mutual
  pub value_of : Callee → Expression → ClockPairs → List Environment → Environment → Option Value
  value_of callee (literal v) ck past cur = Some v
  value_of callee (variable x) ck past cur = cur x
  value_of callee (unary o a) ck past cur = option_and_then (op1 o) (value_of callee a ck past cur)
  value_of callee (binary o a b) ck past cur = both (op2 o) (value_of callee a ck past cur) (value_of callee b ck past cur)
  value_of callee (imported o a b) ck past cur = both (imp_value o) (value_of callee a ck past cur) (value_of callee b ck past cur)
  value_of callee (choose c a b) ck past cur =
      pick (value_of callee c ck past cur) (value_of callee a ck past cur) (value_of callee b ck past cur)
  value_of callee (sampled e c b) ck past cur = value_of callee e (outer ck) past cur
  value_of callee (merged c a b) ck past cur =
      pick (cur c) (value_of callee a ((c, true) ∷ ck) past cur) (value_of callee b ((c, false) ∷ ck) past cur)
  value_of callee (delayed v e) ck past cur = latest ck (Some v) (value_of callee e ck) past
  value_of callee (follow a b) ck past cur = latest ck (value_of callee a ck past cur) (value_of callee b ck) past
  value_of callee (arrow a b) ck past cur =
      if was_present ck past then value_of callee b ck past cur else value_of callee a ck past cur
  value_of callee (call g args) ck past cur =
      callee g (values_of callee args ck past cur ∷ rows_at ck (values_of callee args ck) past)

  pub values_of : Callee → Arguments → ClockPairs → List Environment → Environment → Row
  values_of callee no_arguments ck past cur = []
  values_of callee (argument e args) ck past cur = value_of callee e ck past cur ∷ values_of callee args ck past cur

-- a variable's value: by its equation, or the one given where it has none
abbrev pub given : Option Expression → Option Value → (Expression → Option Value) → Option Value
given None v f = v
given (Some e) v f = f e

-- the values of a function's variables at an instant, with that many unfoldings
abbrev pub valuation : Callee → Function → List Environment → Row → ℕ → Environment
valuation callee f past row zero x = given (right_of f.eqs x) (entry row x) (λ e. None)
valuation callee f past row (suc n) x =
    given (right_of f.eqs x) (entry row x) (λ e. value_of callee e (clock_of f.decls x) past (valuation callee f past row n))

-- the values at the instants of these rows, newest first, with as many unfoldings as there are equations
abbrev pub environments : Callee → Function → List Row → List Environment
environments callee f [] = []
environments callee f (row ∷ rows) = let past = environments callee f rows in valuation callee f past row (length f.eqs) ∷ past

-- the value of the first output at the newest instant
abbrev pub answer : List ℕ → List Environment → Option Value
answer [] es = None
answer (y ∷ ys) [] = None
answer (y ∷ ys) (env ∷ es) = env y

-- the function of a number
abbrev pub function_of : List Function → ℕ → Option Function
function_of [] g = None
function_of (f ∷ fs) zero = Some f
function_of (f ∷ fs) (suc g) = function_of fs g

-- a call with that many nested calls left
abbrev pub calls : List Function → ℕ → Callee
calls fs zero g rows = None
calls fs (suc n) g rows = option_and_then (λ f. answer f.outs (environments (calls fs n) f rows)) (function_of fs g)

-- a value as a cell
abbrev pub here : Option Value → Cell
here None = Absent
here (Some v) = Here v

-- a variable's cell at an instant
abbrev pub cell : Environment → ClockPairs → ℕ → Cell
cell env ck x = if present env ck then here (env x) else Absent

-- the stream of a variable of a function on these rows, oldest first
abbrev pub stream_of : List Function → Function → List (List Value) → ℕ → List Cell
stream_of fs f rows x =
    reverse (map (λ env. cell env (clock_of f.decls x) x) (environments (calls fs (length fs)) f (reverse (map (map Some) rows))))
