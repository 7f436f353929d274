-- What the subset of C means: what a C compiler makes of it.
use Rattle.std.specs.Prelude.{◌≡◌, nat_eq, Bool, true, false, not, ◌&&◌, ◌||◌, ℤ, pos, ◌+ℤ◌, ◌-ℤ◌, ◌*ℤ◌, neg_ℤ, nat_abs, int_lt, int_le, [], ◌∷◌, if◌then◌else◌}
use Rattle.lt_base.specs.Operators.{wrap, int_eq, quotient, remainder, gcd}
use Rattle.lt_base.specs.Meaning.{ClockPairs}
use Rattle.lt_c.specs.Tree.{CVariable, slot, tag, same, Helper, h_add, h_sub, h_mul, h_div, h_mod, h_min, h_max, h_gcd, Operator, o_eq, o_ne, o_lt, o_le, o_gt, o_ge, o_and, o_or, Tree, c_integer, c_truth, c_var, c_negate, c_call, c_not, c_join, c_choice, Statement, assign, only, branch, both, nothing, perform, noted}

-- what the variables hold: an int64_t its number, a bool 0 or 1
abbrev pub Store : Type 0
Store = CVariable → ℤ

-- a number where C asks for a truth value, and a truth value as a number
abbrev pub c_truth_of : ℤ → Bool
c_truth_of z = not (int_eq z (pos 0))

abbrev pub of_truth : Bool → ℤ
of_truth true = pos 1
of_truth false = pos 0

-- the functions at the head of the file
abbrev pub helper : Helper → ℤ → ℤ → ℤ
helper h_add a b = wrap (a +ℤ b)
helper h_sub a b = wrap (a -ℤ b)
helper h_mul a b = wrap (a *ℤ b)
helper h_div a b = quotient a b
helper h_mod a b = remainder a b
helper h_min a b = if int_le a b then a else b
helper h_max a b = if int_le a b then b else a
helper h_gcd a b = wrap (pos (gcd (nat_abs a) (nat_abs b)))

abbrev pub operator_value : Operator → ℤ → ℤ → ℤ
operator_value o_eq a b = of_truth (int_eq a b)
operator_value o_ne a b = of_truth (not (int_eq a b))
operator_value o_lt a b = of_truth (int_lt a b)
operator_value o_le a b = of_truth (int_le a b)
operator_value o_gt a b = of_truth (int_lt b a)
operator_value o_ge a b = of_truth (int_le b a)
operator_value o_and a b = of_truth (c_truth_of a && c_truth_of b)
operator_value o_or a b = of_truth (c_truth_of a || c_truth_of b)

-- the value of an expression
abbrev pub value : Store → Tree → ℤ
value m (c_integer z) = z
value m (c_truth b) = of_truth b
value m (c_var x) = m x
value m (c_negate a) = wrap (neg_ℤ (value m a))
value m (c_call h a b) = helper h (value m a) (value m b)
value m (c_not a) = of_truth (not (c_truth_of (value m a)))
value m (c_join o a b) = operator_value o (value m a) (value m b)
value m (c_choice c a b) = if c_truth_of (value m c) then value m a else value m b

-- a slot is what a condition asks for
abbrev pub is_as : ℤ → Bool → Bool
is_as z true = c_truth_of z
is_as z false = not (c_truth_of z)

-- all conditions hold
abbrev pub holds : Store → ClockPairs → Bool
holds m [] = true
holds m ((c, b) ∷ ck) = holds m ck && is_as (m (slot c)) b

-- another number in one variable
abbrev pub stored : Store → CVariable → ℤ → Store
stored m x z y = if same y x then z else m y

-- what a statement leaves
abbrev pub store_left : Statement → Store → Store
store_left (assign x e) m = stored m x (value m e)
store_left (only ck s) m = if holds m ck then store_left s m else m
store_left (branch e s t) m = if c_truth_of (value m e) then store_left s m else store_left t m
store_left (both s t) m = store_left t (store_left s m)
store_left nothing m = m
store_left (perform s) m = store_left s m
store_left (noted text s) m = store_left s m

-- a variable that an execution may write: a slot, an output, or whether an output has a value
abbrev pub is_of_step : CVariable → Bool
is_of_step p = nat_eq (tag p) 0 || (nat_eq (tag p) 13 || nat_eq (tag p) 14)

-- the statement writes no other
abbrev pub WritesStep : Statement → Type 0
WritesStep s = (m : Store) (p : CVariable) → is_of_step p ≡ false → store_left s m p ≡ m p
