-- The operators' tables, over whole numbers.
use Rattle.std.specs.Prelude.{ℕ, zero, suc, ◌%◌, Bool, true, false, not, ◌&&◌, ◌||◌, nat_eq, ℤ, pos, negsuc, ◌+ℤ◌, ◌-ℤ◌, ◌*ℤ◌, neg_ℤ, nat_abs, int_lt, int_le, int_div, int_rem, Option, Some, None, if◌then◌else◌}
use Rattle.std.specs.Int.{int_wrap}
use mir.Syntax.{w64}
use Rattle.lt_base.specs.declared.value.Value.{Value}
use Rattle.lt_base.specs.declared.value.Value.TheVariants.{Int, Bool as Truth}
use Rattle.lt_base.specs.declared.operators.Un.{Un}
use Rattle.lt_base.specs.declared.operators.Un.TheVariants.{Neg, Not}
use Rattle.lt_base.specs.declared.operators.Bin.{Bin}
use Rattle.lt_base.specs.declared.operators.Bin.TheVariants.{Add, Sub, Mul, Div, Mod, Eq, Ne, Lt, Le, Gt, Ge, And, Or, Xor, Implies}
use Rattle.lt_base.specs.declared.operators.Imp.{Imp}
use Rattle.lt_base.specs.declared.operators.Imp.TheVariants.{Min, Max, Gcd}

-- the number of 64 bits that differs by a multiple of 2^64
abbrev pub wrap : ℤ → ℤ
wrap z = int_wrap w64 z

-- whether two ints are equal
abbrev pub int_eq : ℤ → ℤ → Bool
int_eq (pos a) (pos b) = nat_eq a b
int_eq (pos a) (negsuc b) = false
int_eq (negsuc a) (pos b) = false
int_eq (negsuc a) (negsuc b) = nat_eq a b

-- whether two bools are equal
abbrev pub bool_eq : Bool → Bool → Bool
bool_eq true b = b
bool_eq false b = not b

-- cut towards zero, and 0 for a divisor of 0
abbrev pub quotient : ℤ → ℤ → ℤ
quotient a b = if int_eq b (pos 0) then pos 0 else wrap (int_div a b)

-- what the quotient leaves, and the dividend for a divisor of 0
abbrev pub remainder : ℤ → ℤ → ℤ
remainder a b = if int_eq b (pos 0) then a else int_rem a b

-- Euclid's algorithm in at most that many steps
abbrev pub gcd_within : ℕ → ℕ → ℕ → ℕ
gcd_within zero a b = a
gcd_within (suc n) a zero = a
gcd_within (suc n) a (suc b) = gcd_within n (suc b) (a % suc b)

-- the greatest common divisor
abbrev pub gcd : ℕ → ℕ → ℕ
gcd a b = gcd_within (suc b) a b

-- an operator of one operand: none where the operand's type is wrong
abbrev pub op1 : Un → Value → Option Value
op1 Neg (Int a) = Some (Int (wrap (neg_ℤ a)))
op1 Neg (Truth a) = None
op1 Not (Int a) = None
op1 Not (Truth a) = Some (Truth (not a))

-- an operator of two ints
abbrev pub ints : Bin → ℤ → ℤ → Option Value
ints Add a b = Some (Int (wrap (a +ℤ b)))
ints Sub a b = Some (Int (wrap (a -ℤ b)))
ints Mul a b = Some (Int (wrap (a *ℤ b)))
ints Div a b = Some (Int (quotient a b))
ints Mod a b = Some (Int (remainder a b))
ints Eq a b = Some (Truth (int_eq a b))
ints Ne a b = Some (Truth (not (int_eq a b)))
ints Lt a b = Some (Truth (int_lt a b))
ints Le a b = Some (Truth (int_le a b))
ints Gt a b = Some (Truth (int_lt b a))
ints Ge a b = Some (Truth (int_le b a))
ints And a b = None
ints Or a b = None
ints Xor a b = None
ints Implies a b = None

-- an operator of two bools
abbrev pub truths : Bin → Bool → Bool → Option Value
truths Add a b = None
truths Sub a b = None
truths Mul a b = None
truths Div a b = None
truths Mod a b = None
truths Eq a b = Some (Truth (bool_eq a b))
truths Ne a b = Some (Truth (not (bool_eq a b)))
truths Lt a b = None
truths Le a b = None
truths Gt a b = None
truths Ge a b = None
truths And a b = Some (Truth (a && b))
truths Or a b = Some (Truth (a || b))
truths Xor a b = Some (Truth (not (bool_eq a b)))
truths Implies a b = Some (Truth (not a || b))

-- an operator of two operands: none where an operand's type is wrong
abbrev pub op2 : Bin → Value → Value → Option Value
op2 o (Int a) (Int b) = ints o a b
op2 o (Truth a) (Truth b) = truths o a b
op2 o (Int a) (Truth b) = None
op2 o (Truth a) (Int b) = None

-- an imported operator
abbrev pub imp : Imp → ℤ → ℤ → ℤ
imp Min a b = if int_le a b then a else b
imp Max a b = if int_le a b then b else a
imp Gcd a b = wrap (pos (gcd (nat_abs a) (nat_abs b)))

-- an imported operator on values
abbrev pub imp_value : Imp → Value → Value → Option Value
imp_value o (Int a) (Int b) = Some (Int (imp o a b))
imp_value o (Int a) (Truth b) = None
imp_value o (Truth a) (Int b) = None
imp_value o (Truth a) (Truth b) = None
