-- The lines of the grammar on which two expressions meet.
use Rattle.std.specs.Prelude.{ℕ}
use Rattle.lt_base.specs.declared.operators.Bin.TheVariants.{Add, Sub, Mul, Div, Mod, Eq, Ne, Lt, Le, Gt, Ge, And, Or, Xor, Implies}
use Rattle.lt_tokens.specs.declared.token.Infix.{Infix}
use Rattle.lt_tokens.specs.declared.token.Infix.TheVariants.{Operator, Fby, Arrow}

-- Levels: 1 expr, 2 impl, 3 disj, 4 conj, 5 neg, 6 comp, 7 sum, 8 term, 9 samp, 10 sign, 11 prim, 12 part.

pub data Line : Type 0 where
  Expr : Line
  Impl : Line
  Disj : Line
  Conj : Line
  Comp : Line
  Sum : Line
  Product : Line

abbrev pub infix_line : Infix → Line
infix_line Fby = Expr
infix_line Arrow = Expr
infix_line (Operator Implies) = Impl
infix_line (Operator Or) = Disj
infix_line (Operator Xor) = Disj
infix_line (Operator And) = Conj
infix_line (Operator Eq) = Comp
infix_line (Operator Ne) = Comp
infix_line (Operator Lt) = Comp
infix_line (Operator Le) = Comp
infix_line (Operator Gt) = Comp
infix_line (Operator Ge) = Comp
infix_line (Operator Add) = Sum
infix_line (Operator Sub) = Sum
infix_line (Operator Mul) = Product
infix_line (Operator Div) = Product
infix_line (Operator Mod) = Product

-- the level of the whole
abbrev pub level : Line → ℕ
level Expr = 1
level Impl = 2
level Disj = 3
level Conj = 4
level Comp = 6
level Sum = 7
level Product = 8

-- the level of what stands to the left of it
abbrev pub left_level : Line → ℕ
left_level Expr = 2
left_level Impl = 3
left_level Disj = 3
left_level Conj = 4
left_level Comp = 7
left_level Sum = 7
left_level Product = 8

-- the level of what stands to the right of it
abbrev pub right_level : Line → ℕ
right_level Expr = 1
right_level Impl = 2
right_level Disj = 4
right_level Conj = 5
right_level Comp = 7
right_level Sum = 8
right_level Product = 9
