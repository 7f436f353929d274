-- An expression without pointers: its shape, as contracts see it.
use Rattle.std.specs.Prelude.{ℕ, ◌+◌, Bool, List, [], ◌∷◌}
use Rattle.lt_base.specs.declared.value.Value.{Value}
use Rattle.lt_base.specs.declared.operators.Un.{Un}
use Rattle.lt_base.specs.declared.operators.Bin.{Bin}
use Rattle.lt_base.specs.declared.operators.Imp.{Imp}
use Rattle.lt_base.specs.declared.expression.Expr.{Expr, Lit, Var, Un', Bin', Imported', If', When', Merge', Fby', Follow', Arrow', Call', Row_of-Expr, end_of-Expr, more_of-Expr}

mutual
  pub data Expression : Type 0 where
    literal : Value → Expression
    variable : ℕ → Expression
    unary : Un → Expression → Expression
    binary : Bin → Expression → Expression → Expression
    imported : Imp → Expression → Expression → Expression
    choose : Expression → Expression → Expression → Expression
    sampled : Expression → ℕ → Bool → Expression
    merged : ℕ → Expression → Expression → Expression
    delayed : Value → Expression → Expression
    follow : Expression → Expression → Expression
    arrow : Expression → Expression → Expression
    call : ℕ → Arguments → Expression

  pub data Arguments : Type 0 where
    no_arguments : Arguments
    argument : Expression → Arguments → Arguments

abbrev mutual
  pub shape : Expr → Expression
  shape (Lit v) = literal v
  shape (Var x) = variable x
  shape (Un' o p a) = unary o (shape a)
  shape (Bin' o p a q b) = binary o (shape a) (shape b)
  shape (Imported' o p a q b) = imported o (shape a) (shape b)
  shape (If' p c q a r b) = choose (shape c) (shape a) (shape b)
  shape (When' p e c b) = sampled (shape e) c b
  shape (Merge' c p a q b) = merged c (shape a) (shape b)
  shape (Fby' v p e) = delayed v (shape e)
  shape (Follow' p a q b) = follow (shape a) (shape b)
  shape (Arrow' p a q b) = arrow (shape a) (shape b)
  shape (Call' g s row) = call g (arguments_shape row)

  pub arguments_shape : {m : _} → Row_of-Expr m → Arguments
  arguments_shape end_of-Expr = no_arguments
  arguments_shape (more_of-Expr e rest) = argument (shape e) (arguments_shape rest)

-- the number of expression parts
abbrev mutual
  pub parts : Expression → ℕ
  parts (literal v) = 1
  parts (variable x) = 1
  parts (unary o a) = 1 + parts a
  parts (binary o a b) = 1 + parts a + parts b
  parts (imported o a b) = 1 + parts a + parts b
  parts (choose c a b) = 1 + parts c + parts a + parts b
  parts (sampled e c b) = 1 + parts e
  parts (merged c a b) = 1 + parts a + parts b
  parts (delayed v e) = 1 + parts e
  parts (follow a b) = 1 + parts a + parts b
  parts (arrow a b) = 1 + parts a + parts b
  parts (call g args) = 1 + arguments_parts args

  pub arguments_parts : Arguments → ℕ
  arguments_parts no_arguments = 0
  arguments_parts (argument e args) = parts e + arguments_parts args

-- a call's arguments from a list
abbrev pub arguments_of : List Expression → Arguments
arguments_of [] = no_arguments
arguments_of (e ∷ es) = argument e (arguments_of es)
