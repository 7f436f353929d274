-- The first instant of a clock by a delay: `a -> b` and `a fby b` without a form of their own.
use Rattle.std.specs.Prelude.{ℕ, zero, suc, true, false, List, [], ◌∷◌, pos, map}
use Rattle.lt_base.specs.declared.value.Ty.{Ty}
use Rattle.lt_base.specs.declared.value.Ty.TheVariants.{Int as IntTy, Bool as BoolTy}
use Rattle.lt_base.specs.declared.value.Value.{Value}
use Rattle.lt_base.specs.declared.value.Value.TheVariants.{Int as Number, Bool as Truth}
use Rattle.lt_base.specs.declared.operators.Un.{Un}
use Rattle.lt_base.specs.declared.operators.Un.TheVariants.{Neg, Not}
use Rattle.lt_base.specs.declared.operators.Bin.{Bin}
use Rattle.lt_base.specs.declared.operators.Bin.TheVariants.{Add, Sub, Mul, Div, Mod, Eq, Ne, Lt, Le, Gt, Ge, And, Or, Xor, Implies}
use Rattle.lt_base.specs.declared.function.Decl.{Decl}
use Rattle.lt_base.specs.Value.{ty_of}
use Rattle.lt_base.specs.Expression.{Expression, literal, variable, unary, binary, imported, choose, sampled, merged, delayed, follow, arrow, call}
use Rattle.lt_base.specs.Program.{Function}

-- the declared type of a variable, and that of a number where there is none
abbrev pub declared_type : List Decl → ℕ → Ty
declared_type [] x = IntTy
declared_type (d ∷ ds) zero = d.ty
declared_type (d ∷ ds) (suc x) = declared_type ds x

-- the type of what an operator of one operand gives
abbrev pub un_result : Un → Ty
un_result Neg = IntTy
un_result Not = BoolTy

-- the type of what an operator of two operands gives
abbrev pub bin_result : Bin → Ty
bin_result Add = IntTy
bin_result Sub = IntTy
bin_result Mul = IntTy
bin_result Div = IntTy
bin_result Mod = IntTy
bin_result Eq = BoolTy
bin_result Ne = BoolTy
bin_result Lt = BoolTy
bin_result Le = BoolTy
bin_result Gt = BoolTy
bin_result Ge = BoolTy
bin_result And = BoolTy
bin_result Or = BoolTy
bin_result Xor = BoolTy
bin_result Implies = BoolTy

-- the type of an expression without calls that has one
abbrev pub kind : List Decl → Expression → Ty
kind ds (literal v) = ty_of v
kind ds (variable x) = declared_type ds x
kind ds (unary o a) = un_result o
kind ds (binary o a b) = bin_result o
kind ds (imported o a b) = IntTy
kind ds (choose c a b) = kind ds a
kind ds (sampled e c b) = kind ds e
kind ds (merged c a b) = kind ds a
kind ds (delayed v e) = ty_of v
kind ds (follow a b) = kind ds a
kind ds (arrow a b) = kind ds a
kind ds (call g args) = IntTy

-- the literal of a delay whose first value nobody sees
abbrev pub blank : Ty → Value
blank IntTy = Number (pos 0)
blank BoolTy = Truth false

-- true at the first instant of a clock, and false afterwards
abbrev pub first_flag : Expression
first_flag = delayed (Truth true) (literal (Truth false))

-- the form of a `->`, or of a `fby` whose left side is no literal and has this type
abbrev pub begun : Ty → Expression → Expression
begun t (follow a b) = choose first_flag a (delayed (blank t) b)
begun t (arrow a b) = choose first_flag a b
begun t e = e

-- the expression with flags and delays in place of `->` and of every `fby` without a literal
abbrev pub plain : List Decl → Expression → Expression
plain ds (literal v) = literal v
plain ds (variable x) = variable x
plain ds (unary o a) = unary o (plain ds a)
plain ds (binary o a b) = binary o (plain ds a) (plain ds b)
plain ds (imported o a b) = imported o (plain ds a) (plain ds b)
plain ds (choose c a b) = choose (plain ds c) (plain ds a) (plain ds b)
plain ds (sampled e c b) = sampled (plain ds e) c b
plain ds (merged c a b) = merged c (plain ds a) (plain ds b)
plain ds (delayed v e) = delayed v (plain ds e)
plain ds (follow a b) = choose first_flag (plain ds a) (delayed (blank (kind ds a)) (plain ds b))
plain ds (arrow a b) = choose first_flag (plain ds a) (plain ds b)
plain ds (call g args) = call g args

-- the equations of a function in that form
abbrev pub plain_equations : List Decl → List (ℕ × Expression) → List (ℕ × Expression)
plain_equations ds eqs = map (λ q. (q.0, plain ds q.1)) eqs

-- the function in that form
abbrev pub plain_function : Function → Function
plain_function f = record {
  name = f.name;
  decls = f.decls;
  n_in = f.n_in;
  outs = f.outs;
  eqs = plain_equations f.decls f.eqs;
}

-- neither a call nor `->`, and no `fby` without a literal
abbrev pub Simple : Expression → Type 0
Simple (literal v) = Unit {0}
Simple (variable x) = Unit {0}
Simple (unary o a) = Simple a
Simple (binary o a b) = Simple a × Simple b
Simple (imported o a b) = Simple a × Simple b
Simple (choose c a b) = Simple c × Simple a × Simple b
Simple (sampled e c b) = Simple e
Simple (merged c a b) = Simple a × Simple b
Simple (delayed v e) = Simple e
Simple (follow a b) = ⊥
Simple (arrow a b) = ⊥
Simple (call g args) = ⊥
