-- Types of expressions, functions and programs.
use Rattle.std.specs.Prelude.{◌≡◌, ℕ, zero, suc, Option, Some, None, List, [], ◌∷◌, take, map}
use Rattle.std.specs.Option.{option_and_then}
use Rattle.std.specs.List.{All}
use Rattle.lt_base.specs.declared.value.Ty.{Ty}
use Rattle.lt_base.specs.declared.value.Ty.TheVariants.{Int as IntTy, Bool as BoolTy}
use Rattle.lt_base.specs.declared.value.Value.{Value}
use Rattle.lt_base.specs.Value.{ty_of}
use Rattle.lt_base.specs.declared.operators.Un.{Un}
use Rattle.lt_base.specs.declared.operators.Un.TheVariants.{Neg, Not}
use Rattle.lt_base.specs.declared.operators.Bin.{Bin}
use Rattle.lt_base.specs.declared.operators.Bin.TheVariants.{Add, Sub, Mul, Div, Mod, Eq, Ne, Lt, Le, Gt, Ge, And, Or, Xor, Implies}
use Rattle.lt_base.specs.declared.function.Decl.{Decl}
use Rattle.lt_base.specs.Expression.{Expression, literal, variable, unary, binary, imported, choose, sampled, merged, delayed, follow, arrow, call, Arguments, no_arguments, argument}
use Rattle.lt_base.specs.Program.{Function, WholeProgram}
use Rattle.lt_base.specs.Meaning.{right_of, function_of}

-- the declared type of a variable
abbrev pub ty_at : List Decl → ℕ → Option Ty
ty_at [] x = None
ty_at (d ∷ ds) zero = Some d.ty
ty_at (d ∷ ds) (suc x) = ty_at ds x

-- the type of an operator of one operand
abbrev pub un_type : Un → Ty → Option Ty
un_type Neg IntTy = Some IntTy
un_type Neg BoolTy = None
un_type Not IntTy = None
un_type Not BoolTy = Some BoolTy

-- the type of an operator of two ints
abbrev pub ints_type : Bin → Option Ty
ints_type Add = Some IntTy
ints_type Sub = Some IntTy
ints_type Mul = Some IntTy
ints_type Div = Some IntTy
ints_type Mod = Some IntTy
ints_type Eq = Some BoolTy
ints_type Ne = Some BoolTy
ints_type Lt = Some BoolTy
ints_type Le = Some BoolTy
ints_type Gt = Some BoolTy
ints_type Ge = Some BoolTy
ints_type And = None
ints_type Or = None
ints_type Xor = None
ints_type Implies = None

-- the type of an operator of two bools
abbrev pub truths_type : Bin → Option Ty
truths_type Add = None
truths_type Sub = None
truths_type Mul = None
truths_type Div = None
truths_type Mod = None
truths_type Eq = Some BoolTy
truths_type Ne = Some BoolTy
truths_type Lt = None
truths_type Le = None
truths_type Gt = None
truths_type Ge = None
truths_type And = Some BoolTy
truths_type Or = Some BoolTy
truths_type Xor = Some BoolTy
truths_type Implies = Some BoolTy

-- the type of an operator of two operands
abbrev pub bin_type : Bin → Ty → Ty → Option Ty
bin_type o IntTy IntTy = ints_type o
bin_type o BoolTy BoolTy = truths_type o
bin_type o IntTy BoolTy = None
bin_type o BoolTy IntTy = None

-- an imported operator takes two ints and gives one
abbrev pub imported_type : Ty → Ty → Option Ty
imported_type IntTy IntTy = Some IntTy
imported_type IntTy BoolTy = None
imported_type BoolTy b = None

-- the type that two parts share
abbrev pub shared_type : Ty → Ty → Option Ty
shared_type IntTy IntTy = Some IntTy
shared_type BoolTy BoolTy = Some BoolTy
shared_type IntTy BoolTy = None
shared_type BoolTy IntTy = None

-- a rule for two types, where both are there
abbrev pub both_types : (Ty → Ty → Option Ty) → Option Ty → Option Ty → Option Ty
both_types f None u = None
both_types f (Some t) None = None
both_types f (Some t) (Some u) = f t u

-- a type, where the condition is a bool
abbrev pub under_bool : Option Ty → Option Ty → Option Ty
under_bool None t = None
under_bool (Some IntTy) t = None
under_bool (Some BoolTy) t = t

-- the types of a function's inputs
abbrev pub input_types : Function → List Ty
input_types f = map (λ d. d.ty) (take f.n_in f.decls)

-- the type of the only output
abbrev pub answer_type : List Decl → List ℕ → Option Ty
answer_type ds [] = None
answer_type ds (y ∷ []) = ty_at ds y
answer_type ds (y ∷ z ∷ ys) = None

-- each argument has its input's type
abbrev pub arguments_fit : List Ty → List (Option Ty) → Option Ty → Option Ty
arguments_fit [] [] t = t
arguments_fit [] (u ∷ us) t = None
arguments_fit (w ∷ ws) [] t = None
arguments_fit (w ∷ ws) (u ∷ us) t = option_and_then (λ a. arguments_fit ws us t) (both_types shared_type (Some w) u)

-- the type of a call with arguments of these types
abbrev pub call_type : Option Function → List (Option Ty) → Option Ty
call_type None us = None
call_type (Some f) us = arguments_fit (input_types f) us (answer_type f.decls f.outs)

-- the type of an expression, if it has one
abbrev mutual
  pub type_of : List Function → List Decl → Expression → Option Ty
  type_of fs ds (literal v) = Some (ty_of v)
  type_of fs ds (variable x) = ty_at ds x
  type_of fs ds (unary o a) = option_and_then (un_type o) (type_of fs ds a)
  type_of fs ds (binary o a b) = both_types (bin_type o) (type_of fs ds a) (type_of fs ds b)
  type_of fs ds (imported o a b) = both_types imported_type (type_of fs ds a) (type_of fs ds b)
  type_of fs ds (choose c a b) = under_bool (type_of fs ds c) (both_types shared_type (type_of fs ds a) (type_of fs ds b))
  type_of fs ds (sampled e c b) = under_bool (ty_at ds c) (type_of fs ds e)
  type_of fs ds (merged c a b) = under_bool (ty_at ds c) (both_types shared_type (type_of fs ds a) (type_of fs ds b))
  type_of fs ds (delayed v e) = both_types shared_type (Some (ty_of v)) (type_of fs ds e)
  type_of fs ds (follow a b) = both_types shared_type (type_of fs ds a) (type_of fs ds b)
  type_of fs ds (arrow a b) = both_types shared_type (type_of fs ds a) (type_of fs ds b)
  type_of fs ds (call g args) = call_type (function_of fs g) (arguments_types fs ds args)

  pub arguments_types : List Function → List Decl → Arguments → List (Option Ty)
  arguments_types fs ds no_arguments = []
  arguments_types fs ds (argument e args) = type_of fs ds e ∷ arguments_types fs ds args

-- every clock variable is a bool, and every right side has its variable's type
pub record TypedFunction (fs : List Function) (f : Function) : Type 0 where
  pub clocks : All (λ d. All (λ p. ty_at f.decls p.0 ≡ Some BoolTy) d.clock) f.decls
  pub rights : (x : ℕ) (e : Expression) → right_of f.eqs x ≡ Some e → type_of fs f.decls e ≡ ty_at f.decls x

-- every function of a program is typed
abbrev pub TypedProgram : WholeProgram → Type 0
TypedProgram p = All (TypedFunction p.funcs) p.funcs

-- a value, of that type
abbrev pub HasType : Option Value → Ty → Type 0
HasType None t = ⊥
HasType (Some v) t = ty_of v ≡ t

-- one value for each input, of the input's type
abbrev pub RowFits : List Ty → List (Option Value) → Type 0
RowFits [] [] = Unit {0}
RowFits [] (v ∷ vs) = ⊥
RowFits (t ∷ ts) [] = ⊥
RowFits (t ∷ ts) (v ∷ vs) = HasType v t × RowFits ts vs

-- rows that fit inputs of these types
abbrev pub AllFit : List Ty → List (List (Option Value)) → Type 0
AllFit ts [] = Unit {0}
AllFit ts (row ∷ rows) = RowFits ts row × AllFit ts rows
