-- A function and a program, as contracts see them.
use Rattle.std.specs.Prelude.{◌≡◌, ℕ, ◌<◌, ◌≤◌, ◌&&◌, nat_eq, nat_le, nat_lt, List, [], length, take, if◌then◌else◌}
use Rattle.std.proofs.Common.{refl}
use Rattle.std.specs.List.{All, count_by}
use Rattle.std.specs.Coded.{Coded, code_by, coded×, coded_ℕ, coded_list}
use Rattle.lt_base.specs.declared.function.Decl.{Decl}
use Rattle.lt_base.specs.contracts.function.Decl.{the_row as decl_row}
use Rattle.lt_base.specs.Expression.{Expression, literal, variable, unary, binary, imported, choose, sampled, merged, delayed, follow, arrow, call, Arguments, no_arguments, argument}
use Rattle.lt_base.specs.Codes.{coded_expression}

-- inputs first, then outputs, then locals
pub record Function : Type 0 where
  pub name : List ℕ
  pub decls : List Decl
  pub n_in : ℕ
  pub outs : List ℕ
  pub eqs : List (ℕ × Expression)

-- functions, and the number of the one that is run
pub record WholeProgram : Type 0 where
  pub funcs : List Function
  pub main : ℕ

abbrev pub coded_function : Coded Function
coded_function =
    code_by
    (List ℕ × (List Decl × (ℕ × (List ℕ × List (ℕ × Expression)))))
    (coded× (coded_list coded_ℕ) (coded× (coded_list decl_row.coded) (coded× coded_ℕ (coded× (coded_list coded_ℕ) (coded_list (coded× coded_ℕ coded_expression))))))
    (λ f. (f.name, (f.decls, (f.n_in, (f.outs, f.eqs)))))
    (λ p. record { name = p.0; decls = p.1.0; n_in = p.1.1.0; outs = p.1.1.1.0; eqs = p.1.1.1.1 })
    (λ _. refl)

abbrev pub coded_program : Coded WholeProgram
coded_program =
    code_by (List Function × ℕ) (coded× (coded_list coded_function) coded_ℕ) (λ p. (p.funcs, p.main)) (λ p. record { funcs = p.0; main = p.1 }) (λ _. refl)

-- the variables of an expression are below n
abbrev mutual
  pub VarsBelow : ℕ → Expression → Type 0
  VarsBelow n (literal v) = Unit {0}
  VarsBelow n (variable x) = x < n
  VarsBelow n (unary o a) = VarsBelow n a
  VarsBelow n (binary o a b) = VarsBelow n a × VarsBelow n b
  VarsBelow n (imported o a b) = VarsBelow n a × VarsBelow n b
  VarsBelow n (choose c a b) = VarsBelow n c × VarsBelow n a × VarsBelow n b
  VarsBelow n (sampled e c b) = VarsBelow n e × (c < n)
  VarsBelow n (merged c a b) = (c < n) × VarsBelow n a × VarsBelow n b
  VarsBelow n (delayed v e) = VarsBelow n e
  VarsBelow n (follow a b) = VarsBelow n a × VarsBelow n b
  VarsBelow n (arrow a b) = VarsBelow n a × VarsBelow n b
  VarsBelow n (call g args) = ArgumentVarsBelow n args

  pub ArgumentVarsBelow : ℕ → Arguments → Type 0
  ArgumentVarsBelow n no_arguments = Unit {0}
  ArgumentVarsBelow n (argument e args) = VarsBelow n e × ArgumentVarsBelow n args

-- the functions that an expression calls are below n
abbrev mutual
  pub CallsBelow : ℕ → Expression → Type 0
  CallsBelow n (literal v) = Unit {0}
  CallsBelow n (variable x) = Unit {0}
  CallsBelow n (unary o a) = CallsBelow n a
  CallsBelow n (binary o a b) = CallsBelow n a × CallsBelow n b
  CallsBelow n (imported o a b) = CallsBelow n a × CallsBelow n b
  CallsBelow n (choose c a b) = CallsBelow n c × CallsBelow n a × CallsBelow n b
  CallsBelow n (sampled e c b) = CallsBelow n e
  CallsBelow n (merged c a b) = CallsBelow n a × CallsBelow n b
  CallsBelow n (delayed v e) = CallsBelow n e
  CallsBelow n (follow a b) = CallsBelow n a × CallsBelow n b
  CallsBelow n (arrow a b) = CallsBelow n a × CallsBelow n b
  CallsBelow n (call g args) = (g < n) × ArgumentCallsBelow n args

  pub ArgumentCallsBelow : ℕ → Arguments → Type 0
  ArgumentCallsBelow n no_arguments = Unit {0}
  ArgumentCallsBelow n (argument e args) = CallsBelow n e × ArgumentCallsBelow n args

-- what every function keeps: the numbers in it are those of its variables
pub record GoodFunction (f : Function) : Type 0 where
  pub inputs : f.n_in ≤ length f.decls
  pub inputs_on_base : All (λ d. d.clock ≡ []) (take f.n_in f.decls)
  pub clocks : All (λ d. All (λ p. p.0 < length f.decls) d.clock) f.decls
  pub outs : All (λ y. y < length f.decls) f.outs
  pub outs_once : (y : ℕ) → count_by (nat_eq y) f.outs ≤ 1
  pub rights : All (λ e. VarsBelow (length f.decls) e.1) f.eqs
  -- one equation for each variable that is no input, and none for any other number
  pub lefts : (x : ℕ) → count_by (λ e. nat_eq x e.0) f.eqs ≡ (if nat_le f.n_in x && nat_lt x (length f.decls) then 1 else 0)

-- what every program keeps: its functions keep what they do, and the numbers in it are those of its functions
pub record GoodProgram (p : WholeProgram) : Type 0 where
  pub functions : All GoodFunction p.funcs
  pub main : p.main < length p.funcs
  pub calls : All (λ f. All (λ e. CallsBelow (length p.funcs) e.1) f.eqs) p.funcs
