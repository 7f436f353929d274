-- Each call becomes a copy of the called function, in which no call is left.
use Rattle.std.specs.Prelude.{ℕ, zero, suc, ◌+◌, true, false, Option, Some, None, List, [], ◌∷◌, ◌++◌, length, map}
use Rattle.lt_base.specs.declared.function.Decl.{Decl}
use Rattle.lt_base.specs.Expression.{Expression, literal, variable, unary, binary, imported, choose, sampled, merged, delayed, follow, arrow, call, Arguments, no_arguments, argument}
use Rattle.lt_base.specs.Program.{Function, WholeProgram}
use Rattle.lt_base.specs.Meaning.{ClockPairs, clock_of, outer, function_of}
use Rattle.lt_base.specs.Placed.{renamed, below}

-- the number of a variable in a copy that begins at number m
abbrev pub raise : ℕ → ℕ → ℕ
raise m x = x + m

abbrev pub first_or_zero : List ℕ → ℕ
first_or_zero [] = 0
first_or_zero (y ∷ ys) = y

-- a function without calls for each number that is called
abbrev pub Library : Type 0
Library = ℕ → Function

-- the number of variables of the copies for an expression's calls
abbrev mutual
  pub grown : Library → Expression → ℕ
  grown lib (literal v) = 0
  grown lib (variable x) = 0
  grown lib (unary o a) = grown lib a
  grown lib (binary o a b) = grown lib a + grown lib b
  grown lib (imported o a b) = grown lib a + grown lib b
  grown lib (choose c a b) = grown lib c + (grown lib a + grown lib b)
  grown lib (sampled e c b) = grown lib e
  grown lib (merged c a b) = grown lib a + grown lib b
  grown lib (delayed v e) = grown lib e
  grown lib (follow a b) = grown lib a + grown lib b
  grown lib (arrow a b) = grown lib a + grown lib b
  grown lib (call g args) = arguments_grown lib args + length (lib g).decls

  pub arguments_grown : Library → Arguments → ℕ
  arguments_grown lib no_arguments = 0
  arguments_grown lib (argument e args) = grown lib e + arguments_grown lib args

-- the expression with the output of a copy in place of each call; the copies are numbered from n, those of the arguments first
abbrev mutual
  pub inlined : Library → ℕ → Expression → Expression
  inlined lib n (literal v) = literal v
  inlined lib n (variable x) = variable x
  inlined lib n (unary o a) = unary o (inlined lib n a)
  inlined lib n (binary o a b) = binary o (inlined lib n a) (inlined lib (n + grown lib a) b)
  inlined lib n (imported o a b) = imported o (inlined lib n a) (inlined lib (n + grown lib a) b)
  inlined lib n (choose c a b) = choose (inlined lib n c) (inlined lib (n + grown lib c) a) (inlined lib ((n + grown lib c) + grown lib a) b)
  inlined lib n (sampled e c b) = sampled (inlined lib n e) c b
  inlined lib n (merged c a b) = merged c (inlined lib n a) (inlined lib (n + grown lib a) b)
  inlined lib n (delayed v e) = delayed v (inlined lib n e)
  inlined lib n (follow a b) = follow (inlined lib n a) (inlined lib (n + grown lib a) b)
  inlined lib n (arrow a b) = arrow (inlined lib n a) (inlined lib (n + grown lib a) b)
  inlined lib n (call g args) = variable (first_or_zero (lib g).outs + (n + arguments_grown lib args))

  pub arguments_inlined : Library → ℕ → Arguments → Arguments
  arguments_inlined lib n no_arguments = no_arguments
  arguments_inlined lib n (argument e args) = argument (inlined lib n e) (arguments_inlined lib (n + grown lib e) args)

-- a copy of a function
pub record Copy : Type 0 where
  -- the number of its first variable
  pub from : ℕ
  -- the clock of the call's place
  pub clock : ClockPairs
  -- the function, in which no call is left
  pub source : Function
  -- what its inputs hold
  pub inputs : Arguments

-- the copies for the calls of an expression at a clock, in order of their numbers
abbrev mutual
  pub copies : Library → ℕ → ClockPairs → Expression → List Copy
  copies lib n ck (literal v) = []
  copies lib n ck (variable x) = []
  copies lib n ck (unary o a) = copies lib n ck a
  copies lib n ck (binary o a b) = copies lib n ck a ++ copies lib (n + grown lib a) ck b
  copies lib n ck (imported o a b) = copies lib n ck a ++ copies lib (n + grown lib a) ck b
  copies lib n ck (choose c a b) = copies lib n ck c ++ (copies lib (n + grown lib c) ck a ++ copies lib ((n + grown lib c) + grown lib a) ck b)
  copies lib n ck (sampled e c b) = copies lib n (outer ck) e
  copies lib n ck (merged c a b) = copies lib n ((c, true) ∷ ck) a ++ copies lib (n + grown lib a) ((c, false) ∷ ck) b
  copies lib n ck (delayed v e) = copies lib n ck e
  copies lib n ck (follow a b) = copies lib n ck a ++ copies lib (n + grown lib a) ck b
  copies lib n ck (arrow a b) = copies lib n ck a ++ copies lib (n + grown lib a) ck b
  copies lib n ck (call g args) =
      arguments_copies lib n ck args
      ++ record {
        from = n + arguments_grown lib args;
        clock = ck;
        source = lib g;
        inputs = arguments_inlined lib n args;
      }
      ∷ []

  pub arguments_copies : Library → ℕ → ClockPairs → Arguments → List Copy
  arguments_copies lib n ck no_arguments = []
  arguments_copies lib n ck (argument e args) = copies lib n ck e ++ arguments_copies lib (n + grown lib e) ck args

-- a variable of a copy keeps its name and type, and its clock stands below that of the call's place
abbrev pub copy_decl : ℕ → ClockPairs → Decl → Decl
copy_decl m ck d = record { name = d.name; ty = d.ty; clock = below (raise m) d.clock ck }

abbrev pub copy_decls : ℕ → ClockPairs → List Decl → List Decl
copy_decls m ck ds = map (copy_decl m ck) ds

abbrev pub copy_equation : ℕ → ℕ × Expression → ℕ × Expression
copy_equation m q = (q.0 + m, renamed (raise m) q.1)

abbrev pub copy_equations : ℕ → List (ℕ × Expression) → List (ℕ × Expression)
copy_equations m qs = map (copy_equation m) qs

-- each input of a copy has the equation of its argument
abbrev pub input_equations : ℕ → Arguments → List (ℕ × Expression)
input_equations m no_arguments = []
input_equations m (argument e args) = (m, e) ∷ input_equations (suc m) args

-- the declarations of these copies
abbrev pub copied_decls : List Copy → List Decl
copied_decls [] = []
copied_decls (c ∷ cs) = copy_decls c.from c.clock c.source.decls ++ copied_decls cs

-- their equations, those of the inputs first in each
abbrev pub copied_equations : List Copy → List (ℕ × Expression)
copied_equations [] = []
copied_equations (c ∷ cs) = (input_equations c.from c.inputs ++ copy_equations c.from c.source.eqs) ++ copied_equations cs

-- the same for all equations of a function, in their order
abbrev pub equations_grown : Library → List (ℕ × Expression) → ℕ
equations_grown lib [] = 0
equations_grown lib (q ∷ qs) = grown lib q.1 + equations_grown lib qs

abbrev pub equations_inlined : Library → ℕ → List (ℕ × Expression) → List (ℕ × Expression)
equations_inlined lib n [] = []
equations_inlined lib n (q ∷ qs) = (q.0, inlined lib n q.1) ∷ equations_inlined lib (n + grown lib q.1) qs

abbrev pub equations_copies : Library → List Decl → ℕ → List (ℕ × Expression) → List Copy
equations_copies lib ds n [] = []
equations_copies lib ds n (q ∷ qs) = copies lib n (clock_of ds q.0) q.1 ++ equations_copies lib ds (n + grown lib q.1) qs

-- a function with copies in place of its calls: its variables keep their numbers, and those of the copies come after them
abbrev pub with_copies : Library → Function → Function
with_copies lib f =
    let cs = equations_copies lib f.decls (length f.decls) f.eqs in
    record {
      name = f.name;
      decls = f.decls ++ copied_decls cs;
      n_in = f.n_in;
      outs = f.outs;
      eqs = equations_inlined lib (length f.decls) f.eqs ++ copied_equations cs;
    }

abbrev pub no_function : Function
no_function = record { name = []; decls = []; n_in = 0; outs = []; eqs = [] }

-- a function, or one that does nothing where there is none
abbrev pub function_or_none : Option Function → Function
function_or_none None = no_function
function_or_none (Some f) = f

abbrev pub opened_or : Library → Option Function → Function
opened_or lib None = no_function
opened_or lib (Some f) = with_copies lib f

-- each function of a program without its calls, where that many can be nested
abbrev pub expanded : List Function → ℕ → Library
expanded fs zero g = no_function
expanded fs (suc n) g = opened_or (expanded fs n) (function_of fs g)

-- the main function of a program without its calls
abbrev pub expansion : WholeProgram → Function
expansion p = expanded p.funcs (length p.funcs) p.main
