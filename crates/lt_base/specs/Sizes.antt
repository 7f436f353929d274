-- How large a program is.
use Rattle.std.specs.Prelude.{◌≡◌, ℕ, zero, suc, ◌+◌, ◌*◌, ◌-◌, ◌^◌, min, Option, Some, None, List, length, slice_index_or}
use Rattle.std.specs.List.{sum_by}
use Rattle.lt_base.specs.Expression.{Expression, literal, variable, unary, binary, imported, choose, sampled, merged, delayed, follow, arrow, call, Arguments, no_arguments, argument, parts}
use Rattle.lt_base.specs.Program.{Function, WholeProgram}
use Rattle.lt_base.specs.Meaning.{function_of}

-- a cost of an expression: d for each delay in it, and w g for each call of g
abbrev mutual
  pub cost : ℕ → (ℕ → ℕ) → Expression → ℕ
  cost d w (literal v) = 0
  cost d w (variable x) = 0
  cost d w (unary o a) = cost d w a
  cost d w (binary o a b) = cost d w a + cost d w b
  cost d w (imported o a b) = cost d w a + cost d w b
  cost d w (choose c a b) = cost d w c + cost d w a + cost d w b
  cost d w (sampled e c b) = cost d w e
  cost d w (merged c a b) = cost d w a + cost d w b
  cost d w (delayed v e) = d + cost d w e
  cost d w (follow a b) = 2 * d + cost d w a + cost d w b
  cost d w (arrow a b) = d + cost d w a + cost d w b
  cost d w (call g args) = w g + arguments_cost d w args

  pub arguments_cost : ℕ → (ℕ → ℕ) → Arguments → ℕ
  arguments_cost d w no_arguments = 0
  arguments_cost d w (argument e args) = cost d w e + arguments_cost d w args

-- a function's variables and delays, and the weights of its calls
abbrev pub weight_with : (ℕ → ℕ) → Function → ℕ
weight_with w f = length f.decls + sum_by (λ e. cost 1 w e.1) f.eqs

-- a function's expression parts, and the parts of its calls
abbrev pub parts_with : (ℕ → ℕ) → Function → ℕ
parts_with w f = sum_by (λ e. parts e.1 + cost 0 w e.1) f.eqs

-- the size of a function, if there is one
abbrev pub size_of : (Function → ℕ) → Option Function → ℕ
size_of s None = 0
size_of s (Some f) = s f

-- a function's size with that many nested calls, where s gives it from the sizes of the called functions
abbrev pub nested : ((ℕ → ℕ) → Function → ℕ) → List Function → ℕ → ℕ → ℕ
nested s fs zero g = 0
nested s fs (suc n) g = size_of (s (nested s fs n)) (function_of fs g)

-- each function has its size by w, where w gives the sizes of the called functions
abbrev pub AddsUp : ((ℕ → ℕ) → Function → ℕ) → List Function → (ℕ → ℕ) → Type 0
AddsUp s fs w = (g : ℕ) (f : Function) → function_of fs g ≡ Some f → w g ≡ s w f

-- the weight of a function with that many nested calls
abbrev pub weight : List Function → ℕ → ℕ → ℕ
weight fs n g = nested weight_with fs n g

-- the expression parts of a function with that many nested calls
abbrev pub total_parts : List Function → ℕ → ℕ → ℕ
total_parts fs n g = nested parts_with fs n g

-- the weight of a program's main function
abbrev pub program_weight : WholeProgram → ℕ
program_weight p = weight p.funcs (length p.funcs) p.main

-- the expression parts of a program's main function
abbrev pub program_parts : WholeProgram → ℕ
program_parts p = total_parts p.funcs (length p.funcs) p.main

-- cut at the greatest number of 64 bits
abbrev pub cut : ℕ → ℕ
cut n = min n (2 ^ 64 - 1)

-- the numbers of a table
abbrev pub in_table : List ℕ → ℕ → ℕ
in_table table g = slice_index_or table g 0
