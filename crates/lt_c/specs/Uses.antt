-- Which functions at the head a file calls.
use Rattle.std.specs.Prelude.{true, false, ◌||◌}
use Rattle.lt_c.specs.declared.calls.Calls.{Calls}
use Rattle.lt_c.specs.Tree.{Helper, h_add, h_sub, h_mul, h_div, h_mod, h_min, h_max, h_gcd, Tree, c_integer, c_truth, c_var, c_negate, c_call, c_not, c_join, c_choice, Statement, assign, only, branch, both, nothing, perform, noted}

-- no call
abbrev pub no_calls : Calls
no_calls = record { negate = false; add = false; sub = false; mul = false; div = false; rest = false; min = false; max = false; gcd = false }

-- a call of the function that negates, and of one of the others
abbrev pub negating : Calls
negating = record no_calls { negate = true }

abbrev pub calling : Helper → Calls
calling h_add = record no_calls { add = true }
calling h_sub = record no_calls { sub = true }
calling h_mul = record no_calls { mul = true }
calling h_div = record no_calls { div = true }
calling h_mod = record no_calls { rest = true }
calling h_min = record no_calls { min = true }
calling h_max = record no_calls { max = true }
calling h_gcd = record no_calls { gcd = true }

-- the calls of both
abbrev pub calls_and : Calls → Calls → Calls
calls_and a b = record {
  negate = a.negate || b.negate;
  add = a.add || b.add;
  sub = a.sub || b.sub;
  mul = a.mul || b.mul;
  div = a.div || b.div;
  rest = a.rest || b.rest;
  min = a.min || b.min;
  max = a.max || b.max;
  gcd = a.gcd || b.gcd;
}

-- the calls in an expression
abbrev pub calls_of_tree : Tree → Calls
calls_of_tree (c_integer z) = no_calls
calls_of_tree (c_truth b) = no_calls
calls_of_tree (c_var p) = no_calls
calls_of_tree (c_negate a) = calls_and negating (calls_of_tree a)
calls_of_tree (c_call h a b) = calls_and (calling h) (calls_and (calls_of_tree a) (calls_of_tree b))
calls_of_tree (c_not a) = calls_of_tree a
calls_of_tree (c_join o a b) = calls_and (calls_of_tree a) (calls_of_tree b)
calls_of_tree (c_choice c a b) = calls_and (calls_of_tree c) (calls_and (calls_of_tree a) (calls_of_tree b))

-- those in a statement
abbrev pub statement_calls : Statement → Calls
statement_calls (assign p e) = calls_of_tree e
statement_calls (only ck s) = statement_calls s
statement_calls (branch e s t) = calls_and (calls_of_tree e) (calls_and (statement_calls s) (statement_calls t))
statement_calls (both s t) = calls_and (statement_calls s) (statement_calls t)
statement_calls nothing = no_calls
statement_calls (perform s) = statement_calls s
statement_calls (noted t s) = statement_calls s
