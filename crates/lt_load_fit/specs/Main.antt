-- The function of a program that is run.
use Rattle.std.specs.Prelude.{[], slice_index_or}
use Rattle.lt_base.specs.Program.{Function, WholeProgram}

-- what stands for the function of a number that is none
abbrev no_function : Function
no_function = record { name = []; decls = []; n_in = 0; outs = []; eqs = [] }

-- the function that is run
abbrev pub main_in : WholeProgram → Function
main_in p = slice_index_or p.funcs p.main no_function
