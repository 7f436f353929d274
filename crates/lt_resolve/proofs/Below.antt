-- The numbers in named expressions are those of variables and functions.
use Rattle.std.proofs.Common.{List, length}
use Rattle.lt_base.specs.Expression.{Expression, literal, variable, unary, binary, imported, choose, sampled, merged, delayed, follow, arrow, call, Arguments, no_arguments, argument}
use Rattle.lt_base.specs.Program.{VarsBelow, ArgumentVarsBelow, CallsBelow, ArgumentCallsBelow}
use Rattle.lt_syntax.specs.Tree.{Tm, Lit, Var, Unary, Binary, Choice, Sampled, Merged, Delayed, Followed, Arrow, Call, Tms, Nil, Cons}
use Rattle.lt_resolve.specs.Names.{Name}
use Rattle.lt_resolve.specs.Named.{IsNamed, AreNamed}
use Rattle.lt_resolve.proofs.Numbers.{number_below}

module _ (vars funcs : List Name) where
  mutual
    pub vars_below : (t : Tm) (e : Expression) → IsNamed vars funcs t e → VarsBelow (length vars) e
    vars_below (Lit v) (literal w) h = tt
    vars_below (Var x) (variable i) h = number_below vars x i h
    vars_below (Unary o a) (unary p e) h = vars_below a e h.1
    vars_below (Binary o a b) (binary p d e) h = (vars_below a d h.1, vars_below b e h.2)
    vars_below (Choice c a b) (choose f d e) h = (vars_below c f h.0, vars_below a d h.1, vars_below b e h.2)
    vars_below (Sampled a c t) (sampled e i u) h = (vars_below a e h.0, number_below vars c i h.1)
    vars_below (Merged c a b) (merged i d e) h = (number_below vars c i h.0, vars_below a d h.1, vars_below b e h.2)
    vars_below (Delayed v a) (delayed w e) h = vars_below a e h.1
    vars_below (Followed a b) (follow d e) h = (vars_below a d h.0, vars_below b e h.1)
    vars_below (Arrow a b) (arrow d e) h = (vars_below a d h.0, vars_below b e h.1)
    vars_below (Call f args) (call g es) h = arguments_vars_below args es h.1
    vars_below (Call f args) (imported o d e) h = let k = arguments_vars_below args (argument d (argument e no_arguments)) h.2 in (k.0, k.1.0)
    vars_below _ _ h = absurd h

    arguments_vars_below : (args : Tms) (es : Arguments) → AreNamed vars funcs args es → ArgumentVarsBelow (length vars) es
    arguments_vars_below Nil no_arguments h = tt
    arguments_vars_below (Cons a args) (argument e es) h = (vars_below a e h.0, arguments_vars_below args es h.1)
    arguments_vars_below _ _ h = absurd h

  mutual
    pub calls_below : (t : Tm) (e : Expression) → IsNamed vars funcs t e → CallsBelow (length funcs) e
    calls_below (Lit v) (literal w) h = tt
    calls_below (Var x) (variable i) h = tt
    calls_below (Unary o a) (unary p e) h = calls_below a e h.1
    calls_below (Binary o a b) (binary p d e) h = (calls_below a d h.1, calls_below b e h.2)
    calls_below (Choice c a b) (choose f d e) h = (calls_below c f h.0, calls_below a d h.1, calls_below b e h.2)
    calls_below (Sampled a c t) (sampled e i u) h = calls_below a e h.0
    calls_below (Merged c a b) (merged i d e) h = (calls_below a d h.1, calls_below b e h.2)
    calls_below (Delayed v a) (delayed w e) h = calls_below a e h.1
    calls_below (Followed a b) (follow d e) h = (calls_below a d h.0, calls_below b e h.1)
    calls_below (Arrow a b) (arrow d e) h = (calls_below a d h.0, calls_below b e h.1)
    calls_below (Call f args) (call g es) h = (number_below funcs f g h.0, arguments_calls_below args es h.1)
    calls_below (Call f args) (imported o d e) h = let k = arguments_calls_below args (argument d (argument e no_arguments)) h.2 in (k.0, k.1.0)
    calls_below _ _ h = absurd h

    arguments_calls_below : (args : Tms) (es : Arguments) → AreNamed vars funcs args es → ArgumentCallsBelow (length funcs) es
    arguments_calls_below Nil no_arguments h = tt
    arguments_calls_below (Cons a args) (argument e es) h = (calls_below a e h.0, arguments_calls_below args es h.1)
    arguments_calls_below _ _ h = absurd h
