-- Facts of the calls of an expression.
use Rattle.std.proofs.Common.{ℕ, true, false, List, [], ◌∷◌, All}
use Rattle.std.proofs.lemmas.List.Elements.{All-head, All-tail}
use Rattle.lt_base.specs.declared.function.Decl.{Decl}
use Rattle.lt_base.specs.Expression.{Expression, literal, variable, unary, binary, imported, choose, sampled, merged, delayed, follow, arrow, call, Arguments, no_arguments, argument}
use Rattle.lt_base.specs.Program.{Function}
use Rattle.lt_base.specs.Meaning.{ClockPairs, function_of}
use Rattle.lt_base.specs.Clocking.{AnswersOnBase, Clocked, ArgumentsClocked}
use Rattle.lt_base.specs.Checked.{argument_count, EachUse, EachArgumentUse}
use Rattle.lt_base.specs.Calls.{EachCall, EachArgumentCall}
use Rattle.lt_base.specs.Equations.{EachRight}

-- three facts of each call make a fourth
module _ (P : ℕ → ℕ → Type 0) (Q S : ℕ → Type 0) (R : ℕ → ℕ → Type 0) (h : (g n : ℕ) → P g n → Q g → S g → R g n) where
  mutual
    pub use_from : (e : Expression) → EachUse P e → EachCall Q e → EachCall S e → EachUse R e
    use_from (literal v) p q s = tt
    use_from (variable x) p q s = tt
    use_from (unary o a) p q s = use_from a p q s
    use_from (binary o a b) p q s = (use_from a p.0 q.0 s.0, use_from b p.1 q.1 s.1)
    use_from (imported o a b) p q s = (use_from a p.0 q.0 s.0, use_from b p.1 q.1 s.1)
    use_from (choose c a b) p q s = (use_from c p.0 q.0 s.0, use_from a p.1 q.1 s.1, use_from b p.2 q.2 s.2)
    use_from (sampled e c b) p q s = use_from e p q s
    use_from (merged c a b) p q s = (use_from a p.0 q.0 s.0, use_from b p.1 q.1 s.1)
    use_from (delayed v e) p q s = use_from e p q s
    use_from (follow a b) p q s = (use_from a p.0 q.0 s.0, use_from b p.1 q.1 s.1)
    use_from (arrow a b) p q s = (use_from a p.0 q.0 s.0, use_from b p.1 q.1 s.1)
    use_from (call g args) p q s = (h g (argument_count args) p.0 q.0 s.0, arguments_use_from args p.1 q.1 s.1)

    pub arguments_use_from : (args : Arguments) → EachArgumentUse P args → EachArgumentCall Q args → EachArgumentCall S args → EachArgumentUse R args
    arguments_use_from no_arguments p q s = tt
    arguments_use_from (argument e args) p q s = (use_from e p.0 q.0 s.0, arguments_use_from args p.1 q.1 s.1)

-- a called function answers on its base clock
module _ (fs : List Function) (ds : List Decl) where
  mutual
    pub clocked_calls : (e : Expression) (ck : ClockPairs) → Clocked fs ds e ck → EachCall (λ g. AnswersOnBase (function_of fs g)) e
    clocked_calls (literal v) ck k = tt
    clocked_calls (variable x) ck k = tt
    clocked_calls (unary o a) ck k = clocked_calls a ck k
    clocked_calls (binary o a b) ck k = (clocked_calls a ck k.0, clocked_calls b ck k.1)
    clocked_calls (imported o a b) ck k = (clocked_calls a ck k.0, clocked_calls b ck k.1)
    clocked_calls (choose c a b) ck k = (clocked_calls c ck k.0, clocked_calls a ck k.1, clocked_calls b ck k.2)
    clocked_calls (sampled e c b) [] k = elim k [ ]
    clocked_calls (sampled e c b) ((d, a) ∷ ck) k = clocked_calls e ck k.2.2
    clocked_calls (merged c a b) ck k = (clocked_calls a ((c, true) ∷ ck) k.2, clocked_calls b ((c, false) ∷ ck) k.3)
    clocked_calls (delayed v e) ck k = clocked_calls e ck k
    clocked_calls (follow a b) ck k = (clocked_calls a ck k.0, clocked_calls b ck k.1)
    clocked_calls (arrow a b) ck k = (clocked_calls a ck k.0, clocked_calls b ck k.1)
    clocked_calls (call g args) ck k = (k.0, clocked_arguments_calls args ck k.1)

    pub clocked_arguments_calls : (args : Arguments) (ck : ClockPairs) → ArgumentsClocked fs ds args ck → EachArgumentCall (λ g. AnswersOnBase (function_of fs g)) args
    clocked_arguments_calls no_arguments ck k = tt
    clocked_arguments_calls (argument e args) ck k = (clocked_calls e ck k.0, clocked_arguments_calls args ck k.1)

mutual
  pub use_map : (P Q : ℕ → ℕ → Type 0) → ((g n : ℕ) → P g n → Q g n) → (e : Expression) → EachUse P e → EachUse Q e
  use_map P Q h (literal v) u = tt
  use_map P Q h (variable x) u = tt
  use_map P Q h (unary o a) u = use_map P Q h a u
  use_map P Q h (binary o a b) u = (use_map P Q h a u.0, use_map P Q h b u.1)
  use_map P Q h (imported o a b) u = (use_map P Q h a u.0, use_map P Q h b u.1)
  use_map P Q h (choose c a b) u = (use_map P Q h c u.0, use_map P Q h a u.1, use_map P Q h b u.2)
  use_map P Q h (sampled e c b) u = use_map P Q h e u
  use_map P Q h (merged c a b) u = (use_map P Q h a u.0, use_map P Q h b u.1)
  use_map P Q h (delayed v e) u = use_map P Q h e u
  use_map P Q h (follow a b) u = (use_map P Q h a u.0, use_map P Q h b u.1)
  use_map P Q h (arrow a b) u = (use_map P Q h a u.0, use_map P Q h b u.1)
  use_map P Q h (call g args) u = (h g (argument_count args) u.0, arguments_use_map P Q h args u.1)

  pub arguments_use_map : (P Q : ℕ → ℕ → Type 0) → ((g n : ℕ) → P g n → Q g n) → (args : Arguments) → EachArgumentUse P args → EachArgumentUse Q args
  arguments_use_map P Q h no_arguments u = tt
  arguments_use_map P Q h (argument e args) u = (use_map P Q h e u.0, arguments_use_map P Q h args u.1)

pub right_each : (P : Expression → Type 0) (qs : List (ℕ × Expression)) → All (λ q. P q.1) qs → EachRight P qs
right_each P [] a = tt
right_each P (q ∷ qs) a = (All-head (λ q. P q.1) q qs a, right_each P qs (All-tail (λ q. P q.1) q qs a))
