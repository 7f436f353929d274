-- What the expressions of a tree read and call, in text order.
use Rattle.std.specs.Prelude.{ℕ, ◌+◌, ◌-◌, ◌^◌, min, ◌||◌, is_some, Option, Some, None, List, [], ◌∷◌, ◌++◌, if◌then◌else◌}
use Rattle.std.specs.Option.{option_or}
use Rattle.std.specs.List.{sum_by}
use Rattle.lt_syntax.specs.declared.tree.NodeText.{NodeText}
use Rattle.lt_syntax.specs.Tree.{Tm, Lit, Var, Unary, Binary, Choice, Sampled, Merged, Delayed, Followed, Arrow, Call, Tms, Nil, Cons}
use Rattle.lt_resolve.specs.Names.{Name, number_of_name, among, if_missing}
use Rattle.lt_resolve.specs.Named.{operator_of}

-- the called name, where it is no function and no imported operator
abbrev pub if_uncallable : List Name → Name → Option Name
if_uncallable funcs f = if among funcs f || is_some (operator_of f) then None else Some f

-- the first name in a term that is not declared
abbrev mutual
  pub unknown : List Name → List Name → Tm → Option Name
  unknown vars funcs (Lit v) = None
  unknown vars funcs (Var x) = if_missing vars x
  unknown vars funcs (Unary o a) = unknown vars funcs a
  unknown vars funcs (Binary o a b) = option_or (unknown vars funcs a) (unknown vars funcs b)
  unknown vars funcs (Choice c a b) = option_or (unknown vars funcs c) (option_or (unknown vars funcs a) (unknown vars funcs b))
  unknown vars funcs (Sampled a c t) = option_or (unknown vars funcs a) (if_missing vars c)
  unknown vars funcs (Merged c a b) = option_or (if_missing vars c) (option_or (unknown vars funcs a) (unknown vars funcs b))
  unknown vars funcs (Delayed v a) = unknown vars funcs a
  unknown vars funcs (Followed a b) = option_or (unknown vars funcs a) (unknown vars funcs b)
  unknown vars funcs (Arrow a b) = option_or (unknown vars funcs a) (unknown vars funcs b)
  unknown vars funcs (Call f args) = option_or (if_uncallable funcs f) (unknown_argument vars funcs args)

  pub unknown_argument : List Name → List Name → Tms → Option Name
  unknown_argument vars funcs Nil = None
  unknown_argument vars funcs (Cons a args) = option_or (unknown vars funcs a) (unknown_argument vars funcs args)

-- a call: the function in which it stands, the called name with its number, none for an imported operator, and how many arguments it has
pub record Site : Type 0 where
  pub caller : ℕ
  pub name : Name
  pub callee : Option ℕ
  pub arguments : ℕ

abbrev pub term_count : Tms → ℕ
term_count Nil = 0
term_count (Cons a args) = 1 + term_count args

-- the calls in a term
abbrev mutual
  pub sites_in : List Name → ℕ → Tm → List Site
  sites_in funcs i (Lit v) = []
  sites_in funcs i (Var x) = []
  sites_in funcs i (Unary o a) = sites_in funcs i a
  sites_in funcs i (Binary o a b) = sites_in funcs i a ++ sites_in funcs i b
  sites_in funcs i (Choice c a b) = sites_in funcs i c ++ (sites_in funcs i a ++ sites_in funcs i b)
  sites_in funcs i (Sampled a c t) = sites_in funcs i a
  sites_in funcs i (Merged c a b) = sites_in funcs i a ++ sites_in funcs i b
  sites_in funcs i (Delayed v a) = sites_in funcs i a
  sites_in funcs i (Followed a b) = sites_in funcs i a ++ sites_in funcs i b
  sites_in funcs i (Arrow a b) = sites_in funcs i a ++ sites_in funcs i b
  sites_in funcs i (Call f args) = record { caller = i; name = f; callee = number_of_name funcs f; arguments = term_count args } ∷ argument_sites funcs i args

  pub argument_sites : List Name → ℕ → Tms → List Site
  argument_sites funcs i Nil = []
  argument_sites funcs i (Cons a args) = sites_in funcs i a ++ argument_sites funcs i args

-- the calls in equations
abbrev pub equation_sites : List Name → ℕ → List (Name × Tm) → List Site
equation_sites funcs i [] = []
equation_sites funcs i (q ∷ eqs) = sites_in funcs i q.1 ++ equation_sites funcs i eqs

-- the calls in functions, of which the first has number i
abbrev pub sites_from : List Name → ℕ → List NodeText → List Site
sites_from funcs i [] = []
sites_from funcs i (n ∷ t) = equation_sites funcs i n.eqs ++ sites_from funcs (i + 1) t

-- the calls of functions as edges from the calling to the called one
abbrev pub edge : ℕ → Option ℕ → List (ℕ × ℕ)
edge i None = []
edge i (Some g) = (i, g) ∷ []

abbrev pub edges : List Site → List (ℕ × ℕ)
edges [] = []
edges (s ∷ ss) = edge s.caller s.callee ++ edges ss

-- the delays in a term: one for each `fby` behind a literal and each `->`, two for each other `fby`
abbrev mutual
  pub term_delays : Tm → ℕ
  term_delays (Lit v) = 0
  term_delays (Var x) = 0
  term_delays (Unary o a) = term_delays a
  term_delays (Binary o a b) = term_delays a + term_delays b
  term_delays (Choice c a b) = term_delays c + term_delays a + term_delays b
  term_delays (Sampled a c t) = term_delays a
  term_delays (Merged c a b) = term_delays a + term_delays b
  term_delays (Delayed v a) = 1 + term_delays a
  term_delays (Followed a b) = 2 + term_delays a + term_delays b
  term_delays (Arrow a b) = 1 + term_delays a + term_delays b
  term_delays (Call f args) = argument_delays args

  pub argument_delays : Tms → ℕ
  argument_delays Nil = 0
  argument_delays (Cons a args) = term_delays a + argument_delays args

-- the delays in all right sides, cut at the greatest number of 64 bits
abbrev pub all_delays : List (Name × Tm) → ℕ
all_delays eqs = min (sum_by (λ q. term_delays q.1) eqs) (2 ^ 64 - 1)
