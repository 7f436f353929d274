-- The faults of names, each kind by its first occurrence in text order.
use Rattle.std.specs.Prelude.{◌≡◌, ◌<◌, ℕ, ◌+◌, Bool, nat_eq, nat_lt, Option, Some, None, List, [], ◌∷◌, ◌++◌, length, take, slice_get, slice_index_or, codes, if◌then◌else◌}
use Rattle.std.specs.List.{sum_by}
use Rattle.std.specs.Option.{option_or, option_map}
use Rattle.lt_base.specs.Graph.{NoClosedWalk}
use Rattle.lt_syntax.specs.declared.tree.DeclText.{DeclText}
use Rattle.lt_syntax.specs.declared.tree.NodeText.{NodeText}
use Rattle.lt_syntax.specs.Tree.{Tm}
use Rattle.lt_graph.specs.Edges.{Joined, IsFirstCircular}
use Rattle.lt_resolve.specs.declared.fault.NameKind.{NameKind}
use Rattle.lt_resolve.specs.declared.fault.NameKind.TheVariants.{Twice, Unknown, NoEquation, TwoEquations, EquationForInput, NoMain, WrongCount, NotOneOutput, Recursive, Limit}
use Rattle.lt_resolve.specs.declared.fault.NameFault.{NameFault}
use Rattle.lt_resolve.specs.Names.{Name, if_missing, if_among, repeated_name, first_some}
use Rattle.lt_resolve.specs.Scopes.{declarations, declared_names, variables, left_names, functions}
use Rattle.lt_resolve.specs.Named.{main}
use Rattle.lt_resolve.specs.Uses.{unknown, Site, sites_from, edges, term_delays}

-- a function's number, and a name that stands in it
abbrev pub Occurrence : Type 0
Occurrence = ℕ × Name

-- what is found first in functions, of which the first has number i
abbrev pub first_in : (ℕ → NodeText → Option Name) → ℕ → List NodeText → Option Occurrence
first_in f i [] = None
first_in f i (n ∷ t) = option_or (option_map (λ x. (i, x)) (f i n)) (first_in f (i + 1) t)

-- in a function: its own name, where a function before it has that name, or its first variable that was declared before
abbrev pub twice_in : List Name → ℕ → NodeText → Option Name
twice_in funcs i n = option_or (if_among (take i funcs) n.name) (repeated_name [] (variables n))

-- the first variable of a clock that is not declared
abbrev pub unknown_clock : List Name → List (Name × Bool) → Option Name
unknown_clock vars clock = first_some (λ p. if_missing vars p.0) clock

-- the first variable in the clocks of declarations that is not declared
abbrev pub unknown_declared : List Name → List DeclText → Option Name
unknown_declared vars ds = first_some (λ d. unknown_clock vars d.clock) ds

-- the first name in an equation that is not declared
abbrev pub unknown_equation : List Name → List Name → Name × Tm → Option Name
unknown_equation vars funcs q = option_or (if_missing vars q.0) (unknown vars funcs q.1)

-- in a function: the first name that is not declared
abbrev pub unknown_in : List Name → NodeText → Option Name
unknown_in funcs n = option_or (unknown_declared (variables n) (declarations n)) (first_some (unknown_equation (variables n) funcs) n.eqs)

-- in a function: the first output or local that is on the left of no equation
abbrev pub no_equation_in : NodeText → Option Name
no_equation_in n = first_some (if_missing (left_names n)) (declared_names (n.outs ++ n.locals))

-- in a function: the first left side that is one of those before it
abbrev pub two_equations_in : NodeText → Option Name
two_equations_in n = repeated_name [] (left_names n)

-- in a function: the first left side that is an input
abbrev pub input_equation_in : NodeText → Option Name
input_equation_in n = first_some (if_among (declared_names n.ins)) (left_names n)

-- `main`, where it is no function
abbrev pub no_main : List Name → Option Occurrence
no_main funcs = option_map (λ x. (0, x)) (if_missing funcs main)

-- all calls of the tree
abbrev pub sites : List NodeText → List Site
sites t = sites_from (functions t) 0 t

-- how many inputs, and outputs, a function has, if there is one
abbrev pub input_count_of : Option NodeText → ℕ
input_count_of None = 0
input_count_of (Some n) = length n.ins

abbrev pub output_count_of : Option NodeText → ℕ
output_count_of None = 0
output_count_of (Some n) = length n.outs

-- how many arguments a call has to have: as many as the function's inputs, and two for an imported operator
abbrev pub wanted : List NodeText → Option ℕ → ℕ
wanted t None = 2
wanted t (Some g) = input_count_of (slice_get t g)

-- how many outputs the called function has; an imported operator has one
abbrev pub answered : List NodeText → Option ℕ → ℕ
answered t None = 1
answered t (Some g) = output_count_of (slice_get t g)

abbrev pub unless : Bool → Site → Option Occurrence
unless right s = if right then None else Some (s.caller, s.name)

-- the first call that has another number of arguments
abbrev pub wrong_count : List NodeText → Option Occurrence
wrong_count t = first_some (λ s. unless (nat_eq s.arguments (wanted t s.callee)) s) (sites t)

-- the first call of a function that has other than one output
abbrev pub not_one_output : List NodeText → Option Occurrence
not_one_output t = first_some (λ s. unless (nat_eq (answered t s.callee) 1) s) (sites t)

-- the first call that lies on a closed walk of calls, as an edge from its function to the called one
pub record IsFirstRecursion (t : List NodeText) (o : Occurrence) : Type 0 where
  pub place : ℕ
  pub circular : IsFirstCircular (edges (sites t)) place
  pub callee : ℕ
  pub stands : slice_get (edges (sites t)) place ≡ Some (o.0, callee)
  pub called : slice_index_or (functions t) callee [] ≡ o.1

-- none, where no walk of calls is closed
abbrev pub Recursion : List NodeText → Option Occurrence → Type 0
Recursion t None = NoClosedWalk (Joined (edges (sites t)))
Recursion t (Some o) = IsFirstRecursion t o

-- the quantity's word, where it is above its limit
abbrev pub above : ℕ → ℕ → Name → Option Name
above limit n word = if nat_lt limit n then Some word else None

-- a function's variables and delays
abbrev pub size : NodeText → ℕ
size n = length (declarations n) + sum_by (λ q. term_delays q.1) n.eqs

-- the limit on functions
abbrev pub functions_limit : List NodeText → Option Occurrence
functions_limit t = option_map (λ w. (0, w)) (above 64 (length t) (codes "functions"))

-- the first quantity that passes its limit, in the order functions, variables with delays, inputs, outputs
abbrev pub limit : List NodeText → Option Occurrence
limit t =
    option_or (functions_limit t)
    (option_or (first_in (λ _ n. above 4096 (size n) (codes "variables")) 0 t)
    (option_or (first_in (λ _ n. above 64 (length n.ins) (codes "inputs")) 0 t)
    (first_in (λ _ n. above 64 (length n.outs) (codes "outputs")) 0 t)))

-- a kind's first occurrence in the tree, or that it has none
abbrev pub First : List NodeText → NameKind → Option Occurrence → Type 0
First t Twice o = o ≡ first_in (twice_in (functions t)) 0 t
First t Unknown o = o ≡ first_in (λ _. unknown_in (functions t)) 0 t
First t NoEquation o = o ≡ first_in (λ _. no_equation_in) 0 t
First t TwoEquations o = o ≡ first_in (λ _. two_equations_in) 0 t
First t EquationForInput o = o ≡ first_in (λ _. input_equation_in) 0 t
First t NoMain o = o ≡ no_main (functions t)
First t WrongCount o = o ≡ wrong_count t
First t NotOneOutput o = o ≡ not_one_output t
First t Recursive o = Recursion t o
First t Limit o = o ≡ limit t

-- a kind's number
abbrev pub kind_number : NameKind → ℕ
kind_number Twice = 1
kind_number Unknown = 2
kind_number NoEquation = 3
kind_number TwoEquations = 4
kind_number EquationForInput = 5
kind_number NoMain = 6
kind_number WrongCount = 7
kind_number NotOneOutput = 8
kind_number Recursive = 9
kind_number Limit = 10

-- the first occurrence of the first kind that occurs
pub record IsFirstNameFault (t : List NodeText) (f : NameFault) : Type 0 where
  pub here : First t f.kind (Some (f.func, f.name))
  pub before : (k : NameKind) → kind_number k < kind_number f.kind → First t k None

-- every kind but that of unknown names
abbrev pub IsOther : NameKind → Type 0
IsOther Unknown = ⊥
IsOther _ = Unit {0}

-- at most names that are not declared are at fault
abbrev pub NoOtherFault : List NodeText → Type 0
NoOtherFault t = (k : NameKind) → IsOther k → First t k None

-- no kind occurs
abbrev pub NoNameFault : List NodeText → Type 0
NoNameFault t = (k : NameKind) → First t k None
