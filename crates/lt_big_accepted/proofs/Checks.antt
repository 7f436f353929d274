-- The tree of the large input's program passes every check behind syntax.
use Rattle.std.proofs.Common.{◌≡◌, ℕ, zero, suc, ◌<◌, Bool, true, false, ◌||◌, inr, List, [], ◌∷◌, map, codes, Option, None, Some, refl, sym, subst, arith, lit≤}
use Rattle.std.specs.Prelude.{nat_eq, Ok}
use Rattle.std.specs.List.{All, AllByRecursion}
use Rattle.std.proofs.lemmas.List.Elements.{All-nil, All-cons, All-head, All-from_recursion}
use Rattle.lt_base.specs.declared.function.Decl.{Decl}
use Rattle.lt_base.specs.declared.value.Ty.TheVariants as ty
use Rattle.lt_base.specs.Expression.{Expression}
use Rattle.lt_base.specs.Program.{Function, GoodFunction}
use Rattle.lt_base.specs.Meaning.{ClockPairs, clock_of, right_of}
use Rattle.lt_base.specs.Typing.{TypedFunction, type_of, ty_at}
use Rattle.lt_base.specs.Clocking.{WellFormed, Clocked, ClockedFunction}
use Rattle.lt_base.specs.Dependence.{Causal, Depends, has, dependencies_of}
use Rattle.lt_base.proofs.Graph.{no_closed_walk}
use Rattle.lt_base.proofs.Lookups.{right_all}
use Rattle.lt_graph.specs.Edges.{Joined}
use Rattle.lt_expand.specs.Expansion.{WithinLimits}
use Rattle.lt_resolve.specs.declared.fault.NameKind.TheVariants.{Twice, Unknown, NoEquation, TwoEquations, EquationForInput, NoMain, WrongCount, NotOneOutput, Recursive, Limit}
use Rattle.lt_resolve.specs.Faults.{NoNameFault}
use Rattle.lt_resolve.specs.Named.{IsDeclared, IsFunction, Named}
use Rattle.lt_resolve.specs.Resolves.{IsResolved}
use Rattle.lt_resolve.specs.Scopes.{functions, variables}
use Rattle.lt_resolve.proofs.Programs.{good_program}
use Rattle.lt_resolve.proofs.Rights.{right_tree}
use Rattle.lt_resolve.proofs.Resolved.{is_resolved}
use Rattle.lt_big_texts.specs.Texts.{program_text}
use Rattle.lt_front.specs.Front.{examine_verdict}
use Rattle.lt_big_accepted.specs.Program.{int_decl, int_text, ring_names, large_node, large_tree, large_rights, large_function, large_program, large_examined, ProgramAccepted}
use Rattle.lt_big_accepted.proofs.Spelled.{program_spelled}

-- ---- names

no_edge : (x y : ℕ) → Joined [] x y → 0 < 0
no_edge x y edge = absurd (let there = edge.1 in omega (arith, there))

faultless : NoNameFault large_tree
faultless Twice = refl
faultless Unknown = refl
faultless NoEquation = refl
faultless TwoEquations = refl
faultless EquationForInput = refl
faultless NoMain = refl
faultless WrongCount = refl
faultless NotOneOutput = refl
faultless Recursive = no_closed_walk (Joined []) (λ x. 0) no_edge
faultless Limit = refl

declared : (vars : List (List ℕ)) (x : List ℕ) → IsDeclared vars (int_text x) (int_decl x)
declared vars x = record { name = refl; ty = refl; clock = tt }

is_function : IsFunction (functions large_tree) large_node large_function
is_function = record {
  name = refl;
  decls = (let each = declared (variables large_node) in
      (each (codes "x"), (each (codes "y0"), (each (codes "y1"), (each (codes "y2"), (each (codes "y3"), (each (codes "y4"), (each (codes "y5"), (each (codes "y6"), (each (codes "y7"), tt))))))))));
  n_in = refl;
  outs = refl;
  eqs = (
    (refl, (refl, refl, (refl, refl))),
    (
      (refl, (refl, refl, (refl, refl))),
      (
        (refl, (refl, refl, (refl, refl))),
        (
          (refl, (refl, refl, (refl, refl))),
          ((refl, (refl, refl, (refl, refl))), ((refl, (refl, refl, (refl, refl))), ((refl, (refl, refl, (refl, refl))), ((refl, (refl, refl, (refl, refl))), tt)))),
        ),
      ),
    ),
  );
}

named : Named large_tree large_program
named = record { funcs = (is_function, tt); main = refl }

-- the numbers in the function are those of its variables
pub good : GoodFunction large_function
good =
    All-head GoodFunction large_function []
    (good_program large_tree (large_function ∷ []) 0 (is_function, tt) refl (right_tree large_tree (program_text, program_spelled) faultless)).functions

pub resolved : IsResolved large_tree large_program
resolved = is_resolved large_tree large_program (program_text, program_spelled) faultless named

-- ---- types

-- a fact of each equation
each_right : (P : ℕ × Expression → Type 0) → AllByRecursion P large_rights → (x : ℕ) (e : Expression) → right_of large_rights x ≡ Some e → P (x, e)
each_right P all x e is = right_all P large_rights (All-from_recursion P large_rights all) x e is

abbrev decls : List Decl
decls = large_function.decls

no_clocks : (P : ℕ × Bool → Type 0) (names : List (List ℕ)) → All (λ (d : Decl). All P d.clock) (map int_decl names)
no_clocks P [] = All-nil (λ (d : Decl). All P d.clock)
no_clocks P (x ∷ xs) = All-cons (λ (d : Decl). All P d.clock) (int_decl x) (map int_decl xs) (All-nil P) (no_clocks P xs)

pub typed : (fs : List Function) → TypedFunction fs large_function
typed fs = record {
  clocks = no_clocks (λ p. ty_at decls p.0 ≡ Some ty.Bool) (codes "x" ∷ ring_names);
  rights = each_right (λ q. type_of fs decls q.1 ≡ ty_at decls q.0) (refl, (refl, (refl, (refl, (refl, (refl, (refl, (refl, tt))))))));
}

-- ---- clocks

pub base_clock : (names : List (List ℕ)) (x : ℕ) → clock_of (map int_decl names) x ≡ []
base_clock [] x = refl
base_clock (n ∷ names) zero = refl
base_clock (n ∷ names) (suc x) = base_clock names x

on_base : (x : ℕ) → clock_of decls x ≡ []
on_base x = base_clock (codes "x" ∷ ring_names) x

pub clocked : (fs : List Function) → ClockedFunction fs large_function
clocked fs = record {
  clocks = λ x. subst (WellFormed decls) (sym (on_base x)) tt;
  rights = each_right (λ q. Clocked fs decls q.1 (clock_of decls q.0))
      (((lit≤ tt, refl), (lit≤ tt, refl)), ((tt, (lit≤ tt, refl)), ((tt, (lit≤ tt, refl)), ((tt, (lit≤ tt, refl)), ((tt, (lit≤ tt, refl)), ((tt, (lit≤ tt, refl)), ((tt, (lit≤ tt, refl)), ((tt, (lit≤ tt, refl)), tt))))))));
}

-- ---- causality

-- an equation reads lower variables alone
abbrev ReadsLower : ℕ × Expression → Type 0
ReadsLower q = (y : ℕ) → has y (dependencies_of (Some q.1) []) ≡ true → y < q.0

only_zero : (y : ℕ) → (nat_eq y 0 || false) ≡ true → y < 1
only_zero y is = grind (arith, is)

none_read : (x y : ℕ) → ◌≡◌ {A = Bool} false true → y < x
none_read x y is = absurd cc

each_lower : (x : ℕ) (e : Expression) → right_of large_rights x ≡ Some e → ReadsLower (x, e)
each_lower = each_right ReadsLower (only_zero, (none_read 2, (none_read 3, (none_read 4, (none_read 5, (none_read 6, (none_read 7, (none_read 8, tt))))))))

lower_by : (x y : ℕ) (o : Option Expression) → right_of large_rights x ≡ o → has y (dependencies_of o []) ≡ true → y < x
lower_by x y None is it = absurd cc
lower_by x y (Some e) is it = each_lower x e is y it

lower : (x y : ℕ) → Depends large_function x y → y < x
lower x y reads_it = lower_by x y (right_of large_rights x) refl (subst (λ (ck : ClockPairs). has y (dependencies_of (right_of large_rights x) ck) ≡ true) (on_base x) reads_it)

pub causal : Causal large_function
causal = no_closed_walk (Depends large_function) (λ x. x) lower

-- ---- sizes

within : WithinLimits large_program
within = (lit≤ tt, lit≤ tt)

-- ---- all of them

abbrev all_functions : List Function
all_functions = large_function ∷ []

one : (P : Function → Type 0) → P large_function → All P all_functions
one P holds = All-cons P large_function [] holds (All-nil P)

examined : examine_verdict program_text (Ok large_examined)
unfolding examine_verdict
examined =
    inr (large_tree, program_spelled, inr (large_program, resolved, inr (tt, one (TypedFunction all_functions) (typed all_functions), inr (tt, one (ClockedFunction all_functions) (clocked all_functions), inr (tt, one Causal causal, (within, refl))))))

pub program_accepted : ProgramAccepted
program_accepted = (lit≤ tt, examined)
