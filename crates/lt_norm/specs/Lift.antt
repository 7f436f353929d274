-- Each delay inside an expression becomes the equation of a variable of its own, on the clock of its place.
use Rattle.std.specs.Prelude.{◌≡◌, ℕ, suc, ◌+◌, ◌<◌, true, false, Some, List, [], ◌∷◌, ◌++◌, length, map}
use Rattle.lt_base.specs.declared.value.Value.{Value}
use Rattle.lt_base.specs.declared.function.Decl.{Decl}
use Rattle.lt_base.specs.Value.{ty_of}
use Rattle.lt_base.specs.Expression.{Expression, literal, variable, unary, binary, imported, choose, sampled, merged, delayed, follow, arrow, call}
use Rattle.lt_base.specs.Program.{Function}
use Rattle.lt_base.specs.Meaning.{ClockPairs, clock_of, right_of, outer}
use Rattle.lt_base.specs.Typing.{ty_at}
use Rattle.lt_norm.specs.Plain.{plain_function}

-- the delays with a literal in an expression, outside calls and outside `->` and `fby` of other forms
abbrev pub delays : Expression → ℕ
delays (literal v) = 0
delays (variable x) = 0
delays (unary o a) = delays a
delays (binary o a b) = delays a + delays b
delays (imported o a b) = delays a + delays b
delays (choose c a b) = delays c + (delays a + delays b)
delays (sampled e c b) = delays e
delays (merged c a b) = delays a + delays b
delays (delayed v e) = delays e + 1
delays (follow a b) = 0
delays (arrow a b) = 0
delays (call g args) = 0

-- the expression with a variable in place of each of these delays, numbered from n, inner ones first
abbrev pub lifted : ℕ → Expression → Expression
lifted n (literal v) = literal v
lifted n (variable x) = variable x
lifted n (unary o a) = unary o (lifted n a)
lifted n (binary o a b) = binary o (lifted n a) (lifted (n + delays a) b)
lifted n (imported o a b) = imported o (lifted n a) (lifted (n + delays a) b)
lifted n (choose c a b) = choose (lifted n c) (lifted (n + delays c) a) (lifted ((n + delays c) + delays a) b)
lifted n (sampled e c b) = sampled (lifted n e) c b
lifted n (merged c a b) = merged c (lifted n a) (lifted (n + delays a) b)
lifted n (delayed v e) = variable (n + delays e)
lifted n (follow a b) = follow a b
lifted n (arrow a b) = arrow a b
lifted n (call g args) = call g args

-- a lifted delay: the clock of its place, its literal and what it delays
abbrev pub Delay : Type 0
Delay = ClockPairs × Value × Expression

-- the lifted delays of an expression at a clock, in order of their numbers
abbrev pub lifted_delays : ℕ → ClockPairs → Expression → List Delay
lifted_delays n ck (literal v) = []
lifted_delays n ck (variable x) = []
lifted_delays n ck (unary o a) = lifted_delays n ck a
lifted_delays n ck (binary o a b) = lifted_delays n ck a ++ lifted_delays (n + delays a) ck b
lifted_delays n ck (imported o a b) = lifted_delays n ck a ++ lifted_delays (n + delays a) ck b
lifted_delays n ck (choose c a b) = lifted_delays n ck c ++ (lifted_delays (n + delays c) ck a ++ lifted_delays ((n + delays c) + delays a) ck b)
lifted_delays n ck (sampled e c b) = lifted_delays n (outer ck) e
lifted_delays n ck (merged c a b) = lifted_delays n ((c, true) ∷ ck) a ++ lifted_delays (n + delays a) ((c, false) ∷ ck) b
lifted_delays n ck (delayed v e) = lifted_delays n ck e ++ (ck, v, lifted n e) ∷ []
lifted_delays n ck (follow a b) = []
lifted_delays n ck (arrow a b) = []
lifted_delays n ck (call g args) = []

-- a right side: a delay with a literal at its top stays there
abbrev pub on_right : {A : Type 0} → Expression → (Value → Expression → A) → A → A
on_right (delayed v e) f a = f v e
on_right e f a = a

-- the delays that are lifted out of a right side
abbrev pub right_delays : Expression → ℕ
right_delays e = on_right e (λ v a. delays a) (delays e)

-- a right side without them
abbrev pub right_lifted : ℕ → Expression → Expression
right_lifted n e = on_right e (λ v a. delayed v (lifted n a)) (lifted n e)

-- these delays
abbrev pub right_fresh : ℕ → ClockPairs → Expression → List Delay
right_fresh n ck e = on_right e (λ v a. lifted_delays n ck a) (lifted_delays n ck e)

-- the delays that are lifted out of these equations
abbrev pub equations_delays : List (ℕ × Expression) → ℕ
equations_delays [] = 0
equations_delays (q ∷ qs) = right_delays q.1 + equations_delays qs

-- the equations without them
abbrev pub equations_lifted : ℕ → List (ℕ × Expression) → List (ℕ × Expression)
equations_lifted n [] = []
equations_lifted n (q ∷ qs) = (q.0, right_lifted n q.1) ∷ equations_lifted (n + right_delays q.1) qs

-- these delays, equation by equation
abbrev pub equations_fresh : List Decl → ℕ → List (ℕ × Expression) → List Delay
equations_fresh ds n [] = []
equations_fresh ds n (q ∷ qs) = right_fresh n (clock_of ds q.0) q.1 ++ equations_fresh ds (n + right_delays q.1) qs

-- a lifted delay is declared without a name, with the type of its literal and the clock of its place
abbrev pub new_decl : Delay → Decl
new_decl r = record { name = []; ty = ty_of r.1; clock = r.0 }

-- the equations of the lifted delays, numbered from n
abbrev pub new_equations : ℕ → List Delay → List (ℕ × Expression)
new_equations n [] = []
new_equations n (r ∷ rs) = (n, delayed r.1 r.2) ∷ new_equations (suc n) rs

-- a function with each of its delays on a right side of its own
abbrev pub lift_function : Function → Function
lift_function f =
    let n = length f.decls in
    let rs = equations_fresh f.decls n f.eqs in
    record {
      name = f.name;
      decls = f.decls ++ map new_decl rs;
      n_in = f.n_in;
      outs = f.outs;
      eqs = equations_lifted n f.eqs ++ new_equations n rs;
    }

-- the normal form of a function without calls
abbrev pub normal_form : Function → Function
normal_form f = lift_function (plain_function f)

-- the lifted delays stand in a function from number n on
abbrev pub Stand : Function → ℕ → List Delay → Type 0
Stand F n [] = Unit {0}
Stand F n (r ∷ rs) =
    (n < length F.decls) × (clock_of F.decls n ≡ r.0) × (ty_at F.decls n ≡ Some (ty_of r.1)) × (right_of F.eqs n ≡ Some (delayed r.1 r.2)) × Stand F (suc n) rs
