-- How large a flat form is: its weight, its expression parts and its clock pairs.
use Rattle.std.proofs.Common.{◌≡◌, ℕ, zero, suc, ◌+◌, ◌*◌, ◌<◌, ◌≤◌, Bool, true, false, cond, List, [], ◌∷◌, ◌++◌, length, refl, ap, arith}
use Rattle.std.specs.Prelude.{All, nat_lt}
use Rattle.std.specs.List.{sum_by}
use Rattle.std.proofs.lemmas.List.Elements.{All-head, All-tail}
use Rattle.std.proofs.lemmas.List.Sums.{sum_by-cons, sum_by-append}
use Rattle.std.proofs.lemmas.Bool.Decides.{nat_tests}
use Rattle.lt_base.specs.declared.function.Decl.{Decl}
use Rattle.lt_base.specs.Expression.{Expression, literal, variable, unary, binary, imported, choose, sampled, merged, delayed, follow, arrow, call, parts}
use Rattle.lt_base.specs.Program.{Function, GoodFunction}
use Rattle.lt_base.specs.Meaning.{ClockPairs, clock_of, outer}
use Rattle.lt_base.specs.Clocking.{WellFormed}
use Rattle.lt_base.specs.Sizes.{cost, weight_with, parts_with}
use Rattle.lt_norm.specs.Plain.{plain, plain_equations}
use Rattle.lt_norm.specs.Lift.{Delay, delays, lifted, lifted_delays, right_delays, right_lifted, right_fresh, equations_lifted, equations_fresh, new_equations, normal_form}
use Rattle.lt_norm.specs.Flat.{Direct, FlatRight, FlatFunction}
use Rattle.lt_expand.proofs.Pigeons.{equations_few}

-- ---- weight: at most one delay an equation

direct_cost : (e : Expression) → Direct e → cost 1 (λ _. 0) e ≡ 0
direct_cost (literal v) d = refl
direct_cost (variable x) d = refl
direct_cost (unary o a) d = direct_cost a d
direct_cost (binary o a b) d = let p = direct_cost a d.0 in let q = direct_cost b d.1 in omega (arith, p, q)
direct_cost (imported o a b) d = let p = direct_cost a d.0 in let q = direct_cost b d.1 in omega (arith, p, q)
direct_cost (choose c a b) d =
    let p = direct_cost c d.0 in
    let q = direct_cost a d.1 in
    let r = direct_cost b d.2 in
    omega (arith, p, q, r)
direct_cost (sampled e c b) d = direct_cost e d
direct_cost (merged c a b) d = let p = direct_cost a d.0 in let q = direct_cost b d.1 in omega (arith, p, q)
direct_cost (delayed v e) d = absurd d
direct_cost (follow a b) d = absurd d
direct_cost (arrow a b) d = absurd d
direct_cost (call g args) d = absurd d

other_cost : (e : Expression) → Direct e → cost 1 (λ _. 0) e ≤ 1
other_cost e d = let p = direct_cost e d in omega (arith, p)

flat_cost : (e : Expression) → FlatRight e → cost 1 (λ _. 0) e ≤ 1
flat_cost (delayed v e) d = let p = direct_cost e d in omega (arith, p)
flat_cost (literal v) d = other_cost (literal v) d
flat_cost (variable x) d = other_cost (variable x) d
flat_cost (unary o a) d = other_cost (unary o a) d
flat_cost (binary o a b) d = other_cost (binary o a b) d
flat_cost (imported o a b) d = other_cost (imported o a b) d
flat_cost (choose c a b) d = other_cost (choose c a b) d
flat_cost (sampled e c b) d = other_cost (sampled e c b) d
flat_cost (merged c a b) d = other_cost (merged c a b) d
flat_cost (follow a b) d = other_cost (follow a b) d
flat_cost (arrow a b) d = other_cost (arrow a b) d
flat_cost (call g args) d = other_cost (call g args) d

flat_costs : (qs : List (ℕ × Expression)) → All (λ q. FlatRight q.1) qs → sum_by (λ q. cost 1 (λ _. 0) q.1) qs ≤ length qs
flat_costs [] a = omega arith
flat_costs (q ∷ qs) a =
    let s = sum_by-cons (λ (q : ℕ × Expression). cost 1 (λ _. 0) q.1) q qs in
    let p = flat_cost q.1 (All-head (λ q. FlatRight q.1) q qs a) in
    let h = flat_costs qs (All-tail (λ q. FlatRight q.1) q qs a) in
    omega (arith, s, p, h)

-- variables and delays
pub flat_weight : (F : Function) → GoodFunction F → FlatFunction F → weight_with (λ _. 0) F ≤ length F.decls + length F.decls
flat_weight F good flat =
    let h = flat_costs F.eqs flat in
    let k = equations_few F good in
    omega (arith, h, k)

-- ---- expression parts

-- a `fby` without a literal has the most: a choice, the two parts of a flag, and a delay, beside its sides
plain_parts : (ds : List Decl) (e : Expression) → parts (plain ds e) ≤ 4 * parts e
plain_parts ds (literal v) = omega arith
plain_parts ds (variable x) = omega arith
plain_parts ds (unary o a) = let p = plain_parts ds a in omega (arith, p)
plain_parts ds (binary o a b) = let p = plain_parts ds a in let q = plain_parts ds b in omega (arith, p, q)
plain_parts ds (imported o a b) = let p = plain_parts ds a in let q = plain_parts ds b in omega (arith, p, q)
plain_parts ds (choose c a b) =
    let p = plain_parts ds c in
    let q = plain_parts ds a in
    let r = plain_parts ds b in
    omega (arith, p, q, r)
plain_parts ds (sampled e c b) = let p = plain_parts ds e in omega (arith, p)
plain_parts ds (merged c a b) = let p = plain_parts ds a in let q = plain_parts ds b in omega (arith, p, q)
plain_parts ds (delayed v e) = let p = plain_parts ds e in omega (arith, p)
plain_parts ds (follow a b) = let p = plain_parts ds a in let q = plain_parts ds b in omega (arith, p, q)
plain_parts ds (arrow a b) = let p = plain_parts ds a in let q = plain_parts ds b in omega (arith, p, q)
plain_parts ds (call g args) = omega arith

-- the parts of the equations of lifted delays
abbrev rows_parts : List Delay → ℕ
rows_parts [] = 0
rows_parts (r ∷ rs) = (1 + parts r.2) + rows_parts rs

rows_more : (rs ts : List Delay) → rows_parts (rs ++ ts) ≡ rows_parts rs + rows_parts ts
rows_more [] ts = omega arith
rows_more (r ∷ rs) ts = let h = rows_more rs ts in omega (arith, h)

-- a delay leaves a variable, and its equation has it beside what it delays
lifted_parts : (e : Expression) (n : ℕ) (ck : ClockPairs) → parts (lifted n e) + rows_parts (lifted_delays n ck e) ≤ 2 * parts e
lifted_parts (literal v) n ck = omega arith
lifted_parts (variable x) n ck = omega arith
lifted_parts (unary o a) n ck = let p = lifted_parts a n ck in omega (arith, p)
lifted_parts (binary o a b) n ck =
    let m = n + delays a in
    let s = rows_more (lifted_delays n ck a) (lifted_delays m ck b) in
    let p = lifted_parts a n ck in
    let q = lifted_parts b m ck in
    omega (arith, s, p, q)
lifted_parts (imported o a b) n ck =
    let m = n + delays a in
    let s = rows_more (lifted_delays n ck a) (lifted_delays m ck b) in
    let p = lifted_parts a n ck in
    let q = lifted_parts b m ck in
    omega (arith, s, p, q)
lifted_parts (choose c a b) n ck =
    let m = n + delays c in
    let k = m + delays a in
    let s = rows_more (lifted_delays n ck c) (lifted_delays m ck a ++ lifted_delays k ck b) in
    let t = rows_more (lifted_delays m ck a) (lifted_delays k ck b) in
    let p = lifted_parts c n ck in
    let q = lifted_parts a m ck in
    let r = lifted_parts b k ck in
    omega (arith, s, t, p, q, r)
lifted_parts (sampled e c b) n ck = let p = lifted_parts e n (outer ck) in omega (arith, p)
lifted_parts (merged c a b) n ck =
    let m = n + delays a in
    let s = rows_more (lifted_delays n ((c, true) ∷ ck) a) (lifted_delays m ((c, false) ∷ ck) b) in
    let p = lifted_parts a n ((c, true) ∷ ck) in
    let q = lifted_parts b m ((c, false) ∷ ck) in
    omega (arith, s, p, q)
lifted_parts (delayed v e) n ck =
    let s = rows_more (lifted_delays n ck e) ((ck, v, lifted n e) ∷ []) in
    let p = lifted_parts e n ck in
    omega (arith, s, p)
lifted_parts (follow a b) n ck = omega arith
lifted_parts (arrow a b) n ck = omega arith
lifted_parts (call g args) n ck = omega arith

right_parts : (e : Expression) (n : ℕ) (ck : ClockPairs) → parts (right_lifted n e) + rows_parts (right_fresh n ck e) ≤ 2 * parts e
right_parts (delayed v e) n ck = let p = lifted_parts e n ck in omega (arith, p)
right_parts (literal v) n ck = lifted_parts (literal v) n ck
right_parts (variable x) n ck = lifted_parts (variable x) n ck
right_parts (unary o a) n ck = lifted_parts (unary o a) n ck
right_parts (binary o a b) n ck = lifted_parts (binary o a b) n ck
right_parts (imported o a b) n ck = lifted_parts (imported o a b) n ck
right_parts (choose c a b) n ck = lifted_parts (choose c a b) n ck
right_parts (sampled e c b) n ck = lifted_parts (sampled e c b) n ck
right_parts (merged c a b) n ck = lifted_parts (merged c a b) n ck
right_parts (follow a b) n ck = lifted_parts (follow a b) n ck
right_parts (arrow a b) n ck = lifted_parts (arrow a b) n ck
right_parts (call g args) n ck = lifted_parts (call g args) n ck

-- the parts of right sides
abbrev sides_parts : List (ℕ × Expression) → ℕ
sides_parts qs = sum_by (λ q. parts q.1) qs

sides_cons : (q : ℕ × Expression) (qs : List (ℕ × Expression)) → sides_parts (q ∷ qs) ≡ parts q.1 + sides_parts qs
sides_cons q qs = sum_by-cons (λ (q : ℕ × Expression). parts q.1) q qs

equations_parts : (ds : List Decl) (n : ℕ) (qs : List (ℕ × Expression)) → sides_parts (equations_lifted n qs) + rows_parts (equations_fresh ds n qs) ≤ 2 * sides_parts qs
equations_parts ds n [] = omega arith
equations_parts ds n (q ∷ qs) =
    let m = n + right_delays q.1 in
    let c = sides_cons q qs in
    let d = sides_cons (q.0, right_lifted n q.1) (equations_lifted m qs) in
    let s = rows_more (right_fresh n (clock_of ds q.0) q.1) (equations_fresh ds m qs) in
    let p = right_parts q.1 n (clock_of ds q.0) in
    let h = equations_parts ds m qs in
    omega (arith, c, d, s, p, h)

new_parts : (n : ℕ) (rs : List Delay) → sides_parts (new_equations n rs) ≡ rows_parts rs
new_parts n [] = refl
new_parts n (r ∷ rs) =
    let c = sides_cons (n, delayed r.1 r.2) (new_equations (suc n) rs) in
    let h = new_parts (suc n) rs in
    omega (arith, c, h)

plain_sides : (ds : List Decl) (qs : List (ℕ × Expression)) → sides_parts (plain_equations ds qs) ≤ 4 * sides_parts qs
plain_sides ds [] = omega arith
plain_sides ds (q ∷ qs) =
    let c = sides_cons q qs in
    let d = sides_cons (q.0, plain ds q.1) (plain_equations ds qs) in
    let p = plain_parts ds q.1 in
    let h = plain_sides ds qs in
    omega (arith, c, d, p, h)

-- the normal form of a function has at most eight times its parts
normal_parts : (f : Function) → sides_parts (normal_form f).eqs ≤ 8 * sides_parts f.eqs
normal_parts f =
    let n = length f.decls in
    let qs = plain_equations f.decls f.eqs in
    let rs = equations_fresh f.decls n qs in
    let a = sum_by-append (λ (q : ℕ × Expression). parts q.1) (equations_lifted n qs) (new_equations n rs) in
    let b = new_parts n rs in
    let c = equations_parts f.decls n qs in
    let d = plain_sides f.decls f.eqs in
    omega (arith, a, b, c, d)

sides_within : (w : ℕ → ℕ) (qs : List (ℕ × Expression)) → sides_parts qs ≤ sum_by (λ q. parts q.1 + cost 0 w q.1) qs
sides_within w [] = omega arith
sides_within w (q ∷ qs) =
    let c = sides_cons q qs in
    let d = sum_by-cons (λ (q : ℕ × Expression). parts q.1 + cost 0 w q.1) q qs in
    let h = sides_within w qs in
    omega (arith, c, d, h)

pub flat_parts : (f : Function) → sides_parts (normal_form f).eqs ≤ 8 * parts_with (λ _. 0) f
flat_parts f = let p = normal_parts f in let q = sides_within (λ _. 0) f.eqs in omega (arith, p, q)

-- ---- clock pairs

-- how many declared clocks have fewer than k pairs
abbrev shorter : ℕ → List Decl → ℕ
shorter k [] = 0
shorter k (d ∷ ds) = cond (nat_lt (length d.clock) k) 1 0 + shorter k ds

at_most_one : (b : Bool) → cond b 1 0 ≤ 1
at_most_one true = omega arith
at_most_one false = omega arith

shorter_all : (k : ℕ) (ds : List Decl) → shorter k ds ≤ length ds
shorter_all k [] = omega arith
shorter_all k (d ∷ ds) = let h = shorter_all k ds in let o = at_most_one (nat_lt (length d.clock) k) in omega (arith, h, o)

still_shorter : (m k : ℕ) → cond (nat_lt m k) 1 0 ≤ cond (nat_lt m (suc k)) 1 0
still_shorter m k = grind (arith, nat_tests)

now_shorter : (m k : ℕ) → m ≡ k → suc (cond (nat_lt m k) 1 0) ≡ cond (nat_lt m (suc k)) 1 0
now_shorter m k e = grind (arith, nat_tests, e)

shorter_on : (k : ℕ) (ds : List Decl) → shorter k ds ≤ shorter (suc k) ds
shorter_on k [] = omega arith
shorter_on k (d ∷ ds) = let h = shorter_on k ds in let s = still_shorter (length d.clock) k in omega (arith, h, s)

-- one more where a clock has k pairs
shorter_more : (k : ℕ) (ds : List Decl) (x : ℕ) → x < length ds → length (clock_of ds x) ≡ k → suc (shorter k ds) ≤ shorter (suc k) ds
shorter_more k [] x l e = absurd (omega (arith, l))
shorter_more k (d ∷ ds) zero l e = let h = shorter_on k ds in let s = now_shorter (length d.clock) k e in omega (arith, h, s)
shorter_more k (d ∷ ds) (suc x) l e =
    let h = shorter_more k ds x (omega (arith, l)) e in
    let s = still_shorter (length d.clock) k in
    omega (arith, h, s)

-- the variables along a clock have shorter clocks, each of another length
along_clock : (ds : List Decl) (ck : ClockPairs) → WellFormed ds ck → length ck ≤ shorter (length ck) ds
along_clock ds [] w = omega arith
along_clock ds (p ∷ ck) w =
    let h = along_clock ds ck w.2 in
    let s = shorter_more (length ck) ds p.0 w.0 (ap length w.1) in
    omega (arith, h, s)

clock_length : (ds : List Decl) (ck : ClockPairs) → WellFormed ds ck → length ck ≤ length ds
clock_length ds ck w = let h = along_clock ds ck w in let s = shorter_all (length ck) ds in omega (arith, h, s)

pairs_within : (ds : List Decl) → ((x : ℕ) → length (clock_of ds x) ≤ 4096) → sum_by (λ (d : Decl). length d.clock) ds ≤ 4096 * length ds
pairs_within [] h = omega arith
pairs_within (d ∷ ds) h =
    let c = sum_by-cons (λ (d : Decl). length d.clock) d ds in
    let here : length d.clock ≤ 4096 = h 0 in
    let r = pairs_within ds (λ x. h (suc x)) in
    omega (arith, c, here, r)

pub flat_pairs : (ds : List Decl) → ((x : ℕ) → WellFormed ds (clock_of ds x)) → length ds ≤ 4096 → sum_by (λ (d : Decl). length d.clock) ds ≤ 16777216
flat_pairs ds clocks few =
    let h = pairs_within ds (λ x. let l = clock_length ds (clock_of ds x) (clocks x) in omega (arith, l, few)) in
    omega (arith, h, few)
