-- The walk over an expression, case by case.
use Rattle.std.proofs.Common.{◌≡◌, ℕ, zero, suc, ◌+◌, Bool, true, false, List, [], ◌∷◌, ◌++◌, length, map, refl, sym, ap, ◌∙◌, subst, arith, length-append}
use Rattle.std.specs.Prelude.{Result, Ok, Err, OnOk}
use Rattle.std.proofs.lemmas.List.{length-map, map-append, append_assoc, append-nil}
use Rattle.lt_base.specs.declared.value.Value.{Value}
use Rattle.lt_base.specs.declared.operators.Un.{Un}
use Rattle.lt_base.specs.declared.operators.Bin.{Bin}
use Rattle.lt_base.specs.declared.operators.Imp.{Imp}
use Rattle.lt_base.specs.declared.function.Decl.{Decl}
use Rattle.lt_base.specs.Expression.{Expression, literal, variable, unary, binary, imported, choose, sampled, merged, delayed, call, Arguments}
use Rattle.lt_base.specs.Value.{ty_of}
use Rattle.lt_base.specs.Meaning.{ClockPairs, outer}
use Rattle.lt_norm.specs.Lift.{delays, Delay, lifted, lifted_delays, new_decl, new_equations}
use Rattle.lt_norm.specs.Walk.{AddsDelays, LiftedTo}
use Rattle.lt_norm.proofs.Told.{fresh_length}

abbrev Decls : Type 0
Decls = List Decl

abbrev Eqs : Type 0
Eqs = List (ℕ × Expression)

pub new_equations-append : (n k : ℕ) (xs ys : List Delay) → length xs ≡ k → new_equations n (xs ++ ys) ≡ new_equations n xs ++ new_equations (n + k) ys
new_equations-append n k [] ys e = ap (λ m. new_equations m ys) (omega (arith, e))
new_equations-append n zero (x ∷ xs) ys e = absurd (omega (arith, e))
new_equations-append n (suc k) (x ∷ xs) ys e =
    ap (λ l. (n, delayed x.1 x.2) ∷ l) (new_equations-append (suc n) k xs ys (omega (arith, e)) ∙ ap (λ m. new_equations (suc n) xs ++ new_equations m ys) (omega arith))

pub grown_by : (rs : List Delay) (ds : Decls) (es : Eqs) (ds' : Decls) (es' : Eqs) → AddsDelays rs ds es ds' es' → length ds' ≡ length ds + length rs
grown_by rs ds es ds' es' a = ap length a.decls ∙ length-append ds (map new_decl rs) ∙ ap (λ k. length ds + k) (length-map rs new_decl)

pub adds_none : (ds : Decls) (es : Eqs) → AddsDelays [] ds es ds es
adds_none ds es = record { decls = sym (append-nil ds); eqs = sym (append-nil es) }

pub adds_two : (xs ys : List Delay) (ds ds1 ds2 : Decls) (es es1 es2 : Eqs) → AddsDelays xs ds es ds1 es1 → AddsDelays ys ds1 es1 ds2 es2 → AddsDelays (xs ++ ys) ds es ds2 es2
adds_two xs ys ds ds1 ds2 es es1 es2 a b = record {
  decls = b.decls
      ∙ ap (λ l. l ++ map new_decl ys) a.decls
      ∙ append_assoc ds (map new_decl xs) (map new_decl ys)
      ∙ ap (λ l. ds ++ l) (sym (map-append new_decl xs ys));
  eqs = b.eqs
      ∙ (λ i. a.eqs i ++ new_equations (grown_by xs ds es ds1 es1 a i) ys)
      ∙ append_assoc es (new_equations (length ds) xs) (new_equations (length ds + length xs) ys)
      ∙ ap (λ l. es ++ l) (sym (new_equations-append (length ds) (length xs) xs ys refl));
}

pub lift_length : (ck : ClockPairs) (e : Expression) (ds : Decls) (es : Eqs) (ds' : Decls) (es' : Eqs) (e' : Expression) → LiftedTo ck e ds es ds' es' e' → length ds' ≡ length ds + delays e
lift_length ck e ds es ds' es' e' l = grown_by _ ds es ds' es' l.rows ∙ ap (λ k. length ds + k) (fresh_length (length ds) ck e)

pub lift_literal : (ck : ClockPairs) (v : Value) (ds : Decls) (es : Eqs) → LiftedTo ck (literal v) ds es ds es (literal v)
lift_literal ck v ds es = record { form = refl; rows = adds_none ds es }

pub lift_variable : (ck : ClockPairs) (x : ℕ) (ds : Decls) (es : Eqs) → LiftedTo ck (variable x) ds es ds es (variable x)
lift_variable ck x ds es = record { form = refl; rows = adds_none ds es }

pub lift_call : (ck : ClockPairs) (g : ℕ) (args : Arguments) (ds : Decls) (es : Eqs) → LiftedTo ck (call g args) ds es ds es (call g args)
lift_call ck g args ds es = record { form = refl; rows = adds_none ds es }

pub lift_unary : (ck : ClockPairs) (o : Un) (a a' : Expression) (ds ds' : Decls) (es es' : Eqs) → LiftedTo ck a ds es ds' es' a' → LiftedTo ck (unary o a) ds es ds' es' (unary o a')
lift_unary ck o a a' ds ds' es es' l = record { form = ap (unary o) l.form; rows = l.rows }

pub lift_sampled : (ck : ClockPairs) (c : ℕ) (b : Bool) (a a' : Expression) (ds ds' : Decls) (es es' : Eqs) → LiftedTo (outer ck) a ds es ds' es' a' → LiftedTo ck (sampled a c b) ds es ds' es' (sampled a' c b)
lift_sampled ck c b a a' ds ds' es es' l = record { form = ap (λ z. sampled z c b) l.form; rows = l.rows }

-- two operands, perhaps at two clocks
rows_two : (ck ck' : ClockPairs) (a a' b b' : Expression) (ds ds1 ds2 : Decls) (es es1 es2 : Eqs) → LiftedTo ck a ds es ds1 es1 a' → LiftedTo ck' b ds1 es1 ds2 es2 b' → AddsDelays (lifted_delays (length ds) ck a ++ lifted_delays (length ds + delays a) ck' b) ds es ds2 es2
rows_two ck ck' a a' b b' ds ds1 ds2 es es1 es2 l m =
    adds_two (lifted_delays (length ds) ck a) _ ds ds1 ds2 es es1 es2 l.rows (subst (λ n. AddsDelays (lifted_delays n ck' b) ds1 es1 ds2 es2) (lift_length ck a ds es ds1 es1 a' l) m.rows)

form_two : (ck ck' : ClockPairs) (a a' b b' : Expression) (ds ds1 ds2 : Decls) (es es1 es2 : Eqs) → LiftedTo ck a ds es ds1 es1 a' → LiftedTo ck' b ds1 es1 ds2 es2 b' → b' ≡ lifted (length ds + delays a) b
form_two ck ck' a a' b b' ds ds1 ds2 es es1 es2 l m = m.form ∙ ap (λ n. lifted n b) (lift_length ck a ds es ds1 es1 a' l)

pub lift_binary : (ck : ClockPairs) (o : Bin) (a a' b b' : Expression) (ds ds1 ds2 : Decls) (es es1 es2 : Eqs) → LiftedTo ck a ds es ds1 es1 a' → LiftedTo ck b ds1 es1 ds2 es2 b' → LiftedTo ck (binary o a b) ds es ds2 es2 (binary o a' b')
lift_binary ck o a a' b b' ds ds1 ds2 es es1 es2 l m =
    let f = form_two ck ck a a' b b' ds ds1 ds2 es es1 es2 l m in
    record { form = λ i. binary o (l.form i) (f i); rows = rows_two ck ck a a' b b' ds ds1 ds2 es es1 es2 l m }

pub lift_imported : (ck : ClockPairs) (o : Imp) (a a' b b' : Expression) (ds ds1 ds2 : Decls) (es es1 es2 : Eqs) → LiftedTo ck a ds es ds1 es1 a' → LiftedTo ck b ds1 es1 ds2 es2 b' → LiftedTo ck (imported o a b) ds es ds2 es2 (imported o a' b')
lift_imported ck o a a' b b' ds ds1 ds2 es es1 es2 l m =
    let f = form_two ck ck a a' b b' ds ds1 ds2 es es1 es2 l m in
    record { form = λ i. imported o (l.form i) (f i); rows = rows_two ck ck a a' b b' ds ds1 ds2 es es1 es2 l m }

pub lift_merged : (ck : ClockPairs) (c : ℕ) (a a' b b' : Expression) (ds ds1 ds2 : Decls) (es es1 es2 : Eqs) → LiftedTo ((c, true) ∷ ck) a ds es ds1 es1 a' → LiftedTo ((c, false) ∷ ck) b ds1 es1 ds2 es2 b' → LiftedTo ck (merged c a b) ds es ds2 es2 (merged c a' b')
lift_merged ck c a a' b b' ds ds1 ds2 es es1 es2 l m =
    let f = form_two ((c, true) ∷ ck) ((c, false) ∷ ck) a a' b b' ds ds1 ds2 es es1 es2 l m in
    record { form = λ i. merged c (l.form i) (f i); rows = rows_two ((c, true) ∷ ck) ((c, false) ∷ ck) a a' b b' ds ds1 ds2 es es1 es2 l m }

-- the same at clocks that were made for the branches
pub lift_merged_from : (ck ck1 ck2 : ClockPairs) (c c1 c2 : ℕ) (a a' b b' : Expression) (ds ds1 ds2 : Decls) (es es1 es2 : Eqs) → LiftedTo ck1 a ds es ds1 es1 a' → LiftedTo ck2 b ds1 es1 ds2 es2 b' → ck1 ≡ (c1, true) ∷ ck → ck2 ≡ (c2, false) ∷ ck → c1 ≡ c → c2 ≡ c → LiftedTo ck (merged c a b) ds es ds2 es2 (merged c a' b')
lift_merged_from ck ck1 ck2 c c1 c2 a a' b b' ds ds1 ds2 es es1 es2 l m p q j k =
    lift_merged ck c a a' b b' ds ds1 ds2 es es1 es2
    (subst (λ n. LiftedTo n a ds es ds1 es1 a') (p ∙ ap (λ n. (n, true) ∷ ck) j) l)
    (subst (λ n. LiftedTo n b ds1 es1 ds2 es2 b') (q ∙ ap (λ n. (n, false) ∷ ck) k) m)

pub lift_choose : (ck : ClockPairs) (c c' a a' b b' : Expression) (ds ds1 ds2 ds3 : Decls) (es es1 es2 es3 : Eqs) → LiftedTo ck c ds es ds1 es1 c' → LiftedTo ck a ds1 es1 ds2 es2 a' → LiftedTo ck b ds2 es2 ds3 es3 b' → LiftedTo ck (choose c a b) ds es ds3 es3 (choose c' a' b')
lift_choose ck c c' a a' b b' ds ds1 ds2 ds3 es es1 es2 es3 k l m =
    let n1 = lift_length ck c ds es ds1 es1 c' k in
    let f : a' ≡ lifted (length ds + delays c) a = l.form ∙ ap (λ n. lifted n a) n1 in
    let g : b' ≡ lifted ((length ds + delays c) + delays a) b = m.form ∙ ap (λ n. lifted n b) (lift_length ck a ds1 es1 ds2 es2 a' l ∙ ap (λ n. n + delays a) n1) in
    record {
      form = λ i. choose (k.form i) (f i) (g i);
      rows = adds_two (lifted_delays (length ds) ck c) _ ds ds1 ds3 es es1 es3 k.rows (subst (λ n. AddsDelays (lifted_delays n ck a ++ lifted_delays (n + delays a) ck b) ds1 es1 ds3 es3) n1 (rows_two ck ck a a' b b' ds1 ds2 ds3 es1 es2 es3 l m));
    }

pub lift_delayed : (ck : ClockPairs) (v : Value) (a a' : Expression) (z : ℕ) (ds ds1 ds2 : Decls) (es es1 es2 : Eqs) → LiftedTo ck a ds es ds1 es1 a' → z ≡ length ds1 → AddsDelays ((ck, v, a') ∷ []) ds1 es1 ds2 es2 → LiftedTo ck (delayed v a) ds es ds2 es2 (variable z)
lift_delayed ck v a a' z ds ds1 ds2 es es1 es2 l q r = record {
  form = ap variable (q ∙ lift_length ck a ds es ds1 es1 a' l);
  rows = adds_two (lifted_delays (length ds) ck a) _ ds ds1 ds2 es es1 es2 l.rows (subst (λ e. AddsDelays ((ck, v, e) ∷ []) ds1 es1 ds2 es2) l.form r);
}

-- the same where the delay itself became the equation of a new variable
pub lift_named : (ck : ClockPairs) (v v' : Value) (a a' right : Expression) (ds ds1 ds2 : Decls) (es es1 es2 : Eqs) → LiftedTo ck a ds es ds1 es1 a' → ds2 ≡ ds1 ++ record { name = []; ty = ty_of v'; clock = ck } ∷ [] → es2 ≡ es1 ++ (length ds1, right) ∷ [] → v' ≡ v → right ≡ delayed v a' → LiftedTo ck (delayed v a) ds es ds2 es2 (variable (length ds1))
lift_named ck v v' a a' right ds ds1 ds2 es es1 es2 l d e p r =
    lift_delayed ck v a a' (length ds1) ds ds1 ds2 es es1 es2 l refl (record { decls = d ∙ ap (λ (w : Value). ds1 ++ new_decl (ck, w, a') ∷ []) p; eqs = e ∙ ap (λ (z : Expression). es1 ++ (length ds1, z) ∷ []) r })

-- the same of equal expressions
pub moved : (ck : ClockPairs) (e0 e1 : Expression) (ds : Decls) (es : Eqs) (ds' : Decls) (es' : Eqs) (r0 r1 : Expression) → e0 ≡ e1 → r0 ≡ r1 → LiftedTo ck e1 ds es ds' es' r1 → LiftedTo ck e0 ds es ds' es' r0
moved ck e0 e1 ds es ds' es' r0 r1 p q l = subst (λ z. LiftedTo ck z ds es ds' es' r0) (sym p) (subst (λ z. LiftedTo ck e1 ds es ds' es' z) (sym q) l)

-- ---- where a call ends well

pub on_ok : {A E : Type 0} (r : Result A E) (P Q : Type 0) → (P → Q) → OnOk r P → OnOk r Q
on_ok (Ok a) P Q f h = f h
on_ok (Err e) P Q f h = h

pub on_ok_three : {A E : Type 0} (r : Result A E) (P Q R S : Type 0) → (P → Q → R → S) → OnOk r P → OnOk r Q → OnOk r R → OnOk r S
on_ok_three (Ok a) P Q R S f h k l = f h k l
on_ok_three (Err e) P Q R S f h k l = h
