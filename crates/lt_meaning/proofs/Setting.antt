-- The step of an equation.
use Rattle.std.proofs.Common.{◌≡◌, ℕ, zero, suc, ◌<◌, List, [], ◌∷◌, length, get_or, Result, Ok, Err, OnOk, refl, sym, ap, ◌∙◌, arith}
use Rattle.lt_base.specs.declared.function.Decl.{Decl}
use Rattle.lt_base.specs.declared.memory.Memory.{Memory}
use Rattle.lt_base.specs.Expression.{Expression}
use Rattle.lt_base.specs.Meaning.{ClockPairs, clock_of}
use Rattle.lt_meaning.specs.Form.{NodeForm}
use Rattle.lt_meaning.specs.Plan.{sets}
use Rattle.lt_meaning.specs.Lift.{form_of, whole, step_of}
use Rattle.lt_meaning.specs.Taken.{Taken, taken_after, with_step}

pub clock_of_is : (ds : List Decl) (x : ℕ) (d : Decl) → x < length ds → clock_of ds x ≡ (get_or ds x d).clock
clock_of_is [] x d h = absurd (omega arith)
clock_of_is (e ∷ ds) zero d h = refl
clock_of_is (e ∷ ds) (suc x) d h = clock_of_is ds x d (omega arith)

pub set_made : (x y z : Taken) (r : Result (Unit {0}) Memory) (ds slice : List Decl) (left again : ℕ) (d : Decl) (q : ℕ × Expression) (e : Expression) (form : NodeForm) (ck : ClockPairs) → ck ≡ (get_or slice left d).clock → q.0 < length ds → slice ≡ ds → left ≡ q.0 → again ≡ q.0 → e ≡ q.1
    → form ≡ form_of (length x.waits) x.cells e → y ≡ taken_after x e (get_or slice left d).clock → OnOk r (z ≡ with_step y (record { cell = again; clock = ck; action = sets form }))
    → OnOk r (z ≡ with_step (taken_after x q.1 (clock_of ds q.0)) (step_of (record { cell = q.0; clock = clock_of ds q.0; delays_before = length x.waits; cells_before = x.cells; source = whole q.1 })))
set_made x y z (Err m) ds slice left again d q e form ck ck_is room s l a is f g h = tt
set_made x y z (Ok u) ds slice left again d q e form ck ck_is room s l a is f g h =
    let clock : (get_or slice left d).clock ≡ clock_of ds q.0 = ap (λ (d : Decl). d.clock) (λ i. get_or (s i) (l i) d) ∙ sym (clock_of_is ds q.0 d room) in
    let made : y ≡ taken_after x q.1 (clock_of ds q.0) = g ∙ (λ i. taken_after x (is i) (clock i)) in
    let forms : form ≡ form_of (length x.waits) x.cells q.1 = f ∙ ap (form_of (length x.waits) x.cells) is in
    h ∙ (λ i. with_step (made i) (record { cell = a i; clock = (ck_is ∙ clock) i; action = sets (forms i) }))
