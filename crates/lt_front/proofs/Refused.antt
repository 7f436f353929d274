-- What refuses a program by the fault of a check.
use Rattle.std.proofs.Common.{◌≡◌, ◌⊎◌, ℕ, List, Ok, Err, refl}
use Rattle.std.specs.Prelude.{Result}
use Rattle.lt_base.specs.declared.memory.Or.{Or}
use Rattle.lt_base.specs.declared.memory.Or.TheVariants.{Fault, Memory}
use Rattle.lt_base.specs.Or.{ForFault, MapsFault}
use Rattle.lt_base.specs.Program.{WholeProgram}
use Rattle.lt_base.specs.Clocking.{ClockedProgram}
use Rattle.lt_base.specs.Dependence.{CausalProgram}
use Rattle.lt_cause.specs.declared.causality.Cycle.{Cycle}
use Rattle.lt_cause.specs.Orders.{IsLeastCycle}
use Rattle.lt_check.specs.declared.clocking.ClockFault.{ClockFault}
use Rattle.lt_check.specs.ClockFaults.{IsFirstClockFault}
use Rattle.lt_syntax.specs.declared.tree.NodeText.{NodeText}
use Rattle.lt_resolve.specs.declared.fault.NameFault.{NameFault}
use Rattle.lt_resolve.specs.Resolves.{Resolves}
use Rattle.lt_answer.specs.Answered.{Settles}
use Rattle.lt_front.specs.declared.fault.ProgramFault.{ProgramFault}
use Rattle.lt_front.specs.declared.fault.ProgramFault.TheVariants as fault
use Rattle.lt_front.specs.declared.causality.Circle.{Circle}
use Rattle.lt_front.specs.Causality.{IsFirstCycle}
use Rattle.lt_front.specs.Front.{IsClockFault, IsCycle}
use Rattle.lt_front.specs.Steps.{HandsOn, named_verdict}
use Rattle.lt_front.specs.declared.named.Named.{Named}
use Rattle.lt_front.proofs.Outcomes.{faulty}
use Rattle.lt_front.proofs.Rooms.{cycle_excludes}

-- by its names
pub names_refuse : (t : List NodeText) (e : Or NameFault) (g : Or ProgramFault) → MapsFault e g (λ f h. h ≡ fault.Name f t) → ForFault e (λ f. Resolves t (Err f)) → Settles (named_verdict t) (Err g)
names_refuse t (Fault f) (Fault h) is told = rw is (told, refl)
names_refuse t (Fault f) Memory is told = absurd is
names_refuse t Memory (Fault h) is told = absurd is
names_refuse t Memory Memory is told = tt

-- by its clocks
pub clocks_refuse : (n : Named) (e : Or ClockFault) (g : Or ProgramFault) → MapsFault e g (λ f h. h ≡ fault.Clock f n.tree)
    → (ClockedProgram n.program → (◌≡◌ {A = Result (Unit {0}) (Or ClockFault)} (Err e) (Ok tt)) ⊎ (◌≡◌ {A = Result (Unit {0}) (Or ClockFault)} (Err e) (Err Memory)))
    → ((f : ClockFault) → ◌≡◌ {A = Result (Unit {0}) (Or ClockFault)} (Err e) (Err (Fault f)) → IsFirstClockFault n.program f)
    → Settles (HandsOn n (ClockedProgram n.program) (IsClockFault n.tree n.program)) (Err g)
clocks_refuse n (Fault f) (Fault h) is clocked first = rw is (λ holds. faulty tt _ _ refl (clocked holds), (first f refl, refl))
clocks_refuse n (Fault f) Memory is clocked first = absurd is
clocks_refuse n Memory (Fault h) is clocked first = absurd is
clocks_refuse n Memory Memory is clocked first = tt

-- by a cycle
pub circle_refuses : (n : Named) (e : Or Circle) (g : Or ProgramFault) → MapsFault e g (λ f h. h ≡ fault.Cycle f.func f.cycle n.tree)
    → ForFault e (λ f. IsFirstCycle n.program f.func f.cycle.vars) → Settles (HandsOn n (CausalProgram n.program) (IsCycle n.tree n.program)) (Err g)
circle_refuses n (Fault f) (Fault h) is told = rw is (λ causal. cycle_excludes _ _ _ told causal, (told, refl))
circle_refuses n (Fault f) Memory is told = absurd is
circle_refuses n Memory (Fault h) is told = absurd is
circle_refuses n Memory Memory is told = tt

-- the cycle of a function is the program's
pub first_circle : (p : WholeProgram) (n : ℕ) (e : Or Cycle) (g : Or Circle) → MapsFault e g (λ c f. f ≡ record { func = n; cycle = c })
    → ((c : Cycle) → e ≡ Fault c → IsFirstCycle p n c.vars) → ForFault g (λ f. IsFirstCycle p f.func f.cycle.vars)
first_circle p n (Fault c) (Fault f) is told = rw is (told c refl)
first_circle p n (Fault c) Memory is told = absurd is
first_circle p n Memory (Fault f) is told = absurd is
first_circle p n Memory Memory is told = tt
