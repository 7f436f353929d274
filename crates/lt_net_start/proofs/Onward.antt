-- From the answer of one step to that of the next.
use Rattle.std.proofs.Common.{◌≡◌, inl, inr, ℕ, Bool, List, Option, Result, Ok, Err, sym, subst}
use Rattle.std.specs.Prelude.{IsErrAnd}
use Rattle.lt_answer.specs.Answered.{Verdict, AndThen}
use Rattle.lt_schedule.specs.Rules.{Rules}
use Rattle.lt_schedule.specs.Replayed.{TakesFile}

-- an error that is handed on
pub at_error : {T E : Type 0} (P : Result T E → Type 0) (r : Result T E) (e : E) → IsErrAnd r (λ f. f ≡ e) → P (Err e) → P r
at_error P (Ok x) e is refused = absurd is
at_error P (Err f) e is refused = subst (λ g. P (Err g)) (sym is) refused

-- a step after one that gave nothing but leave to go on
abbrev pub Allowed : {E : Type 0} → Verdict (Unit {0}) E
Allowed (Ok x) = Unit {0}
Allowed (Err e) = ⊥

pub after_leave : {U E : Type 0} (W : Verdict U E) (o : Result U E) → AndThen Allowed (λ _. W) o → W o
after_leave W (Ok x) (inl h) = absurd h
after_leave W (Err e) (inl h) = absurd h
after_leave W o (inr h) = h.2

-- what follows of all that stands for the events of a file
pub stands_too : {E O : Type 0} (rules : Rules E O) (P Q : List E → Type 0) → ((events : List E) → P events → Q events) → (told : Bool) (file : Option (List ℕ)) → TakesFile rules P told file → TakesFile rules Q told file
stands_too rules P Q follows told file takes = record { events = takes.events; stands_for = follows takes.events takes.stands_for; stops = takes.stops; reads = takes.reads }
