-- A line that is not taken for a fault of a running net.
use Rattle.std.proofs.Common.{◌≡◌, ◌<◌, ℕ, List, Option, Some, None, sym, ap, ◌∙◌, subst}
use Rattle.std.specs.Prelude.{Result, Ok, Err, IsErrOf}
use Rattle.lt_arch.specs.declared.event.Offence.{Offence}
use Rattle.lt_schedule.specs.declared.halt.Stop.{Stop}
use Rattle.lt_schedule.specs.declared.halt.Stop.TheVariants as stop
use Rattle.lt_schedule.specs.Rules.{Rules}
use Rattle.lt_schedule.specs.Taken.{JudgesLine, StopCountedBy, IsStopMemory}
use Rattle.lt_net.specs.declared.fault.First.{First}
use Rattle.lt_net.specs.declared.fault.NetFault.{NetFault}
use Rattle.lt_net.specs.declared.fault.NetFault.TheVariants as net
use Rattle.lt_net.specs.declared.fault.First.TheVariants as first
use Rattle.lt_net.specs.Event.{NetRefuses}
use Rattle.lt_net.specs.NetModel.{NetState}
use Rattle.lt_net_replay.specs.Blamed.{IsStopOf}
use Rattle.lt_net_replay.specs.Playing.{StopsAtEvent, JudgesPlayed}
use Rattle.lt_net_start.specs.Ends.{LeavesNet}

-- a net that runs was not stopped
pub runs_on : {T : Type 0} (r : Result T NetFault) (fault : NetFault) → r ≡ Err fault → (stopped : Option First) → stopped ≡ None → ((f : First) → r ≡ Err (net.Stopped f) → stopped ≡ Some f) → (f : First) → fault ≡ net.Stopped f → ⊥
runs_on r fault is stopped running told f same = absurd (let s : None ≡ Some f = sym running ∙ told f (is ∙ ap (λ x. Err x) same) in cc)

module _ {T : Type 0} (r : Result T NetFault) where
  -- a count of faults rises with a failed call alone
  pub counted : (fault : NetFault) (why : Stop Offence) → r ≡ Err fault → IsStopOf fault why → (before now : ℕ) → (IsErrOf r net.Link → before < now) → ((IsErrOf r net.Link → ⊥) → now ≡ before) → StopCountedBy before now why
  counted (net.Offence o) why is same before now rose calm = subst (StopCountedBy before now) (sym same) (calm (λ link. absurd (let e : Path (Result T NetFault) (Err (net.Offence o)) (Err net.Link) = sym is ∙ link in cc)))
  counted net.Link why is same before now rose calm = subst (StopCountedBy before now) (sym same) (rose is)
  counted net.Memory why is same before now rose calm = subst (StopCountedBy before now) (sym same) (calm (λ link. absurd (let e : Path (Result T NetFault) (Err net.Memory) (Err net.Link) = sym is ∙ link in cc)))
  counted (net.Stopped f) why is same before now rose calm = absurd same

  -- memory is wanted where the net wants it
  pub wanted : (fault : NetFault) (why : Stop Offence) → r ≡ Err fault → IsStopOf fault why → IsStopMemory why → IsErrOf r net.Memory
  wanted (net.Offence o) why is same memory = absurd (subst IsStopMemory same memory)
  wanted net.Link why is same memory = absurd (subst IsStopMemory same memory)
  wanted net.Memory why is same memory = is
  wanted (net.Stopped f) why is same memory = absurd same

  -- an offence is that of the event
  pub stops : {E : Type 0} (rules : Rules E Offence) (before : List E) (e : E) (fault : NetFault) (why : Stop Offence) → r ≡ Err fault → IsStopOf fault why →
      ((o : Offence) → r ≡ Err (net.Offence o) → rules.offence before e ≡ Some o) → StopsAtEvent rules before e why
  stops rules before e (net.Offence o) why is same told = subst (StopsAtEvent rules before e) (sym same) (told o is)
  stops rules before e net.Link why is same told = subst (StopsAtEvent rules before e) (sym same) tt
  stops rules before e net.Memory why is same told = subst (StopsAtEvent rules before e) (sym same) tt
  stops rules before e (net.Stopped f) why is same told = absurd same

  -- what a fault leaves of the net
  pub leaves : {C M : Type 0} (before after : NetState C M) (fault : NetFault) (why : Stop Offence) → r ≡ Err fault → IsStopOf fault why → (NetRefuses r → after ≡ before) →
      (IsErrOf r net.Link → after.stopped ≡ Some first.Link) → (IsErrOf r net.Memory → after.stopped ≡ Some first.Memory) → LeavesNet before after after.stopped (Err why)
  leaves before after (net.Offence o) why is same refused link memory = subst (λ x. LeavesNet before after after.stopped (Err x)) (sym same) (refused (subst NetRefuses (sym is) tt))
  leaves before after net.Link why is same refused link memory = subst (λ x. LeavesNet before after after.stopped (Err x)) (sym same) (link is)
  leaves before after net.Memory why is same refused link memory = subst (λ x. LeavesNet before after after.stopped (Err x)) (sym same) (memory is)
  leaves before after (net.Stopped f) why is same refused link memory = absurd same

-- the verdict on the event of a line is that on the line
pub line_by : {E O : Type 0} (rules : Rules E O) (line : List ℕ) (e : E) → rules.reads line ≡ Ok e → (stands : List E → Type 0) (before : List E) (r : Result (Unit {0}) (Stop O)) →
    JudgesPlayed rules stands before e r → JudgesLine rules line stands before r
line_by rules line e reads stands before (Ok x) judged = record { event = e; reads = reads; free = judged.0; stands_on = judged.1 }
line_by rules line e reads stands before (Err (stop.Row fault)) judged = absurd judged
line_by rules line e reads stands before (Err (stop.Offence offence)) judged = (e, reads, judged)
line_by rules line e reads stands before (Err stop.Link) judged = tt
line_by rules line e reads stands before (Err stop.Memory) judged = tt
