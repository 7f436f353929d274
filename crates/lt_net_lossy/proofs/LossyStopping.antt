-- A line that is not taken for a fault of a running net.
use Rattle.std.proofs.Common.{◌≡◌, ◌<◌, ℕ, List, Option, Some, None, sym, ap, ◌∙◌, subst}
use Rattle.std.specs.Prelude.{Result, Err, IsErrOf}
use Rattle.lt_lossy.specs.declared.event.LossyOffence.{LossyOffence}
use Rattle.lt_schedule.specs.declared.halt.Stop.{Stop}
use Rattle.lt_schedule.specs.declared.halt.Stop.TheVariants as stop
use Rattle.lt_schedule.specs.Rules.{Rules}
use Rattle.lt_schedule.specs.Taken.{StopsAt, StopCountedBy}
use Rattle.lt_net.specs.declared.fault.First.{First}
use Rattle.lt_net_lossy.specs.declared.fault.LossyFault.{LossyFault}
use Rattle.lt_net_lossy.specs.declared.fault.LossyFault.TheVariants as net
use Rattle.lt_net.specs.declared.fault.First.TheVariants as first
use Rattle.lt_net_lossy.specs.Halts.{RefusesLossy}
use Rattle.lt_net_lossy.specs.NetModel.{LossyNetState}
use Rattle.lt_net_start.specs.Ends.{LeavesNet}
use Rattle.lt_net_lossy.specs.Rules.{IsLossyStopOf}

-- a net that runs was not stopped
pub runs_on : {T : Type 0} (r : Result T LossyFault) (fault : LossyFault) → r ≡ Err fault → (stopped : Option First) → stopped ≡ None → ((f : First) → r ≡ Err (net.Stopped f) → stopped ≡ Some f) → (f : First) → fault ≡ net.Stopped f → ⊥
runs_on r fault is stopped running told f same = absurd (let s : None ≡ Some f = sym running ∙ told f (is ∙ ap (λ x. Err x) same) in cc)

module _ {T : Type 0} (r : Result T LossyFault) where
  -- a count of faults rises with a failed call alone
  pub counted : (fault : LossyFault) (why : Stop LossyOffence) → r ≡ Err fault → IsLossyStopOf fault why → (before now : ℕ) → (IsErrOf r net.Link → before < now) → ((IsErrOf r net.Link → ⊥) → now ≡ before) → StopCountedBy before now why
  counted (net.Offence o) why is same before now rose calm = subst (StopCountedBy before now) (sym same) (calm (λ link. absurd (let e : Path (Result T LossyFault) (Err (net.Offence o)) (Err net.Link) = sym is ∙ link in cc)))
  counted net.Link why is same before now rose calm = subst (StopCountedBy before now) (sym same) (rose is)
  counted net.Memory why is same before now rose calm = subst (StopCountedBy before now) (sym same) (calm (λ link. absurd (let e : Path (Result T LossyFault) (Err net.Memory) (Err net.Link) = sym is ∙ link in cc)))
  counted (net.Stopped f) why is same before now rose calm = absurd same

  -- an offence is that of the line's event
  pub stops : {E : Type 0} (rules : Rules E LossyOffence) (line : List ℕ) (before : List E) (fault : LossyFault) (why : Stop LossyOffence) → r ≡ Err fault → IsLossyStopOf fault why →
      ((o : LossyOffence) → r ≡ Err (net.Offence o) → StopsAt rules line before (stop.Offence o)) → StopsAt rules line before why
  stops rules line before (net.Offence o) why is same told = subst (StopsAt rules line before) (sym same) (told o is)
  stops rules line before net.Link why is same told = subst (StopsAt rules line before) (sym same) tt
  stops rules line before net.Memory why is same told = subst (StopsAt rules line before) (sym same) tt
  stops rules line before (net.Stopped f) why is same told = absurd same

  -- what a fault leaves of the net
  pub leaves : {C M : Type 0} (before after : LossyNetState C M) (fault : LossyFault) (why : Stop LossyOffence) → r ≡ Err fault → IsLossyStopOf fault why → (RefusesLossy r → after ≡ before) →
      (IsErrOf r net.Link → after.stopped ≡ Some first.Link) → (IsErrOf r net.Memory → after.stopped ≡ Some first.Memory) → LeavesNet before after after.stopped (Err why)
  leaves before after (net.Offence o) why is same refused link memory = subst (λ x. LeavesNet before after after.stopped (Err x)) (sym same) (refused (subst RefusesLossy (sym is) tt))
  leaves before after net.Link why is same refused link memory = subst (λ x. LeavesNet before after after.stopped (Err x)) (sym same) (link is)
  leaves before after net.Memory why is same refused link memory = subst (λ x. LeavesNet before after after.stopped (Err x)) (sym same) (memory is)
  leaves before after (net.Stopped f) why is same refused link memory = absurd same
