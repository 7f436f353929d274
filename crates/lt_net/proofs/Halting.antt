-- What stands after a fault.
use Rattle.std.proofs.Common.{◌≡◌, inl, ℕ, List, Option, Some, None, refl, sym, subst}
use Rattle.std.specs.Prelude.{Result, Ok, Err, OnErr, IsErrOf}
use Rattle.lt_base.specs.declared.value.Value.{Value}
use Rattle.lt_arch.specs.declared.event.Event.{Event}
use Rattle.lt_arch.specs.declared.event.Event.TheVariants.{Act, Del, End}
use Rattle.lt_arch.specs.Times.{Times}
use Rattle.lt_link.specs.Inbox.{InboxState}
use Rattle.lt_net.specs.Net.{TimedBenchState, Lists}
use Rattle.lt_net_bench.specs.Standing.{HasRun}
use Rattle.lt_net.specs.Stands.{NetStands}
use Rattle.lt_net.specs.Halts.{MayTake, HasHalted}
use Rattle.lt_machine.specs.declared.machine.Machine.{Ghosts as Machines}
use Rattle.lt_arch.specs.declared.controller.Controller.{Ghosts as Controls}

may_stay : (e : Event) (row : Option (List Value)) (rows : ℕ → List (List Value)) → MayTake e row rows rows
may_stay (Act n at) (Some r) rows = inl (λ i. refl)
may_stay (Act n at) None rows = λ i. refl
may_stay (Del c at) row rows = λ i. refl
may_stay (End at) row rows = λ i. refl

module _ {C M : Type 0} (ctl : Controls C) (mch : Machines M) (ls : Lists) (e : Event) (row : Option (List Value)) where
  stays : (net : TimedBenchState C M) → HasRun mch net.layout net.shape net.machines net.executed net.tracks ls.inputs ls.got → HasHalted mch net ls e row
  stays net ran = record { rows = ls.inputs; may_take = may_stay e row ls.inputs; ran = ran }

  -- where nothing was changed
  pub same_halted : (old new : TimedBenchState C M) → new ≡ old → NetStands ctl mch old ls → HasHalted mch new ls e row
  same_halted old new same s = subst (λ z. HasHalted mch z ls e row) (sym same) (stays old s.bench.ran)

  -- where only controllers, inboxes and the watch were
  pub idle_halted : (net now : TimedBenchState C M) → net ≡ now → (w : Times) (cs : List C) (boxes : List InboxState) → NetStands ctl mch now ls → HasHalted mch (record net { watch = w; controllers = cs; inboxes = boxes }) ls e row
  idle_halted net now is w cs boxes s = stays (record net { watch = w; controllers = cs; inboxes = boxes }) (subst (λ z. NetStands ctl mch z ls) (sym is) s).bench.ran

pub on_err_any : {T E P : Type 0} (r : Result T E) → P → OnErr r P
on_err_any (Ok x) p = tt
on_err_any (Err e) p = p

-- an answer is no error
pub no_error : {T E : Type 0} (x : T) (e : E) → IsErrOf (Ok x) e → ⊥
no_error x e is = absurd (cc)
