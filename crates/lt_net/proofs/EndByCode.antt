-- An end, by what code has, and events by their kinds.
use Rattle.std.proofs.Common.{◌≡◌, ℕ, List, map, Option, Some, refl, sym, ap, subst}
use Rattle.std.specs.Prelude.{Ok}
use Rattle.lt_base.specs.declared.value.Value.{Value}
use Rattle.lt_arch.specs.declared.event.Event.{Event}
use Rattle.lt_arch.specs.declared.event.Event.TheVariants.{End}
use Rattle.lt_arch.specs.Times.{Times}
use Rattle.lt_io.specs.declared.fault.LinkErr.TheVariants.{Memory as NoMemory}
use Rattle.lt_io.specs.FabricState.{FabricState}
use Rattle.lt_net_node.specs.Wakes.{AreConfigured}
use Rattle.lt_net.specs.Net.{TimedBenchState}
use Rattle.lt_net.specs.Answered.{CanTake, AnswersEvent}
use Rattle.lt_net.proofs.EndTaken.{ended_taken}
use Rattle.lt_net.proofs.Halting.{no_error}
use Rattle.lt_net.proofs.RoomStays.{room_stays}
use Rattle.lt_net.proofs.SendLoop.{keeps_refl}
use Rattle.lt_net.proofs.Ticks.{no_ticks}
use Rattle.lt_machine.specs.declared.machine.Machine.{Ghosts as Machines}
use Rattle.lt_arch.specs.declared.controller.Controller.{Ghosts as Controls}

module _ {C M : Type 0} (ctl : Controls C) (mch : Machines M) (net now : TimedBenchState C M) (is : net ≡ now) (e : Event) (row : Option (List Value)) (fabric : FabricState)
    (can : CanTake ctl mch now e row fabric) where
  pub end_answers : (at : ℕ) → e ≡ End at → (v : Times) → v ≡ record net.watch { latest = Some at; horizon = Some at } → (s s' : ℕ) → s' ≡ s → AnswersEvent ctl mch now (record net { watch = v }) e row fabric fabric s s' (Ok tt)
  end_answers at ends v watch s s' cost =
      let taken = ended_taken ctl mch net now is can.kept at e ends can.event.timely can.passes v watch row fabric can.holds in
      record {
        taken = taken;
        halted = tt;
        sized = taken.kept.sized;
        room = room_stays net now is can.room v net.controllers net.inboxes net.values refl;
        configured = subst (λ (z : TimedBenchState C M). AreConfigured ctl z.timing z.controllers) (sym is) can.configured;
        sizes = ap (λ (z : TimedBenchState C M). map mch.size z.machines) is;
        fixed = record { layout = ap (λ (z : TimedBenchState C M). z.layout) is; shape = ap (λ (z : TimedBenchState C M). z.shape) is; timing = ap (λ (z : TimedBenchState C M). z.timing) is; rows = ap (λ (z : TimedBenchState C M). z.rows) is };
        keeps = keeps_refl fabric;
        cause = refl;
        sound = λ sound. refl;
        prompt = λ quick. no_error tt NoMemory;
        ticks = λ ls stood k few. no_ticks mch.size now ls e k s s' cost;
      }
