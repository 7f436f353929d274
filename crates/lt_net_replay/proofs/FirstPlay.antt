-- A net before the first event of a schedule.
use Rattle.std.proofs.Common.{◌≡◌, ◌<◌, ◌+◌, ◌*◌, ◌^◌, ℕ, List, [], None, sym, subst, arith}
use Rattle.lt_base.specs.declared.value.Value.{Value}
use Rattle.lt_arch.specs.declared.shape.Shape.{Shape}
use Rattle.lt_arch.specs.declared.timing.Timing.{Timing}
use Rattle.lt_arch.specs.Readers.{node_count, chan_count}
use Rattle.lt_place.specs.declared.layout.Layout.{Layout}
use Rattle.lt_io.specs.FabricState.{FabricState}
use Rattle.lt_net.specs.NetModel.{NetState}
use Rattle.lt_net.specs.Replay.{ReplayKeeps}
use Rattle.lt_net.specs.Loop.{ReplayIsGiven}
use Rattle.lt_net.specs.Starts.{IsMadeOf, no_lists}
use Rattle.lt_net_replay.specs.Plays.{Plays}
use Rattle.lt_machine.specs.declared.machine.Machine.{Ghosts as Machines}
use Rattle.lt_arch.specs.declared.controller.Controller.{Ghosts as Controls}

fewer : (n c k : ℕ) → 2 * (n + c) < k → n < k
fewer n c k h = omega (arith, h)

fewer_too : (n c k : ℕ) → 2 * (n + c) < k → c < k
fewer_too n c k h = omega (arith, h)

pub plays_first : {C M : Type 0} (ctl : Controls C) (mch : Machines M) (inputs : List (List Value)) (l : Layout) (s : Shape) (t : Timing) (count : ℕ) (ms : List M) (cs : List C)
    (net : NetState C M) (fabric : FabricState) → net.stopped ≡ None → IsMadeOf l s t count ms cs net.bench → 2 * (node_count s + chan_count s) < 2 ^ 32 → ReplayKeeps ctl mch inputs [] net.bench fabric no_lists → ReplayIsGiven net.bench inputs →
    Plays ctl mch inputs [] 0 net fabric
plays_first ctl mch inputs l s t count ms cs net fabric running is numbered keeps given = record {
  running = running;
  given = given;
  kept = (no_lists, keeps);
  few_nodes = subst (λ z. node_count z < 2 ^ 32) (sym is.shape) (fewer (node_count s) (chan_count s) (2 ^ 32) numbered);
  few_channels = subst (λ z. chan_count z < 2 ^ 32) (sym is.shape) (fewer_too (node_count s) (chan_count s) (2 ^ 32) numbered);
  costs = λ d most few all. omega arith;
}
