-- What a net over links that lose messages records of an event.
use Rattle.std.specs.Prelude.{◌≡◌, ℕ, ◌+◌, ◌<◌, ◌&&◌, nat_lt, Bool, List, [], length, slice_index_or, slice_set, if◌then◌else◌}
use Rattle.lt_base.specs.declared.value.Value.{Value}
use Rattle.lt_arch.specs.declared.event.Deed.{Deed}
use Rattle.lt_arch.specs.declared.shape.Shape.{Shape}
use Rattle.lt_arch.specs.State.{NodeState, Phase}
use Rattle.lt_arch.specs.Deeds.{data_from}
use Rattle.lt_arch.specs.Step.{is_send}
use Rattle.lt_lossy.specs.Step.{sends_number}
use Rattle.lt_lossy.specs.Times.{LossyTimes, AreQueued, with_last}
use Rattle.lt_arch.specs.declared.controller.Controller.{Ghosts as Controls}

-- on some channels the payloads of the instant last executed are those that are sent from now on
pub record Posts (on : ℕ → Bool) (buffers before after : List (List Value)) : Type 0 where
  pub same_length : length after ≡ length before
  pub each : (c : ℕ) → c < length before → slice_index_or after c [] ≡ (if on c then slice_index_or buffers c [] else slice_index_or before c [])

-- the same after the channels below i
pub record PostedUpTo (i : ℕ) (on : ℕ → Bool) (buffers before after : List (List Value)) : Type 0 where
  pub same_length : length after ≡ length before
  pub each : (c : ℕ) → slice_index_or after c [] ≡ (if nat_lt c i && on c then slice_index_or buffers c [] else slice_index_or before c [])

-- the channels whose payloads change with a deed of node n: those that carry its data, where it sends an instant
abbrev pub posts_on : Shape → (n : ℕ) → Deed → (c : ℕ) → Bool
posts_on s n deed c = is_send deed && data_from s n c

-- how many instants each node has sent, after a deed of node n
abbrev pub sent_after : List ℕ → (n : ℕ) → Deed → List ℕ
sent_after sent n deed = if is_send deed then slice_set sent n (slice_index_or sent n 0 + 1) else sent

-- node n, which is v then, was activated, and sent a message on each channel where it has a number to send
pub record NotesAct (s : Shape) (n at : ℕ) (v : NodeState) (before after : LossyTimes) : Type 0 where
  pub queues : List (List ℕ)
  pub are : AreQueued (sends_number s n v) at before.queues queues
  pub is : after ≡ record (with_last before n at) { queues = queues }

-- the controller of node n is in this phase, and the others are as they were
pub record IsWoken {C : Type 0} (ctl : Controls C) (n : ℕ) (woken : Phase) (before after : List C) : Type 0 where
  pub control : C
  pub within : n < length before
  pub is : after ≡ slice_set before n control
  pub woke : ctl.phase control ≡ woken
