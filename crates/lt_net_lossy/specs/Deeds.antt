-- The deed of an activation, without messages.
use Rattle.std.specs.Prelude.{◌≡◌, ℕ, false, List, Option, Some, slice_set, slice_index_or}
use denote.Bor.{Bor}
use Rattle.lt_base.specs.declared.value.Value.{Value}
use Rattle.lt_arch.specs.declared.event.Deed.{Deed}
use Rattle.lt_arch.specs.declared.event.Deed.TheVariants.{Execute}
use Rattle.lt_arch.specs.declared.event.Event.TheVariants.{Act}
use Rattle.lt_arch.specs.Deeds.{deed_at, phase_at}
use Rattle.lt_arch.specs.Step.{is_execute}
use Rattle.lt_arch.specs.State.{Phase}
use Rattle.lt_link.specs.Inbox.{InboxState}
use Rattle.lt_lossy.specs.declared.event.LossyEvent.TheVariants.{Plain}
use Rattle.lt_lossy.specs.State.{plain_of}
use Rattle.lt_net_node.specs.Acts.{takes_on, MarkedOn}
use Rattle.lt_net_bench.specs.Executes.{Executes}
use Rattle.lt_net_bench.specs.Given.{FitsPart}
use Rattle.lt_net.specs.Event.{given_row}
use Rattle.lt_net_bench.specs.Bench.{BenchState}
use Rattle.lt_net_lossy.specs.Stands.{StandsLossy}
use Rattle.lt_net_lossy.specs.Event.{PassesLossy}
use Rattle.lt_net_lossy.specs.Changes.{Posts, posts_on, sent_after, IsWoken}
use Rattle.lt_net_lossy.specs.Net.{LossyBenchState, LossyLists, bench_of_lossy, lossy_state_of}
use Rattle.lt_machine.specs.declared.machine.Machine.{Ghosts as Machines}
use Rattle.lt_arch.specs.declared.controller.Controller.{Ghosts as Controls}

-- node n did a deed in which it runs no instant: where that is to send, its newest payloads are those that are sent from now on
pub record DoesIdle {C M : Type 0} (ctl : Controls C) (old new : LossyBenchState C M) (n : ℕ) (deed : Deed) (woken : Phase) : Type 0 where
  pub control : List C
  pub controls : IsWoken ctl n woken old.controllers control
  pub boxes : List InboxState
  pub marks : MarkedOn (takes_on old.shape n deed) old.inboxes boxes
  pub payloads : List (List Value)
  pub posts : Posts (posts_on old.shape n deed) old.buffers old.posted payloads
  pub is : new ≡ record old { controllers = control; inboxes = boxes; sent = sent_after old.sent n deed; posted = payloads }

-- node n ran an instant
pub record DoesInstant {C M : Type 0} (ctl : Controls C) (mch : Machines M) (old new : LossyBenchState C M) (n : ℕ) (woken : Phase) (row : Option (List Value)) : Type 0 where
  pub control : List C
  pub controls : IsWoken ctl n woken old.controllers control
  pub input : List Value
  pub is_row : row ≡ Some input
  pub fits : FitsPart old.layout n input
  pub mid : BenchState C M
  pub runs : Executes mch (record (bench_of_lossy old) { controllers = control }) mid n input
  pub is : new ≡ record old { controllers = control; machines = slice_set old.machines n runs.after; executed = mid.executed; inboxes = mid.inboxes; tracks = mid.tracks; buffers = mid.buffers }

-- node n did the deed that it has where these lists lead
pub record DoesDeed {C M : Type 0} (ctl : Controls C) (mch : Machines M) (old new : LossyBenchState C M) (n : ℕ) (row : Option (List Value)) (ls : LossyLists) : Type 0 where
  pub idle : is_execute (deed_at old.shape old.rows (plain_of (lossy_state_of old ls)) n) ≡ false →
      DoesIdle ctl old new n (deed_at old.shape old.rows (plain_of (lossy_state_of old ls)) n) (phase_at old.shape old.timing old.rows (plain_of (lossy_state_of old ls)) n)
  pub instant : deed_at old.shape old.rows (plain_of (lossy_state_of old ls)) n ≡ Execute →
      DoesInstant ctl mch old new n (phase_at old.shape old.timing old.rows (plain_of (lossy_state_of old ls)) n) row

-- node n has an activation without an offence, where some lists lead for which the net stands
abbrev pub LossyCanAct : {C M : Type 0} (ctl : Controls C) (mch : Machines M) → LossyBenchState C M → (n : ℕ) → Type 0
LossyCanAct ctl mch net n = (ls : LossyLists) × StandsLossy ctl mch net ls × (at : ℕ) × PassesLossy net ls (Plain (Act n at))

-- it did that deed with this row, for all lists for which the net stood
abbrev pub DoesGiven : {C M : Type 0} (ctl : Controls C) (mch : Machines M) → (old new : LossyBenchState C M) → (n : ℕ) → Option (Bor (List Value)) → Type 0
DoesGiven ctl mch old new n row = (ls : LossyLists) → StandsLossy ctl mch old ls → DoesDeed ctl mch old new n (given_row row) ls

-- node n has sent as many instants as it has executed, and else only inboxes and what is sent again changed
abbrev pub PostsNewest : {C M : Type 0} → (old new : LossyBenchState C M) → (n : ℕ) → Type 0
PostsNewest old new n = new ≡ record old { inboxes = new.inboxes; sent = slice_set old.sent n (slice_index_or old.executed n 0); posted = new.posted }
