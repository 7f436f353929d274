-- The lists of events for which an auditor stands.
use Rattle.std.specs.Prelude.{◌≡◌, ◌⊎◌, ℕ, ◌-◌, ◌^◌, ◌<◌, min, List, take, length, Option, Some, None, Result, Ok, Err}
use Rattle.lt_arch.specs.declared.event.Event.{Event}
use Rattle.lt_arch.specs.declared.event.Event.TheVariants.{Act, Del, End}
use Rattle.lt_arch.specs.declared.event.Offence as arch
use Rattle.lt_arch.specs.declared.timing.Protocol.TheVariants.{BackPressure, TimeBased}
use Rattle.lt_arch.specs.declared.timing.Timing.{Timing}
use Rattle.lt_arch.specs.declared.shape.Shape.{Shape}
use Rattle.lt_arch.specs.State.{State, Wait, Ready}
use Rattle.lt_arch.specs.Readers.{node_count, chan_count, send_of, execute_of}
use Rattle.lt_arch.specs.Deeds.{deed_at}
use Rattle.lt_arch.specs.Schedule.{IsOffenceFree, reached}
use Rattle.lt_arch.specs.Times.{HasTimes}
use Rattle.lt_audit.specs.declared.fault.AuditFault.{AuditFault}
use Rattle.lt_audit.specs.declared.fault.AuditFault.TheVariants.{Offence, Memory}
use Rattle.lt_audit.specs.Audit.{MemberState, AuditState, member_at, chan_at}
use Rattle.lt_audit.specs.Misses.{FirstMiss}

-- a state of which only the oldest message in transit on each channel is known
abbrev pub oldest_only : State → State
oldest_only st = record st { chan = λ c. record { delivered = (st.chan c).delivered; transit = take 1 (st.chan c).transit } }

-- the node's controller is of the timing's protocol: only the time-based one has countdowns, and back-pressure has phases of its own
pub record IsConfigured (m : MemberState) (t : Timing) (n : ℕ) : Type 0 where
  pub protocol : m.protocol ≡ t.protocol
  pub send : t.protocol ≡ TimeBased → m.send ≡ send_of t n
  pub execute : t.protocol ≡ TimeBased → m.execute ≡ execute_of t n
  pub pressure : t.protocol ≡ BackPressure → (m.phase ≡ Wait) ⊎ (m.phase ≡ Ready)

-- what is held is this state of the architecture
pub record HasState (a : AuditState) (s : Shape) (t : Timing) (st : State) : Type 0 where
  pub shape : a.shape ≡ s
  pub protocol : a.protocol ≡ t.protocol
  pub times : HasTimes a.watch s t (oldest_only st)
  pub configured : (n : ℕ) → n < node_count s → IsConfigured (member_at a.members n) t n
  pub phase : (n : ℕ) → n < node_count s → (member_at a.members n).phase ≡ (st.node n).phase
  pub executed : (n : ℕ) → n < node_count s → (member_at a.members n).executed ≡ (st.node n).executed
  pub chan : (c : ℕ) → c < chan_count s → chan_at a.chans c ≡ st.chan c

-- it stands for these events, with so many input rows: none of them has an offence, it is where they lead, and it knows the
-- first at which a node executed with a message too few or too many, as far as events can be numbered
pub record AuditStands (a : AuditState) (s : Shape) (t : Timing) (rows : ℕ) (es : List Event) : Type 0 where
  pub rows_are : a.rows ≡ rows
  pub free : IsOffenceFree s t rows es
  pub state : HasState a s t (reached s t rows es)
  pub taken_is : a.taken ≡ min (length es) (2 ^ 32 - 1)
  pub first_is : a.taken < 2 ^ 32 - 1 → FirstMiss s t rows es a.first

-- what is right of an event with this offence, or none: want of memory comes only where it has none
abbrev pub JudgesEvent : Option arch.Offence → Result (Unit {0}) AuditFault → Type 0
JudgesEvent offence (Ok done) = offence ≡ None
JudgesEvent offence (Err (Offence found)) = offence ≡ Some found
JudgesEvent offence (Err Memory) = offence ≡ None

-- once this event was taken in this state, it knows what the node did that was activated
abbrev pub KnowsDeed : AuditState → Shape → (rows : ℕ) → State → Event → Type 0
KnowsDeed a s rows st (Act n at) = (member_at a.members n).did ≡ deed_at s rows st n
KnowsDeed a s rows st (Del c at) = Unit {0}
KnowsDeed a s rows st (End at) = Unit {0}
