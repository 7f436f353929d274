-- The first event at which a node executes with a message too few or too many.
use Rattle.std.specs.Prelude.{◌≡◌, ◌≢◌, ℕ, ◌+◌, ◌<◌, ◌≤◌, List, ◌∷◌, ◌++◌, length, Option, Some, None, true}
use Rattle.lt_arch.specs.declared.event.Deed.TheVariants.{Execute}
use Rattle.lt_arch.specs.declared.event.Event.{Event}
use Rattle.lt_arch.specs.declared.event.Event.TheVariants.{Act, Del, End}
use Rattle.lt_arch.specs.declared.timing.Timing.{Timing}
use Rattle.lt_arch.specs.declared.shape.Shape.{Shape}
use Rattle.lt_arch.specs.State.{State, executed_of}
use Rattle.lt_arch.specs.Readers.{chan_count}
use Rattle.lt_arch.specs.Deeds.{deed_at, data_to}
use Rattle.lt_arch.specs.Schedule.{reached}
use Rattle.lt_audit.specs.declared.miss.Miss.{Miss}

-- in this state the event is an activation at which node n executes, with so many input rows
abbrev pub IsExecution : Shape → (rows : ℕ) → State → Event → (n : ℕ) → Type 0
IsExecution s rows st (Act m at) n = (m ≡ n) × (deed_at s rows st m ≡ Execute)
IsExecution s rows st (Del c at) n = ⊥
IsExecution s rows st (End at) n = ⊥

-- channel c brings data to node n, and has delivered another number of messages than the node has executed instants
pub record IsOff (s : Shape) (st : State) (n c : ℕ) : Type 0 where
  pub channel : c < chan_count s
  pub incoming : data_to s n c ≡ true
  pub differs : (st.chan c).delivered ≢ executed_of st n

-- in this state a node executes at the event while some channel is off
pub record Misses (s : Shape) (rows : ℕ) (st : State) (e : Event) : Type 0 where
  pub node : ℕ
  pub executes : IsExecution s rows st e node
  pub channel : ℕ
  pub off : IsOff s st node channel

-- at none of these events a node so executes
abbrev pub HasNoMiss : Shape → Timing → (rows : ℕ) → List Event → Type 0
HasNoMiss s t rows es = (front : List Event) (e : Event) (later : List Event) → es ≡ front ++ e ∷ later → Misses s rows (reached s t rows front) e → ⊥

-- the first event at which one does, with the node, the instant that it executes, the lowest channel that is off, and how
-- many messages that channel has delivered
pub record IsFirstMiss (s : Shape) (t : Timing) (rows : ℕ) (es : List Event) (m : Miss) : Type 0 where
  pub front : List Event
  pub event : Event
  pub later : List Event
  pub list_is : es ≡ front ++ event ∷ later
  pub none_before : HasNoMiss s t rows front
  pub number_is : m.event ≡ length front + 1
  pub executes : IsExecution s rows (reached s t rows front) event m.node
  pub instant_is : m.instant ≡ executed_of (reached s t rows front) m.node
  pub off : IsOff s (reached s t rows front) m.node m.channel
  pub lowest : (c : ℕ) → IsOff s (reached s t rows front) m.node c → m.channel ≤ c
  pub delivered_is : m.delivered ≡ ((reached s t rows front).chan m.channel).delivered

-- that event, if there is one
abbrev pub FirstMiss : Shape → Timing → (rows : ℕ) → List Event → Option Miss → Type 0
FirstMiss s t rows es None = HasNoMiss s t rows es
FirstMiss s t rows es (Some m) = IsFirstMiss s t rows es m
