-- The first execution with a message too few or too many, by the events of a list in their order.
use Rattle.std.specs.Prelude.{ℕ, ◌+◌, ◌-◌, ◌^◌, ◌==◌, ◌&&◌, not, nat_lt, Bool, zero, suc, List, [], ◌∷◌, length, Option, Some, None, option_map, if◌then◌else◌}
use Rattle.std.specs.Option.{option_or}
use Rattle.lt_arch.specs.declared.event.Event.{Event}
use Rattle.lt_arch.specs.declared.event.Event.TheVariants.{Act, Del, End}
use Rattle.lt_arch.specs.declared.shape.Shape.{Shape}
use Rattle.lt_arch.specs.declared.timing.Timing.{Timing}
use Rattle.lt_arch.specs.State.{State, start, executed_of}
use Rattle.lt_arch.specs.Readers.{chan_count}
use Rattle.lt_arch.specs.Deeds.{data_to, deed_at}
use Rattle.lt_arch.specs.Step.{after, is_execute}
use Rattle.lt_audit.specs.declared.miss.Miss.{Miss}

-- channel c brings data to node n, and has delivered another number of messages than the node has executed instants
abbrev pub counts_off : Shape → State → (n c : ℕ) → Bool
counts_off s st n c = data_to s n c && not ((st.chan c).delivered == executed_of st n)

-- the lowest number below this one that has a property
abbrev pub lowest_below : (has : ℕ → Bool) → (n : ℕ) → Option ℕ
lowest_below has zero = None
lowest_below has (suc c) = option_or (lowest_below has c) (if has c then Some c else None)

-- what is told of an execution of node n by the event of this number, where channel c is so
abbrev pub miss_of : State → (number n c : ℕ) → Miss
miss_of st number n c = record { event = number; node = n; instant = executed_of st n; channel = c; delivered = (st.chan c).delivered }

-- of an event in this state, where its node executes, with the lowest such channel
abbrev pub miss_at : Shape → (rows : ℕ) → State → (number : ℕ) → Event → Option Miss
miss_at s rows st number (Act n at) = if is_execute (deed_at s rows st n) then option_map (miss_of st number n) (lowest_below (counts_off s st n) (chan_count s)) else None
miss_at s rows st number (Del c at) = None
miss_at s rows st number (End at) = None

-- of the first of these events of which something is told, where the first of all has this number
abbrev pub first_miss_from : Shape → Timing → (rows : ℕ) → State → (number : ℕ) → List Event → Option Miss
first_miss_from s t rows st number [] = None
first_miss_from s t rows st number (e ∷ es) = option_or (miss_at s rows st number e) (first_miss_from s t rows (after s t rows st e) (number + 1) es)

-- from the start, as far as events can be numbered
abbrev pub first_miss : Shape → Timing → (rows : ℕ) → List Event → Option Miss
first_miss s t rows es = if nat_lt (length es) (2 ^ 32 - 1) then first_miss_from s t rows (start t.protocol) 1 es else None
