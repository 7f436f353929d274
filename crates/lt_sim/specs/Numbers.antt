-- The numbers of a drawn list: its first activations, the gaps between activations, and the delays of messages.
use Rattle.std.specs.Prelude.{◌≡◌, ◌≢◌, ℕ, ◌+◌, ◌<◌, ◌≤◌, true, List, [], ◌∷◌, ◌++◌}
use Rattle.lt_arch.specs.declared.event.Event.{Event}
use Rattle.lt_arch.specs.declared.event.Event.TheVariants.{Act, Del, End}
use Rattle.lt_arch.specs.declared.limits.TheConstants.{GREATEST_TIME}
use Rattle.lt_arch.specs.declared.shape.Shape.{Shape}
use Rattle.lt_arch.specs.declared.timing.Timing.{Timing}
use Rattle.lt_arch.specs.State.{State, start}
use Rattle.lt_arch.specs.Readers.{node_count, chan_count, tmax_of}
use Rattle.lt_arch.specs.Step.{after}
use Rattle.lt_arch.specs.Schedule.{OnePlace, reached}
use Rattle.lt_sim.specs.Words.{drawn_word, number_in}
use Rattle.lt_sim.specs.Drawn.{sends, gap, delay, drawn}
use Rattle.lt_base.specs.Truths.{how_many}

-- how many words some events draw, from a state on: an activation one for the gap, and one for each message that it sends
abbrev pub words_by : Shape → Timing → (rows : ℕ) → State → List Event → ℕ
words_by s t rows st [] = 0
words_by s t rows st (Act n at ∷ es) = 1 + how_many (sends s t rows st n) (chan_count s) + words_by s t rows (after s t rows st (Act n at)) es
words_by s t rows st (Del c at ∷ es) = words_by s t rows (after s t rows st (Del c at)) es
words_by s t rows st (End at ∷ es) = words_by s t rows (after s t rows st (End at)) es

-- how many words are drawn before an event behind these
abbrev pub words_before : Shape → Timing → (rows : ℕ) → List Event → ℕ
words_before s t rows front = node_count s + words_by s t rows (start t.protocol) front

-- node n is not activated among these events
abbrev pub HasNoActivation : (n : ℕ) → List Event → Type 0
HasNoActivation n [] = Unit {0}
HasNoActivation n (Act m at ∷ es) = (m ≢ n) × HasNoActivation n es
HasNoActivation n (Del c at ∷ es) = HasNoActivation n es
HasNoActivation n (End at ∷ es) = HasNoActivation n es

-- channel c does not deliver among them
abbrev pub HasNoDelivery : (c : ℕ) → List Event → Type 0
HasNoDelivery c [] = Unit {0}
HasNoDelivery c (Act m at ∷ es) = HasNoDelivery c es
HasNoDelivery c (Del d at ∷ es) = (d ≢ c) × HasNoDelivery c es
HasNoDelivery c (End at ∷ es) = HasNoDelivery c es

-- which word each time of a list is drawn with
pub record AreDrawn (s : Shape) (t : Timing) (rows seed : ℕ) (es : List Event) : Type 0 where
  -- a node's first activation
  pub first : (n at : ℕ) (front later : List Event) → es ≡ front ++ Act n at ∷ later → HasNoActivation n front → at ≡ number_in 0 (tmax_of t n) (drawn_word seed (n + 1))
  -- the next one after an activation
  pub next : (n at then_at : ℕ) (front between later : List Event) → es ≡ front ++ Act n at ∷ (between ++ Act n then_at ∷ later) → HasNoActivation n between →
      then_at ≡ at + gap t seed n (words_before s t rows front + 1)
  -- the delivery of a message that an activation sends
  pub arrival : (n c at then_at : ℕ) (front between later : List Event) → es ≡ front ++ Act n at ∷ (between ++ Del c then_at ∷ later) → c < chan_count s → sends s t rows (reached s t rows front) n c ≡ true → HasNoDelivery c between →
      then_at ≡ at + delay s t seed c (words_before s t rows front + 2 + how_many (sends s t rows (reached s t rows front) n) c)

-- where one place in each channel is enough, each drawn list has the numbers of its seed
abbrev pub DrawsNumbers : Type 0
DrawsNumbers = (s : Shape) (t : Timing) (rows seed horizon : ℕ) → OnePlace s t rows → horizon ≤ GREATEST_TIME → AreDrawn s t rows seed (drawn s t rows seed horizon)
