-- The numbers of a list that is drawn where links lose messages: its first activations, the gaps between activations, and what is lost.
use Rattle.std.specs.Prelude.{◌≡◌, ◌≢◌, ℕ, ◌+◌, true, false, List, [], ◌∷◌, ◌++◌}
use Rattle.lt_base.specs.Truths.{how_many}
use Rattle.lt_arch.specs.declared.event.Event.TheVariants.{Act, Del, End}
use Rattle.lt_arch.specs.declared.shape.Shape.{Shape}
use Rattle.lt_arch.specs.declared.timing.Timing.{Timing}
use Rattle.lt_arch.specs.Readers.{node_count, chan_count, tmax_of}
use Rattle.lt_lossy.specs.declared.event.LossyEvent.{LossyEvent}
use Rattle.lt_lossy.specs.declared.event.LossyEvent.TheVariants.{Plain, Lose}
use Rattle.lt_lossy.specs.State.{LossyState, lossy_start}
use Rattle.lt_lossy.specs.Step.{lossy_after}
use Rattle.lt_lossy.specs.Schedule.{lossy_reached}
use Rattle.lt_sim.specs.Words.{drawn_word, number_in}
use Rattle.lt_sim.specs.Drawn.{gap}
use Rattle.lt_losing.specs.Losing.{loses_by, sends_anew, lossy_drawn}

-- how many words some events draw, from a state on: an activation one for the gap, and one for each message that it sends; a delivery or a loss one
abbrev pub lossy_words_by : Shape → Timing → (rows : ℕ) → LossyState → List LossyEvent → ℕ
lossy_words_by s t rows st [] = 0
lossy_words_by s t rows st (Plain (Act n at) ∷ es) = 1 + how_many (sends_anew s t rows st n at) (chan_count s) + lossy_words_by s t rows (lossy_after s t rows st (Plain (Act n at))) es
lossy_words_by s t rows st (Plain (Del c at) ∷ es) = 1 + lossy_words_by s t rows (lossy_after s t rows st (Plain (Del c at))) es
lossy_words_by s t rows st (Plain (End at) ∷ es) = lossy_words_by s t rows (lossy_after s t rows st (Plain (End at))) es
lossy_words_by s t rows st (Lose c at ∷ es) = 1 + lossy_words_by s t rows (lossy_after s t rows st (Lose c at)) es

-- how many words are drawn before an event behind these
abbrev pub lossy_words_before : Shape → Timing → (rows : ℕ) → List LossyEvent → ℕ
lossy_words_before s t rows front = node_count s + lossy_words_by s t rows lossy_start front

-- node n is not activated among these events
abbrev pub HasNoLossyActivation : (n : ℕ) → List LossyEvent → Type 0
HasNoLossyActivation n [] = Unit {0}
HasNoLossyActivation n (Plain (Act m at) ∷ es) = (m ≢ n) × HasNoLossyActivation n es
HasNoLossyActivation n (Plain (Del c at) ∷ es) = HasNoLossyActivation n es
HasNoLossyActivation n (Plain (End at) ∷ es) = HasNoLossyActivation n es
HasNoLossyActivation n (Lose c at ∷ es) = HasNoLossyActivation n es

-- which word decides each event of a list
pub record AreLossyDrawn (s : Shape) (t : Timing) (limit rows rate seed : ℕ) (es : List LossyEvent) : Type 0 where
  -- a node's first activation
  pub first : (n at : ℕ) (front later : List LossyEvent) → es ≡ front ++ Plain (Act n at) ∷ later → HasNoLossyActivation n front → at ≡ number_in 0 (tmax_of t n) (drawn_word seed (n + 1))
  -- the next one after an activation
  pub next : (n at then_at : ℕ) (front between later : List LossyEvent) → es ≡ front ++ Plain (Act n at) ∷ (between ++ Plain (Act n then_at) ∷ later) → HasNoLossyActivation n between →
      then_at ≡ at + gap t seed n (lossy_words_before s t rows front + 1)
  -- a message that is lost, and one that is delivered
  pub lost : (c at : ℕ) (front later : List LossyEvent) → es ≡ front ++ Lose c at ∷ later →
      loses_by limit rate seed ((lossy_reached s t rows front).link c).losses (lossy_words_before s t rows front + 1) ≡ true
  pub delivered : (c at : ℕ) (front later : List LossyEvent) → es ≡ front ++ Plain (Del c at) ∷ later →
      loses_by limit rate seed ((lossy_reached s t rows front).link c).losses (lossy_words_before s t rows front + 1) ≡ false

-- each drawn list has the numbers of its seed
abbrev pub LosesNumbers : Type 0
LosesNumbers = (s : Shape) (t : Timing) (limit rows rate seed horizon : ℕ) → AreLossyDrawn s t limit rows rate seed (lossy_drawn s t limit rows rate seed horizon)
