-- What a channel keeps of the messages in transit on it.
use Rattle.std.specs.Prelude.{ℕ, ◌≤◌, List, All}
use Rattle.lt_arch.specs.declared.limits.TheConstants.{GREATEST_TIME}
use Rattle.lt_lossy.specs.State.{Message}
use Rattle.lt_lossy.specs.Window.{room}
use Rattle.lt_lossy_audit.specs.declared.letter.Letter.{Letter}

abbrev pub letter_message : Letter → Message
letter_message a = record { number = a.number; sent_at = a.sent_at }

-- there is room, and they were sent in the range of times
pub record AreLetters (letters : List Letter) (capacity : ℕ) : Type 0 where
  pub space : room ≤ capacity
  pub timely : All (λ (a : Letter). a.sent_at ≤ GREATEST_TIME) letters
