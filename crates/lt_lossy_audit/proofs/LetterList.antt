-- The messages in transit at places of a channel.
use Rattle.std.proofs.Common.{◌≡◌, ℕ, zero, suc, ◌<◌, ◌≤◌, List, [], ◌∷◌, length, map, Some, None, refl, ap, arith, slice_index_or}
use Rattle.std.specs.Prelude.{slice_get}
use Rattle.lt_lossy.specs.State.{Message}
use Rattle.lt_lossy_audit.specs.declared.letter.Letter.{Letter}
use Rattle.lt_lossy_audit.specs.Letters.{letter_message}

pub number_there : (xs : List Letter) (place : ℕ) (x : Letter) → place < length xs → x ≡ slice_index_or xs place x → Some x.number ≡ slice_get (map (λ (m : Message). m.number) (map letter_message xs)) place
number_there [] place x lt is = absurd (omega (arith, lt))
number_there (y ∷ later) zero x lt is = ap (λ (z : Letter). Some z.number) is
number_there (y ∷ later) (suc p) x lt is = number_there later p x (omega (arith, lt)) is

pub number_past : (xs : List Letter) (place : ℕ) → length xs ≤ place → None ≡ slice_get (map (λ (m : Message). m.number) (map letter_message xs)) place
number_past [] zero le = refl
number_past [] (suc p) le = refl
number_past (y ∷ later) zero le = absurd (omega (arith, le))
number_past (y ∷ later) (suc p) le = number_past later p (omega (arith, le))

pub sent_there : (xs : List Letter) (place : ℕ) (x : Letter) → place < length xs → x ≡ slice_index_or xs place x → Some x.sent_at ≡ slice_get (map (λ (m : Message). m.sent_at) (map letter_message xs)) place
sent_there [] place x lt is = absurd (omega (arith, lt))
sent_there (y ∷ later) zero x lt is = ap (λ (z : Letter). Some z.sent_at) is
sent_there (y ∷ later) (suc p) x lt is = sent_there later p x (omega (arith, lt)) is

pub sent_past : (xs : List Letter) (place : ℕ) → length xs ≤ place → None ≡ slice_get (map (λ (m : Message). m.sent_at) (map letter_message xs)) place
sent_past [] zero le = refl
sent_past [] (suc p) le = refl
sent_past (y ∷ later) zero le = absurd (omega (arith, le))
sent_past (y ∷ later) (suc p) le = sent_past later p (omega (arith, le))
