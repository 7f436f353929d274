-- Channels that change what they carry, and store it.
use Rattle.std.specs.Prelude.{◌≡◌, ◌≤◌, ℕ, not, pos, List, [], ◌∷◌, ◌++◌, length, drop, map, slice_index_or, All}
use Rattle.std.specs.Int.{w64, int_wrapping_add}
use Rattle.lt_base.specs.declared.value.Ty.{Ty}
use Rattle.lt_base.specs.declared.value.Value.{Value}
use Rattle.lt_base.specs.declared.value.Value.TheVariants as value
use Rattle.lt_io.specs.declared.message.Message.{Message}
use Rattle.lt_io.specs.ChannelState.{IsOfKind}

-- the int and one, which wraps, or the other truth value
abbrev pub flipped : Value → Value
flipped (value.Int n) = value.Int (int_wrapping_add w64 n (pos 1))
flipped (value.Bool b) = value.Bool (not b)

-- the types of a channel's payloads, all messages sent, and all delivered
pub record FlipState : Type 0 where
  pub kind : List Ty
  pub sent : List Message
  pub delivered : List Message

-- a channel of these types on which nothing was sent
abbrev pub silent : List Ty → FlipState
silent kind = record { kind = kind; sent = []; delivered = [] }

-- the messages sent and not yet delivered
abbrev pub waits : FlipState → List Message
waits s = drop (length s.delivered) s.sent

-- all messages sent have the channel's types, and no more were delivered
pub record IsStored (s : FlipState) : Type 0 where
  pub typed : All (IsOfKind s.kind) s.sent
  pub fewer : length s.delivered ≤ length s.sent

-- the payload is that of the oldest message that waited, each value flipped
pub record Flips (old new : List Message) (payload : List Value) : Type 0 where
  pub oldest : Message
  pub taken : old ≡ oldest ∷ new
  pub flips : payload ≡ map flipped oldest.payload

-- the oldest message that waits is delivered as this message, each value flipped
pub record TakesFlipped (old new : FlipState) (message : Message) : Type 0 where
  pub oldest : Message
  pub taken : waits old ≡ oldest ∷ waits new
  pub flips : message.payload ≡ map flipped oldest.payload
  pub bit : message.bit ≡ oldest.bit
  pub typed : IsOfKind old.kind oldest
  pub delivered : new.delivered ≡ old.delivered ++ message ∷ []

-- the channel of this number
abbrev pub flip_at : List FlipState → ℕ → FlipState
flip_at cs c = slice_index_or cs c (silent [])

abbrev pub transit_at : List FlipState → ℕ → List Message
transit_at cs c = waits (flip_at cs c)

abbrev pub sent_at : List FlipState → ℕ → List Message
sent_at cs c = (flip_at cs c).sent

abbrev pub delivered_at : List FlipState → ℕ → List Message
delivered_at cs c = (flip_at cs c).delivered

-- the types of the channels' payloads
abbrev pub flip_kinds : List FlipState → List (List Ty)
flip_kinds cs = map (λ c. c.kind) cs
