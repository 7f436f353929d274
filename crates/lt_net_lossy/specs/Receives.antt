-- A message that was taken from a fabric.
use Rattle.std.specs.Prelude.{◌≡◌, ℕ, Bool, ◌||◌, List, slice_set, slice_index_or, if◌then◌else◌}
use Rattle.lt_base.specs.declared.value.Value.{Value}
use Rattle.lt_io.specs.declared.message.Message.{Message}
use Rattle.lt_io.specs.FabricState.{FabricState, Delivers}
use Rattle.lt_link.specs.Bits.{differ}
use Rattle.lt_link.specs.Inbox.{InboxState, no_inbox, has_unread}

-- an inbox with the message that came last, unless that is a copy of one that was read
abbrev pub with_latest : InboxState → (payload : List Value) → (bit : Bool) → InboxState
with_latest b payload bit = if differ bit b.bit || has_unread b then record b { payload = payload; bit = bit } else b

-- the oldest message of a channel is in its inbox, unless it is a copy of one that was read there
pub record ReceivesLossy (before after : List InboxState) (old new : FabricState) (ch : ℕ) : Type 0 where
  pub message : Message
  pub delivers : Delivers old new ch message
  pub inboxes : after ≡ slice_set before ch (with_latest (slice_index_or before ch no_inbox) message.payload message.bit)

-- the oldest message of a channel is gone
pub record DropsOldest (old new : FabricState) (ch : ℕ) : Type 0 where
  pub message : Message
  pub delivers : Delivers old new ch message
