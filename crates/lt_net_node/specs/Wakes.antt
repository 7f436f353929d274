-- A controller that was woken.
use Rattle.std.specs.Prelude.{◌≡◌, ℕ, Bool, true, false, List, Some, length, nat_lt, slice_get, slice_set, slice_index_or}
use Rattle.lt_arch.specs.declared.controller.Controller.{Ghosts as Controls}
use Rattle.lt_arch.specs.declared.chan.Chan.{Chan}
use Rattle.lt_arch.specs.declared.event.Deed.{Deed}
use Rattle.lt_arch.specs.declared.timing.Timing.{Timing}
use Rattle.lt_arch.specs.declared.timing.Protocol.TheVariants.{TimeBased}
use Rattle.lt_arch.specs.Readers.{send_of, execute_of}
use Rattle.lt_arch.specs.Deeds.{deed_of, phase_after, all_below, some_below}
use Rattle.lt_link.specs.Inbox.{InboxState}
use Rattle.lt_net_node.specs.Freshness.{fresh_or_other, fresh_one}

-- what a controller is told: that every, or some, data inbox is fresh, that every inbox of acknowledgements is, that a row is left
pub record Bits : Type 0 where
  pub all_in : Bool
  pub any_in : Bool
  pub all_ack : Bool
  pub more : Bool

-- what node n's inboxes and its count of instants tell it
abbrev pub bits_of : (cs : List Chan) (inboxes : List InboxState) (executed : List ℕ) (rows n : ℕ) → Bits
bits_of cs inboxes executed rows n = record {
  all_in = all_below (fresh_or_other cs inboxes n true) (length cs);
  any_in = some_below (fresh_one cs inboxes n true) (length cs);
  all_ack = all_below (fresh_or_other cs inboxes n false) (length cs);
  more = nat_lt (slice_index_or executed n 0) rows;
}

-- node n's controller answers this deed where it is told these bits, and the others stay
pub record Wakes {C : Type 0} (A : Controls C) (old new : List C) (n : ℕ) (bits : Bits) (deed : Deed) : Type 0 where
  pub before : C
  pub there : slice_get old n ≡ Some before
  pub after : C
  pub is : new ≡ slice_set old n after
  pub deed_is : deed ≡ deed_of (A.phase before) bits.all_in bits.any_in bits.all_ack bits.more
  pub phase_is : A.phase after ≡ phase_after (A.send before) (A.execute before) (A.phase before) deed
  pub protocol_is : A.protocol after ≡ A.protocol before
  pub send_is : A.send after ≡ A.send before
  pub execute_is : A.execute after ≡ A.execute before

-- each controller is of the timing's protocol and, where that counts activations, has its node's two countdowns
pub record AreConfigured {C : Type 0} (A : Controls C) (t : Timing) (cs : List C) : Type 0 where
  pub same_protocol : (n : ℕ) (c : C) → slice_get cs n ≡ Some c → A.protocol c ≡ t.protocol
  pub sends : t.protocol ≡ TimeBased → (n : ℕ) (c : C) → slice_get cs n ≡ Some c → A.send c ≡ send_of t n
  pub executes : t.protocol ≡ TimeBased → (n : ℕ) (c : C) → slice_get cs n ≡ Some c → A.execute c ≡ execute_of t n
