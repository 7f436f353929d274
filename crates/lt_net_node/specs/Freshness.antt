-- Which inboxes are fresh.
use Rattle.std.specs.Prelude.{◌≡◌, ℕ, Bool, not, ◌&&◌, ◌||◌, nat_lt, length, List, slice_index_or}
use Rattle.lt_arch.specs.declared.chan.Chan.{Chan}
use Rattle.lt_link.specs.Bits.{differ}
use Rattle.lt_link.specs.Inbox.{InboxState, no_inbox}
use Rattle.lt_link.specs.Ports.{is_to}
use Rattle.lt_net_node.specs.Acts.{marked}

-- a channel's inbox has a message that was not read
abbrev pub fresh_at : List InboxState → ℕ → Bool
fresh_at bs c = differ (slice_index_or bs c no_inbox).bit (slice_index_or bs c no_inbox).read

-- c is no such channel to node n, or its inbox is fresh
abbrev pub fresh_or_other : List Chan → List InboxState → ℕ → Bool → ℕ → Bool
fresh_or_other cs bs n kind c = not (is_to cs n kind c) || fresh_at bs c

-- c is such a channel to node n, and its inbox is fresh
abbrev pub fresh_one : List Chan → List InboxState → ℕ → Bool → ℕ → Bool
fresh_one cs bs n kind c = is_to cs n kind c && fresh_at bs c

-- the inboxes of such channels became read, below i
pub record TakenUpTo (i : ℕ) (on : ℕ → Bool) (old new : List InboxState) : Type 0 where
  pub same_length : length new ≡ length old
  pub each : (c : ℕ) → slice_index_or new c no_inbox ≡ marked (nat_lt c i && on c) (slice_index_or old c no_inbox)
