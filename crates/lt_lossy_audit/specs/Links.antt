-- What is read of a channel over links that lose messages.
use Rattle.std.specs.Prelude.{ℕ, List, [], map, slice_index_or}
use Rattle.lt_lossy.specs.State.{Message, LinkState}

-- the numbers of the messages in transit, oldest first
abbrev pub link_numbers : LinkState → List ℕ
link_numbers link = map (λ (m : Message). m.number) link.transit

-- and when they were sent
abbrev pub link_send_times : LinkState → List ℕ
link_send_times link = map (λ (m : Message). m.sent_at) link.transit

-- a channel that was never used
abbrev pub no_link : LinkState
no_link = record { newest = 0; transit = []; losses = 0 }

abbrev pub link_seen : List LinkState → (c : ℕ) → LinkState
link_seen ls c = slice_index_or ls c no_link
