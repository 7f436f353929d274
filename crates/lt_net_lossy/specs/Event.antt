-- What an event does to the lists for which a net stands.
use Rattle.std.specs.Prelude.{◌≡◌, ℕ, ◌≤◌, ◌&&◌, nat_lt, Bool, true, false, List, [], ◌∷◌, ◌++◌, Option, Some, None}
use Rattle.lt_base.specs.declared.value.Value.{Value}
use Rattle.lt_arch.specs.declared.event.Deed.{Deed}
use Rattle.lt_arch.specs.declared.event.Deed.TheVariants.{Nothing, Execute, Send}
use Rattle.lt_arch.specs.declared.event.Event.TheVariants.{Act, Del, End}
use Rattle.lt_arch.specs.declared.limits.TheConstants.{GREATEST_TIME}
use Rattle.lt_arch.specs.Deeds.{deed_at, is_fresh}
use Rattle.lt_arch.specs.Readers.{carries_data}
use Rattle.lt_arch.specs.declared.shape.Shape.{Shape}
use Rattle.lt_lossy.specs.declared.event.LossyEvent.{LossyEvent}
use Rattle.lt_lossy.specs.declared.event.LossyEvent.TheVariants.{Plain, Lose}
use Rattle.lt_lossy.specs.State.{Message, LossyState, plain_of}
use Rattle.lt_lossy.specs.Step.{lossy_offence}
use Rattle.lt_lossy.specs.Times.{LossyTimes, HasLossyTimes, lossy_time_of}
use Rattle.lt_net_bench.specs.Changes.{GrowsByRow, Gets, Replaces, NoListChanged}
use Rattle.lt_net_lossy.specs.Net.{LossyBenchState, LossyLists, lossy_state_of}
use Rattle.lt_arch.specs.declared.timing.Timing.{Timing}

-- no state that the watch tells gives the event an offence
abbrev pub PassesWatch : LossyTimes → LossyEvent → Type 0
PassesWatch w e = (s : Shape) (t : Timing) (allowed : ℕ) (st : LossyState) → HasLossyTimes w s t allowed st → lossy_offence s t allowed st e ≡ None

-- the event is in the range of times, and has no offence
pub record PassesLossy {C M : Type 0} (net : LossyBenchState C M) (ls : LossyLists) (e : LossyEvent) : Type 0 where
  pub timely : lossy_time_of e ≤ GREATEST_TIME
  pub clear : lossy_offence net.shape net.timing net.watch.limit (lossy_state_of net ls) e ≡ None

-- the oldest of these messages is newer than the newest that was delivered; else it is a copy of that one
abbrev pub is_newer : (newest : ℕ) → List Message → Bool
is_newer newest [] = false
is_newer newest (m ∷ later) = nat_lt newest m.number

-- the channel's next delivery is no copy of the last one
abbrev pub brings_new : LossyState → (c : ℕ) → Bool
brings_new st c = is_newer (st.link c).newest (st.link c).transit

-- the rows of the acting node with that of its instant
abbrev pub RowsGo : (n : ℕ) → Deed → Option (List Value) → (old new : ℕ → List (List Value)) → Type 0
RowsGo n Execute (Some row) old new = GrowsByRow old new n row
RowsGo n Execute None old new = ⊥
RowsGo n Nothing row old new = NoListChanged old new
RowsGo n Send row old new = NoListChanged old new

abbrev pub LossyInputsGo : LossyEvent → Deed → Option (List Value) → (old new : ℕ → List (List Value)) → Type 0
LossyInputsGo (Plain (Act n at)) deed row old new = RowsGo n deed row old new
LossyInputsGo (Plain (Del c at)) deed row old new = NoListChanged old new
LossyInputsGo (Plain (End at)) deed row old new = NoListChanged old new
LossyInputsGo (Lose c at) deed row old new = NoListChanged old new

-- the deed of an activation
abbrev pub lossy_deed_by : {C M : Type 0} → LossyBenchState C M → LossyLists → LossyEvent → Deed
lossy_deed_by net ls (Plain (Act n at)) = deed_at net.shape net.rows (plain_of (lossy_state_of net ls)) n
lossy_deed_by net ls (Plain (Del c at)) = Nothing
lossy_deed_by net ls (Plain (End at)) = Nothing
lossy_deed_by net ls (Lose c at) = Nothing

-- channel c carries data, and its receiver has not run yet on the newest message that it delivered
abbrev pub is_unread : Shape → LossyState → (c : ℕ) → Bool
is_unread s st c = carries_data s c && is_fresh s (plain_of st) c

-- the payloads of a channel after a delivery: with one more where the message is new, with another last one where it is a copy of one that is
-- unread, and else as they were
abbrev pub GetsBy : (is_new unread : Bool) → (old new : ℕ → List (List Value)) → (ch : ℕ) → (payload : List Value) → Type 0
GetsBy true unread old new ch payload = Gets old new ch payload
GetsBy false true old new ch payload = Replaces old new ch payload
GetsBy false false old new ch payload = NoListChanged old new

-- only a delivery changes payloads
abbrev pub LossyGotGoes : Shape → LossyState → LossyEvent → List Value → (old new : ℕ → List (List Value)) → Type 0
LossyGotGoes s st (Plain (Act n at)) payload old new = NoListChanged old new
LossyGotGoes s st (Plain (Del c at)) payload old new = GetsBy (brings_new st c) (is_unread s st c) old new c payload
LossyGotGoes s st (Plain (End at)) payload old new = NoListChanged old new
LossyGotGoes s st (Lose c at) payload old new = NoListChanged old new

-- lists with all entries of one event more
pub record LossyGoesOn {C M : Type 0} (net : LossyBenchState C M) (ls next : LossyLists) (e : LossyEvent) (row : Option (List Value)) (payload : List Value) : Type 0 where
  pub events : next.events ≡ ls.events ++ e ∷ []
  pub inputs : LossyInputsGo e (lossy_deed_by net ls e) row ls.inputs next.inputs
  pub got : LossyGotGoes net.shape (lossy_state_of net ls) e payload ls.got next.got
