-- What an object of `Fabric` stands for, and what its calls do to it.
use Rattle.std.specs.Prelude.{◌≡◌, ◌≢◌, ◌≤◌, ℕ, suc, Bool, IsTrue, List, [], ◌∷◌, ◌++◌, map, slice_index_or, Result, OnOk, OnErr, IfOk, IsErrOf}
use Rattle.lt_base.specs.declared.value.Ty.{Ty}
use Rattle.lt_base.specs.declared.value.Value.{Value}
use Rattle.lt_base.specs.Value.{ty_of}
use Rattle.lt_io.specs.declared.message.Message.{Message}
use Rattle.lt_io.specs.declared.fault.LinkErr.{LinkErr}
use Rattle.lt_io.specs.declared.fault.LinkErr.TheVariants.{Memory}
use Rattle.lt_io.specs.Counts.{LinkCounted}

pub record FabricState : Type 0 where
  -- whether what is delivered has the values that were sent
  pub faithful : Bool
  -- whether a delivery, and a send on a channel with nothing in transit, never want memory
  pub prompt : Bool
  -- whether the count never rises
  pub sound : Bool
  -- whether the lists sent and delivered are told
  pub told : Bool
  -- the types of each channel's payloads; the fabric is empty where there is none
  pub kinds : List (List Ty)
  -- of each channel: the messages in transit, as they were sent, oldest first
  pub transit : ℕ → List Message
  -- where told, of each channel: all messages sent, and all delivered
  pub sent : ℕ → List Message
  pub delivered : ℕ → List Message
  -- how often `open` was called, whether or not it answered Ok
  pub opens : ℕ
  -- the count of faults
  pub faults : ℕ

-- the types on the channel of this number
abbrev pub channel_kind : FabricState → ℕ → List Ty
channel_kind s ch = slice_index_or s.kinds ch []

-- what no call changes; and none ends `prompt`
pub record KeepsPromises (old new : FabricState) : Type 0 where
  pub faithful : new.faithful ≡ old.faithful
  pub sound : new.sound ≡ old.sound
  pub told : new.told ≡ old.told
  pub prompt : IsTrue old.prompt → IsTrue new.prompt

-- what no call but `open` changes: the same, how often it was called, and the types of the channels' payloads
pub record KeepsFabric (old new : FabricState) : Type 0 where
  pub faithful : new.faithful ≡ old.faithful
  pub sound : new.sound ≡ old.sound
  pub told : new.told ≡ old.told
  pub prompt : IsTrue old.prompt → IsTrue new.prompt
  pub opens : new.opens ≡ old.opens
  pub kinds : new.kinds ≡ old.kinds

-- all channels and lists are as they were
pub record SameLists (old new : FabricState) : Type 0 where
  pub kinds : new.kinds ≡ old.kinds
  pub transit : (c : ℕ) → new.transit c ≡ old.transit c
  pub sent : IsTrue old.told → (c : ℕ) → new.sent c ≡ old.sent c
  pub delivered : IsTrue old.told → (c : ℕ) → new.delivered c ≡ old.delivered c

-- these channels are there, and all lists are empty
pub record OpensFabric (old new : FabricState) (kinds : List (List Ty)) : Type 0 where
  pub channels : new.kinds ≡ kinds
  pub transit : (c : ℕ) → new.transit c ≡ []
  pub sent : IsTrue old.told → (c : ℕ) → new.sent c ≡ []
  pub delivered : IsTrue old.told → (c : ℕ) → new.delivered c ≡ []

-- one channel's list grows by a message, and the others stay
pub record Grows (old new : ℕ → List Message) (ch : ℕ) (message : Message) : Type 0 where
  pub there : new ch ≡ old ch ++ message ∷ []
  pub elsewhere : (c : ℕ) → c ≢ ch → new c ≡ old c

-- the message is the last in transit on this channel, and all else stays
pub record Sends (old new : FabricState) (ch : ℕ) (message : Message) : Type 0 where
  pub kinds : new.kinds ≡ old.kinds
  pub transit : Grows old.transit new.transit ch message
  pub sent : IsTrue old.told → Grows old.sent new.sent ch message
  pub delivered : IsTrue old.told → (c : ℕ) → new.delivered c ≡ old.delivered c

-- the message comes of the oldest in transit on this channel, and all else stays
pub record Delivers (old new : FabricState) (ch : ℕ) (message : Message) : Type 0 where
  pub kinds : new.kinds ≡ old.kinds
  pub oldest : Message
  pub taken : old.transit ch ≡ oldest ∷ new.transit ch
  pub elsewhere : (c : ℕ) → c ≢ ch → new.transit c ≡ old.transit c
  pub bit : message.bit ≡ oldest.bit
  pub types : map ty_of message.payload ≡ map ty_of oldest.payload
  pub typed : map ty_of message.payload ≡ channel_kind old ch
  pub values : IsTrue old.faithful → message.payload ≡ oldest.payload
  pub sent : IsTrue old.told → (c : ℕ) → new.sent c ≡ old.sent c
  pub delivered : IsTrue old.told → Grows old.delivered new.delivered ch message

-- a call of `open`
pub record OpensChannels {T : Type 0} (old new : FabricState) (kinds : List (List Ty)) (result : Result T LinkErr) : Type 0 where
  pub cause : LinkCounted old.faults new.faults result
  pub keeps : KeepsPromises old new
  pub opens : new.opens ≡ suc old.opens
  pub opened : OnOk result (OpensFabric old new kinds)
  pub same : OnErr result (SameLists old new)
  pub sound : IsTrue old.sound → new.faults ≡ old.faults

-- a call of `send`
pub record SendsMessage {T : Type 0} (old new : FabricState) (ch : ℕ) (message : Message) (result : Result T LinkErr) : Type 0 where
  pub cause : LinkCounted old.faults new.faults result
  pub keeps : KeepsFabric old new
  pub sent : OnOk result (Sends old new ch message)
  pub same : OnErr result (SameLists old new)
  pub prompt : IsTrue old.prompt → old.transit ch ≡ [] → ¬ IsErrOf result Memory
  pub sound : IsTrue old.sound → new.faults ≡ old.faults

-- a call of `deliver`, which leaves this payload and answers its bit
pub record DeliversOldest (old new : FabricState) (ch : ℕ) (payload : List Value) (result : Result Bool LinkErr) : Type 0 where
  pub cause : LinkCounted old.faults new.faults result
  pub keeps : KeepsFabric old new
  pub delivered : IfOk result (λ bit. Delivers old new ch (record { payload = payload; bit = bit }))
  pub same : OnErr result (SameLists old new)
  pub prompt : IsTrue old.prompt → ¬ IsErrOf result Memory
  pub sound : IsTrue old.sound → new.faults ≡ old.faults

-- over all calls of a step `open` was called once, or not at all
pub record OpensAtMostOnce (old new : FabricState) : Type 0 where
  pub least : old.opens ≤ new.opens
  pub most : new.opens ≤ suc old.opens

-- and once where the step answered Ok
pub record OpensOnce {T E : Type 0} (old new : FabricState) (result : Result T E) : Type 0 where
  pub calls : OpensAtMostOnce old new
  pub done : OnOk result (new.opens ≡ suc old.opens)
