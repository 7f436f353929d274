-- Loops over the channels of a node that sends.
use Rattle.std.proofs.Common.{◌≡◌, ℕ, ◌+◌, ◌<◌, ◌≤◌, Bool, false, List, length}
use Rattle.std.specs.Prelude.{slice_index_or}
use Rattle.lt_arch.specs.Times.{Times}
use Rattle.lt_io.specs.declared.message.Message.{Message}
use Rattle.lt_io.specs.FabricState.{FabricState}
use Rattle.lt_link.specs.Ports.{numbers}
use Rattle.lt_net.specs.Sends.{SendsUpTo}
use Rattle.lt_net.proofs.SendLoop.{up_to_none, up_to_skip}
use Rattle.lt_net.proofs.SendCosts.{CostsUpTo, costs_none, costs_skip}
use Rattle.lt_link.proofs.Listed.{from_start, onward, here, at_end}

-- The channels of a node send.
module _ (on : ℕ → Bool) (n : ℕ) (xs : List ℕ) (is : xs ≡ numbers on n) (message : ℕ → Message) (at : ℕ) (old : FabricState) (w : Times) (places before : ℕ) where
  abbrev pub Sent : FabricState → Times → ℕ → ℕ → Type 0
  Sent new v now c = SendsUpTo c on message at old new w v × CostsUpTo on places c before now

  skip_sent : (new : FabricState) (v : Times) (now c : ℕ) → c < n → on c ≡ false → Sent new v now c → Sent new v now (c + 1)
  skip_sent new v now c lt off h = (up_to_skip on message c at old new w v h.0 off, costs_skip on places c before now h.1 off)

  pub sends_begin : Sent old w before (slice_index_or xs 0 n)
  sends_begin = from_start on n xs is (λ c. Sent old w before c) (skip_sent old w before) (up_to_none on message at old w, costs_none on places before)

  pub sends_here : (new : FabricState) (v : Times) (now i : ℕ) → i < length xs → Sent new v now (slice_index_or xs i n) → Sent new v now (slice_index_or xs i 0)
  sends_here new v now i lt h = here n xs (λ c. Sent new v now c) i lt h

  pub sends_onward : (new : FabricState) (v : Times) (now i : ℕ) → i < length xs → Sent new v now (slice_index_or xs i 0 + 1) → Sent new v now (slice_index_or xs (i + 1) n)
  sends_onward new v now i lt h = onward on n xs is (λ c. Sent new v now c) (skip_sent new v now) i lt h

  pub sends_end : (new : FabricState) (v : Times) (now i : ℕ) → length xs ≤ i → Sent new v now (slice_index_or xs i n) → Sent new v now n
  sends_end new v now i ge h = at_end n xs (λ c. Sent new v now c) i ge h
