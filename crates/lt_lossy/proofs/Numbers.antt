-- The numbers of a channel go up.
use Rattle.std.proofs.Common.{◌≡◌, ℕ, ◌+◌, ◌≤◌, List, [], ◌∷◌, ◌++◌, Bool, true, false, refl, arith}
use Rattle.lt_lossy.specs.State.{Message, LinkState}
use Rattle.lt_lossy.specs.Step.{link_with_message, link_delivered, link_lost}
use Rattle.lt_lossy.specs.Laws.{Ascends}

pub ascends-ends : (low : ℕ) (xs : List Message) (high : ℕ) → Ascends low xs high → low ≤ high
ascends-ends low [] high h = h
ascends-ends low (m ∷ later) high h = let k = ascends-ends m.number later high h.1 in omega (arith, h.0, k)

pub ascends-higher : (low : ℕ) (xs : List Message) (high higher : ℕ) → Ascends low xs high → high ≤ higher → Ascends low xs higher
ascends-higher low [] high higher h le = omega arith
ascends-higher low (m ∷ later) high higher h le = (h.0, ascends-higher m.number later high higher h.1 le)

ascends-lower : (lower low : ℕ) (xs : List Message) (high : ℕ) → lower ≤ low → Ascends low xs high → Ascends lower xs high
ascends-lower lower low [] high le h = omega arith
ascends-lower lower low (m ∷ later) high le h = (omega (arith, h.0), h.1)

ascends-append : (low : ℕ) (xs : List Message) (high number at : ℕ) → Ascends low xs high → high ≤ number → Ascends low (xs ++ record { number = number; sent_at = at } ∷ []) number
ascends-append low [] high number at h le = (omega arith, omega arith)
ascends-append low (m ∷ later) high number at h le = (h.0, ascends-append m.number later high number at h.1 le)

-- a message of a number that is not below what was counted before
pub ascends-sent : (b : Bool) (number at high : ℕ) (link : LinkState) → Ascends link.newest link.transit high → high ≤ number → Ascends (link_with_message b number at link).newest (link_with_message b number at link).transit number
ascends-sent true number at high link h le = ascends-append link.newest link.transit high number at h le
ascends-sent false number at high link h le = ascends-higher link.newest link.transit high number h le

pub ascends-delivered : (link : LinkState) (xs : List Message) (high : ℕ) → link.transit ≡ xs → Ascends link.newest link.transit high → Ascends (link_delivered link xs).newest (link_delivered link xs).transit high
ascends-delivered link [] high e h = h
ascends-delivered link (m ∷ later) high e h = let h' = rw e at h in h'.1

pub ascends-lost : (link : LinkState) (xs : List Message) (high : ℕ) → link.transit ≡ xs → Ascends link.newest link.transit high → Ascends (link_lost link xs).newest (link_lost link xs).transit high
ascends-lost link [] high e h = h
ascends-lost link (m ∷ later) high e h = let h' = rw e at h in ascends-lower link.newest m.number later high h'.0 h'.1

-- what was delivered is not forgotten
pub newest-delivered : (link : LinkState) (xs : List Message) (high : ℕ) → link.transit ≡ xs → Ascends link.newest link.transit high → link.newest ≤ (link_delivered link xs).newest
newest-delivered link [] high e h = omega arith
newest-delivered link (m ∷ later) high e h = let h' = rw e at h in h'.0

pub newest-lost : (link : LinkState) (xs : List Message) → (link_lost link xs).newest ≡ link.newest
newest-lost link [] = refl
newest-lost link (m ∷ later) = refl

pub losses-delivered : (link : LinkState) (xs : List Message) → (link_delivered link xs).losses ≤ link.losses
losses-delivered link [] = omega arith
losses-delivered link (m ∷ later) = omega arith

pub losses-lost : (link : LinkState) (xs : List Message) → (link_lost link xs).losses ≤ link.losses + 1
losses-lost link [] = omega arith
losses-lost link (m ∷ later) = omega arith
