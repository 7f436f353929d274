-- Messages in transit, and when they arrive.
use Rattle.std.proofs.Common.{◌≡◌, ℕ, ◌+◌, ◌≤◌, max, List, [], ◌∷◌, ◌++◌, length, drop, Some, None, Bool, true, false, if◌then◌else◌, refl, subst, arith}
use Rattle.lt_lossy.specs.State.{Message, LinkState, lossy_start}
use Rattle.lt_lossy.specs.Step.{link_with_message, link_delivered, link_lost}
use Rattle.lt_lossy.specs.Times.{oldest_in}
use Rattle.lt_lossy.proofs.Oldest.{oldest_of}
use Rattle.lt_sim.specs.Standing.{IsTransitPending}
use Rattle.lt_losing.specs.Losing.{last_or, with_arrival}
use Rattle.lt_losing.specs.Bounds.{AreArrivals}

pub arrivals_later : (dmin dmax now later low : ℕ) (ms : List Message) (arrivals : List ℕ) → now ≤ later → AreArrivals dmin dmax now low ms arrivals → AreArrivals dmin dmax later low ms arrivals
arrivals_later dmin dmax now later low [] [] le h = tt
arrivals_later dmin dmax now later low [] (at ∷ arrivals) le h = absurd h
arrivals_later dmin dmax now later low (m ∷ ms) [] le h = absurd h
arrivals_later dmin dmax now later low (m ∷ ms) (at ∷ arrivals) le h =
    (record { sent = omega (arith, h.0.sent, le); order = h.0.order; least = h.0.least; most = h.0.most }, arrivals_later dmin dmax now later at ms arrivals le h.1)

-- where the oldest comes no earlier than a time, all do
pub arrivals_from : (dmin dmax now low from : ℕ) (ms : List Message) (arrivals : List ℕ) → ((at : ℕ) → oldest_in arrivals ≡ Some at → from ≤ at) → AreArrivals dmin dmax now low ms arrivals → AreArrivals dmin dmax now from ms arrivals
arrivals_from dmin dmax now low from [] [] first h = tt
arrivals_from dmin dmax now low from [] (at ∷ arrivals) first h = absurd h
arrivals_from dmin dmax now low from (m ∷ ms) [] first h = absurd h
arrivals_from dmin dmax now low from (m ∷ ms) (at ∷ arrivals) first h = (record { sent = h.0.sent; order = first at refl; least = h.0.least; most = h.0.most }, h.1)

pub oldest-from : (dmin dmax now low : ℕ) (ms : List Message) (arrivals : List ℕ) (at : ℕ) → AreArrivals dmin dmax now low ms arrivals → oldest_in arrivals ≡ Some at → low ≤ at
oldest-from dmin dmax now low [] [] at h is = cc
oldest-from dmin dmax now low [] (first ∷ arrivals) at h is = absurd h
oldest-from dmin dmax now low (m ∷ ms) [] at h is = absurd h
oldest-from dmin dmax now low (m ∷ ms) (first ∷ arrivals) at h is = let same : first ≡ at = cc in omega (arith, same, h.0.order)

-- A message more.

-- the last arrival, or another time, does not keep it past the greatest delay, since what was sent before arrives within the greatest delay
arrivals-append : (dmin dmax now low other number delay : ℕ) (ms : List Message) (arrivals : List ℕ) → dmin ≤ delay → delay ≤ dmax → other ≤ now + dmax → low ≤ max other (now + delay)
    → AreArrivals dmin dmax now low ms arrivals → AreArrivals dmin dmax now low (ms ++ record { number = number; sent_at = now } ∷ []) (arrivals ++ max (last_or other arrivals) (now + delay) ∷ [])
arrivals-append dmin dmax now low other number delay [] [] least most before order h = (record { sent = omega arith; order = order; least = omega (arith, least); most = omega (arith, most, before) }, tt)
arrivals-append dmin dmax now low other number delay [] (at ∷ arrivals) least most before order h = absurd h
arrivals-append dmin dmax now low other number delay (m ∷ ms) [] least most before order h = absurd h
arrivals-append dmin dmax now low other number delay (m ∷ ms) (at ∷ arrivals) least most before order h =
    (h.0, arrivals-append dmin dmax now at at number delay ms arrivals least most (let sent = h.0.sent in let late = h.0.most in omega (arith, sent, late)) (omega arith) h.1)

-- on a channel on which a message was sent, or not
pub arrivals_sent : (b : Bool) (dmin dmax now number delay : ℕ) (link : LinkState) (arrivals : List ℕ) → dmin ≤ delay → delay ≤ dmax → AreArrivals dmin dmax now now link.transit arrivals
    → AreArrivals dmin dmax now now (link_with_message b number now link).transit (if b then with_arrival arrivals (now + delay) else arrivals)
arrivals_sent true dmin dmax now number delay link arrivals least most h = arrivals-append dmin dmax now now 0 number delay link.transit arrivals least most (omega arith) (omega arith) h
arrivals_sent false dmin dmax now number delay link arrivals least most h = h

-- A message less.

-- on a channel that delivered its oldest message
pub arrivals_delivered : (dmin dmax now low at : ℕ) (link : LinkState) (ms : List Message) (arrivals : List ℕ) → oldest_in arrivals ≡ Some at → AreArrivals dmin dmax now low ms arrivals
    → AreArrivals dmin dmax now at (link_delivered link ms).transit (drop 1 arrivals)
arrivals_delivered dmin dmax now low at link [] [] is h = cc
arrivals_delivered dmin dmax now low at link [] (first ∷ arrivals) is h = absurd h
arrivals_delivered dmin dmax now low at link (m ∷ ms) [] is h = absurd h
arrivals_delivered dmin dmax now low at link (m ∷ ms) (first ∷ arrivals) is h = let same : first ≡ at = cc in subst (λ (k : ℕ). AreArrivals dmin dmax now k ms arrivals) same h.1

-- and on one that lost it
pub arrivals_lost : (dmin dmax now low at : ℕ) (link : LinkState) (ms : List Message) (arrivals : List ℕ) → oldest_in arrivals ≡ Some at → AreArrivals dmin dmax now low ms arrivals
    → AreArrivals dmin dmax now at (link_lost link ms).transit (drop 1 arrivals)
arrivals_lost dmin dmax now low at link [] [] is h = cc
arrivals_lost dmin dmax now low at link [] (first ∷ arrivals) is h = absurd h
arrivals_lost dmin dmax now low at link (m ∷ ms) [] is h = absurd h
arrivals_lost dmin dmax now low at link (m ∷ ms) (first ∷ arrivals) is h = let same : first ≡ at = cc in subst (λ (k : ℕ). AreArrivals dmin dmax now k ms arrivals) same h.1

-- The oldest message alone.

-- its send time, where there is one
abbrev oldest_sent : List Message → List ℕ
oldest_sent ms = ((oldest_of (record { node = lossy_start.node; link = λ c. record { newest = 0; transit = ms; losses = 0 }; latest = None; horizon = None })).chan 0).transit

pub oldest_pending : (dmin dmax now low : ℕ) (ms : List Message) (arrivals : List ℕ) → AreArrivals dmin dmax now low ms arrivals → IsTransitPending dmin dmax (oldest_sent ms) (oldest_in arrivals)
oldest_pending dmin dmax now low [] [] h = tt
oldest_pending dmin dmax now low [] (at ∷ arrivals) h = absurd h
oldest_pending dmin dmax now low (m ∷ ms) [] h = absurd h
oldest_pending dmin dmax now low (m ∷ ms) (at ∷ arrivals) h = (h.0.least, h.0.most)

-- How many there are.

pub fewer_arrivals : (arrivals : List ℕ) (at : ℕ) → oldest_in arrivals ≡ Some at → length (drop 1 arrivals) + 1 ≤ length arrivals
fewer_arrivals [] at is = cc
fewer_arrivals (first ∷ arrivals) at is = omega arith

-- where something arrives, something is in transit
pub some_transit : (dmin dmax now low at : ℕ) (ms : List Message) (arrivals : List ℕ) → AreArrivals dmin dmax now low ms arrivals → oldest_in arrivals ≡ Some at → 1 ≤ length ms
some_transit dmin dmax now low at ms [] h is = absurd cc
some_transit dmin dmax now low at [] (first ∷ arrivals) h is = absurd h
some_transit dmin dmax now low at (m ∷ ms) (first ∷ arrivals) h is = omega arith
