-- A message of a number above k that a node sends again at each activation. Let the node count more than k from a time `by` on, which is to say that its deadline is at most `by` as long as it does
-- not. While nothing above k is delivered, messages of numbers up to k were sent by then, and those above k one after another with at most a gap between two activations: the next one in
-- transit, of which as many were lost before as were lost in a row, by so many gaps after `by`, each further one a gap later, and the next activation after the last one a gap later too. So with few losses in a row, what is
-- in transit or the next activation is due early.
use Rattle.std.proofs.Common.{◌≡◌, ℕ, ◌+◌, ◌*◌, ◌<◌, ◌≤◌, List, [], ◌∷◌, ◌++◌, Bool, true, false, refl, arith, nat_lt, nat_le, le-leb, ltb-false, leb-true, leb-false}
use Rattle.std.proofs.Math.Nat.{mul-le-mul_right}
use Rattle.std.proofs.lemmas.Bool.{lt-leb}
use Rattle.lt_lossy.specs.State.{Message, LinkState}
use Rattle.lt_lossy.specs.Step.{link_with_message, link_delivered, link_lost}
use Rattle.lt_lossy.specs.Laws.{Ascends}

-- a message above k makes the next one due a gap later
abbrev pub next_by : (old : Bool) (gap by : ℕ) → ℕ
next_by true gap by = by
next_by false gap by = by + gap

-- each was sent in time, and the next activation is due in time
abbrev pub IsPaced : (gap k : ℕ) → List Message → (by deadline : ℕ) → Type 0
IsPaced gap k [] by deadline = deadline ≤ by
IsPaced gap k (m ∷ later) by deadline = (m.sent_at ≤ by) × IsPaced gap k later (next_by (nat_le m.number k) gap by) deadline

-- by when the oldest was sent, after so many losses in a row
abbrev pub granted : (old : Bool) (gap by losses : ℕ) → ℕ
granted true gap by losses = by
granted false gap by losses = by + losses * gap

abbrev pub oldest_by : (gap k by losses : ℕ) → List Message → ℕ
oldest_by gap k by losses [] = by + losses * gap
oldest_by gap k by losses (m ∷ later) = granted (nat_le m.number k) gap by losses

abbrev pub Resends : (gap k by : ℕ) → LinkState → (deadline : ℕ) → Type 0
Resends gap k by link deadline = IsPaced gap k link.transit (oldest_by gap k by link.losses link.transit) deadline

next_by-more : (b : Bool) (gap x y : ℕ) → x ≤ y → next_by b gap x ≤ next_by b gap y
next_by-more true gap x y le = le
next_by-more false gap x y le = omega arith

next_by-low : (b : Bool) (gap x : ℕ) → x ≤ next_by b gap x
next_by-low true gap x = omega arith
next_by-low false gap x = omega arith

granted-low : (b : Bool) (gap by losses : ℕ) → by ≤ granted b gap by losses
granted-low true gap by losses = omega arith
granted-low false gap by losses = omega arith

granted-high : (b : Bool) (gap by losses : ℕ) → granted b gap by losses ≤ by + losses * gap
granted-high true gap by losses = omega arith
granted-high false gap by losses = omega arith

oldest_by-low : (gap k by losses : ℕ) (xs : List Message) → by ≤ oldest_by gap k by losses xs
oldest_by-low gap k by losses [] = omega arith
oldest_by-low gap k by losses (m ∷ later) = granted-low (nat_le m.number k) gap by losses

paced-later : (gap k : ℕ) (xs : List Message) (x y d : ℕ) → x ≤ y → IsPaced gap k xs x d → IsPaced gap k xs y d
paced-later gap k [] x y d le h = omega arith
paced-later gap k (m ∷ later) x y d le h = (omega (arith, h.0), paced-later gap k later _ _ d (next_by-more (nat_le m.number k) gap x y le) h.1)

-- another deadline in time
paced-deadline : (gap k : ℕ) (xs : List Message) (by d d' : ℕ) → IsPaced gap k xs by d → d' ≤ by → IsPaced gap k xs by d'
paced-deadline gap k [] by d d' h le = le
paced-deadline gap k (m ∷ later) by d d' h le =
    let low = next_by-low (nat_le m.number k) gap by in
    (h.0, paced-deadline gap k later _ d d' h.1 (omega (arith, low)))

-- a message above k, sent by the deadline, which moves by at most a gap
paced-append : (gap k : ℕ) (xs : List Message) (by d d' number at : ℕ) → IsPaced gap k xs by d → nat_le number k ≡ false → at ≤ d → d' ≤ d + gap → IsPaced gap k (xs ++ record { number = number; sent_at = at } ∷ []) by d'
paced-append gap k [] by d d' number at h above le le' = (omega arith, rw above (omega arith))
paced-append gap k (m ∷ later) by d d' number at h above le le' = (h.0, paced-append gap k later _ d d' number at h.1 above le le')

-- a message of a number up to k, sent in time
paced-old : (gap k : ℕ) (xs : List Message) (by d d' number at : ℕ) → IsPaced gap k xs by d → nat_le number k ≡ true → at ≤ by → d' ≤ by → IsPaced gap k (xs ++ record { number = number; sent_at = at } ∷ []) by d'
paced-old gap k [] by d d' number at h below le le' = (le, rw below le')
paced-old gap k (m ∷ later) by d d' number at h below le le' =
    let low = next_by-low (nat_le m.number k) gap by in
    (h.0, paced-old gap k later _ d d' number at h.1 below (omega (arith, low)) (omega (arith, low)))

-- An activation of the sender.

module _ (gap k by d d' number at : ℕ) where
  sent-above : (xs : List Message) (losses : ℕ) → IsPaced gap k xs (oldest_by gap k by losses xs) d → nat_le number k ≡ false → at ≤ d → d' ≤ d + gap →
      IsPaced gap k (xs ++ record { number = number; sent_at = at } ∷ []) (oldest_by gap k by losses (xs ++ record { number = number; sent_at = at } ∷ [])) d'
  sent-above [] losses h above le le' = rw above (omega arith, omega arith)
  sent-above (m ∷ later) losses h above le le' = (h.0, paced-append gap k later _ d d' number at h.1 above le le')

  sent-below : (xs : List Message) (losses : ℕ) → IsPaced gap k xs (oldest_by gap k by losses xs) d → nat_le number k ≡ true → at ≤ by → d' ≤ by →
      IsPaced gap k (xs ++ record { number = number; sent_at = at } ∷ []) (oldest_by gap k by losses (xs ++ record { number = number; sent_at = at } ∷ [])) d'
  sent-below [] losses h below le le' = rw below (le, le')
  sent-below (m ∷ later) losses h below le le' =
      let low = granted-low (nat_le m.number k) gap by losses in
      paced-old gap k (m ∷ later) _ d d' number at h below (omega (arith, low)) (omega (arith, low))

  sent-any : (above : Bool) (some : Bool) (link : LinkState) → nat_le number k ≡ above → nat_lt 0 number ≡ some → Resends gap k by link d → at ≤ d → d' ≤ d + gap → (number ≤ k → (at ≤ by) × (d' ≤ by)) →
      Resends gap k by (link_with_message some number at link) d'
  sent-any true true link is given h le le' early = let e = early (leb-true number k is) in sent-below link.transit link.losses h is e.0 e.1
  sent-any true false link is given h le le' early = let e = early (leb-true number k is) in paced-deadline gap k link.transit _ d d' h (let l = oldest_by-low gap k by link.losses link.transit in omega (arith, e.1, l))
  sent-any false true link is given h le le' early = sent-above link.transit link.losses h is le le'
  sent-any false false link is given h le le' early = let z = ltb-false 0 number given in let y = leb-false number k is in absurd (omega arith)

  pub resends-sent : (link : LinkState) → Resends gap k by link d → at ≤ d → d' ≤ d + gap → (number ≤ k → (at ≤ by) × (d' ≤ by)) → Resends gap k by (link_with_message (nat_lt 0 number) number at link) d'
  resends-sent link h le le' early = sent-any (nat_le number k) (nat_lt 0 number) link refl refl h le le' early

-- A delivery that brings nothing above k, and a loss.

delivered-if : (old : Bool) (gap k by losses d at : ℕ) (later : List Message) → old ≡ true → IsPaced gap k later (next_by old gap (granted old gap by losses)) d → IsPaced gap k later (oldest_by gap k by 0 later) d
delivered-if old gap k by losses d at later is h = paced-later gap k later by _ d (oldest_by-low gap k by 0 later) (rw is at h)

pub resends-delivered : (gap k by d : ℕ) (link : LinkState) (xs : List Message) → link.transit ≡ xs → Resends gap k by link d → (link_delivered link xs).newest ≤ k → Resends gap k by (link_delivered link xs) d
resends-delivered gap k by d link [] e h le = h
resends-delivered gap k by d link (m ∷ later) e h le = delivered-if (nat_le m.number k) gap k by link.losses d 0 later (le-leb m.number k le) (let h' = rw e at h in h'.1)

-- behind a message above k all are
oldest_above : (gap k by losses : ℕ) (xs : List Message) (low high : ℕ) → Ascends low xs high → k < low → oldest_by gap k by losses xs ≡ by + losses * gap
oldest_above gap k by losses [] low high h lt = refl
oldest_above gap k by losses (m ∷ later) low high h lt = rw (lt-leb m.number k (omega (arith, h.0))) refl

lost-if : (old : Bool) (gap k by losses d high : ℕ) (m : Message) (later : List Message) → nat_le m.number k ≡ old → Ascends m.number later high → IsPaced gap k later (next_by old gap (granted old gap by losses)) d → IsPaced gap k later (oldest_by gap k by (losses + 1) later) d
lost-if true gap k by losses d high m later is up h = paced-later gap k later by _ d (oldest_by-low gap k by (losses + 1) later) h
lost-if false gap k by losses d high m later is up h = rw (oldest_above gap k by (losses + 1) later m.number high up (leb-false m.number k is)) (paced-later gap k later _ _ d (omega arith) h)

pub resends-lost : (gap k by d high : ℕ) (link : LinkState) (xs : List Message) → link.transit ≡ xs → Ascends link.newest link.transit high → Resends gap k by link d → Resends gap k by (link_lost link xs) d
resends-lost gap k by d high link [] e up h = h
resends-lost gap k by d high link (m ∷ later) e up h = let h' = rw e at h in let up' = rw e at up in lost-if (nat_le m.number k) gap k by link.losses d high m later refl up'.1 h'.1

-- What is due then.

abbrev pub IsInTimeBy : (at delay : ℕ) → List Message → Type 0
IsInTimeBy at delay [] = Unit {0}
IsInTimeBy at delay (m ∷ later) = at ≤ m.sent_at + delay

due-by : (gap k by d delay most limit at losses : ℕ) (xs : List Message) → IsPaced gap k xs (oldest_by gap k by losses xs) d → at ≤ d → IsInTimeBy at delay xs → delay ≤ most → losses * gap ≤ limit * gap → at ≤ by + limit * gap + most
due-by gap k by d delay most limit at losses [] h le due dl ll = omega arith
due-by gap k by d delay most limit at losses (m ∷ later) h le due dl ll = let g = granted-high (nat_le m.number k) gap by losses in omega (arith, h.0, g)

-- an event that is in time comes so early
pub resends-due : (gap k by d delay most limit at : ℕ) (link : LinkState) → Resends gap k by link d → at ≤ d → IsInTimeBy at delay link.transit → delay ≤ most → link.losses ≤ limit → at ≤ by + limit * gap + most
resends-due gap k by d delay most limit at link h le due dl few = due-by gap k by d delay most limit at link.losses link.transit h le due dl (mul-le-mul_right gap few)

pub resends-start : (gap k by d : ℕ) (link : LinkState) → link.transit ≡ [] → d ≤ by → Resends gap k by link d
resends-start gap k by d link e le = rw e (omega arith)
