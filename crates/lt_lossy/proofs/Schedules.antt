-- Lists of events over links that lose messages, without an offence.
use Rattle.std.proofs.Common.{◌≡◌, ◌⊎◌, inl, inr, ℕ, ◌+◌, List, [], ◌∷◌, ◌++◌, length, Option, Some, None, is_some, refl, ap, arith, if◌then◌else◌}
use Rattle.lt_arch.specs.declared.event.Offence.TheVariants.{NoEnd}
use Rattle.lt_arch.specs.declared.timing.Timing.{Timing}
use Rattle.lt_arch.specs.declared.shape.Shape.{Shape}
use Rattle.lt_lossy.specs.declared.event.LossyEvent.{LossyEvent}
use Rattle.lt_lossy.specs.declared.event.LossyOffence.{LossyOffence}
use Rattle.lt_lossy.specs.declared.event.LossyOffence.TheVariants.{Common}
use Rattle.lt_lossy.specs.State.{LossyState, lossy_start}
use Rattle.lt_lossy.specs.Step.{lossy_offence, lossy_after}
use Rattle.lt_lossy.specs.Schedule.{lossy_after_all, HasNoLossyOffence, IsLossyOffenceFree, IsLossyAdmissible, first_lossy_offence, first_lossy_offence_from, numbered_lossy_or, IsFirstLossyOffence}

no_number : (number : ℕ) (o : Option LossyOffence) (later : Option (ℕ × LossyOffence)) → numbered_lossy_or number o later ≡ None → (o ≡ None) × (later ≡ None)
no_number number None later h = (refl, h)
no_number number (Some o) later h = absurd cc

offence_free-from : (s : Shape) (t : Timing) (limit rows : ℕ) (st : LossyState) (number : ℕ) (es : List LossyEvent) → first_lossy_offence_from s t limit rows st number es ≡ None → HasNoLossyOffence s t limit rows st es
offence_free-from s t limit rows st number [] h = tt
offence_free-from s t limit rows st number (e ∷ es) h =
    let p = no_number number (lossy_offence s t limit st e) _ h in
    (p.0, offence_free-from s t limit rows (lossy_after s t rows st e) (number + 1) es p.1)

-- an admissible list has no offence
pub lossy_offence_free : (s : Shape) (t : Timing) (limit rows : ℕ) (es : List LossyEvent) → IsLossyAdmissible s t limit rows es → IsLossyOffenceFree s t limit rows es
lossy_offence_free s t limit rows es h = offence_free-from s t limit rows lossy_start 1 es h

-- Where the first offence is, over lists from any state and any number.

record IsFoundAt (s : Shape) (t : Timing) (limit rows : ℕ) (st : LossyState) (number : ℕ) (es : List LossyEvent) (found : ℕ × LossyOffence) : Type 0 where
  front : List LossyEvent
  event : LossyEvent
  later : List LossyEvent
  list_is : es ≡ front ++ event ∷ later
  number_is : found.0 ≡ number + length front
  free : HasNoLossyOffence s t limit rows st front
  offence_is : lossy_offence s t limit (lossy_after_all s t rows st front) event ≡ Some found.1

record LacksEndFrom (s : Shape) (t : Timing) (limit rows : ℕ) (st : LossyState) (number : ℕ) (es : List LossyEvent) (found : ℕ × LossyOffence) : Type 0 where
  free : HasNoLossyOffence s t limit rows st es
  open_end : (lossy_after_all s t rows st es).horizon ≡ None
  number_is : found.0 ≡ number + length es
  offence_is : found.1 ≡ Common NoEnd

abbrev Finds : Shape → Timing → (limit rows : ℕ) → LossyState → (number : ℕ) → List LossyEvent → Option (ℕ × LossyOffence) → Type 0
Finds s t limit rows st number es None = HasNoLossyOffence s t limit rows st es × (h : ℕ) × ((lossy_after_all s t rows st es).horizon ≡ Some h)
Finds s t limit rows st number es (Some found) = IsFoundAt s t limit rows st number es found ⊎ LacksEndFrom s t limit rows st number es found

finds-none : (s : Shape) (t : Timing) (limit rows : ℕ) (st : LossyState) (number : ℕ) (horizon : Option ℕ) → st.horizon ≡ horizon → Finds s t limit rows st number [] (if is_some horizon then None else Some (number, Common NoEnd))
finds-none s t limit rows st number None is = inr (record { free = tt; open_end = is; number_is = omega arith; offence_is = refl })
finds-none s t limit rows st number (Some h) is = (tt, h, is)

module _ (s : Shape) (t : Timing) (limit rows : ℕ) (st : LossyState) (number : ℕ) (e : LossyEvent) (es : List LossyEvent) where
  finds-later : (found : Option (ℕ × LossyOffence)) → lossy_offence s t limit st e ≡ None → Finds s t limit rows (lossy_after s t rows st e) (number + 1) es found → Finds s t limit rows st number (e ∷ es) found
  finds-later None none h = ((none, h.0), h.1, h.2)
  finds-later (Some found) none (inl x) =
      let n : found.0 ≡ number + 1 + length x.front = x.number_is in
      inl (record { front = e ∷ x.front; event = x.event; later = x.later; list_is = ap (λ l. e ∷ l) x.list_is; number_is = omega (arith, n); free = (none, x.free); offence_is = x.offence_is })
  finds-later (Some found) none (inr x) =
      let n : found.0 ≡ number + 1 + length es = x.number_is in
      inr (record { free = (none, x.free); open_end = x.open_end; number_is = omega (arith, n); offence_is = x.offence_is })

  finds-next : (o : Option LossyOffence) → lossy_offence s t limit st e ≡ o → (later : Option (ℕ × LossyOffence)) → Finds s t limit rows (lossy_after s t rows st e) (number + 1) es later → Finds s t limit rows st number (e ∷ es) (numbered_lossy_or number o later)
  finds-next None is later h = finds-later later is h
  finds-next (Some o) is later h = inl (record { front = []; event = e; later = es; list_is = refl; number_is = omega arith; free = tt; offence_is = is })

finds : (s : Shape) (t : Timing) (limit rows : ℕ) (st : LossyState) (number : ℕ) (es : List LossyEvent) → Finds s t limit rows st number es (first_lossy_offence_from s t limit rows st number es)
finds s t limit rows st number [] = finds-none s t limit rows st number st.horizon refl
finds s t limit rows st number (e ∷ es) = finds-next s t limit rows st number e es (lossy_offence s t limit st e) refl _ (finds s t limit rows (lossy_after s t rows st e) (number + 1) es)

first-is : (s : Shape) (t : Timing) (limit rows : ℕ) (es : List LossyEvent) (found : Option (ℕ × LossyOffence)) → Finds s t limit rows lossy_start 1 es found → IsFirstLossyOffence s t limit rows es found
first-is s t limit rows es None h = h
first-is s t limit rows es (Some found) (inl x) =
    let n : found.0 ≡ 1 + length x.front = x.number_is in
    inl (record { front = x.front; event = x.event; later = x.later; list_is = x.list_is; number_is = omega (arith, n); free = x.free; offence_is = x.offence_is })
first-is s t limit rows es (Some found) (inr x) =
    let n : found.0 ≡ 1 + length es = x.number_is in
    inr (record { free = x.free; open_end = x.open_end; number_is = omega (arith, n); offence_is = x.offence_is })

pub first_lossy_offence-is : (s : Shape) (t : Timing) (limit rows : ℕ) (es : List LossyEvent) → IsFirstLossyOffence s t limit rows es (first_lossy_offence s t limit rows es)
first_lossy_offence-is s t limit rows es = first-is s t limit rows es (first_lossy_offence s t limit rows es) (finds s t limit rows lossy_start 1 es)
