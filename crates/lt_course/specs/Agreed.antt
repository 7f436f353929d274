-- What a run makes of rows, and what is drawn of them, whatever their events are.
use Rattle.std.specs.Prelude.{◌≡◌, ◌+◌, List, length, Result, Ok, Err}
use Rattle.lt_lossy.specs.declared.event.LossyOffence.{LossyOffence}
use Rattle.lt_schedule.specs.declared.halt.ScheduleRefusal.{ScheduleRefusal}
use Rattle.lt_schedule.specs.declared.halt.ScheduleRefusal.TheVariants as refusal
use Rattle.lt_course.specs.declared.course.Stopped.{Stopped}

-- a refusal of a run, and one for a picture, which tells a run's offence as this one: the same row, or the same offence at the event of the same number
abbrev pub AgreesRefused : {O : Type 0} → (told : O → LossyOffence) → ScheduleRefusal O → ScheduleRefusal Stopped → Type 0
AgreesRefused told (refusal.Row row f) (refusal.Row row' f') = (row' ≡ row) × (f' ≡ f)
AgreesRefused told (refusal.Row row f) (refusal.Offence m x) = ⊥
AgreesRefused told (refusal.Row row f) refusal.Bytes = ⊥
AgreesRefused told (refusal.Offence n o) (refusal.Row row f) = ⊥
AgreesRefused told (refusal.Offence n o) (refusal.Offence m x) = (m ≡ n) × (x.refused.offence ≡ told o)
AgreesRefused told (refusal.Offence n o) refusal.Bytes = ⊥
AgreesRefused told refusal.Bytes (refusal.Row row f) = ⊥
AgreesRefused told refusal.Bytes (refusal.Offence m x) = ⊥
AgreesRefused told refusal.Bytes refusal.Bytes = Unit {0}

-- a list without an end has the missing end as its offence, one past its last event, and is drawn whole
abbrev pub AgreesDrawn : {E O : Type 0} → (no_end : O) → ScheduleRefusal O → List E → Type 0
AgreesDrawn no_end (refusal.Row row f) ds = ⊥
AgreesDrawn no_end (refusal.Offence n o) ds = (o ≡ no_end) × (n ≡ length ds + 1)
AgreesDrawn no_end refusal.Bytes ds = ⊥

-- what a run makes of rows, and what is drawn of them
abbrev pub AgreesWith : {E O : Type 0} → (told : O → LossyOffence) → (no_end : O) → Result (List E) (ScheduleRefusal O) → Result (List E) (ScheduleRefusal Stopped) → Type 0
AgreesWith told no_end (Ok es) (Ok ds) = ds ≡ es
AgreesWith told no_end (Ok es) (Err q) = ⊥
AgreesWith told no_end (Err r) (Ok ds) = AgreesDrawn no_end r ds
AgreesWith told no_end (Err r) (Err q) = AgreesRefused told r q
