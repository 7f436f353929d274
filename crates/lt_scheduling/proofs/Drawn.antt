-- What is drawn for what was loaded, written into a sink that fails nowhere.
use Rattle.std.proofs.Common.{◌≡◌, ◌<◌, ◌≤◌, ℕ, nat_lt, Bool, if◌then◌else◌, List, [], ◌++◌, length, Some, Result, Ok, Err, OnOk, IsTrue, ◌∙◌, ap, subst, arith, le-ltb, lt-ltb}
use Rattle.lt_base.specs.declared.memory.Or.{Or}
use Rattle.lt_base.specs.declared.memory.Or.TheVariants.{Fault, Memory}
use Rattle.lt_arch.specs.declared.event.Event.{Event}
use Rattle.lt_arch.specs.declared.limits.TheConstants.{GREATEST_TIME}
use Rattle.lt_arch.specs.declared.shape.Shape.{Shape}
use Rattle.lt_arch.specs.declared.timing.Timing.{Timing}
use Rattle.lt_arch.specs.State.{State}
use Rattle.lt_narrow.specs.Narrow.{HasBoundsWithin}
use Rattle.lt_narrow.proofs.Within.{reached_same, admissible_within}
use Rattle.lt_io.specs.SinkState.{SinkState}
use Rattle.lt_rows.specs.Limits.{most_events}
use Rattle.lt_answer.specs.Answered.{Settles}
use Rattle.lt_answer.specs.Rules.{Shown}
use Rattle.lt_load_fit.specs.declared.fault.CommandFault.{CommandFault}
use Rattle.lt_lossy.specs.declared.event.LossyEvent.{LossyEvent}
use Rattle.lt_sim.specs.declared.fault.SimFault.{SimFault}
use Rattle.lt_sim.specs.declared.fault.SimFault.TheVariants.{Write, TooMany}
use Rattle.lt_sim.specs.Drawn.{drawn}
use Rattle.lt_sim.specs.Laws.{IsSimShown}
use Rattle.lt_sim.specs.Recorded.{FailsAfter, Records, WritesWhole}
use Rattle.lt_sim.proofs.FileRows.{file_accepted}
use Rattle.lt_losing.specs.Losing.{lossy_drawn}
use Rattle.lt_losing.specs.LossyRecorded.{LossyRecords}
use Rattle.lt_losing.proofs.Shown.{shown_within}
use Rattle.lt_load_fit.specs.Rows.{too_many_events}
use Rattle.lt_text_answers.specs.Draws.{Drawing, ShowsDrawing}
use Rattle.lt_text_answers.specs.Texts.{drawing_text}
use Rattle.lt_scheduling.specs.Losses.{LossyListing, ShowsListing, listing_text}
use Rattle.lt_scheduling.specs.Scheduled.{arriving_verdict, losing_verdict}
use Rattle.lt_scheduling.specs.Stage.{IsUnbroken, recorded_text}

-- what narrower bounds show the wider ones show
shown_wider : (s : Shape) (t narrow : Timing) (rows horizon : ℕ) (es : List Event) → HasBoundsWithin t narrow → length es ≤ most_events → IsSimShown s narrow rows horizon es → IsSimShown s t rows horizon es
shown_wider s t narrow rows horizon es within few shown =
    let admissible = admissible_within s t narrow rows es within shown.sound.admissible in
    record {
      sound = record {
        admissible = admissible;
        ends = subst (λ (st : State). st.horizon ≡ Some horizon) (reached_same s t narrow rows es within) shown.sound.ends;
        placed = shown.sound.placed;
      };
      reads = file_accepted s t rows es shown.sound.placed few admissible;
    }

-- a sink that fails nowhere is not broken
unbroken : (text : List ℕ) (old new : SinkState) → new.faults ≡ old.faults → FailsAfter text old new → ⊥
unbroken text old new steady is = let rose = is.counted in omega (arith, rose, steady)

-- and has taken what was written
taken_is : (text : List ℕ) (old new : SinkState) → IsTrue old.told → old.taken ≡ [] → WritesWhole text old new → new.taken ≡ text
taken_is text old new told empty written = written.taken told ∙ ap (λ (t : List ℕ). t ++ text) empty

-- so many events, where they are not too many
module _ {D : Type 0} (text : D → List ℕ) (d : D) (size : ℕ) (Shows : Result D CommandFault → Type 0) where
  abbrev Lists : Result (List ℕ) CommandFault → Type 0
  Lists o = Shown text (λ (outcome : Result D CommandFault). ((if nat_lt 5000000 size then Err too_many_events else Ok d) ≡ outcome) × Shows outcome) o

  are_held : size ≤ 5000000 → Shows (Ok d) → (bytes : List ℕ) → bytes ≡ text d → Lists (Ok bytes)
  are_held few shows bytes is = (d, (ap (λ (b : Bool). if b then Err too_many_events else Ok d) (le-ltb 5000000 size few), shows), is)

  are_many : 5000000 < size → Shows (Err too_many_events) → Lists (Err too_many_events)
  are_many many shows = (ap (λ (b : Bool). if b then Err too_many_events else Ok d) (lt-ltb 5000000 size many), shows)

-- where each message arrives
module _ (s : Shape) (own narrow : Timing) (rows seed horizon : ℕ) (old new : SinkState) (steady : new.faults ≡ old.faults) where
  abbrev events : List Event
  events = drawn s narrow rows seed horizon

  abbrev drawing_of : Drawing
  drawing_of = record { shape = s; events = events }

  pub arriving_unbroken : (recorded : Result ℕ (Or SimFault)) → Records s events old new recorded → IsUnbroken recorded
  arriving_unbroken (Ok count) is = tt
  arriving_unbroken (Err (Fault Write)) is = unbroken _ old new steady is.written
  arriving_unbroken (Err (Fault TooMany)) is = tt
  arriving_unbroken (Err Memory) is = tt

  pub arriving_settles : HasBoundsWithin own narrow → IsTrue old.told → old.taken ≡ [] → (recorded : Result ℕ (Or SimFault)) → Records s events old new recorded → OnOk recorded (IsSimShown s narrow rows horizon events)
      → Settles (Shown drawing_text (arriving_verdict s own narrow rows seed horizon)) (recorded_text recorded new.taken)
  arriving_settles within told empty (Ok count) is shown =
      are_held drawing_text drawing_of (length events) (λ o. ShowsDrawing s own rows horizon o) is.few (shown_wider s own narrow rows horizon events within is.few shown) new.taken (taken_is _ old new told empty is.written)
  arriving_settles within told empty (Err (Fault Write)) is shown = absurd (unbroken _ old new steady is.written)
  arriving_settles within told empty (Err (Fault TooMany)) is shown = are_many drawing_text drawing_of (length events) (λ o. ShowsDrawing s own rows horizon o) is.many tt
  arriving_settles within told empty (Err Memory) is shown = tt

-- where links lose messages
module _ (s : Shape) (own narrow : Timing) (limit loss rows seed horizon : ℕ) (old new : SinkState) (steady : new.faults ≡ old.faults) where
  abbrev lossy_events : List LossyEvent
  lossy_events = lossy_drawn s narrow limit rows loss seed horizon

  abbrev listing_of : LossyListing
  listing_of = record { shape = s; events = lossy_events }

  pub losing_unbroken : (recorded : Result ℕ (Or SimFault)) → LossyRecords s lossy_events old new recorded → IsUnbroken recorded
  losing_unbroken (Ok count) is = tt
  losing_unbroken (Err (Fault Write)) is = unbroken _ old new steady is.written
  losing_unbroken (Err (Fault TooMany)) is = tt
  losing_unbroken (Err Memory) is = tt

  pub losing_settles : HasBoundsWithin own narrow → horizon ≤ GREATEST_TIME → IsTrue old.told → old.taken ≡ [] → (recorded : Result ℕ (Or SimFault)) → LossyRecords s lossy_events old new recorded
      → Settles (Shown listing_text (losing_verdict limit loss s own narrow rows seed horizon)) (recorded_text recorded new.taken)
  losing_settles within near told empty (Ok count) is =
      are_held listing_text listing_of (length lossy_events) (λ o. ShowsListing s own limit rows horizon o) is.few (shown_within s own narrow limit rows loss seed horizon within near is.few) new.taken (taken_is _ old new told empty is.written)
  losing_settles within near told empty (Err (Fault Write)) is = absurd (unbroken _ old new steady is.written)
  losing_settles within near told empty (Err (Fault TooMany)) is = are_many listing_text listing_of (length lossy_events) (λ o. ShowsListing s own limit rows horizon o) is.many tt
  losing_settles within near told empty (Err Memory) is = tt
