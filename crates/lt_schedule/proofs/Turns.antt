-- The line that is given, and the row that it stands in.
use Rattle.std.proofs.Common.{◌≡◌, ℕ, Bool, true, false, IsTrue, List, Some, None, sym, ap, subst, ◌∙◌}
use Rattle.lt_io.specs.FilesState.{FilesState}
use Rattle.lt_rows.specs.Rows.{FileRow}
use Rattle.lt_rows.specs.Lines.{LinesState, GivesLine, rows_ahead, end_ahead, answered_to, next_line}
use Rattle.lt_base.specs.declared.memory.Or.{Or}
use Rattle.lt_base.specs.declared.memory.Or.TheVariants as either
use Rattle.lt_schedule.specs.declared.halt.Halt.{Halt}
use Rattle.lt_schedule.specs.declared.halt.Halt.TheVariants as halt
use Rattle.lt_schedule.specs.Rules.{Rules}
use Rattle.lt_schedule.specs.Halted.{UnlessFailed}
use Rattle.lt_schedule.specs.Replayed.{TakesEvent, RefusesLine, TakesRow, IsOver, RefusesRow}
use Rattle.lt_schedule.proofs.Steps.{given_limit, end_limit, is_row, refuses_line}

module _ {E O : Type 0} (rules : Rules E O) (number : ℕ) (old new : LinesState) (before after : FilesState) (events : List E) where
  -- its line was taken
  pub takes_row : (stands : List E → Type 0) (told : Bool) (text : List ℕ) → (IsTrue told → GivesLine old new before after true) → text ≡ new.line → TakesEvent rules number text stands events
      → TakesRow rules stands events number (end_ahead old before) told (rows_ahead old before) (rows_ahead new after)
  takes_row stands told text gives is takes = record {
    event = takes.event;
    stands_on = takes.stands_on;
    row = λ tell.
        let g = gives tell in
        is_row rules events number (end_ahead old before) (rows_ahead old before) (rows_ahead new after) (record { line = new.line; ends = answered_to new }) g.leaves
        (given_limit (rows_ahead old before) (rows_ahead new after) (record { line = new.line; ends = answered_to new }) (end_ahead old before) (Some new.line) g.leaves g.next)
        takes.event (ap (Rattle.lt_schedule.specs.Rules.row_event rules number) (sym is) ∙ takes.reads) takes.free;
  }

  -- it was refused
  pub refuses_row : (told : Bool) (text : List ℕ) (h : Or (Halt O)) → (IsTrue told → GivesLine old new before after true) → text ≡ new.line → UnlessFailed (RefusesLine rules number text events) h
      → UnlessFailed (λ refusal. IsTrue told → RefusesRow rules events number (end_ahead old before) (rows_ahead old before) after.place refusal) h
  refuses_row told text (either.Fault (halt.Refused refusal)) gives is refuses = λ tell.
      let g = gives tell in
      refuses_line rules events number (end_ahead old before) (rows_ahead old before) (rows_ahead new after) (record { line = new.line; ends = answered_to new }) g.leaves
      (given_limit (rows_ahead old before) (rows_ahead new after) (record { line = new.line; ends = answered_to new }) (end_ahead old before) (Some new.line) g.leaves g.next)
      after.place refusal (subst (λ (t : List ℕ). RefusesLine rules number t events refusal) is refuses) g.near
  refuses_row told text (either.Fault halt.Read) gives is refuses = tt
  refuses_row told text (either.Fault halt.Link) gives is refuses = tt
  refuses_row told text either.Memory gives is refuses = tt

-- no line is left
pub is_over : {E : Type 0} (old new : LinesState) (before after : FilesState) (stands : List E → Type 0) (events : List E) (told : Bool) → stands events → (IsTrue told → GivesLine old new before after false)
    → IsOver stands events (end_ahead old before) told (rows_ahead old before)
is_over old new before after stands events told still gives = record {
  stands_still = still;
  none = λ tell. (gives tell).leaves;
  in_limit = λ tell. end_limit (end_ahead old before) None (ap (λ (rows : List FileRow). next_line rows (end_ahead old before)) (sym (gives tell).leaves) ∙ (gives tell).next);
}
