-- How a text reaches a sink, by the sink's answer.
use Rattle.std.proofs.Common.{◌≡◌, List, ◌++◌, ℕ, Result, Ok, Err, MatchResult, IsTrue, refl, subst}
use Rattle.lt_io.specs.declared.fault.SinkErr.{SinkErr}
use Rattle.lt_io.specs.declared.fault.SinkErr.TheVariants as sink
use Rattle.lt_io.specs.Counts.{SinkCounted}
use Rattle.lt_io.specs.SinkState.{SinkState}
use Rattle.lt_io.specs.Transfer.{IsFront}
use Rattle.lt_text_answers.specs.declared.status.Status.{Status}
use Rattle.lt_text_answers.specs.declared.status.Status.TheVariants as status
use Rattle.lt_cli.specs.Objects.{KeepsSteady}
use Rattle.lt_cli.specs.Written.{PrintsText, Written, whole, broke, short, written_status}
use Rattle.lt_cli.proofs.Ends.{keeps_sink, front_of_none}

-- what a sink has taken of a text
abbrev pub Takes : List ℕ → (old new : SinkState) → Result (Unit {0}) SinkErr → Type 0
Takes text old new r = IsTrue old.told → MatchResult r (λ _. new.taken ≡ old.taken ++ text) (λ _. IsFront old.taken text new.taken)

is_printed : (text : List ℕ) (old new : SinkState) (r : Result (Unit {0}) SinkErr) → KeepsSteady old new → SinkCounted old.faults new.faults r → Takes text old new r → PrintsText text old new r
is_printed text old new (Ok done_writing) keeps counted takes = record { keeps = keeps; took = record { counted = counted; taken = takes } }
is_printed text old new (Err sink.Failed) keeps counted takes = record { keeps = keeps; took = record { counted = counted; taken = takes } }
is_printed text old new (Err sink.Memory) keeps counted takes = record { keeps = keeps; took = record { counted = counted; taken = takes } }

-- a text that is written as an equal one
pub printed_as : (xs ys : List ℕ) → xs ≡ ys → (old new : SinkState) (r : Result (Unit {0}) SinkErr) → KeepsSteady old new → SinkCounted old.faults new.faults r → Takes xs old new r → PrintsText ys old new r
printed_as xs ys is old new r keeps counted takes = subst (λ (text : List ℕ). PrintsText text old new r) is (is_printed xs old new r keeps counted takes)

-- nothing of it is printed, for want of memory
pub unprinted : (text : List ℕ) (s : SinkState) → PrintsText text s s (Err sink.Memory)
unprinted text s = record { keeps = keeps_sink s; took = front_of_none text s }

-- a printed text ends a call
pub written_by : (done : Status) (text : List ℕ) (old new : SinkState) (r : Result (Unit {0}) SinkErr) → PrintsText text old new r → Written done text old new (written_status done r)
written_by done text old new (Ok done_printing) prints = record { keeps = prints.keeps; reaches = whole refl prints.took }
written_by done text old new (Err sink.Failed) prints = record { keeps = prints.keeps; reaches = broke refl prints.took }
written_by done text old new (Err sink.Memory) prints = record { keeps = prints.keeps; reaches = short refl prints.took }

-- it ends for want of memory only where the sink answered so
pub short_by : (done : Status) (r : Result (Unit {0}) SinkErr) → (done ≡ status.Memory → ⊥) → written_status done r ≡ status.Memory → r ≡ Err sink.Memory
short_by done (Ok done_printing) not is = absurd (not is)
short_by done (Err sink.Failed) not is = cc
short_by done (Err sink.Memory) not is = refl
