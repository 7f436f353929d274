-- What a command gives, as its text, and its fault as a refusal.
use Rattle.std.specs.Prelude.{◌≡◌, ℕ, List, Result, Ok, Err, MatchResult}
use Rattle.lt_base.specs.declared.memory.Or.{Or}
use Rattle.lt_base.specs.Or.{MapsFault}
use Rattle.lt_io.specs.Counts.{IsMemory}
use Rattle.lt_print.specs.Canonical.{canonical}
use Rattle.lt_front.specs.Examined.{ExaminedText}
use Rattle.lt_text_values.specs.OutputLines.{outputs_text, summary_text}
use Rattle.lt_load_fit.specs.declared.fault.CommandFault.{CommandFault}
use Rattle.lt_evaluate.specs.declared.outputs.Outputs.{Outputs}
use Rattle.lt_watch.specs.declared.fault.WatchFault.{WatchFault}
use Rattle.lt_watch.specs.declared.fault.WatchFault.TheVariants as watched
use Rattle.lt_text_answers.specs.declared.refusal.Refusal.{Refusal}
use Rattle.lt_text_answers.specs.declared.refusal.Refusal.TheVariants.{Command, Observer}

-- the refusal of a watched run
abbrev pub watch_refusal : WatchFault → Refusal
watch_refusal (watched.Command fault) = Command fault
watch_refusal (watched.Observer fault) = Observer fault

-- a program in its canonical form
abbrev pub checked_text : ExaminedText → List ℕ
checked_text checked = canonical checked.tree

-- the cells of outputs
abbrev pub printed_text : Outputs → List ℕ
printed_text printed = outputs_text printed.names printed.cells

-- how many cells the outputs have after a run of so many instants, and the last of them
abbrev pub summarized_text : (instants : ℕ) → Outputs → List ℕ
summarized_text instants printed = summary_text instants printed.names printed.cells

-- a step's answer as a command's: the text of its value, unless no memory was found for it, or its fault, raised to a refusal
abbrev pub IsTextBy : {T E : Type 0} (raise : E → Refusal) (shown : T → List ℕ) → Result T (Or E) → Result (List ℕ) (Or Refusal) → Type 0
IsTextBy raise shown (Ok x) result = MatchResult result (λ text. text ≡ shown x) IsMemory
IsTextBy raise shown (Err e) (Ok text) = ⊥
IsTextBy raise shown (Err e) (Err f) = MapsFault e f (λ fault refusal. refusal ≡ raise fault)

-- the same where the fault is a command's
abbrev pub IsTextOf : {T : Type 0} (shown : T → List ℕ) → Result T (Or CommandFault) → Result (List ℕ) (Or Refusal) → Type 0
IsTextOf shown found result = IsTextBy (λ fault. Command fault) shown found result
