-- The schedule of what was loaded.
use Rattle.std.specs.Prelude.{ℕ, List, length, Option, Result, Ok, Err}
use Rattle.lt_base.specs.declared.memory.Or.{Or}
use Rattle.lt_base.specs.declared.memory.Or.TheVariants.{Fault, Memory}
use Rattle.lt_arch.specs.declared.pace.Pace.{Pace}
use Rattle.lt_arch.specs.declared.timing.Timing.{Timing}
use Rattle.lt_answer.specs.Answered.{Verdict}
use Rattle.lt_load_fit.specs.declared.fault.CommandFault.{CommandFault}
use Rattle.lt_load.specs.Plan.{LoadedPlan}
use Rattle.lt_sim.specs.declared.fault.SimFault.{SimFault}
use Rattle.lt_sim.specs.declared.fault.SimFault.TheVariants.{Write, TooMany}
use Rattle.lt_load_fit.specs.Rows.{too_many_events}
use Rattle.lt_scheduling.specs.Scheduled.{IsDrawnBy, asks_losses, text_by_pace, unless_asked}

-- the text of what the seed draws by a timing
abbrev pub drawn_by_verdict : Pace → (loss seed horizon : ℕ) → LoadedPlan → (narrow : Timing) → Verdict (List ℕ) CommandFault
drawn_by_verdict pace loss seed horizon k narrow = text_by_pace pace loss k.shape k.timing narrow (length k.inputs.rows) seed horizon

-- and by some timing with this jitter
abbrev pub jittered_verdict : (loss seed horizon : ℕ) (jitter : Option ℕ) → LoadedPlan → Verdict (List ℕ) CommandFault
jittered_verdict loss seed horizon jitter k outcome = (narrow : Timing) × IsDrawnBy jitter k.timing narrow × drawn_by_verdict k.pace loss seed horizon k narrow outcome

-- the text of the schedule of what was loaded
abbrev pub loaded_schedule_verdict : (loss seed horizon : ℕ) (jitter : Option ℕ) → LoadedPlan → Verdict (List ℕ) CommandFault
loaded_schedule_verdict loss seed horizon jitter k = unless_asked (asks_losses k.pace loss) (jittered_verdict loss seed horizon jitter k)

-- a list was recorded without a failure of the sink
abbrev pub IsUnbroken : Result ℕ (Or SimFault) → Type 0
IsUnbroken (Ok count) = Unit {0}
IsUnbroken (Err (Fault Write)) = ⊥
IsUnbroken (Err (Fault TooMany)) = Unit {0}
IsUnbroken (Err Memory) = Unit {0}

-- then these bytes that the sink took are the answer, or the refusal of the first row past the limit
abbrev pub recorded_text : (recorded : Result ℕ (Or SimFault)) → (taken : List ℕ) → Result (List ℕ) (Or CommandFault)
recorded_text (Ok count) taken = Ok taken
recorded_text (Err (Fault fault)) taken = Err (Fault too_many_events)
recorded_text (Err Memory) taken = Err Memory
