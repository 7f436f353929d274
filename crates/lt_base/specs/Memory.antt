-- Answers in which memory may be wanting.
use Rattle.std.specs.Prelude.{Result, Ok, Err}
use Rattle.lt_base.specs.declared.memory.Or.{Or}
use Rattle.lt_base.specs.declared.memory.Or.TheVariants as or

-- a result that is no want of memory, of a function that takes none
abbrev pub NeedsNoMemory : {T E : Type 0} → Result T (Or E) → Type 0
NeedsNoMemory (Ok x) = Unit {0}
NeedsNoMemory (Err (or.Fault k)) = Unit {0}
NeedsNoMemory (Err or.Memory) = ⊥
