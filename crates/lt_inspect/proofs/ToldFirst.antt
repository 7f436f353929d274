-- What is told of an auditor is right of the events of its schedule.
use Rattle.std.proofs.Common.{◌≡◌, ◌∙◌, ◌<◌, ◌≤◌, ◌-◌, ◌^◌, ℕ, List, length, map, Option, Some, None, Result, Ok, refl, sym, ap, subst, arith}
use Rattle.std.proofs.Math.Nat.{min-eq_left, min-le_left}
use Rattle.std.proofs.lemmas.List.{length-map}
use Rattle.lt_arch.specs.declared.event.Event.{Event}
use Rattle.lt_arch.specs.declared.event.Offence as arch
use Rattle.lt_arch.specs.declared.limits.TheConstants.{GREATEST_TIME}
use Rattle.lt_arch.specs.declared.shape.Shape.{Shape}
use Rattle.lt_arch.specs.declared.timing.Timing.{Timing}
use Rattle.lt_arch.specs.Readers.{node_count, chan_count, chan_of, to_of, carries_data}
use Rattle.lt_arch.specs.Schedule.{first_offence, IsAdmissible, AreUpTo}
use Rattle.lt_arch.proofs.Facts.{ends-of}
use Rattle.lt_audit.proofs.DeedSeen.{is_to}
use Rattle.lt_inspect.specs.Placed.{IsOfShape}
use Rattle.lt_rows.specs.declared.fault.RowFault.{RowFault}
use Rattle.lt_rows.specs.Rows.{rows_of}
use Rattle.lt_schedule.specs.Settled.{settled, event_in_row, read_event}
use Rattle.lt_schedule.specs.Verdict.{verdict}
use Rattle.lt_schedule.proofs.Settling.{settles_rows, accepted_reads}
use Rattle.lt_schedule.proofs.Placing.{all_of_shape, up_to}
use Rattle.lt_audit.specs.declared.miss.Miss.{Miss}
use Rattle.lt_audit.specs.Audit.{AuditState}
use Rattle.lt_audit.specs.Misses.{FirstMiss, HasNoMiss}
use Rattle.lt_audit.specs.Standing.{AuditStands}
use Rattle.lt_inspect.specs.declared.audited.Audited.{Audited}
use Rattle.lt_inspect.specs.declared.scene.Scene.{Scene}
use Rattle.lt_inspect.specs.Audits.{AuditTells}
use Rattle.lt_inspect.specs.Inspected.{IsAudited}

settled_none : (events es : List Event) (found : Option (ℕ × arch.Offence)) → settled events found ≡ Ok es → found ≡ None
settled_none events es None ok = refl
settled_none events es (Some found) ok = cc

module _ (s : Shape) (t : Timing) (rows : ℕ) (bytes : List ℕ) (es : List Event) (reads : verdict s t rows bytes ≡ Ok es) where
  pub admissible : IsAdmissible s t rows es
  admissible = settled_none es es (first_offence s t rows es) (sym (settles_rows s t rows (length bytes) (rows_of bytes) es (accepted_reads s t rows (length bytes) (rows_of bytes) es reads)) ∙ reads)

  pub few_events : length es ≤ 5000000
  few_events =
      let read = accepted_reads s t rows (length bytes) (rows_of bytes) es reads in
      let same : length (map (event_in_row s) read.later) ≡ length (map read_event es) = ap (λ (l : List (Result Event RowFault)). length l) read.events_read in
      let a = length-map read.later (event_in_row s) in
      let b = length-map es read_event in
      let few = read.few in
      omega (arith, few, same, a, b)

  pub in_time : AreUpTo GREATEST_TIME es
  in_time = let read = accepted_reads s t rows (length bytes) (rows_of bytes) es reads in up_to s es (all_of_shape s read.later es read.events_read)

no_first : (s : Shape) (t : Timing) (rows : ℕ) (es : List Event) (o : Option Miss) → FirstMiss s t rows es o → HasNoMiss s t rows es → o ≡ None
no_first s t rows es None is none = refl
no_first s t rows es (Some m) is none = absurd (none is.front is.event is.later is.list_is (record { node = m.node; executes = is.executes; channel = m.channel; off = is.off }))

module _ (k : Scene) (a : AuditState) (bytes : List ℕ) (es : List Event) (reads : verdict k.shape k.timing k.rows bytes ≡ Ok es) (stands : AuditStands a k.shape k.timing k.rows es) where
  taken_few : a.taken ≤ 5000000
  taken_few = let few = few_events k.shape k.timing k.rows bytes es reads in let least = min-le_left (length es) (2 ^ 32 - 1) in let is = stands.taken_is in omega (arith, few, least, is)

  pub not_too_many : 5000000 < a.taken → ⊥
  not_too_many more = let few = taken_few in absurd (omega (arith, few, more))

  pub is_audited : (told : Audited) → AuditTells a told → a.shape ≡ k.shape → IsAudited k es told
  is_audited told tells shape = record {
    admissible = admissible k.shape k.timing k.rows bytes es reads;
    count = tells.count ∙ stands.taken_is ∙ min-eq_left (let few = few_events k.shape k.timing k.rows bytes es reads in omega (arith, few));
    shape = tells.shape ∙ shape;
    first = tells.first k.shape k.timing k.rows es stands;
    clean = λ accepts. no_first k.shape k.timing k.rows es told.miss (tells.first k.shape k.timing k.rows es stands)
        (k.grounded.2 accepts k.rows es (in_time k.shape k.timing k.rows bytes es reads) stands.free);
  }

-- the first miss of events is one of the shape
pub of_shape : (s : Shape) (t : Timing) (rows : ℕ) (es : List Event) (o : Option Miss) → FirstMiss s t rows es o → IsOfShape s o
unfolding chan_of
of_shape s t rows es None first m is = cc
of_shape s t rows es (Some m) first n is =
    let same : m ≡ n = cc in
    let ends = ends-of s m.channel first.off.channel in
    let to : to_of s m.channel ≡ m.node = is_to (carries_data s m.channel) (to_of s m.channel) m.node first.off.incoming in
    let node : m.node < node_count s = let inside = ends.to_in in omega (arith, inside, to) in
    subst (λ (x : Miss). (x.node < node_count s) × (x.channel < chan_count s)) same (node, first.off.channel)
