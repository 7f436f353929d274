-- A net that follows a list as it is drawn.
use Rattle.std.proofs.Common.{◌≡◌, ◌∙◌, ℕ, List, [], length, None, Some, Result, Ok, Err, sym, subst}
use Rattle.std.specs.Prelude.{IsErrAnd, OnOk}
use Rattle.lt_arch.specs.declared.event.Event.{Event}
use Rattle.lt_arch.specs.declared.shape.Shape.{Shape}
use Rattle.lt_arch.specs.declared.timing.Timing.{Timing}
use Rattle.lt_arch.specs.Schedule.{IsEventOf}
use Rattle.lt_io.specs.FabricState.{FabricState}
use Rattle.lt_io.specs.Counts.{LinkCounted, LinkCountedBy}
use Rattle.lt_io.specs.declared.fault.LinkErr.{LinkErr}
use Rattle.lt_schedule.specs.declared.halt.Stop.{Stop}
use Rattle.lt_schedule.specs.declared.halt.Stop.TheVariants as stop
use Rattle.lt_schedule.specs.Rules.{Rules}
use Rattle.lt_rows.specs.declared.fault.RowFault.{RowFault}
use Rattle.lt_machine.specs.declared.machine.Machine.{Ghosts as Machines}
use Rattle.lt_arch.specs.declared.controller.Controller.{Ghosts as Controls}
use Rattle.lt_net_replay.specs.declared.playback.Playback.{Playback}
use Rattle.lt_net_replay.specs.Playing.{PlaysFor, KeepsPlayback, StopsAtEvent}
use Rattle.lt_sim.specs.declared.drawing.Drawing.{Drawing}
use Rattle.lt_sim.specs.Drawn.{drawn}
use Rattle.lt_sim.specs.Standing.{DrawingStarts}
use Rattle.lt_sim.proofs.Following.{Follows}
use Rattle.lt_net_replay.specs.Plays.{Plays}
use Rattle.lt_net_drawn.specs.Listed.{IsNetOf}

-- behind so many events, the drawing and the net stand at one place of the list
pub record StandsAt {C M : Type 0} (ctl : Controls C) (mch : Machines M) (k : Drawing) (p : Playback C M) (s : Shape) (t : Timing) (rows seed horizon number steps : ℕ) (fabric : FabricState) : Type 0 where
  pub front : List Event
  pub size : length front ≡ number
  pub follows : Follows k s t rows seed horizon front
  pub plays : PlaysFor ctl mch p steps fabric front

-- no event changes what a net is of
pub still_of : {C M : Type 0} (size : M → ℕ) (s : Shape) (t : Timing) (rows : ℕ) (old new : Playback C M) (fabric fabric' : FabricState) → IsNetOf s t rows old.net.bench → KeepsPlayback size old new fabric fabric' → IsNetOf s t rows new.net.bench
still_of size s t rows old new fabric fabric' same keeps = record { shape = keeps.fixed.shape ∙ same.shape; timing = keeps.fixed.timing ∙ same.timing; rows = keeps.fixed.rows ∙ same.rows }

pub event_there : {C M : Type 0} (s : Shape) (t : Timing) (rows : ℕ) (p : Playback C M) → IsNetOf s t rows p.net.bench → (e : Event) → IsEventOf s e → IsEventOf p.net.bench.shape e
event_there s t rows p same e there = subst (λ z. IsEventOf z e) (sym same.shape) there

-- an event is not stopped at for what is read, nor where it has no offence
pub no_row : {E O : Type 0} (rules : Rules E O) (before : List E) (e : E) (why : Stop O) (fault : RowFault) → why ≡ stop.Row fault → StopsAtEvent rules before e why → ⊥
no_row rules before e why fault is stops = subst (StopsAtEvent rules before e) is stops

pub no_offence : {E O : Type 0} (rules : Rules E O) (before : List E) (e : E) (why : Stop O) (offence : O) → why ≡ stop.Offence offence → rules.offence before e ≡ None → StopsAtEvent rules before e why → ⊥
no_offence rules before e why offence is free stops = let wrong : None ≡ Some offence = sym free ∙ subst (StopsAtEvent rules before e) is stops in cc

-- an error that is handed on, where nothing was counted before
pub counts_on : (r : Result (Unit {0}) LinkErr) (e : LinkErr) → IsErrAnd r (λ f. f ≡ e) → (a b c : ℕ) → b ≡ a → LinkCountedBy b c e → LinkCounted a c r
counts_on (Ok x) e is a b c same counted = absurd is
counts_on (Err f) e is a b c same counted = subst (λ (n : ℕ). LinkCountedBy n c f) same (subst (λ (g : LinkErr). LinkCountedBy b c g) (sym is) counted)

pub not_ok : (P : Type 0) (r : Result (Unit {0}) LinkErr) (Q : LinkErr → Type 0) → IsErrAnd r Q → OnOk r P
not_ok P (Ok x) Q is = absurd is
not_ok P (Err f) Q is = tt

-- what holds of a shape, a timing and a number of rows holds of equal ones
pub at_equals : (P : Shape → Timing → ℕ → Type 0) (s s' : Shape) (t t' : Timing) (n n' : ℕ) → s' ≡ s → t' ≡ t → n' ≡ n → P s t n → P s' t' n'
at_equals P s s' t t' n n' same_shape same_timing same_rows here =
    subst (λ z. P z t' n') (sym same_shape) (subst (λ z. P s z n') (sym same_timing) (subst (λ z. P s t z) (sym same_rows) here))

-- the net took the whole list that is drawn for an equal shape and timing
pub played_by : {C M : Type 0} (ctl : Controls C) (mch : Machines M) (s s' : Shape) (t t' : Timing) (n n' : ℕ) → s' ≡ s → t' ≡ t → n' ≡ n → (k : Drawing) (horizon : ℕ) (p : Playback C M) (fabric : FabricState) (r : Result (Unit {0}) LinkErr) →
    ((seed : ℕ) → DrawingStarts k s' t' seed → OnOk r ((steps : ℕ) × PlaysFor ctl mch p steps fabric (drawn s' t' n' seed horizon))) →
    (seed : ℕ) → DrawingStarts k s t seed → OnOk r ((steps : ℕ) × Plays ctl mch p.inputs.now.rows (drawn s t n seed horizon) steps p.net fabric)
played_by ctl mch s s' t t' n n' same_shape same_timing same_rows k horizon p fabric (Ok x) takes seed starts =
    let here = at_equals (λ z u m. (seed : ℕ) → DrawingStarts k z u seed → (steps : ℕ) × PlaysFor ctl mch p steps fabric (drawn z u m seed horizon)) s' s t' t n' n (sym same_shape) (sym same_timing) (sym same_rows) takes seed starts in
    (here.0, here.1.plays)
played_by ctl mch s s' t t' n n' same_shape same_timing same_rows k horizon p fabric (Err e) takes seed starts = tt
