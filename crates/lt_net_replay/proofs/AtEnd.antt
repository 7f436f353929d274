-- A net that has taken a whole list of events.
use Rattle.std.proofs.Common.{◌≡◌, ℕ, List, Option, Some, None, refl, ◌∙◌, subst}
use Rattle.std.specs.Prelude.{is_some, if◌then◌else◌}
use Rattle.lt_base.specs.declared.value.Value.{Value}
use Rattle.lt_arch.specs.declared.event.Event.{Event}
use Rattle.lt_arch.specs.declared.event.Offence.{Offence}
use Rattle.lt_arch.specs.declared.event.Offence.TheVariants.{NoEnd}
use Rattle.lt_arch.specs.Schedule.{reached, first_offence, IsAdmissible}
use Rattle.lt_io.specs.FabricState.{FabricState}
use Rattle.lt_schedule.specs.Verdict.{unended}
use Rattle.lt_net.specs.NetModel.{NetState}
use Rattle.lt_net.proofs.ReplayEnd.{closes, admissible, closed}
use Rattle.lt_net_replay.specs.Plays.{Plays, KeepsPlay}
use Rattle.lt_net_replay.specs.Played.{IsAtEnd}
use Rattle.lt_net_replay.proofs.OneMore.{ended_by}
use Rattle.lt_machine.specs.declared.machine.Machine.{Ghosts as Machines}
use Rattle.lt_arch.specs.declared.controller.Controller.{Ghosts as Controls}

there : (x : Option ℕ) → Path (Option Offence) (if is_some x then None else Some NoEnd) None → (h : ℕ) × (x ≡ Some h)
there None is = absurd (cc)
there (Some h) is = (h, refl)

module _ {C M : Type 0} (ctl : Controls C) (mch : Machines M) (old new : NetState C M) (inputs later : List (List Value)) (fabric fabric' : FabricState)
    (keeps : KeepsPlay mch.size old new inputs later fabric fabric') (events : List Event) (steps : ℕ) (plays_later : Plays ctl mch later events steps new fabric')
    (stops : unended (reached old.bench.shape old.bench.timing old.bench.rows events) ≡ None) where
  plays : Plays ctl mch inputs events steps new fabric'
  plays = subst (λ rows. Plays ctl mch rows events steps new fabric') keeps.inputs_are plays_later

  horizon : (h : ℕ) × (new.bench.watch.horizon ≡ Some h)
  horizon = there new.bench.watch.horizon
      (ended_by ctl mch inputs events steps new fabric' plays new.bench.watch.horizon refl
      ∙ (λ i. unended (reached (keeps.fixed.shape i) (keeps.fixed.timing i) (keeps.fixed.rows i) events)) ∙ stops)

  admissible_old : IsAdmissible old.bench.shape old.bench.timing old.bench.rows events
  admissible_old = admissible ctl mch inputs events old.bench new.bench fabric' plays.kept plays.given keeps.fixed horizon.0 horizon.1

  here : IsAdmissible new.bench.shape new.bench.timing new.bench.rows events
  here = (λ i. first_offence (keeps.fixed.shape i) (keeps.fixed.timing i) (keeps.fixed.rows i) events) ∙ admissible_old

  pub at_end : IsAtEnd ctl mch old new inputs fabric' events
  at_end = record {
    admissible = admissible_old;
    running = plays.running;
    horizon = horizon;
    fixed = keeps.fixed;
    lists = (plays.kept).0;
    keeps = (plays.kept).1;
    ends = λ f bound laid fit least. closes C M ctl mch inputs events new.bench fabric' (plays.kept).0 bound f laid (plays.given).channels (plays.given).one_place (plays.given).rows fit here least (plays.kept).1;
    closed = closed ctl mch inputs events old.bench new.bench fabric' plays.kept plays.given keeps.fixed horizon.0 horizon.1;
  }
