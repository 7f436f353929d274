-- How a net that runs answers an event, by what code has.
use Rattle.std.proofs.Common.{◌≡◌, ℕ, ◌+◌, ◌≤◌, List, Option, Some, None, refl, sym, ap, ◌∙◌, subst, arith}
use Rattle.std.specs.Prelude.{Result, Ok, Err}
use Rattle.lt_base.specs.declared.value.Value.{Value}
use Rattle.lt_arch.specs.declared.event.Event.{Event}
use Rattle.lt_arch.specs.declared.event.Offence as arch
use Rattle.lt_arch.specs.declared.shape.Shape.{Shape}
use Rattle.lt_arch.specs.declared.timing.Timing.{Timing}
use Rattle.lt_arch.specs.State.{State}
use Rattle.lt_arch.specs.Schedule.{IsEventOf}
use Rattle.lt_arch.specs.Step.{offence_of}
use Rattle.lt_arch.specs.Times.{HasTimes}
use Rattle.lt_io.specs.declared.fault.LinkErr.{LinkErr}
use Rattle.lt_io.specs.declared.fault.LinkErr.TheVariants as link
use Rattle.lt_io.specs.FabricState.{FabricState}
use Rattle.lt_io.proofs.Keeps.{lists_refl}
use Rattle.lt_net.specs.declared.fault.First.{First}
use Rattle.lt_net.specs.declared.fault.NetFault.{NetFault}
use Rattle.lt_net.specs.declared.fault.NetFault.TheVariants.{Offence as Refused}
use Rattle.lt_net.specs.Net.{TimedBenchState, reached_state}
use Rattle.lt_net.specs.NetModel.{NetState, IsKeptNet}
use Rattle.lt_net.specs.Given.{IsRowFor}
use Rattle.lt_net.specs.Kept.{IsFixed}
use Rattle.lt_net.specs.Ticks.{cost_by}
use Rattle.lt_net.specs.Event.{FabricHolds, HasKinds}
use Rattle.lt_net.specs.Halts.{stopped_by, answer_by}
use Rattle.lt_net.specs.Answered.{CanTake, AnswersEvent}
use Rattle.lt_net.specs.Judged.{AnswersJudged}
use Rattle.lt_net.proofs.EndTaken.{kinds_kept}
use Rattle.lt_net.proofs.NextLists.{fixed_refl}
use Rattle.lt_net.proofs.SendLoop.{keeps_refl}
use Rattle.lt_machine.specs.declared.machine.Machine.{Ghosts as Machines}
use Rattle.lt_arch.specs.declared.controller.Controller.{Ghosts as Controls}

none_some : {A : Type 0} (a : A) → None ≡ Some a → ⊥
none_some a is = absurd (cc)

some_same : {A : Type 0} (a b : A) → Some a ≡ Some b → a ≡ b
some_same a b is = cc

same_offence : (o p : arch.Offence) → Path (Result (Unit {0}) NetFault) (Err (Refused o)) (Err (Refused p)) → o ≡ p
same_offence o p is = cc

one_step : (s mid c : ℕ) → mid ≤ s + 4 → mid ≤ s + (4 + c)
one_step s mid c h = omega (arith, h)

both_steps : (s mid new c : ℕ) → mid ≤ s + 4 → new ≤ mid + c → new ≤ s + (4 + c)
both_steps s mid new c h k = omega (arith, h, k)

module _ {C M : Type 0} (ctl : Controls C) (mch : Machines M) (old : TimedBenchState C M) (s : Option First) (now : NetState C M) (is : Path (NetState C M) (record { bench = old; stopped = s }) now) (none : s ≡ None)
    (inv : IsKeptNet ctl mch (record { bench = old; stopped = s })) (e : Event) (row : Option (List Value)) (fabric : FabricState) (steps mid : ℕ) (judged : mid ≤ steps + 4) where
  -- an event without an offence can be taken
  pub taking : IsEventOf now.bench.shape e → HasKinds now.bench fabric → FabricHolds now.bench fabric → IsRowFor now.bench e row → ((sh : Shape) (t : Timing) (st : State) → HasTimes old.watch sh t st → offence_of sh t st e ≡ None) →
      CanTake ctl mch old e row fabric
  taking event kinds holds given passes = record {
    kept = inv.kept none;
    room = inv.room;
    configured = inv.configured;
    event = subst (λ (z : NetState C M). IsEventOf z.bench.shape e) (sym is) event;
    passes = passes;
    kinds = subst (λ (z : NetState C M). HasKinds z.bench fabric) (sym is) kinds;
    holds = subst (λ (z : NetState C M). FabricHolds z.bench fabric) (sym is) holds;
    has_row = subst (λ (z : NetState C M). IsRowFor z.bench e row) (sym is) given;
  }

  -- it has an offence
  refused : (o : arch.Offence) → ((sh : Shape) (t : Timing) (st : State) → HasTimes old.watch sh t st → Some o ≡ offence_of sh t st e) → AnswersJudged ctl mch (record { bench = old; stopped = s }) (record { bench = old; stopped = s }) e row fabric fabric steps mid (Err (Refused o))
  refused o told = record {
    runs = λ f is. absurd (cc);
    offence = λ ls stood p. (λ is. sym (told old.shape old.timing (reached_state old ls) stood.times) ∙ ap (λ x. Some x) (same_offence o p is), λ is. ap (λ x. Err (Refused x)) (some_same o p (told old.shape old.timing (reached_state old ls) stood.times ∙ is)));
    link = λ is. absurd (cc);
    prompt = λ quick is. absurd (cc);
    calm = λ other. refl;
    ticks = λ ls stood d few. one_step steps mid (cost_by mch.size old ls e d) judged;
    refusal_ticks = λ refuses. judged;
    same = λ refuses. refl;
    lists = λ refuses. lists_refl fabric;
    running = tt;
    happens = tt;
    holds = tt;
    kinds = tt;
    halted_link = λ is. absurd (cc);
    halted_memory = λ is. absurd (cc);
    halted = λ halts. absurd halts;
    counts = inv.sized.executed;
    tracks = inv.room.tracks;
    sizes = refl;
    fixed = fixed_refl old;
    keeps = keeps_refl fabric;
    sound = λ sound. refl;
  }

  pub refuses : (o : arch.Offence) → ((sh : Shape) (t : Timing) (st : State) → HasTimes old.watch sh t st → Some o ≡ offence_of sh t st e) → AnswersJudged ctl mch now now e row fabric fabric steps mid (Err (Refused o))
  refuses o told = subst (λ z. AnswersJudged ctl mch z z e row fabric fabric steps mid (Err (Refused o))) is (refused o told)

  -- it has none
  module _ (passes : (sh : Shape) (t : Timing) (st : State) → HasTimes old.watch sh t st → offence_of sh t st e ≡ None) (kinds_now : HasKinds now.bench fabric) (new : TimedBenchState C M) (fabric' : FabricState) (steps' : ℕ) where
    kinds : HasKinds old fabric
    kinds = subst (λ (z : NetState C M). HasKinds z.bench fabric) (sym is) kinds_now

    running : s ≡ None
    running = none

    answered : (r : Result (Unit {0}) LinkErr) → AnswersEvent ctl mch old new e row fabric fabric' mid steps' r → AnswersJudged ctl mch (record { bench = old; stopped = s }) (record { bench = new; stopped = stopped_by r s }) e row fabric fabric' steps steps' (answer_by r)
    answered (Ok x) answers = record {
      runs = λ f is. absurd (cc);
      offence = λ ls stood o. (λ is. absurd (cc), λ is. absurd (none_some o (sym (passes old.shape old.timing (reached_state old ls) stood.times) ∙ is)));
      link = λ is. absurd (cc);
      prompt = λ quick is. absurd (cc);
      calm = λ other. answers.cause;
      ticks = λ ls stood d few. both_steps steps mid steps' (cost_by mch.size old ls e d) judged (answers.ticks ls stood d few);
      refusal_ticks = λ refuses. absurd refuses;
      same = λ refuses. absurd refuses;
      lists = λ refuses. absurd refuses;
      running = running;
      happens = answers.taken.happens;
      holds = answers.taken.holds;
      kinds = kinds_kept old new fabric fabric' kinds answers.fixed answers.taken.kinds;
      halted_link = λ is. absurd (cc);
      halted_memory = λ is. absurd (cc);
      halted = λ halts. absurd halts;
      counts = answers.sized.executed;
      tracks = answers.room.tracks;
      sizes = answers.sizes;
      fixed = answers.fixed;
      keeps = answers.keeps;
      sound = answers.sound;
    }
    answered (Err link.Failed) answers = record {
      runs = λ f is. absurd (cc);
      offence = λ ls stood o. (λ is. absurd (cc), λ is. absurd (none_some o (sym (passes old.shape old.timing (reached_state old ls) stood.times) ∙ is)));
      link = λ is. answers.cause;
      prompt = λ quick is. absurd (cc);
      calm = λ other. absurd (other refl);
      ticks = λ ls stood d few. both_steps steps mid steps' (cost_by mch.size old ls e d) judged (answers.ticks ls stood d few);
      refusal_ticks = λ refuses. absurd refuses;
      same = λ refuses. absurd refuses;
      lists = λ refuses. absurd refuses;
      running = tt;
      happens = tt;
      holds = tt;
      kinds = tt;
      halted_link = λ is. refl;
      halted_memory = λ is. absurd (cc);
      halted = λ halts. answers.halted;
      counts = answers.sized.executed;
      tracks = answers.room.tracks;
      sizes = answers.sizes;
      fixed = answers.fixed;
      keeps = answers.keeps;
      sound = answers.sound;
    }
    answered (Err link.Memory) answers = record {
      runs = λ f is. absurd (cc);
      offence = λ ls stood o. (λ is. absurd (cc), λ is. absurd (none_some o (sym (passes old.shape old.timing (reached_state old ls) stood.times) ∙ is)));
      link = λ is. absurd (cc);
      prompt = λ quick is. answers.prompt quick refl;
      calm = λ other. answers.cause;
      ticks = λ ls stood d few. both_steps steps mid steps' (cost_by mch.size old ls e d) judged (answers.ticks ls stood d few);
      refusal_ticks = λ refuses. absurd refuses;
      same = λ refuses. absurd refuses;
      lists = λ refuses. absurd refuses;
      running = tt;
      happens = tt;
      holds = tt;
      kinds = tt;
      halted_link = λ is. absurd (cc);
      halted_memory = λ is. refl;
      halted = λ halts. answers.halted;
      counts = answers.sized.executed;
      tracks = answers.room.tracks;
      sizes = answers.sizes;
      fixed = answers.fixed;
      keeps = answers.keeps;
      sound = answers.sound;
    }

    pub answers_now : (r : Result (Unit {0}) LinkErr) → AnswersEvent ctl mch old new e row fabric fabric' mid steps' r → (f : Option First) → f ≡ stopped_by r s → (x : Result (Unit {0}) NetFault) → x ≡ answer_by r → AnswersJudged ctl mch now (record { bench = new; stopped = f }) e row fabric fabric' steps steps' x
    answers_now r answers f f_is x x_is =
        subst (λ z. AnswersJudged ctl mch z (record { bench = new; stopped = f }) e row fabric fabric' steps steps' x) is
        (subst (λ g. AnswersJudged ctl mch (record { bench = old; stopped = s }) (record { bench = new; stopped = g }) e row fabric fabric' steps steps' x) (sym f_is)
        (subst (λ y. AnswersJudged ctl mch (record { bench = old; stopped = s }) (record { bench = new; stopped = stopped_by r s }) e row fabric fabric' steps steps' y) (sym x_is) (answered r answers)))

    kept_on : (r : Result (Unit {0}) LinkErr) → AnswersEvent ctl mch old new e row fabric fabric' mid steps' r → IsKeptNet ctl mch (record { bench = new; stopped = stopped_by r s })
    kept_on (Ok x) answers = record { fixed = answers.taken.kept.fixed; sized = answers.sized; room = answers.room; configured = answers.configured; kept = λ runs. answers.taken.kept }
    kept_on (Err f) answers = record {
      fixed =
          let same = answers.fixed in
          subst (λ l. IsFixed l new.shape new.timing new.rows) (sym same.layout) (subst (λ sh. IsFixed old.layout sh new.timing new.rows) (sym same.shape) (subst (λ t. IsFixed old.layout old.shape t new.rows) (sym same.timing) (subst (λ k. IsFixed old.layout old.shape old.timing k) (sym same.rows) inv.fixed)));
      sized = answers.sized;
      room = answers.room;
      configured = answers.configured;
      kept = λ runs. absurd (none_some _ (sym runs));
    }

    pub keeps_net : (r : Result (Unit {0}) LinkErr) → AnswersEvent ctl mch old new e row fabric fabric' mid steps' r → (f : Option First) → f ≡ stopped_by r s → IsKeptNet ctl mch (record { bench = new; stopped = f })
    keeps_net r answers f f_is = subst (λ g. IsKeptNet ctl mch (record { bench = new; stopped = g })) (sym f_is) (kept_on r answers)
