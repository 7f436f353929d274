-- All that holds of a call of `ltta`, from what it printed and whose count rose.
use Rattle.std.proofs.Common.{◌≡◌, ◌≢◌, ◌+◌, ℕ, IsTrue, List, length, Option, Some, refl, sym, ◌∙◌, ap}
use Rattle.lt_io.specs.FabricState.{FabricState}
use Rattle.lt_arch.specs.declared.event.Event.{Event}
use Rattle.lt_arch.specs.declared.event.Offence.{Offence}
use Rattle.lt_arch.specs.declared.shape.Shape.{Shape}
use Rattle.lt_timing.specs.Accepts.{Accepts}
use Rattle.lt_load.specs.Plan.{Plan}
use Rattle.lt_inspect.specs.declared.scene.Scene.{Scene}
use Rattle.lt_text_lines.specs.PlanText.{plan_of}
use Rattle.lt_text_lines.specs.ScheduleLines.{offence_line}
use Rattle.lt_cli.specs.Commands.Plan.{plan_verdict}
use Rattle.lt_load.specs.Setups.{check_verdict}
use Rattle.lt_evaluate.specs.Meaning.{meaning_verdict}
use Rattle.lt_run.specs.Run.{run_verdict}
use Rattle.lt_words.specs.Reading.{Said, check, meaning, run, plan, sim, big, watch, audit, trace, command_of}
use Rattle.lt_big.specs.Big.{big_verdict}
use Rattle.lt_inspect.specs.Inspected.{audit_verdict, trace_verdict}
use Rattle.lt_watch.specs.declared.fault.WatchFault.TheVariants as watched
use Rattle.lt_watch.specs.Watch.{watch_verdict}
use Rattle.lt_load_fit.specs.declared.fault.CommandFault.TheVariants as fault
use Rattle.lt_text_answers.specs.declared.refusal.Refusal.TheVariants.{Command}
use Rattle.lt_text_answers.specs.Draws.{sim_verdict}
use Rattle.lt_text_answers.specs.Texts.{drawing_text, watched_text, audited_text}
use Rattle.lt_text_answers.specs.declared.status.Status.{Status}
use Rattle.lt_text_answers.specs.declared.status.Status.TheVariants as status
use Rattle.lt_text_answers.specs.Replies.{checked_text, printed_text, summarized_text, watch_refusal}
use Rattle.lt_cli.specs.Commands.{command_verdict, words_verdict}
use Rattle.lt_cli.specs.Objects.{Objects, IsQuiet, AreSound, world_of}
use Rattle.lt_cli.specs.Asked.{Asked}
use Rattle.lt_cli.specs.Headline.{HoldEvents, IsFirstRefused, IsRunShown, IsBigShown}
use Rattle.lt_cli.specs.Taken.{TookLine}
use Rattle.lt_cli.specs.WatchShown.{IsWatchShown}
use Rattle.lt_cli.specs.AuditShown.{HoldSchedule, TookClean, IsAuditShown}
use Rattle.lt_cli.specs.DrawnShown.{IsDrawnShown}
use Rattle.lt_cli.specs.Clauses.{Performs, IsExact, IsExactFor, IsMissingExact, IsMissingFor}
use Rattle.lt_cli.proofs.Gave.{Gave, gave}
use Rattle.lt_cli.proofs.Facts.{words_exact, asked_gave}
use Rattle.lt_cli.proofs.Exact.{exact_for}
use Rattle.lt_cli.proofs.Causes.{outside_caused, write_caused, missing_exact, missing_for, asked_ran, left_fabric}
use Rattle.lt_text_answers.proofs.Refusals.{watch_reads}
use Rattle.lt_cli.proofs.Failed.{call_failed}
use Rattle.lt_cli.proofs.Accepted.{accepted_ends}
use Rattle.lt_cli.proofs.Refused.{run_refused}
use Rattle.lt_cli.proofs.Shown.{run_shown, big_shown}
use Rattle.lt_cli.proofs.Watched.{watch_shown}
use Rattle.lt_cli.proofs.DrawnRead.{drawn_shown}
use Rattle.lt_cli.proofs.Audited.{audit_shown, audit_clean}
use Rattle.lt_cli.proofs.Decided.{check_decided, meaning_decided, run_decided, plan_decided, sim_decided, big_decided, watched_decided, audit_decided, trace_decided}

module _ (asked : List (List ℕ)) (old new : Objects) (ends : Status) (did : Asked asked old new ends) where
  -- what was printed for the command that the words say
  given : (said : Said) → command_of asked ≡ Some said → IsTrue old.files.told → IsQuiet old new → ends ≢ status.Memory → Gave (command_verdict old.files.named (world_of new) said) old new ends
  given said is tells quiet enough = asked_gave asked said old new ends is (gave (words_verdict old.files.named (world_of new) asked) old new ends did.ran tells quiet enough)

  check_exact : (program : List ℕ) (config : Option (List ℕ)) → command_of asked ≡ Some (check program config) → IsTrue old.files.told → IsQuiet old new → ends ≢ status.Memory
      → IsExact checked_text (check_verdict old.files.named program config) old new ends
  check_exact program config is tells quiet enough =
      exact_for (λ f. Command f) checked_text (check_verdict old.files.named program config) (check_decided old.files.named program config) old new ends (given (check program config) is tells quiet enough)

  meaning_exact : (program inputs : List ℕ) → command_of asked ≡ Some (meaning program inputs) → IsTrue old.files.told → IsQuiet old new → ends ≢ status.Memory
      → IsExact printed_text (meaning_verdict old.files.named program inputs) old new ends
  meaning_exact program inputs is tells quiet enough =
      exact_for (λ f. Command f) printed_text (meaning_verdict old.files.named program inputs) (meaning_decided old.files.named program inputs) old new ends (given (meaning program inputs) is tells quiet enough)

  run_exact : (program inputs schedule : List ℕ) (config : Option (List ℕ)) → command_of asked ≡ Some (run program inputs schedule config) → IsTrue old.files.told → IsQuiet old new → ends ≢ status.Memory
      → IsExact printed_text (run_verdict old.files.named program inputs schedule config (world_of new)) old new ends
  run_exact program inputs schedule config is tells quiet enough =
      exact_for (λ f. Command f) printed_text (run_verdict old.files.named program inputs schedule config (world_of new)) (run_decided old.files.named program inputs schedule config (world_of new)) old new ends
      (given (run program inputs schedule config) is tells quiet enough)

  shown : (program inputs schedule : List ℕ) (config : Option (List ℕ)) → command_of asked ≡ Some (run program inputs schedule config) → IsTrue old.files.told → IsQuiet old new → ends ≡ status.Ok
      → IsRunShown old.files.named program inputs schedule config old new
  shown program inputs schedule config is tells quiet at =
      let printed = (run_exact program inputs schedule config is tells quiet (λ none. let wrong : status.Ok ≡ status.Memory = sym at ∙ none in cc)).text at in
      run_shown old.files.named program inputs schedule config old new printed.0 printed.2 printed.1

  refused_run : (program inputs schedule : List ℕ) (config : Option (List ℕ)) → command_of asked ≡ Some (run program inputs schedule config) → IsTrue old.files.told → IsQuiet old new → ends ≢ status.Memory
      → (p : Plan) (s : Shape) (events : List Event) → HoldEvents old.files.named program inputs schedule config p s events → (i : ℕ) (offence : Offence) → IsFirstRefused s p.setup.timing (length p.inputs.rows) events i offence
      → (ends ≡ status.Schedule) × TookLine (offence_line s (i + 1) offence) old new
  refused_run program inputs schedule config is tells quiet enough p s events held i offence first =
      run_refused old.files.named program inputs schedule config p s events held i offence first old new ends (run_exact program inputs schedule config is tells quiet enough)

  plan_exact : (config : List ℕ) (horizon : Option ℕ) → command_of asked ≡ Some (plan config horizon) → IsTrue old.files.told → IsQuiet old new → ends ≢ status.Memory
      → IsExact (λ setup. plan_of setup horizon) (plan_verdict old.files.named config) old new ends
  plan_exact config horizon is tells quiet enough =
      exact_for (λ f. Command f) (λ setup. plan_of setup horizon) (plan_verdict old.files.named config) (plan_decided (old.files.named config)) old new ends (given (plan config horizon) is tells quiet enough)

  sim_exact : (program inputs config : List ℕ) (seed horizon : ℕ) → command_of asked ≡ Some (sim program inputs config seed horizon) → IsTrue old.files.told → IsQuiet old new → ends ≢ status.Memory
      → IsExact drawing_text (sim_verdict old.files.named program inputs config seed horizon) old new ends
  sim_exact program inputs config seed horizon is tells quiet enough =
      exact_for (λ f. Command f) drawing_text (sim_verdict old.files.named program inputs config seed horizon) (sim_decided old.files.named program inputs config seed horizon) old new ends
      (given (sim program inputs config seed horizon) is tells quiet enough)

  shown_sim : (program inputs config : List ℕ) (seed horizon : ℕ) → command_of asked ≡ Some (sim program inputs config seed horizon) → IsTrue old.files.told → IsQuiet old new → ends ≡ status.Ok
      → IsDrawnShown old.files.named program inputs config seed horizon old new
  shown_sim program inputs config seed horizon is tells quiet at =
      let told = (sim_exact program inputs config seed horizon is tells quiet (λ none. let wrong : status.Ok ≡ status.Memory = sym at ∙ none in cc)).text at in
      drawn_shown old.files.named program inputs config seed horizon old new told.0 told.2 told.1

  big_exact : (instants : ℕ) → command_of asked ≡ Some (big instants) → IsTrue old.files.told → IsQuiet old new → ends ≢ status.Memory
      → IsExact (summarized_text instants) (big_verdict instants new.fabric) old new ends
  big_exact instants is tells quiet enough =
      exact_for (λ f. Command f) (summarized_text instants) (big_verdict instants new.fabric) (big_decided instants new.fabric) old new ends (given (big instants) is tells quiet enough)

  shown_big : (instants : ℕ) → command_of asked ≡ Some (big instants) → IsTrue old.files.told → IsQuiet old new → ends ≡ status.Ok → IsBigShown instants old new
  shown_big instants is tells quiet at =
      let printed = (big_exact instants is tells quiet (λ none. let wrong : status.Ok ≡ status.Memory = sym at ∙ none in cc)).text at in
      big_shown instants old new printed.0 printed.2 printed.1

  watch_exact : (program inputs schedule observer : List ℕ) (config : Option (List ℕ)) → command_of asked ≡ Some (watch program inputs schedule observer config) → IsTrue old.files.told → IsQuiet old new → ends ≢ status.Memory
      → IsExactFor watch_refusal watched_text (watch_verdict old.files.named program inputs schedule observer config (world_of new)) old new ends
  watch_exact program inputs schedule observer config is tells quiet enough =
      exact_for watch_refusal watched_text (watch_verdict old.files.named program inputs schedule observer config (world_of new)) (watched_decided old.files.named program inputs schedule observer config (world_of new)) old new ends
      (given (watch program inputs schedule observer config) is tells quiet enough)

  audit_exact : (program inputs schedule config : List ℕ) → command_of asked ≡ Some (audit program inputs schedule config) → IsTrue old.files.told → IsQuiet old new → ends ≢ status.Memory
      → IsExact audited_text (audit_verdict old.files.named program inputs schedule config new.files) old new ends
  audit_exact program inputs schedule config is tells quiet enough =
      exact_for (λ f. Command f) audited_text (audit_verdict old.files.named program inputs schedule config new.files) (audit_decided old.files.named program inputs schedule config new.files) old new ends
      (given (audit program inputs schedule config) is tells quiet enough)

  shown_watch : (program inputs schedule observer : List ℕ) (config : Option (List ℕ)) → command_of asked ≡ Some (watch program inputs schedule observer config) → IsTrue old.files.told → IsQuiet old new → ends ≡ status.Ok
      → IsWatchShown old.files.named program inputs schedule observer config old new
  shown_watch program inputs schedule observer config is tells quiet at =
      let told = (watch_exact program inputs schedule observer config is tells quiet (λ none. let wrong : status.Ok ≡ status.Memory = sym at ∙ none in cc)).text at in
      watch_shown old.files.named program inputs schedule observer config old new told.0 told.2 told.1

  shown_audit : (program inputs schedule config : List ℕ) → command_of asked ≡ Some (audit program inputs schedule config) → IsTrue old.files.told → IsQuiet old new → ends ≡ status.Ok → IsAuditShown old.files.named program inputs schedule config old new
  shown_audit program inputs schedule config is tells quiet at =
      let told = (audit_exact program inputs schedule config is tells quiet (λ none. let wrong : status.Ok ≡ status.Memory = sym at ∙ none in cc)).text at in
      audit_shown old.files.named program inputs schedule config old new told.0 told.2 told.1

  clean_audit : (program inputs schedule config : List ℕ) → command_of asked ≡ Some (audit program inputs schedule config) → IsTrue old.files.told → IsQuiet old new → ends ≢ status.Memory
      → (p : Plan) (scene : Scene) (events : List Event) → HoldSchedule old.files.named program inputs schedule config p scene events → Accepts p.setup.timing → (ends ≡ status.Ok) × TookClean scene events old new
  clean_audit program inputs schedule config is tells quiet enough p scene events held accepts =
      audit_clean old.files.named program inputs schedule config p scene events held old new ends (audit_exact program inputs schedule config is tells quiet enough) accepts

  trace_exact : (program inputs schedule config : List ℕ) (node : Option (List ℕ)) (from to : ℕ) → command_of asked ≡ Some (trace program inputs schedule config node from to) → IsTrue old.files.told → IsQuiet old new → ends ≢ status.Memory
      → IsExact (λ text. text) (trace_verdict old.files.named program inputs schedule config node from to new.files) old new ends
  trace_exact program inputs schedule config node from to is tells quiet enough =
      exact_for (λ f. Command f) (λ text. text) (trace_verdict old.files.named program inputs schedule config node from to new.files) (trace_decided old.files.named program inputs schedule config node from to new.files) old new ends
      (given (trace program inputs schedule config node from to) is tells quiet enough)

  -- the fabric's count, where nothing touches it
  untouched : new.fabric ≡ old.fabric → new.fabric.faults ≡ old.fabric.faults
  untouched same = ap (λ (w : FabricState). w.faults) same

  module _ (tells : IsTrue old.files.sound → IsTrue old.files.told) where
    check_missing : (program : List ℕ) (config : Option (List ℕ)) → command_of asked ≡ Some (check program config) → IsTrue old.files.sound → ends ≢ status.Memory
        → IsMissingExact (check_verdict old.files.named program config) old new
    check_missing program config is sound enough =
        missing_exact checked_text (check_verdict old.files.named program config) (check_decided old.files.named program config) old new
        (untouched (left_fabric asked (check program config) old.files old.fabric new.fabric is did.by_said.leaves)) ends (tells sound) sound enough
        (asked_ran asked (check program config) old new ends is did.ran)

    meaning_missing : (program inputs : List ℕ) → command_of asked ≡ Some (meaning program inputs) → IsTrue old.files.sound → ends ≢ status.Memory → IsMissingExact (meaning_verdict old.files.named program inputs) old new
    meaning_missing program inputs is sound enough =
        missing_exact printed_text (meaning_verdict old.files.named program inputs) (meaning_decided old.files.named program inputs) old new
        (untouched (left_fabric asked (meaning program inputs) old.files old.fabric new.fabric is did.by_said.leaves)) ends (tells sound) sound enough
        (asked_ran asked (meaning program inputs) old new ends is did.ran)

    run_missing : (program inputs schedule : List ℕ) (config : Option (List ℕ)) → command_of asked ≡ Some (run program inputs schedule config) → IsTrue old.files.sound → ends ≢ status.Memory
        → new.fabric.faults ≡ old.fabric.faults → IsMissingExact (run_verdict old.files.named program inputs schedule config (world_of new)) old new
    run_missing program inputs schedule config is sound enough steady =
        missing_exact printed_text (run_verdict old.files.named program inputs schedule config (world_of new)) (run_decided old.files.named program inputs schedule config (world_of new)) old new steady ends (tells sound) sound enough
        (asked_ran asked (run program inputs schedule config) old new ends is did.ran)

    plan_missing : (config : List ℕ) (horizon : Option ℕ) → command_of asked ≡ Some (plan config horizon) → IsTrue old.files.sound → ends ≢ status.Memory → IsMissingExact (plan_verdict old.files.named config) old new
    plan_missing config horizon is sound enough =
        missing_exact (λ setup. plan_of setup horizon) (plan_verdict old.files.named config) (plan_decided (old.files.named config)) old new
        (untouched (left_fabric asked (plan config horizon) old.files old.fabric new.fabric is did.by_said.leaves)) ends (tells sound) sound enough
        (asked_ran asked (plan config horizon) old new ends is did.ran)

    sim_missing : (program inputs config : List ℕ) (seed horizon : ℕ) → command_of asked ≡ Some (sim program inputs config seed horizon) → IsTrue old.files.sound → ends ≢ status.Memory
        → IsMissingExact (sim_verdict old.files.named program inputs config seed horizon) old new
    sim_missing program inputs config seed horizon is sound enough =
        missing_exact drawing_text (sim_verdict old.files.named program inputs config seed horizon) (sim_decided old.files.named program inputs config seed horizon) old new
        (untouched (left_fabric asked (sim program inputs config seed horizon) old.files old.fabric new.fabric is did.by_said.leaves)) ends (tells sound) sound enough
        (asked_ran asked (sim program inputs config seed horizon) old new ends is did.ran)

    watch_missing : (program inputs schedule observer : List ℕ) (config : Option (List ℕ)) → command_of asked ≡ Some (watch program inputs schedule observer config) → IsTrue old.files.sound → ends ≢ status.Memory
        → new.fabric.faults ≡ old.fabric.faults → IsMissingFor (watched.Command fault.Read) (watch_verdict old.files.named program inputs schedule observer config (world_of new)) old new
    watch_missing program inputs schedule observer config is sound enough steady =
        missing_for watch_refusal (watched.Command fault.Read) refl watch_reads watched_text (watch_verdict old.files.named program inputs schedule observer config (world_of new))
        (watched_decided old.files.named program inputs schedule observer config (world_of new)) old new steady ends (tells sound) sound enough
        (asked_ran asked (watch program inputs schedule observer config) old new ends is did.ran)

    audit_missing : (program inputs schedule config : List ℕ) → command_of asked ≡ Some (audit program inputs schedule config) → IsTrue old.files.sound → ends ≢ status.Memory
        → IsMissingExact (audit_verdict old.files.named program inputs schedule config new.files) old new
    audit_missing program inputs schedule config is sound enough =
        missing_exact audited_text (audit_verdict old.files.named program inputs schedule config new.files) (audit_decided old.files.named program inputs schedule config new.files) old new
        (untouched (left_fabric asked (audit program inputs schedule config) old.files old.fabric new.fabric is did.by_said.leaves)) ends (tells sound) sound enough
        (asked_ran asked (audit program inputs schedule config) old new ends is did.ran)

    trace_missing : (program inputs schedule config : List ℕ) (node : Option (List ℕ)) (from to : ℕ) → command_of asked ≡ Some (trace program inputs schedule config node from to) → IsTrue old.files.sound → ends ≢ status.Memory
        → IsMissingExact (trace_verdict old.files.named program inputs schedule config node from to new.files) old new
    trace_missing program inputs schedule config node from to is sound enough =
        missing_exact (λ text. text) (trace_verdict old.files.named program inputs schedule config node from to new.files) (trace_decided old.files.named program inputs schedule config node from to new.files) old new
        (untouched (left_fabric asked (trace program inputs schedule config node from to) old.files old.fabric new.fabric is did.by_said.leaves)) ends (tells sound) sound enough
        (asked_ran asked (trace program inputs schedule config node from to) old new ends is did.ran)

    pub performed : Performs asked old new ends
    performed = record {
      by_said = did.by_said;
      visits = did.visits;
      words = λ told quiet enough. words_exact asked old new ends did.by_said (gave (words_verdict old.files.named (world_of new) asked) old new ends did.ran told quiet enough);
      check = check_exact;
      meaning = meaning_exact;
      run = run_exact;
      plan = plan_exact;
      sim = sim_exact;
      big = big_exact;
      watch = watch_exact;
      audit = audit_exact;
      trace = trace_exact;
      run_refused = refused_run;
      run_shown = shown;
      big_shown = shown_big;
      sim_shown = shown_sim;
      watch_shown = shown_watch;
      audit_shown = shown_audit;
      audit_clean = clean_audit;
      outside = λ at. outside_caused (words_verdict old.files.named (world_of new) asked) old new ends did.ran at;
      failed = λ rose. call_failed old new (words_verdict old.files.named (world_of new) asked) ends did.ran rose;
      write = λ at. write_caused (words_verdict old.files.named (world_of new) asked) old new ends did.ran at;
      steady = did.ran.keeps.world.steady;
      out_steady = did.ran.keeps.out.steady;
      err_steady = did.ran.keeps.err.steady;
      accepted = λ said is sound unrefused. accepted_ends (command_verdict old.files.named (world_of new) said) old new ends (tells sound.files) sound (asked_ran asked said old new ends is did.ran) unrefused;
      check_missing = check_missing;
      meaning_missing = meaning_missing;
      run_missing = run_missing;
      plan_missing = plan_missing;
      sim_missing = sim_missing;
      watch_missing = watch_missing;
      audit_missing = audit_missing;
      trace_missing = trace_missing;
      ran = did.ran;
    }
