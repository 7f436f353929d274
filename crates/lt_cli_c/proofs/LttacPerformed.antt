-- All that holds of a call of `lttac`, from what it printed and whose count rose.
use Rattle.std.proofs.Common.{◌≡◌, ◌≢◌, ℕ, IsTrue, List, ◌++◌, Bool, Option, Some, None, Result, Err, refl, sym, ◌∙◌, ap, subst, append-nil, arith, inl, inr}
use Rattle.std.specs.Prelude.{codes, unwrap_or}
use Rattle.lt_io.specs.FabricState.{FabricState}
use Rattle.lt_answer.specs.World.{Reading}
use Rattle.lt_answer.specs.Answered.{Verdict}
use Rattle.lt_answer.proofs.Decided.{HasOneKind}
use Rattle.lt_words.specs.Lttac.{LttacSaid, emit, schedule, draw, plot, lttac_command_of}
use Rattle.lt_load_fit.specs.declared.fault.CommandFault.TheVariants.{Read}
use Rattle.lt_emit.specs.declared.fault.EmitFault.{EmitFault}
use Rattle.lt_emit.specs.declared.fault.EmitFault.TheVariants as fault
use Rattle.lt_emit.proofs.OneEmit.{emit_decided, same_node}
use Rattle.lt_scheduling.proofs.OneSchedule.{schedule_decided}
use Rattle.lt_watch.specs.declared.fault.WatchFault.TheVariants as watched
use Rattle.lt_drawing.specs.declared.view.DrawView.{DrawView}
use Rattle.lt_drawing.proofs.OneDrawing.{draw_decided}
use Rattle.lt_plotting.specs.declared.view.PlotView.{PlotView}
use Rattle.lt_plotting.proofs.OnePlot.{plot_decided}
use Rattle.lt_text_answers.specs.declared.refusal.Refusal.{Refusal}
use Rattle.lt_text_answers.specs.declared.refusal.Refusal.TheVariants.{LttacWords, Command}
use Rattle.lt_text_answers.specs.declared.status.Status.{Status}
use Rattle.lt_text_answers.specs.declared.status.Status.TheVariants as status
use Rattle.lt_text_answers.specs.Blamed.{blame_of}
use Rattle.lt_text_answers.specs.Texts.{status_of, out_text, err_text, refusal_line, refusal_status}
use Rattle.lt_text_answers.specs.Replies.{watch_refusal}
use Rattle.lt_text_answers.proofs.Refusals.{blamed_reads, fault_not_words, watch_reads}
use Rattle.lt_cli.specs.Answers.{answer_verdict}
use Rattle.lt_cli.specs.Clauses.{IsExact, IsExactFor, IsMissingFor, IsCallFailed, IsOutsideCaused}
use Rattle.lt_cli.specs.Objects.{Objects, IsQuiet}
use Rattle.lt_cli.specs.Ran.{Ran}
use Rattle.lt_cli.specs.Taken.{TookLine}
use Rattle.lt_cli.proofs.Accepted.{accepted_ends}
use Rattle.lt_cli.proofs.Causes.{outside_caused, write_caused, missing_for}
use Rattle.lt_cli.proofs.Decided.{tells_limits}
use Rattle.lt_cli.proofs.Exact.{exact_for}
use Rattle.lt_cli.proofs.Failed.{call_failed}
use Rattle.lt_cli.proofs.Gave.{Gave, gave}
use Rattle.lt_cli_c.specs.Emit.{emit_refusal, emit_verdict}
use Rattle.lt_cli_c.specs.Schedule.{schedule_verdict}
use Rattle.lt_cli_c.specs.ScheduleShown.{IsScheduleShown}
use Rattle.lt_cli_c.specs.Draw.{draw_verdict, draw_view}
use Rattle.lt_cli_c.specs.Plot.{plot_verdict, plot_view}
use Rattle.lt_cli_c.proofs.ScheduleRead.{schedule_shown as shown_by}
use Rattle.lt_cli_c.specs.LttacAsked.{LttacAsked, lttac_asked_verdict, lttac_verdict, lttac_words_verdict}
use Rattle.lt_cli_c.specs.LttacClauses.{IsNodeExact, LttacAsks, LttacAsksSound, LttacPerforms}

-- all right refusals have one status

emit_kinds : (named : List ℕ → Option (List ℕ)) (header : Bool) (program config node : List ℕ) → HasOneKind (λ e. refusal_status (emit_refusal e)) (emit_verdict named header program config node)
emit_kinds named header program config node =
    emit_decided named program config header node (λ e. refusal_status (emit_refusal e)) tells_limits (λ f g main main'. refl) (λ f g names names' mixed mixed'. refl)

schedule_kinds : (named : List ℕ → Option (List ℕ)) (program inputs config : List ℕ) (loss seed horizon : ℕ) (jitter : Option ℕ) → HasOneKind (λ e. refusal_status (Command e)) (schedule_verdict named program inputs config loss seed horizon jitter)
schedule_kinds named program inputs config loss seed horizon jitter =
    schedule_decided (λ e. refusal_status (Command e)) tells_limits (λ f g main main'. refl) (λ f g names names' mixed mixed'. refl) named program inputs config loss seed horizon jitter

draw_kinds : (named : List ℕ → Option (List ℕ)) (program inputs events config : List ℕ) (node : Option (List ℕ)) (view : DrawView) → HasOneKind (λ e. refusal_status (Command e)) (draw_verdict named program inputs events config node view)
draw_kinds named program inputs events config node view =
    draw_decided (λ e. refusal_status (Command e)) tells_limits (λ f g main main'. refl) named program inputs events config node view

plot_kinds : (named : List ℕ → Option (List ℕ)) (program inputs : List ℕ) (along : Option (List ℕ × List ℕ)) (observer : Option (List ℕ)) (view : PlotView) → HasOneKind (λ e. refusal_status (watch_refusal e)) (plot_verdict named program inputs along observer view)
plot_kinds named program inputs along observer view =
    plot_decided (λ e. refusal_status (watch_refusal e)) tells_limits (λ f g main main'. refl) (λ f g names names' mixed mixed'. refl) (λ e f. refl) named program inputs along observer view

-- only a missing file blames the files
only_read : (e : EmitFault) → blame_of (emit_refusal e) ≡ Reading → e ≡ fault.Command Read
only_read (fault.Command f) is = ap (λ g. fault.Command g) (blamed_reads f is)
only_read (fault.NoNode name) is = cc

-- only the node's name has the status of wrong words
only_node : (named : List ℕ → Option (List ℕ)) (header : Bool) (program config node : List ℕ) (f : EmitFault) → emit_verdict named header program config node (Err f) → refusal_status (emit_refusal f) ≡ status.Words → f ≡ fault.NoNode node
only_node named header program config node (fault.Command f) right is = absurd (fault_not_words f is)
only_node named header program config node (fault.NoNode name) right is = same_node named header program config node name right

node_exact : (named : List ℕ → Option (List ℕ)) (header : Bool) (program config node : List ℕ) (old new : Objects) (ends : Status) → IsExactFor emit_refusal (λ text. text) (emit_verdict named header program config node) old new ends
    → IsNodeExact named header program config node old new ends
node_exact named header program config node old new ends x =
    let wrong = x.refused status.Words (λ is. cc) in
    record {
      exact = (
        (λ at. let f = wrong.0 at in subst (λ (e : EmitFault). emit_verdict named header program config node (Err e)) (only_node named header program config node f.0 f.1 f.2) f.1),
        (λ right. wrong.1 (fault.NoNode node, right, refl)),
      );
      line = λ at.
          let f = x.line (λ is. let both : status.Words ≡ status.Ok = sym at ∙ is in cc) in
          subst (λ (e : EmitFault). TookLine (refusal_line (emit_refusal e)) old new) (only_node named header program config node f.0 f.1 (f.2 ∙ at)) f.3;
    }

module _ (asked : List (List ℕ)) (old new : Objects) (ends : Status) (did : LttacAsked asked old new ends) (still : new.fabric ≡ old.fabric) where
  -- what was printed
  whole : IsTrue old.files.told → IsQuiet old new → ends ≢ status.Memory → Gave (lttac_words_verdict old.files.named asked) old new ends
  whole tells quiet enough = gave (lttac_words_verdict old.files.named asked) old new ends did.does.ran tells quiet enough

  -- the words say no command
  usage_line : (g : Gave (lttac_words_verdict old.files.named asked) old new ends) → lttac_command_of asked ≡ None → (ends ≡ status.Words) × TookLine (refusal_line LttacWords) old new
  unfolding lttac_words_verdict
  usage_line g none =
      let here : g.outcome ≡ Err LttacWords = subst (λ (s : Option LttacSaid). lttac_asked_verdict old.files.named s g.outcome) none g.right in (
        g.status ∙ ap status_of here,
        record {
          out = λ told. g.out told ∙ ap (λ (o : Result (List ℕ) Refusal). old.out.taken ++ out_text o) here ∙ append-nil old.out.taken;
          err = λ told. g.err told ∙ ap (λ (o : Result (List ℕ) Refusal). old.err.taken ++ err_text o) here;
        },
      )

  -- they say one
  said_gave : (said : LttacSaid) → lttac_command_of asked ≡ Some said → Gave (lttac_words_verdict old.files.named asked) old new ends → Gave (lttac_verdict old.files.named said) old new ends
  unfolding lttac_words_verdict
  said_gave said is g = record {
    outcome = g.outcome;
    right = subst (λ (s : Option LttacSaid). lttac_asked_verdict old.files.named s g.outcome) is g.right;
    status = g.status;
    out = g.out;
    err = g.err;
  }

  said_ran : (said : LttacSaid) → lttac_command_of asked ≡ Some said → Ran (lttac_verdict old.files.named said) old new ends
  unfolding lttac_words_verdict
  said_ran said is = subst (λ (s : Option LttacSaid). Ran (lttac_asked_verdict old.files.named s) old new ends) is did.does.ran

  steady : new.fabric.faults ≡ old.fabric.faults
  steady = ap (λ (w : FabricState). w.faults) still

  -- a command with this verdict
  module _ {T E : Type 0} (raise : E → Refusal) (shown : T → List ℕ) (V : Verdict T E) (one : HasOneKind (λ e. refusal_status (raise e)) V) (said : LttacSaid) (same : lttac_verdict old.files.named said ≡ answer_verdict raise shown V) where
    command_exact : LttacAsks asked said old new ends (IsExactFor raise shown V old new ends)
    command_exact = λ is tells quiet enough. exact_for raise shown V one old new ends (subst (λ (W : Verdict (List ℕ) Refusal). Gave W old new ends) same (said_gave said is (whole tells quiet enough)))

    command_missing : (missing : E) → refusal_status (raise missing) ≡ status.Outside → ((e : E) → blame_of (raise e) ≡ Reading → e ≡ missing) → (IsTrue old.files.sound → IsTrue old.files.told)
        → LttacAsksSound asked said old ends (IsMissingFor missing V old new)
    command_missing missing outside only tells = λ is sound enough.
        missing_for raise missing outside only shown V one old new steady ends (tells sound) sound enough (subst (λ (W : Verdict (List ℕ) Refusal). Ran W old new ends) same (said_ran said is))

  emitted_exact : (header : Bool) (program config node : List ℕ) → LttacAsks asked (emit header program config node) old new ends
      (IsExactFor emit_refusal (λ text. text) (emit_verdict old.files.named header program config node) old new ends)
  emitted_exact header program config node =
      command_exact emit_refusal (λ text. text) (emit_verdict old.files.named header program config node) (emit_kinds old.files.named header program config node) (emit header program config node) refl

  scheduled_exact : (program inputs config : List ℕ) (seed horizon : ℕ) (jitter loss : Option ℕ) → LttacAsks asked (schedule program inputs config seed horizon jitter loss) old new ends
      (IsExact (λ text. text) (schedule_verdict old.files.named program inputs config (unwrap_or loss 0) seed horizon jitter) old new ends)
  scheduled_exact program inputs config seed horizon jitter loss =
      let lost : ℕ = unwrap_or loss 0 in
      command_exact (λ f. Command f) (λ text. text) (schedule_verdict old.files.named program inputs config lost seed horizon jitter) (schedule_kinds old.files.named program inputs config lost seed horizon jitter)
      (schedule program inputs config seed horizon jitter loss) refl

  shown_schedule : (program inputs config : List ℕ) (seed horizon : ℕ) (jitter loss : Option ℕ) → lttac_command_of asked ≡ Some (schedule program inputs config seed horizon jitter loss) → IsTrue old.files.told → IsQuiet old new → ends ≡ status.Ok
      → IsScheduleShown old.files.named program inputs config (unwrap_or loss 0) seed horizon jitter old new
  shown_schedule program inputs config seed horizon jitter loss is tells quiet at =
      let told = (scheduled_exact program inputs config seed horizon jitter loss is tells quiet (λ none. let wrong : status.Ok ≡ status.Memory = sym at ∙ none in cc)).text at in
      shown_by old.files.named program inputs config (unwrap_or loss 0) seed horizon jitter old new told.0 told.2 told.1

  read_failed : IsOutsideCaused old new → IsCallFailed (codes "fault: read") old.files.faults new.files.faults old new
  read_failed (inl failed) = failed
  read_failed (inr failed) = let rose = failed.rose in let same = steady in absurd (omega (arith, rose, same))

  pub lttac_performed : (IsTrue old.files.sound → IsTrue old.files.told) → LttacPerforms asked old new ends
  lttac_performed tells = record {
    unsaid = did.unsaid;
    usage = λ none told quiet enough. usage_line (whole told quiet enough) none;
    visits = did.does.visits;
    emitted = emitted_exact;
    no_node = λ header program config node is told quiet enough. node_exact old.files.named header program config node old new ends (emitted_exact header program config node is told quiet enough);
    scheduled = scheduled_exact;
    schedule_shown = shown_schedule;
    outside = λ at. read_failed (outside_caused (lttac_words_verdict old.files.named asked) old new ends did.does.ran at);
    failed = λ rose. call_failed old new (lttac_words_verdict old.files.named asked) ends did.does.ran (inl rose);
    write = λ at. write_caused (lttac_words_verdict old.files.named asked) old new ends did.does.ran at;
    out_steady = did.does.ran.keeps.out.steady;
    err_steady = did.does.ran.keeps.err.steady;
    accepted = λ said is sound unrefused. accepted_ends (lttac_verdict old.files.named said) old new ends (tells sound.files) sound (said_ran said is) unrefused;
    drawn = λ program inputs events config node from to width.
        let view = draw_view from to width in
        command_exact (λ f. Command f) (λ text. text) (draw_verdict old.files.named program inputs events config node view) (draw_kinds old.files.named program inputs events config node view)
        (draw program inputs events config node from to width) refl;
    plotted = λ program inputs along observer from to width.
        let view = plot_view from to width in
        command_exact watch_refusal (λ text. text) (plot_verdict old.files.named program inputs along observer view) (plot_kinds old.files.named program inputs along observer view)
        (plot program inputs along observer from to width) refl;
    emit_missing = λ header program config node.
        command_missing emit_refusal (λ text. text) (emit_verdict old.files.named header program config node) (emit_kinds old.files.named header program config node) (emit header program config node) refl
        (fault.Command Read) refl only_read tells;
    schedule_missing = λ program inputs config seed horizon jitter loss.
        let lost : ℕ = unwrap_or loss 0 in
        command_missing (λ f. Command f) (λ text. text) (schedule_verdict old.files.named program inputs config lost seed horizon jitter) (schedule_kinds old.files.named program inputs config lost seed horizon jitter)
        (schedule program inputs config seed horizon jitter loss) refl Read refl blamed_reads tells;
    draw_missing = λ program inputs events config node from to width.
        let view = draw_view from to width in
        command_missing (λ f. Command f) (λ text. text) (draw_verdict old.files.named program inputs events config node view) (draw_kinds old.files.named program inputs events config node view)
        (draw program inputs events config node from to width) refl Read refl blamed_reads tells;
    plot_missing = λ program inputs along observer from to width.
        let view = plot_view from to width in
        command_missing watch_refusal (λ text. text) (plot_verdict old.files.named program inputs along observer view) (plot_kinds old.files.named program inputs along observer view)
        (plot program inputs along observer from to width) refl (watched.Command Read) refl watch_reads tells;
    ran = did.does.ran;
  }
