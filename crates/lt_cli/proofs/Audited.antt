-- What an audit shows, from its verdict.
use Rattle.std.proofs.Common.{◌≡◌, ◌∙◌, ℕ, List, length, Option, Some, None, Result, Ok, Err, refl, sym, subst, inl, inr}
use Rattle.lt_arch.specs.declared.event.Event.{Event}
use Rattle.lt_arch.specs.declared.shape.Shape.{Shape}
use Rattle.lt_arch.specs.declared.timing.Timing.{Timing}
use Rattle.lt_arch.proofs.Schedules.{offence_free}
use Rattle.lt_timing.specs.Accepts.{Accepts}
use Rattle.lt_audit.specs.Misses.{HasNoMiss}
use Rattle.lt_schedule.specs.declared.fault.ScheduleFault.{ScheduleFault}
use Rattle.lt_schedule.specs.Verdict.{verdict}
use Rattle.lt_arch.specs.declared.pace.Pace.TheVariants.{Plain}
use Rattle.lt_load.specs.Plan.{Plan}
use Rattle.lt_run.proofs.Reading.{HasRead}
use Rattle.lt_inspect.specs.declared.scene.Scene.{Scene}
use Rattle.lt_inspect.specs.declared.audited.Audited.{Audited}
use Rattle.lt_inspect.specs.Placed.{IsOfShape}
use Rattle.lt_inspect.specs.Scenes.{IsSceneOf, scene_verdict}
use Rattle.lt_inspect.specs.Inspected.{InspectionEndsWith, IsAudited, inspect_file_verdict, inspect_along_verdict, audit_verdict, ordered_audit_verdict}
use Rattle.lt_inspect.proofs.ToldFirst.{admissible, in_time}
use Rattle.lt_text_answers.specs.declared.status.Status.{Status}
use Rattle.lt_text_answers.specs.declared.status.Status.TheVariants as status
use Rattle.lt_cli.specs.AuditShown.{HoldSchedule, TookClean, IsAuditShown}
use Rattle.lt_cli.specs.Clauses.{IsExact}
use Rattle.lt_cli.specs.Objects.{Objects}
use Rattle.lt_cli.specs.Taken.{TookText}
use Rattle.lt_text_answers.specs.Texts.{audit_text, audited_text}
use Rattle.lt_cli.proofs.Decided.{scene_decided}
use Rattle.lt_cli.proofs.Inspected.{AreAlike, alike}

-- a schedule file that is judged to its end reads as events

ends_with : {T : Type 0} (end : List Event → T → Type 0) (x : T) (r : Result (List Event) ScheduleFault) → InspectionEndsWith end r (Ok x) → (events : List Event) × (r ≡ Ok events) × end events x
ends_with end x (Ok events) is = (events, refl, is)
ends_with end x (Err fault) is = cc

file_read : {T : Type 0} (end : List Event → T → Type 0) (s : Shape) (t : Timing) (rows : ℕ) (file : Option (List ℕ)) (x : T) → inspect_file_verdict end s t rows file (Ok x) → HasRead Plain end s t rows file x
unfolding inspect_file_verdict
file_read end s t rows None x is = cc
file_read end s t rows (Some bytes) x is = let e = ends_with end x (verdict s t rows bytes) is in record { bytes = bytes; file_is = refl; events = e.0; reads = e.1; at_end = e.2 }

-- and one that reads so is judged to its end
read_file : {T : Type 0} (end : List Event → T → Type 0) (s : Shape) (t : Timing) (rows : ℕ) (bytes : List ℕ) (events : List Event) (x : T) → verdict s t rows bytes ≡ Ok events → end events x → inspect_file_verdict end s t rows (Some bytes) (Ok x)
unfolding inspect_file_verdict
read_file end s t rows bytes events x reads ended = subst (λ (r : Result (List Event) ScheduleFault). InspectionEndsWith end r (Ok x)) (sym reads) ended

-- no miss names a node or a channel
none_placed : (s : Shape) → IsOfShape s None
none_placed s m is = cc

-- an audit without a miss is shown so
took_clean : (scene : Scene) (events : List Event) (audited : Audited) (old new : Objects) → IsAudited scene events audited → Accepts scene.timing → TookText (audited_text audited) old new → TookClean scene events old new
took_clean scene events audited old new audits accepts text =
    let same : audited_text audited ≡ audit_text scene.shape (length events) None = λ i. audit_text (audits.shape i) (audits.count i) (audits.clean accepts i) in
    subst (λ (t : List ℕ). TookText t old new) same text

module _ (named : List ℕ → Option (List ℕ)) (program inputs schedule config : List ℕ) (old new : Objects) (audited : Audited) (text : TookText (audited_text audited) old new) where
  along_shown : (plan : Plan) → scene_verdict named program inputs config None (Ok plan) → inspect_along_verdict IsAudited None (named schedule) plan (Ok audited) → IsAuditShown named program inputs schedule config old new
  along_shown plan loaded (scene, is, told) =
      let read = file_read (IsAudited scene) scene.shape scene.timing scene.rows (named schedule) audited told in
      record {
        plan = plan;
        scene = scene;
        events = read.events;
        held = record { loaded = loaded; scene_is = is; bytes = read.bytes; file = read.file_is; reads = read.reads };
        audited = audited;
        text = text;
        audits = read.at_end;
        clean = λ accepts. took_clean scene read.events audited old new read.at_end (subst Accepts (sym is.timing) accepts) text;
      }

  pub audit_shown : ordered_audit_verdict named program inputs schedule config (Ok audited) → IsAuditShown named program inputs schedule config old new
  unfolding ordered_audit_verdict
  audit_shown (inl refused) = absurd refused
  audit_shown (inr (plan, loaded, told)) = along_shown plan loaded told

module _ (named : List ℕ → Option (List ℕ)) (program inputs schedule config : List ℕ) (plan : Plan) (scene : Scene) (events : List Event) (held : HoldSchedule named program inputs schedule config plan scene events) where
  -- what is told of events without a miss
  abbrev without : Audited
  without = record { events = length events; miss = None; shape = scene.shape; placed = none_placed scene.shape }

  no_miss : Accepts plan.setup.timing → HasNoMiss scene.shape scene.timing scene.rows events
  no_miss accepts =
      scene.grounded.2 (subst Accepts (sym held.scene_is.timing) accepts) scene.rows events (in_time scene.shape scene.timing scene.rows held.bytes events held.reads)
      (offence_free scene.shape scene.timing scene.rows events (admissible scene.shape scene.timing scene.rows held.bytes events held.reads))

  audits_clean : Accepts plan.setup.timing → IsAudited scene events without
  audits_clean accepts = record { admissible = admissible scene.shape scene.timing scene.rows held.bytes events held.reads; count = refl; shape = refl; first = no_miss accepts; clean = λ again. refl }

  right : Accepts plan.setup.timing → ordered_audit_verdict named program inputs schedule config (Ok without)
  unfolding ordered_audit_verdict
  right accepts =
      inr (
        plan,
        held.loaded,
        (
          scene,
          held.scene_is,
          subst (λ (file : Option (List ℕ)). inspect_file_verdict (IsAudited scene) scene.shape scene.timing scene.rows file (Ok without)) (sym held.file) (read_file (IsAudited scene) scene.shape scene.timing scene.rows held.bytes events without held.reads (audits_clean accepts)),
        ),
      )

  -- the files hold one list of events
  same_events : (q : Plan) (k : Scene) (es : List Event) → HoldSchedule named program inputs schedule config q k es → es ≡ events
  same_events q k es other =
      let plans : q ≡ plan = (scene_decided named program inputs config None).one_value q plan other.loaded held.loaded in
      let scenes : AreAlike k scene = alike plan None k scene (subst (λ (p : Plan). IsSceneOf p None k) plans other.scene_is) held.scene_is in
      let files : Some other.bytes ≡ Some held.bytes = sym other.file ∙ held.file in
      let bytes : other.bytes ≡ held.bytes = cc in
      let shapes : k.shape ≡ scene.shape = sym scenes.shape in
      let timings : k.timing ≡ scene.timing = sym scenes.timing in
      let rows : k.rows ≡ scene.rows = sym scenes.rows in
      let verdicts : verdict k.shape k.timing k.rows other.bytes ≡ verdict scene.shape scene.timing scene.rows held.bytes = λ i. verdict (shapes i) (timings i) (rows i) (bytes i) in
      let read : Ok es ≡ Ok events = sym other.reads ∙ verdicts ∙ held.reads in
      cc

  module _ (old new : Objects) (ends : Status) (exact : IsExact audited_text (audit_verdict named program inputs schedule config new.files) old new ends) (accepts : Accepts plan.setup.timing) where
    clean_of : IsAuditShown named program inputs schedule config old new → TookClean scene events old new
    clean_of shown =
        let plans : shown.plan ≡ plan = (scene_decided named program inputs config None).one_value shown.plan plan shown.held.loaded held.loaded in
        let took : TookClean shown.scene shown.events old new = shown.clean (subst (λ (p : Plan). Accepts p.setup.timing) (sym plans) accepts) in
        subst (λ (es : List Event). TookClean scene es old new) (same_events shown.plan shown.scene shown.events shown.held) took

    pub audit_clean : (ends ≡ status.Ok) × TookClean scene events old new
    audit_clean =
        let ok : ends ≡ status.Ok = exact.ok.1 (without, right accepts) in
        let told = exact.text ok in
        (ok, clean_of (audit_shown named program inputs schedule config old new told.0 told.2 told.1))
