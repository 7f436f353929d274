-- What a plan is loaded as, step after step.
use Rattle.std.proofs.Common.{◌≡◌, ℕ, List, ◌++◌, Result, Ok, Err, inl, inr, refl, sym, subst}
use Rattle.std.specs.Prelude.{IsErrAnd}
use Rattle.lt_base.specs.declared.memory.Or.{Or}
use Rattle.lt_base.specs.declared.memory.Or.TheVariants.{Fault, Memory}
use Rattle.lt_base.specs.Inputs.{InputTable}
use Rattle.lt_io.specs.Visits.{Errand}
use Rattle.lt_io.specs.FilesState.{FilesState}
use Rattle.lt_answer.specs.World.{Blames, Content, alone}
use Rattle.lt_answer.specs.Rules.{Exactly}
use Rattle.lt_answer.specs.Answered.{Answered, Verdict, AndThen, Refuses}
use Rattle.lt_answer.proofs.Stages.{widened, refuses, runs_short, calm_itself}
use Rattle.lt_place.specs.declared.layout.Layout.{Layout}
use Rattle.lt_place.specs.Layout.{IsLayoutOf}
use Rattle.lt_front.specs.Checked.{CheckedText, examined_part}
use Rattle.lt_front.specs.Flattened.{flat_of}
use Rattle.lt_config.specs.declared.config.Config.{Config}
use Rattle.lt_load_fit.specs.declared.fault.CommandFault.{CommandFault}
use Rattle.lt_load_fit.specs.Fits.{fitting_verdict}
use Rattle.lt_compile.specs.declared.site.Site.{Site}
use Rattle.lt_load.specs.Blamed.{command_blame}
use Rattle.lt_load.specs.Loaded.{inputs_verdict}
use Rattle.lt_load.specs.Plan.{Plan, LoadedPlan, IsLoadedFrom, Loads, inputs_plan_verdict, fitting_plan_verdict}
use Rattle.lt_compile.specs.Sites.{IsSiteOf, site_verdict}
use Rattle.lt_load.specs.Sites.{loaded_of, sited_verdict}
use Rattle.lt_load.proofs.Contents.{fitting_content}
use Rattle.lt_load.proofs.Steps.{Names, refused_step, next_step}

-- two steps, of which the second loads
loads_then : {T : Type 0} (V : Verdict T CommandFault) (next : T → Verdict Plan CommandFault) (o : Result LoadedPlan CommandFault) → AndThen V (λ x. Loads (next x)) o → Loads (AndThen V next) o
loads_then V next (Ok k) (inl p) = absurd p
loads_then V next (Ok k) (inr p) = (p.2.0, inr (p.0, p.1, p.2.1), p.2.2)
loads_then V next (Err e) (inl p) = inl p
loads_then V next (Err e) (inr p) = inr (p.0, p.1, p.2)

module _ {T : Type 0} (V : Verdict T CommandFault) (next : Names → T → Verdict Plan CommandFault) (a b : FilesState) where
  widen : {es : List Errand} (c : FilesState) (r : Result LoadedPlan (Or CommandFault)) → Answered command_blame es (AndThen V (λ x. Loads (next a.named x))) (alone a) (alone c) r
      → Answered command_blame es (Loads (AndThen V (next a.named))) (alone a) (alone c) r
  widen c r answered = widened (AndThen V (λ x. Loads (next a.named x))) (Loads (AndThen V (next a.named))) (alone a) (alone c) r (loads_then V (next a.named)) answered

  -- the first is refused
  pub refused_load : {es : List Errand} (fs : List Errand) (e : Or CommandFault) (r : Result LoadedPlan (Or CommandFault)) → IsErrAnd r (λ f. f ≡ e) → Answered {T = T} command_blame es V (alone a) (alone b) (Err e)
      → Answered command_blame (es ++ fs) (Loads (AndThen V (next a.named))) (alone a) (alone b) r
  refused_load fs e r is first = widen b r (refused_step command_blame V (λ names x. Loads (next names x)) a b fs e r is first)

  -- the second is left
  pub next_load : {es fs : List Errand} (x : T) (r : Result LoadedPlan (Or CommandFault)) → Answered command_blame es V (alone a) (alone b) (Ok x) → (c : FilesState)
      → Answered command_blame fs (Loads (next b.named x)) (alone b) (alone c) r → Answered command_blame (es ++ fs) (Loads (AndThen V (next a.named))) (alone a) (alone c) r
  next_load x r first c second = widen c r (next_step command_blame V (λ names y. Loads (next names y)) a b x r first c second)

-- a step that touches nothing, and its refusal as that of the whole

module _ {S : Type 0} (W : Verdict S CommandFault) (V : Verdict Plan CommandFault) (there : (e : CommandFault) → W (Err e) → V (Err e)) (content : (e : CommandFault) → W (Err e) → command_blame e ≡ Content) where
  refused_at : {es : List Errand} (a : FilesState) (e : Or CommandFault) → Refuses W e → Answered {T = LoadedPlan} command_blame es (Loads V) (alone a) (alone a) (Err e)
  refused_at a (Fault e) refused = refuses (alone a) e (subst (Blames (alone a) (alone a)) (sym (content e refused)) (calm_itself (alone a))) (there e refused)
  refused_at a Memory refused = runs_short (alone a)

  refused_here : {es : List Errand} (a : FilesState) (e : Or CommandFault) (r : Result LoadedPlan (Or CommandFault)) → IsErrAnd r (λ f. f ≡ e) → Refuses W e → Answered command_blame es (Loads V) (alone a) (alone a) r
  refused_here a e (Ok k) is refused = absurd is
  refused_here {es} a e (Err f) is refused = subst (λ (g : Or CommandFault). Answered {T = LoadedPlan} command_blame es (Loads V) (alone a) (alone a) (Err g)) (sym is) (refused_at a e refused)

-- the last step

one_value : (x y : LoadedPlan) → Exactly {T = LoadedPlan} {E = CommandFault} (Ok x) (Ok y) → x ≡ y
one_value x y is = cc

exact_fault : {T : Type 0} (V : Verdict T CommandFault) (make : T → LoadedPlan) (e : CommandFault) → AndThen V (λ t. Exactly (Ok (make t))) (Err e) → V (Err e)
exact_fault V make e (inl p) = p
exact_fault V make e (inr p) = let wrong = p.2 in absurd (cc wrong)

module _ {S T : Type 0} (F : Verdict S CommandFault) (I : Verdict T CommandFault) (plan : S → T → Plan) (make : T → LoadedPlan) (setup : S) (right : F (Ok setup)) (from : (t : T) → IsLoadedFrom (plan setup t) (make t)) where
  all_read : (o : Result LoadedPlan CommandFault) → AndThen I (λ t. Exactly (Ok (make t))) o → Loads (AndThen F (λ c. AndThen I (λ t. Exactly (Ok (plan c t))))) o
  all_read (Ok k) (inl p) = absurd p
  all_read (Ok k) (inr p) = (plan setup p.0, inr (setup, right, inr (p.0, p.1, refl)), subst (IsLoadedFrom (plan setup p.0)) (one_value (make p.0) k p.2) (from p.0))
  all_read (Err e) p = inr (setup, right, inl (exact_fault I make e p))

-- at a site

module _ (named : Names) (inputs : List ℕ) (checked : CheckedText) (setup : Config) where
  loaded_from : (l : Layout) (s : Site) (table : InputTable) → IsLayoutOf (flat_of checked.program) setup.placement l → IsSiteOf l setup s
      → IsLoadedFrom (record { checked = examined_part checked; setup = setup; inputs = table }) (loaded_of checked s table)
  loaded_from l s table layout is = record {
    checked = refl;
    layout = subst (IsLayoutOf (flat_of checked.program) setup.placement) (sym is.layout) layout;
    timing = is.timing;
    pace = is.pace;
    shape = is.shape;
    inputs = refl;
  }

  site_loads : (s : Site) → site_verdict (examined_part checked) setup (Ok s) → (o : Result LoadedPlan CommandFault) → sited_verdict named inputs checked s o → Loads (fitting_plan_verdict named inputs (examined_part checked) setup) o
  unfolding sited_verdict fitting_plan_verdict inputs_plan_verdict
  site_loads s right =
      all_read (fitting_verdict (examined_part checked) setup) (inputs_verdict checked.program (named inputs)) (λ c table. record { checked = examined_part checked; setup = c; inputs = table }) (loaded_of checked s) setup right.0
      (λ table. loaded_from right.1.0 s table right.1.1 right.1.2)

  not_fitting : (e : CommandFault) → fitting_verdict (examined_part checked) setup (Err e) → fitting_plan_verdict named inputs (examined_part checked) setup (Err e)
  unfolding fitting_plan_verdict
  not_fitting e refused = inl refused

  -- the setup does not fit
  pub no_site : {es : List Errand} (a : FilesState) (e : Or CommandFault) (r : Result LoadedPlan (Or CommandFault)) → IsErrAnd r (λ f. f ≡ e) → Refuses (site_verdict (examined_part checked) setup) e
      → Answered command_blame es (Loads (fitting_plan_verdict named inputs (examined_part checked) setup)) (alone a) (alone a) r
  no_site = refused_here (site_verdict (examined_part checked) setup) (fitting_plan_verdict named inputs (examined_part checked) setup) not_fitting (fitting_content (examined_part checked) setup)

  -- it fits, and the inputs are left
  pub at_site : {es : List Errand} (a b : FilesState) (s : Site) (r : Result LoadedPlan (Or CommandFault)) → site_verdict (examined_part checked) setup (Ok s) → Answered command_blame es (sited_verdict named inputs checked s) (alone a) (alone b) r
      → Answered command_blame es (Loads (fitting_plan_verdict named inputs (examined_part checked) setup)) (alone a) (alone b) r
  at_site a b s r right answered = widened (sited_verdict named inputs checked s) (Loads (fitting_plan_verdict named inputs (examined_part checked) setup)) (alone a) (alone b) r (site_loads s right) answered
