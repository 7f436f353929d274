-- What a schedule is judged over, step after step.
use Rattle.std.proofs.Common.{◌≡◌, ℕ, List, length, Option, Some, None, Result, Ok, Err, inl, inr, refl, sym, ap, subst, [], ◌++◌}
use Rattle.std.specs.Prelude.{IsErrAnd}
use Rattle.lt_base.specs.declared.memory.Or.{Or}
use Rattle.lt_base.specs.declared.memory.Or.TheVariants.{Fault, Memory}
use Rattle.lt_base.specs.Inputs.{InputTable}
use Rattle.lt_io.specs.FilesState.{FilesState}
use Rattle.lt_io.specs.Visits.{Errand}
use Rattle.lt_answer.specs.World.{alone}
use Rattle.lt_answer.specs.Answered.{Answered, Verdict, AndThen, Settles}
use Rattle.lt_answer.specs.Rules.{Exactly}
use Rattle.lt_answer.proofs.Stages.{errands_all, widened, settles}
use Rattle.lt_front.specs.Examined.{ExaminedText}
use Rattle.lt_config.specs.declared.config.Config.{Config}
use Rattle.lt_load_fit.specs.declared.fault.CommandFault.{CommandFault}
use Rattle.lt_load_fit.specs.Fits.{placed_verdict}
use Rattle.lt_load.specs.Blamed.{command_blame}
use Rattle.lt_load.specs.Loaded.{inputs_verdict}
use Rattle.lt_load.specs.Plan.{Plan, inputs_plan_verdict}
use Rattle.lt_load.proofs.OneCheck.{place_fault}
use Rattle.lt_load.proofs.Steps.{Names, IsContent, content_then, refused_step, next_step, untouched}
use Rattle.lt_inspect.specs.declared.stage.Ground.{Ground}
use Rattle.lt_inspect.specs.declared.stage.Stage.{Stage}
use Rattle.lt_inspect.specs.Scenes.{named_node_verdict, named_place_verdict, placed_plan_verdict}
use Rattle.lt_inspect.specs.Stages.{IsGroundOf, Staged, ground_verdict}

staged_then : {T : Type 0} (node : Option (List ℕ)) (V : Verdict T CommandFault) (next : T → Verdict Plan CommandFault) (o : Result Stage CommandFault) → AndThen V (λ x. Staged node (next x)) o → Staged node (AndThen V next) o
staged_then _ V next (Ok k) (inl p) = absurd p
staged_then _ V next (Ok k) (inr p) = (p.2.0, inr (p.0, p.1, p.2.1), p.2.2)
staged_then _ V next (Err e) (inl p) = inl p
staged_then _ V next (Err e) (inr p) = inr (p.0, p.1, p.2)

module _ {T : Type 0} (node : Option (List ℕ)) (V : Verdict T CommandFault) (next : Names → T → Verdict Plan CommandFault) (a b : FilesState) where
  widen : {es : List Errand} (c : FilesState) (r : Result Stage (Or CommandFault)) → Answered command_blame es (AndThen V (λ x. Staged node (next a.named x))) (alone a) (alone c) r
      → Answered command_blame es (Staged node (AndThen V (next a.named))) (alone a) (alone c) r
  widen c r answered = widened (AndThen V (λ x. Staged node (next a.named x))) (Staged node (AndThen V (next a.named))) (alone a) (alone c) r (staged_then node V (next a.named)) answered

  -- the first is refused
  pub refused_stage : {es : List Errand} (fs : List Errand) (e : Or CommandFault) (r : Result Stage (Or CommandFault)) → IsErrAnd r (λ f. f ≡ e) → Answered {T = T} command_blame es V (alone a) (alone b) (Err e)
      → Answered command_blame (es ++ fs) (Staged node (AndThen V (next a.named))) (alone a) (alone b) r
  refused_stage fs e r is first = widen b r (refused_step command_blame V (λ names x. Staged node (next names x)) a b fs e r is first)

  -- the second is left
  pub next_stage : {es fs : List Errand} (x : T) (r : Result Stage (Or CommandFault)) → Answered command_blame es V (alone a) (alone b) (Ok x) → (c : FilesState)
      → Answered command_blame fs (Staged node (next b.named x)) (alone b) (alone c) r → Answered command_blame (es ++ fs) (Staged node (AndThen V (next a.named))) (alone a) (alone c) r
  next_stage x r first c second = widen c r (next_step command_blame V (λ names y. Staged node (next names y)) a b x r first c second)

-- the placement and the node that is named touch nothing
named_content : (checked : ExaminedText) (setup : Config) (node : Option (List ℕ)) → IsContent command_blame (named_node_verdict checked setup node)
named_content checked setup None e is = cc
named_content checked setup (Some name) e is = ap command_blame is.1

placed_content : (checked : ExaminedText) (setup : Config) → IsContent command_blame (placed_verdict checked setup)
unfolding placed_verdict
placed_content checked setup e right = ap command_blame (place_fault checked setup e right.1).2

ground_content : (checked : ExaminedText) (setup : Config) (node : Option (List ℕ)) → IsContent command_blame (named_place_verdict checked setup node)
unfolding named_place_verdict
ground_content checked setup node = content_then command_blame (placed_verdict checked setup) (λ legal. named_node_verdict checked legal node) (placed_content checked setup) (λ legal. named_content checked legal node)

module _ (checked : ExaminedText) (setup : Config) (node : Option (List ℕ)) (inputs : List ℕ) (a : FilesState) where
  abbrev rest : Names → Config → Verdict Plan CommandFault
  rest names known = inputs_plan_verdict names inputs checked known

  refusal : (e : Or CommandFault) → Settles (ground_verdict checked setup node) (Err e) → Answered {T = Config} command_blame [] (named_place_verdict checked setup node) (alone a) (alone a) (Err e)
  refusal e settled = untouched command_blame (named_place_verdict checked setup node) (alone a) (Err e) (ground_content checked setup node) (refused e settled)
    where
      refused : (e : Or CommandFault) → Settles (ground_verdict checked setup node) (Err e) → Settles {T = Config} (named_place_verdict checked setup node) (Err e)
      refused (Fault f) is = is
      refused Memory is = tt

  pub no_ground : (fs : List Errand) (e : Or CommandFault) (r : Result Stage (Or CommandFault)) → IsErrAnd r (λ f. f ≡ e) → Settles (ground_verdict checked setup node) (Err e)
      → Answered command_blame fs (Staged node (placed_plan_verdict a.named inputs node checked setup)) (alone a) (alone a) r
  unfolding placed_plan_verdict
  no_ground fs e r is settled = refused_stage node (named_place_verdict checked setup node) rest a a fs e r is (refusal e settled)

  module _ (g : Ground) (settled : Settles (ground_verdict checked setup node) (Ok g)) where
    first : Answered command_blame [] (named_place_verdict checked setup node) (alone a) (alone a) (Ok setup)
    first = untouched command_blame (named_place_verdict checked setup node) (alone a) (Ok setup) (ground_content checked setup node) settled.0

    abbrev plan_of : InputTable → Plan
    plan_of table = record { checked = checked; setup = setup; inputs = table }

    pub no_rows : {es : List Errand} (b : FilesState) (e : Or CommandFault) (r : Result Stage (Or CommandFault)) → IsErrAnd r (λ f. f ≡ e) → Answered {T = InputTable} command_blame es (inputs_verdict checked.program (a.named inputs)) (alone a) (alone b) (Err e)
        → Answered command_blame es (Staged node (placed_plan_verdict a.named inputs node checked setup)) (alone a) (alone b) r
    unfolding placed_plan_verdict inputs_plan_verdict
    no_rows b e r is answered =
        next_stage node (named_place_verdict checked setup node) rest a a setup r first b
        (errands_all (alone a) (alone b) r (refused_stage node (inputs_verdict checked.program (a.named inputs)) (λ names table. Exactly (Ok (plan_of table))) a b [] e r is answered))

    pub with_stage : {es : List Errand} (b : FilesState) (table : InputTable) (k : Stage) → k.ground ≡ g → k.rows ≡ length table.rows
        → Answered command_blame es (inputs_verdict checked.program (a.named inputs)) (alone a) (alone b) (Ok table)
        → Answered command_blame es (Staged node (placed_plan_verdict a.named inputs node checked setup)) (alone a) (alone b) (Ok k)
    unfolding placed_plan_verdict inputs_plan_verdict
    with_stage b table k ground rows answered =
        next_stage node (named_place_verdict checked setup node) rest a a setup (Ok k) first b
        (errands_all (alone a) (alone b) (Ok k) (next_stage node (inputs_verdict checked.program (a.named inputs)) (λ names t. Exactly (Ok (plan_of t))) a b table (Ok k) answered b
        (settles (alone b) k (plan_of table, refl, record { ground = subst (IsGroundOf checked setup node) (sym ground) settled.1; rows = rows }))))
