-- The C of a node, behind what was loaded.
use Rattle.std.proofs.Common.{◌≡◌, ℕ, Bool, List, [], None, Result, Ok, Err, refl, sym, ap, subst}
use Rattle.lt_base.specs.declared.memory.Or.{Or}
use Rattle.lt_base.specs.declared.memory.Or.TheVariants.{Fault, Memory}
use Rattle.lt_io.specs.Visits.{Errand}
use Rattle.lt_answer.specs.World.{World, Content}
use Rattle.lt_answer.specs.Answered.{Answered, Verdict, AndThen, Refuses}
use Rattle.lt_answer.specs.Rules.{Raised}
use Rattle.lt_answer.proofs.Stages.{goes_on, stops, errands_all}
use Rattle.lt_compile.specs.declared.site.Site.{Site}
use Rattle.lt_load_fit.specs.declared.fault.CommandFault.{CommandFault}
use Rattle.lt_load.specs.Blamed.{command_blame}
use Rattle.lt_load.proofs.Raising.{raised_value, raised_fault}
use Rattle.lt_load.proofs.Steps.{IsContent, untouched}
use Rattle.lt_emit.specs.declared.fault.EmitFault.{EmitFault}
use Rattle.lt_emit.specs.declared.fault.EmitFault.TheVariants.{Command, NoNode}
use Rattle.lt_emit.specs.Emitted.{EmitsAt, IsNoNodeFault, emitted_node_verdict, emit_blame, site_node}

node_content : (header : Bool) (node : List ℕ) (s : Site) → IsContent emit_blame (emitted_node_verdict header node s)
node_content header node s e right = ap emit_blame right.1

-- the name is that of no node; memory may be wanting to say so
pub no_node_right : (header : Bool) (node : List ℕ) (s : Site) (e : Or EmitFault) → None ≡ site_node s node → IsNoNodeFault node e → Refuses (emitted_node_verdict header node s) e
no_node_right header node s (Fault f) none is = (sym none, is)
no_node_right header node s Memory none is = tt

module _ (header : Bool) (node : List ℕ) (V : Verdict Site CommandFault) (a b : World) where
  abbrev pub emitted_after : Verdict (List ℕ) EmitFault
  emitted_after = AndThen (Raised (λ f. Command f) V) (λ s. emitted_node_verdict header node s)

  refused_as : {es : List Errand} (g : Or EmitFault) → Answered {T = Site} emit_blame es (Raised (λ f. Command f) V) a b (Err g) → Answered emit_blame es emitted_after a b (Err g)
  refused_as g first = errands_all a b (Err g) (stops {V = Raised (λ f. Command f) V} {next = λ s. emitted_node_verdict header node s} [] a b g first)

  pub emitted_by : {es : List Errand} (r : Result Site (Or CommandFault)) (q : Result (List ℕ) (Or EmitFault)) → Answered command_blame es V a b r → EmitsAt header node r q → Answered emit_blame es emitted_after a b q
  emitted_by (Ok s) q first right =
      errands_all a b q
      (goes_on {V = Raised (λ f. Command f) V} {next = λ s. emitted_node_verdict header node s} a b b s q (raised_value (λ f. Command f) command_blame emit_blame (λ f. refl) V a b s first) (untouched emit_blame (emitted_node_verdict header node s) b q (node_content header node s) right))
  emitted_by {es} (Err (Fault f)) q first is =
      subst (λ (r : Result (List ℕ) (Or EmitFault)). Answered emit_blame es emitted_after a b r) (sym is)
      (refused_as (Fault (Command f)) (raised_fault (λ f. Command f) command_blame emit_blame (λ f. refl) V a b (Fault f) (Fault (Command f)) refl first))
  emitted_by {es} (Err Memory) q first is =
      subst (λ (r : Result (List ℕ) (Or EmitFault)). Answered emit_blame es emitted_after a b r) (sym is)
      (refused_as Memory (raised_fault (λ f. Command f) command_blame emit_blame (λ f. refl) V a b Memory Memory tt first))
