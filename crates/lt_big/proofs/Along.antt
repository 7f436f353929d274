-- What was loaded, along the list of events that is drawn for it.
use Rattle.std.proofs.Common.{◌≡◌, ◌<◌, ◌≤◌, ℕ, List, [], length, Some, Result, Ok, Err, IsTrue, refl, sym, ◌∙◌, ap, subst, arith}
use Rattle.std.specs.Prelude.{IsErrAnd}
use Rattle.lt_base.specs.declared.memory.Or.{Or}
use Rattle.lt_base.specs.declared.memory.Or.TheVariants.{Fault, Memory}
use Rattle.lt_base.specs.Inputs.{InputTable}
use Rattle.lt_arch.specs.declared.event.Event.{Event}
use Rattle.lt_arch.specs.declared.timing.Timing.{Timing}
use Rattle.lt_io.specs.FabricState.{FabricState, KeepsPromises}
use Rattle.lt_io.specs.FilesState.{FilesState}
use Rattle.lt_io.specs.declared.fault.LinkErr.TheVariants as link
use Rattle.lt_io.specs.declared.fault.LinkErr.TheVariants.{Failed}
use Rattle.lt_io.proofs.Visiting.{visited_none}
use Rattle.lt_answer.specs.World.{Blames, KeepsWorld, world}
use Rattle.lt_answer.specs.Answered.{Settles}
use Rattle.lt_answer.proofs.Stages.{calm_itself, refuses, runs_short_by, settles}
use Rattle.lt_arch.specs.declared.pace.Pace.{Pace}
use Rattle.lt_arch.specs.Schedule.{EndsAt}
use Rattle.lt_lead.specs.Paced.{IsShapeBy}
use Rattle.lt_front.specs.Examined.{ExaminedText}
use Rattle.lt_rows.specs.Limits.{most_events}
use Rattle.lt_load_fit.specs.declared.fault.CommandFault.{CommandFault}
use Rattle.lt_load_fit.specs.declared.fault.CommandFault.TheVariants as fault
use Rattle.lt_load_fit.specs.Rows.{too_many_events}
use Rattle.lt_load.specs.Blamed.{command_blame}
use Rattle.lt_load.specs.Plan.{Plan, LoadedPlan, IsLoaded, IsLoadedFrom, Loads}
use Rattle.lt_net_replay.specs.Sound.{PlansAreSound}
use Rattle.lt_sim.proofs.Ending.{drawn-sound}
use Rattle.lt_arch.specs.declared.limits.TheConstants.{GREATEST_TIME}
use Rattle.lt_load.proofs.Onward.{not_loaded, then_loaded}
use Rattle.lt_load.proofs.Steps.{untouched}
use Rattle.lt_evaluate.specs.declared.outputs.Outputs.{Outputs}
use Rattle.lt_run.specs.Drawn.{HasRunList}
use Rattle.lt_run.specs.Run.{IsLaidOutBy}
use Rattle.lt_big_texts.specs.Texts.{horizon_of}
use Rattle.lt_big.specs.Big.{events_of, played_verdict, big_loaded_verdict, big_along_verdict, big_verdict}
use Rattle.lt_big.specs.Stage.{AnsweredAlone, along_list}
use Rattle.lt_big.proofs.Contents.{loaded_content}
use Rattle.lt_big.proofs.Drawn.{loaded_sound}

one_horizon : (h g : ℕ) → Some h ≡ Some g → h ≡ g
one_horizon h g is = cc is

-- the list of what was loaded ends at the horizon
pub ends_there : (k j : LoadedPlan) → k ≡ j → IsLoaded k → PlansAreSound → (instants horizon : ℕ) → horizon ≡ horizon_of instants → horizon ≤ GREATEST_TIME →
    EndsAt j.shape j.timing (length j.inputs.rows) (events_of instants j.shape j.timing (length j.inputs.rows)) (horizon_of instants)
ends_there k j view kept sound instants horizon until near =
    subst (λ (q : LoadedPlan). EndsAt q.shape q.timing (length q.inputs.rows) (events_of instants q.shape q.timing (length q.inputs.rows)) (horizon_of instants)) view
    (drawn-sound k.shape k.timing (length k.inputs.rows) instants (horizon_of instants) (loaded_sound k kept sound).one_place (subst (λ (h : ℕ). h ≤ GREATEST_TIME) until near)).ends

module _ (instants : ℕ) (k : LoadedPlan) where
  abbrev events : List Event
  events = events_of instants k.shape k.timing (length k.inputs.rows)

  -- the network took the list to its end

  module _ (w w' : FabricState) where
    keeps_alone : KeepsPromises w w' → (IsTrue w.sound → w'.faults ≡ w.faults) → (files : FilesState) → KeepsWorld (world files w) (world files w')
    keeps_alone keeps steady files = record { files = record { sound = refl; told = refl; named = refl }; fabric = keeps; steady = steady }

    pub taken_along : length events ≤ most_events → EndsAt k.shape k.timing (length k.inputs.rows) events (horizon_of instants) → (x : Outputs) → HasRunList k events w w' (Ok x) → AnsweredAlone (along_list instants w' k) w w' (Ok x)
    taken_along few ends x run files = record {
      keeps = keeps_alone run.keeps run.sound files;
      visits = visited_none files.visits _;
      cause = record { files = refl; fabric = run.cause };
      exact = λ told calm. record { few = few; shows = run.comes_to; at_horizon = one_horizon run.comes_to.horizon (horizon_of instants) (sym run.comes_to.told.run.ends ∙ ends) };
      sound = λ told sound rose. absurd (omega (arith, rose));
    }

    -- a call on the fabric failed, or memory was wanting
    pub link_along : HasRunList k events w w' (Err Failed) → AnsweredAlone (along_list instants w' k) w w' (Err (Fault fault.Link))
    link_along run files = record {
      keeps = keeps_alone run.keeps run.sound files;
      visits = visited_none files.visits _;
      cause = (refl, run.cause);
      exact = λ told calm. absurd (let same = calm.fabric in let rose = run.cause in omega (arith, rose, same));
      sound = λ told sound rose. absurd (omega (arith, rose));
    }

    pub memory_along : HasRunList k events w w' (Err link.Memory) → AnsweredAlone (along_list instants w' k) w w' (Err Memory)
    memory_along run files = record {
      keeps = keeps_alone run.keeps run.sound files;
      visits = visited_none files.visits _;
      cause = record { files = refl; fabric = run.cause };
      exact = λ told calm. tt;
      sound = λ told sound rose. absurd (omega (arith, rose));
    }

  -- the list has too many events
  pub refused_along : (w : FabricState) (e : CommandFault) → most_events < length events → e ≡ too_many_events → AnsweredAlone (along_list instants w k) w w (Err (Fault e))
  refused_along w e many is files = refuses (world files w) e (subst (Blames (world files w) (world files w)) (sym (ap command_blame is)) (calm_itself (world files w))) (many, is)

  -- no memory was found to count its events
  pub uncounted : (w : FabricState) (r : Result Outputs (Or CommandFault)) → IsErrAnd r (λ f. f ≡ Memory) → AnsweredAlone (along_list instants w k) w w r
  uncounted w r is files = runs_short_by (world files w) r is

  -- so it is of whatever plan it was loaded from
  plan_along : (fabric : FabricState) (p : Plan) → IsLoadedFrom p k → (o : Result Outputs CommandFault) → along_list instants fabric k o → big_along_verdict instants fabric p o
  unfolding big_along_verdict
  plan_along fabric p from o right =
      let laid : IsLaidOutBy p k.layout k.shape = record { layout = from.layout; shape = subst (λ (t : Pace). IsShapeBy k.layout t p.setup.timing k.shape) from.pace (subst (λ (t : Timing). IsShapeBy k.layout k.pace t k.shape) from.timing from.shape) } in
      let timed = subst (λ (t : Timing). played_verdict instants fabric k.checked.program k.layout k.shape t k.inputs.rows o) from.timing right in
      let fed = subst (λ (t : InputTable). played_verdict instants fabric k.checked.program k.layout k.shape p.setup.timing t.rows o) from.inputs timed in
      let told = subst (λ (x : ExaminedText). played_verdict instants fabric x.program k.layout k.shape p.setup.timing p.inputs.rows o) from.checked fed in
      (k.layout, k.shape, laid, told)

  -- it was loaded, and then run
  pub big_run : (w w' : FabricState) (r : Result Outputs (Or CommandFault)) → Loads (big_loaded_verdict instants) (Ok k) → AnsweredAlone (along_list instants w' k) w w' r → AnsweredAlone (big_verdict instants w') w w' r
  unfolding big_verdict
  big_run w w' r loaded answered files =
      then_loaded (big_loaded_verdict instants) (λ plan. big_along_verdict instants w' plan) (world files w) (world files w) (world files w') k r (along_list instants w' k) (plan_along w')
      (settles (world files w) k loaded) (answered files)

-- it was not loaded
pub big_refused : (instants : ℕ) (w : FabricState) (e : Or CommandFault) (r : Result Outputs (Or CommandFault)) → IsErrAnd r (λ f. f ≡ e) → Settles {T = LoadedPlan} (Loads (big_loaded_verdict instants)) (Err e) → AnsweredAlone (big_verdict instants w) w w r
unfolding big_verdict
big_refused instants w e r is right files =
    not_loaded (big_loaded_verdict instants) (λ plan. big_along_verdict instants w plan) [] (world files w) (world files w) e r is
    (untouched command_blame (Loads (big_loaded_verdict instants)) (world files w) (Err e) (loaded_content instants) right)
