-- Emitted files run as the laws of emitted nodes say.
use Rattle.std.proofs.Common.{◌≡◌, ◌⊎◌, inl, inr, ℕ, ◌<◌, ◌≤◌, List, [], length, refl, sym, ap, ◌∙◌, subst, arith, false}
use Rattle.std.proofs.lemmas.Bool.{cases_lt}
use Rattle.lt_base.specs.declared.value.Value.{Value}
use Rattle.lt_arch.specs.declared.pace.Pace.{Pace}
use Rattle.lt_arch.specs.declared.shape.Shape.{Shape}
use Rattle.lt_arch.specs.declared.timing.Timing.{Timing}
use Rattle.lt_arch.specs.Readers.{node_count}
use Rattle.lt_norm.specs.Flat.{Originated}
use Rattle.lt_place.specs.declared.layout.Layout.{Layout}
use Rattle.lt_net_replay.specs.Sound.{PlansAreSound, PlanIsSound}
use Rattle.lt_c_net.specs.Emitted.{NodeCode, IsEmittedNode}
use Rattle.lt_c_net.specs.Runs.{Deployment}
use Rattle.lt_c_net.specs.WholeRuns.{IsDeployed, EmittedRunIsWhole}
use Rattle.lt_c_node.specs.NodeOf.{IsEmitted}
use Rattle.lt_c_files.specs.FileNodes.{code_of_file}
use Rattle.lt_c_files.specs.Bodies.{bodies_of, text_by}
use Rattle.lt_c_files.specs.FileRuns.{RunsText, RunsTexts, PrintsRun, EmittedFilesRunWhole, TextsDeploy}
use Rattle.lt_c_files.proofs.Coded.{files_are_nodes}
use Rattle.lt_c_files.proofs.Printed.{files_print_trees}

module _ (plans : PlansAreSound) (f : Originated) (pace : Pace) (d : Deployment) (texts : ℕ → List ℕ) (is : RunsTexts f pace d texts) where
  sound : PlanIsSound d.layout d.shape d.timing (length d.inputs)
  sound = plans f d.layout d.shape d.timing (length d.inputs) is.placed (pace, is.paced) is.timed is.accepted

  coded : (n : ℕ) → n < node_count d.shape → IsEmittedNode d.layout d.shape n (d.nodes n)
  coded n lt =
      let r : RunsText d pace n (texts n) = is.texts_are n lt in
      let inside : n < length d.layout.nodes = let e = sound.fits.channels.nodes in omega (arith, e, lt) in
      subst (IsEmittedNode d.layout d.shape n) (sym r.code) (files_are_nodes f d.layout d.shape d.timing pace n r.emitted.file is.placed sound.fits.channels inside r.emitted.is_file)

  deployed : IsDeployed f pace d
  deployed = record { placed = is.placed; few = is.few; paced = is.paced; loses_nothing = is.loses_nothing; timed = is.timed; accepted = is.accepted; fit = is.fit; coded = coded }

  prints : (n : ℕ) → n < node_count d.shape → PrintsRun d pace n (texts n)
  prints n lt =
      let r : RunsText d pace n (texts n) = is.texts_are n lt in (
        r.emitted,
        r.emitted.is_text ∙ files_print_trees d.layout d.shape d.timing pace n r.emitted.file is.loses_nothing r.emitted.is_file
            ∙ ap (λ (node : NodeCode). text_by r.emitted.file (bodies_of r.emitted.file.part.decls d.layout d.timing n node)) (sym r.code),
      )

pub files_run_whole : PlansAreSound → EmittedRunIsWhole → EmittedFilesRunWhole
files_run_whole plans whole f pace d texts is = record {
  deployed = deployed plans f pace d texts is;
  print = prints plans f pace d texts is;
  shows = whole f pace d (deployed plans f pace d texts is);
}

-- ---- such a deployment

no_code : NodeCode
no_code = record { code = record { lets = []; keeps = []; outs = []; slots = 0; size = 0 }; ins = []; acks = []; sources = []; outputs = []; slots_for = λ j. [] }

module _ (l : Layout) (s : Shape) (t : Timing) (pace : Pace) (inputs : List (List Value)) (texts : ℕ → List ℕ) (emitted : (n : ℕ) → n < node_count s → IsEmitted l s t pace n false (texts n)) where
  code_by : (n : ℕ) → (n < node_count s) ⊎ (node_count s ≤ n) → NodeCode
  code_by n (inl lt) = code_of_file (emitted n lt).file
  code_by n (inr ge) = no_code

  deployment : Deployment
  deployment = record { layout = l; shape = s; timing = t; inputs = inputs; nodes = λ n. code_by n (cases_lt n (node_count s)) }

  found : (n : ℕ) (o : (n < node_count s) ⊎ (node_count s ≤ n)) → n < node_count s → (e : IsEmitted l s t pace n false (texts n)) × (code_by n o ≡ code_of_file e.file)
  unfolding code_by
  found n (inl lt) h = (emitted n lt, refl)
  found n (inr ge) h = absurd (omega (arith, ge, h))

  runs : (n : ℕ) → n < node_count s → RunsText deployment pace n (texts n)
  unfolding deployment
  runs n lt = let r = found n (cases_lt n (node_count s)) lt in record { emitted = r.0; code = r.1 }

pub texts_deploy : TextsDeploy
unfolding deployment
texts_deploy l s t pace inputs texts emitted =
    (deployment l s t pace inputs texts emitted, refl, refl, refl, refl, runs l s t pace inputs texts emitted)
