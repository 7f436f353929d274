-- A step on files of which none fails, as one that needs none.
use Rattle.std.proofs.Common.{◌≡◌, ◌<◌, List, Result, Ok, Err, IsTrue, sym, ◌∙◌, arith}
use Rattle.lt_base.specs.declared.memory.Or.{Or}
use Rattle.lt_base.specs.declared.memory.Or.TheVariants.{Fault, Memory}
use Rattle.lt_io.specs.Visits.{Errand}
use Rattle.lt_io.specs.FilesState.{FilesState}
use Rattle.lt_answer.specs.World.{IsCalm, Blame, Content, Reading, Linking, Blames, alone}
use Rattle.lt_answer.specs.Answered.{Answered, Verdict, Settles, RefusesReading}
use Rattle.lt_load_fit.specs.declared.fault.CommandFault.{CommandFault}
use Rattle.lt_load.specs.Blamed.{command_blame}
use Rattle.lt_load.proofs.Steps.{IsContent}

module _ {T : Type 0} (V : Verdict T CommandFault) (content : IsContent command_blame V) where
  -- no fault of the files is right
  not_reading : RefusesReading command_blame V → ⊥
  not_reading (e, is, right) = let wrong : Content ≡ Reading = sym (content e right) ∙ is in cc

  -- a step that needs no fabric

  blamed_right : (a b : FilesState) (e : CommandFault) (whose : Blame) → IsTrue a.told → IsTrue a.sound → Blames (alone a) (alone b) whose → (IsCalm (alone a) (alone b) → V (Err e)) → (a.faults < b.faults → RefusesReading command_blame V) → V (Err e)
  blamed_right a b e Content told sound blamed exact reads = exact blamed
  blamed_right a b e Reading told sound blamed exact reads = absurd (not_reading (reads blamed.0))
  blamed_right a b e Linking told sound blamed exact reads = absurd (omega (arith, blamed.1))

  pub settles_held : {es : List Errand} (a b : FilesState) (r : Result T (Or CommandFault)) → IsTrue a.told → IsTrue a.sound → Answered command_blame es V (alone a) (alone b) r → Settles V r
  settles_held a b (Ok x) told sound answered = answered.exact told answered.cause
  settles_held a b (Err (Fault e)) told sound answered = blamed_right a b e (command_blame e) told sound answered.cause (λ calm. answered.exact told calm) (λ rose. answered.sound told sound rose)
  settles_held a b (Err Memory) told sound answered = tt
