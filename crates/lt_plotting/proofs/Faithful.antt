-- A step over files and a fabric whose count never rises, as a step over the files alone.
use Rattle.std.proofs.Common.{◌≡◌, List, Result, Ok, Err, MatchResult, IsTrue, refl, arith}
use Rattle.lt_base.specs.declared.memory.Or.{Or}
use Rattle.lt_base.specs.declared.memory.Or.TheVariants.{Fault, Memory}
use Rattle.lt_io.specs.FabricState.{FabricState}
use Rattle.lt_io.specs.FilesState.{FilesState}
use Rattle.lt_io.specs.Visits.{Errand}
use Rattle.lt_answer.specs.World.{Blame, Content, Reading, Linking, Blames, IsCalm, alone, world}
use Rattle.lt_answer.specs.Answered.{Answered, OrBlames, Verdict}
use Rattle.lt_answer.proofs.Stages.{keeps_itself, settles_too}

module _ (a b : FilesState) (v w : FabricState) (still : w.faults ≡ v.faults) where
  blames_apart : (whose : Blame) → Blames (world a v) (world b w) whose → Blames (alone a) (alone b) whose
  blames_apart Content blamed = record { files = blamed.files; fabric = refl }
  blames_apart Reading blamed = (blamed.0, refl)
  blames_apart Linking blamed = absurd (omega (arith, blamed.1, still))

  cause_apart : {T E : Type 0} (blame : E → Blame) (r : Result T (Or E)) → MatchResult r (λ _. IsCalm (world a v) (world b w)) (OrBlames blame (world a v) (world b w)) → MatchResult r (λ _. IsCalm (alone a) (alone b)) (OrBlames blame (alone a) (alone b))
  cause_apart blame (Ok x) cause = record { files = cause.files; fabric = refl }
  cause_apart blame (Err (Fault e)) cause = blames_apart (blame e) cause
  cause_apart blame (Err Memory) cause = record { files = cause.files; fabric = refl }

-- what is right of it is right of a wider verdict over the files
pub apart : {T E : Type 0} {es : List Errand} (blame : E → Blame) (V W : Verdict T E) (a b : FilesState) (v w : FabricState) (r : Result T (Or E)) → IsTrue v.sound → ((o : Result T E) → V o → W o)
    → Answered blame es V (world a v) (world b w) r → Answered blame es W (alone a) (alone b) r
apart blame V W a b v w r sound wider answered =
    let still : w.faults ≡ v.faults = answered.keeps.steady sound in
    record {
      keeps = record { files = answered.keeps.files; fabric = (keeps_itself (alone a)).fabric; steady = λ s. refl };
      visits = answered.visits;
      cause = cause_apart a b v w still blame r answered.cause;
      exact = λ told calm. settles_too V W wider r (answered.exact told (record { files = calm.files; fabric = still }));
      sound = λ told s rose. let reading = answered.sound told s rose in (reading.0, reading.1, wider (Err reading.0) reading.2);
    }
