-- A step's answer as that of the step around it.
use Rattle.std.proofs.Common.{◌≡◌, ◌∙◌, List, Ok, Err, refl, sym, ap, subst}
use Rattle.lt_base.specs.Or.{MapsFault}
use Rattle.lt_base.specs.declared.memory.Or.{Or}
use Rattle.lt_base.specs.declared.memory.Or.TheVariants.{Fault, Memory}
use Rattle.lt_io.specs.Visits.{Errand}
use Rattle.lt_answer.specs.World.{World, Blame, Blames}
use Rattle.lt_answer.specs.Answered.{Answered, Verdict, RefusesReading}
use Rattle.lt_answer.specs.Rules.{Raised}

module _ {T E G : Type 0} (raise : E → G) (blame : E → Blame) (outer : G → Blame) (same : (e : E) → outer (raise e) ≡ blame e) (V : Verdict T E) (a b : World) where
  reads : RefusesReading blame V → RefusesReading outer (Raised raise V)
  reads reading = (raise reading.0, same reading.0 ∙ reading.1, (reading.0, reading.2, refl))

  pub raised_value : {es : List Errand} (x : T) → Answered blame es V a b (Ok x) → Answered outer es (Raised raise V) a b (Ok x)
  raised_value x answered = record {
    keeps = answered.keeps;
    visits = answered.visits;
    cause = answered.cause;
    exact = λ told calm. answered.exact told calm;
    sound = λ told sound rose. reads (answered.sound told sound rose);
  }

  pub raised_fault : {es : List Errand} (e : Or E) (e' : Or G) → MapsFault e e' (λ f g. g ≡ raise f) → Answered blame es V a b (Err e) → Answered outer es (Raised raise V) a b (Err e')
  raised_fault (Fault f) (Fault g) is answered = record {
    keeps = answered.keeps;
    visits = answered.visits;
    cause = subst (Blames a b) (sym (ap outer is ∙ same f)) answered.cause;
    exact = λ told calm. (f, answered.exact told calm, is);
    sound = λ told sound rose. reads (answered.sound told sound rose);
  }
  raised_fault (Fault f) Memory is answered = absurd is
  raised_fault Memory (Fault g) is answered = absurd is
  raised_fault Memory Memory is answered = record {
    keeps = answered.keeps;
    visits = answered.visits;
    cause = answered.cause;
    exact = λ told calm. tt;
    sound = λ told sound rose. reads (answered.sound told sound rose);
  }
