-- A program that is loaded, and its flat form.
use Rattle.std.proofs.Common.{List, Ok, Err}
use Rattle.lt_base.specs.declared.memory.Or.{Or}
use Rattle.lt_base.specs.declared.memory.Or.TheVariants.{Fault, Memory}
use Rattle.lt_io.specs.Visits.{Errand}
use Rattle.lt_answer.specs.World.{World}
use Rattle.lt_answer.specs.Answered.{Answered, Verdict}
use Rattle.lt_front.specs.Checked.{CheckedText, examined_part}
use Rattle.lt_front.specs.Examined.{ExaminedText}
use Rattle.lt_load_fit.specs.declared.fault.CommandFault.{CommandFault}
use Rattle.lt_load.specs.Blamed.{command_blame}
use Rattle.lt_load.specs.Loaded.{Flattened}

module _ {es : List Errand} (V : Verdict ExaminedText CommandFault) (a b : World) where
  -- the program without its flat form

  pub flat_value : (k : CheckedText) → Answered command_blame es (Flattened V) a b (Ok k) → Answered command_blame es V a b (Ok (examined_part k))
  flat_value k first = record { keeps = first.keeps; visits = first.visits; cause = first.cause; exact = λ told calm. first.exact told calm; sound = λ told sound rose. first.sound told sound rose }

  pub flat_fault : (e : Or CommandFault) → Answered {T = CheckedText} command_blame es (Flattened V) a b (Err e) → Answered {T = ExaminedText} command_blame es V a b (Err e)
  flat_fault (Fault e) first = record { keeps = first.keeps; visits = first.visits; cause = first.cause; exact = λ told calm. first.exact told calm; sound = λ told sound rose. first.sound told sound rose }
  flat_fault Memory first = record { keeps = first.keeps; visits = first.visits; cause = first.cause; exact = λ told calm. tt; sound = λ told sound rose. first.sound told sound rose }
