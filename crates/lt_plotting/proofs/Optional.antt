-- A step that is made where a file is named.
use Rattle.std.proofs.Common.{◌≡◌, ℕ, List, Option, Some, None, Ok, Err, refl, ap}
use Rattle.lt_base.specs.declared.memory.Or.{Or}
use Rattle.lt_base.specs.declared.memory.Or.TheVariants.{Fault, Memory}
use Rattle.lt_io.specs.Visits.{Errand}
use Rattle.lt_answer.specs.World.{World, Blame}
use Rattle.lt_answer.specs.Answered.{Answered, Verdict}
use Rattle.lt_answer.proofs.Decided.{HasOneKind, HasOneOutcome}
use Rattle.lt_plotting.specs.Plotted.{Optional, optional_errand}

module _ {T E : Type 0} (blame : E → Blame) (errand : List ℕ → List Errand) (V : List ℕ → Verdict T E) (a b : World) (name : List ℕ) where
  -- it gives its value
  pub named_value : (x : T) → Answered blame (errand name) (V name) a b (Ok x) → Answered blame (optional_errand errand (Some name)) (Optional (Some name) V) a b (Ok (Some x))
  named_value x answered = record { keeps = answered.keeps; visits = answered.visits; cause = answered.cause; exact = λ told calm. answered.exact told calm; sound = λ told sound rose. answered.sound told sound rose }

  -- it is refused
  pub named_fault : (e : Or E) → Answered {T = T} blame (errand name) (V name) a b (Err e) → Answered {T = Option T} blame (optional_errand errand (Some name)) (Optional (Some name) V) a b (Err e)
  named_fault (Fault f) answered = record { keeps = answered.keeps; visits = answered.visits; cause = answered.cause; exact = λ told calm. answered.exact told calm; sound = λ told sound rose. answered.sound told sound rose }
  named_fault Memory answered = record { keeps = answered.keeps; visits = answered.visits; cause = answered.cause; exact = λ told calm. tt; sound = λ told sound rose. answered.sound told sound rose }

-- it leaves one refusal, up to its kind, where the step does

module _ {T E K : Type 0} (kind : E → K) (V : List ℕ → Verdict T E) where
  both : (name : List ℕ) → HasOneKind kind (V name) → (e : E) (x : Option T) → Optional (Some name) V (Err e) → Optional (Some name) V (Ok x) → ⊥
  both name one e None p q = q
  both name one e (Some x) p q = one.not_both e x p q

  pub optional_kind : (word : Option (List ℕ)) → ((name : List ℕ) → HasOneKind kind (V name)) → HasOneKind kind (Optional word V)
  optional_kind None one = record { one_kind = λ e f p q. absurd p; not_both = λ e x p q. absurd p }
  optional_kind (Some name) one = record { one_kind = λ e f p q. (one name).one_kind e f p q; not_both = both name (one name) }

  no_value : (x y : Option T) → Optional None V (Ok x) → Optional None V (Ok y) → x ≡ y
  no_value None None p q = refl
  no_value None (Some y) p q = absurd q
  no_value (Some x) y p q = absurd p

  some_value : (name : List ℕ) → HasOneOutcome kind (V name) → (x y : Option T) → Optional (Some name) V (Ok x) → Optional (Some name) V (Ok y) → x ≡ y
  some_value name one None y p q = absurd p
  some_value name one (Some x) None p q = absurd q
  some_value name one (Some x) (Some y) p q = ap (λ z. Some z) (one.one_value x y p q)

  pub optional_one : (word : Option (List ℕ)) → ((name : List ℕ) → HasOneOutcome kind (V name)) → HasOneOutcome kind (Optional word V)
  optional_one None one = record { faults = optional_kind None (λ name. (one name).faults); one_value = no_value }
  optional_one (Some name) one = record { faults = optional_kind (Some name) (λ name. (one name).faults); one_value = some_value name (one name) }
