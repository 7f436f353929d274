-- The names of an emitted file that other files see.
use Rattle.std.specs.Prelude.{◌≡◌, ℕ, ◌++◌, List, codes}

-- what has such a name: functions, types, what an activation did, and for another node, by its name, functions and types of messages
pub data External : Type 0 where
  of_init : External
  of_activate : External
  of_deed : External
  of_nothing : External
  of_execute : External
  of_send : External
  of_inputs : External
  of_outputs : External
  of_answer : External
  of_deliver : List ℕ → External
  of_acknowledge : List ℕ → External
  of_message : List ℕ → External
  of_got : List ℕ → External
  of_sent : List ℕ → External

-- its name behind what begins the names of the node
abbrev pub external_ending : External → List ℕ
external_ending of_init = codes "_init"
external_ending of_activate = codes "_activate"
external_ending of_deed = codes "_deed"
external_ending of_nothing = codes "_did_nothing"
external_ending of_execute = codes "_did_execute"
external_ending of_send = codes "_did_send"
external_ending of_inputs = codes "_inputs"
external_ending of_outputs = codes "_outputs"
external_ending of_answer = codes "_acknowledgement"
external_ending (of_deliver n) = codes "_deliver_" ++ n
external_ending (of_acknowledge n) = codes "_acknowledge_" ++ n
external_ending (of_message n) = codes "_message_" ++ n
external_ending (of_got n) = codes "_from_" ++ n
external_ending (of_sent n) = codes "_to_" ++ n

abbrev pub external_name : (t : List ℕ) → External → List ℕ
external_name t e = t ++ external_ending e

-- what has one name in a file is one: so all names in it differ
abbrev pub FileNamesDiffer : Type 0
FileNamesDiffer = (t : List ℕ) (a b : External) → external_name t a ≡ external_name t b → a ≡ b
