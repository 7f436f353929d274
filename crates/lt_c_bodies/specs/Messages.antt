-- The functions of a node for the transport of its messages.
use Rattle.std.specs.Prelude.{ℕ, zero, suc, ◌++◌, List, [], ◌∷◌, codes, length}
use Rattle.std.specs.List.{flat_map}
use Rattle.lt_c.specs.Tree.{slot, sent, message_bit, message, sendings, newest, answered, message_number, answer_number, posted, c_var, c_join, o_lt, Statement, assign, branch, both, nothing}
use Rattle.lt_c.specs.Text.{statement_text}
use Rattle.lt_c_control.specs.Inboxes.{taking, delivering, acknowledging}
use Rattle.lt_c_heads.specs.declared.file.Carried.{Carried}
use Rattle.lt_c_heads.specs.declared.file.Peer.{Peer}
use Rattle.lt_c_heads.specs.declared.file.Regime.{Regime}
use Rattle.lt_c_heads.specs.declared.file.Regime.TheVariants.{Pressing, Counting, Losing}
use Rattle.lt_c_heads.specs.declared.file.NodeFile.{NodeFile}
use Rattle.lt_c_heads.specs.Words.{spelling, indent}
use Rattle.lt_c_heads.specs.Heads.{deliver_head, acknowledge_head, message_head, answer_head}

-- where links lose messages one is put into its inbox only if it is newer than the one there
abbrev pub delivering_newer : (j count : ℕ) → Statement
delivering_newer j n = branch (c_join o_lt (c_var (newest j)) (c_var message_number)) (both (assign (newest j) (c_var message_number)) (taking j n)) nothing

abbrev pub acknowledging_newer : (j : ℕ) → Statement
acknowledging_newer j = branch (c_join o_lt (c_var (answered j)) (c_var answer_number)) (assign (answered j) (c_var answer_number)) nothing

-- a message of so many values has come from node j
abbrev pub delivering_by : Regime → (j count : ℕ) → Statement
delivering_by Pressing j n = delivering j n
delivering_by (Counting t) j n = delivering j n
delivering_by Losing j n = delivering_newer j n

-- an acknowledgement has come from node j
abbrev pub acknowledging_by : Regime → (j : ℕ) → Statement
acknowledging_by Pressing j = acknowledging j
acknowledging_by (Counting t) j = acknowledging j
acknowledging_by Losing j = acknowledging_newer j

-- the values of a message are those of slots, from place k on; or those that were sent last
abbrev pub giving : (k : ℕ) → List Carried → Statement
giving k [] = nothing
giving k (v ∷ vs) = both (assign (message k) (c_var (slot v.from_slot))) (giving (suc k) vs)

abbrev pub giving_again : (j count : ℕ) → Statement
giving_again j zero = nothing
giving_again j (suc k) = both (giving_again j k) (assign (message k) (c_var (posted j k)))

-- the message to a node
abbrev pub messaging : Regime → Peer → Statement
messaging Pressing p = both (assign message_bit (c_var sent)) (giving 0 p.values)
messaging (Counting t) p = both (assign message_bit (c_var sent)) (giving 0 p.values)
messaging Losing p = both (assign message_number (c_var sendings)) (giving_again p.number (length p.values))

-- a function of these statements
abbrev pub function_text : NodeFile → (head : List ℕ) → Statement → List ℕ
function_text f h s = (codes "\n" ++ (h ++ codes "\n{\n")) ++ (statement_text (spelling f) indent s ++ codes "}\n")

abbrev pub deliver_text : (t : List ℕ) → NodeFile → Peer → List ℕ
deliver_text t f p = function_text f (deliver_head t f.names p) (delivering_by f.regime p.number (length p.values))

abbrev pub acknowledge_text : (t : List ℕ) → NodeFile → ℕ → List ℕ
acknowledge_text t f j = function_text f (acknowledge_head t f.regime f.names j) (acknowledging_by f.regime j)

abbrev pub message_text : (t : List ℕ) → NodeFile → Peer → List ℕ
message_text t f p = function_text f (message_head t f.names p) (messaging f.regime p)

-- the acknowledgement to each node whose data comes
abbrev pub answer_text : (t : List ℕ) → Regime → List ℕ
answer_text t Pressing = codes "\n" ++ (answer_head t Pressing ++ codes "\n{\n    return executed;\n}\n")
answer_text t (Counting n) = []
answer_text t Losing = codes "\n" ++ (answer_head t Losing ++ codes "\n{\n    return executions;\n}\n")

-- all of them
abbrev pub transport_text : (t : List ℕ) → NodeFile → List ℕ
transport_text t f =
    flat_map (deliver_text t f) f.links.senders ++ (flat_map (acknowledge_text t f) f.links.answerers ++ (flat_map (message_text t f) f.links.receivers ++ answer_text t f.regime))
