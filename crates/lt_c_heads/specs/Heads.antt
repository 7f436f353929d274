-- The functions that an emitted file defines, up to their bodies. In all of them t is what begins the node's names.
use Rattle.std.specs.Prelude.{ℕ, ◌++◌, List, [], codes}
use Rattle.std.specs.List.{flat_map}
use Rattle.lt_c.specs.Spelled.{node_at}
use Rattle.lt_c_step.specs.declared.sources.Source.{Source}
use Rattle.lt_c_step.specs.declared.sources.Output.{Output}
use Rattle.lt_c_heads.specs.declared.file.Peer.{Peer}
use Rattle.lt_c_heads.specs.declared.file.Regime.{Regime}
use Rattle.lt_c_heads.specs.declared.file.Regime.TheVariants.{Pressing, Counting, Losing}
use Rattle.lt_c_heads.specs.declared.file.NodeFile.{NodeFile}
use Rattle.lt_c_heads.specs.Words.{text_if}
use Rattle.lt_c_heads.specs.Types.{has_inputs, has_items}

abbrev pub init_head : (t : List ℕ) → List ℕ
init_head t = codes "void " ++ (t ++ codes "_init(void)")

-- what an activation gets: where there are inputs also these, and where there are outputs where to put them
abbrev pub inputs_parameter : (t : List ℕ) → List Source → List ℕ
inputs_parameter t ss = text_if (has_inputs ss) (codes ", const " ++ (t ++ codes "_inputs *inputs"))

abbrev pub outputs_parameter : (t : List ℕ) → List Output → List ℕ
outputs_parameter t os = text_if (has_items os) (codes ", " ++ (t ++ codes "_outputs *outputs"))

abbrev pub activate_head : (t : List ℕ) → NodeFile → List ℕ
activate_head t f =
    (t ++ (codes "_deed " ++ (t ++ codes "_activate(bool has_inputs"))) ++ (inputs_parameter t f.part.sources ++ (outputs_parameter t f.part.outputs ++ codes ")"))

-- a message has come from a node
abbrev pub deliver_head : (t : List ℕ) → List (List ℕ) → Peer → List ℕ
deliver_head t ns p =
    (codes "void " ++ (t ++ (codes "_deliver_" ++ node_at ns p.number))) ++ ((codes "(const " ++ (t ++ codes "_from_")) ++ (node_at ns p.number ++ codes " *message)"))

-- an acknowledgement has come from it
abbrev pub answer_parameter : Regime → List ℕ
answer_parameter Pressing = codes "(bool bit)"
answer_parameter (Counting n) = codes "(bool bit)"
answer_parameter Losing = codes "(int64_t number)"

abbrev pub acknowledge_head : (t : List ℕ) → Regime → List (List ℕ) → ℕ → List ℕ
acknowledge_head t r ns j = (codes "void " ++ (t ++ codes "_acknowledge_")) ++ (node_at ns j ++ answer_parameter r)

-- what is to be sent to a node
abbrev pub message_head : (t : List ℕ) → List (List ℕ) → Peer → List ℕ
message_head t ns p =
    (codes "void " ++ (t ++ (codes "_message_" ++ node_at ns p.number))) ++ ((codes "(" ++ (t ++ codes "_to_")) ++ (node_at ns p.number ++ codes " *message)"))

-- what is to be sent to each node whose data comes, where they are acknowledged
abbrev pub answer_head : (t : List ℕ) → Regime → List ℕ
answer_head t Pressing = codes "bool " ++ (t ++ codes "_acknowledgement(void)")
answer_head t (Counting n) = []
answer_head t Losing = codes "int64_t " ++ (t ++ codes "_acknowledgement(void)")

-- all of them are declared before they are defined
abbrev pub as_prototype : List ℕ → List ℕ
as_prototype h = h ++ codes ";\n"

abbrev pub answer_prototype : (t : List ℕ) → Regime → List ℕ
answer_prototype t Pressing = as_prototype (answer_head t Pressing)
answer_prototype t (Counting n) = []
answer_prototype t Losing = as_prototype (answer_head t Losing)

abbrev pub prototypes_text : (t : List ℕ) → NodeFile → List ℕ
prototypes_text t f =
    (codes "\n" ++ (as_prototype (init_head t) ++ as_prototype (activate_head t f)))
    ++ (flat_map (λ p. as_prototype (deliver_head t f.names p)) f.links.senders
    ++ (flat_map (λ j. as_prototype (acknowledge_head t f.regime f.names j)) f.links.answerers
    ++ (flat_map (λ p. as_prototype (message_head t f.names p)) f.links.receivers ++ answer_prototype t f.regime)))
