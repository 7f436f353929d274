-- An activation of a node.
use Rattle.std.specs.Prelude.{ℕ, ◌++◌, List, codes, map}
use Rattle.std.specs.List.{flat_map}
use Rattle.lt_c.specs.Tree.{Statement, nothing, perform}
use Rattle.lt_c.specs.Text.{statement_text}
use Rattle.lt_c.specs.Uses.{calls_and, statement_calls}
use Rattle.lt_c.specs.declared.calls.Calls.{Calls}
use Rattle.lt_c_step.specs.Translate.{of_lets, of_keeps}
use Rattle.lt_c_control.specs.declared.posts.Post.{Post}
use Rattle.lt_c_control.specs.Control.{pressure, counting}
use Rattle.lt_c_control.specs.Lossy.{losing}
use Rattle.lt_c_heads.specs.declared.file.Carried.{Carried}
use Rattle.lt_c_heads.specs.declared.file.Peer.{Peer}
use Rattle.lt_c_heads.specs.declared.file.Regime.{Regime}
use Rattle.lt_c_heads.specs.declared.file.Regime.TheVariants.{Pressing, Counting, Losing}
use Rattle.lt_c_heads.specs.declared.file.NodeFile.{NodeFile}
use Rattle.lt_c_heads.specs.Words.{made_from, text_if, spelling, indent}
use Rattle.lt_c_heads.specs.Types.{has_inputs, has_items}
use Rattle.lt_c_heads.specs.Heads.{activate_head}

-- the numbers of nodes
abbrev pub peer_numbers : List Peer → List ℕ
peer_numbers ps = map (λ p. p.number) ps

-- the values that are sent again: those of each message, in order
abbrev pub post_of : (j k : ℕ) → Carried → Post
post_of j k v = record { to_node = j; at_place = k; from_slot = v.from_slot }

abbrev pub posts_to : Peer → List Post
posts_to p = made_from (post_of p.number) 0 p.values

abbrev pub posts_of : List Peer → List Post
posts_of ps = flat_map posts_to ps

-- what an activation does by the controller, where the step of the part is this statement
abbrev pub acting : Regime → (ins acks : List ℕ) → List Post → Statement → Statement
acting Pressing ins acks ps run = pressure ins acks run
acting (Counting n) ins acks ps run = counting n.send n.execute ins run
acting Losing ins acks ps run = losing ins acks ps run

abbrev pub activation : NodeFile → Statement → Statement
activation f run = acting f.regime (peer_numbers f.links.senders) f.links.answerers (posts_of f.links.receivers) (perform run)

-- which functions at the head the file calls
abbrev pub file_calls : NodeFile → Calls
file_calls f = calls_and (statement_calls (of_lets f.part.code.lets)) (calls_and (statement_calls (of_keeps f.part.code.keeps)) (statement_calls (activation f nothing)))

-- where the inputs stand, and where the outputs go
abbrev pub pointing_text : NodeFile → List ℕ
pointing_text f = text_if (has_inputs f.part.sources) (codes "    in = inputs;\n") ++ text_if (has_items f.part.outputs) (codes "    out = outputs;\n")

-- what it gets is put where its statements find it
abbrev pub placing_text : NodeFile → List ℕ
placing_text f = codes "    more = has_inputs;\n" ++ pointing_text f

-- what it tells: by its number a deed under its name
abbrev pub deed_case_text : (t number name : List ℕ) → List ℕ
deed_case_text t number name = (codes "    if (did == INT64_C(" ++ (number ++ codes ")) {\n        deed = ")) ++ (t ++ (name ++ codes ";\n    }\n"))

abbrev pub deed_text : (t : List ℕ) → List ℕ
deed_text t =
    (codes "    " ++ (t ++ (codes "_deed deed = " ++ t)))
    ++ (codes "_did_nothing;\n" ++ (deed_case_text t (codes "1") (codes "_did_execute") ++ (deed_case_text t (codes "2") (codes "_did_send") ++ codes "    return deed;\n")))

abbrev pub activate_text : (t : List ℕ) → NodeFile → List ℕ
activate_text t f =
    (codes "\n" ++ (activate_head t f ++ codes "\n{\n")) ++ (placing_text f ++ (statement_text (spelling f) indent (activation f nothing) ++ (deed_text t ++ codes "}\n")))
