-- What the functions of an emitted file do, as trees, and the text of a file by them.
use Rattle.std.specs.Prelude.{◌≡◌, ℕ, ◌++◌, Bool, true, false, List, codes, Some}
use Rattle.std.specs.List.{count_by, flat_map}
use Rattle.lt_base.specs.declared.function.Decl.{Decl}
use Rattle.lt_arch.specs.declared.pace.Pace.{Pace}
use Rattle.lt_arch.specs.declared.shape.Shape.{Shape}
use Rattle.lt_arch.specs.declared.timing.Timing.{Timing}
use Rattle.lt_arch.specs.Paced.{allowed_of}
use Rattle.lt_place.specs.declared.layout.Layout.{Layout}
use Rattle.lt_net_node.specs.Layout.{joins}
use Rattle.lt_step.specs.Code.{StepCode}
use Rattle.lt_c.specs.Tree.{Statement, both, noted}
use Rattle.lt_c.specs.Meaning.{Store, store_left}
use Rattle.lt_c.specs.Text.{statement_text}
use Rattle.lt_c.specs.HeadText.{file_head_text}
use Rattle.lt_c_step.specs.declared.sources.Source.{Source}
use Rattle.lt_c_step.specs.declared.sources.Output.{Output}
use Rattle.lt_c_step.specs.Part.{feeding, showing, part_step}
use Rattle.lt_c_step.specs.Translate.{of_keeps}
use Rattle.lt_c_control.specs.Inboxes.{delivering, acknowledging}
use Rattle.lt_c_net.specs.Emitted.{NodeCode, init_tree, activation_tree, message_tree}
use Rattle.lt_c_heads.specs.declared.file.NodeFile.{NodeFile}
use Rattle.lt_c_heads.specs.Words.{title, spelling, indent}
use Rattle.lt_c_heads.specs.Types.{has_items}
use Rattle.lt_c_bodies.specs.Equations.{told_lets}
use Rattle.lt_c_heads.specs.Heads.{init_head, activate_head, deliver_head, acknowledge_head, message_head}
use Rattle.lt_c_bodies.specs.Acts.{file_calls, placing_text, deed_text}
use Rattle.lt_c_bodies.specs.Messages.{function_text, answer_text}
use Rattle.lt_c_node.specs.NodeText.{opening_text, declarations_text, node_text}
use Rattle.lt_c_node.specs.NodeOf.{IsFileOfNode}
use Rattle.lt_c_files.specs.FileNodes.{code_of_file}

-- the bodies of a file's functions
pub record Bodies : Type 0 where
  pub init : Statement
  -- the step of the part, and an activation, which performs it
  pub step : Statement
  pub activate : Statement
  -- by the number of the other node: a message or an acknowledgement has come from it, and the message to it
  pub deliver : ℕ → Statement
  pub acknowledge : ℕ → Statement
  pub message : ℕ → Statement

-- ---- the text

-- the function of the step
abbrev pub step_function : NodeFile → Statement → List ℕ
step_function f s = codes "\n/* Executes the next instant. */\nstatic void execute(void)\n{\n" ++ (statement_text (spelling f) indent s ++ codes "}\n")

-- before its statements an activation puts what it gets where they find it, and behind them it tells what it did
abbrev pub activate_function : (t : List ℕ) → NodeFile → Statement → List ℕ
activate_function t f s =
    (codes "\n" ++ (activate_head t f ++ codes "\n{\n")) ++ (placing_text f ++ (statement_text (spelling f) indent s ++ (deed_text t ++ codes "}\n")))

-- those for the transport, one for each node with which this one exchanges messages
abbrev pub transport_functions : (t : List ℕ) → NodeFile → Bodies → List ℕ
transport_functions t f b =
    flat_map (λ p. function_text f (deliver_head t f.names p) (b.deliver p.number)) f.links.senders
    ++ (flat_map (λ j. function_text f (acknowledge_head t f.regime f.names j) (b.acknowledge j)) f.links.answerers
    ++ (flat_map (λ p. function_text f (message_head t f.names p) (b.message p.number)) f.links.receivers ++ answer_text t f.regime))

-- all of them, in the order of the file
abbrev pub file_functions : (t : List ℕ) → NodeFile → Bodies → List ℕ
file_functions t f b = function_text f (init_head t) b.init ++ (step_function f b.step ++ (activate_function t f b.activate ++ transport_functions t f b))

-- the file with these bodies
abbrev pub text_by : NodeFile → Bodies → List ℕ
text_by f b = opening_text f ++ (file_head_text (file_calls f) ++ (declarations_text (title f) f ++ file_functions (title f) f b))

-- ---- the trees of the laws

-- a comment before statements, where there are any
abbrev pub noted_if : Bool → (comment : List ℕ) → Statement → Statement
noted_if true t s = noted t s
noted_if false t s = s

-- the step of a part with these variables, with a comment before each of its pieces, and with each equation above its statement
abbrev pub noted_step : List Decl → List Source → List Output → StepCode → Statement
noted_step ds ss os c =
    both
    (both
    (both (noted_if (has_items ss) (codes "what the instant is fed with") (feeding 0 ss)) (noted_if (has_items c.lets) (codes "the equations") (told_lets ds c.lets)))
    (noted_if (has_items os) (codes "the outputs") (showing os)))
    (noted_if (has_items c.keeps) (codes "what delays keep") (of_keeps c.keeps))

-- what the functions of node n do in a run of emitted nodes: a message from node j has a value for each crossing from j to n
abbrev pub bodies_of : List Decl → Layout → Timing → (n : ℕ) → NodeCode → Bodies
bodies_of ds l t n node = record {
  init = init_tree l t n node;
  step = noted_step ds node.sources node.outputs node.code;
  activate = activation_tree t n node;
  deliver = λ j. delivering j (count_by (joins j n) l.cross);
  acknowledge = acknowledging;
  message = λ j. message_tree (node.slots_for j);
}

-- comments change nothing of what the step leaves
abbrev pub CommentsLeaveAll : Type 0
CommentsLeaveAll = (ds : List Decl) (ss : List Source) (os : List Output) (c : StepCode) (m : Store) → store_left (noted_step ds ss os c) m ≡ store_left (part_step ss os c) m

-- where links lose nothing, the text of the file of node n has these bodies
abbrev pub FilesPrintTrees : Type 0
FilesPrintTrees =
    (l : Layout) (s : Shape) (t : Timing) (pace : Pace) (n : ℕ) (file : NodeFile) → ((losses : ℕ) → allowed_of pace ≡ Some losses → ⊥) → IsFileOfNode l s t pace n file →
    node_text file ≡ text_by file (bodies_of file.part.decls l t n (code_of_file file))
