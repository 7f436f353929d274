-- The C file of a node.
use Rattle.std.specs.Prelude.{◌≡◌, ℕ, ◌++◌, Bool, true, false, List, codes}
use Rattle.lt_c.specs.HeadText.{file_head_text}
use Rattle.lt_c.specs.Spelled.{node_at}
use Rattle.lt_c_heads.specs.declared.file.NodeFile.{NodeFile}
use Rattle.lt_c_heads.specs.Words.{title}
use Rattle.lt_c_heads.specs.Interface.{interface_text, node_header_text}
use Rattle.lt_c_bodies.specs.Variables.{variables_text}
use Rattle.lt_c_bodies.specs.Starts.{init_text}
use Rattle.lt_c_bodies.specs.Steps.{execute_text}
use Rattle.lt_c_bodies.specs.Acts.{file_calls, activate_text}
use Rattle.lt_c_bodies.specs.Messages.{transport_text}

-- what stands above all
abbrev pub opening_text : NodeFile → List ℕ
opening_text f = codes "/* The node " ++ (node_at f.names f.node ++ codes ". This file was emitted: change the program, and not the file. */\n")

-- the interface, variables, and functions
abbrev pub declarations_text : (t : List ℕ) → NodeFile → List ℕ
declarations_text t f = interface_text t f ++ variables_text t f

abbrev pub functions_text : (t : List ℕ) → NodeFile → List ℕ
functions_text t f = init_text t f ++ (execute_text f ++ (activate_text t f ++ transport_text t f))

-- the whole file, also where what begins its names is given
abbrev pub titled_text : (t : List ℕ) → NodeFile → List ℕ
titled_text t f = opening_text f ++ (file_head_text (file_calls f) ++ (declarations_text t f ++ functions_text t f))

abbrev pub node_text : NodeFile → List ℕ
node_text f = titled_text (title f) f

-- what is printed of a file: its header alone, or all of it
abbrev pub emitted_text : (header : Bool) → NodeFile → List ℕ
emitted_text true f = node_header_text f
emitted_text false f = node_text f

-- one text stands in another, word for word
pub record StandsWithin (part whole : List ℕ) : Type 0 where
  pub before : List ℕ
  pub after : List ℕ
  pub whole_is : whole ≡ before ++ (part ++ after)

-- types and prototypes stand in a node's file as in its header, so each declaration of the header is one of the file, word for word
abbrev pub HeaderAgrees : Type 0
HeaderAgrees = (f : NodeFile) → StandsWithin (interface_text (title f) f) (node_header_text f) × StandsWithin (interface_text (title f) f) (node_text f)
