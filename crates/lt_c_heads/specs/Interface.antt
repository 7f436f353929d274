-- The interface of an emitted file: what a transport has to know of it.
use Rattle.std.specs.Prelude.{ℕ, ◌++◌, List, codes}
use Rattle.lt_c.specs.Spelled.{node_at}
use Rattle.lt_c_heads.specs.declared.file.NodeFile.{NodeFile}
use Rattle.lt_c_heads.specs.Words.{title}
use Rattle.lt_c_heads.specs.Types.{file_types_text}
use Rattle.lt_c_heads.specs.Heads.{prototypes_text}

-- types and prototypes
abbrev pub interface_text : (t : List ℕ) → NodeFile → List ℕ
interface_text t f = file_types_text t f ++ prototypes_text t f

-- a header has them alone, under a comment
abbrev pub header_opening_text : NodeFile → List ℕ
header_opening_text f = codes "/* The interface of the node " ++ (node_at f.names f.node ++ codes ". This file was emitted: change the program, and not the file. */\n")

-- it is read once however often it is included; no name in an emitted file begins as that of the macro which tells
abbrev pub header_guard_text : NodeFile → List ℕ
header_guard_text f =
    (codes "#ifndef LTTA_" ++ (node_at f.names f.node ++ codes "_H\n"))
    ++ ((codes "#define LTTA_" ++ (node_at f.names f.node ++ codes "_H\n")) ++ codes "#include <stdbool.h>\n#include <stdint.h>\n")

-- all of it, also where what begins its names is given
abbrev pub titled_header_text : (t : List ℕ) → NodeFile → List ℕ
titled_header_text t f = header_opening_text f ++ (header_guard_text f ++ (interface_text t f ++ codes "\n#endif\n"))

abbrev pub node_header_text : NodeFile → List ℕ
node_header_text f = titled_header_text (title f) f
