-- The interface in a node's header, and in its file.
use Rattle.std.proofs.Common.{◌++◌, ◌∙◌, ap, sym, codes, append_assoc}
use Rattle.lt_c.specs.HeadText.{file_head_text}
use Rattle.lt_c_heads.specs.declared.file.NodeFile.{NodeFile}
use Rattle.lt_c_heads.specs.Words.{title}
use Rattle.lt_c_heads.specs.Interface.{interface_text, header_opening_text, header_guard_text, node_header_text}
use Rattle.lt_c_bodies.specs.Variables.{variables_text}
use Rattle.lt_c_bodies.specs.Acts.{file_calls}
use Rattle.lt_c_node.specs.NodeText.{opening_text, functions_text, node_text, StandsWithin, HeaderAgrees}

in_header : (f : NodeFile) → StandsWithin (interface_text (title f) f) (node_header_text f)
in_header f = record {
  before = header_opening_text f ++ header_guard_text f;
  after = codes "\n#endif\n";
  whole_is = sym (append_assoc (header_opening_text f) (header_guard_text f) (interface_text (title f) f ++ codes "\n#endif\n"));
}

in_file : (f : NodeFile) → StandsWithin (interface_text (title f) f) (node_text f)
in_file f =
    let t = title f in
    let head = file_head_text (file_calls f) in
    record {
      before = opening_text f ++ head;
      after = variables_text t f ++ functions_text t f;
      whole_is =
          ap (λ z. opening_text f ++ (head ++ z)) (append_assoc (interface_text t f) (variables_text t f) (functions_text t f))
          ∙ sym (append_assoc (opening_text f) head (interface_text t f ++ (variables_text t f ++ functions_text t f)));
    }

pub law : HeaderAgrees
law f = (in_header f, in_file f)
