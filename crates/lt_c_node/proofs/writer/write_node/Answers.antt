use Rattle.std.proofs.Common.{◌++◌, ◌∙◌, ap}
use Rattle.lt_c_node.specs.NodeText.{titled_text}
use Rattle.lt_c_node.proofs.writer.write_node.Goals as goal

pub returns : goal.returns
returns c =
    let f = c.args.file.now in
    c.in_ok-titled.ensures ∙ (λ k. c.new-out.ensures k ++ titled_text (c.deref.ensures k) f) ∙ ap (λ t. titled_text t f) c.in_ok-t.ensures
