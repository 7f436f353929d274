use Rattle.std.proofs.Common.{◌++◌, ◌∙◌, ap}
use Rattle.lt_c_heads.specs.Interface.{titled_header_text}
use Rattle.lt_c_heads.proofs.interface.write_header.Goals as goal

pub returns : goal.returns
returns c =
    let f = c.args.file.now in
    c.in_ok-titled.ensures ∙ (λ k. c.new-out.ensures k ++ titled_header_text (c.deref.ensures k) f) ∙ ap (λ t. titled_header_text t f) c.in_ok-t.ensures
