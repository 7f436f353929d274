use Rattle.std.proofs.Common.{◌++◌, ap, ◌∙◌}
use Rattle.lt_print.specs.Canonical.{decls_text}
use Rattle.lt_print.proofs.Printing.{node_pieces}
use Rattle.lt_print.proofs.printer.node.Goals as goal

pub returns : goal.returns
returns c =
    let d = c.in_ok-decls.ensures ∙ ap (λ z. c.extend.new.self ++ decls_text z) c.deref.ensures in
    node_pieces c.args.n.now c.args.out.now c.head.new.out c.extend.new.self c.decls.new.out c.extend-2.new.self c.body.new.out c.in_ok-head.ensures c.in_ok-extend.ensures.ok d c.in_ok-extend-2.ensures.ok c.in_ok-body.ensures
