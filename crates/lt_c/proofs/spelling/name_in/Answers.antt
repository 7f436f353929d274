use Rattle.std.proofs.Common.{sym, ◌∙◌}
use Rattle.lt_c.proofs.Names.{name_there, name_past}
use Rattle.lt_c.proofs.spelling.name_in.Goals as goal

pub returns-then-x-decls : goal.returns-then-x-decls
returns-then-x-decls c =
    c.as_bytes.ensures.value ∙ c.as_str.ensures
    ∙ sym (name_there c.args.decls.now c.args.x c.index-decls-x.result c.if-x-decls.true)

pub returns-else-x-decls : goal.returns-else-x-decls
returns-else-x-decls c = sym (name_past c.args.decls.now c.args.x c.if-x-decls.false)
