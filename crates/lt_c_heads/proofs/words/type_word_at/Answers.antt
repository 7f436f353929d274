use Rattle.std.proofs.Common.{sym, ◌∙◌}
use Rattle.lt_c_heads.proofs.Typing.{word_there, word_past}
use Rattle.lt_c_heads.proofs.words.type_word_at.Goals as goal

pub returns-then-x-decls : goal.returns-then-x-decls
returns-then-x-decls c = c.type_word.ensures ∙ sym (word_there c.args.decls.now c.args.x c.index-decls-x.result c.if-x-decls.true)

pub returns-else-x-decls : goal.returns-else-x-decls
returns-else-x-decls c = sym (word_past c.args.decls.now c.args.x c.if-x-decls.false)
