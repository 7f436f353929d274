use Rattle.std.proofs.Common.{codes, refl}
use Rattle.lt_print.specs.Canonical.{decls_text, decl_text}
use Rattle.lt_print.proofs.Printing.{next_apart, decls_more}
use Rattle.lt_print.proofs.printer.decls.Goals as goal

pub decls-preserved : goal.decls-preserved
decls-preserved c = next_apart decls_text decl_text (codes "; ") refl (λ x. refl) decls_more c.args.out.now c.decls.out c.semicolon.new.out c.decl.new.out c.args.ds.now c.decls.i c.index-ds-i.result c.decls-test.true c.index-ds-i.is c.decls.invariant c.in_ok-semicolon.ensures c.in_ok-decl.ensures
