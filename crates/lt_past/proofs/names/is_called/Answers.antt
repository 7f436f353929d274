use Rattle.std.proofs.Common.{◌≡◌, ◌<◌, ◌∙◌, length, get_or, sym, ap, arith}
use Rattle.std.specs.Prelude.{bytes_eq}
use Rattle.lt_base.specs.declared.function.Decl.{Decl}
use Rattle.lt_base.specs.Program.{Function}
use Rattle.lt_past.specs.Naming.{no_declaration}
use Rattle.lt_past.proofs.Places.{get_or_of}
use Rattle.lt_past.proofs.names.is_called.Goals as goal

pub returns : goal.returns
returns c =
    let decls = c.deref.result.now in
    let found = c.index-deref-variable in
    let same : decls ≡ c.args.main.now.decls = c.deref.ensures ∙ ap (λ (f : Function). f.decls) c.main.view_is in
    let low : c.args.variable < length decls = omega (arith, c.requires, ap length same) in
    let here : get_or decls c.args.variable no_declaration ≡ found.result = get_or_of decls c.args.variable found.result no_declaration low found.is in
    c.eq.ensures ∙ ap (λ z. bytes_eq z c.args.name.now) (c.as_bytes.ensures.value ∙ c.as_str.ensures ∙ ap (λ (d : Decl). d.name) (sym found.is ∙ sym here) ∙ ap (λ ds. (get_or ds c.args.variable no_declaration).name) same)
