use Rattle.std.proofs.Common.{◌≡◌, ◌∙◌, sym, ap, arith, length}
use Rattle.lt_base.specs.declared.function.Decl.{Decl}
use Rattle.lt_base.specs.Program.{Function}
use Rattle.lt_base.specs.Meaning.{clock_of}
use Rattle.lt_check.proofs.Found.{clock_read}
use Rattle.lt_check.proofs.clocking.fault_at.Goals as goal

pub returns : goal.returns
returns c =
    let decls = ap (λ (f : Function). f.decls) c.f.view_is in
    let inside = c.requires in
    let want : c.in_ok-want.want ≡ clock_of c.args.f.now.decls c.args.var = c.in_ok-want.ensures ∙ ap (λ (d : Decl). d.clock) (sym c.index-deref-var.is) ∙ clock_read c.args.f.now.decls c.f.inside.decls c.deref.result.now c.args.var c.index-deref-var.result c.deref.ensures decls (let l = ap length (c.deref.ensures ∙ decls) in omega (arith, l, inside)) c.index-deref-var.is in
    λ i. record { func = c.args.func; var = c.args.var; want = want i; at = c.args.at }
