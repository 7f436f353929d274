use Rattle.std.proofs.Common.{◌≡◌, ◌∙◌, ap, get_or}
use Rattle.lt_base.specs.Program.{WholeProgram}
use Rattle.lt_meaning.proofs.Tables.{function_at}
use Rattle.lt_meaning.proofs.program.main_function.Goals as goal

pub returns : goal.returns
returns c =
    let p = c.args.p.now in
    let main = ap (λ (q : WholeProgram). q.main) c.p.view_is in
    let same : c.deref.result.now ≡ p.funcs = c.deref.ensures ∙ ap (λ (q : WholeProgram). q.funcs) c.p.view_is in
    function_at p.funcs p.main c.index-deref-number.result c.invariant_holds.ensures.main (c.index-deref-number.is ∙ (λ i. get_or (same i) (main i) c.index-deref-number.result))
