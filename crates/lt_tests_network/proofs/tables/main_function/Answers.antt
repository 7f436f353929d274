use Rattle.std.proofs.Common.{◌≡◌, ◌∙◌, ap, get_or}
use Rattle.lt_base.specs.Program.{WholeProgram}
use Rattle.lt_meaning.proofs.Tables.{function_at}
use Rattle.lt_tests_network.proofs.tables.main_function.Goals as goal

pub returns : goal.returns
returns c =
    let p = c.args.p.now in
    let main = ap (λ (q : WholeProgram). q.main) c.p.view_is in
    let same : c.as_slice.result.now ≡ p.funcs = c.as_slice.ensures ∙ ap (λ (q : WholeProgram). q.funcs) c.p.view_is in
    function_at p.funcs p.main c.index-as_slice-number.result c.invariant_holds.ensures.main (c.index-as_slice-number.is ∙ (λ i. get_or (same i) (main i) c.index-as_slice-number.result))
