use Rattle.std.proofs.Common.{◌≡◌, ◌++◌, OnOk, subst, sym, List, ℕ}
use Rattle.lt_c.specs.Text.{spelled}
use Rattle.lt_c.proofs.Literal.{literal_is}
use Rattle.lt_c_step.proofs.writing.literal.Goals as goal

pub returns : goal.returns
returns c = subst (λ (t : List ℕ). OnOk c.value.result (c.value.new.out ≡ c.args.out.now ++ t)) (sym (literal_is (spelled c.args.decls.now) c.args.v)) c.value.ensures
