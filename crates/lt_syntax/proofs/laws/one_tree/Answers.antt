use Rattle.lt_syntax.proofs.Whole as whole
use Rattle.lt_syntax.proofs.laws.one_tree.Goals as goal

pub returns : goal.returns
returns c = λ limit one bytes t u a b. whole.one_tree limit one bytes t u a b
