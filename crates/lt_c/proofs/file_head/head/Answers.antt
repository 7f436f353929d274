use Rattle.std.proofs.Common.{codes}
use Rattle.lt_c.specs.HeadText.{aids_text, sums_text, others_text}
use Rattle.lt_c.proofs.Chains.{four_after}
use Rattle.lt_c.proofs.file_head.head.Goals as goal

pub returns : goal.returns
returns c =
    let calls = c.args.calls.now in
    four_after c.others.result c.args.out.now c.extend.new.self c.aids.new.out c.sums.new.out c.others.new.out
    (codes "#include <stdbool.h>\n#include <stdint.h>\n") (aids_text calls) (sums_text calls) (others_text calls)
    c.in_ok-extend.ensures.ok c.in_ok-aids.ensures c.in_ok-sums.ensures c.others.ensures
