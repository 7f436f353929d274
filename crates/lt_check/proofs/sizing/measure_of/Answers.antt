use Rattle.std.proofs.Common.{◌+◌, ap, ◌∙◌}
use Rattle.std.specs.List.{sum_by}
use Rattle.lt_base.specs.Sizes.{cut, in_table}
use Rattle.lt_check.proofs.Shares.{share_total}
use Rattle.lt_check.proofs.sizing.measure_of.Goals as goal

pub returns : goal.returns
returns c =
    c.total.ensures
    ∙ ap (λ n. cut (n + sum_by (in_table c.args.table.now) c.args.share.now.calls)) c.own.ensures
    ∙ share_total c.args.measure (in_table c.args.table.now) c.args.share.now c.requires
