use Rattle.std.proofs.Common.{◌<◌, sym, subst, All}
use Rattle.lt_place_reads.specs.Origins.{variable_count}
use Rattle.lt_place_reads.proofs.Lefts.{lefts_below}
use Rattle.lt_place.proofs.Inside.{origin_size}
use Rattle.lt_place.proofs.judge.main_variables.Goals as goal

pub push_lefts-requires : goal.push_lefts-requires
push_lefts-requires c =
    subst (λ n. All (λ q. q.0 < n) c.equations.result.now) (sym (origin_size c.args.f.now c.requires c.origins-origin.result.now c.origins-origin.ensures))
    (subst (λ qs. All (λ q. q.0 < variable_count c.args.f.now) qs) (sym c.equations.ensures) (lefts_below c.args.f.now c.invariant_holds.ensures.good))
