use Rattle.std.proofs.Common.{◌-◌, ◌<◌, ◌^◌, rules}
use Rattle.lt_course.proofs.Missing.{known_miss}
use Rattle.lt_course.proofs.reading.first_miss.Goals as goal

pub returns : goal.returns
returns c = λ s t rows es stands.
    let few : c.args.auditor.now.taken < 2 ^ 32 - 1 = search rules in
    known_miss c.args.auditor.now s t rows es stands c.miss.result few (c.miss.ensures s t rows es stands)
