use Rattle.std.proofs.Common.{ℕ, refl, ap, arith, true}
use Rattle.lt_io.specs.Visits.{taken_of}
use Rattle.lt_io.proofs.Visiting.{visited_one}
use Rattle.lt_schedule.proofs.Headers.{judged_file}
use Rattle.lt_schedule.proofs.replaying.replay_schedule.Goals as goal

pub returns-in-Ok-clause-judged : goal.returns-in-Ok-clause-judged
returns-in-Ok-clause-judged g c =
    judged_file (g.R.Replica.rules c.args.replica.now) c.args.lines.now ((g.F.Files.state c.args.files.now).named c.args.name.now) (g.F.Files.state c.open.new.self) (g.F.Files.state c.args.files.now).told (g.F.Files.state c.open.new.self).told
    c.in-Ok.ensures.keeps.told c.requires.fresh (λ told. ((c.in-Ok.ensures.file told).bytes, (c.in-Ok.ensures.file told).place))
    (λ (steps : ℕ). g.R.Replica.stands c.replay_open.new.replica c.replay_open.new.outside steps) (g.F.Files.state c.replay_open.new.files).place c.replay_open.result c.replay_open.ensures.judged

pub returns-in-Ok-clause-visits : goal.returns-in-Ok-clause-visits
returns-in-Ok-clause-visits g c = visited_one (record { name = c.args.name.now; most = 1073811456 }) _ _ _ c.open.ensures.visits c.replay_open.ensures.keeps_files.visits c.replay_open.ensures.taken _

pub returns-in-Err-clause-visits : goal.returns-in-Err-clause-visits
returns-in-Err-clause-visits g c = visited_one (record { name = c.args.name.now; most = 1073811456 }) _ _ _ c.open.ensures.visits refl (omega (arith, ap taken_of c.open.ensures.visits)) _

pub returns-in-Ok-clause-visits_whole : goal.returns-in-Ok-clause-visits_whole
returns-in-Ok-clause-visits_whole g c = visited_one (record { name = c.args.name.now; most = 1073811456 }) _ _ _ c.open.ensures.visits c.replay_open.ensures.keeps_files.visits c.replay_open.ensures.taken true

pub returns-in-Err-clause-visits_whole : goal.returns-in-Err-clause-visits_whole
returns-in-Err-clause-visits_whole g c = visited_one (record { name = c.args.name.now; most = 1073811456 }) _ _ _ c.open.ensures.visits refl (omega (arith, ap taken_of c.open.ensures.visits)) true
