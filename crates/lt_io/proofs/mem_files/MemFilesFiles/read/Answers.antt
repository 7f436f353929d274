use Rattle.std.proofs.Common.{◌<◌, ◌∙◌, length, refl, ap, arith, rules}
use Rattle.lt_io.proofs.Reading.{next_part, none_left}
use Rattle.lt_io.specs.Visits.{unread}
use Rattle.lt_io.proofs.Visiting.{unread_took}
use Rattle.lt_io.proofs.mem_files.MemFilesFiles.read.Goals as goal

pub returns-clause-reads : goal.returns-clause-reads
returns-clause-reads c = record {
  cause = search rules;
  keeps = record { sound = search rules; told = refl; named = refl; visits = ap unread c.then-self.ensures ∙ unread_took c.read_part-count.result c.args.self.now.history.visits };
  visits = search rules;
  opened = search rules;
  bound = search rules;
  file = λ _. refl;
  bytes = λ _. record {
    next = next_part _ _ _ _ c.read_part-count.ensures.front;
    place = refl;
    at_end = λ room. let has_room : 0 < length c.args.buf.now = omega arith in none_left _ _ _ c.read_part-count.ensures.count has_room;
  };
  sound = search rules;
}
