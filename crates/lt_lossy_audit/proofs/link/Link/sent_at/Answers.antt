use Rattle.std.proofs.Common.{◌∙◌, ap}
use Rattle.std.specs.Prelude.{slice_get}
use Rattle.lt_lossy.specs.State.{LinkState}
use Rattle.lt_lossy_audit.specs.Links.{link_send_times}
use Rattle.lt_lossy_audit.proofs.LetterList.{sent_past, sent_there}
use Rattle.lt_lossy_audit.proofs.link.Link.sent_at.Goals as goal

pub returns-in-Some-clause-sent : goal.returns-in-Some-clause-sent
returns-in-Some-clause-sent c =
    sent_there c.self.inside.transit.items c.args.place c.in-Some.letter.now c.in-Some.ensures.item.3.0 c.in-Some.ensures.lookup ∙ ap (λ (l : LinkState). slice_get (link_send_times l) c.args.place) c.self.view_is

pub returns-in-None-clause-sent : goal.returns-in-None-clause-sent
returns-in-None-clause-sent c = sent_past c.self.inside.transit.items c.args.place c.in-None.ensures.item.3 ∙ ap (λ (l : LinkState). slice_get (link_send_times l) c.args.place) c.self.view_is
