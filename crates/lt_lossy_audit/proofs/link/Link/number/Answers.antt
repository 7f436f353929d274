use Rattle.std.proofs.Common.{◌∙◌, ap}
use Rattle.std.specs.Prelude.{slice_get}
use Rattle.lt_lossy.specs.State.{LinkState}
use Rattle.lt_lossy_audit.specs.Links.{link_numbers}
use Rattle.lt_lossy_audit.proofs.LetterList.{number_past, number_there}
use Rattle.lt_lossy_audit.proofs.link.Link.number.Goals as goal

pub returns-in-Some : goal.returns-in-Some
returns-in-Some c =
    number_there c.self.inside.transit.items c.args.place c.in-Some.letter.now c.in-Some.ensures.item.3.0 c.in-Some.ensures.lookup ∙ ap (λ (l : LinkState). slice_get (link_numbers l) c.args.place) c.self.view_is

pub returns-in-None : goal.returns-in-None
returns-in-None c = number_past c.self.inside.transit.items c.args.place c.in-None.ensures.item.3 ∙ ap (λ (l : LinkState). slice_get (link_numbers l) c.args.place) c.self.view_is
