use Rattle.std.proofs.Common.{◌≡◌, ◌∙◌, Option, ℕ, Some, None, sym, ap, set}
use Rattle.std.proofs.lemmas.List.{set-set}
use Rattle.lt_audit.specs.Audit.{oldest}
use Rattle.lt_audit.proofs.Delivered.{left_timely}
use Rattle.lt_audit.proofs.sending.deliver.Goals as goal

pub sent-requires-clause-time : goal.sent-requires-clause-time
sent-requires-clause-time g c = left_timely c.args.line.now c.deliver.new.self c.in-Some.sent c.requires.timely c.deliver.ensures (sym c.oldest.ensures ∙ c.in-Some.is)

pub returns-in-Some-clause-watch : goal.returns-in-Some-clause-watch
returns-in-Some-clause-watch g c =
    let w = c.args.watch.now in
    let first : Some c.in-Some.sent ≡ oldest c.deliver.new.self.transit = sym c.in-Some.is ∙ c.oldest.ensures in
    c.sent.ensures.times ∙ (λ i. record (c.delivered.ensures.times i) { sends = set (c.delivered.ensures.times i).sends c.args.c (Some c.in-Some.sent) }) ∙
    (λ i. record w { sends = (set-set w.sends c.args.c None (Some c.in-Some.sent) ∙ ap (λ (o : Option ℕ). set w.sends c.args.c o) first) i; latest = Some c.args.at })
