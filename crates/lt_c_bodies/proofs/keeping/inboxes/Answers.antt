use Rattle.std.proofs.Common.{codes, ◌++◌, ◌∙◌}
use Rattle.std.specs.List.{flat_map}
use Rattle.lt_c.specs.Spelled.{node_at}
use Rattle.lt_c_bodies.specs.Variables.{inbox_text, answers_text, posted_texts}
use Rattle.lt_c_heads.proofs.Growing.{four_pieces, last_is}
use Rattle.lt_c_bodies.proofs.keeping.inboxes.Goals as goal

pub returns : goal.returns
returns c =
    let t = c.args.t.now in
    let f = c.args.file.now in
    four_pieces c.posted_by.result c.args.out.now
    (codes "\n/* The inboxes, and what was read of them. */\n") (flat_map (inbox_text t f.regime f.names) f.links.senders)
    (flat_map (λ j. answers_text f.regime (node_at f.names j)) f.links.answerers) (posted_texts t f.regime f.names f.links.receivers)
    c.extend.new.self c.inboxes_of.new.out c.answers_of.new.out c.posted_by.new.out
    c.in_ok-extend.ensures.ok
    (c.in_ok-inboxes_of.ensures ∙ (λ k. c.extend.new.self ++ flat_map (inbox_text t f.regime (c.deref.ensures k)) (c.deref-2.ensures k)))
    (c.in_ok-answers_of.ensures ∙ (λ k. c.inboxes_of.new.out ++ flat_map (λ j. answers_text f.regime (node_at (c.deref-3.ensures k) j)) (c.deref-4.ensures k)))
    (last_is c.posted_by.result c.answers_of.new.out (posted_texts t f.regime c.deref-5.result.now c.deref-6.result.now) (posted_texts t f.regime f.names f.links.receivers) c.posted_by.new.out
    (λ k. posted_texts t f.regime (c.deref-5.ensures k) (c.deref-6.ensures k)) c.posted_by.ensures)
