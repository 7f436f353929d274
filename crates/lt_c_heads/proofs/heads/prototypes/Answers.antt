use Rattle.std.proofs.Common.{codes, ◌++◌, ◌∙◌}
use Rattle.std.specs.List.{flat_map}
use Rattle.lt_c_heads.specs.Heads.{as_prototype, init_head, activate_head, deliver_head, acknowledge_head, message_head, answer_prototype}
use Rattle.lt_c_heads.proofs.Growing.{five_pieces}
use Rattle.lt_c_heads.proofs.heads.prototypes.Goals as goal

pub returns : goal.returns
returns c =
    let t = c.args.t.now in
    let f = c.args.file.now in
    five_pieces c.answer_prototype.result c.args.out.now
    (codes "\n" ++ (as_prototype (init_head t) ++ as_prototype (activate_head t f))) (flat_map (λ p. as_prototype (deliver_head t f.names p)) f.links.senders)
    (flat_map (λ j. as_prototype (acknowledge_head t f.regime f.names j)) f.links.answerers) (flat_map (λ p. as_prototype (message_head t f.names p)) f.links.receivers) (answer_prototype t f.regime)
    c.first_prototypes.new.out c.deliver_prototypes.new.out c.acknowledge_prototypes.new.out c.message_prototypes.new.out c.answer_prototype.new.out
    c.in_ok-first_prototypes.ensures
    (c.in_ok-deliver_prototypes.ensures ∙ (λ k. c.first_prototypes.new.out ++ flat_map (λ p. as_prototype (deliver_head t (c.deref.ensures k) p)) (c.deref-2.ensures k)))
    (c.in_ok-acknowledge_prototypes.ensures ∙ (λ k. c.deliver_prototypes.new.out ++ flat_map (λ j. as_prototype (acknowledge_head t f.regime (c.deref-3.ensures k) j)) (c.deref-4.ensures k)))
    (c.in_ok-message_prototypes.ensures ∙ (λ k. c.acknowledge_prototypes.new.out ++ flat_map (λ p. as_prototype (message_head t (c.deref-5.ensures k) p)) (c.deref-6.ensures k)))
    c.answer_prototype.ensures
