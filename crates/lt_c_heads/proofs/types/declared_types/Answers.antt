use Rattle.std.proofs.Common.{◌++◌, ◌∙◌}
use Rattle.std.specs.List.{flat_map}
use Rattle.lt_c_heads.specs.Types.{deed_type_text, inputs_type_text, outputs_type_text, sent_type_text, got_type_text}
use Rattle.lt_c_heads.proofs.Growing.{five_pieces, last_is}
use Rattle.lt_c_heads.proofs.types.declared_types.Goals as goal

pub returns : goal.returns
returns c =
    let t = c.args.t.now in
    let f = c.args.file.now in
    five_pieces c.got_types.result c.args.out.now
    (deed_type_text t) (inputs_type_text t f.part.decls f.part.sources) (outputs_type_text t f.part.decls f.part.outputs)
    (flat_map (sent_type_text t f.regime f.names) f.links.receivers) (flat_map (got_type_text t f.regime f.names) f.links.senders)
    c.deed_type.new.out c.inputs_type.new.out c.outputs_type.new.out c.sent_types.new.out c.got_types.new.out
    c.in_ok-deed_type.ensures
    (c.in_ok-inputs_type.ensures ∙ (λ k. c.deed_type.new.out ++ inputs_type_text t (c.deref.ensures k) (c.deref-2.ensures k)))
    (c.in_ok-outputs_type.ensures ∙ (λ k. c.inputs_type.new.out ++ outputs_type_text t (c.deref-3.ensures k) (c.deref-4.ensures k)))
    (c.in_ok-sent_types.ensures ∙ (λ k. c.outputs_type.new.out ++ flat_map (sent_type_text t f.regime (c.deref-5.ensures k)) (c.deref-6.ensures k)))
    (last_is c.got_types.result c.sent_types.new.out (flat_map (got_type_text t f.regime c.deref-7.result.now) c.deref-8.result.now) (flat_map (got_type_text t f.regime f.names) f.links.senders) c.got_types.new.out
    (λ k. flat_map (got_type_text t f.regime (c.deref-7.ensures k)) (c.deref-8.ensures k)) c.got_types.ensures)
