use Rattle.std.proofs.Common.{codes, ◌++◌, ◌∙◌}
use Rattle.std.specs.List.{flat_map}
use Rattle.lt_c_heads.specs.Words.{texts_from}
use Rattle.lt_c_bodies.specs.Variables.{slot_text, delay_text}
use Rattle.lt_c_heads.proofs.Growing.{three_pieces, last_is}
use Rattle.lt_c_bodies.proofs.keeping.slots.Goals as goal

pub returns : goal.returns
returns c =
    let p = c.args.file.now.part in
    three_pieces c.delays.result c.args.out.now
    (codes "\n/* The variables of the step. */\n") (texts_from (slot_text p.decls) 0 p.decls) (flat_map (delay_text p.decls) p.code.keeps)
    c.extend.new.self c.declared_slots.new.out c.delays.new.out
    c.in_ok-extend.ensures.ok
    (c.in_ok-declared_slots.ensures ∙ (λ k. c.extend.new.self ++ texts_from (slot_text (c.deref.ensures k)) 0 (c.deref.ensures k)))
    (last_is c.delays.result c.declared_slots.new.out (flat_map (delay_text c.deref-2.result.now) c.keeps_of.result.now) (flat_map (delay_text p.decls) p.code.keeps) c.delays.new.out
    (λ k. flat_map (delay_text (c.deref-2.ensures k)) (c.keeps_of.ensures k)) c.delays.ensures)
