use Rattle.std.proofs.Common.{◌∙◌, arith, sym, subst, length}
use Rattle.lt_place.specs.Spread.{Added, HasMembers}
use Rattle.lt_place.proofs.Numbering.{room_left, both}
use Rattle.lt_place.proofs.members.members_of.Goals as goal

pub add-requires-2-clause-room : goal.add-requires-2-clause-room
add-requires-2-clause-room c =
    let h = room_left c.args.nodes.now c.args.fed.now c.args.free.now c.args.n c.requires.fed c.requires.free c.resize.new.self.items c.add.new.members.items c.add.new.own.items (subst (λ m. Added c.args.nodes.now c.args.fed.now c.args.n (length c.args.nodes.now) m c.resize.new.self.items c.add.new.members.items c.add.new.own.items) c.new-list.ensures.items c.in_ok-add.ensures) c.requires.room in
    let l = c.add.new.members.ok.0 in
    omega (arith, h, l)

pub returns : goal.returns
returns c =
    subst (HasMembers c.args.nodes.now c.args.fed.now c.args.n c.add-2.new.members.items c.add-2.new.own.items) (sym (c.len-inputs.ensures ∙ c.add.new.members.ok.0))
    (both c.args.nodes.now c.args.fed.now c.args.free.now c.args.n c.requires.fed c.requires.free c.resize.new.self.items c.add.new.members.items c.add.new.own.items (subst (λ m. Added c.args.nodes.now c.args.fed.now c.args.n (length c.args.nodes.now) m c.resize.new.self.items c.add.new.members.items c.add.new.own.items) c.new-list.ensures.items c.in_ok-add.ensures) c.add-2.new.members.items c.add-2.new.own.items c.in_ok-add-2.ensures)
