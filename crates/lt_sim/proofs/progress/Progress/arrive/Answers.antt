use Rattle.std.proofs.Common.{◌<◌, sym, subst, refl, true, false, slice_index_or}
use Rattle.lt_arch.specs.Readers.{to_of}
use Rattle.lt_sim.proofs.Arriving.{fresh_few, early_few, chan_to, to_in, data_arrives, ack_arrives}
use Rattle.lt_sim.proofs.progress.Progress.arrive.Goals as goal

pub arrive-requires-clause-fresh_room : goal.arrive-requires-clause-fresh_room
arrive-requires-clause-fresh_room c _ =
    let at = c.requires.is_at in
    subst (λ n. slice_index_or c.args.self.now.messages.fresh.items n 0 < 4294967295) (sym (chan_to c.args.shape.now c.deref.result.now c.args.ch c.deref.ensures))
    (fresh_few c.args.self.now.messages c.args.shape.now true c.requires.executed c.requires.delivered (to_of c.args.shape.now c.args.ch) at.messages at.few (to_in c.args.shape.now c.args.ch c.requires.channel))

pub arrive-requires-clause-early_room : goal.arrive-requires-clause-early_room
arrive-requires-clause-early_room c _ =
    let at = c.requires.is_at in
    subst (λ n. slice_index_or c.args.self.now.messages.early.items n 0 < 4294967295) (sym (chan_to c.args.shape.now c.deref.result.now c.args.ch c.deref.ensures))
    (early_few c.args.self.now.messages c.args.shape.now true c.requires.executed c.requires.delivered (to_of c.args.shape.now c.args.ch) at.messages at.few (to_in c.args.shape.now c.args.ch c.requires.channel))

pub arrive-requires-in-Ack-clause-fresh_room : goal.arrive-requires-in-Ack-clause-fresh_room
arrive-requires-in-Ack-clause-fresh_room c _ =
    let at = c.requires.is_at in
    subst (λ n. slice_index_or c.args.self.now.acks.fresh.items n 0 < 4294967295) (sym (chan_to c.args.shape.now c.deref.result.now c.args.ch c.deref.ensures))
    (fresh_few c.args.self.now.acks c.args.shape.now false c.requires.executed c.requires.delivered (to_of c.args.shape.now c.args.ch) at.acks at.few (to_in c.args.shape.now c.args.ch c.requires.channel))

pub arrive-requires-in-Ack-clause-early_room : goal.arrive-requires-in-Ack-clause-early_room
arrive-requires-in-Ack-clause-early_room c _ =
    let at = c.requires.is_at in
    subst (λ n. slice_index_or c.args.self.now.acks.early.items n 0 < 4294967295) (sym (chan_to c.args.shape.now c.deref.result.now c.args.ch c.deref.ensures))
    (early_few c.args.self.now.acks c.args.shape.now false c.requires.executed c.requires.delivered (to_of c.args.shape.now c.args.ch) at.acks at.few (to_in c.args.shape.now c.args.ch c.requires.channel))

pub returns-in-Data : goal.returns-in-Data
returns-in-Data c e d at =
    data_arrives c.args.self.now c.args.shape.now e d c.args.ch at c.requires.channel c.deref.result.now c.deref.ensures c.index.result.now c.index-2.result.now c.index.ensures c.index-2.ensures
    _ refl refl c.in-Data.is refl c.arrive.ensures.wanted c.arrive.ensures.fresh c.arrive.ensures.early

pub returns-in-Ack : goal.returns-in-Ack
returns-in-Ack c e d at =
    ack_arrives c.args.self.now c.args.shape.now e d c.args.ch at c.requires.channel c.deref.result.now c.deref.ensures c.index.result.now c.index-2.result.now c.index.ensures c.index-2.ensures
    _ refl refl c.in-Ack.is refl c.arrive-in-Ack.ensures.wanted c.arrive-in-Ack.ensures.fresh c.arrive-in-Ack.ensures.early
