-- What a net says of the deed and of the bits of an activation.
use Rattle.std.proofs.Common.{◌≡◌, ◌+◌, ◌<◌, List, [], ◌∷◌, ◌++◌, refl, sym, ap, ◌∙◌, subst}
use Rattle.std.specs.Prelude.{slice_index_or}
use Rattle.lt_arch.specs.declared.event.Event.{Event}
use Rattle.lt_arch.specs.declared.event.Event.TheVariants.{Act}
use Rattle.lt_arch.specs.declared.limits.TheConstants.{GREATEST_TIME}
use Rattle.lt_arch.specs.declared.shape.Shape.{Shape}
use Rattle.lt_arch.specs.State.{State, sent_of, executed_of}
use Rattle.lt_arch.specs.Readers.{node_count, chan_count}
use Rattle.lt_arch.specs.Schedule.{AreUpTo, IsOffenceFree, OnePlace, reached}
use Rattle.lt_net.specs.Net.{bench_of, reached_state}
use Rattle.lt_net.proofs.Activations.{ahead_of}
use Rattle.lt_net.proofs.Counts.{counted}
use Rattle.lt_net_bench.proofs.DeedOfBits.{deed_is}
use Rattle.lt_c_net.specs.Lists.{rows_of_node}
use Rattle.lt_c_net.specs.Answers.{DeedsAgree, BitsInNet}
use Rattle.lt_c_net.proofs.InTurn.{messages_in_turn}
use Rattle.lt_c_net.proofs.Listed.{bits_agree}
use Rattle.lt_machine.specs.declared.machine.Machine.{Ghosts as Machines}
use Rattle.lt_arch.specs.declared.controller.Controller.{Ghosts as Controls}

pub deeds_agree : {C M : Type 0} (ctl : Controls C) (mch : Machines M) → DeedsAgree ctl mch
deeds_agree ctl mch net ls n controllers deed b node w =
    let st : State = reached_state net ls in
    let s = b.stood.bench in
    deed_is ctl mch (bench_of net) st ls.inputs ls.got s
    (ahead_of net.shape st (b.fixed.one_place ls.events b.stood.timely b.stood.clean)) b.sized.inboxes (counted net.shape net.timing net.rows ls.events b.stood.clean).phases
    n (slice_index_or net.executed n 0) w.before deed _ _ _ _ (s.phases n w.before w.there) (s.ran.executed n node ∙ s.rows n node) refl refl refl refl w.deed_is

pub bits_in_net : {C M : Type 0} (ctl : Controls C) (mch : Machines M) → BitsInNet ctl mch
bits_in_net ctl mch net later ls next n at c code m b static events node channel from follows =
    let es : List Event = ls.events ++ Act n at ∷ [] in
    let st' : State = reached net.shape net.timing net.rows es in
    let st_is : reached_state later next ≡ st' = (λ i. reached (static.shape i) (static.timing i) (static.rows i) (events i)) in
    let timely : AreUpTo GREATEST_TIME es = subst (AreUpTo GREATEST_TIME) events b.stood.timely in
    let clean : IsOffenceFree net.shape net.timing net.rows es = subst (λ x. x) (λ i. IsOffenceFree (static.shape i) (static.timing i) (static.rows i) (events i)) b.stood.clean in
    let one = subst (λ x. x) (λ i. OnePlace (static.shape i) (static.timing i) (static.rows i)) b.fixed.one_place in
    let turn = messages_in_turn net.shape net.timing net.rows ls.events n at c channel from timely clean one in
    let node' : n < node_count later.shape = subst (λ (z : Shape). n < node_count z) (sym static.shape) node in
    let channel' : c < chan_count later.shape = subst (λ (z : Shape). c < chan_count z) (sym static.shape) channel in
    let agree = bits_agree ctl mch (bench_of later) (reached_state later next) next.inputs next.got n c code (rows_of_node later.layout later.shape next.inputs next.got n) m b.stood.bench b.sized.inboxes node' channel' follows in (
      λ carries deed. agree.0 (ap (λ (z : State). (z.chan c).delivered + 1) st_is ∙ turn.0 carries deed ∙ ap (λ (z : State). sent_of z n) (sym st_is)),
      λ ack bp deed. agree.1 (ap (λ (z : State). (z.chan c).delivered + 1) st_is ∙ turn.1 ack bp deed ∙ ap (λ (z : State). executed_of z n) (sym st_is)),
    )
