use Rattle.std.proofs.Common.{◌≡◌, ◌<◌, sym, subst, length, map, set, arith}
use Rattle.std.specs.Prelude.{List}
use Rattle.std.proofs.lemmas.List.{length-map}
use Rattle.lt_sim.specs.Controlled.{Controlled, controller_of, controlled_after}
use Rattle.lt_sim.proofs.Controls.{controlled, woken, read}
use Rattle.lt_sim.proofs.controllers.Controllers.wake.Goals as goal

pub returns-clause-after : goal.returns-clause-after
returns-clause-after c =
    let items = c.self.inside.items.items in
    let old = c.index_mut.result.now in
    let new = c.wake.new.self in
    let n = c.args.node in
    let deed = c.wake.result in
    let view : map controlled items ≡ c.args.self.now = c.self.view_is in
    let within : n < length (map controlled items) = subst (λ (cs : List Controlled). n < length cs) (sym view) c.requires in
    let size = length-map items controlled in
    let at = read items n old (omega (arith, within, size)) c.index_mut.ensures.value in
    let after : controlled new ≡ controlled_after (controlled old) deed =
    λ i. record { protocol = c.wake.ensures.protocol i; send = c.wake.ensures.send i; execute = c.wake.ensures.execute i; phase = c.wake.ensures.phase i } in
    subst (λ (cs : List Controlled). map controlled (set items n new) ≡ set cs n (controlled_after (controller_of cs n) deed)) view (woken items n old new deed within at after)
