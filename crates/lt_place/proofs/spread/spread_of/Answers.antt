use Rattle.std.proofs.Common.{◌∙◌, ap, length, sym, subst}
use Rattle.lt_place_reads.specs.Crossings.{HasReaders, HasPlaces}
use Rattle.lt_place.proofs.Crosses.{vars_below}
use Rattle.lt_place.proofs.spread.spread_of.Goals as goal

pub given_out-requires-clause-cross : goal.given_out-requires-clause-cross
given_out-requires-clause-cross c =
    vars_below c.args.f.now c.invariant_holds.ensures.good c.deref.result.now c.deref-2.result.now
    (subst (HasReaders c.args.f.now c.deref.result.now) (sym c.deref-2.ensures.value) c.in_ok-readers.ensures)
    c.in_ok-list.field-0.list.items c.in_ok-list.field-0.places.items
    (subst (λ n. HasPlaces c.deref-2.result.now n c.in_ok-list.field-0.list.items c.in_ok-list.field-0.places.items) (ap length c.deref-2.ensures.value ∙ c.in_ok-readers.ensures.size) c.in_ok-list.ensures)
    c.deref-5.result.now c.len.result c.deref-5.ensures.value (c.len.ensures ∙ c.args.nodes.ok.0 ∙ c.requires.size)
