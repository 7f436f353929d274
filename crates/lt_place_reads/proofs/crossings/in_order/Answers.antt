use Rattle.std.proofs.Common.{◌≡◌, ◌∷◌, [], ◌++◌, ◌∙◌, ap, arith, subst, length, Some}
use Rattle.lt_place_reads.specs.Crossings.{HasPlaces}
use Rattle.lt_place_reads.proofs.Crossed.{none_placed, some_placed}
use Rattle.lt_place_reads.proofs.crossings.in_order.Goals as goal
use Rattle.lt_place_reads.proofs.crossings.in_order.Goals.{in-Some+in_ok-push-in-Some+in_ok-push-in-Some-2, in-None+in_ok-push-in-None}

pub loop-reader-preserved : goal.loop-reader-preserved
loop-reader-preserved c = elim c.match-reader.branch [
  | in-Some+in_ok-push-in-Some+in_ok-push-in-Some-2 w ↦
      some_placed c.args.readers.now c.requires.own c.loop-reader.reader-index c.loop-reader-test.true c.loop-reader.list.items c.loop-reader.places.items c.loop-reader.invariant w.in-Some.crossing w.in-Some.is c.match-reader.list.items c.match-reader.places.items (ap (λ v. v.items) w.list-is ∙ w.in_ok-push-in-Some.ensures.items)
      (ap (λ v. v.items) w.places-is ∙ w.in_ok-push-in-Some-2.ensures.items ∙ ap (λ n. c.loop-reader.places.items ++ Some n ∷ []) (c.len-place.ensures ∙ c.loop-reader.list.ok.0))
  | in-None+in_ok-push-in-None w ↦
      none_placed c.args.readers.now c.requires.own c.loop-reader.reader-index c.loop-reader-test.true c.loop-reader.list.items c.loop-reader.places.items c.loop-reader.invariant w.in-None.is c.match-reader.list.items c.match-reader.places.items (ap (λ v. v.items) w.list-is) (ap (λ v. v.items) w.places-is ∙ w.in_ok-push-in-None.ensures.items)
]

pub returns : goal.returns
returns c =
    let a = c.loop-reader-test.false in
    let b = c.loop-reader.auto.reader-index-end in
    let e : c.loop-reader.reader-index ≡ length c.args.readers.now = omega arith in
    subst (λ n. HasPlaces c.args.readers.now n c.loop-reader.list.items c.loop-reader.places.items) e c.loop-reader.invariant
