use Rattle.lt_place_reads.specs.Crossings.{HasPlaces}
use Rattle.lt_place_reads.proofs.crossings.in_order.Given as goal

abbrev pub invariant-loop-reader : goal.invariant-loop-reader
invariant-loop-reader l = HasPlaces l.readers l.reader-index l.list.items l.places.items
