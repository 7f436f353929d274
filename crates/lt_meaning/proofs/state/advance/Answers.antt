use Rattle.std.proofs.Common.{◌∙◌, arith, length-set}
use Rattle.std.proofs.lemmas.Option.{slice_get_within}
use Rattle.lt_base.specs.Meaning.{entry}
use Rattle.lt_meaning.proofs.Keeping.{keeps_next}
use Rattle.lt_meaning.proofs.state.advance.Goals as goal

pub loop-j-preserved : goal.loop-j-preserved
loop-j-preserved c =
    let size = c.loop-j.invariant.size in
    let room = c.requires.next in
    let test = c.loop-j-test.true in
    record {
      size = length-set c.loop-j.next.items c.loop-j.j c.newest.result ∙ size;
      next = keeps_next c.args.delays.now (entry c.args.cells.now) (entry c.args.kept.now) c.loop-j.next.items c.loop-j.j c.index-delays-j.result c.newest.result
          test c.index-delays-j.is (omega (arith, size, room)) c.loop-j.invariant.next c.newest.ensures;
    }

pub returns-clause-next : goal.returns-clause-next
returns-clause-next c = λ j d h. let l = slice_get_within c.args.delays.now j d h in c.loop-j.invariant.next j d (omega (arith, l)) h
