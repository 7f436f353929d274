use Rattle.std.proofs.Common.{◌≡◌, ◌+◌, ◌-◌, ◌*◌, ◌++◌, ◌∙◌, sym, ap, arith, append-nil}
use Rattle.lt_draw.specs.Heading.{drawn_lines, lines_below}
use Rattle.lt_draw.proofs.Further.{no_lines, lines_on, lines_end}
use Rattle.lt_draw.proofs.head.write_lines.Goals as goal

pub returns-then-left-eq0 : goal.returns-then-left-eq0
unfolding drawn_lines
returns-then-left-eq0 c =
    sym (ap (λ z. c.lines.out ++ z) (no_lines (40 - c.lines.k) c.args.per c.lines.y c.args.class.now c.lines.rest.now c.if-left-eq0.true) ∙ append-nil c.lines.out) ∙ c.lines.invariant.text

pub lines-preserved : goal.lines-preserved
lines-preserved c =
    let height = c.lines.invariant.height in
    record {
      height = omega arith;
      text = lines_on c.lines.k c.args.per c.lines.y c.line_cut-cut.result c.args.class.now c.lines.rest.now c.front.result.now c.behind-rest.result.now c.lines.out c.write_line.new.out _
          c.lines-test.true c.if-left-eq0.false c.line_cut-cut.ensures.value c.front.ensures c.behind-rest.ensures c.lines.invariant.text c.in_ok-write_line.ensures;
    }

pub returns : goal.returns
unfolding drawn_lines
returns c = lines_end c.lines.k c.args.per c.lines.y c.args.class.now c.lines.rest.now c.lines.out _ c.lines-test.false c.lines.invariant.text
