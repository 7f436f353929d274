use Rattle.std.proofs.Common.{length, sym, ap, ◌∙◌, refl, arith}
use Rattle.std.proofs.lemmas.List.{take_all, length-set, length_push}
use Rattle.lt_graph.specs.declared.search.Mark.TheVariants.{Done}
use Rattle.lt_graph.proofs.Standing.{close_begins, top_inside, close_more, close_stack}
use Rattle.lt_graph.proofs.search.Search.close.Goals as goal

pub loop-self-init : goal.loop-self-init
loop-self-init c =
    let s = c.args.self.now in
    record {
      size = refl;
      marks = close_begins s.marks.items s.stack.items c.args.name c.requires.open c.requires.placed;
      rest = refl;
      low = c.requires.place;
      high = omega arith;
      stack = sym (take_all (length s.stack.items) s.stack.items (omega arith));
      starts = refl;
      path = refl;
    }

pub index_mut-requires : goal.index_mut-requires
index_mut-requires c =
    let s = c.args.self.now in
    let now' = c.loop-self.self in
    let i = c.loop-self.invariant in
    let l = top_inside s.marks.items s.stack.items c.args.name c.requires.open c.requires.placed now'.marks.items now'.stack.items c.pop.new.self.items c.in-Some.x i.size i.high i.stack c.in-Some.ensures.items in
    let k = now'.marks.ok.0 in
    omega (arith, l, k)

pub loop-self-preserved-in-Some : goal.loop-self-preserved-in-Some
loop-self-preserved-in-Some c =
    let s = c.args.self.now in
    let now' = c.loop-self.self in
    let i = c.loop-self.invariant in
    let x = c.in-Some.x in
    let top = c.in-Some.ensures.items in
    let more = ap length top ∙ length_push c.pop.new.self.items x in
    let test = c.loop-self-test.true in
    let len = c.len.ensures in
    let ok = now'.stack.ok.0 in
    let high = i.high in
    record {
      size = length-set now'.marks.items x (Done c.args.name) ∙ i.size;
      marks = close_more s.marks.items s.stack.items c.args.name c.requires.open c.requires.placed now'.marks.items now'.stack.items c.pop.new.self.items x i.size i.high i.stack top i.marks;
      rest = i.rest;
      low = omega (arith, more, test, len, ok);
      high = omega (arith, more, high);
      stack = close_stack s.marks.items s.stack.items c.args.name c.requires.open c.requires.placed now'.marks.items now'.stack.items c.pop.new.self.items x i.size i.high i.stack top;
      starts = i.starts;
      path = i.path;
    }
