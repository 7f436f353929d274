use Rattle.std.proofs.Common.{◌≤◌, ◌<◌, ◌-◌, length, drop, take, true, ap, sym, subst, arith}
use Rattle.std.proofs.lemmas.List.{take_rest}
use Rattle.std.specs.Prelude.{slice_set}
use Rattle.lt_past.specs.declared.tokens.Front.TheVariants as front
use Rattle.lt_past.specs.Marking.{IsMarkedTo}
use Rattle.lt_past.proofs.Loop.{found, place, shorter}
use Rattle.lt_past.proofs.Naming.{name_more, sign_more, bad_name}
use Rattle.lt_past.proofs.names.mark_names.Goals as goal

pub returns-in-Err : goal.returns-in-Err
returns-in-Err c =
    let here = c.skip-here.result.now in
    let n = c.in-Name.n in
    let e = found c.read_front.result (front.Name n) here c.text.rest.now c.skip-here.ensures.value c.read_front.ensures.value c.in-Name.is in
    let h : length here ≤ length c.args.bytes.now = omega (arith, c.skip-here.ensures.length, c.text.invariant.within) in
    bad_name c.args.main.now c.args.bytes.now c.text.rest.now c.args.marks.now c.text.marks c.text.invariant.so_far (length c.args.bytes.now - length here) (take n here) (drop n here) c.in-Err.kind e (sym c.in-Err.ensures.value)
    (place c.args.bytes.now c.text.rest.now here c.skip-here.ensures.value h)

pub text-preserved-in-Name : goal.text-preserved-in-Name
text-preserved-in-Name c =
    let here = c.skip-here.result.now in
    let n = c.in-Name.n in
    let e = found c.read_front.result (front.Name n) here c.text.rest.now c.skip-here.ensures.value c.read_front.ensures.value c.in-Name.is in
    let a = take_rest here n in
    let low : c.in-Ok.place < length c.text.marks = omega (arith, c.in-Ok.ensures.low, c.text.auto.marks, c.requires) in
    let g = name_more c.args.main.now c.args.bytes.now c.text.rest.now c.args.marks.now c.text.marks c.text.invariant.so_far (take n here) (drop n here) c.in-Ok.place e (sym c.in-Ok.ensures.value) low in
    record {
      within = omega (arith, ap length a, shorter n here, c.skip-here.ensures.length, c.text.invariant.within);
      so_far = subst (λ z. IsMarkedTo c.args.main.now c.args.bytes.now z c.args.marks.now (slice_set c.text.marks c.in-Ok.place true)) (sym a) g;
    }

pub text-preserved : goal.text-preserved
text-preserved c =
    let here = c.skip-here.result.now in
    let n = c.in-Other.n in
    let e = found c.read_front.result (front.Other c.in-Other.field-0 n) here c.text.rest.now c.skip-here.ensures.value c.read_front.ensures.value c.in-Other.is in
    let a = take_rest here n in
    let g = sign_more c.args.main.now c.args.bytes.now c.text.rest.now c.args.marks.now c.text.marks c.text.invariant.so_far c.in-Other.field-0 (drop n here) e in
    record {
      within = omega (arith, ap length a, shorter n here, c.skip-here.ensures.length, c.text.invariant.within);
      so_far = subst (λ z. IsMarkedTo c.args.main.now c.args.bytes.now z c.args.marks.now c.text.marks) (sym a) g;
    }
