use Rattle.std.proofs.Common.{◌≤◌, ◌-◌, length, drop, take, ap, sym, subst, arith}
use Rattle.std.proofs.lemmas.List.{take_rest}
use Rattle.lt_past.specs.declared.tokens.Front.TheVariants as front
use Rattle.lt_past.specs.Tokens.{name, sign}
use Rattle.lt_past.specs.Naming.{output_number}
use Rattle.lt_past.specs.Parsed.{observer_state_of}
use Rattle.lt_past.proofs.Loop.{SoFar, fits_here, refused, made, over, bad_byte, found, place, shorter}
use Rattle.lt_past.proofs.reading.read_formula.Goals as goal

pub returns-in-Err : goal.returns-in-Err
returns-in-Err c =
    let here = c.skip-here.result.now in
    let n = c.in-Name.n in
    let e = found c.read_front.result (front.Name n) here c.text.rest.now c.skip-here.ensures.value c.read_front.ensures.value c.in-Name.is in
    let h : length here ≤ length c.args.bytes.now = omega (arith, c.skip-here.ensures.length, c.text.invariant.within) in
    refused 200 (omega arith) (output_number c.args.main.now c.args.outs.now) c.args.bytes.now c.text.rest.now (observer_state_of c.text.parser) c.text.invariant.so_far (length c.args.bytes.now - length here) (name (take n here)) (drop n here) c.step_name.result c.in-Err.e e
    (place c.args.bytes.now c.text.rest.now here c.skip-here.ensures.value h) c.step_name.ensures.steps c.in-Err.ensures

pub text-preserved-in-Name : goal.text-preserved-in-Name
text-preserved-in-Name c =
    let here = c.skip-here.result.now in
    let n = c.in-Name.n in
    let number = output_number c.args.main.now c.args.outs.now in
    let e = found c.read_front.result (front.Name n) here c.text.rest.now c.skip-here.ensures.value c.read_front.ensures.value c.in-Name.is in
    let a = take_rest here n in
    let g = made 200 (omega arith) number c.args.bytes.now c.text.rest.now (observer_state_of c.text.parser) c.text.invariant.so_far (length c.args.bytes.now - length here) (name (take n here)) (drop n here) c.step_name.result c.in-Ok.next e c.step_name.ensures.steps c.in-Ok.ensures in
    record {
      within = omega (arith, ap length a, shorter n here, c.skip-here.ensures.length, c.text.invariant.within);
      so_far = subst (λ z. SoFar 200 number c.args.bytes.now z (observer_state_of c.in-Ok.next)) (sym a) g;
    }

pub step_sign-requires : goal.step_sign-requires
step_sign-requires c = fits_here 200 (omega arith) (output_number c.args.main.now c.args.outs.now) c.args.bytes.now c.text.rest.now (observer_state_of c.text.parser) c.text.invariant.so_far

pub returns-in-Err-place_fault : goal.returns-in-Err-place_fault
returns-in-Err-place_fault c =
    let here = c.skip-here.result.now in
    let n = c.in-Other.n in
    let number = output_number c.args.main.now c.args.outs.now in
    let e = found c.read_front.result (front.Other c.in-Other.sign n) here c.text.rest.now c.skip-here.ensures.value c.read_front.ensures.value c.in-Other.is in
    let h : length here ≤ length c.args.bytes.now = omega (arith, c.skip-here.ensures.length, c.text.invariant.within) in
    refused 200 (omega arith) number c.args.bytes.now c.text.rest.now (observer_state_of c.text.parser) c.text.invariant.so_far (length c.args.bytes.now - length here) (sign c.in-Other.sign) (drop n here) c.step_sign.result c.in-Err-place_fault.e e
    (place c.args.bytes.now c.text.rest.now here c.skip-here.ensures.value h) (c.step_sign.ensures number) c.in-Err-place_fault.ensures

pub text-preserved : goal.text-preserved
text-preserved c =
    let here = c.skip-here.result.now in
    let n = c.in-Other.n in
    let number = output_number c.args.main.now c.args.outs.now in
    let e = found c.read_front.result (front.Other c.in-Other.sign n) here c.text.rest.now c.skip-here.ensures.value c.read_front.ensures.value c.in-Other.is in
    let a = take_rest here n in
    let g = made 200 (omega arith) number c.args.bytes.now c.text.rest.now (observer_state_of c.text.parser) c.text.invariant.so_far (length c.args.bytes.now - length here) (sign c.in-Other.sign) (drop n here) c.step_sign.result c.in-Ok-place_fault.next e (c.step_sign.ensures number) c.in-Ok-place_fault.ensures in
    record {
      within = omega (arith, ap length a, shorter n here, c.skip-here.ensures.length, c.text.invariant.within);
      so_far = subst (λ z. SoFar 200 number c.args.bytes.now z (observer_state_of c.in-Ok-place_fault.next)) (sym a) g;
    }

pub end_formula-requires : goal.end_formula-requires
end_formula-requires c = fits_here 200 (omega arith) (output_number c.args.main.now c.args.outs.now) c.args.bytes.now c.text.rest.now (observer_state_of c.text.parser) c.text.invariant.so_far

pub returns-in-Over : goal.returns-in-Over
returns-in-Over c =
    let here = c.skip-here.result.now in
    let e = found c.read_front.result front.Over here c.text.rest.now c.skip-here.ensures.value c.read_front.ensures.value c.in-Over.is in
    let h : length here ≤ length c.args.bytes.now = omega (arith, c.skip-here.ensures.length, c.text.invariant.within) in
    over 200 (omega arith) (output_number c.args.main.now c.args.outs.now) c.args.bytes.now c.text.rest.now (observer_state_of c.text.parser) c.text.invariant.so_far (length c.args.bytes.now - length here) c.end_formula.result e
    (place c.args.bytes.now c.text.rest.now here c.skip-here.ensures.value h) c.end_formula.ensures

pub returns-in-BadByte : goal.returns-in-BadByte
returns-in-BadByte c =
    let here = c.skip-here.result.now in
    let e = found c.read_front.result front.BadByte here c.text.rest.now c.skip-here.ensures.value c.read_front.ensures.value c.in-BadByte.is in
    let h : length here ≤ length c.args.bytes.now = omega (arith, c.skip-here.ensures.length, c.text.invariant.within) in
    bad_byte 200 (omega arith) (output_number c.args.main.now c.args.outs.now) c.args.bytes.now c.text.rest.now (observer_state_of c.text.parser) c.text.invariant.so_far (length c.args.bytes.now - length here) e
    (place c.args.bytes.now c.text.rest.now here c.skip-here.ensures.value h)
