use Rattle.std.proofs.Common.{◌≤◌, ◌-◌, length, Ok, ap, sym, subst, arith}
use Rattle.std.proofs.lemmas.List.{take_rest}
use Rattle.std.proofs.lemmas.Result.{err_from_is_err_and}
use Rattle.lt_syntax.specs.Phases.{state_of}
use Rattle.lt_syntax.specs.Program.{Spells}
use Rattle.lt_syntax.specs.Reads.{TakesToken}
use Rattle.lt_syntax.proofs.Reading.{SoFar}
use Rattle.lt_syntax.proofs.Loop.{fits_here, goes_on, ends_here, fails_here, shorter}
use Rattle.lt_syntax.proofs.read.take_tokens.Goals as goal

pub take_token-requires : goal.take_token-requires
take_token-requires c = fits_here 200 (omega arith) c.args.bytes.now c.text.rest.now (state_of c.text.p) c.text.invariant.so_far

pub text-preserved : goal.text-preserved
text-preserved c =
    let bytes = c.args.bytes.now in
    let here = c.skip-here.result.now in
    let n = c.in-Some.n in
    let s = state_of c.text.p in
    let s' = state_of c.take_token.new.p in
    let h : length here ≤ length bytes = omega (arith, c.skip-here.ensures.length, c.text.invariant.within) in
    let a = take_rest here n in
    let t = subst (λ z. TakesToken 200 (length bytes - length here) here s s' (Ok z)) c.in-Some.is c.in_ok-n.ensures in
    let g = goes_on 200 (omega arith) bytes c.text.rest.now here s s' c.text.invariant.so_far c.skip-here.ensures.value h n t in
    record {
      within = omega (arith, ap length a, shorter n here, h);
      so_far = subst (λ z. SoFar 200 bytes z s') (sym a) g;
    }

pub returns-in-None : goal.returns-in-None
returns-in-None c =
    let bytes = c.args.bytes.now in
    let here = c.skip-here.result.now in
    let s = state_of c.text.p in
    let s' = state_of c.take_token.new.p in
    let h : length here ≤ length bytes = omega (arith, c.skip-here.ensures.length, c.text.invariant.within) in
    let t = subst (λ z. TakesToken 200 (length bytes - length here) here s s' (Ok z)) c.in-None.is c.in_ok-n.ensures in
    let nodes = ends_here 200 (omega arith) bytes c.text.rest.now here s s' c.text.invariant.so_far c.skip-here.ensures.value h t in
    subst (Spells 200 bytes) (sym c.replace.ensures.value) nodes

pub returns-in_err-n : goal.returns-in_err-n
returns-in_err-n c =
    let bytes = c.args.bytes.now in
    let here = c.skip-here.result.now in
    let h : length here ≤ length bytes = omega (arith, c.skip-here.ensures.length, c.text.invariant.within) in
    let p = err_from_is_err_and c.from_residual.result c.from_residual.ensures.1 in
    rw (p.1, p.2) (fails_here 200 (omega arith) bytes c.text.rest.now here (state_of c.text.p) (state_of c.take_token.new.p) c.text.invariant.so_far c.skip-here.ensures.value h c.in_err-n.field-0.0 c.in_err-n.ensures)
