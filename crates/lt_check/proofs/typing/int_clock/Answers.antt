use Rattle.std.proofs.Common.{◌≡◌, ◌<◌, ◌∙◌, sym, ap, arith, length, subst, below_more}
use Rattle.lt_base.specs.Program.{Function}
use Rattle.lt_base.specs.Meaning.{clock_of}
use Rattle.lt_check.specs.TypeFaults.{AllBools, BoolClock}
use Rattle.lt_check.proofs.Found.{clock_read}
use Rattle.lt_check.proofs.typing.int_clock.Goals as goal

pub returns-then-not-is_bool_clock : goal.returns-then-not-is_bool_clock
returns-then-not-is_bool_clock c =
    let decls = ap (λ (f : Function). f.decls) c.f.view_is in
    let size = ap length (c.deref-decl-items.ensures ∙ decls) in
    let inside = c.loop-variable-test.true in
    let clock = clock_read c.args.f.now.decls c.f.inside.decls c.deref-decl-items.result.now c.loop-variable.variable c.decl-item.result c.deref-decl-items.ensures decls c.loop-variable-test.true c.decl-item.is in
    record {
      inside = omega (arith, size, inside);
      before = c.loop-variable.invariant;
      broken = λ all. c.if-not-is_bool_clock.ensures (λ k d l. ap (λ ds. Rattle.lt_base.specs.Typing.ty_at ds (Rattle.std.proofs.Common.get_or c.decl-item.result.clock k d).0) decls ∙ subst (AllBools c.args.f.now.decls) (sym clock) all k d l);
    }

pub loop-variable-preserved : goal.loop-variable-preserved
loop-variable-preserved c =
    let decls = ap (λ (f : Function). f.decls) c.f.view_is in
    let clock = clock_read c.args.f.now.decls c.f.inside.decls c.deref-decl-items.result.now c.loop-variable.variable c.decl-item.result c.deref-decl-items.ensures decls c.loop-variable-test.true c.decl-item.is in
    below_more (BoolClock c.args.f.now.decls) c.loop-variable.variable c.loop-variable.invariant (subst (λ ds. AllBools ds (clock_of c.args.f.now.decls c.loop-variable.variable)) decls (subst (AllBools c.f.inside.decls) clock c.if-not-is_bool_clock.ensures))
