use Rattle.std.proofs.Common.{◌≡◌, ◌≤◌, take, drop, length, sym, ap, subst, arith}
use Rattle.std.specs.Vec.Iter.{into_iter_len}
use Rattle.std.proofs.lemmas.Iterator.Adapters.{YieldsList-from_vec}
use Rattle.std.proofs.lemmas.Iterator.Consumers.{YieldsList-turn, YieldsList-end}
use Rattle.std.specs.Option.{option_map}
use Rattle.lt_resolve.specs.declared.fault.NameKind.TheVariants.{Unknown}
use Rattle.lt_resolve.specs.Names.{first_some}
use Rattle.lt_resolve.specs.Faults.{unknown_equation}
use Rattle.lt_resolve.specs.Named.{Along}
use Rattle.lt_resolve.specs.Drafts.{IsDraftEquation}
use Rattle.lt_resolve.proofs.Lists.{some_next, some_none}
use Rattle.lt_resolve.proofs.Pairs.{along_more, along_all}
use Rattle.lt_resolve.proofs.Taken.{Standing, none_standing, standing_at, shows_on, one_longer}
use Rattle.lt_resolve.proofs.taking.taken_equations.Goals as goal

pub eqs-preserved : goal.eqs-preserved
eqs-preserved c =
    let f = unknown_equation c.args.variables.now c.args.functions.now in
    let R = IsDraftEquation c.args.variables.now c.args.functions.now in
    let all = c.args.eqs.items in
    let k = length c.eqs.yielded in
    let eq = c.in-Some.eq in
    let many : into_iter_len c.into_iter-eq-iterator.result ≡ length all = (let ok = c.args.eqs.ok in let g = c.into_iter-eq-iterator.ensures.into_iter_gives.1 in omega (arith, ok, g)) in
    let turn = YieldsList-turn (YieldsList-from_vec {s = c.into_iter-eq-iterator.result} all c.into_iter-eq-iterator.ensures.into_iter_gives.0 many) c.eqs.yielded c.eqs.eq-iterator c.eqs.yielded_by c.next.result c.next.new.self eq c.in-Some.is c.next.ensures.steps in
    let longer = sym (one_longer c.eqs.yielded eq) in
    record {
      rest = subst (λ m. first_some f (drop m all) ≡ first_some f all) longer (some_next f all k eq turn.0 turn.1 (none_standing c.args.place (f eq) c.in_ok-taken_equation.ensures.shown) c.eqs.invariant.rest);
      along = subst (λ m. Along R (take m all) c.push.new.self.items) longer (along_more R all k eq c.eqs.list.items c.push.new.self.items c.in_ok-taken_equation.field-0 turn.0 turn.1 c.eqs.invariant.along c.in_ok-taken_equation.ensures.named c.in_ok-push.ensures.items);
    }

pub returns-in_err-taken_equation-clause-shown : goal.returns-in_err-taken_equation-clause-shown
returns-in_err-taken_equation-clause-shown c =
    let f = unknown_equation c.args.variables.now c.args.functions.now in
    let all = c.args.eqs.items in
    let eq = c.in-Some.eq in
    let many : into_iter_len c.into_iter-eq-iterator.result ≡ length all = (let ok = c.args.eqs.ok in let g = c.into_iter-eq-iterator.ensures.into_iter_gives.1 in omega (arith, ok, g)) in
    let turn = YieldsList-turn (YieldsList-from_vec {s = c.into_iter-eq-iterator.result} all c.into_iter-eq-iterator.ensures.into_iter_gives.0 many) c.eqs.yielded c.eqs.eq-iterator c.eqs.yielded_by c.next.result c.next.new.self eq c.in-Some.is c.next.ensures.steps in
    shows_on Unknown (Standing c.args.place (f eq)) (Standing c.args.place (first_some f all)) c.in_err-taken_equation.field-0.0 _ c.from_residual-in_err-taken_equation.ensures.1
    (standing_at f c.args.place all (length c.eqs.yielded) eq turn.0 turn.1 c.eqs.invariant.rest) c.in_err-taken_equation.ensures.shown

pub returns-clause-shown : goal.returns-clause-shown
returns-clause-shown c =
    let f = unknown_equation c.args.variables.now c.args.functions.now in
    let all = c.args.eqs.items in
    let many : into_iter_len c.into_iter-eq-iterator.result ≡ length all = (let ok = c.args.eqs.ok in let g = c.into_iter-eq-iterator.ensures.into_iter_gives.1 in omega (arith, ok, g)) in
    let end = YieldsList-end (YieldsList-from_vec {s = c.into_iter-eq-iterator.result} all c.into_iter-eq-iterator.ensures.into_iter_gives.0 many) c.eqs.yielded c.eqs.eq-iterator c.eqs.yielded_by c.next.result c.next.new.self c.in-None.is c.next.ensures.steps in
    let whole : length all ≤ length c.eqs.yielded = (let e = end.1 in omega (arith, e)) in
    sym (ap (option_map (λ x. (c.args.place, x))) (some_none f all (length c.eqs.yielded) whole c.eqs.invariant.rest))

pub returns-clause-named : goal.returns-clause-named
returns-clause-named c =
    let all = c.args.eqs.items in
    let many : into_iter_len c.into_iter-eq-iterator.result ≡ length all = (let ok = c.args.eqs.ok in let g = c.into_iter-eq-iterator.ensures.into_iter_gives.1 in omega (arith, ok, g)) in
    let end = YieldsList-end (YieldsList-from_vec {s = c.into_iter-eq-iterator.result} all c.into_iter-eq-iterator.ensures.into_iter_gives.0 many) c.eqs.yielded c.eqs.eq-iterator c.eqs.yielded_by c.next.result c.next.new.self c.in-None.is c.next.ensures.steps in
    along_all (IsDraftEquation c.args.variables.now c.args.functions.now) all (length c.eqs.yielded) c.eqs.list.items (let e = end.1 in omega (arith, e)) c.eqs.invariant.along
