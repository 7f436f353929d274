use Rattle.std.proofs.Common.{◌≡◌, [], sym, ap, subst, ◌∙◌}
use Rattle.std.specs.Option.{option_or}
use Rattle.std.proofs.lemmas.List.{take_all}
use Rattle.lt_resolve.specs.Names.{if_among, repeated_name}
use Rattle.lt_resolve.specs.declared.fault.NameKind.TheVariants.{Twice}
use Rattle.lt_resolve.specs.Scopes.{variables, functions}
use Rattle.lt_resolve.specs.Faults.{twice_in}
use Rattle.lt_resolve.specs.Told.{RefusesName}
use Rattle.lt_resolve.proofs.Lists.{in_next, in_none}
use Rattle.lt_resolve.proofs.Located.{blames_at, twice_at, functions_more, one_more}
use Rattle.lt_resolve.proofs.tables.scopes_of.Goals as goal

pub returns-in-Err-clause-shown : goal.returns-in-Err-clause-shown
returns-in-Err-clause-shown c =
    let t = c.args.nodes.now in
    let n = c.index-nodes-i.result in
    let twice : option_or (if_among c.nodes.functions n.name) (repeated_name [] (variables n)) ≡ twice_in (functions t) c.nodes.i n = twice_at t c.nodes.i n c.nodes.functions c.nodes.invariant.table in
    (blames_at Twice (twice_in (functions t)) t c.nodes.i n c.in-Err.error c.locate_fault.result c.nodes-test.true c.index-nodes-i.is c.nodes.invariant.rest c.locate_fault.ensures
    (subst (λ o. RefusesName o c.in-Err.error) twice c.in-Err.ensures.told))

pub nodes-preserved : goal.nodes-preserved
nodes-preserved c =
    let t = c.args.nodes.now in
    let n = c.index-nodes-i.result in
    let at = c.index-nodes-i.is in
    record {
      table = c.in-Ok.ensures.names ∙ functions_more t c.nodes.i n c.nodes.functions c.nodes.invariant.table c.nodes-test.true at;
      done = one_more t c.nodes.scopes.items c.push.new.self.items c.nodes.i n c.in-Ok.scope c.nodes-test.true at c.nodes.invariant.done c.in-Ok.ensures.scope c.in_ok-push-in-Ok.ensures.items;
      rest = in_next (twice_in (functions t)) t c.nodes.i n c.nodes-test.true at (sym (twice_at t c.nodes.i n c.nodes.functions c.nodes.invariant.table) ∙ c.in-Ok.ensures.told) c.nodes.invariant.rest;
    }

pub returns-clause-shown : goal.returns-clause-shown
returns-clause-shown c =
    let t = c.args.nodes.now in
    sym (in_none (twice_in (functions t)) t c.nodes.i c.nodes-test.false c.nodes.invariant.rest)

pub returns-clause-scopes : goal.returns-clause-scopes
returns-clause-scopes c = c.nodes.invariant.done ∙ take_all c.nodes.i c.args.nodes.now c.nodes-test.false

pub returns-clause-names : goal.returns-clause-names
returns-clause-names c = c.nodes.invariant.table ∙ ap functions (take_all c.nodes.i c.args.nodes.now c.nodes-test.false)
