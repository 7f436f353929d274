use Rattle.std.proofs.Common.{◌≡◌, ◌∙◌, ◌<◌, ◌++◌, ◌∷◌, ◌+◌, [], Some, List, length, map, take, get_or, refl, sym, ap, subst, arith}
use Rattle.std.specs.List.{All}
use Rattle.lt_base.specs.declared.function.Decl.{Decl}
use Rattle.lt_base.specs.Program.{Function, WholeProgram}
use Rattle.lt_base.specs.Meaning.{Row, Environment, entry, function_of}
use Rattle.lt_base.specs.Behaviour.{newest_first}
use Rattle.lt_base.proofs.Defined.{good_function}
use Rattle.lt_base.proofs.Lookups.{function_below}
use Rattle.lt_meaning.specs.declared.state.State.{State, out-State}
use Rattle.lt_meaning.specs.declared.state.State.TheOpen.{State-F}
use Rattle.lt_meaning.specs.declared.state.State.TheViews.{out-roll-State, roll-State}
use Rattle.lt_meaning.specs.Plan.{inputs_at}
use Rattle.lt_meaning.specs.Stands.{StateStands, StateStarts, cells_of, row_in}
use Rattle.lt_meaning.specs.Ready.{cell_at_place}
use Rattle.lt_meaning.proofs.Instant.{some_at}
use Rattle.lt_meaning.proofs.Answering.{refilled}
use Rattle.lt_meaning.proofs.Tables.{row_width, newest_next, filled_is, room_of, shown_more, below_main, has_streams_of, fit_of}
use Rattle.lt_meaning.proofs.program.columns_of.Goals as goal

pub start-requires : goal.start-requires
start-requires c =
    let p = c.args.p.now in
    let a = c.requires.plans in
    let f = c.main_function-main.result.now in
    let main = ap (λ (q : WholeProgram). q.main) c.p.view_is in
    let low = a.low p.main (function_below p.funcs p.main f c.main_function-main.ensures) in
    let number = a.number in
    let height = ap a.planned.height main in
    record {
      planned = a.planned;
      function = f;
      is = ap (function_of a.planned.program.funcs) main ∙ ap (λ (q : WholeProgram). function_of q.funcs p.main) a.is ∙ c.main_function-main.ensures;
      low = omega (arith, low, number, height);
    }

pub loop-k-init : goal.loop-k-init
loop-k-init c = λ a f is.
    let p = c.args.p.now in
    let main = ap (λ (q : WholeProgram). q.main) c.p.view_is in
    let low = a.low p.main (function_below p.funcs p.main f is) in
    let number = a.number in
    let there : function_of a.planned.program.funcs p.main ≡ Some f = ap (λ (q : WholeProgram). function_of q.funcs p.main) a.is ∙ is in
    let started : StateStarts c.args.plans.now p.main (length c.args.plans.now) c.in_ok-state.state = subst (λ g. StateStarts c.args.plans.now g (length c.args.plans.now) c.in_ok-state.state) main c.in_ok-state.ensures in (
      [],
      record {
        stands = started a.planned f there (omega (arith, low, number));
        number = c.in_ok-columns.ensures.number;
        columns_are = λ i l. c.in_ok-columns.ensures.empty i;
      },
    )

pub load-requires-clause-row : goal.load-requires-clause-row
load-requires-clause-row c = let l = c.loop-k-test.true in let e = c.rows-k-end.ensures in omega (arith, l, e)

pub load-requires-clause-width : goal.load-requires-clause-width
load-requires-clause-width c =
    let fit = fit_of c.args.p.now c.args.inputs.now c.main_function-main.result.now c.main_function-main.ensures c.requires.fit in
    fit.width ∙ sym (ap (λ (f : Function). f.n_in) c.main.view_is)

pub load-requires-clause-room : goal.load-requires-clause-room
load-requires-clause-room c =
    let p = c.args.p.now in
    let a = c.requires.plans in
    let f = c.main_function-main.result.now in
    let s = c.loop-k.invariant a f c.main_function-main.ensures in
    let there : function_of a.planned.program.funcs p.main ≡ Some f = ap (λ (q : WholeProgram). function_of q.funcs p.main) a.is ∙ c.main_function-main.ensures in
    let room = (room_of c.args.plans.now a.planned (length c.args.plans.now) c.loop-k.state p.main (newest_first (take c.loop-k.k c.args.inputs.now.rows)) s.0 f s.1.stands there).0 in
    let width = ap (λ (f : Function). f.n_in) c.main.view_is in
    omega (arith, room, width)

pub run-requires : goal.run-requires
run-requires c =
    let p = c.args.p.now in
    let plans = c.args.plans.now in
    let a = c.requires.plans in
    let main : c.p.inside.main ≡ p.main = ap (λ (q : WholeProgram). q.main) c.p.view_is in
    let s = c.loop-k.invariant a c.main_function-main.result.now c.main_function-main.ensures in
    let o = out-State c.loop-k.state in
    let v : State-F State = record { cells = c.load.new.cells; kept = o.kept; next = o.next; children = o.children } in
    let rows = newest_first (take c.loop-k.k c.args.inputs.now.rows) in
    let st : StateStands plans a.planned (length plans) c.loop-k.state c.p.inside.main rows s.0 = subst (λ g. StateStands plans a.planned (length plans) c.loop-k.state g rows s.0) (sym main) s.1.stands in
    (a.planned, length plans, rows, s.0, refilled plans c.p.inside.main a.planned (length plans) rows s.0 c.loop-k.state (roll-State v) v (out-roll-State v) c.load.ensures.size refl refl refl st)

pub show-requires-clause-columns : goal.show-requires-clause-columns
show-requires-clause-columns c = (c.loop-k.invariant c.requires.plans c.main_function-main.result.now c.main_function-main.ensures).1.number

pub show-requires-clause-variables : goal.show-requires-clause-variables
show-requires-clause-variables c =
    let decls = c.as_slice-decls.ensures ∙ ap (λ (f : Function). f.decls) c.main.view_is in
    subst (λ (ds : List Decl). All (λ x. x < length ds) c.args.variables.now) (sym decls) (below_main c.args.p.now c.args.variables.now c.main_function-main.result.now c.main_function-main.ensures c.requires.variables)

pub loop-k-preserved : goal.loop-k-preserved
loop-k-preserved c = λ a f is.
    let p = c.args.p.now in
    let plans = c.args.plans.now in
    let rows = c.args.inputs.now.rows in
    let k = c.loop-k.k in
    let main : c.p.inside.main ≡ p.main = ap (λ (q : WholeProgram). q.main) c.p.view_is in
    let f_is : c.main_function-main.result.now ≡ f = let here = c.main_function-main.ensures in cc (here, is) in
    let main_is = c.main.view_is ∙ f_is in
    let decls : c.as_slice-decls.result.now ≡ f.decls = c.as_slice-decls.ensures ∙ ap (λ (f : Function). f.decls) main_is in
    let n_in : c.main.inside.n_in ≡ f.n_in = ap (λ (f : Function). f.n_in) main_is in
    let there : function_of a.planned.program.funcs p.main ≡ Some f = ap (λ (q : WholeProgram). function_of q.funcs p.main) a.is ∙ is in
    let s = c.loop-k.invariant a f is in
    let es = s.0 in
    let o = out-State c.loop-k.state in
    let v : State-F State = record { cells = c.load.new.cells; kept = o.kept; next = o.next; children = o.children } in
    let old = newest_first (take k rows) in
    let st : StateStands plans a.planned (length plans) c.loop-k.state c.p.inside.main old es = subst (λ g. StateStands plans a.planned (length plans) c.loop-k.state g old es) (sym main) s.1.stands in
    let filled = refilled plans c.p.inside.main a.planned (length plans) old es c.loop-k.state (roll-State v) v (out-roll-State v) c.load.ensures.size refl refl refl st in
    let ran = c.run.ensures a.planned (length plans) old es filled in
    let env : Environment = entry (cells_of c.run.new.state) in
    let l = c.loop-k-test.true in
    let e = c.rows-k-end.ensures in
    let row = some_at rows k (omega (arith, l, e)) in
    let fit = fit_of p c.args.inputs.now f is c.requires.fit in
    let good = good_function a.planned.program a.planned.good a.planned.checked p.main f there in
    let width : length row.0 ≡ f.n_in = row_width f good rows k row.0 fit.rows row.1 in
    let inputs : inputs_at plans c.p.inside.main ≡ f.n_in = ap (inputs_at plans) main ∙ (room_of plans a.planned (length plans) c.loop-k.state p.main old es f s.1.stands there).1 in
    let put : take c.main.inside.n_in c.load.new.cells.items ≡ map Some row.0 = filled_is rows k row.0 c.load.new.cells.items c.main.inside.n_in row.1 (width ∙ sym n_in) c.load.ensures.row in
    let row_is : row_in plans c.p.inside.main (roll-State v) ≡ map Some row.0 =
    ap (λ (u : State-F State). take (inputs_at plans c.p.inside.main) u.cells.items) (out-roll-State v) ∙ ap (λ m. take m c.load.new.cells.items) (inputs ∙ sym n_in) ∙ put in
    let rows_are : row_in plans c.p.inside.main (roll-State v) ∷ old ≡ newest_first (take (k + 1) rows) = ap (λ r. r ∷ old) row_is ∙ sym (newest_next rows k row.0 row.1) in
    let stands : StateStands plans a.planned (length plans) c.run.new.state p.main (newest_first (take (k + 1) rows)) (env ∷ es) =
    subst (λ g. StateStands plans a.planned (length plans) c.run.new.state g (newest_first (take (k + 1) rows)) (env ∷ es)) main
    (subst (λ (r : List Row). StateStands plans a.planned (length plans) c.run.new.state c.p.inside.main r (env ∷ es)) rows_are ran) in
    let cells : entry c.deref.result.now ≡ env = ap entry c.deref.ensures.value in (
      env ∷ es,
      record {
        stands = stands;
        number = c.show.ensures.size ∙ s.1.number;
        columns_are = λ i m.
            c.in_ok-show.ensures.shown i m
            ∙ (λ j. s.1.columns_are i m j ++ cell_at_place (decls j) (cells j) c.args.variables.now i ∷ [])
            ∙ sym (shown_more f (get_or c.args.variables.now i 0) env es);
      },
    )

pub returns : goal.returns
returns c =
    let p = c.args.p.now in
    let a = c.requires.plans in
    let f = c.main_function-main.result.now in
    let s = c.loop-k.invariant a f c.main_function-main.ensures in
    let l = c.loop-k-test.false in
    let e = c.rows-k-end.ensures in
    has_streams_of p c.args.plans.now a c.args.inputs.now.rows c.loop-k.k c.loop-k.state c.loop-k.columns.items c.args.variables.now f s.0 c.main_function-main.ensures (omega (arith, l, e))
    (below_main p c.args.variables.now f c.main_function-main.ensures c.requires.variables) s.1
