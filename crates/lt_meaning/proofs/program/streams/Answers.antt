use Rattle.std.proofs.Common.{◌<◌, List, ℕ, length, sym, subst, arith}
use Rattle.std.specs.List.{All}
use Rattle.std.proofs.lemmas.List.Elements.{All-from_get_or}
use Rattle.lt_base.specs.declared.value.Cell.{Cell}
use Rattle.lt_base.proofs.Lookups.{function_all}
use Rattle.lt_meaning.specs.Streams.{NumbersFit, HasMainStreams, HasStreamsOf}
use Rattle.lt_meaning.proofs.Tables.{main_types, main_streams_of, of_main}
use Rattle.lt_meaning.proofs.program.streams.Goals as goal

pub variables_of-requires : goal.variables_of-requires
variables_of-requires c =
    let p = c.args.p.now in
    (function_all NumbersFit p.funcs c.requires.room p.main c.main_function.result.now c.main_function.ensures).variables

pub chosen_streams-requires-clause-checked : goal.chosen_streams-requires-clause-checked
chosen_streams-requires-clause-checked c = c.requires.checked

pub chosen_streams-requires-clause-fit : goal.chosen_streams-requires-clause-fit
chosen_streams-requires-clause-fit c = c.requires.fit

pub chosen_streams-requires-clause-room : goal.chosen_streams-requires-clause-room
chosen_streams-requires-clause-room c = c.requires.room

pub chosen_streams-requires-clause-variables : goal.chosen_streams-requires-clause-variables
chosen_streams-requires-clause-variables c =
    let f = c.main_function.result.now in
    let xs = c.in_ok-variables.variables.items in
    let number = c.in_ok-variables.ensures.number in
    let below : All (λ x. x < length f.decls) xs =
    All-from_get_or (λ x. x < length f.decls) xs 0 (λ i l. let e = c.in_ok-variables.ensures.each i (omega (arith, l, number)) in omega (arith, e, l, number)) in
    of_main c.args.p.now c.deref.result.now f c.main_function.ensures (subst (All (λ x. x < length f.decls)) (sym c.deref.ensures.value) below)

pub returns-in-Ok-clause-value : goal.returns-in-Ok-clause-value
returns-in-Ok-clause-value c =
    let p = c.args.p.now in
    let rows = c.args.inputs.now.rows in
    let xs = c.in_ok-variables.variables.items in
    let has : HasStreamsOf p rows xs c.in-Ok.columns = subst (λ (l : List ℕ). HasStreamsOf p rows l c.in-Ok.columns) c.deref.ensures.value c.in-Ok.ensures.value in
    subst (λ (t : List (List Cell)). HasMainStreams p rows t) (sym c.of.ensures)
    (main_streams_of p rows xs c.in-Ok.columns c.main_function.result.now c.main_function.ensures c.in_ok-variables.ensures.number c.in_ok-variables.ensures.each has)

pub returns-in-Ok-clause-types : goal.returns-in-Ok-clause-types
returns-in-Ok-clause-types c =
    let p = c.args.p.now in
    let rows = c.args.inputs.now.rows in
    let xs = c.in_ok-variables.variables.items in
    let has : HasStreamsOf p rows xs c.in-Ok.columns = subst (λ (l : List ℕ). HasStreamsOf p rows l c.in-Ok.columns) c.deref.ensures.value c.in-Ok.ensures.value in
    let streams : HasMainStreams p rows c.of.result =
    subst (λ (t : List (List Cell)). HasMainStreams p rows t) (sym c.of.ensures)
    (main_streams_of p rows xs c.in-Ok.columns c.main_function.result.now c.main_function.ensures c.in_ok-variables.ensures.number c.in_ok-variables.ensures.each has) in
    main_types p c.args.inputs.now c.of.result c.invariant_holds.ensures c.requires.checked c.requires.fit streams
