use Rattle.std.proofs.Common.{refl}
use Rattle.lt_resolve.proofs.Taken.{unknown_refuses, apart_all, right_all, main_named, blames_tree, program_good, program_resolved}
use Rattle.lt_resolve.proofs.taking.program_of_nodes.Goals as goal

pub taken_functions-requires-clause-apart : goal.taken_functions-requires-clause-apart
taken_functions-requires-clause-apart c = apart_all c.args.nodes.items c.requires.spelled c.requires.others c.args.functions.now c.requires.names c.args.nodes.items refl

pub taken_functions-requires-clause-right : goal.taken_functions-requires-clause-right
taken_functions-requires-clause-right c = right_all c.args.nodes.items c.requires.spelled c.requires.others c.args.functions.now c.requires.names c.args.nodes.items refl

pub returns-in_err-funcs : goal.returns-in_err-funcs
returns-in_err-funcs c =
    unknown_refuses c.args.nodes.items c.requires.others c.in_err-funcs.field-0.0 _ c.from_residual.ensures.1
    (blames_tree c.args.nodes.items c.requires.spelled c.requires.others c.args.functions.now c.requires.names c.args.nodes.items refl c.in_err-funcs.field-0.0 c.in_err-funcs.ensures.shown)

pub main_of-requires : goal.main_of-requires
main_of-requires c = main_named c.args.nodes.items c.requires.spelled c.requires.others c.args.functions.now c.requires.names c.args.nodes.items refl

pub new-requires : goal.new-requires
new-requires c =
    program_good c.args.nodes.items c.requires.spelled c.requires.others c.args.functions.now c.requires.names c.args.nodes.items refl
    c.in_ok-funcs.funcs.items c.in_ok-funcs.ensures.shown c.in_ok-funcs.ensures.functions c.of.result c.of.ensures c.main_of.result c.main_of.ensures

pub returns : goal.returns
returns c =
    program_resolved c.args.nodes.items c.requires.spelled c.requires.others c.args.functions.now c.requires.names c.args.nodes.items refl
    c.in_ok-funcs.funcs.items c.in_ok-funcs.ensures.shown c.in_ok-funcs.ensures.functions c.of.result c.of.ensures c.main_of.result c.main_of.ensures c.new.result c.new.ensures
