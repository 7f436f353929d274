-- The step of a node.
use Rattle.std.specs.Prelude.{ℕ, ◌++◌, List, codes}
use Rattle.lt_base.specs.declared.function.Decl.{Decl}
use Rattle.lt_step.specs.Code.{KeepForm, LetForm}
use Rattle.lt_c.specs.Tree.{Statement, slot, output, assign, both, c_var}
use Rattle.lt_c.specs.Text.{spelled, statement_text}
use Rattle.lt_c_step.specs.Translate.{of_keeps}
use Rattle.lt_c_step.specs.Part.{feeding, telling, showing}
use Rattle.lt_c_step.specs.declared.sources.Output.{Output}
use Rattle.lt_c_heads.specs.declared.file.NodeFile.{NodeFile}
use Rattle.lt_c_heads.specs.Words.{text_if, spelling, indent}
use Rattle.lt_c_heads.specs.Types.{has_items}
use Rattle.lt_c_bodies.specs.Equations.{told_lets}

-- what the instant is fed with; its equations; its outputs; what delays keep. Before each stands a comment, where there is something in it
abbrev pub fed_text : NodeFile → List ℕ
fed_text f = text_if (has_items f.part.sources) (codes "    /* what the instant is fed with */\n") ++ statement_text (spelling f) indent (feeding 0 f.part.sources)

abbrev pub equations_text : List Decl → List LetForm → List ℕ
equations_text ds lets = text_if (has_items lets) (codes "    /* the equations */\n") ++ statement_text (spelled ds) indent (told_lets ds lets)

abbrev pub shown_text : NodeFile → List ℕ
shown_text f = text_if (has_items f.part.outputs) (codes "    /* the outputs */\n") ++ statement_text (spelling f) indent (showing f.part.outputs)

abbrev pub kept_text : List Decl → List KeepForm → List ℕ
kept_text ds keeps = text_if (has_items keeps) (codes "    /* what delays keep */\n") ++ statement_text (spelled ds) indent (of_keeps keeps)

-- an output is shown: whether it has a value, where it has a clock, and its value
abbrev pub shown_one : Output → Statement
shown_one o = both (telling o.output_number o.guard) (assign (output o.output_number) (c_var (slot o.from_slot)))

-- an instant is executed: the statements of the part's step, in which inputs are fed, lets are taken, outputs are shown and keeps are taken
abbrev pub execute_text : NodeFile → List ℕ
execute_text f =
    codes "\n/* Executes the next instant. */\nstatic void execute(void)\n{\n"
    ++ (fed_text f ++ (equations_text f.part.decls f.part.code.lets ++ (shown_text f ++ (kept_text f.part.decls f.part.code.keeps ++ codes "}\n"))))
