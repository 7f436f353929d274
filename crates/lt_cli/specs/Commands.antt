-- What is right to print for the words and the bytes of the files. Each command has a file below this one.
pub mod Check
pub mod Meaning
pub mod Run
pub mod Plan
pub mod Sim
pub mod Big
pub mod Watch
pub mod Audit
pub mod Trace
use Rattle.std.specs.Prelude.{◌≡◌, ℕ, List, [], Option, Some, None, Err}
use Rattle.lt_text_lines.specs.PlanText.{plan_of}
use Rattle.lt_words.specs.Reading.{Said, check, meaning, run, plan, sim, big, audit, trace, command_of}
use Rattle.lt_words.specs.Reading as said
use Rattle.lt_io.specs.Visits.{Errand}
use Rattle.lt_answer.specs.Answered.{Verdict}
use Rattle.lt_answer.specs.World.{World}
use Rattle.lt_load.specs.Errands.{config_errand, check_errands, load_errands}
use Rattle.lt_evaluate.specs.Errands.{meaning_errands}
use Rattle.lt_run.specs.Errands.{run_errands}
use Rattle.lt_inspect.specs.Errands.{inspect_errands}
use Rattle.lt_watch.specs.Errands.{watch_errands}
use Rattle.lt_text_answers.specs.declared.refusal.Refusal.{Refusal}
use Rattle.lt_text_answers.specs.declared.refusal.Refusal.TheVariants.{Words}
use Rattle.lt_text_answers.specs.Replies.{checked_text, printed_text, summarized_text, watch_refusal}
use Rattle.lt_text_answers.specs.Texts.{watched_text, audited_text, drawing_text}
use Rattle.lt_cli.specs.Answers.{answer_verdict, text_verdict}
use Rattle.lt_cli.specs.Commands.Check.{check_verdict}
use Rattle.lt_cli.specs.Commands.Meaning.{meaning_verdict}
use Rattle.lt_cli.specs.Commands.Run.{run_verdict}
use Rattle.lt_cli.specs.Commands.Plan.{plan_verdict}
use Rattle.lt_cli.specs.Commands.Sim.{sim_verdict}
use Rattle.lt_cli.specs.Commands.Big.{big_verdict}
use Rattle.lt_cli.specs.Commands.Watch.{watch_verdict}
use Rattle.lt_cli.specs.Commands.Audit.{audit_verdict}
use Rattle.lt_cli.specs.Commands.Trace.{trace_verdict}

-- a command on these files; that of a run says what the fabric holds when it has ended, and how far the schedule was read
abbrev pub command_verdict : (named : List ℕ → Option (List ℕ)) → (new : World) → Said → Verdict (List ℕ) Refusal
command_verdict named new (check program config) = text_verdict checked_text (check_verdict named program config)
command_verdict named new (meaning program inputs) = text_verdict printed_text (meaning_verdict named program inputs)
command_verdict named new (run program inputs schedule config) = text_verdict printed_text (run_verdict named program inputs schedule config new)
command_verdict named new (plan config horizon) = text_verdict (λ setup. plan_of setup horizon) (plan_verdict named config)
command_verdict named new (sim program inputs config seed horizon) = text_verdict drawing_text (sim_verdict named program inputs config seed horizon)
command_verdict named new (big instants) = text_verdict (summarized_text instants) (big_verdict instants new.fabric)
command_verdict named new (said.watch program inputs schedule observer config) = answer_verdict watch_refusal watched_text (watch_verdict named program inputs schedule observer config new)
command_verdict named new (audit program inputs schedule config) = text_verdict audited_text (audit_verdict named program inputs schedule config new.files)
command_verdict named new (trace program inputs schedule config node from to) = text_verdict (λ text. text) (trace_verdict named program inputs schedule config node from to new.files)

-- the files of a command, in their order, and how far each may be read; the large input is in none
abbrev pub said_errands : Said → List Errand
said_errands (check program config) = check_errands program config
said_errands (meaning program inputs) = meaning_errands program inputs
said_errands (run program inputs schedule config) = run_errands program inputs schedule config
said_errands (plan config horizon) = config_errand config
said_errands (sim program inputs config seed horizon) = load_errands program inputs (Some config)
said_errands (big instants) = []
said_errands (said.watch program inputs schedule observer config) = watch_errands program inputs schedule observer config
said_errands (audit program inputs schedule config) = inspect_errands program inputs schedule config
said_errands (trace program inputs schedule config place from to) = inspect_errands program inputs schedule config

-- words that say no command have none
abbrev pub asked_errands : Option Said → List Errand
asked_errands None = []
asked_errands (Some said) = said_errands said

-- of the words a command's text or refusal, or that they say none
abbrev pub asked_verdict : (named : List ℕ → Option (List ℕ)) → (new : World) → Option Said → Verdict (List ℕ) Refusal
asked_verdict named new None outcome = outcome ≡ Err Words
asked_verdict named new (Some said) outcome = command_verdict named new said outcome

unfoldable pub words_verdict : (named : List ℕ → Option (List ℕ)) → (new : World) → (words : List (List ℕ)) → Verdict (List ℕ) Refusal
words_verdict named new words = asked_verdict named new (command_of words)
