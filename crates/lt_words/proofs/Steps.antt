-- A command takes one argument after another.
use Rattle.std.proofs.Common.{◌≡◌, Result, subst}
use Rattle.clap.specs.Words.{App}
use Rattle.clap.specs.declared.builder.command.Command.{Command}
use Rattle.lt_base.specs.declared.memory.Memory.{Memory}
use Rattle.lt_words.specs.Local.{MakesCommand}

pub taken : (said : App) {Rule : Type 0} (with_it : App → Rule → App) (rule given : Rule) (before after : Result Command Memory)
    → ((x : App) → MakesCommand x before → MakesCommand (with_it x given) after) → given ≡ rule → MakesCommand said before → MakesCommand (with_it said rule) after
taken said with_it rule given before after takes is made = subst (λ k. MakesCommand (with_it said k) after) is (takes said made)
