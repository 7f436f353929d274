-- The command is one of which clap gives the matches.
use Rattle.std.proofs.Common.{◌≡◌, ◌≢◌, List, [], true, Option, Some, None, option_map, is_some, IfSome, Result, Ok, Err, IfOk, OnOk, refl, ap, sym, subst, ◌∙◌, inl, inr}
use Rattle.std.proofs.lemmas.Bool.{false≢true}
use Rattle.clap.specs.Words.{is_simple, App, Row, Text, app_of, HasMatchesOf, subcommand_of, subcommand_rows_of, IsParsedFrom, has_subcommand, takes, fault_of, kind_of, HasKind}
use Rattle.clap.specs.declared.builder.command.Command.{Command}
use Rattle.clap.specs.declared.builder.command.Command.TheViews.{out-Command}
use Rattle.clap.specs.declared.parser.matches.ArgMatches.{ArgMatches}
use Rattle.clap.specs.declared.error.Error.{Error}
use Rattle.clap.specs.declared.error.kind.ErrorKind.TheVariants as kind
use Rattle.lt_words.specs.Local.{HasNoGlobals}
use Rattle.clap.specs.Faults.{is_simple_and_free}
use Rattle.clap.proofs.OnLiterals.{clap_on_literals}
use Rattle.lt_base.specs.declared.memory.Memory.{Memory}
use Rattle.lt_words.specs.Commands.{program_app}
use Rattle.lt_words.specs.Lttac.{lttac_app}
use Rattle.lt_words.specs.Told.{TellsCommand}

-- a program's command of which clap gives the matches
pub record IsPlainApp (app : App) : Type 0 where
  pub simple : is_simple app ≡ true
  pub free : is_simple_and_free app ≡ true
  pub needs : app.top.subcommand_required ≡ true

pub program_is_plain : IsPlainApp program_app
unfolding program_app clap_on_literals
program_is_plain = record { simple = refl; free = refl; needs = refl }

pub lttac_is_plain : IsPlainApp lttac_app
unfolding lttac_app clap_on_literals
lttac_is_plain = record { simple = refl; free = refl; needs = refl }

module _ (app : App) (plain : IsPlainApp app) where
  -- a parse that succeeds met a subcommand
  pub met_one : (c : Command) (m : ArgMatches) → app_of c ≡ app → HasNoGlobals c → IsParsedFrom c m → has_subcommand m ≡ true
  met_one c m is local p =
      let wanted : (out-Command c).subcommand_required ≡ true = ap (λ (a : App). a.top.subcommand_required) is ∙ plain.needs in
      (p.parsed (p.from.globals ∙ local)).checked.subcommand (p.from.needs_subcommand ∙ wanted)

  -- an error that is not for memory is of words that are not taken
  pub refused_words : (a : App) (e : Error) (ws : List Text) → a ≡ app → (takes a ws ≡ true → kind_of e ≡ kind.OutOfMemory)
      → (is_simple_and_free a ≡ true → HasKind (fault_of a ws) e) → kind_of e ≢ kind.OutOfMemory
      → (takes app ws ≢ true) × (fault_of app ws ≢ [])
  refused_words a e ws is passes kinds not_memory =
      let has = kinds (ap is_simple_and_free is ∙ plain.free) in (
        (λ t. not_memory (passes (ap (λ x. takes x ws) is ∙ t))),
        (λ none. elim (subst (λ ks. HasKind ks e) (ap (λ x. fault_of x ws) is ∙ none) has) [ inl m ↦ not_memory m | inr no_kind ↦ absurd no_kind ]),
      )

  module _ {C S : Type 0} (of : C → S) (by : Text → List Row → S) (Ranges : C → Type 0) (ws : List Text) where
    -- what the words say, by the rows that were found
    abbrev pub saying : List Text → Option S
    saying words = option_map (λ p. by p.0 p.1) (subcommand_of app words)

    -- so is an answer that says no command
    pub told_none : (r : Result (Option C) Memory) (e : Error) → IfOk r (λ c. c ≡ None) → OnOk r (kind_of e ≢ kind.OutOfMemory)
        → (kind_of e ≢ kind.OutOfMemory → (takes app ws ≢ true) × (fault_of app ws ≢ [])) → TellsCommand app of saying Ranges ws r
    told_none (Err m) e none calm refused = tt
    told_none (Ok c) e none calm refused = subst (λ x. TellsCommand app of saying Ranges ws (Ok x)) (sym none) (refused calm)

    -- so is one that says a command, that of the matches
    pub told_some : (a : App) (m : ArgMatches) (r : Option C) → a ≡ app → HasMatchesOf a ws m → (is_simple_and_free a ≡ true → fault_of a ws ≡ [])
        → is_some r ≡ true → option_map of r ≡ option_map (λ p. by p.0 p.1) (subcommand_rows_of m) → IfSome r Ranges → TellsCommand app of saying Ranges ws (Ok r)
    told_some a m None is matches kinds some said ranges = absurd (false≢true some)
    told_some a m (Some c) is matches kinds some said ranges =
        let rows = (matches (ap is_simple is ∙ plain.simple)).1 in (
          sym (said ∙ ap (option_map (λ p. by p.0 p.1)) (rows ∙ ap (λ x. subcommand_of x ws) is)),
          sym (ap (λ x. fault_of x ws) is) ∙ kinds (ap is_simple_and_free is ∙ plain.free),
          ranges,
        )
