-- What the files of the large input are loaded as.
use Rattle.std.proofs.Common.{◌≡◌, ℕ, pos, ◌≤◌, List, [], ◌∷◌, length, Some, Ok, refl, sym, ap, ◌∙◌, subst, codes}
use Rattle.std.proofs.lemmas.List.FromFn.{length-map-range_with_len}
use Rattle.lt_base.specs.declared.value.Value.TheVariants.{Int}
use Rattle.lt_base.specs.Inputs.{InputTable}
use Rattle.lt_base.specs.Program.{WholeProgram}
use Rattle.lt_arch.specs.declared.pace.Pace.{Pace}
use Rattle.lt_arch.specs.declared.pace.Pace.TheVariants.{Plain}
use Rattle.lt_front.specs.Examined.{ExaminedText}
use Rattle.lt_front.specs.Front.{examine_verdict}
use Rattle.lt_front.proofs.OneFault.{front_decided}
use Rattle.lt_front.specs.Flattened.{flat_of}
use Rattle.lt_place.specs.Legal.{Legal}
use Rattle.lt_timing.specs.Accepts.{Accepts}
use Rattle.lt_inputs.specs.declared.fault.InputFault.{InputFault}
use Rattle.lt_inputs.specs.Inputs.{inputs_of}
use Rattle.lt_config.specs.declared.config.Config.{Config}
use Rattle.lt_config.specs.declared.fault.ConfigFault.{ConfigFault}
use Rattle.lt_config.specs.Setup.{Setup}
use Rattle.lt_config.specs.Reading.{config_of, setup_in}
use Rattle.lt_answer.specs.Rules.{Exactly, Raised}
use Rattle.lt_load_fit.specs.declared.fault.CommandFault.{CommandFault}
use Rattle.lt_load_fit.specs.declared.fault.CommandFault.TheVariants as fault
use Rattle.lt_load_fit.specs.declared.fault.What.{What}
use Rattle.lt_load_fit.specs.declared.fault.What.TheVariants.{ProgramBytes, ConfigBytes, InputsBytes}
use Rattle.lt_load_fit.specs.Fits.{SetupPasses, IsPlaceFault, IsTimingFault, HasWindowBy, IsOutsideWindow, placed_verdict, timed_verdict, windowed_verdict, accepted_verdict, fitting_verdict}
use Rattle.lt_load_fit.specs.Main.{main_in}
use Rattle.lt_load.specs.Loaded.{limit_of, whole_verdict, program_verdict, setup_verdict, config_verdict, inputs_verdict}
use Rattle.lt_load.specs.Plan.{Plan, inputs_plan_verdict, fitting_plan_verdict}
use Rattle.lt_load.specs.Pacing.{pace_fault, unpaced_verdict, plain_config_verdict, plain_setup_plan_verdict, plain_load_verdict}
use Rattle.lt_big_texts.specs.Texts.{program_text, setup_text, inputs_text}
use Rattle.lt_big_texts.specs.Reading.{HasOneInput, numbered_rows, InputsRead}
use Rattle.lt_big_texts.specs.Bounds.{large_setup, SetupRead}
use Rattle.lt_big_accepted.specs.Program.{int_decl, large_function, large_program, large_examined, ProgramAccepted}
use Rattle.lt_big_accepted.specs.Setup.{SetupFits}
use Rattle.lt_big.specs.Big.{named_of, big_loaded_verdict}
use Rattle.lt_big_runs.proofs.Passes.{ok_same, ok_not_err, Passes, passes_then, passes_raised, passes_exactly}

-- what a plan of the large input is of
pub record IsLargePlan (instants : ℕ) (p : Plan) : Type 0 where
  pub checked : p.checked ≡ large_examined
  pub setup : setup_in p.setup ≡ large_setup
  pub rows : length p.inputs.rows ≡ instants

-- a file that is not too long
whole_passes : (what : What) (bytes : List ℕ) → length bytes ≤ limit_of what → Passes (whole_verdict what (Some bytes)) (λ whole. whole ≡ bytes)
unfolding whole_verdict
whole_passes what bytes short = record {
  never = λ e right. right.1 bytes (record { same = refl; short = short });
  has = λ whole right. right.same;
}

-- a setup that keeps a rule
setup_passes : (c : Config) (Rule : Type 0) (IsFault : CommandFault → Type 0) → Rule → Passes (SetupPasses c Rule IsFault) (λ d. d ≡ c)
setup_passes c Rule IsFault rule = record { never = λ e right. right.0 rule; has = λ d right. right.1 }

one_input : HasOneInput large_function
one_input = record { input = int_decl (codes "x"); only = refl; name = refl; ty = refl }

module _ (accepted : ProgramAccepted) (read : SetupRead) (fits : SetupFits) (inputs : InputsRead) (instants : ℕ) (few : instants ≤ 100000) where
  program_passes : Passes (program_verdict (Some program_text)) (λ checked. checked ≡ large_examined)
  unfolding program_verdict
  program_passes =
      passes_then (whole_verdict ProgramBytes (Some program_text)) (λ bytes. Raised (λ e. fault.Program e) (examine_verdict bytes)) (λ bytes. bytes ≡ program_text) (λ checked. checked ≡ large_examined)
      (whole_passes ProgramBytes program_text accepted.0)
      (λ bytes is. passes_raised (λ e. fault.Program e) (examine_verdict bytes) (λ checked. checked ≡ large_examined) (examined bytes is))
    where
      examined : (bytes : List ℕ) → bytes ≡ program_text → Passes (examine_verdict bytes) (λ checked. checked ≡ large_examined)
      examined bytes is =
          let right : examine_verdict bytes (Ok large_examined) = subst (λ (text : List ℕ). examine_verdict text (Ok large_examined)) (sym is) accepted.1 in
          let one = front_decided bytes in
          record { never = λ e wrong. one.faults.not_both e large_examined wrong right; has = λ checked other. one.one_value checked large_examined other right }

  config_passes : Passes (config_verdict (Some setup_text)) (λ c. setup_in c ≡ large_setup)
  unfolding config_verdict
  config_passes =
      passes_then (whole_verdict ConfigBytes (Some setup_text)) (λ bytes. Raised (λ e. fault.Config e) (setup_verdict bytes)) (λ bytes. bytes ≡ setup_text) (λ c. setup_in c ≡ large_setup)
      (whole_passes ConfigBytes setup_text read.0)
      (λ bytes is. passes_raised (λ e. fault.Config e) (setup_verdict bytes) (λ c. setup_in c ≡ large_setup) (setup bytes is))
    where
      setup : (bytes : List ℕ) → bytes ≡ setup_text → Passes (setup_verdict bytes) (λ c. setup_in c ≡ large_setup)
      setup bytes is =
          let reads : config_of bytes ≡ Ok large_setup = ap config_of is ∙ read.1 in
          record {
            never = λ e wrong. ok_not_err large_setup e (sym reads ∙ wrong);
            has = λ c right. ok_same {B = ConfigFault} (setup_in c) large_setup (sym right ∙ reads);
          }

  plain_config_passes : Passes (plain_config_verdict (Some setup_text)) (λ c. setup_in c ≡ large_setup)
  unfolding plain_config_verdict unpaced_verdict
  plain_config_passes =
      passes_then (config_verdict (Some setup_text)) (λ setup. unpaced_verdict setup) (λ c. setup_in c ≡ large_setup) (λ c. setup_in c ≡ large_setup) config_passes
      (λ c is. (let passed = setup_passes c (c.pace ≡ Plain) (λ e. e ≡ pace_fault) (ap (λ (s : Setup). s.pace) is) in
      record { never = passed.never; has = λ d right. ap setup_in (passed.has d right) ∙ is }))

  -- a fact of a setup is one of an equal setup
  fitting_passes : (checked : ExaminedText) (c : Config) → checked ≡ large_examined → setup_in c ≡ large_setup → Passes (fitting_verdict checked c) (λ d. setup_in d ≡ large_setup)
  unfolding fitting_verdict placed_verdict accepted_verdict timed_verdict windowed_verdict
  fitting_passes checked c same is =
      passes_then (placed_verdict checked c) (λ legal. accepted_verdict legal) (λ d. d ≡ c) (λ d. setup_in d ≡ large_setup)
      (setup_passes c (Legal (flat_of checked.program) c.placement) (IsPlaceFault checked c) (subst (λ (t : ExaminedText). Legal (flat_of t.program) c.placement) (sym same) (fits c is).0))
      (λ legal l. passes_then (timed_verdict legal) (λ timed. windowed_verdict timed) (λ d. d ≡ legal) (λ d. setup_in d ≡ large_setup)
      (setup_passes legal (Accepts legal.timing) (IsTimingFault legal) (subst (λ (d : Config). Accepts d.timing) (sym l) (fits c is).1))
      (λ timed t. (let own : setup_in timed ≡ large_setup = ap setup_in (t ∙ l) ∙ is in
      let passed = setup_passes timed (HasWindowBy timed.pace timed.timing) (IsOutsideWindow timed) (subst (λ (p : Pace). HasWindowBy p timed.timing) (sym (ap (λ (s : Setup). s.pace) own)) tt) in
      record { never = passed.never; has = λ d right. ap setup_in (passed.has d right) ∙ own })))

  inputs_pass : (p : WholeProgram) → p ≡ large_program → Passes (inputs_verdict p (Some (inputs_text instants))) (λ table. length table.rows ≡ instants)
  unfolding inputs_verdict
  inputs_pass p is =
      passes_then (whole_verdict InputsBytes (Some (inputs_text instants))) (λ bytes. Raised (λ e. fault.Inputs e) (Exactly (inputs_of (main_in p) bytes))) (λ bytes. bytes ≡ inputs_text instants) (λ table. length table.rows ≡ instants)
      (whole_passes InputsBytes (inputs_text instants) (inputs large_function instants one_input few).0)
      (λ bytes same. passes_raised (λ e. fault.Inputs e) (Exactly (inputs_of (main_in p) bytes)) (λ table. length table.rows ≡ instants) (table bytes same))
    where
      wanted : InputTable
      wanted = record { width = large_function.n_in; rows = numbered_rows instants }

      counted : length (numbered_rows instants) ≡ instants
      counted = length-map-range_with_len (λ k. Int (pos k) ∷ []) 0 instants

      table : (bytes : List ℕ) → bytes ≡ inputs_text instants → Passes (Exactly (inputs_of (main_in p) bytes)) (λ table. length table.rows ≡ instants)
      table bytes same =
          let texts : inputs_of (main_in p) bytes ≡ inputs_of large_function (inputs_text instants) = λ i. inputs_of (main_in (is i)) (same i) in
          let reads : inputs_of (main_in p) bytes ≡ Ok wanted = texts ∙ (inputs large_function instants one_input few).1 in
          record {
            never = λ e wrong. ok_not_err wanted e (sym reads ∙ wrong);
            has = λ t right. (let own : wanted ≡ t = ok_same {B = InputFault} wanted t (sym reads ∙ right) in sym (ap (λ (u : InputTable). length u.rows) own) ∙ counted);
          }

  plan_passes : (checked : ExaminedText) (c : Config) → checked ≡ large_examined → setup_in c ≡ large_setup → Passes (inputs_plan_verdict (named_of instants) (codes "inputs") checked c) (IsLargePlan instants)
  unfolding inputs_plan_verdict
  plan_passes checked c same is =
      passes_then (inputs_verdict checked.program (named_of instants (codes "inputs"))) (λ table. Exactly (Ok (record { checked = checked; setup = c; inputs = table }))) (λ table. length table.rows ≡ instants) (IsLargePlan instants)
      (inputs_pass checked.program (ap (λ (t : ExaminedText). t.program) same))
      (λ table rows. (let plan : Plan = record { checked = checked; setup = c; inputs = table } in
      let own : IsLargePlan instants plan = record { checked = same; setup = is; rows = rows } in
      let passed = passes_exactly Plan CommandFault plan in
      record { never = passed.never; has = λ p right. subst (IsLargePlan instants) (passed.has p right) own }))

  fitting_plan_passes : (checked : ExaminedText) (c : Config) → checked ≡ large_examined → setup_in c ≡ large_setup → Passes (fitting_plan_verdict (named_of instants) (codes "inputs") checked c) (IsLargePlan instants)
  unfolding fitting_plan_verdict
  fitting_plan_passes checked c same is =
      passes_then (fitting_verdict checked c) (λ fitting. inputs_plan_verdict (named_of instants) (codes "inputs") checked fitting) (λ d. setup_in d ≡ large_setup) (IsLargePlan instants)
      (fitting_passes checked c same is) (λ d own. plan_passes checked d same own)

  setup_plan_passes : (checked : ExaminedText) → checked ≡ large_examined → Passes (plain_setup_plan_verdict (named_of instants) (codes "inputs") (codes "setup") checked) (IsLargePlan instants)
  unfolding plain_setup_plan_verdict
  setup_plan_passes checked same =
      passes_then (plain_config_verdict (named_of instants (codes "setup"))) (λ setup. fitting_plan_verdict (named_of instants) (codes "inputs") checked setup) (λ c. setup_in c ≡ large_setup) (IsLargePlan instants)
      plain_config_passes (λ c is. fitting_plan_passes checked c same is)

  -- the files are taken
  pub loads : Passes (big_loaded_verdict instants) (IsLargePlan instants)
  unfolding big_loaded_verdict plain_load_verdict
  loads =
      passes_then (program_verdict (named_of instants (codes "program"))) (λ checked. plain_setup_plan_verdict (named_of instants) (codes "inputs") (codes "setup") checked) (λ checked. checked ≡ large_examined) (IsLargePlan instants)
      program_passes setup_plan_passes
