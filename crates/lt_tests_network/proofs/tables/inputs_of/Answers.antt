use Rattle.std.proofs.Common.{sym, subst}
use Rattle.std.specs.Prelude.{MatchOption}
use Rattle.lt_meaning.specs.Streams.{InputsFit}
use Rattle.lt_tests_network.proofs.tables.inputs_of.Goals as goal

pub returns-in-Ok : goal.returns-in-Ok
returns-in-Ok c =
    subst (λ main. MatchOption main ⊥ (λ f. InputsFit f c.in-Ok.inputs)) (sym c.main_function.ensures) (record { width = c.in-Ok.ensures.width; rows = c.in-Ok.ensures.fit })
