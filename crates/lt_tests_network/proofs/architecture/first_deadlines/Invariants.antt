-- The steps are counted in a ledger of one part.
use Rattle.lt_tests_network.proofs.architecture.first_deadlines.Given as goal

abbrev pub ghosts-four_places : goal.ghosts-four_places
ghosts-four_places a = record { name = a.blank.name; parts = a.blank.parts }
