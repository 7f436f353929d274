-- The steps are counted in a ledger of one part.
use Rattle.lt_tests_network.proofs.machines.run_code.Given as goal

abbrev pub ghosts-tell_rows : goal.ghosts-tell_rows
ghosts-tell_rows a = record { name = a.blank.name; parts = a.blank.parts }
