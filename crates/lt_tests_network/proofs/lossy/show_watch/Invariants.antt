-- The steps are counted in a ledger of one part.
use Rattle.lt_tests_network.proofs.lossy.show_watch.Given as goal

abbrev pub ghosts-judge_events : goal.ghosts-judge_events
ghosts-judge_events a = record { name = a.blank.name; parts = a.blank.parts }
