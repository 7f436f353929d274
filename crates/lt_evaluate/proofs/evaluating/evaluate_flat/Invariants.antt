-- The steps are counted in a ledger of one part.
use Rattle.lt_evaluate.proofs.evaluating.evaluate_flat.Given as goal

abbrev pub ghosts-streams_by : goal.ghosts-streams_by
ghosts-streams_by a = record { name = a.blank.name; parts = a.blank.parts }
