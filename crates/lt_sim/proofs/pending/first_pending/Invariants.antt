-- The steps are counted in a ledger of one part.
use Rattle.lt_sim.proofs.pending.first_pending.Given as goal

abbrev pub ghosts-first_counted : goal.ghosts-first_counted
ghosts-first_counted a = record { name = a.blank.name; parts = a.blank.parts }
