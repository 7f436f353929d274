-- The steps are counted in a ledger of one part.
use Rattle.lt_sim.proofs.pending.set_pending.Given as goal

abbrev pub ghosts-set_counted : goal.ghosts-set_counted
ghosts-set_counted a = record { name = a.blank.name; parts = a.blank.parts }
