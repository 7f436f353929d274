use Rattle.lt_scheduling.proofs.drawing.draw_by.Goals as goal

pub returns-in-Plain : goal.returns-in-Plain
returns-in-Plain c = rw c.in-Plain.is c.draw_arriving.ensures

pub returns-in-Lossy : goal.returns-in-Lossy
returns-in-Lossy c = rw c.in-Lossy.is c.draw_losing.ensures

pub returns-in-Leader : goal.returns-in-Leader
returns-in-Leader c = rw c.in-Leader.is c.draw_arriving-in-Leader.ensures
