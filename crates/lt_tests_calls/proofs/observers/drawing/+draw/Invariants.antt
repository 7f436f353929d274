use Rattle.lt_tests_calls.proofs.observers.drawing.+draw.Given as goal

abbrev pub decreases-draw : goal.decreases-draw
decreases-draw l = l.height
