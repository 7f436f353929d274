use Rattle.lt_text_answers.proofs.place_line.append_placement.Goals as goal

pub returns-in-DirectCross : goal.returns-in-DirectCross
returns-in-DirectCross c = rw c.in-DirectCross.is c.append_pair.ensures

pub returns-in-SlowCross : goal.returns-in-SlowCross
returns-in-SlowCross c = rw c.in-SlowCross.is c.append_pair-in-SlowCross.ensures

pub returns-in-ClockElsewhere : goal.returns-in-ClockElsewhere
returns-in-ClockElsewhere c = rw c.in-ClockElsewhere.is c.append_pair-in-ClockElsewhere.ensures
