use Rattle.lt_audit.proofs.hearing.hear.Goals as goal

pub returns : goal.returns
returns c = λ i. record { all_in = c.all_delivered-all_in.ensures i; any_in = c.any_delivered-any_in.ensures i; all_ack = c.all_delivered-all_ack.ensures i }
