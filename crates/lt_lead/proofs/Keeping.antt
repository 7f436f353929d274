-- The laws of rounds where a node leads.
use Rattle.lt_arch.specs.declared.limits.TheConstants.{GREATEST_TIME}
use Rattle.lt_arch.specs.Schedule.{reached}
use Rattle.lt_arch.proofs.Schedules.{offence_free}
use Rattle.lt_tb.proofs.Accepted.{each}
use Rattle.lt_tb.proofs.Whole.{rounds_right}
use Rattle.lt_lead.specs.Laws.{LeaderExecutesOnExactMessages, LeaderKeepsOnePlace, LeaderReachesBound}
use Rattle.lt_lead.proofs.Premises.{leader_shape, lead_paced}
use Rattle.lt_lead.proofs.Led.{kept_up, lead_least}

pub exact_messages : LeaderExecutesOnExactMessages
exact_messages s t rows leader shape same led accepted es timely clean =
    (rounds_right s t rows GREATEST_TIME led.counts (leader_shape s t leader same led shape) (lead_paced s t leader same led (each t led.counts accepted)) es timely clean).1

pub one_place : LeaderKeepsOnePlace
one_place s t rows leader shape same led accepted es timely clean =
    (rounds_right s t rows GREATEST_TIME led.counts (leader_shape s t leader same led shape) (lead_paced s t leader same led (each t led.counts accepted)) es timely clean).0

pub least_length : LeaderReachesBound
least_length s t rows leader shape same led accepted es h n timely admissible ends within =
    let m = each t led.counts accepted in
    lead_least s t rows leader shape same led m (reached s t rows es) (kept_up s t rows leader shape same led m es timely (offence_free s t rows es admissible)) h ends n within
