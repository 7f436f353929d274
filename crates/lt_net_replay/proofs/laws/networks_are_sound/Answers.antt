use Rattle.lt_net_replay.proofs.SoundNetworks.{are_sound}
use Rattle.lt_net_replay.proofs.laws.networks_are_sound.Goals as goal

pub returns : goal.returns
returns c =
    are_sound c.shapes_fit.ensures c.lead_shapes_fit.ensures c.one_place.ensures c.least_length.ensures c.one_place-2.ensures c.least_length-2.ensures c.one_place-3.ensures c.least_length-3.ensures c.exact_messages.ensures c.exact_messages-2.ensures
