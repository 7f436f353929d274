-- What a watch over links that lose messages keeps.
use Rattle.std.specs.Prelude.{◌≡◌, ℕ, ◌<◌, [], length, slice_index_or}
use Rattle.lt_arch.specs.Times.{sent_in}
use Rattle.lt_lossy.specs.declared.watch.LossyWatch.TheInside.{Inside}
use Rattle.lt_lossy.specs.Times.{LossyTimes, oldest_in}

abbrev pub lossy_times_of : Inside → LossyTimes
lossy_times_of w = record {
  timing = w.watch.timing;
  channels = w.watch.channels;
  limit = w.limit;
  lasts = w.watch.lasts;
  queues = w.queues.items;
  losses = w.losses.items;
  latest = w.watch.latest;
  horizon = w.watch.horizon;
}

-- it has a queue and a count of losses for each channel, and below it a watch over the oldest messages alone
pub record IsLossyKept (w : Inside) : Type 0 where
  pub same_queues : length w.queues.items ≡ length w.watch.sends
  pub same_losses : length w.losses.items ≡ length w.watch.sends
  pub oldest : (c : ℕ) → c < length w.watch.sends → sent_in w.watch c ≡ oldest_in (slice_index_or w.queues.items c [])
