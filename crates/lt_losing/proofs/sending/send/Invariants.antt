use Rattle.std.proofs.Common.{◌≡◌, ◌+◌, ℕ, length}
use Rattle.rand_core.specs.Steps.{stream_of}
use Rattle.rand_xoshiro.specs.SplitMix64.{splitmix_steps}
use Rattle.lt_sim.specs.Words.{left_after}
use Rattle.lt_base.specs.Truths.{how_many}
use Rattle.lt_losing.specs.Held.{count_on, sends_count, SendsAnew}
use Rattle.lt_losing.proofs.sending.send.Given as goal

abbrev pub invariant-loop-c : goal.invariant-loop-c
invariant-loop-c l = record {
  numbers : length l.numbers.items ≡ length l.fn.numbers.items;
  arrivals : length l.arrivals.items ≡ length l.fn.arrivals.items;
  left : (seed words : ℕ) → stream_of splitmix_steps l.fn.generator ≡ left_after seed words → stream_of splitmix_steps l.generator ≡ left_after seed (words + how_many (sends_count l.shape l.node l.sent l.executed) l.c);
  sends : (seed words : ℕ) → stream_of splitmix_steps l.fn.generator ≡ left_after seed words → SendsAnew l.shape l.timing seed words l.at l.c (sends_count l.shape l.node l.sent l.executed) (count_on l.shape l.sent l.executed)
      l.fn.numbers.items l.fn.arrivals.items l.numbers.items l.arrivals.items;
}
