-- What a controller is told, by the counts of its node's channels.
use Rattle.std.proofs.Common.{◌≡◌, ℕ, ◌<◌, ◌&&◌, ◌==◌, nat_lt, sym, ◌∙◌, ap, arith, slice_index_or}
use Rattle.std.proofs.lemmas.List.{get_or_read}
use Rattle.lt_arch.specs.declared.shape.Shape.{Shape}
use Rattle.lt_arch.specs.State.{State, executed_of}
use Rattle.lt_arch.specs.Readers.{node_count, chan_count, chan_of}
use Rattle.lt_arch.specs.Deeds.{all_in, any_in, all_ack, more, data_to, ack_to, is_fresh}
use Rattle.lt_sim.specs.declared.progress.Progress.{Progress}
use Rattle.lt_sim.specs.Progress.{ProgressIsAt}
use Rattle.lt_sim.proofs.Counting.{all_by_count, some_by_count}

module _ (p : Progress) (s : Shape) (st : State) (n : ℕ) (at : ProgressIsAt p s (executed_of st) (λ c. (st.chan c).delivered)) (lt : n < node_count s) where
  pub all_in-is : (slice_index_or p.messages.fresh.items n 0 == slice_index_or p.messages.wanted.items n 0) ≡ all_in s st n
  unfolding all_in chan_of
  all_in-is = (λ i. at.messages.fresh n lt i == at.messages.wanted n lt i) ∙ sym (all_by_count (data_to s n) (is_fresh s st) (chan_count s))

  pub any_in-is : nat_lt 0 (slice_index_or p.messages.fresh.items n 0) ≡ any_in s st n
  unfolding any_in chan_of
  any_in-is = ap (λ m. nat_lt 0 m) (at.messages.fresh n lt) ∙ sym (some_by_count (λ c. data_to s n c && is_fresh s st c) (chan_count s))

  pub all_ack-is : (slice_index_or p.acks.fresh.items n 0 == slice_index_or p.acks.wanted.items n 0) ≡ all_ack s st n
  unfolding all_ack chan_of
  all_ack-is = (λ i. at.acks.fresh n lt i == at.acks.wanted n lt i) ∙ sym (all_by_count (ack_to s n) (is_fresh s st) (chan_count s))

  pub executed-is : (x : ℕ) → x ≡ slice_index_or p.executed.items n x → x ≡ executed_of st n
  executed-is x read = let size = at.executed_length in get_or_read p.executed.items n x (omega (arith, lt, size)) read 0 ∙ at.executed_is n lt

  pub more-is : (x rows : ℕ) → x ≡ slice_index_or p.executed.items n x → nat_lt x rows ≡ more rows st n
  more-is x rows read = ap (λ m. nat_lt m rows) (executed-is x read)
