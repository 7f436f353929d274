-- Messages that are sent channel by channel.
use Rattle.std.proofs.Common.{◌≡◌, ℕ, ◌+◌, ◌<◌, List, [], ◌∷◌, ◌++◌, length, Bool, true, false, ◌&&◌, ◌==◌, nat_lt, if◌then◌else◌, refl, sym, ◌∙◌, ap, arith, slice_index_or}
use Rattle.std.specs.Prelude.{slice_set}
use Rattle.rand_core.specs.Stream.{Stream, next_u64}
use Rattle.lt_base.specs.Truths.{how_many}
use Rattle.lt_arch.specs.declared.chan.Chan.{Chan}
use Rattle.lt_arch.specs.declared.shape.Shape.{Shape}
use Rattle.lt_arch.specs.declared.timing.Timing.{Timing}
use Rattle.lt_arch.specs.Readers.{chan_count, chan_of, no_chan, is_data, dmin_of, dmax_of}
use Rattle.lt_sim.specs.Words.{left_after, drawn_word, number_in}
use Rattle.lt_sim.specs.Drawn.{delay}
use Rattle.lt_sim.proofs.Counting.{how_many_yes, how_many_no}
use Rattle.lt_sim.proofs.Delays.{number_drawn, left_drawn}
use Rattle.lt_losing.specs.Losing.{with_arrival}
use Rattle.lt_losing.specs.Held.{count_on, sends_count, SendsAnew}
use Rattle.lt_losing.proofs.Changed.{changed_none, changed_here, changed_more, length-changed}

-- a message is sent on channel i, or not
module _ (s : Shape) (t : Timing) (seed words at n sent executed i number : ℕ) (channels : List Chan) (is : channels ≡ s.channels) (number_is : number ≡ (if is_data (slice_index_or channels i no_chan).kind then sent else executed)) where
  -- on which channels the node sends
  abbrev on : ℕ → Bool
  on = sends_count s n sent executed

  count-is : number ≡ count_on s sent executed i
  unfolding chan_of
  count-is = number_is ∙ ap (λ (cs : List Chan). if is_data (slice_index_or cs i no_chan).kind then sent else executed) is

  test-is : (((slice_index_or channels i no_chan).from == n) && nat_lt 0 number) ≡ on i
  unfolding chan_of
  test-is = λ j. ((slice_index_or (is j) i no_chan).from == n) && nat_lt 0 (count-is j)

  module _ (old new : Stream) (left : old ≡ left_after seed (words + how_many on i)) where
    left-by : (b : Bool) → on i ≡ b → new ≡ (if b then (next_u64 old).1 else old) → new ≡ left_after seed (words + how_many on (i + 1))
    left-by true test new_is =
        let more = how_many_yes on i test in
        let place : words + how_many on i + 1 ≡ words + how_many on (i + 1) = omega (arith, more) in
        left_drawn seed (words + how_many on i) 0 0 0 old new left new_is ∙ ap (left_after seed) place
    left-by false test new_is = new_is ∙ (left ∙ ap (λ m. left_after seed (words + m)) (sym (how_many_no on i test)))

    pub left_more : new ≡ (if ((slice_index_or channels i no_chan).from == n) && nat_lt 0 number then (next_u64 old).1 else old) → new ≡ left_after seed (words + how_many on (i + 1))
    left_more new_is = left-by (on i) refl (new_is ∙ ap (λ (b : Bool). if b then (next_u64 old).1 else old) test-is)

    -- when it arrives
    delay-is : number_in (dmin_of t (slice_index_or channels i no_chan).from (slice_index_or channels i no_chan).to) (dmax_of t (slice_index_or channels i no_chan).from (slice_index_or channels i no_chan).to) (next_u64 old).0 ≡ delay s t seed i (words + 1 + how_many on i)
    unfolding chan_of
    delay-is =
        let low = dmin_of t (slice_index_or channels i no_chan).from (slice_index_or channels i no_chan).to in
        let high = dmax_of t (slice_index_or channels i no_chan).from (slice_index_or channels i no_chan).to in
        let place : words + how_many on i + 1 ≡ words + 1 + how_many on i = omega arith in
        number_drawn seed (words + how_many on i) low high (number_in low high (next_u64 old).0) old new left refl
        ∙ (λ j. number_in (dmin_of t (slice_index_or (is j) i no_chan).from (slice_index_or (is j) i no_chan).to) (dmax_of t (slice_index_or (is j) i no_chan).from (slice_index_or (is j) i no_chan).to) (drawn_word seed (place j)))

    pub sends_more : (numbers arrivals mid_numbers mid_arrivals new_numbers new_arrivals : List (List ℕ)) → i < chan_count s → length mid_numbers ≡ chan_count s → length mid_arrivals ≡ chan_count s
        → SendsAnew s t seed words at i on (count_on s sent executed) numbers arrivals mid_numbers mid_arrivals
        → new_numbers ≡ (if ((slice_index_or channels i no_chan).from == n) && nat_lt 0 number then slice_set mid_numbers i (slice_index_or mid_numbers i [] ++ number ∷ []) else mid_numbers)
        → new_arrivals ≡ (if ((slice_index_or channels i no_chan).from == n) && nat_lt 0 number then slice_set mid_arrivals i (with_arrival (slice_index_or mid_arrivals i [])
        (at + number_in (dmin_of t (slice_index_or channels i no_chan).from (slice_index_or channels i no_chan).to) (dmax_of t (slice_index_or channels i no_chan).from (slice_index_or channels i no_chan).to) (next_u64 old).0)) else mid_arrivals)
        → SendsAnew s t seed words at (i + 1) on (count_on s sent executed) numbers arrivals new_numbers new_arrivals
    sends_more numbers arrivals mid_numbers mid_arrivals new_numbers new_arrivals lt numbers_size arrivals_size h numbers_set arrivals_set =
        let number_entry : List ℕ = slice_index_or mid_numbers i [] ++ number ∷ [] in
        let arrival : ℕ = number_in (dmin_of t (slice_index_or channels i no_chan).from (slice_index_or channels i no_chan).to) (dmax_of t (slice_index_or channels i no_chan).from (slice_index_or channels i no_chan).to) (next_u64 old).0 in
        let arrival_entry : List ℕ = with_arrival (slice_index_or mid_arrivals i []) (at + arrival) in
        let numbers_set' : new_numbers ≡ (if on i then slice_set mid_numbers i number_entry else mid_numbers) = numbers_set ∙ ap (λ (b : Bool). if b then slice_set mid_numbers i number_entry else mid_numbers) test-is in
        let arrivals_set' : new_arrivals ≡ (if on i then slice_set mid_arrivals i arrival_entry else mid_arrivals) = arrivals_set ∙ ap (λ (b : Bool). if b then slice_set mid_arrivals i arrival_entry else mid_arrivals) test-is in
        let number_new : ℕ → List ℕ = λ c. slice_index_or numbers c [] ++ count_on s sent executed c ∷ [] in
        let arrival_new : ℕ → List ℕ = λ c. with_arrival (slice_index_or arrivals c []) (at + delay s t seed c (words + 1 + how_many on c)) in
        let number_here = changed_here (chan_count s) on number_new numbers i mid_numbers h.numbers_are lt in
        let arrival_here = changed_here (chan_count s) on arrival_new arrivals i mid_arrivals h.arrivals_are lt in
        record {
          numbers_length = length-changed mid_numbers new_numbers i number_entry (on i) numbers_set' ∙ h.numbers_length;
          arrivals_length = length-changed mid_arrivals new_arrivals i arrival_entry (on i) arrivals_set' ∙ h.arrivals_length;
          numbers_are = changed_more (chan_count s) on number_new numbers i mid_numbers h.numbers_are new_numbers number_entry (omega (arith, lt, numbers_size)) numbers_set' (λ _ j. number_here j ++ count-is j ∷ []);
          arrivals_are = changed_more (chan_count s) on arrival_new arrivals i mid_arrivals h.arrivals_are new_arrivals arrival_entry (omega (arith, lt, arrivals_size)) arrivals_set' (λ _ j. with_arrival (arrival_here j) (at + delay-is j));
        }

pub sends_none : (s : Shape) (t : Timing) (seed words at : ℕ) (on : ℕ → Bool) (number : ℕ → ℕ) (numbers arrivals : List (List ℕ)) → SendsAnew s t seed words at 0 on number numbers arrivals numbers arrivals
sends_none s t seed words at on number numbers arrivals = record {
  numbers_length = refl;
  arrivals_length = refl;
  numbers_are = changed_none (chan_count s) on (λ c. slice_index_or numbers c [] ++ number c ∷ []) numbers;
  arrivals_are = changed_none (chan_count s) on (λ c. with_arrival (slice_index_or arrivals c []) (at + delay s t seed c (words + 1 + how_many on c))) arrivals;
}
