-- Messages stay their senders' own when nodes go on, and when they send.
use Rattle.std.proofs.Common.{◌≡◌, ◌⊎◌, inl, inr, ℕ, ◌+◌, ◌<◌, ◌≤◌, true, false, List, [], ◌∷◌, ◌++◌, length, sym, ap, ◌∙◌, subst, arith, length-append}
use Rattle.std.specs.Prelude.{slice_index_or}
use Rattle.std.proofs.Math.ListN.{get_or-append}
use Rattle.std.proofs.Math.Seq.{get_or-append_seam}
use Rattle.std.proofs.lemmas.Bool.{cases_lt}
use Rattle.lt_base.specs.declared.value.Value.{Value}
use Rattle.lt_arch.specs.Readers.{chan_count, from_of, to_of, carries_data}
use Rattle.lt_io.specs.declared.message.Message.{Message}
use Rattle.lt_io.specs.FabricState.{FabricState}
use Rattle.lt_net.specs.Net.{TimedBenchState, Lists}
use Rattle.lt_net.specs.Owns.{OwnPayload, Owns, OwnsTransit}
use Rattle.lt_net_bench.specs.Standing.{HasOwnValues}
use Rattle.lt_net_bench.proofs.OwnValues.{own_stays as values_stay}

module _ {C M : Type 0} (net : TimedBenchState C M) (ls next : Lists) (got : (c : ℕ) → next.got c ≡ ls.got c) (more : ℕ → List (List Value)) (inputs : (n : ℕ) → next.inputs n ≡ ls.inputs n ++ more n) where
  got_is : next.got ≡ ls.got
  got_is = λ i c. got c i

  longer : (n : ℕ) → length (ls.inputs n) ≤ length (next.inputs n)
  longer n = let e = ap length (inputs n) in let m = length-append (ls.inputs n) (more n) in omega (arith, e, m)

  pub own_stays : (i j k : ℕ) (p : List Value) → k < length (ls.inputs i) → OwnPayload net.layout net.shape ls i j k p → OwnPayload net.layout net.shape next i j k p
  own_stays i j k p h own = subst (λ g. HasOwnValues net.layout net.shape next.inputs g i j k p) (sym got_is) (values_stay net.layout net.shape ls.inputs next.inputs ls.got more inputs i j k p h own)

  pub owns_longer : Owns net ls → Owns net next
  owns_longer owns = record {
    before = λ c k cb carries h. let a = owns.before c k cb carries (subst (λ ms. k < length ms) (got c) h) in omega (arith, a, longer (from_of net.shape c));
    own = λ c k cb carries h.
        let h' = subst (λ ms. k < length ms) (got c) h in
        subst (λ ms. OwnPayload net.layout net.shape next (from_of net.shape c) (to_of net.shape c) k (slice_index_or ms k [])) (sym (got c))
        (own_stays (from_of net.shape c) (to_of net.shape c) k _ (owns.before c k cb carries h') (owns.own c k cb carries h'));
  }

  -- the messages in transit, of which the last may be new
  module _ (old new : FabricState) (transit : OwnsTransit net ls old)
      (channel : (c : ℕ) → c < chan_count net.shape → carries_data net.shape c ≡ true →
      (new.transit c ≡ old.transit c) ⊎ (m : Message) × (new.transit c ≡ old.transit c ++ m ∷ []) ×
      (length (ls.got c) + length (old.transit c) < length (next.inputs (from_of net.shape c))) ×
      OwnPayload net.layout net.shape next (from_of net.shape c) (to_of net.shape c) (length (ls.got c) + length (old.transit c)) m.payload) where
    entry : (c k : ℕ) → c < chan_count net.shape → carries_data net.shape c ≡ true → k < length (new.transit c) →
        (length (ls.got c) + k < length (next.inputs (from_of net.shape c))) × OwnPayload net.layout net.shape next (from_of net.shape c) (to_of net.shape c) (length (ls.got c) + k) (slice_index_or {A = Message} (new.transit c) k (record { payload = []; bit = false })).payload
    entry c k cb carries h = elim (channel c cb carries) [
      | inl same ↦
          let h' = subst (λ ms. k < length ms) same h in
          let before = transit.before c k cb carries h' in (
            omega (arith, before, longer (from_of net.shape c)),
            subst (λ ms. OwnPayload net.layout net.shape next (from_of net.shape c) (to_of net.shape c) (length (ls.got c) + k) (slice_index_or {A = Message} ms k (record { payload = []; bit = false })).payload) (sym same)
                (own_stays (from_of net.shape c) (to_of net.shape c) (length (ls.got c) + k) _ before (transit.own c k cb carries h')),
          )
      | inr sent ↦
          let m = sent.0 in
          let grew : length (new.transit c) ≡ length (old.transit c) + 1 = ap length (sent.1) ∙ length-append (old.transit c) (m ∷ []) in
          elim (cases_lt k (length (old.transit c))) [
            | inl low ↦
                let before = transit.before c k cb carries low in (
                  omega (arith, before, longer (from_of net.shape c)),
                  subst (λ ms. OwnPayload net.layout net.shape next (from_of net.shape c) (to_of net.shape c) (length (ls.got c) + k) (slice_index_or {A = Message} ms k (record { payload = []; bit = false })).payload) (sym sent.1)
                      (subst (λ (z : Message). OwnPayload net.layout net.shape next (from_of net.shape c) (to_of net.shape c) (length (ls.got c) + k) z.payload) (sym (get_or-append (old.transit c) (m ∷ []) (record { payload = []; bit = false }) k low))
                      (own_stays (from_of net.shape c) (to_of net.shape c) (length (ls.got c) + k) _ before (transit.own c k cb carries low))),
                )
            | inr last ↦
                let is : k ≡ length (old.transit c) = omega (arith, last, h, grew) in (
                  subst (λ z. length (ls.got c) + z < length (next.inputs (from_of net.shape c))) (sym is) sent.2,
                  subst (λ z. OwnPayload net.layout net.shape next (from_of net.shape c) (to_of net.shape c) (length (ls.got c) + z) (slice_index_or {A = Message} (new.transit c) z (record { payload = []; bit = false })).payload) (sym is)
                      (subst (λ ms. OwnPayload net.layout net.shape next (from_of net.shape c) (to_of net.shape c) (length (ls.got c) + length (old.transit c)) (slice_index_or {A = Message} ms (length (old.transit c)) (record { payload = []; bit = false })).payload) (sym sent.1)
                      (subst (λ (z : Message). OwnPayload net.layout net.shape next (from_of net.shape c) (to_of net.shape c) (length (ls.got c) + length (old.transit c)) z.payload) (sym (get_or-append_seam (old.transit c) m [] (record { payload = []; bit = false }))) sent.3)),
                )
          ]
    ]

    pub transit_longer : OwnsTransit net next new
    transit_longer = record {
      before = λ c k cb carries h. subst (λ n. n + k < length (next.inputs (from_of net.shape c))) (ap length (sym (got c))) (entry c k cb carries h).0;
      own = λ c k cb carries h. subst (λ n. OwnPayload net.layout net.shape next (from_of net.shape c) (to_of net.shape c) (n + k) (slice_index_or {A = Message} (new.transit c) k (record { payload = []; bit = false })).payload) (ap length (sym (got c))) (entry c k cb carries h).1;
    }
