-- One event more.
use Rattle.std.proofs.Common.{◌≡◌, ◌≢◌, inl, inr, ℕ, zero, suc, ◌+◌, ◌<◌, ◌≤◌, Bool, true, false, List, [], ◌∷◌, ◌++◌, length, take, get_or, Option, Some, None, cond, nat_eq, IsTrue, refl, sym, ap, ◌∙◌, subst, arith}
use Rattle.std.specs.Prelude.{slice_index_or}
use Rattle.std.specs.List.{slice_get}
use Rattle.std.proofs.lemmas.Bool.Decides.{eqb_tells}
use Rattle.std.proofs.lemmas.Option.{slice_get-get_or, get_or_from_slice_get}
use Rattle.lt_base.specs.declared.value.Value.{Value}
use Rattle.lt_arch.specs.declared.event.Deed.{Deed}
use Rattle.lt_arch.specs.declared.event.Deed.TheVariants.{Nothing, Execute, Send}
use Rattle.lt_arch.specs.declared.event.Event.{Event}
use Rattle.lt_arch.specs.declared.event.Event.TheVariants.{Act, Del, End}
use Rattle.lt_arch.specs.State.{executed_of}
use Rattle.lt_arch.specs.Readers.{node_count}
use Rattle.lt_arch.specs.Deeds.{deed_at, more, all_in, any_in, all_ack}
use Rattle.lt_arch.specs.Schedule.{IsPlacedIn}
use Rattle.lt_net_bench.proofs.Bits.{leb-le}
use Rattle.lt_io.specs.FabricState.{FabricState, KeepsFabric}
use Rattle.lt_net_node.specs.Payloads.{row_at}
use Rattle.lt_net.specs.Net.{TimedBenchState, Lists, reached_state}
use Rattle.lt_net.specs.Stands.{NetStands}
use Rattle.lt_net.specs.Event.{ListsGoOn, Happens, FabricHolds, HasKinds, SameStatic, InputsGo}
use Rattle.lt_net.specs.Given.{IsRowFor}
use Rattle.lt_net.specs.Loop.{KeptOfLists, ReplayIsGiven, row_for}
use Rattle.lt_net.proofs.ReplayStep.{keeps_on, deed_more, static_of}
use Rattle.lt_machine.specs.declared.machine.Machine.{Ghosts as Machines}
use Rattle.lt_arch.specs.declared.controller.Controller.{Ghosts as Controls}

grow_inputs : (n at : ℕ) (d : Deed) (row : Option (List Value)) (old : ℕ → List (List Value)) → (d ≡ Execute → row ≢ None) → (new : ℕ → List (List Value)) × InputsGo (Act n at) d row old new
grow_inputs n at Nothing row old h = (old, λ i. refl)
grow_inputs n at Send row old h = (old, λ i. refl)
grow_inputs n at Execute None old h = absurd (h refl refl)
grow_inputs n at Execute (Some r) old h = (
  (λ i. cond (nat_eq i n) (old i ++ r ∷ []) (old i)),
  record {
    there = elim (eqb_tells n n) [ inl e ↦ rw e.0 refl | inr e ↦ absurd (e.1 refl) ];
    elsewhere = λ i ne. elim (eqb_tells i n) [ inl e ↦ absurd (ne e.1) | inr e ↦ rw e.0 refl ];
  },
)

module _ {C M : Type 0} (net : TimedBenchState C M) (ls : Lists) (row : Option (List Value)) (payload : List Value) where
  -- there are lists with the event's entries
  pub next_lists : (e : Event) → ((n at : ℕ) → e ≡ Act n at → deed_at net.shape net.rows (reached_state net ls) n ≡ Execute → row ≢ None) → (next : Lists) × ListsGoOn net ls next e row payload
  next_lists (Act n at) h =
      let g = grow_inputs n at (deed_at net.shape net.rows (reached_state net ls) n) row ls.inputs (h n at refl) in
      (record { events = ls.events ++ Act n at ∷ []; inputs = g.0; got = ls.got }, record { events = refl; inputs = g.1; got = λ c. refl })
  next_lists (Del ch at) h = (
    record { events = ls.events ++ Del ch at ∷ []; inputs = ls.inputs; got = λ c. cond (nat_eq c ch) (ls.got c ++ payload ∷ []) (ls.got c) },
    record {
      events = refl;
      inputs = λ i. refl;
      got = record {
        there = elim (eqb_tells ch ch) [ inl h ↦ rw h.0 refl | inr h ↦ absurd (h.1 refl) ];
        elsewhere = λ c ne. elim (eqb_tells c ch) [ inl h ↦ absurd (ne h.1) | inr h ↦ rw h.0 refl ];
      };
    },
  )
  next_lists (End at) h = (record { events = ls.events ++ End at ∷ []; inputs = ls.inputs; got = ls.got }, record { events = refl; inputs = λ i. refl; got = λ c. refl })

module _ {C M : Type 0} (ctl : Controls C) (mch : Machines M) (inputs : List (List Value)) (read : List Event) (net next_net : TimedBenchState C M) (old new : FabricState)
    (given : ReplayIsGiven net inputs) (kept : KeptOfLists ctl mch inputs read net old) (e : Event) (there : IsPlacedIn net.shape e) where
  module _ (row : Option (List Value)) (row_is : row ≡ row_for net inputs e) where
    has_row : (n at : ℕ) → e ≡ Act n at → deed_at net.shape net.rows (reached_state net kept.0) n ≡ Execute → row ≢ None
    has_row n at is d none =
        let b : n < node_count net.shape = subst (IsPlacedIn net.shape) is there in
        let st = reached_state net kept.0 in
        let left_over : executed_of (reached_state net kept.0) n < net.rows = leb-le _ _ (deed_more ((reached_state net kept.0).node n).phase (all_in net.shape (reached_state net kept.0) n) (any_in net.shape (reached_state net kept.0) n) (all_ack net.shape (reached_state net kept.0) n) (more net.rows (reached_state net kept.0) n) d) in
        let count = (kept.1).stands_for.bench.ran.executed n b ∙ (kept.1).stands_for.bench.rows n b in
        let some = slice_get-get_or inputs (slice_index_or net.executed n 0) [] (omega (arith, left_over, count, given.rows)) in
        absurd (let q = sym (row_is ∙ ap (row_for net inputs) is ∙ some) ∙ none in cc)

    right_row : (n at : ℕ) (r : List Value) → e ≡ Act n at → row ≡ Some r → length ((kept.0).inputs n) < net.rows → r ≡ row_at inputs (length ((kept.0).inputs n))
    right_row n at r value_of is lt =
        let s = (kept.1).stands_for in
        let b : n < node_count net.shape = subst (IsPlacedIn net.shape) value_of there in
        let count : slice_index_or net.executed n 0 ≡ length ((kept.0).inputs n) = s.bench.ran.executed n b in
        sym (get_or_from_slice_get inputs (length ((kept.0).inputs n)) r [] (ap (slice_get inputs) (sym count) ∙ sym (row_is ∙ ap (row_for net inputs) value_of) ∙ is))

    pub one_more : Happens (NetStands ctl mch net) (NetStands ctl mch next_net) net e row old new → FabricHolds next_net new → HasKinds next_net new → SameStatic net next_net → KeepsFabric old new →
        KeptOfLists ctl mch inputs (read ++ e ∷ []) next_net new
    one_more happens holds kinds fixed keeps =
        let ls = kept.0 in
        let go = next_lists net ls row happens.payload e has_row in (
          go.0,
          keeps_on C M ctl mch inputs read net next_net old new ls go.0 e row happens.payload given.whole given.placed given.channels given.one_place given.rows kept.1 there right_row go.1
              (happens.carried ls go.0 (kept.1).stands_for go.1) keeps (happens.goes ls go.0 (kept.1).stands_for go.1) holds kinds fixed,
        )

  pub given_next : SameStatic net next_net → length next_net.executed ≡ node_count next_net.shape → ReplayIsGiven next_net inputs
  given_next fixed counts = static_of net next_net fixed (λ z. ReplayIsGiven z inputs)
      (record { whole = given.whole; placed = given.placed; channels = given.channels; one_place = given.one_place; rows = given.rows; counts = counts ∙ ap node_count fixed.shape; fit = given.fit })

pub take_more : {A : Type 0} (xs : List A) (i : ℕ) (d : A) → i < length xs → take i xs ++ get_or xs i d ∷ [] ≡ take (i + 1) xs
take_more xs i d h = sym (Rattle.std.proofs.Math.Seq.take-suc xs i d h) ∙ ap (λ k. take k xs) (sym (Rattle.std.proofs.Common.add-one i))

pub fixed_refl : {C M : Type 0} (a : TimedBenchState C M) → SameStatic a a
fixed_refl a = record { layout = refl; shape = refl; timing = refl; rows = refl }

pub fixed_trans : {C M : Type 0} (a b c : TimedBenchState C M) → SameStatic a b → SameStatic b c → SameStatic a c
fixed_trans a b c x y = record { layout = y.layout ∙ x.layout; shape = y.shape ∙ x.shape; timing = y.timing ∙ x.timing; rows = y.rows ∙ x.rows }

-- each activation has its row
pub row_fits : {C M : Type 0} (net : TimedBenchState C M) (inputs : List (List Value)) → ReplayIsGiven net inputs → (e : Event) → IsPlacedIn net.shape e → (row : Option (List Value)) → row ≡ row_for net inputs e → IsRowFor net e row
row_fits net inputs given (Act n at) there row is = λ more.
    let lt : slice_index_or net.executed n 0 < length inputs = omega (arith, more, given.rows) in
    (row_at inputs (slice_index_or net.executed n 0), is ∙ slice_get-get_or inputs (slice_index_or net.executed n 0) [] lt, given.fit n (slice_index_or net.executed n 0) there lt)
row_fits net inputs given (Del c at) there row is = tt
row_fits net inputs given (End at) there row is = tt
