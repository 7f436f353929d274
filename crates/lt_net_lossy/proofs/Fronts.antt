-- Payloads that are their senders' own, and the cells that come of them.
use Rattle.std.proofs.Common.{◌≡◌, inl, inr, ℕ, suc, ◌<◌, ◌≤◌, Bool, true, false, List, [], ◌∷◌, length, Option, Some, None, refl, sym, ap, ◌∙◌, subst, arith, length-append}
use Rattle.std.specs.Prelude.{slice_index_or}
use Rattle.std.proofs.lemmas.Bool.Decides.{eqb_tells}
use Rattle.lt_base.specs.declared.value.Value.{Value}
use Rattle.lt_arch.specs.declared.event.Deed.{Deed}
use Rattle.lt_arch.specs.declared.event.Deed.TheVariants.{Nothing, Execute, Send}
use Rattle.lt_arch.specs.declared.event.Event.TheVariants.{Act, Del, End}
use Rattle.lt_arch.specs.declared.shape.Shape.{Shape}
use Rattle.lt_arch.specs.Readers.{node_count, chan_count, from_of, to_of, carries_data}
use Rattle.lt_lossy.specs.declared.event.LossyEvent.TheVariants.{Plain, Lose}
use Rattle.lt_lossy.specs.State.{plain_of}
use Rattle.lt_place.specs.declared.layout.Layout.{Layout}
use Rattle.lt_net_bench.specs.Changes.{GrowsByRow, NoListChanged}
use Rattle.lt_net_bench.specs.Own.{PayloadsAreOwn}
use Rattle.lt_net_bench.specs.Standing.{HasOwnValues}
use Rattle.lt_net_bench.proofs.Delivered.{enough_ahead}
use Rattle.lt_net_bench.proofs.Entries.{either_way}
use Rattle.lt_net_bench.proofs.OutputFronts.{output_front}
use Rattle.lt_net_bench.proofs.OwnValues.{own_taken, owns_delivered}
use Rattle.lt_net_bench.proofs.Replaced.{owns_replaced}
use Rattle.lt_net_lossy.specs.Net.{LossyBenchState, LossyLists, bench_of_lossy, lossy_state_of}
use Rattle.lt_net_lossy.specs.Kept.{IsFixedLossy}
use Rattle.lt_net_lossy.specs.Stands.{StandsLossy}
use Rattle.lt_net_lossy.specs.Event.{RowsGo, GetsBy, brings_new, is_unread, lossy_deed_by}
use Rattle.lt_net_lossy.specs.Laws.{EventsKeepOwn, LossyCellsAreFronts, LossyCellsAreLocal}
use Rattle.lt_net_lossy.proofs.Arrived.{got_new, got_copy}
use Rattle.lt_net_lossy.proofs.Copied.{unread_most}
use Rattle.lt_net_lossy.proofs.Reached.{ahead}
use Rattle.lt_net_lossy.proofs.Transit.{brings_own, copies_own, newest_most}
use Rattle.lt_machine.specs.declared.machine.Machine.{Ghosts as Machines}
use Rattle.lt_arch.specs.declared.controller.Controller.{Ghosts as Controls}

same_own : (l : Layout) (s : Shape) (inputs inputs' got got' : ℕ → List (List Value)) → NoListChanged inputs inputs' → NoListChanged got got' → PayloadsAreOwn l s inputs got → PayloadsAreOwn l s inputs' got'
same_own l s inputs inputs' got got' rows payloads own =
    let rows_are : inputs' ≡ inputs = λ i n. rows n i in
    let got_are : got' ≡ got = λ i c. payloads c i in
    subst (λ rs. PayloadsAreOwn l s rs got') (sym rows_are) (subst (λ g. PayloadsAreOwn l s inputs g) (sym got_are) own)

-- a node took a row
took_own : (l : Layout) (s : Shape) (inputs inputs' got : ℕ → List (List Value)) (n : ℕ) (row : List Value) → GrowsByRow inputs inputs' n row → PayloadsAreOwn l s inputs got → PayloadsAreOwn l s inputs' got
took_own l s inputs inputs' got n row takes own = record {
  before = λ c k lt carries h. let a = own.before c k lt carries h in let b = longer (from_of s c) in omega (arith, a, b);
  own = λ c k lt carries h. own_taken l s inputs inputs' got n row takes (from_of s c) (to_of s c) k (slice_index_or (got c) k []) (own.before c k lt carries h) (own.own c k lt carries h);
}
  where
    longer : (i : ℕ) → length (inputs i) ≤ length (inputs' i)
    longer i = elim (eqb_tells i n) [
      | inl e ↦ subst (λ i. length (inputs i) ≤ length (inputs' i)) (sym e.1) (let a = ap length takes.there in let b = length-append (inputs n) (row ∷ []) in omega (arith, a, b))
      | inr e ↦ let a = ap length (takes.elsewhere i e.1) in omega (arith, a)
    ]

rows_own : (l : Layout) (s : Shape) (inputs inputs' got : ℕ → List (List Value)) (n : ℕ) (d : Deed) (row : Option (List Value)) → RowsGo n d row inputs inputs' → PayloadsAreOwn l s inputs got → PayloadsAreOwn l s inputs' got
rows_own l s inputs inputs' got n Nothing row go own = same_own l s inputs inputs' got got go (λ c. refl) own
rows_own l s inputs inputs' got n Send row go own = same_own l s inputs inputs' got got go (λ c. refl) own
rows_own l s inputs inputs' got n Execute None go own = absurd go
rows_own l s inputs inputs' got n Execute (Some r) go own = took_own l s inputs inputs' got n r go own

module _ {C M : Type 0} (ctl : Controls C) (mch : Machines M) where
  copy_is_own : (net : LossyBenchState C M) (ls next : LossyLists) (payload : List Value) (fixed : IsFixedLossy net.layout net.shape net.timing) → StandsLossy ctl mch net ls → PayloadsAreOwn net.layout net.shape ls.inputs ls.got →
      (ch : ℕ) → ch < chan_count net.shape → (unread : Bool) → is_unread net.shape (lossy_state_of net ls) ch ≡ unread → NoListChanged ls.inputs next.inputs → GetsBy false unread ls.got next.got ch payload →
      (carries_data net.shape ch ≡ true → (k : ℕ) → length (ls.got ch) ≡ suc k → HasOwnValues net.layout net.shape ls.inputs ls.got (from_of net.shape ch) (to_of net.shape ch) k payload) → PayloadsAreOwn net.layout net.shape next.inputs next.got
  copy_is_own net ls next payload fixed s own ch here false is rows got brought = same_own net.layout net.shape ls.inputs next.inputs ls.got next.got rows got own
  copy_is_own net ls next payload fixed s own ch here true is rows got brought =
      same_own net.layout net.shape ls.inputs next.inputs next.got next.got rows (λ c. refl)
      (owns_replaced fixed.whole net.layout net.shape fixed.laid fixed.channels ls.inputs ls.got next.got ch payload got (unread_most ctl mch net ls s fixed ch here is) own (λ lt carries k count. brought carries k count))

  pub law-own : EventsKeepOwn ctl mch
  law-own net ls next row payload fabric (Plain (Act n at)) fixed with own placed goes brings =
      same_own net.layout net.shape next.inputs next.inputs ls.got next.got (λ i. refl) goes.got (rows_own net.layout net.shape ls.inputs next.inputs ls.got n (lossy_deed_by net ls (Plain (Act n at))) row goes.inputs own)
  law-own net ls next row payload fabric (Plain (End at)) fixed with own placed goes brings = same_own net.layout net.shape ls.inputs next.inputs ls.got next.got goes.inputs goes.got own
  law-own net ls next row payload fabric (Lose ch at) fixed with own placed goes brings = same_own net.layout net.shape ls.inputs next.inputs ls.got next.got goes.inputs goes.got own
  law-own net ls next row payload fabric (Plain (Del ch at)) fixed with own placed goes brings = elim (either_way (brings_new (lossy_state_of net ls) ch)) [
    | inr old ↦
        let some = copies_own ctl mch net ls next with.standing fixed fabric with.holds ch placed brings.0 brings.1 brings.2 old in
        copy_is_own net ls next payload fixed with.standing own ch placed (is_unread net.shape (lossy_state_of net ls) ch) refl goes.inputs (got_copy _ _ ls.got next.got ch payload old goes.got)
        (λ carries k count. subst (λ p. HasOwnValues net.layout net.shape ls.inputs ls.got (from_of net.shape ch) (to_of net.shape ch) k p) (sym brings.3)
        (subst (λ j. HasOwnValues net.layout net.shape ls.inputs ls.got (from_of net.shape ch) (to_of net.shape ch) j brings.0.payload) (omega (arith, count, some.1)) (some.2 carries)))
    | inl new ↦
        same_own net.layout net.shape ls.inputs next.inputs next.got next.got goes.inputs (λ c. refl)
        (owns_delivered fixed.whole net.layout net.shape fixed.laid ls.inputs ls.got next.got
        (enough_ahead ctl mch (bench_of_lossy net) fixed.whole fixed.laid fixed.channels (plain_of (lossy_state_of net ls)) ls.inputs ls.got with.standing.bench (ahead ctl mch net ls with.standing fixed))
        fixed.channels.ends ch payload (got_new _ _ ls.got next.got ch payload new goes.got) own
        (λ lt carries. newest_most ctl mch net ls next with.standing fixed fabric with.holds ch lt brings.0 brings.1 brings.2 new carries)
        (λ lt carries. subst (λ p. HasOwnValues net.layout net.shape ls.inputs ls.got (from_of net.shape ch) (to_of net.shape ch) (length (ls.got ch)) p) (sym brings.3)
        (brings_own ctl mch net ls next with.standing fixed fabric with.holds ch lt brings.0 brings.1 brings.2 new carries)))
  ]

  pub law-fronts : LossyCellsAreFronts ctl mch
  law-fronts net ls fixed s own rows fit are = output_front ctl mch (bench_of_lossy net) (plain_of (lossy_state_of net ls)) ls.inputs ls.got fixed.whole fixed.laid fixed.channels (ahead ctl mch net ls s fixed) s.bench own rows fit are

  pub law-local : LossyCellsAreLocal ctl mch
  law-local net ls fixed s y n x yb nb gives =
      let there : n < node_count net.shape = omega (arith, nb, fixed.channels.nodes) in
      s.bench.ran.cells y n x yb nb gives ∙ ap (λ k. Rattle.lt_net_node.specs.Local.local_stream net.layout (Rattle.lt_net_node.specs.Payloads.payloads_between net.shape ls.got) n (Rattle.lt_net_node.specs.Payloads.row_at (ls.inputs n)) k x) (s.bench.rows n there)
