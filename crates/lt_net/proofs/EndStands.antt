-- A net after its end.
use Rattle.std.proofs.Common.{◌≡◌, ℕ, ◌≤◌, List, [], ◌∷◌, ◌++◌, Option, Some, None, refl, sym, ap, ◌∙◌, subst}
use Rattle.lt_base.specs.declared.value.Value.{Value}
use Rattle.lt_arch.specs.declared.event.Event.{Event}
use Rattle.lt_arch.specs.declared.event.Event.TheVariants.{End}
use Rattle.lt_arch.specs.declared.shape.Shape.{Shape}
use Rattle.lt_arch.specs.declared.timing.Timing.{Timing}
use Rattle.lt_arch.specs.State.{State, start}
use Rattle.lt_arch.specs.Step.{offence_of, after, time_of}
use Rattle.lt_arch.specs.declared.limits.TheConstants.{GREATEST_TIME}
use Rattle.lt_arch.specs.Schedule.{after_all, AreUpTo, HasNoOffence}
use Rattle.lt_arch.specs.declared.event.Offence.{Offence}
use Rattle.lt_arch.specs.Times.{Times, HasTimes}
use Rattle.lt_arch.proofs.Noted.{noted-end}
use Rattle.lt_io.specs.FabricState.{FabricState}
use Rattle.lt_net_bench.proofs.Delivered.{stays_at}
use Rattle.lt_net.specs.Net.{TimedBenchState, Lists, bench_of, reached_state}
use Rattle.lt_net.specs.Stands.{NetStands}
use Rattle.lt_net.specs.Event.{ListsGoOn, Happens}
use Rattle.lt_machine.specs.declared.machine.Machine.{Ghosts as Machines}
use Rattle.lt_arch.specs.declared.controller.Controller.{Ghosts as Controls}

-- the event is in the range of times, and has no offence
abbrev pub Passes : Shape → Timing → State → Event → Type 0
Passes s t st e = (time_of e ≤ GREATEST_TIME) × (offence_of s t st e ≡ None)

pub timely-more : (limit : ℕ) (es : List Event) (e : Event) → AreUpTo limit es → time_of e ≤ limit → AreUpTo limit (es ++ e ∷ [])
timely-more limit [] e h le = (le, tt)
timely-more limit (x ∷ es) e h le = (h.0, timely-more limit es e h.1 le)

module _ (s : Shape) (t : Timing) (rows : ℕ) where
  pub after_all-more : (st : State) (es : List Event) (e : Event) → after_all s t rows st (es ++ e ∷ []) ≡ after s t rows (after_all s t rows st es) e
  after_all-more st [] e = refl
  after_all-more st (x ∷ es) e = after_all-more (after s t rows st x) es e

  pub clean-more : (st : State) (es : List Event) (e : Event) → HasNoOffence s t rows st es → offence_of s t (after_all s t rows st es) e ≡ None → HasNoOffence s t rows st (es ++ e ∷ [])
  clean-more st [] e c h = (h, tt)
  clean-more st (x ∷ es) e c h = (c.0, clean-more (after s t rows st x) es e c.1 h)

  pub end-node : (st : State) (at n : ℕ) → (after s t rows st (End at)).node n ≡ st.node n
  unfolding after
  end-node st at n = refl

  pub end-chan : (st : State) (at c : ℕ) → (after s t rows st (End at)).chan c ≡ st.chan c
  unfolding after
  end-chan st at c = refl

module _ {C M : Type 0} (ctl : Controls C) (mch : Machines M) (net : TimedBenchState C M) (at : ℕ) where
  abbrev ended_net : TimedBenchState C M
  ended_net = record net { watch = record net.watch { latest = Some at; horizon = Some at } }

  abbrev with_end : Lists → Lists
  with_end ls = record ls { events = ls.events ++ End at ∷ [] }

  module _ (ls : Lists) (s : NetStands ctl mch net ls) (clear : Passes net.shape net.timing (reached_state net ls) (End at)) where
    node_same : (n : ℕ) → (reached_state net (with_end ls)).node n ≡ (reached_state net ls).node n
    node_same n = ap (λ st. st.node n) (after_all-more net.shape net.timing net.rows (start net.timing.protocol) ls.events (End at)) ∙ end-node net.shape net.timing net.rows (reached_state net ls) at n

    chan_same : (c : ℕ) → (reached_state net (with_end ls)).chan c ≡ (reached_state net ls).chan c
    chan_same c = ap (λ st. st.chan c) (after_all-more net.shape net.timing net.rows (start net.timing.protocol) ls.events (End at)) ∙ end-chan net.shape net.timing net.rows (reached_state net ls) at c

    pub ended : NetStands ctl mch ended_net (with_end ls)
    ended = record {
      timely = timely-more GREATEST_TIME ls.events (End at) s.timely clear.0;
      clean = clean-more net.shape net.timing net.rows (start net.timing.protocol) ls.events (End at) s.clean clear.1;
      times = subst (λ st. HasTimes ended_net.watch net.shape net.timing st) (sym (after_all-more net.shape net.timing net.rows (start net.timing.protocol) ls.events (End at))) (noted-end net.watch net.shape net.timing net.rows (reached_state net ls) s.times at);
      bench = stays_at ctl mch (bench_of net) (reached_state net ls) (reached_state net (with_end ls)) ls.inputs ls.got s.bench (record { nodes = node_same; delivered = λ c. ap (λ ch. ch.delivered) (chan_same c) });
    }

    next_is : (next : Lists) (row : Option (List Value)) (payload : List Value) → ListsGoOn net ls next (End at) row payload → next ≡ with_end ls
    next_is next row payload goes = λ i. record { events = goes.events i; inputs = λ n. goes.inputs n i; got = λ c. goes.got c i }

  pub end_happens : (row : Option (List Value)) (old : FabricState) (offence : (ls : Lists) → NetStands ctl mch net ls → Passes net.shape net.timing (reached_state net ls) (End at)) →
      Happens (NetStands ctl mch net) (NetStands ctl mch ended_net) net (End at) row old old
  end_happens row old offence = record {
    payload = [];
    goes = λ ls next s goes. subst (λ next. NetStands ctl mch ended_net next) (sym (next_is ls s (offence ls s) next row [] goes)) (ended ls s (offence ls s));
    carried = λ ls next s goes. record { kinds = refl; transit = λ c. refl; sent = λ _ c. refl; delivered = λ _ c. refl };
  }

  -- the same, by what code has
  pub end_happens_by : (now : TimedBenchState C M) → net ≡ now → (e : Event) → e ≡ End at → time_of e ≤ GREATEST_TIME → (w : Times) → w ≡ record net.watch { latest = Some at; horizon = Some at } →
      (o : Option Offence) → o ≡ None → ((s : Shape) (t : Timing) (st : State) → HasTimes net.watch s t st → o ≡ offence_of s t st e) → (row : Option (List Value)) (old : FabricState) →
      Happens (NetStands ctl mch now) (NetStands ctl mch (record net { watch = w })) now e row old old
  end_happens_by now is e ends timely w watch o none judged row old =
      let clear : (ls : Lists) → NetStands ctl mch net ls → Passes net.shape net.timing (reached_state net ls) (End at) =
      λ ls s. subst (λ e. Passes net.shape net.timing (reached_state net ls) e) ends (timely, sym (judged net.shape net.timing (reached_state net ls) s.times) ∙ none) in
      subst (λ now. Happens (NetStands ctl mch now) (NetStands ctl mch (record net { watch = w })) now e row old old) is
      (subst (λ e. Happens (NetStands ctl mch net) (NetStands ctl mch (record net { watch = w })) net e row old old) (sym ends)
      (subst (λ w. Happens (NetStands ctl mch net) (NetStands ctl mch (record net { watch = w })) net (End at) row old old) (sym watch) (end_happens row old clear)))
