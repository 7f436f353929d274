-- Nodes and channels after a node ran an instant, by what code has of it.
use Rattle.std.proofs.Common.{◌≡◌, ◌≢◌, inl, inr, ℕ, suc, ◌+◌, ◌<◌, ◌≤◌, true, List, [], length, map, set, Some, refl, sym, ap, ◌∙◌, subst, arith, cond, add-one}
use Rattle.std.specs.Prelude.{slice_index_or, ◌&&◌}
use Rattle.std.proofs.lemmas.Bool.Decides.{eqb_tells}
use Rattle.std.proofs.lemmas.Option.{slice_get_within}
use Rattle.lt_base.specs.declared.value.Value.{Value}
use Rattle.lt_base.specs.Value.{ty_of}
use Rattle.lt_base.specs.Program.{Function}
use Rattle.lt_base.specs.Typing.{input_types, AllFit, RowFits}
use Rattle.lt_arch.specs.declared.event.Deed.TheVariants.{Execute}
use Rattle.lt_arch.specs.State.{State, Phase, executed_of}
use Rattle.lt_arch.specs.Readers.{node_count, chan_count, chan_of, to_of, from_of, carries_data}
use Rattle.lt_machine.specs.Follows.{Follows}
use Rattle.lt_place.specs.Layout.{part_of}
use Rattle.lt_net_node.specs.Acts.{takes_on, MarkedOn}
use Rattle.lt_net_bench.specs.Changes.{IsAhead, ActsOn, GrowsByRow}
use Rattle.lt_net_node.specs.Channels.{HasChannels}
use Rattle.lt_net_bench.specs.Executes.{Executes, ins_of}
use Rattle.lt_net_node.specs.Freshness.{TakenUpTo}
use Rattle.lt_link.specs.Ports.{is_to}
use Rattle.lt_net_bench.specs.Given.{FitsPart}
use Rattle.lt_net_node.specs.Layout.{IsLaidOut}
use Rattle.lt_net_node.specs.Local.{fed_row, upto, firsts}
use Rattle.lt_net_node.specs.Payloads.{types_for, payloads_between, row_at}
use Rattle.lt_net_bench.specs.Bench.{BenchState}
use Rattle.lt_net_bench.specs.Room.{HasSizes}
use Rattle.lt_net_bench.specs.Routes.{AreRoutes, AreExits}
use Rattle.lt_net_bench.specs.Standing.{HasRun, HasOwnValues, StandsAt}
use Rattle.lt_net_bench.proofs.Activated.{phases_are, messages_are, fresh_to_execute, bits_are, payloads_are, data_reads_are, ack_reads_are, plus_none}
use Rattle.lt_net_bench.proofs.Entries.{got_entry, same_number, other_number, or_false}
use Rattle.lt_net_bench.proofs.Feeds.{ins_are, ins_fit}
use Rattle.lt_net_bench.proofs.Firsts.{firsts-same, upto-same}
use Rattle.lt_net_node.proofs.InboxesRead.{taken_marks}
use Rattle.lt_net_bench.proofs.NextRun.{longer, earlier_row, last_row, run_next}
use Rattle.lt_net_bench.proofs.OutputsGo.{appends, unfilled}
use Rattle.lt_net_bench.proofs.OwnPayloads.{filled_own, filled_typed}
use Rattle.lt_net_bench.proofs.OwnValues.{own_taken}
use Rattle.lt_machine.specs.declared.machine.Machine.{Ghosts as Machines}
use Rattle.lt_arch.specs.declared.controller.Controller.{Ghosts as Controls}

module _ {C M : Type 0} (ctl : Controls C) (mch : Machines M) (p : BenchState C M) (n : ℕ) (f : Function) (laid : IsLaidOut f p.layout) (channels : HasChannels p.layout p.shape)
    (routes : AreRoutes p.layout p.shape p.routes) (exits : AreExits p.layout p.exits) (sized : HasSizes p) (tracks : length p.tracks ≡ length p.layout.outs)
    (woken : Phase) (st st' : State) (inputs inputs' got : ℕ → List (List Value)) (s : StandsAt ctl mch p st inputs got) (acts : ActsOn n Execute woken st st') (before : IsAhead p.shape st) (then : IsAhead p.shape st')
    (nb : n < node_count p.shape) (row : List Value) (takes : GrowsByRow inputs inputs' n row) (fits : FitsPart p.layout n row)
    (cs : List C) (mid : BenchState C M) (ex : Executes mch (record p { controllers = cs }) mid n row) where
  nl : n < length p.layout.nodes
  nl = omega (arith, nb, channels.nodes)

  grown : length (inputs' n) ≡ suc (length (inputs n))
  grown = longer mch p.layout p.shape p.machines p.executed p.tracks inputs inputs' got s.ran n row takes

  earlier : (k : ℕ) → k < length (inputs n) → row_at (inputs' n) k ≡ row_at (inputs n) k
  earlier = earlier_row mch p.layout p.shape p.machines p.executed p.tracks inputs inputs' got s.ran n row takes

  newest : row_at (inputs' n) (length (inputs n)) ≡ row
  newest = last_row mch p.layout p.shape p.machines p.executed p.tracks inputs inputs' got s.ran n row takes

  fresh : (c : ℕ) → c < chan_count p.shape → carries_data p.shape c ≡ true → to_of p.shape c ≡ n → length (got c) ≡ length (inputs n)
  fresh c h data_too to = fresh_to_execute ctl mch p n Execute woken st st' inputs got s acts before then refl c h data_too to ∙ sym (s.rows n nb)

  ins_is : ins_of p n row ≡ fed_row p.layout (payloads_between p.shape got) n row (length (inputs n))
  ins_is = ins_are p f laid channels routes sized.inboxes sized.inbox_types n nl row fits got s.payloads (length (inputs n)) fresh

  row_fits : RowFits (input_types (part_of p.layout n).flat.func) (map Some (fed_row p.layout (payloads_between p.shape got) n row (length (inputs n))))
  row_fits = subst (λ r. RowFits (input_types (part_of p.layout n).flat.func) (map Some r)) ins_is (ins_fit p f laid channels routes sized.inboxes sized.inbox_types n nl row fits)

  -- the rows so far are the same, and the new one is that of this instant
  earlier_fed : (k : ℕ) → k < length (inputs n) → fed_row p.layout (payloads_between p.shape got) n (row_at (inputs' n) k) k ≡ fed_row p.layout (payloads_between p.shape got) n (row_at (inputs n) k) k
  earlier_fed k kb = ap (λ r. fed_row p.layout (payloads_between p.shape got) n r k) (earlier k kb)

  newest_fed : fed_row p.layout (payloads_between p.shape got) n (row_at (inputs' n) (length (inputs n))) (length (inputs n)) ≡ fed_row p.layout (payloads_between p.shape got) n row (length (inputs n))
  newest_fed = ap (λ r. fed_row p.layout (payloads_between p.shape got) n r (length (inputs n))) newest

  all_fit : AllFit (input_types (part_of p.layout n).flat.func) (upto (λ k. map Some (fed_row p.layout (payloads_between p.shape got) n (row_at (inputs' n) k) k)) (suc (length (inputs n))))
  all_fit = (
    subst (λ r. RowFits (input_types (part_of p.layout n).flat.func) (map Some r)) (sym newest_fed) row_fits,
    subst (λ rs. AllFit (input_types (part_of p.layout n).flat.func) rs) (upto-same _ _ (length (inputs n)) (λ k kb. ap (map Some) (sym (earlier_fed k kb)))) (s.fit n nl),
  )

  follows_next : Follows (part_of p.layout n).flat.func (firsts (λ k. fed_row p.layout (payloads_between p.shape got) n (row_at (inputs' n) k) k) (length (inputs n)))
      (fed_row p.layout (payloads_between p.shape got) n (row_at (inputs' n) (length (inputs n))) (length (inputs n))) ex.outs
  follows_next =
      subst (λ rs. Follows (part_of p.layout n).flat.func rs (fed_row p.layout (payloads_between p.shape got) n (row_at (inputs' n) (length (inputs n))) (length (inputs n))) ex.outs) (firsts-same _ _ (length (inputs n)) (λ k kb. sym (earlier_fed k kb)))
      (subst (λ r. Follows (part_of p.layout n).flat.func (firsts (λ k. fed_row p.layout (payloads_between p.shape got) n (row_at (inputs n) k) k) (length (inputs n))) r ex.outs) (ins_is ∙ sym newest_fed)
      (ex.steps.follows (part_of p.layout n).flat.func (firsts (λ k. fed_row p.layout (payloads_between p.shape got) n (row_at (inputs n) k) k) (length (inputs n))) (s.ran.machines n ex.before ex.there)))

  to_is : (c : ℕ) → is_to p.shape.channels n true c ≡ takes_on p.shape n Execute c
  unfolding chan_of
  to_is c = sym (or_false (is_to p.shape.channels n true c))

  marks : MarkedOn (takes_on p.shape n Execute) p.inboxes mid.inboxes
  marks = taken_marks (is_to p.shape.channels n true) (takes_on p.shape n Execute) p.inboxes mid.inboxes
      (subst (λ k. TakenUpTo k (is_to p.shape.channels n true) p.inboxes mid.inboxes) (sym sized.inboxes) ex.taken) (λ c h. to_is c)

  pub buffers_typed : (c : ℕ) → c < chan_count p.shape → map ty_of (slice_index_or mid.buffers c []) ≡ types_for p.layout p.shape c
  buffers_typed c h = filled_typed f p.layout p.shape laid channels p.routes routes n nl inputs' got (length (inputs n)) all_fit ex.outs ex.count follows_next p.buffers mid.buffers ex.buffers sized.buffers sized.buffer_types c h

  -- the machines have run the instant
  pub instant_ran : HasRun mch p.layout p.shape (set p.machines n ex.after) mid.executed mid.tracks inputs' got
  instant_ran =
      run_next mch p.layout p.shape p.machines p.executed p.tracks inputs inputs' got s.ran n row takes ex.before ex.after ex.there (ins_of p n row) ins_is ex.outs ex.steps.stands_more ex.steps.follows ex.steps.made_more nb nl
      mid.executed ex.executed (omega (arith, nb, sized.executed)) mid.tracks (appends f p.layout laid p.exits exits n nl ex.outs ex.count p.tracks mid.tracks tracks ex.tracks)

  upto_other : (i : ℕ) → i ≢ n → upto (λ k. map Some (fed_row p.layout (payloads_between p.shape got) i (row_at (inputs i) k) k)) (length (inputs i)) ≡ upto (λ k. map Some (fed_row p.layout (payloads_between p.shape got) i (row_at (inputs' i) k) k)) (length (inputs' i))
  upto_other i ne = let e = takes.elsewhere i ne in λ j. upto (λ k. map Some (fed_row p.layout (payloads_between p.shape got) i (row_at (sym e j) k) k)) (length (sym e j))

  executed_here : (st'.node n).executed ≡ suc ((st.node n).executed)
  executed_here = acts.executed n ∙ ap (λ x. executed_of st n + cond (x && true) 1 0) (same_number n) ∙ add-one (executed_of st n)

  executed_other : (i : ℕ) → i ≢ n → (st'.node i).executed ≡ (st.node i).executed
  executed_other i ne = acts.executed i ∙ ap (λ x. executed_of st i + cond (x && true) 1 0) (other_number i n ne) ∙ plus_none (executed_of st i)

  buffers_own : (c k : ℕ) → c < chan_count p.shape → carries_data p.shape c ≡ true → length (inputs' (from_of p.shape c)) ≡ suc k → HasOwnValues p.layout p.shape inputs' got (from_of p.shape c) (to_of p.shape c) k (slice_index_or mid.buffers c [])
  buffers_own c k h carries len = elim (eqb_tells (from_of p.shape c) n) [
    | inl e ↦
        let k_is : length (inputs n) ≡ k = let l = sym grown ∙ ap (λ j. length (inputs' j)) (sym e.1) ∙ len in omega (arith, l) in
        subst (λ k. HasOwnValues p.layout p.shape inputs' got (from_of p.shape c) (to_of p.shape c) k (slice_index_or mid.buffers c [])) k_is
        (filled_own f p.layout p.shape laid channels p.routes routes n nl inputs' got (length (inputs n)) all_fit ex.outs ex.count follows_next p.buffers mid.buffers ex.buffers sized.buffers sized.buffer_types c h carries e.1)
    | inr e ↦
        let len' : length (inputs (from_of p.shape c)) ≡ suc k = ap length (sym (takes.elsewhere (from_of p.shape c) e.1)) ∙ len in
        subst (λ b. HasOwnValues p.layout p.shape inputs' got (from_of p.shape c) (to_of p.shape c) k b) (sym (unfilled f p.layout p.shape laid channels p.routes routes n ex.outs p.buffers mid.buffers ex.buffers c e.1))
        (own_taken p.layout p.shape inputs inputs' got n row takes (from_of p.shape c) (to_of p.shape c) k (slice_index_or p.buffers c []) (omega (arith, len')) (s.buffers c k h carries len'))
  ]

  -- they stand for the lists with the instant
  pub instant_at : (control : C) → cs ≡ set p.controllers n control → n < length p.controllers → ctl.phase control ≡ woken →
      StandsAt ctl mch (record p { controllers = cs; machines = set p.machines n ex.after; executed = mid.executed; inboxes = mid.inboxes; tracks = mid.tracks; buffers = mid.buffers }) st' inputs' got
  instant_at control controls within woke = record {
    phases = phases_are ctl mch p n Execute woken st st' inputs got s acts cs control controls within woke;
    rows = λ i h. elim (eqb_tells i n) [
      | inl e ↦ subst (λ i. length (inputs' i) ≡ (st'.node i).executed) (sym e.1) (grown ∙ ap suc (s.rows n nb) ∙ sym executed_here)
      | inr e ↦ ap length (takes.elsewhere i e.1) ∙ s.rows i h ∙ sym (executed_other i e.1)
    ];
    messages = messages_are ctl mch p n Execute woken st st' inputs got s acts;
    fit = λ i ib. elim (eqb_tells i n) [
      | inl e ↦ subst (λ i. AllFit (input_types (part_of p.layout i).flat.func) (upto (λ k. map Some (fed_row p.layout (payloads_between p.shape got) i (row_at (inputs' i) k) k)) (length (inputs' i)))) (sym e.1)
          (subst (λ k. AllFit (input_types (part_of p.layout n).flat.func) (upto (λ k. map Some (fed_row p.layout (payloads_between p.shape got) n (row_at (inputs' n) k) k)) k)) (sym grown) all_fit)
      | inr e ↦ subst (λ rs. AllFit (input_types (part_of p.layout i).flat.func) rs) (upto_other i e.1) (s.fit i ib)
    ];
    ran = instant_ran;
    steps_left = λ i m h. elim (got_entry p.machines n i ex.after m (slice_get_within p.machines n ex.before ex.there) h) [
      | inl e ↦
          let enough = s.steps_left n ex.before ex.there in
          let l = grown in
          let less = ex.steps.left_less in
          subst (λ i. p.rows ≤ length (inputs' i) + mch.left m) (sym e.0) (subst (λ z. p.rows ≤ length (inputs' n) + mch.left z) (sym e.1) (omega (arith, enough, l, less)))
      | inr e ↦ subst (λ rs. p.rows ≤ length rs + mch.left m) (sym (takes.elsewhere i e.0)) (s.steps_left i m e.1)
    ];
    payloads = payloads_are ctl mch p n Execute woken st st' inputs got s acts before then mid.inboxes marks sized.inboxes;
    bits = bits_are ctl mch p n Execute woken st st' inputs got s acts before then mid.inboxes marks sized.inboxes;
    data_reads = data_reads_are ctl mch p n Execute woken st st' inputs got s acts before then mid.inboxes marks sized.inboxes;
    ack_reads = ack_reads_are ctl mch p n Execute woken st st' inputs got s acts before then mid.inboxes marks sized.inboxes;
    buffers = buffers_own;
  }
