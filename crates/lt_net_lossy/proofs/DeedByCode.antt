-- The deed of an activation, by what code has.
use Rattle.std.proofs.Common.{◌≡◌, ℕ, ◌+◌, ◌-◌, ◌<◌, ◌≤◌, Bool, true, false, List, [], length, map, set, Option, Some, refl, sym, ap, ◌∙◌, subst, arith, cond, length-set}
use Rattle.std.specs.Prelude.{slice_index_or, nat_lt, ◌&&◌}
use Rattle.lt_base.specs.declared.value.Value.{Value}
use Rattle.lt_base.specs.Value.{ty_of}
use Rattle.lt_base.specs.Program.{Function}
use Rattle.lt_arch.specs.declared.event.Deed.{Deed}
use Rattle.lt_arch.specs.declared.event.Deed.TheVariants.{Nothing, Execute, Send}
use Rattle.lt_arch.specs.declared.event.Event.TheVariants.{Act}
use Rattle.lt_arch.specs.declared.timing.Timing.{Timing}
use Rattle.lt_arch.specs.State.{Phase, Wait, Ready, First, Sending, Executing, unsent}
use Rattle.lt_arch.specs.Readers.{node_count, chan_count, chan_of, send_of, execute_of}
use Rattle.lt_arch.specs.Deeds.{deed_at, phase_at, phase_after}
use Rattle.lt_bp.proofs.Balance.{IsPhase}
use Rattle.lt_link.specs.Inbox.{InboxState}
use Rattle.lt_lossy.specs.State.{plain_of}
use Rattle.lt_lossy.specs.Times.{LossyTimes}
use Rattle.lt_lossy.specs.declared.event.LossyEvent.TheVariants.{Plain}
use Rattle.lt_lossy.proofs.Balance.{woke-n}
use Rattle.lt_net_node.specs.Acts.{takes_on}
use Rattle.lt_net_bench.specs.Executes.{CanExecute, Executes}
use Rattle.lt_net_node.specs.Freshness.{TakenUpTo}
use Rattle.lt_link.specs.Ports.{is_to, is_from, HasPorts}
use Rattle.lt_net_bench.specs.Given.{FitsPart}
use Rattle.lt_net_node.specs.Payloads.{types_for}
use Rattle.lt_net_bench.specs.Bench.{BenchState}
use Rattle.lt_net_bench.specs.Room.{HasSpace}
use Rattle.lt_net_node.specs.Wakes.{Wakes, bits_of}
use Rattle.lt_net_bench.proofs.Able.{can_execute}
use Rattle.lt_net_bench.proofs.DeedOfBits.{deed_is}
use Rattle.lt_net_node.proofs.InboxesRead.{taken_marks, no_marks}
use Rattle.lt_net_bench.proofs.SizesStay.{sizes_read, sizes_ran, space_ran}
use Rattle.lt_net.proofs.Uncounted.{IsUncounted, uncounted_same}
use Rattle.lt_net_lossy.specs.Net.{LossyBenchState, LossyLists, lossy_bench_of, lossy_state_of}
use Rattle.lt_net_lossy.specs.Stands.{StandsLossy}
use Rattle.lt_net_lossy.specs.Changes.{PostedUpTo, posts_on, IsWoken}
use Rattle.lt_net_lossy.specs.Deeds.{DoesIdle, DoesDeed, LossyCanAct}
use Rattle.lt_net_lossy.specs.Given.{HasLossyRow}
use Rattle.lt_net_lossy.specs.Taken.{IsKeptLossy}
use Rattle.lt_net_lossy.proofs.NextLossy.{rows_left, next_lossy, row_there}
use Rattle.lt_net_lossy.proofs.PostLoop.{posted_all}
use Rattle.lt_net_lossy.proofs.Reached.{balanced, ahead, unsent_most}
use Rattle.lt_net_lossy.proofs.InstantOf.{instant_typed}
use Rattle.lt_arch.specs.Step.{is_execute}
use Rattle.lt_machine.specs.declared.machine.Machine.{Ghosts as Machines}
use Rattle.lt_arch.specs.declared.controller.Controller.{Ghosts as Controls}

unsent_few : (ph : Phase) (e : ℕ) → IsPhase ph e → unsent ph ≤ e
unsent_few Wait e h = omega arith
unsent_few Ready e h = h
unsent_few First e h = absurd h
unsent_few (Sending left) e h = absurd h
unsent_few (Executing left) e h = absurd h

uncounted : (ph : Phase) (e : ℕ) → IsPhase ph e → IsUncounted ph
uncounted Wait e h = tt
uncounted Ready e h = tt
uncounted First e h = absurd h
uncounted (Sending left) e h = absurd h
uncounted (Executing left) e h = absurd h

-- a node that sends has then sent all that it has executed
one_unsent : (e u : ℕ) → u ≤ 1 → (e - u) + 1 ≤ e → e ≡ (e - u) + 1
one_unsent e u most less = omega (arith, most, less)

nothing_executes : Nothing ≡ Execute → ⊥
nothing_executes h = absurd (cc)

send_executes : Send ≡ Execute → ⊥
send_executes h = absurd (cc)

executes_idle : (d : Deed) → d ≡ Execute → is_execute d ≡ false → ⊥
executes_idle d h f = absurd (cc)

module _ {C M : Type 0} (ctl : Controls C) (mch : Machines M) (p : BenchState C M) (t : Timing) (w : LossyTimes) (sent : List ℕ) (posted : List (List Value))
    (kept : IsKeptLossy (lossy_bench_of p t w sent posted)) (n : ℕ) (nb : n < node_count p.shape) (cs : List C) (d : Deed)
    (wakes : Wakes ctl p.controllers cs n (bits_of p.shape.channels p.inboxes p.executed p.rows n) d) where
  abbrev net : LossyBenchState C M
  net = lossy_bench_of p t w sent posted

  within : n < length p.controllers
  within = let c = kept.sized.bench.controllers in omega (arith, nb, c)

  controls_length : length cs ≡ length p.controllers
  controls_length = ap length wakes.is ∙ length-set p.controllers n wakes.after

  module _ (ls : LossyLists) (s : StandsLossy ctl mch (lossy_bench_of p t w sent posted) ls) where
    phase_now : IsPhase ((lossy_state_of (lossy_bench_of p t w sent posted) ls).node n).phase ((lossy_state_of (lossy_bench_of p t w sent posted) ls).node n).executed
    phase_now = (balanced ctl mch net ls s).phases n

    deed_by_bits : d ≡ deed_at p.shape p.rows (plain_of (lossy_state_of (lossy_bench_of p t w sent posted) ls)) n
    deed_by_bits =
        deed_is ctl mch p (plain_of (lossy_state_of net ls)) ls.inputs ls.got s.bench (ahead ctl mch net ls s kept.fixed) kept.sized.bench.inboxes
        (λ i. unsent_few ((lossy_state_of net ls).node i).phase ((lossy_state_of net ls).node i).executed ((balanced ctl mch net ls s).phases i)) n (slice_index_or p.executed n 0) wakes.before d _ _ _ _
        (s.bench.phases n wakes.before wakes.there) (s.bench.ran.executed n nb ∙ s.bench.rows n nb) refl refl refl refl wakes.deed_is

    woke_is : ctl.phase wakes.after ≡ phase_at p.shape t p.rows (plain_of (lossy_state_of (lossy_bench_of p t w sent posted) ls)) n
    woke_is =
        let ph = ((lossy_state_of net ls).node n).phase in
        let d' = deed_at p.shape p.rows (plain_of (lossy_state_of net ls)) n in
        wakes.phase_is ∙ (λ i. phase_after (ctl.send wakes.before) (ctl.execute wakes.before) (s.bench.phases n wakes.before wakes.there i) (deed_by_bits i))
        ∙ uncounted_same (ctl.send wakes.before) (ctl.execute wakes.before) (send_of t n) (execute_of t n) ph d' (uncounted ph _ phase_now)

    controls : IsWoken ctl n (phase_at p.shape t p.rows (plain_of (lossy_state_of (lossy_bench_of p t w sent posted) ls)) n) p.controllers cs
    controls = record { control = wakes.after; within = within; is = wakes.is; woke = woke_is }

    -- nothing was done
    pub nothing_does : d ≡ Nothing → (row : Option (List Value)) → DoesDeed ctl mch (lossy_bench_of p t w sent posted) (lossy_bench_of (record p { controllers = cs }) t w sent posted) n row ls
    nothing_does h row =
        let is = sym deed_by_bits ∙ h in
        record {
          idle = λ idle. subst (λ x. DoesIdle ctl net (lossy_bench_of (record p { controllers = cs }) t w sent posted) n x (phase_at p.shape t p.rows (plain_of (lossy_state_of net ls)) n)) (sym is) (record {
            control = cs;
            controls = controls;
            boxes = p.inboxes;
            marks = no_marks (takes_on p.shape n Nothing) p.inboxes (λ c. refl);
            payloads = posted;
            posts = record { same_length = refl; each = λ c lt. refl };
            is = refl;
          });
          instant = λ executes. absurd (nothing_executes (sym is ∙ executes));
        }

    -- node n sends
    module _ (h : d ≡ Send) (ibs : List InboxState) (taken : TakenUpTo (chan_count p.shape) (is_to p.shape.channels n false) p.inboxes ibs) (ps : List (List Value)) (posts : PostedUpTo (chan_count p.shape) (is_from p.shape.channels n true) p.buffers posted ps) where
      acks_are : (c : ℕ) → is_to p.shape.channels n false c ≡ takes_on p.shape n Send c
      unfolding chan_of
      acks_are c = refl

      data_are : (c : ℕ) → is_from p.shape.channels n true c ≡ posts_on p.shape n Send c
      unfolding chan_of
      data_are c = refl

      count_is : slice_index_or p.executed n 0 ≡ slice_index_or sent n 0 + 1
      count_is =
          let st = lossy_state_of net ls in
          let k = (woke-n p.shape t w.limit p.rows st (balanced ctl mch net ls s) n 0).needs_acks (sym deed_by_bits ∙ h) in
          s.bench.ran.executed n nb ∙ s.bench.rows n nb ∙ one_unsent (st.node n).executed (unsent (st.node n).phase) (unsent_most (st.node n).phase) k.1 ∙ ap (λ x. x + 1) (sym (s.sent n nb))

      pub send_does : (row : Option (List Value)) → DoesDeed ctl mch (lossy_bench_of p t w sent posted) (lossy_bench_of (record p { controllers = cs; inboxes = ibs }) t w (set sent n (slice_index_or p.executed n 0)) ps) n row ls
      send_does row =
          let is = sym deed_by_bits ∙ h in
          record {
            idle = λ idle. subst (λ x. DoesIdle ctl net (lossy_bench_of (record p { controllers = cs; inboxes = ibs }) t w (set sent n (slice_index_or p.executed n 0)) ps) n x (phase_at p.shape t p.rows (plain_of (lossy_state_of net ls)) n)) (sym is) (record {
              control = cs;
              controls = controls;
              boxes = ibs;
              marks = taken_marks (is_to p.shape.channels n false) (takes_on p.shape n Send) p.inboxes ibs (subst (λ k. TakenUpTo k (is_to p.shape.channels n false) p.inboxes ibs) (sym kept.sized.bench.inboxes) taken) (λ c lt. acks_are c);
              payloads = ps;
              posts = posted_all (is_from p.shape.channels n true) (posts_on p.shape n Send) p.buffers posted ps (subst (λ k. PostedUpTo k (is_from p.shape.channels n true) p.buffers posted ps) (sym kept.sized.posted) posts) (λ c lt. data_are c);
              is = ap (λ k. lossy_bench_of (record p { controllers = cs; inboxes = ibs }) t w (set sent n k) ps) count_is;
            });
            instant = λ executes. absurd (send_executes (sym is ∙ executes));
          }

    -- node n runs an instant
    module _ (h : d ≡ Execute) (row : Option (List Value)) (given : HasLossyRow (lossy_bench_of p t w sent posted) n row) (r : List Value) (r_is : row ≡ Some r) where
      executes_now : deed_at p.shape p.rows (plain_of (lossy_state_of (lossy_bench_of p t w sent posted) ls)) n ≡ Execute
      executes_now = sym deed_by_bits ∙ h

      fits_row : FitsPart p.layout n r
      fits_row =
          let g = given (rows_left ctl mch net ls s n nb executes_now) in
          subst (λ x. FitsPart p.layout n x) (same_row g.0 r (sym g.1 ∙ r_is)) g.2
        where
          same_row : (a b : List Value) → Some a ≡ Some b → a ≡ b
          same_row a b e = cc

      pub instant_can : ((m : M) (f : Function) (rows : List (List Value)) → mch.stands m f rows → (mch.inputs m ≡ f.n_in) × (mch.outputs m ≡ length f.outs)) → CanExecute mch (record p { controllers = cs }) n r
      instant_can numbers =
          can_execute ctl mch p n kept.fixed.whole kept.fixed.laid kept.fixed.channels kept.sized.bench kept.space (plain_of (lossy_state_of net ls)) ls.inputs ls.got s.bench nb
          (rows_left ctl mch net ls s n nb executes_now) cs r fits_row numbers

      module _ (mid : BenchState C M) (ex : Executes mch (record p { controllers = cs }) mid n r)
          (rest : mid ≡ record p { controllers = cs; machines = mid.machines; executed = mid.executed; inboxes = mid.inboxes; buffers = mid.buffers; tracks = mid.tracks }) where
        mid_is : lossy_bench_of mid t w sent posted ≡ lossy_bench_of (record p { controllers = cs; machines = set p.machines n ex.after; executed = mid.executed; inboxes = mid.inboxes; buffers = mid.buffers; tracks = mid.tracks }) t w sent posted
        mid_is = ap (λ q. lossy_bench_of q t w sent posted) rest ∙ ap (λ ms. lossy_bench_of (record p { controllers = cs; machines = ms; executed = mid.executed; inboxes = mid.inboxes; buffers = mid.buffers; tracks = mid.tracks }) t w sent posted) ex.machines

        pub instant_does : DoesDeed ctl mch (lossy_bench_of p t w sent posted) (lossy_bench_of mid t w sent posted) n row ls
        instant_does = record {
          idle = λ idle. absurd (executes_idle _ executes_now idle);
          instant = λ executes. record { control = cs; controls = controls; input = r; is_row = r_is; fits = fits_row; mid = mid; runs = ex; is = mid_is };
        }

  -- What is kept besides.

  pub nothing_kept : IsKeptLossy (lossy_bench_of (record p { controllers = cs }) t w sent posted)
  nothing_kept =
      let z = kept.sized in
      record {
        fixed = kept.fixed;
        sized = record {
          bench = sizes_read p z.bench cs controls_length (takes_on p.shape n Nothing) p.inboxes (no_marks (takes_on p.shape n Nothing) p.inboxes (λ c. refl));
          lasts = z.lasts;
          queues = z.queues;
          losses = z.losses;
          sent = z.sent;
          posted = z.posted;
          posted_types = z.posted_types;
        };
        space = space_still cs p.inboxes;
      }
    where
      space_still : (ds : List C) (ibs : List InboxState) → HasSpace (record p { controllers = ds; inboxes = ibs })
      space_still ds ibs = let r = kept.space in record { messages = r.messages; inputs = r.inputs; outputs = r.outputs; tracks = r.tracks; cells = r.cells; routes = r.routes; exits = r.exits; ports = r.ports }

  module _ (ibs : List InboxState) (taken : TakenUpTo (chan_count p.shape) (is_to p.shape.channels n false) p.inboxes ibs) (ps : List (List Value)) (posts : PostedUpTo (chan_count p.shape) (is_from p.shape.channels n true) p.buffers posted ps) where
    typed : (b : Bool) (c : ℕ) → c < chan_count p.shape → map ty_of (cond b (slice_index_or p.buffers c []) (slice_index_or posted c [])) ≡ types_for p.layout p.shape c
    typed true c lt = kept.sized.bench.buffer_types c lt
    typed false c lt = kept.sized.posted_types c lt

    pub send_kept : (sent' : List ℕ) → length sent' ≡ length sent → IsKeptLossy (lossy_bench_of (record p { controllers = cs; inboxes = ibs }) t w sent' ps)
    send_kept sent' same =
        let z = kept.sized in
        let r = kept.space in
        record {
          fixed = kept.fixed;
          sized = record {
            bench = sizes_read p z.bench cs controls_length (is_to p.shape.channels n false) ibs (taken_marks (is_to p.shape.channels n false) (is_to p.shape.channels n false) p.inboxes ibs (subst (λ k. TakenUpTo k (is_to p.shape.channels n false) p.inboxes ibs) (sym z.bench.inboxes) taken) (λ c lt. refl));
            lasts = z.lasts;
            queues = z.queues;
            losses = z.losses;
            sent = same ∙ z.sent;
            posted = posts.same_length ∙ z.posted;
            posted_types = λ c lt. ap (map ty_of) (posts.each c) ∙ typed (nat_lt c (chan_count p.shape) && is_from p.shape.channels n true c) c lt;
          };
          space = record { messages = r.messages; inputs = r.inputs; outputs = r.outputs; tracks = r.tracks; cells = r.cells; routes = r.routes; exits = r.exits; ports = r.ports };
        }

  module _ (can : LossyCanAct ctl mch (lossy_bench_of p t w sent posted) n) (h : d ≡ Execute) (row : Option (List Value)) (given : HasLossyRow (lossy_bench_of p t w sent posted) n row) (r : List Value) (r_is : row ≡ Some r) (mid : BenchState C M)
      (ex : Executes mch (record p { controllers = cs }) mid n r)
      (rest : mid ≡ record p { controllers = cs; machines = mid.machines; executed = mid.executed; inboxes = mid.inboxes; buffers = mid.buffers; tracks = mid.tracks }) where
    typed_next : (c : ℕ) → c < chan_count p.shape → map ty_of (slice_index_or mid.buffers c []) ≡ types_for p.layout p.shape c
    typed_next =
        let s = can.1 in
        let executes = executes_now can.0 s h row given r r_is in
        let go = next_lossy net can.0 row [] (Plain (Act n can.2)) (λ i a e x. row_there ctl mch net can.0 s row n nb given executes) in
        instant_typed ctl mch net kept.fixed kept.sized can.0 go.0 s n can.2 can.3 nb row [] go.1 cs executes r r_is (fits_row can.0 s h row given r r_is) kept.space mid ex

    pub instant_kept : IsKeptLossy (lossy_bench_of mid t w sent posted)
    instant_kept = subst (λ z. IsKeptLossy z) (sym (mid_is can.0 can.1 h row given r r_is mid ex rest))
        (let z = kept.sized in
        record {
          fixed = kept.fixed;
          sized = record {
            bench = sizes_ran p z.bench cs controls_length mch n r mid ex typed_next;
            lasts = z.lasts;
            queues = z.queues;
            losses = z.losses;
            sent = z.sent;
            posted = z.posted;
            posted_types = z.posted_types;
          };
          space = space_ran p z.bench cs controls_length mch n r mid ex kept.space;
        })

-- The same, by the parts that code has: nodes and channels before and after the controller was asked, and the net that they are in.
module _ {C M : Type 0} (ctl : Controls C) (mch : Machines M) (p : BenchState C M) (t : Timing) (w : LossyTimes) (sent : List ℕ) (posted : List (List Value))
    (now : LossyBenchState C M) (is : lossy_bench_of p t w sent posted ≡ now) (kept_now : IsKeptLossy now) (n : ℕ) (nb_now : n < node_count now.shape) (q : BenchState C M) (asked : q ≡ record p { controllers = q.controllers }) (d : Deed)
    (wakes : Wakes ctl p.controllers q.controllers n (bits_of p.shape.channels p.inboxes p.executed p.rows n) d) where
  kept : IsKeptLossy (lossy_bench_of p t w sent posted)
  kept = subst (λ z. IsKeptLossy z) (sym is) kept_now

  nb : n < node_count p.shape
  nb = subst (λ (z : LossyBenchState C M). n < node_count z.shape) (sym is) nb_now

  pub asked_ports : HasPorts q.shape.channels n q.ports
  asked_ports = subst (λ (x : BenchState C M). HasPorts x.shape.channels n x.ports) (sym asked) (kept.space.ports n nb)

  module _ (row : Option (List Value)) (ls : LossyLists) (stood : StandsLossy ctl mch now ls) where
    s : StandsLossy ctl mch (lossy_bench_of p t w sent posted) ls
    s = subst (λ z. StandsLossy ctl mch z ls) (sym is) stood

    from_now : (m : LossyBenchState C M) → DoesDeed ctl mch (lossy_bench_of p t w sent posted) m n row ls → DoesDeed ctl mch now m n row ls
    from_now m does = subst (λ z. DoesDeed ctl mch z m n row ls) is does

    pub nothing_done : d ≡ Nothing → DoesDeed ctl mch now (lossy_bench_of q t w sent posted) n row ls
    nothing_done h = from_now (lossy_bench_of q t w sent posted) (subst (λ x. DoesDeed ctl mch (lossy_bench_of p t w sent posted) (lossy_bench_of x t w sent posted) n row ls) (sym asked)
        (nothing_does ctl mch p t w sent posted kept n nb q.controllers d wakes ls s h row))

    pub sent_done : d ≡ Send → (m : LossyBenchState C M) → PostedUpTo (chan_count q.shape) (is_from q.shape.channels n true) q.buffers posted m.posted → TakenUpTo (chan_count q.shape) (is_to q.shape.channels n false) q.inboxes m.inboxes →
        m ≡ record (lossy_bench_of q t w sent posted) { inboxes = m.inboxes; sent = set sent n (slice_index_or q.executed n 0); posted = m.posted } → DoesDeed ctl mch now m n row ls
    sent_done h m posts taken m_is =
        from_now m
        (subst (λ (x : BenchState C M). PostedUpTo (chan_count x.shape) (is_from x.shape.channels n true) x.buffers posted m.posted → TakenUpTo (chan_count x.shape) (is_to x.shape.channels n false) x.inboxes m.inboxes →
        m ≡ record (lossy_bench_of x t w sent posted) { inboxes = m.inboxes; sent = set sent n (slice_index_or x.executed n 0); posted = m.posted } → DoesDeed ctl mch (lossy_bench_of p t w sent posted) m n row ls) (sym asked)
        (λ posts taken m_is. subst (λ z. DoesDeed ctl mch (lossy_bench_of p t w sent posted) z n row ls) (sym m_is)
        (send_does ctl mch p t w sent posted kept n nb q.controllers d wakes ls s h m.inboxes taken m.posted posts row))
        posts taken m_is)

    pub instant_done : d ≡ Execute → HasLossyRow now n row → (r : List Value) → row ≡ Some r → (mid : BenchState C M) → Executes mch q mid n r →
        mid ≡ record q { machines = mid.machines; executed = mid.executed; inboxes = mid.inboxes; buffers = mid.buffers; tracks = mid.tracks } → DoesDeed ctl mch now (lossy_bench_of mid t w sent posted) n row ls
    instant_done h given r r_is mid ex rest =
        from_now (lossy_bench_of mid t w sent posted)
        (subst (λ (x : BenchState C M). Executes mch x mid n r → mid ≡ record x { machines = mid.machines; executed = mid.executed; inboxes = mid.inboxes; buffers = mid.buffers; tracks = mid.tracks } → DoesDeed ctl mch (lossy_bench_of p t w sent posted) (lossy_bench_of mid t w sent posted) n row ls) (sym asked)
        (λ ex rest. instant_does ctl mch p t w sent posted kept n nb q.controllers d wakes ls s h row (subst (λ z. HasLossyRow z n row) (sym is) given) r r_is mid ex rest)
        ex rest)

    pub instant_able : d ≡ Execute → HasLossyRow now n row → (r : List Value) → row ≡ Some r → ((m : M) (f : Function) (rows : List (List Value)) → mch.stands m f rows → (mch.inputs m ≡ f.n_in) × (mch.outputs m ≡ length f.outs)) → CanExecute mch q n r
    instant_able h given r r_is numbers =
        subst (λ x. CanExecute mch x n r) (sym asked)
        (instant_can ctl mch p t w sent posted kept n nb q.controllers d wakes ls s h row (subst (λ z. HasLossyRow z n row) (sym is) given) r r_is numbers)

  pub nothing_stays : IsKeptLossy (lossy_bench_of q t w sent posted)
  nothing_stays = subst (λ x. IsKeptLossy (lossy_bench_of x t w sent posted)) (sym asked) (nothing_kept ctl mch p t w sent posted kept n nb q.controllers d wakes)

  pub sent_stays : (m : LossyBenchState C M) → PostedUpTo (chan_count q.shape) (is_from q.shape.channels n true) q.buffers posted m.posted → TakenUpTo (chan_count q.shape) (is_to q.shape.channels n false) q.inboxes m.inboxes →
      m ≡ record (lossy_bench_of q t w sent posted) { inboxes = m.inboxes; sent = set sent n (slice_index_or q.executed n 0); posted = m.posted } → IsKeptLossy m
  sent_stays m posts taken m_is =
      subst (λ (x : BenchState C M). PostedUpTo (chan_count x.shape) (is_from x.shape.channels n true) x.buffers posted m.posted → TakenUpTo (chan_count x.shape) (is_to x.shape.channels n false) x.inboxes m.inboxes →
      m ≡ record (lossy_bench_of x t w sent posted) { inboxes = m.inboxes; sent = set sent n (slice_index_or x.executed n 0); posted = m.posted } → IsKeptLossy m) (sym asked)
      (λ posts taken m_is. subst (λ z. IsKeptLossy z) (sym m_is)
      (send_kept ctl mch p t w sent posted kept n nb q.controllers d wakes m.inboxes taken m.posted posts (set sent n (slice_index_or p.executed n 0)) (length-set sent n (slice_index_or p.executed n 0))))
      posts taken m_is

  pub instant_stays : LossyCanAct ctl mch now n → d ≡ Execute → (row : Option (List Value)) → HasLossyRow now n row → (r : List Value) → row ≡ Some r → (mid : BenchState C M) → Executes mch q mid n r →
      mid ≡ record q { machines = mid.machines; executed = mid.executed; inboxes = mid.inboxes; buffers = mid.buffers; tracks = mid.tracks } → IsKeptLossy (lossy_bench_of mid t w sent posted)
  instant_stays can h row given r r_is mid ex rest =
      subst (λ (x : BenchState C M). Executes mch x mid n r → mid ≡ record x { machines = mid.machines; executed = mid.executed; inboxes = mid.inboxes; buffers = mid.buffers; tracks = mid.tracks } → IsKeptLossy (lossy_bench_of mid t w sent posted)) (sym asked)
      (λ ex rest. instant_kept ctl mch p t w sent posted kept n nb q.controllers d wakes (subst (λ z. LossyCanAct ctl mch z n) (sym is) can) h row (subst (λ z. HasLossyRow z n row) (sym is) given) r r_is mid ex rest)
      ex rest
