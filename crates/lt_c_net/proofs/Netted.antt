-- The stores of all nodes of a net, from event to event.
use Rattle.std.proofs.Common.{◌≡◌, ◌≢◌, inl, inr, ℕ, ◌<◌, Bool, true, false, List, length, Some, refl, sym, ap, ◌∙◌, subst, arith}
use Rattle.std.specs.Prelude.{if◌then◌else◌}
use Rattle.std.proofs.lemmas.Bool.Decides.{eqb_tells}
use Rattle.lt_base.specs.declared.value.Value.{Value}
use Rattle.lt_arch.specs.declared.event.Event.TheVariants.{Act}
use Rattle.lt_arch.specs.declared.event.Deed.{Deed}
use Rattle.lt_arch.specs.declared.event.Deed.TheVariants.{Nothing, Execute, Send}
use Rattle.lt_arch.specs.declared.shape.Shape.{Shape}
use Rattle.lt_arch.specs.Readers.{node_count}
use Rattle.lt_arch.specs.Deeds.{deed_at, phase_at}
use Rattle.lt_place.specs.declared.layout.Layout.{Layout}
use Rattle.lt_net_node.specs.Local.{fed_row, upto}
use Rattle.lt_net_node.specs.Payloads.{payloads_between, row_at}
use Rattle.lt_net_bench.specs.Given.{FitsPart}
use Rattle.lt_net.specs.Net.{TimedBenchState, Lists, bench_of, reached_state}
use Rattle.lt_net.specs.Event.{InputsGo}
use Rattle.lt_net.proofs.Activations.{acts_on, ahead, ahead_next, ahead_of}
use Rattle.lt_net.proofs.Benches.{sizes_of}
use Rattle.lt_step.specs.Code.{StepCode}
use Rattle.lt_c.specs.Meaning.{Store}
use Rattle.lt_c_net.specs.Stands.{NodeStands}
use Rattle.lt_c_net.specs.Laws.{taken_in}
use Rattle.lt_c_net.specs.Lists.{rows_of_node, NodeFollows, OwnRowsGo, ActsListed}
use Rattle.lt_c_net.specs.Nets.{NetFollows, with_store, NetActs, PressingNet, CountingNet, DeliveryNet}
use Rattle.lt_c_net.proofs.Listed.{acts_of, deliveries_follow, pressing_follows, counting_follows}
use Rattle.lt_c_net.proofs.Others.{others_stay}
use Rattle.lt_c_net.proofs.Shaped.{shapes_serve}
use Rattle.lt_machine.specs.declared.machine.Machine.{Ghosts as Machines}
use Rattle.lt_arch.specs.declared.controller.Controller.{Ghosts as Controls}

rows_go : (l : Layout) (n at : ℕ) (row : List Value) (old new : ℕ → List (List Value)) (deed : Deed) → InputsGo (Act n at) deed (Some row) old new → (deed ≡ Execute → FitsPart l n row) → OwnRowsGo l n row deed old new
rows_go l n at row old new Nothing goes fits = goes n
rows_go l n at row old new Send goes fits = goes n
rows_go l n at row old new Execute goes fits = (goes, fits refl)

other_rows : (n at i : ℕ) (row : List Value) (old new : ℕ → List (List Value)) (deed : Deed) → i ≢ n → InputsGo (Act n at) deed (Some row) old new → new i ≡ old i
other_rows n at i row old new Nothing ne goes = goes i
other_rows n at i row old new Send ne goes = goes i
other_rows n at i row old new Execute ne goes = goes.elsewhere i ne

module _ {C M : Type 0} (ctl : Controls C) (mch : Machines M) (net later : TimedBenchState C M) (ls next : Lists) (n at : ℕ) (row : List Value)
    (a : NetActs ctl mch net later ls next n at row) where
  abbrev deed : Deed
  deed = deed_at net.shape net.rows (reached_state net ls) n

  got_is : next.got ≡ ls.got
  got_is = λ i c. a.goes.got c i

  pub listed : ActsListed ctl mch (bench_of net) (bench_of later) ls.inputs next.inputs ls.got n row deed
  listed = record {
    whole = a.is_net.fixed.whole;
    laid = a.is_net.fixed.laid;
    channels = a.is_net.fixed.channels;
    routes = a.is_net.room.routes;
    sized = sizes_of net a.is_net.sized;
    node = a.node;
    st = reached_state net ls;
    st' = reached_state net next;
    woken = phase_at net.shape net.timing net.rows (reached_state net ls) n;
    stood = a.is_net.stood.bench;
    acts = acts_on ctl mch net n at a.is_net.fixed.one_place ls next a.is_net.stood (a.timely, a.clean) a.goes.events;
    ahead = ahead ctl mch net n at a.is_net.fixed.one_place ls next a.is_net.stood (a.timely, a.clean) a.goes.events;
    ahead_next = ahead_next ctl mch net n at a.is_net.fixed.one_place ls next a.is_net.stood (a.timely, a.clean) a.goes.events;
    goes = rows_go net.layout n at row ls.inputs next.inputs deed a.goes.inputs a.fits;
    layout = a.static.layout;
    shape = a.static.shape;
    wakes = a.wakes;
    moves = a.moves;
  }

  -- where the acting node's store follows, all do
  pub all_follow : (codes : ℕ → StepCode) (stores : ℕ → Store) (m' : Store) → NetFollows ctl net ls codes stores → NodeFollows ctl (bench_of later) next.inputs ls.got n (codes n) m' → NetFollows ctl later next codes (with_store n m' stores)
  all_follow codes stores m' all own i lt =
      subst (λ got. NodeFollows ctl (bench_of later) next.inputs got i (codes i) (with_store n m' stores i)) (sym got_is)
      (elim (eqb_tells i n) [
        | inl e ↦ subst (λ m. NodeFollows ctl (bench_of later) next.inputs ls.got i (codes i) m) (ap (λ (b : Bool). if b then m' else stores i) (sym e.0))
            (subst (λ j. NodeFollows ctl (bench_of later) next.inputs ls.got j (codes j) m') (sym e.1) own)
        | inr e ↦ subst (λ m. NodeFollows ctl (bench_of later) next.inputs ls.got i (codes i) m) (ap (λ (b : Bool). if b then m' else stores i) (sym e.0)) (other e.1)
      ])
    where
      other : i ≢ n → NodeFollows ctl (bench_of later) next.inputs ls.got i (codes i) (stores i)
      other ne =
          let in_old : i < node_count net.shape = subst (λ (s : Shape). i < node_count s) a.static.shape lt in
          let stays = others_stay ctl mch (bench_of net) (bench_of later) n i (codes i) (rows_of_node net.layout net.shape ls.inputs ls.got n) (rows_of_node net.layout net.shape ls.inputs ls.got i) row deed (stores i) ne
          (acts_of ctl mch (bench_of net) (bench_of later) ls.inputs next.inputs ls.got n row deed listed) (all i in_old) in
          let same_row : next.inputs i ≡ ls.inputs i = other_rows n at i row ls.inputs next.inputs deed ne a.goes.inputs in
          let rows_same : rows_of_node net.layout net.shape ls.inputs ls.got i ≡ rows_of_node net.layout net.shape next.inputs ls.got i =
          ap (λ rs. upto (λ k. fed_row net.layout (payloads_between net.shape ls.got) i (row_at rs k) k) (length rs)) (sym same_row) in
          let moved : rows_of_node net.layout net.shape next.inputs ls.got i ≡ rows_of_node later.layout later.shape next.inputs ls.got i = (λ j. rows_of_node (sym a.static.layout j) (sym a.static.shape j) next.inputs ls.got i) in
          subst (λ rows. NodeStands ctl (bench_of later) i (codes i) rows (stores i)) (rows_same ∙ moved) stays

pub pressing_net : {C M : Type 0} (ctl : Controls C) (mch : Machines M) → PressingNet ctl mch
pressing_net ctl mch net later ls next n at row codes stores ins acks ss os a file ok all =
    let r = pressing_follows ctl mch (bench_of net) (bench_of later) ls.inputs next.inputs ls.got n (codes n) ins acks ss os row (deed_at net.shape net.rows (reached_state net ls) n) (stores n) file ok
    (listed ctl mch net later ls next n at row a) (all n a.node) in
    all_follow ctl mch net later ls next n at row a codes stores _ all r.0

pub counting_net : {C M : Type 0} (ctl : Controls C) (mch : Machines M) → CountingNet ctl mch
counting_net ctl mch net later ls next n at row codes stores ins ss os sends executes a file ok all =
    let r = counting_follows ctl mch (bench_of net) (bench_of later) ls.inputs next.inputs ls.got n (codes n) ins ss os row (deed_at net.shape net.rows (reached_state net ls) n) (stores n) sends executes file ok
    (listed ctl mch net later ls next n at row a) (all n a.node) in
    all_follow ctl mch net later ls next n at row a codes stores _ all r.0

pub delivery_net : {C M : Type 0} (ctl : Controls C) (mch : Machines M) → DeliveryNet ctl mch
delivery_net ctl mch net later ls next ch at codes stores old new d k carries all i lt =
    let f = d.is_net.fixed in
    let z = d.is_net.sized in
    let s = d.is_net.stood in
    let in_old : i < node_count net.shape = subst (λ (sh : Shape). i < node_count sh) d.static.shape lt in
    let nodes = f.channels.nodes in
    let inboxes = z.inboxes in
    let channel = d.channel in
    let r = deliveries_follow ctl mch (bench_of net) (bench_of later) (reached_state net ls) ls.inputs ls.got next.got i ch (codes i) (stores i) old new f.whole f.laid f.channels s.bench
    (ahead_of net.shape (reached_state net ls) (f.one_place ls.events s.timely s.clean)) (omega (arith, in_old, nodes)) (shapes_serve net.shape i true).1 (shapes_serve net.shape i false).1 channel (omega (arith, channel, inboxes))
    (record { layout = d.static.layout; shape = d.static.shape; controllers = d.controllers; executed = d.executed }) d.receives k carries d.goes.got (all i in_old) in
    let same : next.inputs i ≡ ls.inputs i = d.goes.inputs i in
    subst (λ rows. NodeStands ctl (bench_of later) i (codes i) rows (taken_in net.shape.channels i ch (length d.receives.message.payload) k (stores i)))
    (ap (λ rs. upto (λ k. fed_row later.layout (payloads_between later.shape next.got) i (row_at rs k) k) (length rs)) (sym same)) r
