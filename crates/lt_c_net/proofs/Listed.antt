-- A store follows the lists of its bench.
use Rattle.std.proofs.Common.{◌≡◌, ℕ, ◌<◌, ◌+◌, ◌-◌, true, not, List, ◌∷◌, length, map, Some, refl, sym, ap, ◌∙◌, subst, arith, add-one}
use Rattle.std.specs.Prelude.{slice_index_or, nat_lt}
use Rattle.std.specs.List.{slice_get}
use Rattle.std.proofs.lemmas.Option.{slice_get-get_or}
use Rattle.lt_base.specs.declared.value.Value.{Value}
use Rattle.lt_base.specs.Typing.{input_types, AllFit}
use Rattle.lt_arch.specs.declared.event.Deed.{Deed}
use Rattle.lt_arch.specs.declared.event.Deed.TheVariants.{Nothing, Execute, Send}
use Rattle.lt_arch.specs.State.{unsent, executed_of}
use Rattle.lt_arch.specs.Readers.{chan_count, to_of, carries_data}
use Rattle.lt_link.specs.Bits.{bit_of}
use Rattle.lt_link.specs.Inbox.{InboxState, no_inbox}
use Rattle.lt_place.specs.Layout.{part_of}
use Rattle.lt_net_node.specs.Local.{fed_row, upto}
use Rattle.lt_net_node.specs.Payloads.{payloads_between, row_at}
use Rattle.lt_net_bench.specs.Changes.{GrowsByRow}
use Rattle.lt_net_bench.specs.Executes.{ins_of}
use Rattle.lt_net_bench.specs.Given.{FitsPart}
use Rattle.lt_net_bench.specs.Bench.{BenchState}
use Rattle.lt_net_bench.proofs.Activated.{fresh_to_execute}
use Rattle.lt_net_bench.proofs.Delivered.{enough_ahead}
use Rattle.lt_net_bench.proofs.Feeds.{can_feed, ins_are, ins_fit}
use Rattle.lt_net_bench.proofs.Firsts.{map-upto, upto-same}
use Rattle.lt_net_bench.proofs.NextRun.{longer, earlier_row, last_row}
use Rattle.lt_net_bench.proofs.OwnValues.{sees_extended, grows_extends, fed_row_same}
use Rattle.lt_c.specs.Tree.{perform}
use Rattle.lt_c.specs.Meaning.{of_truth, store_left}
use Rattle.lt_c_step.specs.Part.{part_step}
use Rattle.lt_c_control.specs.Control.{pressure, counting}
use Rattle.lt_c_net.specs.Stands.{NodeStands, offered}
use Rattle.lt_c_net.specs.Moves.{rows_after, own_row}
use Rattle.lt_c_net.specs.Laws.{IsFed, Acts, BitsAgree, taken_in}
use Rattle.lt_c_net.specs.Lists.{rows_of_node, ActsListed, DeliveriesFollow, PressingFollows, CountingFollows}
use Rattle.lt_c_net.proofs.Taking.{deliveries_keep}
use Rattle.lt_c_net.proofs.Activating.{pressing_keeps}
use Rattle.lt_c_net.proofs.CountingOn.{counting_keeps}
use Rattle.lt_machine.specs.declared.machine.Machine.{Ghosts as Machines}
use Rattle.lt_arch.specs.declared.controller.Controller.{Ghosts as Controls}

-- ---- bits

pub bits_agree : {C M : Type 0} (ctl : Controls C) (mch : Machines M) → BitsAgree ctl mch
bits_agree ctl mch p st inputs got n c code rows m s inboxes node channel at =
    let b : InboxState = slice_index_or p.inboxes c no_inbox in
    let there : slice_get p.inboxes c ≡ Some b = slice_get-get_or p.inboxes c no_inbox (omega (arith, channel, inboxes)) in
    let d : ℕ = (st.chan c).delivered in
    let bit_is : bit_of (d + 1) ≡ not b.bit = ap bit_of (add-one d) ∙ ap not (sym (s.bits c b there ∙ ap bit_of (s.messages c channel))) in
    let count : slice_index_or p.executed n 0 ≡ executed_of st n = s.ran.executed n node ∙ s.rows n node in
    let unsent_is : unsent (ctl.phase at.0) ≡ unsent (st.node n).phase = ap unsent (s.phases n at.0 at.1) in (
      λ h. at.2.sent_is ∙ ap (λ k. of_truth (bit_of k)) ((λ i. count i - unsent_is i) ∙ sym h) ∙ ap of_truth bit_is,
      λ h. at.2.executed_is ∙ ap (λ k. of_truth (bit_of k)) (count ∙ sym h) ∙ ap of_truth bit_is,
    )

-- ---- deliveries

pub deliveries_follow : {C M : Type 0} (ctl : Controls C) (mch : Machines M) → DeliveriesFollow ctl mch
deliveries_follow ctl mch p q st inputs got got' n ch code m old new f laid channels s ahead node one one' channel inbox same r k carries gets at =
    let enough = enough_ahead ctl mch p f laid channels st inputs got s ahead in
    let extends = grows_extends p.shape got got' ch r.message.payload gets in
    let sees = sees_extended p.layout inputs (payloads_between p.shape got) (payloads_between p.shape got') extends enough n in
    let rows_same : rows_of_node p.layout p.shape inputs got n ≡ rows_of_node p.layout p.shape inputs got' n =
    upto-same _ _ (length (inputs n)) (λ i h. sym (fed_row_same f p.layout laid (payloads_between p.shape got) (payloads_between p.shape got') n (length (inputs n)) node sees (row_at (inputs n) i) i h)) in
    let moved : rows_of_node p.layout p.shape inputs got' n ≡ rows_of_node q.layout q.shape inputs got' n = (λ i. rows_of_node (sym same.layout i) (sym same.shape i) inputs got' n) in
    subst (λ rows. NodeStands ctl q n code rows (taken_in p.shape.channels n ch (length r.message.payload) k m)) (rows_same ∙ moved)
    (deliveries_keep ctl mch p q n ch code (rows_of_node p.layout p.shape inputs got n) m old new one one' channel inbox same r k carries at)

-- ---- activations

module _ {C M : Type 0} (ctl : Controls C) (mch : Machines M) (p q : BenchState C M) (inputs inputs' got : ℕ → List (List Value)) (n : ℕ) (row : List Value) where
  abbrev so_far : List (List Value)
  so_far = rows_of_node p.layout p.shape inputs got n

  module _ (a : ActsListed ctl mch p q inputs inputs' got n row Execute) where
    pub takes : GrowsByRow inputs inputs' n row
    takes = a.goes.0

    fits : FitsPart p.layout n row
    fits = a.goes.1

    nl : n < length p.layout.nodes
    nl = let b = a.node in let e = a.channels.nodes in omega (arith, b, e)

    fresh : (c : ℕ) → c < chan_count p.shape → carries_data p.shape c ≡ true → to_of p.shape c ≡ n → length (got c) ≡ length (inputs n)
    fresh c h data_too to = fresh_to_execute ctl mch p n Execute a.woken a.st a.st' inputs got a.stood a.acts a.ahead a.ahead_next refl c h data_too to ∙ sym (a.stood.rows n a.node)

    pub ins_is : ins_of p n row ≡ fed_row p.layout (payloads_between p.shape got) n row (length (inputs n))
    ins_is = ins_are p a.whole a.laid a.channels a.routes a.sized.inboxes a.sized.inbox_types n nl row fits got a.stood.payloads (length (inputs n)) fresh

    pub is_fed : IsFed p n row so_far
    is_fed = record {
      fit = (
        ins_fit p a.whole a.laid a.channels a.routes a.sized.inboxes a.sized.inbox_types n nl row fits,
        subst (λ rs. AllFit (input_types (part_of p.layout n).flat.func) rs) (sym (map-upto (map Some) (λ k. fed_row p.layout (payloads_between p.shape got) n (row_at (inputs n) k) k) (length (inputs n)))) (a.stood.fit n nl),
      );
      feeds = can_feed p a.whole a.laid a.channels a.routes a.sized.inboxes a.sized.inbox_types n nl row fits;
      crosses = λ x c h. a.laid.crosses n x c nl h;
      routes = a.routes;
      channels = a.channels;
    }

    one_more : ins_of p n row ∷ so_far ≡ rows_of_node p.layout p.shape inputs' got n
    one_more =
        let len = longer mch p.layout p.shape p.machines p.executed p.tracks inputs inputs' got a.stood.ran n row takes in
        let last = last_row mch p.layout p.shape p.machines p.executed p.tracks inputs inputs' got a.stood.ran n row takes in
        let head : ins_of p n row ≡ fed_row p.layout (payloads_between p.shape got) n (row_at (inputs' n) (length (inputs n))) (length (inputs n)) =
        ins_is ∙ ap (λ r. fed_row p.layout (payloads_between p.shape got) n r (length (inputs n))) (sym last) in
        let rest : so_far ≡ upto (λ k. fed_row p.layout (payloads_between p.shape got) n (row_at (inputs' n) k) k) (length (inputs n)) =
        upto-same _ _ (length (inputs n)) (λ k h. ap (λ r. fed_row p.layout (payloads_between p.shape got) n r k) (sym (earlier_row mch p.layout p.shape p.machines p.executed p.tracks inputs inputs' got a.stood.ran n row takes k h))) in
        (λ i. head i ∷ rest i) ∙ ap (upto (λ k. fed_row p.layout (payloads_between p.shape got) n (row_at (inputs' n) k) k)) (sym len)

  fed_for : (deed : Deed) → ActsListed ctl mch p q inputs inputs' got n row deed → deed ≡ Execute → IsFed p n row so_far
  fed_for Nothing a is = absurd (cc)
  fed_for Send a is = absurd (cc)
  fed_for Execute a is = is_fed a

  rows_for : (deed : Deed) → ActsListed ctl mch p q inputs inputs' got n row deed → rows_after p n row deed so_far ≡ rows_of_node p.layout p.shape inputs' got n
  rows_for Nothing a = ap (λ rs. upto (λ k. fed_row p.layout (payloads_between p.shape got) n (row_at rs k) k) (length rs)) (sym a.goes)
  rows_for Send a = ap (λ rs. upto (λ k. fed_row p.layout (payloads_between p.shape got) n (row_at rs k) k) (length rs)) (sym a.goes)
  rows_for Execute a = one_more a

  module _ (deed : Deed) (a : ActsListed ctl mch p q inputs inputs' got n row deed) where
    pub acts_of : Acts ctl mch p q n row so_far deed
    acts_of = record {
      shape = a.shape;
      node = let b = a.node in let e = a.sized.executed in omega (arith, b, e);
      wakes = a.wakes;
      moves = a.moves;
      is_fed = fed_for deed a;
    }

    pub rows_are : rows_after p n row deed so_far ≡ rows_of_node q.layout q.shape inputs' got n
    rows_are = rows_for deed a ∙ (λ i. rows_of_node (sym a.layout i) (sym a.shape i) inputs' got n)

pub pressing_follows : {C M : Type 0} (ctl : Controls C) (mch : Machines M) → PressingFollows ctl mch
pressing_follows ctl mch p q inputs inputs' got n code ins acks ss os row deed m file ok a s =
    let r = pressing_keeps ctl mch p q n code ins acks ss os (rows_of_node p.layout p.shape inputs got n) row deed m file ok
    (acts_of ctl mch p q inputs inputs' got n row deed a) s in
    (subst (λ rows. NodeStands ctl q n code rows (store_left (pressure ins acks (perform (part_step ss os code))) (offered (nat_lt (slice_index_or p.executed n 0) p.rows) (own_row p.layout n row) m))) (rows_are ctl mch p q inputs inputs' got n row deed a) r.is_there, r.deed_is)

pub counting_follows : {C M : Type 0} (ctl : Controls C) (mch : Machines M) → CountingFollows ctl mch
counting_follows ctl mch p q inputs inputs' got n code ins ss os row deed m sends executes file ok a s =
    let r = counting_keeps ctl mch p q n code ins ss os (rows_of_node p.layout p.shape inputs got n) row deed m sends executes file ok
    (acts_of ctl mch p q inputs inputs' got n row deed a) s in
    (subst (λ rows. NodeStands ctl q n code rows (store_left (counting sends executes ins (perform (part_step ss os code))) (offered (nat_lt (slice_index_or p.executed n 0) p.rows) (own_row p.layout n row) m))) (rows_are ctl mch p q inputs inputs' got n row deed a) r.is_there, r.deed_is)
