-- A node that sends its data and then its acknowledgements.
use Rattle.std.proofs.Common.{◌≡◌, ℕ, ◌+◌, ◌<◌, Bool, true, false, not, List, [], ◌∷◌, ◌++◌, length, IsTrue, refl, sym, ap, ◌∙◌, subst, arith, cond, length-append}
use Rattle.std.specs.Prelude.{◌&&◌, ◌==◌, nat_lt, slice_index_or, if◌then◌else◌}
use Rattle.std.proofs.lemmas.Bool.Decides.{Decides-eqb}
use Rattle.std.proofs.lemmas.List.{length-map, get_or_default}
use Rattle.lt_base.specs.declared.value.Value.{Value}
use Rattle.lt_arch.specs.declared.chan.Chan.{Chan}
use Rattle.lt_arch.specs.declared.event.Event.TheVariants.{Act}
use Rattle.lt_arch.specs.declared.shape.Shape.{Shape}
use Rattle.lt_arch.specs.declared.timing.Timing.{Timing}
use Rattle.lt_arch.specs.State.{NodeState}
use Rattle.lt_arch.specs.Readers.{node_count, chan_of, from_of, is_data, no_chan}
use Rattle.lt_arch.specs.Step.{woken}
use Rattle.lt_io.specs.declared.message.Message.{Message}
use Rattle.lt_io.specs.FabricState.{FabricState}
use Rattle.lt_link.specs.Bits.{bit_of}
use Rattle.lt_lossy.specs.declared.event.LossyEvent.TheVariants.{Plain}
use Rattle.lt_lossy.specs.State.{Message as Numbered, LinkState, LossyState, plain_of, sent_count}
use Rattle.lt_lossy.specs.Step.{lossy_after, link_with_message, link_woken, sends_number}
use Rattle.lt_lossy.specs.Times.{LossyTimes, queue_at, with_last}
use Rattle.lt_lossy.specs.Window.{room}
use Rattle.lt_lossy.proofs.Spacing.{law-room}
use Rattle.lt_net.specs.Sends.{messages_with}
use Rattle.lt_net_bench.specs.Bench.{BenchState}
use Rattle.lt_link.specs.Ports.{HasPorts, is_from}
use Rattle.lt_net_node.proofs.Below.{lt_yes}
use Rattle.lt_net_bench.proofs.Entries.{and_parts}
use Rattle.lt_net_lossy.specs.Changes.{NotesAct}
use Rattle.lt_net_lossy.specs.Event.{PassesLossy}
use Rattle.lt_net_lossy.specs.Halts.{SendsBehind}
use Rattle.lt_net_lossy.specs.Holds.{SendsLossy, with_one}
use Rattle.lt_net_lossy.specs.Kept.{IsFixedLossy}
use Rattle.lt_net_lossy.specs.Laws.{woken_in}
use Rattle.lt_net_lossy.specs.Net.{LossyBenchState, LossyLists, lossy_bench_of, lossy_state_of}
use Rattle.lt_net_lossy.specs.Sends.{SentUpTo, numbered_from, posted_message, IsBehind, sends_counted, counted_message, HasRoomToSend, SendsAgain}
use Rattle.lt_net_lossy.specs.Stands.{StandsLossy}
use Rattle.lt_net_lossy.specs.Taken.{IsKeptLossy}
use Rattle.lt_net_lossy.proofs.Reached.{state_is, clean_next}
use Rattle.lt_machine.specs.declared.machine.Machine.{Ghosts as Machines}
use Rattle.lt_arch.specs.declared.controller.Controller.{Ghosts as Controls}

-- of a channel's messages
both_sent : (f k : Bool) (newest acks : ℕ) (payload : List Value) (x y z : List Message) → y ≡ messages_with ((f && k) && nat_lt 0 newest) x (record { payload = payload; bit = bit_of newest }) → z ≡ messages_with ((f && not k) && nat_lt 0 acks) y (record { payload = payload; bit = bit_of acks }) →
    z ≡ with_one (f && nat_lt 0 (if k then newest else acks)) x (record { payload = payload; bit = bit_of (if k then newest else acks) })
both_sent true true newest acks payload x y z a b = b ∙ a
both_sent true false newest acks payload x y z a b = b ∙ ap (λ q. messages_with (nat_lt 0 acks) q (record { payload = payload; bit = bit_of acks })) a
both_sent false true newest acks payload x y z a b = b ∙ a
both_sent false false newest acks payload x y z a b = b ∙ a

-- of its send times
both_queued : (f k : Bool) (newest acks at : ℕ) (x y z : List ℕ) → y ≡ (if ((f && k) && nat_lt 0 newest) then x ++ at ∷ [] else x) → z ≡ (if ((f && not k) && nat_lt 0 acks) then y ++ at ∷ [] else y) →
    z ≡ (if (f && nat_lt 0 (if k then newest else acks)) then x ++ at ∷ [] else x)
both_queued true true newest acks at x y z a b = b ∙ a
both_queued true false newest acks at x y z a b = b ∙ ap (λ q. cond (nat_lt 0 acks) (q ++ at ∷ []) q) a
both_queued false true newest acks at x y z a b = b ∙ a
both_queued false false newest acks at x y z a b = b ∙ a

-- a channel that carries data
data_on : (f k : Bool) (newest acks : ℕ) → ((f && k) && nat_lt 0 newest) ≡ true → (f && nat_lt 0 (if k then newest else acks)) ≡ true
data_on true true newest acks h = h
data_on true false newest acks h = absurd (cc)
data_on false k newest acks h = absurd (cc)

-- and one that does not
acks_on : (f k : Bool) (newest acks : ℕ) → ((f && not k) && nat_lt 0 acks) ≡ true → (f && nat_lt 0 (if k then newest else acks)) ≡ true
acks_on true true newest acks h = absurd (cc)
acks_on true false newest acks h = h
acks_on false k newest acks h = absurd (cc)

not_both : (f k b : Bool) → (f && not k) ≡ true → ((f && k) && b) ≡ false
not_both true true b h = absurd (cc)
not_both true false b h = refl
not_both false k b h = refl

from_parts : (f k : Bool) → (f && k) ≡ true → f ≡ true
from_parts true k h = refl
from_parts false k h = absurd (cc)

module _ (s : Shape) (n at newest acks : ℕ) where
  -- room for the data
  pub room_first : (w : LossyTimes) → HasRoomToSend s n newest acks w → (c : ℕ) → c < length s.channels → numbered_from s.channels n true newest c ≡ true → length (queue_at w c) < room
  unfolding chan_of
  room_first w has c lt on = has c lt (data_on ((slice_index_or s.channels c no_chan).from == n) (is_data (slice_index_or s.channels c no_chan).kind) newest acks on)

  -- the sender of a channel
  pub sender_is : (kind : Bool) (c : ℕ) → is_from s.channels n kind c ≡ true → from_of s c ≡ n
  unfolding chan_of
  sender_is kind c on = (Decides-eqb (slice_index_or s.channels c no_chan).from n).0 (and_parts ((slice_index_or s.channels c no_chan).from == n) _ on).0

  pub behind_first : (kind : Bool) (fabric : FabricState) → IsBehind s.channels n kind fabric → SendsBehind s n fabric
  behind_first kind fabric b = (b.0, b.1, b.2, sender_is kind b.0 b.3)

  module _ (posted : List (List Value)) (old mid : FabricState) (w v : LossyTimes) (sized : length w.queues ≡ length s.channels)
      (first : SentUpTo (length s.channels) (numbered_from s.channels n true newest) (posted_message posted (bit_of newest)) at old mid w v) where
    transit_first : (c : ℕ) → c < length s.channels → mid.transit c ≡ messages_with (numbered_from s.channels n true newest c) (old.transit c) (posted_message posted (bit_of newest) c)
    transit_first c lt = first.sends.transit c ∙ ap (λ b. messages_with (b && numbered_from s.channels n true newest c) (old.transit c) (posted_message posted (bit_of newest) c)) (lt_yes c (length s.channels) lt)

    queue_first : (c : ℕ) → c < length s.channels → queue_at v c ≡ (if numbered_from s.channels n true newest c then queue_at w c ++ at ∷ [] else queue_at w c)
    queue_first c lt = ap (λ (z : LossyTimes). queue_at z c) first.notes.is ∙ first.notes.are.each c (omega (arith, lt, sized))
        ∙ ap (λ b. cond (b && numbered_from s.channels n true newest c) (queue_at w c ++ at ∷ []) (queue_at w c)) (lt_yes c (length s.channels) lt)

    -- the channels for acknowledgements are as they were
    off_first : (c : ℕ) → is_from s.channels n false c ≡ true → numbered_from s.channels n true newest c ≡ false
    off_first c on = not_both ((slice_index_or s.channels c no_chan).from == n) (is_data (slice_index_or s.channels c no_chan).kind) (nat_lt 0 newest) on

    pub room_second : HasRoomToSend s n newest acks w → (c : ℕ) → c < length s.channels → numbered_from s.channels n false acks c ≡ true → length (queue_at v c) < room
    unfolding chan_of
    room_second has c lt on =
        let same : queue_at v c ≡ queue_at w c = queue_first c lt ∙ ap (λ b. cond b (queue_at w c ++ at ∷ []) (queue_at w c)) (off_first c (and_parts (is_from s.channels n false c) (nat_lt 0 acks) on).0) in
        subst (λ q. length q < room) (sym same) (has c lt (acks_on ((slice_index_or s.channels c no_chan).from == n) (is_data (slice_index_or s.channels c no_chan).kind) newest acks on))

    pub behind_second : IsBehind s.channels n false mid → SendsBehind s n old
    behind_second b =
        let same : mid.transit b.0 ≡ old.transit b.0 = transit_first b.0 b.1 ∙ ap (λ x. messages_with x (old.transit b.0) (posted_message posted (bit_of newest) b.0)) (off_first b.0 b.3) in
        (b.0, b.1, λ e. b.2 (same ∙ e), sender_is false b.0 b.3)

    module _ (new : FabricState) (u : LossyTimes) (second : SentUpTo (length s.channels) (numbered_from s.channels n false acks) (posted_message posted (bit_of acks)) at mid new v u) (z : LossyTimes) (watch : z ≡ with_last u n at) where
      on_both : (lists : FabricState → ℕ → List Message) → ((c : ℕ) → lists mid c ≡ messages_with (nat_lt c (length s.channels) && numbered_from s.channels n true newest c) (lists old c) (posted_message posted (bit_of newest) c)) →
          ((c : ℕ) → lists new c ≡ messages_with (nat_lt c (length s.channels) && numbered_from s.channels n false acks c) (lists mid c) (posted_message posted (bit_of acks) c)) →
          (c : ℕ) → c < length s.channels → lists new c ≡ with_one (sends_counted s n newest acks c) (lists old c) (counted_message s newest acks posted c)
      unfolding chan_of
      on_both lists a b c lt =
          both_sent ((slice_index_or s.channels c no_chan).from == n) (is_data (slice_index_or s.channels c no_chan).kind) newest acks (slice_index_or posted c []) (lists old c) (lists mid c) (lists new c)
          (a c ∙ ap (λ x. messages_with (x && numbered_from s.channels n true newest c) (lists old c) (posted_message posted (bit_of newest) c)) (lt_yes c (length s.channels) lt))
          (b c ∙ ap (λ x. messages_with (x && numbered_from s.channels n false acks c) (lists mid c) (posted_message posted (bit_of acks) c)) (lt_yes c (length s.channels) lt))

      v_length : length v.queues ≡ length w.queues
      v_length = ap (λ (x : LossyTimes). length x.queues) first.notes.is ∙ first.notes.are.same_length

      queues_both : (c : ℕ) → c < length w.queues → slice_index_or second.notes.queues c [] ≡ (if sends_counted s n newest acks c then queue_at w c ++ at ∷ [] else queue_at w c)
      unfolding chan_of
      queues_both c lt =
          let b : c < length s.channels = omega (arith, lt, sized) in
          both_queued ((slice_index_or s.channels c no_chan).from == n) (is_data (slice_index_or s.channels c no_chan).kind) newest acks at (queue_at w c) (queue_at v c) (slice_index_or second.notes.queues c [])
          (queue_first c b)
          (second.notes.are.each c (omega (arith, lt, v_length)) ∙ ap (λ x. cond (x && numbered_from s.channels n false acks c) (queue_at v c ++ at ∷ []) (queue_at v c)) (lt_yes c (length s.channels) b))

      pub sent_again : SendsAgain s n at newest acks posted old new w z
      sent_again = record {
        queues = second.notes.queues;
        are = record { same_length = second.notes.are.same_length ∙ v_length; each = queues_both };
        is = watch ∙ ap (λ (x : LossyTimes). with_last x n at) (second.notes.is ∙ ap (λ (x : LossyTimes). record x { queues = second.notes.queues }) first.notes.is);
        kinds = second.sends.kinds ∙ first.sends.kinds;
        transit = on_both (λ (x : FabricState). x.transit) first.sends.transit second.sends.transit;
        sent = λ told. on_both (λ (x : FabricState). x.sent) (first.sends.sent told) (second.sends.sent (subst IsTrue (sym first.sends.told) told));
        delivered = λ told c lt. second.sends.delivered (subst IsTrue (sym first.sends.told) told) c ∙ first.sends.delivered told c;
      }

-- as a node counts
module _ (s : Shape) (n at : ℕ) (posted : List (List Value)) (old new : FabricState) (w z : LossyTimes) (v : NodeState) where
  counted : (newest acks : ℕ) → sent_count v ≡ newest → v.executed ≡ acks → SendsAgain s n at newest acks posted old new w z → SendsAgain s n at (sent_count v) v.executed posted old new w z
  counted newest acks a b again = subst (λ x. SendsAgain s n at x v.executed posted old new w z) (sym a) (subst (λ y. SendsAgain s n at newest y posted old new w z) (sym b) again)

  pub notes_again : (newest acks : ℕ) → sent_count v ≡ newest → v.executed ≡ acks → SendsAgain s n at newest acks posted old new w z → NotesAct s n at v w z
  notes_again newest acks a b again = let x = counted newest acks a b again in record { queues = x.queues; are = x.are; is = x.is }

  pub sends_again : (newest acks : ℕ) → sent_count v ≡ newest → v.executed ≡ acks → SendsAgain s n at newest acks posted old new w z → SendsLossy s n v posted old new
  sends_again newest acks a b again = let x = counted newest acks a b again in record { kinds = x.kinds; transit = x.transit; sent = x.sent; delivered = x.delivered }

link_is : (s : Shape) (t : Timing) (rows : ℕ) (st : LossyState) (n at c : ℕ) → (lossy_after s t rows st (Plain (Act n at))).link c ≡ link_woken s n at (woken s t rows (plain_of st) n at) c (st.link c)
unfolding lossy_after
link_is s t rows st n at c = refl

one_longer : (b : Bool) (number at : ℕ) (link : LinkState) → b ≡ true → length (link_with_message b number at link).transit ≡ length link.transit + 1
one_longer true number at link h = length-append link.transit _
one_longer false number at link h = absurd (cc)

-- the channels have room for what is sent
pub room_for : {C M : Type 0} (ctl : Controls C) (mch : Machines M) (net : LossyBenchState C M) → IsFixedLossy net.layout net.shape net.timing → (ls : LossyLists) → StandsLossy ctl mch net ls →
    (n at : ℕ) → PassesLossy net ls (Plain (Act n at)) → (newest acks : ℕ) → sent_count (woken_in net ls n at) ≡ newest → (woken_in net ls n at).executed ≡ acks → HasRoomToSend net.shape n newest acks net.watch
room_for ctl mch net fixed ls s n at passes newest acks a b c lt on =
    let v = woken_in net ls n at in
    let next : LossyLists = record { events = ls.events ++ Plain (Act n at) ∷ []; inputs = ls.inputs; got = ls.got } in
    let most = law-room net.shape net.timing net.watch.limit net.rows next.events c fixed.same_nodes fixed.window (clean_next ctl mch net ls s (Plain (Act n at)) passes next refl) lt in
    let sends : sends_number net.shape n v c ≡ true = (λ i. sends_counted net.shape n (a i) (b i) c) ∙ on in
    let after : (lossy_state_of net next).link c ≡ link_woken net.shape n at v c ((lossy_state_of net ls).link c) =
    ap (λ (z : LossyState). z.link c) (state_is ctl mch net ls s (Plain (Act n at)) passes next refl) ∙ link_is net.shape net.timing net.rows (lossy_state_of net ls) n at c in
    let grew : length ((lossy_state_of net next).link c).transit ≡ length ((lossy_state_of net ls).link c).transit + 1 = ap (λ (z : LinkState). length z.transit) after ∙ one_longer (sends_number net.shape n v c) _ at ((lossy_state_of net ls).link c) sends in
    let same : length ((lossy_state_of net ls).link c).transit ≡ length (queue_at net.watch c) = sym (length-map ((lossy_state_of net ls).link c).transit (λ (m : Numbered). m.sent_at)) ∙ ap length (s.times.transit c lt) in
    omega (arith, most, grew, same)

-- a node's channels stand in the table
pub node_ports : {C M : Type 0} (net now : LossyBenchState C M) → net ≡ now → IsKeptLossy now → (n : ℕ) → n < node_count now.shape → HasPorts net.shape.channels n net.ports
node_ports net now is kept n nb = subst (λ (z : LossyBenchState _ _). HasPorts z.shape.channels n z.ports) (sym is) (kept.space.ports n nb)

-- The same, by the parts that code has: nodes and channels, and the net that they are in.
module _ {C M : Type 0} (p q : BenchState C M) (t : Timing) (w : LossyTimes) (sent : List ℕ) (posted : List (List Value)) (now : LossyBenchState C M) (bench : p ≡ q) (is : lossy_bench_of q t w sent posted ≡ now) (kept : IsKeptLossy now)
    (n : ℕ) (nb : n < node_count now.shape) (cs : List Chan) (cs_is : cs ≡ p.shape.channels) where
  net_here : lossy_bench_of p t w sent posted ≡ now
  net_here = ap (λ b. lossy_bench_of b t w sent posted) bench ∙ is

  kept_here : IsKeptLossy (lossy_bench_of p t w sent posted)
  kept_here = subst (λ z. IsKeptLossy z) (sym net_here) kept

  node_here : n < node_count p.shape
  node_here = subst (λ (z : LossyBenchState C M). n < node_count z.shape) (sym net_here) nb

  pub ports_here : HasPorts cs n p.ports
  ports_here = subst (λ xs. HasPorts xs n p.ports) (sym cs_is) (kept_here.space.ports n node_here)

  pub behind_here : (kind : Bool) (fabric : FabricState) → IsBehind cs n kind fabric → SendsBehind now.shape n fabric
  behind_here kind fabric b = subst (λ (z : LossyBenchState C M). SendsBehind z.shape n fabric) net_here (behind_first p.shape n 0 0 0 kind fabric (subst (λ xs. IsBehind xs n kind fabric) cs_is b))

  module _ (a b : ℕ) (a_is : a ≡ slice_index_or sent n a) (b_is : b ≡ slice_index_or p.executed n b) where
    a_here : a ≡ slice_index_or sent n 0
    a_here = a_is ∙ get_or_default sent n a 0 (let z = kept_here.sized.sent in let h = node_here in omega (arith, z, h))

    b_here : b ≡ slice_index_or p.executed n 0
    b_here = b_is ∙ get_or_default p.executed n b 0 (let z = kept_here.sized.bench.executed in let h = node_here in omega (arith, z, h))

    a_now : a ≡ slice_index_or now.sent n 0
    a_now = a_here ∙ ap (λ (z : LossyBenchState C M). slice_index_or z.sent n 0) net_here

    b_now : b ≡ slice_index_or now.executed n 0
    b_now = b_here ∙ ap (λ (z : LossyBenchState C M). slice_index_or z.executed n 0) net_here

    has_here : HasRoomToSend now.shape n (slice_index_or now.sent n 0) (slice_index_or now.executed n 0) now.watch → HasRoomToSend p.shape n a b w
    has_here has = subst (λ (z : LossyBenchState C M). HasRoomToSend z.shape n a b z.watch) (sym net_here)
        (subst (λ x. HasRoomToSend now.shape n x b now.watch) (sym a_now) (subst (λ y. HasRoomToSend now.shape n (slice_index_or now.sent n 0) y now.watch) (sym b_now) has))

    pub space_first : HasRoomToSend now.shape n (slice_index_or now.sent n 0) (slice_index_or now.executed n 0) now.watch → (c : ℕ) → c < length cs → numbered_from cs n true a c ≡ true → length (queue_at w c) < room
    space_first has = subst (λ xs. (c : ℕ) → c < length xs → numbered_from xs n true a c ≡ true → length (queue_at w c) < room) (sym cs_is) (room_first p.shape n 0 a b w (has_here has))

    module _ (ps : List (List Value)) (ps_is : ps ≡ posted) (at : ℕ) (old mid : FabricState) (v : LossyTimes) (first : SentUpTo (length cs) (numbered_from cs n true a) (posted_message ps (bit_of a)) at old mid w v) where
      first_here : SentUpTo (length p.shape.channels) (numbered_from p.shape.channels n true a) (posted_message posted (bit_of a)) at old mid w v
      first_here = subst (λ xs. SentUpTo (length xs) (numbered_from xs n true a) (posted_message posted (bit_of a)) at old mid w v) cs_is
          (subst (λ ys. SentUpTo (length cs) (numbered_from cs n true a) (posted_message ys (bit_of a)) at old mid w v) ps_is first)

      pub space_second : HasRoomToSend now.shape n (slice_index_or now.sent n 0) (slice_index_or now.executed n 0) now.watch → (c : ℕ) → c < length cs → numbered_from cs n false b c ≡ true → length (queue_at v c) < room
      space_second has = subst (λ xs. (c : ℕ) → c < length xs → numbered_from xs n false b c ≡ true → length (queue_at v c) < room) (sym cs_is)
          (room_second p.shape n at a b posted old mid w v kept_here.sized.queues first_here (has_here has))

      pub behind_then : IsBehind cs n false mid → SendsBehind now.shape n old
      behind_then h = subst (λ (z : LossyBenchState C M). SendsBehind z.shape n old) net_here
          (behind_second p.shape n at a b posted old mid w v kept_here.sized.queues first_here (subst (λ xs. IsBehind xs n false mid) cs_is h))

      pub again_here : (rs : List (List Value)) → rs ≡ posted → (new : FabricState) (u : LossyTimes) → SentUpTo (length cs) (numbered_from cs n false b) (posted_message rs (bit_of b)) at mid new v u → (z : LossyTimes) → z ≡ with_last u n at →
          SendsAgain now.shape n at (slice_index_or now.sent n 0) (slice_index_or now.executed n 0) now.posted old new now.watch z
      again_here rs rs_is new u second z watch =
          let second_here : SentUpTo (length p.shape.channels) (numbered_from p.shape.channels n false b) (posted_message posted (bit_of b)) at mid new v u =
          subst (λ xs. SentUpTo (length xs) (numbered_from xs n false b) (posted_message posted (bit_of b)) at mid new v u) cs_is
          (subst (λ ys. SentUpTo (length cs) (numbered_from cs n false b) (posted_message ys (bit_of b)) at mid new v u) rs_is second) in
          subst (λ x. SendsAgain now.shape n at x (slice_index_or now.executed n 0) now.posted old new now.watch z) a_now
          (subst (λ y. SendsAgain now.shape n at a y now.posted old new now.watch z) b_now
          (subst (λ (x : LossyBenchState C M). SendsAgain x.shape n at a b x.posted old new x.watch z) net_here
          (sent_again p.shape n at a b posted old mid w v kept_here.sized.queues first_here new u second_here z watch)))
