-- What an emitted node tests whose links lose messages is the freshness of its channels, and its controller does the architecture's deed.
use Rattle.std.proofs.Common.{◌≡◌, ℕ, suc, ◌+◌, ◌<◌, ◌^◌, Bool, true, false, not, List, [], ◌∷◌, refl, sym, ap, ◌∙◌, subst, arith, pos, ℤ}
use Rattle.std.specs.Prelude.{◌||◌, ◌==◌, nat_eq, nat_lt, nat_le, int_le, if◌then◌else◌}
use Rattle.std.proofs.lemmas.Bool.Decides.{Decides-eqb, nat_tests}
use Rattle.lt_arch.specs.declared.event.Deed.{Deed}
use Rattle.lt_arch.specs.declared.event.Deed.TheVariants.{Execute}
use Rattle.lt_arch.specs.declared.shape.Shape.{Shape}
use Rattle.lt_arch.specs.State.{Phase, Wait, Ready, First, Sending, Executing}
use Rattle.lt_arch.specs.Readers.{chan_count, chan_of, to_of}
use Rattle.lt_arch.specs.Deeds.{all_below, all_in, all_ack, is_fresh, deed_of, phase_after}
use Rattle.lt_bp.proofs.Balance.{IsPhase}
use Rattle.lt_link.specs.Ports.{is_to}
use Rattle.lt_lossy.specs.State.{LossyState, plain_of}
use Rattle.lt_net_bench.proofs.Entries.{and_parts}
use Rattle.lt_c.specs.Tree.{CVariable, did, more, phase, executions, sendings, payload, newest, answered, posted, slot, tag, c_var, Statement}
use Rattle.lt_c.specs.Meaning.{Store, c_truth_of, value, stored, store_left, WritesStep}
use Rattle.lt_c.proofs.Stores.{other_tag}
use Rattle.lt_c_control.specs.declared.posts.Post.{Post}
use Rattle.lt_c_control.specs.Control.{every, HasPhase, is_number}
use Rattle.lt_c_control.specs.Lossy.{all_new, all_answers, new_answer, if_answered, posting, sending_next, executing_once, losing, has_new_data, has_new_answer, DifferAsPosts, DoesLosing}
use Rattle.lt_c_control.proofs.LossyDeeds.{losing_is_deed}
use Rattle.lt_c_net.specs.Stands.{sender, ListsSenders}
use Rattle.lt_c_net.proofs.Senders.{both_ways, every-at, every-of, all_below-at, all_below-of}

-- numbers in C
most_pos : (a b : ℕ) → int_le (pos a) (pos b) ≡ nat_le a b
most_pos a b = refl

pub to_node : (s : Shape) (n : ℕ) (kind : Bool) (c : ℕ) → is_to s.channels n kind c ≡ true → to_of s c ≡ n
unfolding chan_of
to_node s n kind c h = (Decides-eqb (to_of s c) n).0 (and_parts (to_of s c == n) _ h).0

-- ---- a test of senders that is one of channels

module _ (s : Shape) (st : LossyState) (n : ℕ) (kind : Bool) (js : List ℕ) (are : ListsSenders s.channels n kind js) (p : ℕ → Bool)
    (same : (c : ℕ) → c < chan_count s → is_to s.channels n kind c ≡ true → p (sender s.channels c) ≡ is_fresh s (plain_of st) c) where
  -- a channel of the kind is fresh, or it is another
  abbrev pub fresh_or_not : (c : ℕ) → Bool
  fresh_or_not c = not (is_to s.channels n kind c) || is_fresh s (plain_of st) c

  holds_of : (a b : Bool) → (not a || b) ≡ true → a ≡ true → b ≡ true
  holds_of true b h e = h
  holds_of false b h e = absurd (cc)

  pub every_fresh : every p js ≡ all_below fresh_or_not (chan_count s)
  every_fresh = both_ways _ _
      (λ h. all_below-of fresh_or_not (chan_count s) (λ c lt. by_kind c lt h (is_to s.channels n kind c) refl))
      (λ h. every-of p js (λ j is_in. let at = are.only j is_in in
      subst (λ i. p i ≡ true) at.3 (same at.0 at.1 at.2 ∙ holds_of (is_to s.channels n kind at.0) (is_fresh s (plain_of st) at.0) (all_below-at fresh_or_not (chan_count s) at.0 h at.1) at.2)))
    where
      by_kind : (c : ℕ) → c < chan_count s → every p js ≡ true → (b : Bool) → is_to s.channels n kind c ≡ b → (not b || is_fresh s (plain_of st) c) ≡ true
      by_kind c lt h true e = sym (same c lt e) ∙ every-at p js (sender s.channels c) h (are.all c lt e)
      by_kind c lt h false e = refl

module _ (s : Shape) (st : LossyState) (n : ℕ) (ins acks : List ℕ) (ins_are : ListsSenders s.channels n true ins) (acks_are : ListsSenders s.channels n false acks) (m : Store) (count_is : m executions ≡ pos (st.node n).executed)
    (numbers : (c : ℕ) → c < chan_count s → is_to s.channels n true c ≡ true → m (newest (sender s.channels c)) ≡ pos (st.link c).newest)
    (answers : (c : ℕ) → c < chan_count s → is_to s.channels n false c ≡ true → m (answered (sender s.channels c)) ≡ pos (st.link c).newest) where
  fresh_by : (kind : Bool) (c : ℕ) (z : ℤ) → is_to s.channels n kind c ≡ true → z ≡ pos (st.link c).newest → int_le (m executions) z ≡ is_fresh s (plain_of st) c
  fresh_by kind c z to is =
      (λ i. int_le (count_is i) (is i)) ∙ most_pos (st.node n).executed (st.link c).newest
      ∙ ap (λ i. nat_le (st.node i).executed (st.link c).newest) (sym (to_node s n kind c to))

  pub data_all : every (has_new_data m) ins ≡ all_in s (plain_of st) n
  unfolding all_in chan_of
  data_all = every_fresh s st n true ins ins_are (has_new_data m) (λ c lt to. fresh_by true c (m (newest (sender s.channels c))) to (numbers c lt to))

  pub acks_all : every (has_new_answer m) acks ≡ all_ack s (plain_of st) n
  unfolding all_ack chan_of
  acks_all = every_fresh s st n false acks acks_are (has_new_answer m) (λ c lt to. fresh_by false c (m (answered (sender s.channels c))) to (answers c lt to))

pub less_most : (a b : ℕ) → nat_lt a b ≡ nat_le (suc a) b
less_most a b = both_ways (nat_lt a b) (nat_le (suc a) b) (λ h. grind (arith, nat_tests, h)) (λ h. grind (arith, nat_tests, h))

-- ---- the controller

pub losing_does : (ins acks : List ℕ) (ps : List Post) → DifferAsPosts ps → (run : Statement) (send execute count messages : ℕ) (m : Store) (ph : Phase) (some_in : Bool) → WritesStep run →
    m executions ≡ pos count → m sendings ≡ pos messages → count + 1 < 2 ^ 63 → messages + 1 < 2 ^ 63 → IsPhase ph count → HasPhase m ph →
    let deed : Deed = deed_of ph (every (has_new_data m) ins) some_in (every (has_new_answer m) acks) (c_truth_of (m more)) in
    DoesLosing ps run m (store_left (losing ins acks ps run) m) count messages deed (phase_after send execute ph deed)
losing_does ins acks ps d run send execute count messages m Wait some_in w a b few less ok h = losing_is_deed ins acks ps d run send execute count messages m false some_in w a b few less h
losing_does ins acks ps d run send execute count messages m Ready some_in w a b few less ok h = losing_is_deed ins acks ps d run send execute count messages m true some_in w a b few less h
losing_does ins acks ps d run send execute count messages m First some_in w a b few less ok h = absurd ok
losing_does ins acks ps d run send execute count messages m (Sending k) some_in w a b few less ok h = absurd ok
losing_does ins acks ps d run send execute count messages m (Executing k) some_in w a b few less ok h = absurd ok

-- what a node executes has inputs
pub deed_has_more : (ph : Phase) (count : ℕ) (ins some acks left : Bool) → IsPhase ph count → deed_of ph ins some acks left ≡ Execute → left ≡ true
deed_has_more Wait count true some acks true ok h = refl
deed_has_more Wait count true some acks false ok h = absurd (cc)
deed_has_more Wait count false some acks left ok h = absurd (cc)
deed_has_more Ready count ins some true left ok h = absurd (cc)
deed_has_more Ready count ins some false left ok h = absurd (cc)
deed_has_more First count ins some acks left ok h = absurd ok
deed_has_more (Sending k) count ins some acks left ok h = absurd ok
deed_has_more (Executing k) count ins some acks left ok h = absurd ok

-- ---- an activation leaves what came

either_store : (b : Bool) (x y : Store) (p : CVariable) (z : ℤ) → x p ≡ z → y p ≡ z → (if b then x else y) p ≡ z
either_store true x y p z e f = e
either_store false x y p z e f = f

posting_leaves : (ps : List Post) (m : Store) (p : CVariable) → nat_eq (tag p) 24 ≡ false → store_left (posting ps) m p ≡ m p
posting_leaves [] m p h = refl
posting_leaves (q ∷ ps) m p h =
    posting_leaves ps (stored m (posted q.to_node q.at_place) (m (slot q.from_slot))) p h ∙ other_tag m (posted q.to_node q.at_place) p (m (slot q.from_slot)) h

module _ (ps : List Post) (run : Statement) (w : WritesStep run) (m : Store) (j k : ℕ) where
  abbrev m0 : Store
  m0 = stored m did (pos 0)

  sending_leaves : store_left (sending_next ps) m0 (payload j k) ≡ m (payload j k)
  sending_leaves = posting_leaves ps m0 (payload j k) refl

  executing_leaves : store_left (executing_once run) m0 (payload j k) ≡ m (payload j k)
  executing_leaves = w m0 (payload j k) refl

  answered_leaves : (acks : List ℕ) → store_left (if_answered acks (sending_next ps)) m0 (payload j k) ≡ m (payload j k)
  answered_leaves [] = sending_leaves
  answered_leaves (i ∷ is) = either_store (c_truth_of (value m0 (all_answers is (new_answer i)))) (store_left (sending_next ps) m0) m0 (payload j k) (m (payload j k)) sending_leaves refl

  pub payload_stays : (ins acks : List ℕ) → store_left (losing ins acks ps run) m (payload j k) ≡ m (payload j k)
  payload_stays ins acks =
      let inner : Store = if c_truth_of (value m0 (all_new ins (c_var more))) then store_left (executing_once run) m0 else m0 in
      either_store (c_truth_of (value m0 (is_number phase 1))) (store_left (if_answered acks (sending_next ps)) m0) inner (payload j k) (m (payload j k)) (answered_leaves acks)
      (either_store (c_truth_of (value m0 (all_new ins (c_var more)))) (store_left (executing_once run) m0) m0 (payload j k) (m (payload j k)) executing_leaves refl)
