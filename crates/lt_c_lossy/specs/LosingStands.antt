-- The store of an emitted node whose links lose messages, and the state of the architecture for which it stands.
use Rattle.std.specs.Prelude.{◌≡◌, ℕ, ◌<◌, true, false, pos, List, [], ◌∷◌, length, map, Some}
use Rattle.lt_base.specs.declared.value.Value.{Value}
use Rattle.lt_base.specs.Program.{Function}
use Rattle.lt_arch.specs.declared.shape.Shape.{Shape}
use Rattle.lt_arch.specs.Readers.{chan_count}
use Rattle.lt_link.specs.Ports.{is_to}
use Rattle.lt_lossy.specs.State.{Message, LossyState, sent_count}
use Rattle.lt_place.specs.declared.layout.Layout.{Layout}
use Rattle.lt_place.specs.Layout.{crossing_of}
use Rattle.lt_net_node.specs.Layout.{crossing_place}
use Rattle.lt_net_node.specs.Local.{upto}
use Rattle.lt_step.specs.Code.{StepCode}
use Rattle.lt_step.specs.Run.{slots_after}
use Rattle.lt_c.specs.Tree.{executions, sendings, payload, newest, answered, posted}
use Rattle.lt_c.specs.Meaning.{Store}
use Rattle.lt_c.specs.Literals.{c_number}
use Rattle.lt_c_step.specs.Laws.{Matches}
use Rattle.lt_c_control.specs.Control.{HasPhase}
use Rattle.lt_c_net.specs.Stands.{sender, Packet}
use Rattle.lt_c_lossy.specs.Crossed.{crossing_value, crossing_channel, whole_row}

-- the store is where the state has node n, and each value in it is the whole program's
pub record LosingAt (f : Function) (l : Layout) (s : Shape) (rows : List (List Value)) (st : LossyState) (n : ℕ) (code : StepCode) (m : Store) : Type 0 where
  -- the controller's phase, and how many instants the node has executed and has sent
  pub phase_is : HasPhase m (st.node n).phase
  pub executions_are : m executions ≡ pos (st.node n).executed
  pub sendings_are : m sendings ≡ pos (sent_count (st.node n))
  -- the inboxes have the newest numbers that were delivered, and the values of these messages
  pub numbers : (c : ℕ) → c < chan_count s → is_to s.channels n true c ≡ true → m (newest (sender s.channels c)) ≡ pos (st.link c).newest
  pub answers : (c : ℕ) → c < chan_count s → is_to s.channels n false c ≡ true → m (answered (sender s.channels c)) ≡ pos (st.link c).newest
  pub values : (x : ℕ) → x < length l.cross → (crossing_of l x).to ≡ n →
      m (payload (crossing_of l x).from (crossing_place l x)) ≡ c_number (crossing_value f rows (crossing_of l x) (st.link (crossing_channel l s x)).newest)
  -- the slots are those of the executed instants
  pub slots : Matches (slots_after code (map (map Some) (upto (whole_row f l rows n) (st.node n).executed))) m
  -- what is sent again are the values of the message that was sent last
  pub kept : (x : ℕ) → x < length l.cross → (crossing_of l x).from ≡ n → 0 < sent_count (st.node n) →
      m (posted (crossing_of l x).to (crossing_place l x)) ≡ c_number (crossing_value f rows (crossing_of l x) (sent_count (st.node n)))

-- a packet on channel c is the message of this number: it has the number, and of each crossing of the channel the value
pub record CarriesNumber (f : Function) (l : Layout) (s : Shape) (rows : List (List Value)) (c number : ℕ) (k : Packet) : Type 0 where
  pub mark_is : k.mark ≡ pos number
  pub values_are : (x : ℕ) → x < length l.cross → crossing_channel l s x ≡ c → k.values (crossing_place l x) ≡ c_number (crossing_value f rows (crossing_of l x) number)

-- so each of these is, in order
abbrev pub CarryNumbers : Function → Layout → Shape → (rows : List (List Value)) → (c : ℕ) → List Packet → List Message → Type 0
CarryNumbers f l s rows c [] [] = Unit {0}
CarryNumbers f l s rows c [] (m ∷ ms) = ⊥
CarryNumbers f l s rows c (k ∷ ks) [] = ⊥
CarryNumbers f l s rows c (k ∷ ks) (m ∷ ms) = CarriesNumber f l s rows c m.number k × CarryNumbers f l s rows c ks ms
