-- The inboxes of a node in C: what they hold, what they begin with, and that what comes is put into them.
use Rattle.std.specs.Prelude.{◌≡◌, ℕ, zero, suc, ◌<◌, Bool, true, false, nat_eq, List, [], ◌∷◌, length, slice_index_or, pos}
use Rattle.std.specs.List.{AllByRecursion}
use Rattle.lt_base.specs.declared.value.Value.{Value}
use Rattle.lt_base.specs.declared.value.Value.TheVariants.{Bool as Truth}
use Rattle.lt_link.specs.Inbox.{InboxState}
use Rattle.lt_c.specs.Tree.{CVariable, phase, left, sent, executed, bit, read, payload, ack, seen, message_bit, message, answer_bit, tag, c_integer, c_truth, c_var, Statement, assign, both, nothing}
use Rattle.lt_c.specs.Meaning.{Store, of_truth, store_left}
use Rattle.lt_c.specs.Literals.{c_number, of_value}

-- the value at a place of a message
abbrev pub payload_value : List Value → (k : ℕ) → Value
payload_value vs k = slice_index_or vs k (Truth false)

-- the variables for data of node j are this inbox
pub record HasData (m : Store) (j : ℕ) (b : InboxState) : Type 0 where
  pub bit_is : m (bit j) ≡ of_truth b.bit
  pub read_is : m (read j) ≡ of_truth b.read
  pub values : (k : ℕ) → k < length b.payload → m (payload j k) ≡ c_number (payload_value b.payload k)

-- those for acknowledgements of node j are this inbox
pub record HasAck (m : Store) (j : ℕ) (b : InboxState) : Type 0 where
  pub bit_is : m (ack j) ≡ of_truth b.bit
  pub read_is : m (seen j) ≡ of_truth b.read

-- ---- what comes

-- so many values of the message at hand go into the inbox of node j, and its bit
abbrev pub taking : (j count : ℕ) → Statement
taking j zero = nothing
taking j (suc k) = both (taking j k) (assign (payload j k) (c_var (message k)))

abbrev pub delivering : (j count : ℕ) → Statement
delivering j n = both (assign (bit j) (c_var message_bit)) (taking j n)

-- the acknowledgement at hand goes into that for acknowledgements
abbrev pub acknowledging : (j : ℕ) → Statement
acknowledging j = assign (ack j) (c_var answer_bit)

-- the inbox of node j has become this one, and all else stays
pub record PutsData (j : ℕ) (new old : Store) (b : InboxState) : Type 0 where
  pub is : HasData new j b
  pub other_bits : (i : ℕ) → nat_eq i j ≡ false → new (bit i) ≡ old (bit i)
  pub other_values : (i k : ℕ) → nat_eq i j ≡ false → new (payload i k) ≡ old (payload i k)
  pub others : (p : CVariable) → nat_eq (tag p) 7 ≡ false → nat_eq (tag p) 9 ≡ false → new p ≡ old p

pub record PutsAck (j : ℕ) (new old : Store) (b : InboxState) : Type 0 where
  pub is : HasAck new j b
  pub other_acks : (i : ℕ) → nat_eq i j ≡ false → new (ack i) ≡ old (ack i)
  pub others : (p : CVariable) → nat_eq (tag p) 10 ≡ false → new p ≡ old p

-- what comes is put into its inbox, as Inbox::put does: the payload and the bit are replaced
pub record MessagesPut : Type 0 where
  pub messages : (j : ℕ) (b : InboxState) (t : Bool) (vs : List Value) (m : Store) → HasData m j b → m message_bit ≡ of_truth t → ((k : ℕ) → k < length vs → m (message k) ≡ c_number (payload_value vs k)) →
      PutsData j (store_left (delivering j (length vs)) m) m (record b { payload = vs; bit = t })
  pub acks : (j : ℕ) (b : InboxState) (t : Bool) (m : Store) → HasAck m j b → m answer_bit ≡ of_truth t → PutsAck j (store_left (acknowledging j) m) m (record b { bit = t })

-- ---- the start

-- the values from place k on
abbrev pub filling : (j k : ℕ) → List Value → Statement
filling j k [] = nothing
filling j k (v ∷ vs) = both (assign (payload j k) (of_value v)) (filling j (suc k) vs)

-- an inbox for data begins with the first values of what crosses, and with a message that was not read
pub record FirstData : Type 0 where
  pub from_node : ℕ
  pub firsts : List Value

abbrev pub starting_inbox : FirstData → Statement
starting_inbox d = both (assign (bit d.from_node) (c_truth false)) (both (assign (read d.from_node) (c_truth true)) (filling d.from_node 0 d.firsts))

abbrev pub starting_data : List FirstData → Statement
starting_data [] = nothing
starting_data (d ∷ ds) = both (starting_inbox d) (starting_data ds)

-- an inbox for acknowledgements begins with one that was read
abbrev pub starting_ack : ℕ → Statement
starting_ack j = both (assign (ack j) (c_truth false)) (assign (seen j) (c_truth false))

abbrev pub starting_acks : List ℕ → Statement
starting_acks [] = nothing
starting_acks (j ∷ js) = both (starting_ack j) (starting_acks js)

-- the controller begins with its first phase, and the bits of messages with that before the first one; one that counts has a countdown
abbrev pub starting_left : (counts : Bool) → Statement
starting_left true = assign left (c_integer (pos 0))
starting_left false = nothing

abbrev pub starting_phase : (counts : Bool) → Statement
starting_phase counts = both (starting_left counts) (both (assign phase (c_integer (pos 0))) (both (assign sent (c_truth false)) (assign executed (c_truth false))))

abbrev pub starting : List FirstData → List ℕ → (counts : Bool) → Statement
starting ds js counts = both (starting_data ds) (both (starting_acks js) (starting_phase counts))

-- the nodes differ
abbrev pub DifferInNode : List FirstData → Type 0
DifferInNode [] = Unit {0}
DifferInNode (d ∷ ds) = AllByRecursion (λ e. nat_eq d.from_node e.from_node ≡ false) ds × DifferInNode ds

-- what a node begins with: inboxes for data that are fresh, those for acknowledgements that are not, and the first phase
pub record BeginsFresh (ds : List FirstData) (js : List ℕ) (m : Store) : Type 0 where
  pub messages : AllByRecursion (λ d. HasData m d.from_node (record { payload = d.firsts; bit = false; read = true })) ds
  pub acks : AllByRecursion (λ j. HasAck m j (record { payload = []; bit = false; read = false })) js
  pub phase_is : m phase ≡ pos 0
  pub sent_is : m sent ≡ pos 0
  pub executed_is : m executed ≡ pos 0

-- and slots stay
pub record StartsFresh : Type 0 where
  pub fresh : (ds : List FirstData) → DifferInNode ds → (js : List ℕ) (counts : Bool) (m : Store) → BeginsFresh ds js (store_left (starting ds js counts) m)
  pub slots : (ds : List FirstData) (js : List ℕ) (counts : Bool) (m : Store) (p : CVariable) → nat_eq (tag p) 0 ≡ true → store_left (starting ds js counts) m p ≡ m p
