-- The state of an architecture whose links lose messages: of each node and each channel by its number.
use Rattle.std.specs.Prelude.{ℕ, ◌-◌, List, [], map, Option, None, if◌then◌else◌}
use Rattle.lt_arch.specs.declared.shape.Shape.{Shape}
use Rattle.lt_arch.specs.State.{NodeState, ChanState, State, Wait, unsent}
use Rattle.lt_arch.specs.Readers.{carries_data}

-- a message in transit: the number that it carries, and when it was sent
pub record Message : Type 0 where
  pub number : ℕ
  pub sent_at : ℕ

pub record LinkState : Type 0 where
  -- the number of the newest message that was delivered, and 0 before the first one
  pub newest : ℕ
  -- the messages in transit, oldest first
  pub transit : List Message
  -- how many were lost since the last delivery
  pub losses : ℕ

pub record LossyState : Type 0 where
  pub node : ℕ → NodeState
  pub link : ℕ → LinkState
  -- the time of the last event
  pub latest : Option ℕ
  -- once the end was taken
  pub horizon : Option ℕ

-- before the first event
abbrev pub lossy_start : LossyState
lossy_start = record {
  node = λ n. record { phase = Wait; executed = 0; last = None };
  link = λ c. record { newest = 0; transit = []; losses = 0 };
  latest = None;
  horizon = None;
}

-- The state as an architecture without losses has it: the newest number stands for how many messages were delivered. Freshness,
-- deeds and deadlines are those of this state.
abbrev pub plain_link : LinkState → ChanState
plain_link link = record { delivered = link.newest; transit = map (λ (m : Message). m.sent_at) link.transit }

abbrev pub plain_of : LossyState → State
plain_of st = record { node = st.node; chan = λ c. plain_link (st.link c); latest = st.latest; horizon = st.horizon }

-- how many instants a node has sent
abbrev pub sent_count : NodeState → ℕ
sent_count v = v.executed - unsent v.phase

-- what a node counts on channel c: on one that carries data the instants that it has sent, on one that carries acknowledgements those that it has executed
abbrev pub number_on : Shape → NodeState → (c : ℕ) → ℕ
number_on s v c = if carries_data s c then sent_count v else v.executed
