-- The statements of a node's controller.
use Rattle.std.specs.Prelude.{◌≡◌, ℕ, ◌≤◌, ◌<◌, ◌^◌, Bool, true, false, not, ◌&&◌, ◌||◌, nat_eq, pos, ℤ, List, [], ◌∷◌, if◌then◌else◌}
use Rattle.std.specs.List.{list_any}
use Rattle.lt_base.specs.Operators.{int_eq}
use Rattle.lt_arch.specs.declared.event.Deed.{Deed}
use Rattle.lt_arch.specs.declared.event.Deed.TheVariants.{Nothing, Execute, Send}
use Rattle.lt_arch.specs.State.{Phase, Wait, Ready, First, Sending, Executing}
use Rattle.lt_arch.specs.Deeds.{deed_of, phase_after}
use Rattle.lt_arch.specs.Step.{is_execute, is_send}
use Rattle.lt_c.specs.Tree.{CVariable, slot, did, more, phase, left, sent, executed, bit, read, payload, ack, seen, output, has, h_sub, o_eq, o_ne, o_and, o_or, Tree, c_integer, c_var, c_call, c_not, c_join, Statement, assign, branch, both, nothing}
use Rattle.lt_c.specs.Meaning.{Store, c_truth_of, of_truth, stored, store_left, WritesStep}

-- ---- the statements

-- a variable is a number, and becomes one
abbrev pub is_number : CVariable → ℕ → Tree
is_number p n = c_join o_eq (c_var p) (c_integer (pos n))

abbrev pub becomes : CVariable → ℕ → Statement
becomes p n = assign p (c_integer (pos n))

-- the inbox for data of a node has a message that was not read, and so has that for its acknowledgements
abbrev pub unread_data : ℕ → Tree
unread_data j = c_join o_ne (c_var (bit j)) (c_var (read j))

abbrev pub unread_ack : ℕ → Tree
unread_ack j = c_join o_ne (c_var (ack j)) (c_var (seen j))

-- every one of these inboxes for data has such a message, and e; some one has it, or e
abbrev pub all_data : List ℕ → Tree → Tree
all_data [] e = e
all_data (j ∷ js) e = c_join o_and (unread_data j) (all_data js e)

abbrev pub some_data : List ℕ → Tree → Tree
some_data [] e = e
some_data (j ∷ js) e = c_join o_or (unread_data j) (some_data js e)

abbrev pub all_acks : List ℕ → Tree → Tree
all_acks [] e = e
all_acks (j ∷ js) e = c_join o_and (unread_ack j) (all_acks js e)

-- where every inbox for acknowledgements has such a message
abbrev pub if_acked : List ℕ → Statement → Statement
if_acked [] s = s
if_acked (j ∷ js) s = branch (all_acks js (unread_ack j)) s nothing

-- they are read
abbrev pub read_data : List ℕ → Statement
read_data [] = nothing
read_data (j ∷ js) = both (assign (read j) (c_var (bit j))) (read_data js)

abbrev pub read_acks : List ℕ → Statement
read_acks [] = nothing
read_acks (j ∷ js) = both (assign (seen j) (c_var (ack j))) (read_acks js)

-- the bit of a message, or of an acknowledgement, that is sent
abbrev pub turned : CVariable → Statement
turned p = assign p (c_not (c_var p))

-- an instant is executed: run is the step of the part
abbrev pub executing : List ℕ → Statement → Statement
executing ins run = both run (both (read_data ins) (both (becomes phase 1) (both (turned executed) (becomes did 1))))

abbrev pub sending : List ℕ → Statement → Statement
sending acks next = both (read_acks acks) (both next (both (turned sent) (becomes did 2)))

-- an activation under back-pressure; ins are the nodes whose data comes, acks those whose acknowledgements come
abbrev pub pressure : List ℕ → List ℕ → Statement → Statement
pressure ins acks run =
    both (becomes did 0)
    (branch (is_number phase 1)
    (if_acked acks (sending acks (becomes phase 0)))
    (branch (all_data ins (c_var more)) (executing ins run) nothing))

-- one less to count
abbrev pub counted_down : Statement
counted_down = assign left (c_call h_sub (c_var left) (c_integer (pos 1)))

-- an activation under the time-based protocol, with its countdowns
abbrev pub counting : (send execute : ℕ) → List ℕ → Statement → Statement
counting send execute ins run =
    both (becomes did 0)
    (branch (is_number phase 0)
    (branch (c_var more) (both (executing ins run) (becomes left send)) nothing)
    (branch (is_number phase 1)
    (branch (some_data ins (is_number left 1)) (both (sending [] (becomes phase 2)) (becomes left execute)) counted_down)
    (branch (is_number left 1)
    (branch (c_var more) (both (executing ins run) (becomes left send)) nothing)
    counted_down)))

-- ---- what they are to leave

-- the numbers of phases and deeds
abbrev pub phase_number : Phase → ℤ
phase_number Wait = pos 0
phase_number Ready = pos 1
phase_number First = pos 0
phase_number (Sending n) = pos 1
phase_number (Executing n) = pos 2

abbrev pub deed_number : Deed → ℤ
deed_number Nothing = pos 0
deed_number Execute = pos 1
deed_number Send = pos 2

-- the store has a controller in this phase
abbrev pub HasPhase : Store → Phase → Type 0
HasPhase m (Sending n) = (m phase ≡ pos 1) × (m left ≡ pos n)
HasPhase m (Executing n) = (m phase ≡ pos 2) × (m left ≡ pos n)
HasPhase m Wait = m phase ≡ pos 0
HasPhase m Ready = m phase ≡ pos 1
HasPhase m First = m phase ≡ pos 0

-- the bits of an inbox differ
abbrev pub fresh_data : Store → ℕ → Bool
fresh_data m j = not (int_eq (m (bit j)) (m (read j)))

abbrev pub fresh_ack : Store → ℕ → Bool
fresh_ack m j = not (int_eq (m (ack j)) (m (seen j)))

abbrev pub every : (ℕ → Bool) → List ℕ → Bool
every p [] = true
every p (j ∷ js) = p j && every p js

abbrev pub some : (ℕ → Bool) → List ℕ → Bool
some p [] = false
some p (j ∷ js) = p j || some p js

-- an activation in this phase does this deed: what the store has after it
pub record Does (ins acks : List ℕ) (run : Statement) (old new : Store) (deed : Deed) (next : Phase) : Type 0 where
  pub deed_is : new did ≡ deed_number deed
  pub next_is : HasPhase new next
  -- the step is made where an instant is executed, and else the slots stay
  pub slots : (x : ℕ) → new (slot x) ≡ (if is_execute deed then store_left run (stored old did (pos 0)) (slot x) else old (slot x))
  -- the data that was used is read where an instant is executed, and acknowledgements where messages are sent
  pub reads : (j : ℕ) → new (read j) ≡ (if is_execute deed && list_any (nat_eq j) ins then old (bit j) else old (read j))
  pub seens : (j : ℕ) → new (seen j) ≡ (if is_send deed && list_any (nat_eq j) acks then old (ack j) else old (seen j))
  -- the other bits stay, and so do payloads
  pub bits : (j : ℕ) → new (bit j) ≡ old (bit j)
  pub acks_stay : (j : ℕ) → new (ack j) ≡ old (ack j)
  pub payloads : (j k : ℕ) → new (payload j k) ≡ old (payload j k)
  -- the outputs are those of the step, and else stay
  pub outputs : (y : ℕ) → new (output y) ≡ (if is_execute deed then store_left run (stored old did (pos 0)) (output y) else old (output y))
  pub told : (y : ℕ) → new (has y) ≡ (if is_execute deed then store_left run (stored old did (pos 0)) (has y) else old (has y))
  -- the bits of what is sent alternate
  pub sent_is : new sent ≡ (if is_send deed then of_truth (not (c_truth_of (old sent))) else old sent)
  pub executed_is : new executed ≡ (if is_execute deed then of_truth (not (c_truth_of (old executed))) else old executed)

-- an activation does what the table of deeds says
abbrev pub PressureIsDeed : Type 0
PressureIsDeed =
    (ins acks : List ℕ) (run : Statement) (send execute : ℕ) (m : Store) (ready : Bool) (some_in : Bool) → WritesStep run →
    let now : Phase = if ready then Ready else Wait in
    HasPhase m now →
    let deed = deed_of now (every (fresh_data m) ins) some_in (every (fresh_ack m) acks) (c_truth_of (m more)) in
    Does ins acks run m (store_left (pressure ins acks run) m) deed (phase_after send execute now deed)

-- a phase of the time-based protocol, whose countdown is a number of 63 bits
abbrev pub IsCounting : Phase → Type 0
IsCounting Wait = ⊥
IsCounting Ready = ⊥
IsCounting First = Unit {0}
IsCounting (Sending n) = (1 ≤ n) × (n < 2 ^ 63)
IsCounting (Executing n) = (1 ≤ n) × (n < 2 ^ 63)

abbrev pub CountingIsDeed : Type 0
CountingIsDeed =
    (ins : List ℕ) (run : Statement) (send execute : ℕ) (m : Store) (now : Phase) (all_in all_ack : Bool) → WritesStep run → IsCounting now → HasPhase m now →
    let deed = deed_of now all_in (some (fresh_data m) ins) all_ack (c_truth_of (m more)) in
    Does ins [] run m (store_left (counting send execute ins run) m) deed (phase_after send execute now deed)
