-- The controller of a node whose links lose messages. Its inboxes keep the greatest numbers that came, and at each activation it sends its
-- last message again, whose values are kept for that.
use Rattle.std.specs.Prelude.{◌≡◌, ℕ, ◌+◌, ◌<◌, ◌^◌, Bool, false, ◌&&◌, int_le, pos, List, [], ◌∷◌, nat_eq, if◌then◌else◌}
use Rattle.std.specs.List.{AllByRecursion}
use Rattle.lt_arch.specs.declared.event.Deed.{Deed}
use Rattle.lt_arch.specs.declared.event.Deed.TheVariants.{Send}
use Rattle.lt_arch.specs.State.{Phase, Wait, Ready}
use Rattle.lt_arch.specs.Deeds.{deed_of, phase_after}
use Rattle.lt_arch.specs.Step.{is_execute, is_send}
use Rattle.lt_c.specs.Tree.{slot, did, more, phase, output, has, executions, sendings, newest, answered, posted, h_add, o_le, o_and, Tree, c_integer, c_var, c_call, c_join, Statement, assign, branch, both, nothing, CVariable}
use Rattle.lt_c.specs.Meaning.{Store, c_truth_of, stored, store_left, WritesStep}
use Rattle.lt_c_control.specs.declared.posts.Post.{Post}
use Rattle.lt_c_control.specs.Control.{is_number, becomes, HasPhase, deed_number, every}

-- ---- the statements

-- the number in the inbox for data of a node is that of the next instant, or greater; so is that of its acknowledgement
abbrev pub new_data : ℕ → Tree
new_data j = c_join o_le (c_var executions) (c_var (newest j))

abbrev pub new_answer : ℕ → Tree
new_answer j = c_join o_le (c_var executions) (c_var (answered j))

-- so is that of every one of these nodes, and e
abbrev pub all_new : List ℕ → Tree → Tree
all_new [] e = e
all_new (j ∷ js) e = c_join o_and (new_data j) (all_new js e)

abbrev pub all_answers : List ℕ → Tree → Tree
all_answers [] e = e
all_answers (j ∷ js) e = c_join o_and (new_answer j) (all_answers js e)

abbrev pub if_answered : List ℕ → Statement → Statement
if_answered [] s = s
if_answered (j ∷ js) s = branch (all_answers js (new_answer j)) s nothing

-- one more
abbrev pub counted_up : CVariable → Statement
counted_up p = assign p (c_call h_add (c_var p) (c_integer (pos 1)))

-- the values of a message are kept, since slots change before it is sent again
abbrev pub posting : List Post → Statement
posting [] = nothing
posting (p ∷ ps) = both (assign (posted p.to_node p.at_place) (c_var (slot p.from_slot))) (posting ps)

abbrev pub executing_once : Statement → Statement
executing_once run = both run (both (becomes phase 1) (both (counted_up executions) (becomes did 1)))

abbrev pub sending_next : List Post → Statement
sending_next ps = both (posting ps) (both (becomes phase 0) (both (counted_up sendings) (becomes did 2)))

-- an activation; ins are the nodes whose data comes, acks those whose acknowledgements come
abbrev pub losing : List ℕ → List ℕ → List Post → Statement → Statement
losing ins acks ps run =
    both (becomes did 0)
    (branch (is_number phase 1)
    (if_answered acks (sending_next ps))
    (branch (all_new ins (c_var more)) (executing_once run) nothing))

-- ---- what they are to leave

-- the inbox of a node has a message that was not used
abbrev pub has_new_data : Store → ℕ → Bool
has_new_data m j = int_le (m executions) (m (newest j))

abbrev pub has_new_answer : Store → ℕ → Bool
has_new_answer m j = int_le (m executions) (m (answered j))

-- two posts are of one value
abbrev pub is_post : Post → ℕ → ℕ → Bool
is_post p j k = nat_eq k p.at_place && nat_eq j p.to_node

-- no value is posted twice
abbrev pub DifferAsPosts : List Post → Type 0
DifferAsPosts [] = Unit {0}
DifferAsPosts (p ∷ ps) = AllByRecursion (λ q. is_post q p.to_node p.at_place ≡ false) ps × DifferAsPosts ps

-- an activation in this phase does this deed, where so many instants were executed and so many messages sent: what the store has after it
pub record DoesLosing (ps : List Post) (run : Statement) (old new : Store) (count messages : ℕ) (deed : Deed) (next : Phase) : Type 0 where
  pub deed_is : new did ≡ deed_number deed
  pub next_is : HasPhase new next
  pub executions_are : new executions ≡ (if is_execute deed then pos (count + 1) else pos count)
  pub sendings_are : new sendings ≡ (if is_send deed then pos (messages + 1) else pos messages)
  -- the step is made where an instant is executed, and else slots and outputs stay
  pub slots : (x : ℕ) → new (slot x) ≡ (if is_execute deed then store_left run (stored old did (pos 0)) (slot x) else old (slot x))
  pub outputs : (y : ℕ) → new (output y) ≡ (if is_execute deed then store_left run (stored old did (pos 0)) (output y) else old (output y))
  pub told : (y : ℕ) → new (has y) ≡ (if is_execute deed then store_left run (stored old did (pos 0)) (has y) else old (has y))
  -- what was sent last is what the slots hold where a message is sent, and else stays
  pub posts : deed ≡ Send → AllByRecursion (λ p. new (posted p.to_node p.at_place) ≡ old (slot p.from_slot)) ps
  pub posts_stay : is_send deed ≡ false → (j k : ℕ) → new (posted j k) ≡ old (posted j k)
  -- inboxes stay
  pub newest_stay : (j : ℕ) → new (newest j) ≡ old (newest j)
  pub answers_stay : (j : ℕ) → new (answered j) ≡ old (answered j)

-- an activation does what the table of deeds says, where an inbox is fresh whose number is at least the count of executed instants
abbrev pub LosingIsDeed : Type 0
LosingIsDeed =
    (ins acks : List ℕ) (ps : List Post) → DifferAsPosts ps → (run : Statement) (send execute count messages : ℕ) (m : Store) (ready some_in : Bool) → WritesStep run →
    m executions ≡ pos count → m sendings ≡ pos messages → count + 1 < 2 ^ 63 → messages + 1 < 2 ^ 63 →
    let now : Phase = if ready then Ready else Wait in
    HasPhase m now →
    let deed = deed_of now (every (has_new_data m) ins) some_in (every (has_new_answer m) acks) (c_truth_of (m more)) in
    DoesLosing ps run m (store_left (losing ins acks ps run) m) count messages deed (phase_after send execute now deed)
