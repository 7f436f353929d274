-- An activation over links that lose messages leaves its node's store where the next state has the node.
use Rattle.std.proofs.Math.Nat.{zero-add, add-zero}
use Rattle.std.proofs.Common.{◌≡◌, ℕ, zero, suc, ◌+◌, ◌<◌, ◌≤◌, ◌^◌, Bool, true, false, List, [], ◌∷◌, length, map, Some, refl, sym, ap, ◌∙◌, subst, arith, pos, add-one}
use Rattle.std.specs.Prelude.{nat_lt, nat_le, if◌then◌else◌}
use Rattle.std.specs.List.{slice_get, AllByRecursion}
use Rattle.std.proofs.lemmas.Bool.Decides.{nat_tests}
use Rattle.lt_base.specs.declared.value.Value.{Value}
use Rattle.lt_base.specs.Program.{Function}
use Rattle.lt_base.specs.Meaning.{calls, clock_of, environments}
use Rattle.lt_base.specs.Typing.{input_types, AllFit}
use Rattle.lt_arch.specs.declared.event.Deed.{Deed}
use Rattle.lt_arch.specs.declared.event.Deed.TheVariants.{Nothing, Execute, Send}
use Rattle.lt_arch.specs.declared.event.Event.TheVariants.{Act, Del, End}
use Rattle.lt_arch.specs.declared.shape.Shape.{Shape}
use Rattle.lt_arch.specs.declared.timing.Timing.{Timing}
use Rattle.lt_arch.specs.declared.timing.Protocol.TheVariants.{BackPressure}
use Rattle.lt_arch.specs.State.{NodeState, Phase, Wait, Ready, First, Sending, Executing, unsent}
use Rattle.lt_arch.specs.Readers.{node_count, send_of, execute_of}
use Rattle.lt_arch.specs.Deeds.{deed_at, deed_of, phase_after, all_in, any_in, all_ack}
use Rattle.lt_arch.specs.Step.{is_execute, is_send, woken}
use Rattle.lt_arch.proofs.Changes.{one_if}
use Rattle.lt_lossy.specs.declared.event.LossyEvent.{LossyEvent}
use Rattle.lt_lossy.specs.declared.event.LossyEvent.TheVariants.{Plain, Lose}
use Rattle.lt_lossy.specs.State.{LossyState, lossy_start, plain_of, sent_count}
use Rattle.lt_lossy.specs.Step.{lossy_after}
use Rattle.lt_lossy.specs.Schedule.{lossy_after_all, lossy_reached, HasNoLossyOffence, IsLossyOffenceFree}
use Rattle.lt_lossy.proofs.Balance.{IsBalanced, kept, kept_all, balanced-start, woke-n, sent-woken, law-own_number}
use Rattle.lt_lossy.proofs.Changes.{node-act, node-act_here, node-act_other, newest-act, node-del, node-lose, node-end}
use Rattle.lt_norm.specs.Flat.{Originated}
use Rattle.lt_place.specs.declared.layout.Feed.{Feed}
use Rattle.lt_place.specs.declared.layout.Feed.TheVariants.{Input, Cross}
use Rattle.lt_place.specs.declared.layout.Layout.{Layout}
use Rattle.lt_place.specs.Layout.{PartGives, part_of, crossing_of}
use Rattle.lt_net_node.specs.Channels.{FitsLayout}
use Rattle.lt_net_node.specs.Layout.{IsLaidOut, crossing_place}
use Rattle.lt_net_node.specs.Local.{fed, upto, newest, local_value}
use Rattle.lt_net_node.specs.Payloads.{row_at}
use Rattle.lt_net_bench.proofs.Firsts.{map-upto}
use Rattle.lt_step.specs.Run.{slots_after}
use Rattle.lt_c.specs.Tree.{slot, did, more, posted, Statement, perform}
use Rattle.lt_c.specs.Meaning.{Store, c_truth_of, stored, store_left}
use Rattle.lt_c.specs.Literals.{c_number}
use Rattle.lt_c.proofs.Stores.{truth_back}
use Rattle.lt_c_step.specs.Laws.{Matches}
use Rattle.lt_c_step.specs.Part.{source_variable, part_step, Offers, ExecutesPart}
use Rattle.lt_c_step.proofs.Executing.{parts_execute, parts_write_slots}
use Rattle.lt_c_control.specs.declared.posts.Post.{Post}
use Rattle.lt_c_control.specs.Control.{every}
use Rattle.lt_c_control.specs.Lossy.{has_new_data, has_new_answer, DoesLosing}
use Rattle.lt_c_control.specs.Inboxes.{payload_value}
use Rattle.lt_c_net.specs.Stands.{sender, offered}
use Rattle.lt_c_net.specs.Moves.{feed_source, feed_sources, given_by, own_row}
use Rattle.lt_c_net.specs.Emitted.{NodeCode}
use Rattle.lt_c_net.proofs.Showing.{slot_kept}
use Rattle.lt_c_lossy.specs.Crossed.{crossing_value, crossing_channel, whole_row}
use Rattle.lt_c_lossy.specs.Losing.{IsLosingNode}
use Rattle.lt_c_lossy.specs.LosingStands.{LosingAt}
use Rattle.lt_c_lossy.specs.LosingRuns.{LosingDeployment, acted_losing}
use Rattle.lt_c_lossy.specs.LosingWholeRuns.{IsDeployedLosing}
use Rattle.lt_c_lossy.specs.LosingLaws.{state_after, next_deed, LosingActs}
use Rattle.lt_c_lossy.proofs.Whole.{G, laid, arrived_is, sent_value, all_fit}
use Rattle.lt_c_lossy.proofs.Crossings.{fits_of}
use Rattle.lt_c_lossy.proofs.Standing.{phase_kept, stands_still}
use Rattle.lt_c_lossy.proofs.Fresh.{data_all, acks_all, less_most, losing_does, deed_has_more, payload_stays}

-- ---- no node executes more instants than there are rows

grown_within : (deed : Deed) (count rows : ℕ) → count ≤ rows → (deed ≡ Execute → count + 1 ≤ rows) → (if is_execute deed then count + 1 else count) ≤ rows
grown_within Nothing count rows le grows = le
grown_within Execute count rows le grows = grows refl
grown_within Send count rows le grows = le

less_of : (a b : ℕ) → nat_le (suc a) b ≡ true → a < b
less_of a b h = grind (arith, nat_tests, h)

module _ (s : Shape) (t : Timing) (losses rows : ℕ) where
  -- what a node executes at its next activation has inputs
  pub has_row : (st : LossyState) → IsBalanced s losses st → (n : ℕ) → deed_at s rows (plain_of st) n ≡ Execute → (st.node n).executed < rows
  has_row st inv n is =
      less_of (st.node n).executed rows (deed_has_more (st.node n).phase (st.node n).executed (all_in s (plain_of st) n) (any_in s (plain_of st) n) (all_ack s (plain_of st) n) (nat_le (suc (st.node n).executed) rows) (inv.phases n) is)

  within_next : (st : LossyState) → IsBalanced s losses st → ((i : ℕ) → (st.node i).executed ≤ rows) → (e : LossyEvent) → (i : ℕ) → ((lossy_after s t rows st e).node i).executed ≤ rows
  within_next st inv all (Plain (Act n at)) i = node-act s t rows st n at (λ v. v.executed ≤ rows) i
      (λ h. grown_within (deed_at s rows (plain_of st) n) (st.node n).executed rows (all n) (λ is. let b = has_row st inv n is in omega (arith, b)))
      (λ ne. all i)
  within_next st inv all (Plain (Del c at)) i = subst (λ (v : NodeState). v.executed ≤ rows) (sym (node-del s t rows st c at i)) (all i)
  within_next st inv all (Plain (End at)) i = subst (λ (v : NodeState). v.executed ≤ rows) (sym (node-end s t rows st at i)) (all i)
  within_next st inv all (Lose c at) i = subst (λ (v : NodeState). v.executed ≤ rows) (sym (node-lose s t rows st c at i)) (all i)

  within_all : (st : LossyState) → IsBalanced s losses st → ((i : ℕ) → (st.node i).executed ≤ rows) → (es : List LossyEvent) → HasNoLossyOffence s t losses rows st es → (i : ℕ) → ((lossy_after_all s t rows st es).node i).executed ≤ rows
  within_all st inv all [] free i = all i
  within_all st inv all (e ∷ es) free i = within_all (lossy_after s t rows st e) (kept s t losses rows st inv e free.0) (within_next st inv all e) es free.1 i

  pub balanced_after : (es : List LossyEvent) → IsLossyOffenceFree s t losses rows es → IsBalanced s losses (lossy_reached s t rows es)
  balanced_after es free = kept_all s t losses rows lossy_start es (balanced-start s losses) free

  pub within_rows : (es : List LossyEvent) → IsLossyOffenceFree s t losses rows es → (i : ℕ) → ((lossy_reached s t rows es).node i).executed ≤ rows
  within_rows es free = within_all lossy_start (balanced-start s losses) (λ i. omega arith) es free

-- ---- what a part is fed with

-- the value of an input that comes from outside
given_value : (row : List Value) (feeds : List Feed) (x : ℕ) (d : Feed) → slice_get feeds x ≡ Some d → payload_value (map (given_by row) feeds) x ≡ given_by row d
given_value row [] x d h = absurd (cc)
given_value row (e ∷ es) zero d h = ap (given_by row) (some_same e d h)
  where
    some_same : (a b : Feed) → Some a ≡ Some b → a ≡ b
    some_same a b h = cc
given_value row (e ∷ es) (suc x) d h = given_value row es x d h

all_offered : (m : Store) (l : Layout) (value : Feed → Value) (from : ℕ) (feeds : List Feed) → ((x : ℕ) (d : Feed) → slice_get feeds x ≡ Some d → m (source_variable (feed_source l (from + x) d)) ≡ c_number (value d)) →
    Offers m (feed_sources l from feeds) (map value feeds)
all_offered m l value from [] h = tt
all_offered m l value from (d ∷ ds) h = (
  subst (λ x. m (source_variable (feed_source l x d)) ≡ c_number (value d)) (add-zero from) (h 0 d refl),
  all_offered m l value (suc from) ds (λ x e is. let next : from + suc x ≡ suc from + x = omega arith in subst (λ y. m (source_variable (feed_source l y e)) ≡ c_number (value e)) next (h (suc x) e is)),
)

one_of_all : {A : Type 0} (P : A → Type 0) (xs : List A) (i : ℕ) (x : A) → AllByRecursion P xs → slice_get xs i ≡ Some x → P x
one_of_all P [] i x h is = absurd (cc)
one_of_all P (y ∷ ys) zero x h is = subst P (some_same y x is) h.0
  where
    some_same : {A : Type 0} (a b : A) → Some a ≡ Some b → a ≡ b
    some_same a b e = cc
one_of_all P (y ∷ ys) (suc i) x h is = one_of_all P ys i x h.1 is

count_if : (b : Bool) (e : ℕ) → (if b then pos (e + 1) else pos e) ≡ pos (if b then e + 1 else e)
count_if true e = refl
count_if false e = refl

sum_if : (b : Bool) (e : ℕ) → (if b then pos (e + 1) else pos e) ≡ pos (e + one_if b)
sum_if true e = refl
sum_if false e = ap pos (sym (add-zero e))

unsent_most : (ph : Phase) → unsent ph ≤ 1
unsent_most Wait = omega arith
unsent_most Ready = omega arith
unsent_most First = omega arith
unsent_most (Sending k) = omega arith
unsent_most (Executing k) = omega arith

-- ---- node n, where these events lead

module _ (f : Originated) (losses : ℕ) (d : LosingDeployment) (is : IsDeployedLosing f losses d) (es : List LossyEvent) (free : IsLossyOffenceFree d.base.shape d.base.timing losses (length d.base.inputs) es) (n : ℕ) (nb : n < node_count d.base.shape)
    (m : Store) (at : LosingAt f.func d.base.layout d.base.shape d.base.inputs (state_after d es) n (d.base.nodes n).code m) where
  abbrev l : Layout
  l = d.base.layout

  abbrev s : Shape
  s = d.base.shape

  abbrev rows : List (List Value)
  rows = d.base.inputs

  abbrev st : LossyState
  st = state_after d es

  abbrev node : NodeCode
  node = d.base.nodes n

  abbrev e : ℕ
  e = (st.node n).executed

  abbrev F : ℕ → List Value
  F = whole_row f.func l rows n

  abbrev deed : Deed
  deed = next_deed d es n

  code : IsLosingNode l s n node (d.posts n)
  code = is.coded n nb

  fits : FitsLayout l BackPressure s
  fits = fits_of f losses d is

  placed_laid : IsLaidOut f.func l
  placed_laid = laid f l is.placed rows is.fit

  pub in_nodes : n < length l.nodes
  in_nodes = let k = fits.channels.nodes in omega (arith, k, nb)

  inv : IsBalanced s losses st
  inv = balanced_after s d.base.timing losses (length rows) es free

  pub at_most : e ≤ length rows
  at_most = within_rows s d.base.timing losses (length rows) es free n

  abbrev pub m1 : Store
  m1 = offered (nat_lt e (length rows)) (own_row l n (row_at rows e)) m

  abbrev pub m2 : Store
  m2 = stored m1 did (pos 0)

  -- inputs at hand change nothing of it
  at1 : LosingAt f.func l s rows st n node.code m1
  at1 = record {
    phase_is = phase_kept m m1 (st.node n).phase refl refl at.phase_is;
    executions_are = at.executions_are;
    sendings_are = at.sendings_are;
    numbers = at.numbers;
    answers = at.answers;
    values = at.values;
    slots = at.slots;
    kept = at.kept;
  }

  abbrev run : Statement
  run = perform (part_step node.sources node.outputs node.code)

  abbrev m' : Store
  m' = acted_losing d n e m

  abbrev next : NodeState
  next = woken s d.base.timing (length rows) (plain_of st) n 0

  few : e + 1 < 2 ^ 63
  few = let a = at_most in let b = is.counted in omega (arith, a, b)

  few_sent : sent_count (st.node n) + 1 < 2 ^ 63
  few_sent = let a = few in omega (arith, a)

  -- its controller does the architecture's deed
  pub does : DoesLosing (d.posts n) run m1 m' e (sent_count (st.node n)) deed (phase_after (send_of d.base.timing n) (execute_of d.base.timing n) (st.node n).phase deed)
  does =
      let same : deed_of (st.node n).phase (every (has_new_data m1) node.ins) (any_in s (plain_of st) n) (every (has_new_answer m1) node.acks) (c_truth_of (m1 more)) ≡ deed =
      (λ i. deed_of (st.node n).phase (data_all s st n node.ins node.acks code.emitted.made.ins_are code.emitted.made.acks_are m1 at1.executions_are at1.numbers at1.answers i) (any_in s (plain_of st) n)
      (acks_all s st n node.ins node.acks code.emitted.made.ins_are code.emitted.made.acks_are m1 at1.executions_are at1.numbers at1.answers i) ((truth_back (nat_lt e (length rows)) ∙ less_most e (length rows)) i)) in
      subst (λ x. DoesLosing (d.posts n) run m1 m' e (sent_count (st.node n)) x (phase_after (send_of d.base.timing n) (execute_of d.base.timing n) (st.node n).phase x)) same
      (losing_does node.ins node.acks (d.posts n) code.keeps.differ run (send_of d.base.timing n) (execute_of d.base.timing n) e (sent_count (st.node n)) m1 (st.node n).phase (any_in s (plain_of st) n)
      (λ q p h. parts_write_slots node.sources node.outputs node.code q p h) at1.executions_are at1.sendings_are few few_sent (inv.phases n) at1.phase_is)

  -- ---- an instant

  pub all_rows_fit : (k : ℕ) → k ≤ length rows → AllFit (input_types (part_of l n).flat.func) (map (map Some) (upto F k))
  all_rows_fit k le = all_fit f l is.placed rows is.fit n in_nodes k le

  module _ (executes : deed ≡ Execute) where
    pub row_left : e < length rows
    row_left = has_row s d.base.timing losses (length rows) st inv n executes

    -- the newest message of each channel to the node is the one that the instant needs
    came : (x : ℕ) → x < length l.cross → (crossing_of l x).to ≡ n → (st.link (crossing_channel l s x)).newest ≡ e
    came x lt to = (law-own_number s d.base.timing losses (length rows) es n (fits.back_pressure refl) free).executes executes (crossing_channel l s x) (fits.channels.there x lt) (fits.channels.to x lt ∙ to) (fits.channels.carries x lt)

    fed_at : (x : ℕ) (q : Feed) → slice_get (part_of l n).feeds x ≡ Some q → m2 (source_variable (feed_source l x q)) ≡ c_number (fed l (G f l is.placed rows is.fit) (row_at rows e) e q)
    fed_at x (Input i) there = ap c_number (given_value (row_at rows e) (part_of l n).feeds x (Input i) there)
    fed_at x (Cross c) there =
        let on = placed_laid.crosses n x c in_nodes there in
        at1.values c on.0 on.1
        ∙ ap (λ k. c_number (crossing_value f.func rows (crossing_of l c) k)) (came c on.0 on.1)
        ∙ ap c_number (sym (arrived_is f l is.placed rows is.fit c e on.0 at_most))

    pub offers : Offers m2 node.sources (F e)
    offers =
        subst (λ ss. Offers m2 ss (F e)) (sym code.emitted.made.sources_are)
        (all_offered m2 l (fed l (G f l is.placed rows is.fit) (row_at rows e) e) 0 (part_of l n).feeds
        (λ x q there. subst (λ y. m2 (source_variable (feed_source l y q)) ≡ c_number (fed l (G f l is.placed rows is.fit) (row_at rows e) e q)) (sym (zero-add x)) (fed_at x q there)))

    pub executed_part : ExecutesPart (part_of l n).flat.func node.code node.sources node.outputs (upto F e) (F e) m2
    executed_part =
        parts_execute (part_of l n).flat.func node.code code.emitted.made.code_of node.sources node.outputs code.emitted.made.differ (upto F e) (F e)
        (all_rows_fit (suc e) (let b = row_left in omega (arith, b))) m2 at1.slots offers

  slots_by : (x : Deed) → deed ≡ x → Matches (slots_after node.code (map (map Some) (upto F (if is_execute deed then e + 1 else e)))) m'
  slots_by Nothing h = λ y w g. does.slots y ∙ (λ i. if is_execute (h i) then store_left run m2 (slot y) else m1 (slot y)) ∙ at1.slots y w (ap (λ z. slots_after node.code (map (map Some) (upto F (if is_execute z then e + 1 else e))) y) (sym h) ∙ g)
  slots_by Send h = λ y w g. does.slots y ∙ (λ i. if is_execute (h i) then store_left run m2 (slot y) else m1 (slot y)) ∙ at1.slots y w (ap (λ z. slots_after node.code (map (map Some) (upto F (if is_execute z then e + 1 else e))) y) (sym h) ∙ g)
  slots_by Execute h = λ y w g.
      does.slots y ∙ (λ i. if is_execute (h i) then store_left run m2 (slot y) else m1 (slot y))
      ∙ (executed_part h).matches y w (ap (λ k. slots_after node.code (map (map Some) (upto F k)) y) (sym (add-one e)) ∙ ap (λ z. slots_after node.code (map (map Some) (upto F (if is_execute z then e + 1 else e))) y) (sym h) ∙ g)

  -- ---- a message

  -- after an instant the slot of what crosses has its value
  slot_has : (k : ℕ) → e ≡ suc k → (x v : ℕ) → x < length l.cross → (crossing_of l x).from ≡ n → PartGives (part_of l n) (crossing_of l x).var v → m1 (slot v) ≡ c_number (crossing_value f.func rows (crossing_of l x) (suc k))
  slot_has k e_is x v lt from gives =
      let g : Function = (part_of l n).flat.func in
      let low : k < length rows = let a = at_most in omega (arith, a, e_is) in
      let gives_there : PartGives (part_of l (crossing_of l x).from) (crossing_of l x).var v = subst (λ i. PartGives (part_of l i) (crossing_of l x).var v) (sym from) gives in
      let base : clock_of g.decls v ≡ [] = subst (λ i. clock_of (part_of l i).flat.func.decls v ≡ []) from (placed_laid.sent_base x v lt gives_there) in
      let value : local_value (calls [] 0) l (G f l is.placed rows is.fit) n (row_at rows) k v ≡ Some (crossing_value f.func rows (crossing_of l x) (suc k)) =
      subst (λ i. local_value (calls [] 0) l (G f l is.placed rows is.fit) i (row_at rows) k v ≡ Some (crossing_value f.func rows (crossing_of l x) (suc k))) from (sent_value f l is.placed rows is.fit x k v lt low gives_there) in
      at1.slots v (crossing_value f.func rows (crossing_of l x) (suc k))
      (ap (λ j. slots_after node.code (map (map Some) (upto F j)) v) e_is
      ∙ slot_kept g node.code code.emitted.made.code_of (F k) (upto F k) (all_rows_fit (suc k) (omega (arith, low))) v (placed_laid.given_declared n (crossing_of l x).var v in_nodes gives) base
      ∙ ap (λ rs. newest (environments (calls [] 0) g rs) v) (map-upto (map Some) F (suc k))
      ∙ value)

  sent_next : sent_count next ≡ sent_count (st.node n) + one_if (is_send deed)
  sent_next = sent-woken s d.base.timing losses (length rows) st inv n 0

  kept_still : is_send deed ≡ false → (x : ℕ) → x < length l.cross → (crossing_of l x).from ≡ n → 0 < sent_count next → m' (posted (crossing_of l x).to (crossing_place l x)) ≡ c_number (crossing_value f.func rows (crossing_of l x) (sent_count next))
  kept_still idle x lt from some =
      let same : sent_count next ≡ sent_count (st.node n) = sent_next ∙ ap (λ b. sent_count (st.node n) + one_if b) idle ∙ add-zero (sent_count (st.node n)) in
      does.posts_stay idle (crossing_of l x).to (crossing_place l x)
      ∙ at1.kept x lt from (omega (arith, some, same))
      ∙ ap (λ k. c_number (crossing_value f.func rows (crossing_of l x) k)) (sym same)

  kept_by : (y : Deed) → deed ≡ y → (x : ℕ) → x < length l.cross → (crossing_of l x).from ≡ n → 0 < sent_count next → m' (posted (crossing_of l x).to (crossing_place l x)) ≡ c_number (crossing_value f.func rows (crossing_of l x) (sent_count next))
  kept_by Nothing h x lt from some = kept_still (ap is_send h) x lt from some
  kept_by Execute h x lt from some = kept_still (ap is_send h) x lt from some
  kept_by Send h x lt from some =
      let k : ℕ = sent_count (st.node n) in
      let low = ((woke-n s d.base.timing losses (length rows) st inv n 0).needs_acks h).1 in
      let high = unsent_most (st.node n).phase in
      let e_is : e ≡ suc k = omega (arith, low, high) in
      let one_more : sent_count next ≡ suc k = sent_next ∙ ap (λ x. k + one_if (is_send x)) h ∙ add-one k in
      let given = subst (λ i. (v : ℕ) × PartGives (part_of l i) (crossing_of l x).var v) from (placed_laid.gives x lt) in
      let there = code.keeps.all_kept x given.0 lt from given.1 in
      one_of_all (λ (p : Post). m' (posted p.to_node p.at_place) ≡ m1 (slot p.from_slot)) (d.posts n) there.0 (record { to_node = (crossing_of l x).to; at_place = crossing_place l x; from_slot = given.0 }) (does.posts h) there.1
      ∙ slot_has k e_is x given.0 lt from given.1
      ∙ ap (λ k. c_number (crossing_value f.func rows (crossing_of l x) k)) (sym one_more)

  -- ---- the whole store

  abbrev after_own : LossyState
  after_own = record { node = λ i. next; link = st.link; latest = st.latest; horizon = st.horizon }

  own_stands : LosingAt f.func l s rows after_own n node.code m'
  own_stands = record {
    phase_is = does.next_is;
    executions_are = does.executions_are ∙ count_if (is_execute deed) e;
    sendings_are = does.sendings_are ∙ sum_if (is_send deed) (sent_count (st.node n)) ∙ ap pos (sym sent_next);
    numbers = λ c lt to. does.newest_stay (sender s.channels c) ∙ at1.numbers c lt to;
    answers = λ c lt to. does.answers_stay (sender s.channels c) ∙ at1.answers c lt to;
    values = λ x lt to. payload_stays (d.posts n) run (λ q p h. parts_write_slots node.sources node.outputs node.code q p h) m1 (crossing_of l x).from (crossing_place l x) node.ins node.acks ∙ at1.values x lt to;
    slots = slots_by deed refl;
    kept = kept_by deed refl;
  }

  pub stands_next : (time : ℕ) → LosingAt f.func l s rows (lossy_after s d.base.timing (length rows) st (Plain (Act n time))) n node.code m'
  stands_next time =
      stands_still f.func l s rows (record { node = λ i. woken s d.base.timing (length rows) (plain_of st) n time; link = st.link; latest = st.latest; horizon = st.horizon }) (lossy_after s d.base.timing (length rows) st (Plain (Act n time))) n node.code m' own_timed
      (node-act_here s d.base.timing (length rows) st n time n refl) (λ c. newest-act s d.base.timing (length rows) st n time c)
    where
      own_timed : LosingAt f.func l s rows (record { node = λ i. woken s d.base.timing (length rows) (plain_of st) n time; link = st.link; latest = st.latest; horizon = st.horizon }) n node.code m'
      own_timed = record {
        phase_is = own_stands.phase_is;
        executions_are = own_stands.executions_are;
        sendings_are = own_stands.sendings_are;
        numbers = own_stands.numbers;
        answers = own_stands.answers;
        values = own_stands.values;
        slots = own_stands.slots;
        kept = own_stands.kept;
      }

pub losing_acts : LosingActs
losing_acts = record {
  own = λ f losses d is es free n at nb m stands. (stands_next f losses d is es free n nb m stands at, (does f losses d is es free n nb m stands).deed_is);
  others = λ f d st n i at ne m stands.
      stands_still f.func d.base.layout d.base.shape d.base.inputs st (lossy_after d.base.shape d.base.timing (length d.base.inputs) st (Plain (Act n at))) i (d.base.nodes i).code m stands
      (node-act_other d.base.shape d.base.timing (length d.base.inputs) st n at i ne) (λ c. newest-act d.base.shape d.base.timing (length d.base.inputs) st n at c);
}
