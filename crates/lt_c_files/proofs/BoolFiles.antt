-- What a node's own functions leave in variables that its file declares as bool.
use Rattle.std.proofs.Common.{◌≡◌, ◌⊎◌, inl, inr, ℕ, zero, suc, ◌+◌, ◌<◌, Bool, true, false, List, [], ◌∷◌, length, map, filter, take, Option, Some, refl, sym, ap, ◌∙◌, subst, arith, cond, zero-add, add-zero}
use Rattle.std.specs.Prelude.{◌==◌, ◌&&◌, nat_eq, slice_index_or, if◌then◌else◌}
use Rattle.std.specs.List.{All, AllByRecursion, count_by, list_any, slice_get}
use Rattle.std.proofs.lemmas.Bool.Decides.{Decides-eqb, nat_tests}
use Rattle.std.proofs.lemmas.List.Elements.{All-head, All-tail}
use Rattle.lt_base.specs.declared.value.Ty.{Ty}
use Rattle.lt_base.specs.declared.value.Ty.TheVariants.{Int as IntTy, Bool as BoolTy}
use Rattle.lt_base.specs.declared.value.Value.{Value}
use Rattle.lt_base.specs.declared.value.Value.TheVariants.{Int, Bool as Truth}
use Rattle.lt_base.specs.declared.function.Decl.{Decl}
use Rattle.lt_base.specs.Value.{ty_of}
use Rattle.lt_base.specs.Meaning.{clock_of}
use Rattle.lt_base.specs.Typing.{ty_at, input_types, RowFits, AllFit}
use Rattle.lt_arch.specs.declared.pace.Pace.{Pace}
use Rattle.lt_arch.specs.declared.shape.Shape.{Shape}
use Rattle.lt_arch.specs.declared.timing.Timing.{Timing}
use Rattle.lt_arch.specs.Readers.{no_chan, chan_of, send_of, execute_of}
use Rattle.lt_norm.specs.Flat.{Originated}
use Rattle.lt_place_reads.specs.declared.crossing.Crossing.{Crossing}
use Rattle.lt_place.specs.declared.layout.Feed.{Feed}
use Rattle.lt_place.specs.declared.layout.Feed.TheVariants.{Input, Cross}
use Rattle.lt_place.specs.declared.layout.Part.{Part}
use Rattle.lt_place.specs.declared.layout.Layout.{Layout}
use Rattle.lt_place.specs.Layout.{IsPlaced, PartGives, part_of, crossing_of, no_crossing}
use Rattle.lt_net_node.specs.Channels.{HasChannels}
use Rattle.lt_net_node.specs.Layout.{IsLaidOut, joins, crossing_place}
use Rattle.lt_net_node.specs.Payloads.{channel_between, row_at}
use Rattle.lt_net_bench.proofs.CrossingPlaces.{place_entry}
use Rattle.lt_net_bench.proofs.Entries.{same_number, and_parts}
use Rattle.lt_net_bench.proofs.FedRows.{types_at}
use Rattle.lt_net_bench.proofs.LaidOut.{laid_out, part, at_feed}
use Rattle.lt_c.specs.Tree.{slot, more, input, message_bit, message, answer_bit, sent}
use Rattle.lt_c.specs.Meaning.{Store, of_truth, stored, store_left}
use Rattle.lt_c.specs.Literals.{c_number}
use Rattle.lt_c.specs.Truths.{Types, c_type_of, IsTruthNumber, HoldsTruths, AssignsTruths}
use Rattle.lt_c.proofs.Stores.{same_self}
use Rattle.lt_c.proofs.Truthful.{truths_stay}
use Rattle.lt_c_step.specs.declared.sources.Source.{Source}
use Rattle.lt_c_step.specs.Part.{source_variable, part_step}
use Rattle.lt_c_step.specs.Typed.{SlotsTyped, StepAssignsTruths}
use Rattle.lt_c_step.proofs.BoolSlots.{steps_assign_truths}
use Rattle.lt_c_control.specs.Inboxes.{payload_value, delivering, acknowledging}
use Rattle.lt_c_net.specs.Stands.{Packet, offered, handed}
use Rattle.lt_c_net.specs.Moves.{feed_source, feed_sources, given_by, own_row}
use Rattle.lt_c_net.specs.Laws.{firsts_from}
use Rattle.lt_c_net.specs.Emitted.{needs_countdown, init_tree, activation_tree, values_tree, message_tree}
use Rattle.lt_c_heads.specs.declared.file.Carried.{Carried}
use Rattle.lt_c_heads.specs.declared.file.NodeFile.{NodeFile}
use Rattle.lt_c_bodies.specs.Acts.{peer_numbers}
use Rattle.lt_c_node.specs.NodeOf.{output_for, is_output, carried, values_between, brings_data, IsFileOfNode}
use Rattle.lt_c_files.specs.FileNodes.{slots_to, code_of_file}
use Rattle.lt_c_files.specs.DeclaredTypes.{type_or, delay_type, slot_type_of, value_type, values_of_peer, declared_types}
use Rattle.lt_c_files.proofs.Picked.{in_picked}
use Rattle.lt_c_files.proofs.Coded.{slots_found, place_is, crossing_there, joins_ends, slot_is, receiver, sources_are}
use Rattle.lt_c_files.proofs.TypedFiles.{no_int, or_int, or_other, or_type, ty_there, slots_typed, Showable, Fillable, showing_truths, feeding_truths, activation_truths, starting_truths, delivering_truths, literal_typed, values_there, values_typed}

-- ---- numbers that are 0 or 1

truth_number : (b : Bool) → IsTruthNumber (of_truth b)
truth_number true = refl
truth_number false = refl

value_number : (v : Value) → ty_of v ≡ BoolTy → IsTruthNumber (c_number v)
value_number (Int n) h = absurd (no_int h)
value_number (Truth b) h = truth_number b

-- ---- rows of inputs

-- a value of a row that fits, or the one past its end
row_bool : (tys : List Ty) (vs : List Value) → RowFits tys (map Some vs) → (e : ℕ) → ((t : Ty) → slice_get tys e ≡ Some t → t ≡ BoolTy) → IsTruthNumber (c_number (payload_value vs e))
row_bool [] [] h e is = refl
row_bool [] (v ∷ vs) h e is = absurd h
row_bool (t ∷ tys) [] h e is = absurd h
row_bool (t ∷ tys) (v ∷ vs) h zero is = value_number v (h.0 ∙ is t refl)
row_bool (t ∷ tys) (v ∷ vs) h (suc e) is = row_bool tys vs h.1 e is

fits_or_none : (tys : List Ty) (rows : List (List Value)) → AllFit tys (map (map Some) rows) → (k : ℕ) → (RowFits tys (map Some (row_at rows k))) ⊎ (row_at rows k ≡ [])
fits_or_none tys [] h k = inr refl
fits_or_none tys (row ∷ rows) h zero = inl h.0
fits_or_none tys (row ∷ rows) h (suc k) = fits_or_none tys rows h.1 k

given_bool : (row : List Value) (ds : List Feed) (i : ℕ) → ((d : Feed) → slice_get ds i ≡ Some d → IsTruthNumber (c_number (given_by row d))) → IsTruthNumber (c_number (payload_value (map (given_by row) ds) i))
given_bool row [] i h = refl
given_bool row (d ∷ ds) zero h = h d refl
given_bool row (d ∷ ds) (suc i) h = given_bool row ds i h

-- ---- lists

to_recursion : {A : Type 0} (P Q : A → Type 0) → ((x : A) → P x → Q x) → (xs : List A) → All P xs → AllByRecursion Q xs
to_recursion P Q f [] h = tt
to_recursion P Q f (x ∷ xs) h = (f x (All-head P x xs h), to_recursion P Q f xs (All-tail P x xs h))

clock_bool : (P : ℕ × Bool → Type 0) (Q : ℕ × Bool → Type 0) → ((p : ℕ × Bool) → P p → Q p) → (ds : List Decl) → All (λ (d : Decl). All P d.clock) ds → (x : ℕ) → AllByRecursion Q (clock_of ds x)
clock_bool P Q f [] h x = tt
clock_bool P Q f (d ∷ ds) h zero = to_recursion P Q f d.clock (All-head (λ (d : Decl). All P d.clock) d ds h)
clock_bool P Q f (d ∷ ds) h (suc x) = clock_bool P Q f ds (All-tail (λ (d : Decl). All P d.clock) d ds h) x

source_at : (l : Layout) (x : ℕ) (ds : List Feed) (i : ℕ) (s : Source) → slice_get (feed_sources l x ds) i ≡ Some s → (d : Feed) × (slice_get ds i ≡ Some d) × (feed_source l (x + i) d ≡ s)
source_at l x [] i s h = absurd (cc)
source_at l x (d ∷ ds) zero s h = (d, refl, ap (λ k. feed_source l k d) (add-zero x) ∙ same_source (feed_source l x d) s h)
  where
    same_source : (a b : Source) → Some a ≡ Some b → a ≡ b
    same_source a b e = cc
source_at l x (d ∷ ds) (suc i) s h = let r = source_at l (suc x) ds i s h in (r.0, r.1, ap (λ k. feed_source l k r.0) (moved x i) ∙ r.2)
  where
    moved : (x i : ℕ) → x + suc i ≡ suc x + i
    moved x i = omega arith

-- a value of the type bool that is sent, its crossing, and its slot
abbrev SentAt : Layout → (Crossing → Bool) → List Crossing → (i : ℕ) → Type 0
SentAt l p xs i =
    (c : ℕ) × (c < length xs) × (p (slice_index_or xs c no_crossing) ≡ true) × (slice_get (map (λ (v : Carried). v.from_slot) (map (carried l) (filter p xs))) i ≡ Some (carried l (slice_index_or xs c no_crossing)).from_slot)
    × (ty_of (slice_index_or xs c no_crossing).first ≡ BoolTy)

sent_at : (l : Layout) (p : Crossing → Bool) (xs : List Crossing) (i : ℕ) → value_type (map (carried l) (filter p xs)) i ≡ BoolTy → SentAt l p xs i
sent_at l p [] i h = absurd (no_int h)
sent_at l p (x ∷ xs) i h = by_test (p x) refl i (λ j g. sent_at l p xs j g) h
  where
    by_test : (b : Bool) → p x ≡ b → (i : ℕ) → ((j : ℕ) → value_type (map (carried l) (filter p xs)) j ≡ BoolTy → SentAt l p xs j) → value_type (map (carried l) (cond b (x ∷ filter p xs) (filter p xs))) i ≡ BoolTy →
        (c : ℕ) × (c < suc (length xs)) × (p (slice_index_or (x ∷ xs) c no_crossing) ≡ true)
        × (slice_get (map (λ (v : Carried). v.from_slot) (map (carried l) (cond b (x ∷ filter p xs) (filter p xs)))) i ≡ Some (carried l (slice_index_or (x ∷ xs) c no_crossing)).from_slot)
        × (ty_of (slice_index_or (x ∷ xs) c no_crossing).first ≡ BoolTy)
    by_test true e zero rest g = (0, omega arith, e, refl, g)
    by_test true e (suc i) rest g = let r = rest i g in (suc r.0, (let l = r.1 in omega (arith, l)), r.2, r.3, r.4)
    by_test false e i rest g = let r = rest i g in (suc r.0, (let l = r.1 in omega (arith, l)), r.2, r.3, r.4)

-- ---- messages that are made

differ_below : (i k : ℕ) → i < k → nat_eq i k ≡ false
differ_below i k lt = grind (arith, nat_tests, lt)

earlier_stay : (xs : List ℕ) (k i : ℕ) (m : Store) → i < k → store_left (values_tree k xs) m (message i) ≡ m (message i)
earlier_stay [] k i m lt = refl
earlier_stay (x ∷ xs) k i m lt =
    earlier_stay xs (suc k) i (stored m (message k) (m (slot x))) (omega (arith, lt))
    ∙ ap (λ (b : Bool). if b then m (slot x) else m (message i)) (differ_below i k lt)

-- the value at a place is 0 or 1 where its slot is
value_sent : (xs : List ℕ) (k i x : ℕ) (m : Store) → slice_get xs i ≡ Some x → IsTruthNumber (m (slot x)) → IsTruthNumber (store_left (values_tree k xs) m (message (k + i)))
value_sent [] k i x m is h = absurd (cc)
value_sent (y ∷ ys) k zero x m is h =
    subst IsTruthNumber
    (sym
    (ap (λ j. store_left (values_tree k (y ∷ ys)) m (message j)) (add-zero k)
    ∙ earlier_stay ys (suc k) k (stored m (message k) (m (slot y))) (omega arith)
    ∙ ap (λ (b : Bool). if b then m (slot y) else m (message k)) (same_self k)
    ∙ ap (λ j. m (slot j)) (some_same y x is)))
    h
  where
    some_same : (a b : ℕ) → Some a ≡ Some b → a ≡ b
    some_same a b e = cc
value_sent (y ∷ ys) k (suc i) x m is h =
    let next : k + suc i ≡ suc k + i = omega arith in
    subst IsTruthNumber (ap (λ j. store_left (values_tree k (y ∷ ys)) m (message j)) (sym next)) (value_sent ys (suc k) i x (stored m (message k) (m (slot y))) is h)

bit_stays : (xs : List ℕ) (k : ℕ) (m : Store) → store_left (values_tree k xs) m message_bit ≡ m message_bit
bit_stays [] k m = refl
bit_stays (x ∷ xs) k m = bit_stays xs (suc k) (stored m (message k) (m (slot x)))

-- ---- one node

module _ (f : Originated) (l : Layout) (placed : IsPlaced f l) (s : Shape) (channels : HasChannels l s) (t : Timing) (pace : Pace) (n : ℕ) (lt : n < length l.nodes) (file : NodeFile) (is : IsFileOfNode l s t pace n file) where
  abbrev ts : Types
  ts = declared_types file

  abbrev q : Part
  q = part_of l n

  laid : IsLaidOut f.func l
  laid = laid_out f l placed

  slots : SlotsTyped q.flat.func file.part.code ts
  slots = slots_typed q.flat.func file.part.code is.part.code ts (λ x. ap (λ ds. slot_type_of ds file.part.code.keeps x) is.part.decls)

  step : StepAssignsTruths file.part.code ts
  step = steps_assign_truths q.flat.func file.part.code is.part.code ts slots

  -- the type of a variable in the file
  declared : (x : ℕ) (ty : Ty) → ty_at q.flat.func.decls x ≡ Some ty → ty_at file.part.decls x ≡ Some ty
  declared x ty h = ap (λ ds. ty_at ds x) is.part.decls ∙ h

  sender_there : (c : ℕ) → c < length l.cross → (crossing_of l c).to ≡ n → list_any (nat_eq (crossing_of l c).from) (peer_numbers file.links.senders) ≡ true
  unfolding chan_of
  sender_there c c_lt to =
      let ch : ℕ = channel_between s (crossing_of l c).from (crossing_of l c).to in
      let brings : brings_data n (slice_index_or s.channels ch no_chan) ≡ true = (λ k. channels.carries c c_lt k && ap (λ z. z == n) (channels.to c c_lt ∙ to) k) ∙ same_number n in
      subst (λ js. list_any (nat_eq (crossing_of l c).from) js ≡ true) (sym is.links.senders.numbers)
      (subst (λ j. list_any (nat_eq j) (map (λ ch. ch.from) (filter (brings_data n) s.channels)) ≡ true) (channels.from c c_lt)
      (in_picked no_chan (λ ch. ch.from) (brings_data n) s.channels ch (channels.there c c_lt) brings))

  crossing_typed : (c : ℕ) → c < length l.cross → (crossing_of l c).to ≡ n → value_type (values_of_peer (crossing_of l c).from file.links.senders) (crossing_place l c) ≡ ty_of (crossing_of l c).first
  crossing_typed c c_lt to =
      let cr : Crossing = crossing_of l c in
      let entry = place_entry (joins cr.from n) (λ (z : Crossing). z.first) l.cross c cr (crossing_there l c c_lt) (joins_ends cr.from n cr refl to) in
      ap (λ vs. value_type vs (crossing_place l c)) (values_there l n cr.from file.links.senders (sender_there c c_lt to) is.links.senders.values)
      ∙ ap (value_type (values_between l cr.from n)) (place_is l c cr.from n refl to)
      ∙ literal_typed l (filter (joins cr.from n) l.cross) (count_by (joins cr.from n) (take c l.cross)) cr.first entry

  feed_bool : (i : ℕ) (d : Feed) → slice_get q.feeds i ≡ Some d → ts.slot_type i ≡ BoolTy → c_type_of ts (source_variable (feed_source l i d)) ≡ BoolTy
  feed_bool i (Input e) there b =
      let at = at_feed f l placed n i (Input e) lt there in
      let ty = ty_there q.flat.func.decls i at.0 in
      or_other (ty_at file.part.decls i) ty.0 (delay_type file.part.code.keeps i) IntTy (declared i ty.0 ty.1) b
  feed_bool i (Cross c) there b =
      let at = laid.crosses n i c lt there in
      crossing_typed c at.0 at.1 ∙ or_type (ty_at file.part.decls i) (ty_of (crossing_of l c).first) (delay_type file.part.code.keeps i) (declared i (ty_of (crossing_of l c).first) (laid.fed_type n i c lt there)) b

  source_bool : (i : ℕ) (r : Source) → slice_get file.part.sources i ≡ Some r → ts.slot_type (0 + i) ≡ BoolTy → c_type_of ts (source_variable r) ≡ BoolTy
  source_bool i r there b =
      let at = source_at l 0 q.feeds i r (ap (λ xs. slice_get xs i) (sym (is.part.sources ∙ sources_are l 0 q.feeds)) ∙ there) in
      ap (λ z. c_type_of ts (source_variable z)) (sym at.2 ∙ ap (λ k. feed_source l k at.0) (zero-add i)) ∙ feed_bool i at.0 at.1 (ap ts.slot_type (sym (zero-add i)) ∙ b)

  one_showable : (x : ℕ) → Showable ts (output_for q x)
  one_showable x = (
    clock_bool (λ p. ty_at q.flat.func.decls p.0 ≡ Some BoolTy) (λ p. ts.slot_type p.0 ≡ BoolTy)
        (λ p h. ap (λ (o : Option Ty). type_or o (delay_type file.part.code.keeps p.0)) (declared p.0 BoolTy h)) q.flat.func.decls (laid.parts_typed n lt).clocks x,
    or_int (ty_at file.part.decls x) (delay_type file.part.code.keeps x),
  )

  all_showable : (xs : List ℕ) → AllByRecursion (Showable ts) (map (output_for q) xs)
  all_showable [] = tt
  all_showable (x ∷ xs) = (one_showable x, all_showable xs)

  part_truths : AssignsTruths ts (part_step file.part.sources file.part.outputs file.part.code)
  part_truths = (
    ((feeding_truths ts 0 file.part.sources source_bool, step.lets), showing_truths ts file.part.outputs (subst (AllByRecursion (Showable ts)) (sym is.part.outputs) (all_showable (filter (is_output l q) q.flat.func.outs)))),
    step.keeps,
  )

  pub acts_truths : AssignsTruths ts (activation_tree t n (code_of_file file))
  acts_truths = activation_truths ts t.protocol (send_of t n) (execute_of t n) (code_of_file file) part_truths

  all_fillable : (js : List ℕ) → AllByRecursion (Fillable ts) (firsts_from l.cross n js)
  all_fillable [] = tt
  all_fillable (j ∷ js) = (λ i v e b. sym (literal_typed l (filter (joins j n) l.cross) i v e) ∙ values_typed l n j i file.links.senders is.links.senders.values b, all_fillable js)

  pub init_truths : AssignsTruths ts (init_tree l t n (code_of_file file))
  init_truths = (step.firsts, starting_truths ts (firsts_from l.cross n (peer_numbers file.links.senders)) file.links.answerers (needs_countdown t.protocol) (all_fillable (peer_numbers file.links.senders)))

  -- ---- what comes

  -- while a message of node j comes
  abbrev types_from : ℕ → Types
  types_from j = record ts { message_type = ts.payload_type j }

  behind_message : (j : ℕ) (m : Store) → HoldsTruths (types_from j) m → HoldsTruths ts m
  behind_message j m h (message k) b = absurd (no_int b)
  behind_message j m h p b = h p b

  with_message : (j : ℕ) (k : Packet) (m : Store) → IsTruthNumber k.mark → ((i : ℕ) → ts.payload_type j i ≡ BoolTy → IsTruthNumber (k.values i)) → HoldsTruths ts m → HoldsTruths (types_from j) (handed k m)
  with_message j k m mark values h message_bit b = mark
  with_message j k m mark values h (message i) b = values i b
  with_message j k m mark values h answer_bit b = mark
  with_message j k m mark values h p b = h p b

  pub delivered : (j count : ℕ) (k : Packet) (m : Store) → IsTruthNumber k.mark → ((i : ℕ) → value_type (values_between l j n) i ≡ BoolTy → IsTruthNumber (k.values i)) → HoldsTruths ts m → HoldsTruths ts (store_left (delivering j count) (handed k m))
  delivered j count k m mark values h =
      behind_message j (store_left (delivering j count) (handed k m))
      (truths_stay (types_from j) (delivering j count) (delivering_truths (types_from j) j count (λ k b. b)) (handed k m)
      (with_message j k m mark (λ i b. values i (values_typed l n j i file.links.senders is.links.senders.values b)) h))

  with_answer : (k : Packet) (m : Store) → IsTruthNumber k.mark → HoldsTruths ts m → HoldsTruths ts (handed k m)
  with_answer k m mark h message_bit b = mark
  with_answer k m mark h (message i) b = absurd (no_int b)
  with_answer k m mark h answer_bit b = mark
  with_answer k m mark h p b = h p b

  pub acknowledged : (j : ℕ) (k : Packet) (m : Store) → IsTruthNumber k.mark → HoldsTruths ts m → HoldsTruths ts (store_left (acknowledging j) (handed k m))
  acknowledged j k m mark h = truths_stay ts (acknowledging j) (λ _. refl) (handed k m) (with_answer k m mark h)

  -- ---- what is offered

  with_row : (at_hand : Bool) (row : List Value) (m : Store) → ((i : ℕ) → ts.input_type i ≡ BoolTy → IsTruthNumber (c_number (payload_value row i))) → HoldsTruths ts m → HoldsTruths ts (offered at_hand row m)
  with_row at_hand row m values h more b = truth_number at_hand
  with_row at_hand row m values h (input i) b = values i b
  with_row at_hand row m values h p b = h p b

  own_bool : (inputs : List (List Value)) → AllFit (input_types f.func) (map (map Some) inputs) → (k i : ℕ) → ts.input_type i ≡ BoolTy → IsTruthNumber (c_number (payload_value (own_row l n (row_at inputs k)) i))
  own_bool inputs fit k i b = given_bool (row_at inputs k) q.feeds i by_feed
    where
      by_input : (e : ℕ) → slice_get q.feeds i ≡ Some (Input e) → (RowFits (input_types f.func) (map Some (row_at inputs k))) ⊎ (row_at inputs k ≡ []) → IsTruthNumber (c_number (payload_value (row_at inputs k) e))
      by_input e there (inr none) = subst (λ row. IsTruthNumber (c_number (payload_value row e))) (sym none) refl
      by_input e there (inl fits) =
          let at = at_feed f l placed n i (Input e) lt there in
          let ty = ty_there q.flat.func.decls i at.0 in
          let is_bool : ty.0 ≡ BoolTy = or_type (ty_at file.part.decls i) ty.0 IntTy (declared i ty.0 ty.1) b in
          row_bool (input_types f.func) (row_at inputs k) fits e (λ u h.
          let whole : ty_at f.func.decls e ≡ Some u = types_at f.func.decls f.func.n_in e u h in
          let own : ty_at q.flat.func.decls i ≡ ty_at f.func.decls e = (part f l placed n lt).types i at.0 ∙ ap (ty_at f.func.decls) at.1.0 in
          let same : Some u ≡ Some BoolTy = sym whole ∙ sym own ∙ ty.1 ∙ ap Some is_bool in
          same_type u BoolTy same)
        where
          same_type : (a b : Ty) → Some a ≡ Some b → a ≡ b
          same_type a b e = cc

      by_feed : (d : Feed) → slice_get q.feeds i ≡ Some d → IsTruthNumber (c_number (given_by (row_at inputs k) d))
      by_feed (Input e) there = by_input e there (fits_or_none (input_types f.func) inputs fit k)
      by_feed (Cross c) there = refl

  pub offered_truths : (inputs : List (List Value)) → AllFit (input_types f.func) (map (map Some) inputs) → (at_hand : Bool) (k : ℕ) (m : Store) → HoldsTruths ts m → HoldsTruths ts (offered at_hand (own_row l n (row_at inputs k)) m)
  offered_truths inputs fit at_hand k m h = with_row at_hand (own_row l n (row_at inputs k)) m (own_bool inputs fit k) h

  -- ---- what is sent

  pub sent_bool : (j i : ℕ) (m : Store) → HoldsTruths ts m → value_type (values_between l n j) i ≡ BoolTy → IsTruthNumber (store_left (message_tree (slots_to j file.links.receivers)) m (message i))
  unfolding crossing_of
  sent_bool j i m h b =
      let at = sent_at l (joins n j) l.cross i b in
      let cr : Crossing = slice_index_or l.cross at.0 no_crossing in
      let ends = and_parts (cr.from == n) (cr.to == j) at.2 in
      let from : cr.from ≡ n = (Decides-eqb cr.from n).0 ends.0 in
      let to : cr.to ≡ j = (Decides-eqb cr.to j).0 ends.1 in
      let there : list_any (nat_eq j) (peer_numbers file.links.receivers) ≡ true =
      subst (λ k. list_any (nat_eq k) (peer_numbers file.links.receivers) ≡ true) to (receiver f l placed n lt s channels file.links.receivers is.links.receivers.numbers is.links.receivers.values at.0 at.1 from) in
      let gives = laid.gives at.0 at.1 in
      let gives_here : PartGives q cr.var gives.0 = subst (λ k. PartGives (part_of l k) cr.var gives.0) from gives.1 in
      let slot_at : (carried l cr).from_slot ≡ gives.0 = ap (λ k. (carried l (record cr { from = k })).from_slot) from ∙ slot_is f l placed n lt cr.var gives.0 gives_here in
      let typed : ty_at q.flat.func.decls gives.0 ≡ Some (ty_of cr.first) = ap (λ k. ty_at (part_of l k).flat.func.decls gives.0) (sym from) ∙ laid.sent_type at.0 gives.0 at.1 gives.1 in
      let is_bool : ts.slot_type gives.0 ≡ BoolTy = ap (λ (o : Option Ty). type_or o (delay_type file.part.code.keeps gives.0)) (declared gives.0 (ty_of cr.first) typed) ∙ at.4 in
      let entry : slice_get (slots_to j file.links.receivers) i ≡ Some gives.0 = ap (λ xs. slice_get xs i) (slots_found l n j file.links.receivers there is.links.receivers.values) ∙ at.3 ∙ ap Some slot_at in
      subst (λ k. IsTruthNumber (store_left (message_tree (slots_to j file.links.receivers)) m (message k))) (zero-add i)
      (value_sent (slots_to j file.links.receivers) 0 i gives.0 (stored m message_bit (m sent)) entry (h (slot gives.0) is_bool))

  pub sent_mark : (xs : List ℕ) (m : Store) → HoldsTruths ts m → IsTruthNumber (store_left (message_tree xs) m message_bit)
  sent_mark xs m h = subst IsTruthNumber (sym (bit_stays xs 0 (stored m message_bit (m sent)))) (h sent refl)
