-- What a node begins with.
use Rattle.std.proofs.Common.{◌≡◌, ℕ, zero, suc, ◌+◌, ◌<◌, ◌≤◌, Bool, true, false, List, [], ◌∷◌, length, refl, ap, ◌∙◌, arith, ℤ, pos}
use Rattle.std.specs.Prelude.{◌&&◌, nat_eq, if◌then◌else◌}
use Rattle.std.specs.List.{AllByRecursion}
use Rattle.std.proofs.lemmas.Bool.Decides.{nat_tests}
use Rattle.lt_base.specs.declared.value.Value.{Value}
use Rattle.lt_link.specs.Inbox.{InboxState}
use Rattle.lt_c.specs.Tree.{CVariable, phase, left, sent, executed, bit, read, payload, ack, seen, tag, both}
use Rattle.lt_c.specs.Meaning.{Store, value, stored, store_left}
use Rattle.lt_c.specs.Literals.{c_number, of_value}
use Rattle.lt_c.proofs.Literal.{literal_number}
use Rattle.lt_c.proofs.Stores.{other_tag, same_self}
use Rattle.lt_c_control.specs.Inboxes.{payload_value, HasData, HasAck, filling, FirstData, starting_inbox, starting_data, starting_ack, starting_acks, starting_left, starting_phase, starting, DifferInNode, BeginsFresh, StartsFresh}

filling_leaves : (j k : ℕ) (vs : List Value) (m : Store) (p : CVariable) → nat_eq (tag p) 9 ≡ false → store_left (filling j k vs) m p ≡ m p
filling_leaves j k [] m p h = refl
filling_leaves j k (v ∷ vs) m p h =
    filling_leaves j (suc k) vs (stored m (payload j k) (value m (of_value v))) p h ∙ other_tag m (payload j k) p (value m (of_value v)) h

neither_one : (a b : Bool) → b ≡ false → (a && b) ≡ false
neither_one true b h = h
neither_one false b h = refl

-- the values of other nodes, and those at earlier places
filling_others : (j k : ℕ) (vs : List Value) (m : Store) (i x : ℕ) → nat_eq i j ≡ false → store_left (filling j k vs) m (payload i x) ≡ m (payload i x)
filling_others j k [] m i x h = refl
filling_others j k (v ∷ vs) m i x h =
    filling_others j (suc k) vs (stored m (payload j k) (value m (of_value v))) i x h
    ∙ ap (λ (b : Bool). if b then value m (of_value v) else m (payload i x)) (neither_one (nat_eq x k) (nat_eq i j) h)

below : (x k : ℕ) → x < k → nat_eq x k ≡ false
below x k l = grind (arith, nat_tests, l)

filling_below : (j k : ℕ) (vs : List Value) (m : Store) (x : ℕ) → x < k → store_left (filling j k vs) m (payload j x) ≡ m (payload j x)
filling_below j k [] m x l = refl
filling_below j k (v ∷ vs) m x l =
    filling_below j (suc k) vs (stored m (payload j k) (value m (of_value v))) x (omega (arith, l))
    ∙ ap (λ (b : Bool). if b && nat_eq j j then value m (of_value v) else m (payload j x)) (below x k l)

filled : (j k : ℕ) (vs : List Value) (m : Store) (i : ℕ) → i < length vs → store_left (filling j k vs) m (payload j (k + i)) ≡ c_number (payload_value vs i)
filled j k [] m i l = absurd (omega (arith, l))
filled j k (v ∷ vs) m zero l =
    ap (λ x. store_left (filling j (suc k) vs) (stored m (payload j k) (value m (of_value v))) (payload j x)) (plus_zero k)
    ∙ filling_below j (suc k) vs (stored m (payload j k) (value m (of_value v))) k (omega arith)
    ∙ (λ i. if same_self k i && same_self j i then value m (of_value v) else m (payload j k))
    ∙ literal_number m v
  where
    plus_zero : (k : ℕ) → k + 0 ≡ k
    plus_zero k = omega arith
filled j k (v ∷ vs) m (suc i) l =
    ap (λ x. store_left (filling j (suc k) vs) (stored m (payload j k) (value m (of_value v))) (payload j x)) (turn k i)
    ∙ filled j (suc k) vs (stored m (payload j k) (value m (of_value v))) i (omega (arith, l))
  where
    turn : (k i : ℕ) → k + suc i ≡ suc k + i
    turn k i = omega arith

-- ---- one inbox, and all

abbrev first_of : FirstData → InboxState
first_of d = record { payload = d.firsts; bit = false; read = true }

inbox_is : (d : FirstData) (m : Store) → HasData (store_left (starting_inbox d) m) d.from_node (first_of d)
inbox_is d m =
    let j = d.from_node in
    let n = stored (stored m (bit j) (pos 0)) (read j) (pos 1) in
    record {
      bit_is = filling_leaves j 0 d.firsts n (bit j) refl ∙ ap (λ (b : Bool). if b then pos 0 else m (bit j)) (same_self j);
      read_is = filling_leaves j 0 d.firsts n (read j) refl ∙ ap (λ (b : Bool). if b then pos 1 else m (read j)) (same_self j);
      values = λ k l. ap (λ x. store_left (filling j 0 d.firsts) n (payload j x)) (zero_plus k) ∙ filled j 0 d.firsts n k l;
    }
  where
    zero_plus : (k : ℕ) → k ≡ 0 + k
    zero_plus k = omega arith

-- an inbox of another node stays
inbox_stays : (j : ℕ) (b : InboxState) (d : FirstData) → nat_eq j d.from_node ≡ false → (m : Store) → HasData m j b → HasData (store_left (starting_inbox d) m) j b
inbox_stays j b d e m h =
    let k = d.from_node in
    let n = stored (stored m (bit k) (pos 0)) (read k) (pos 1) in
    record {
      bit_is = filling_leaves k 0 d.firsts n (bit j) refl ∙ ap (λ (b : Bool). if b then pos 0 else m (bit j)) e ∙ h.bit_is;
      read_is = filling_leaves k 0 d.firsts n (read j) refl ∙ ap (λ (b : Bool). if b then pos 1 else m (read j)) e ∙ h.read_is;
      values = λ x l. filling_others k 0 d.firsts n j x e ∙ h.values x l;
    }

inbox_later : (j : ℕ) (b : InboxState) (ds : List FirstData) → AllByRecursion (λ e. nat_eq j e.from_node ≡ false) ds → (m : Store) → HasData m j b → HasData (store_left (starting_data ds) m) j b
inbox_later j b [] d m h = h
inbox_later j b (e ∷ ds) d m h = inbox_later j b ds d.1 (store_left (starting_inbox e) m) (inbox_stays j b e d.0 m h)

data_fresh : (ds : List FirstData) → DifferInNode ds → (m : Store) → AllByRecursion (λ d. HasData (store_left (starting_data ds) m) d.from_node (first_of d)) ds
data_fresh [] d m = tt
data_fresh (e ∷ ds) d m = (inbox_later e.from_node (first_of e) ds d.0 (store_left (starting_inbox e) m) (inbox_is e m), data_fresh ds d.1 (store_left (starting_inbox e) m))

-- ---- acknowledgements

abbrev read_ack : InboxState
read_ack = record { payload = []; bit = false; read = false }

at_zero : (b : Bool) (z : ℤ) → z ≡ pos 0 → (if b then pos 0 else z) ≡ pos 0
at_zero true z h = refl
at_zero false z h = h

ack_stays : (j : ℕ) (js : List ℕ) (m : Store) → HasAck m j read_ack → HasAck (store_left (starting_acks js) m) j read_ack
ack_stays j [] m h = h
ack_stays j (k ∷ js) m h = ack_stays j js (store_left (starting_ack k) m) (record {
  bit_is = at_zero (nat_eq j k) (m (ack j)) h.bit_is;
  read_is = at_zero (nat_eq j k) (m (seen j)) h.read_is;
})

acks_fresh : (js : List ℕ) (m : Store) → AllByRecursion (λ j. HasAck (store_left (starting_acks js) m) j read_ack) js
acks_fresh [] m = tt
acks_fresh (j ∷ js) m = (
  ack_stays j js (store_left (starting_ack j) m) (record {
    bit_is = ap (λ (b : Bool). if b then pos 0 else m (ack j)) (same_self j);
    read_is = ap (λ (b : Bool). if b then pos 0 else m (seen j)) (same_self j);
  }),
  acks_fresh js (store_left (starting_ack j) m),
)

-- ---- what each part leaves

data_leaves : (ds : List FirstData) (m : Store) (p : CVariable) → nat_eq (tag p) 7 ≡ false → nat_eq (tag p) 8 ≡ false → nat_eq (tag p) 9 ≡ false → store_left (starting_data ds) m p ≡ m p
data_leaves [] m p f g h = refl
data_leaves (d ∷ ds) m p f g h =
    data_leaves ds (store_left (starting_inbox d) m) p f g h
    ∙ filling_leaves d.from_node 0 d.firsts (stored (stored m (bit d.from_node) (pos 0)) (read d.from_node) (pos 1)) p h
    ∙ other_tag (stored m (bit d.from_node) (pos 0)) (read d.from_node) p (pos 1) g
    ∙ other_tag m (bit d.from_node) p (pos 0) f

acks_leave : (js : List ℕ) (m : Store) (p : CVariable) → nat_eq (tag p) 10 ≡ false → nat_eq (tag p) 11 ≡ false → store_left (starting_acks js) m p ≡ m p
acks_leave [] m p f g = refl
acks_leave (j ∷ js) m p f g =
    acks_leave js (store_left (starting_ack j) m) p f g
    ∙ other_tag (stored m (ack j) (pos 0)) (seen j) p (pos 0) g
    ∙ other_tag m (ack j) p (pos 0) f

left_leaves : (counts : Bool) (m : Store) (p : CVariable) → nat_eq (tag p) 4 ≡ false → store_left (starting_left counts) m p ≡ m p
left_leaves true m p h = other_tag m left p (pos 0) h
left_leaves false m p h = refl

data_kept : (ds : List FirstData) (js : List ℕ) (counts : Bool) (m : Store) → AllByRecursion (λ d. HasData m d.from_node (first_of d)) ds → AllByRecursion (λ d. HasData (store_left (both (starting_acks js) (starting_phase counts)) m) d.from_node (first_of d)) ds
data_kept [] js counts m h = tt
data_kept (d ∷ ds) js counts m h =
    let n = store_left (starting_acks js) m in (
      record {
        bit_is = left_leaves counts n (bit d.from_node) refl ∙ acks_leave js m (bit d.from_node) refl refl ∙ h.0.bit_is;
        read_is = left_leaves counts n (read d.from_node) refl ∙ acks_leave js m (read d.from_node) refl refl ∙ h.0.read_is;
        values = λ k l. left_leaves counts n (payload d.from_node k) refl ∙ acks_leave js m (payload d.from_node k) refl refl ∙ h.0.values k l;
      },
      data_kept ds js counts m h.1,
    )

acks_kept : (js : List ℕ) (counts : Bool) (m : Store) → AllByRecursion (λ j. HasAck m j read_ack) js → AllByRecursion (λ j. HasAck (store_left (starting_phase counts) m) j read_ack) js
acks_kept [] counts m h = tt
acks_kept (j ∷ js) counts m h =
    (record { bit_is = left_leaves counts m (ack j) refl ∙ h.0.bit_is; read_is = left_leaves counts m (seen j) refl ∙ h.0.read_is }, acks_kept js counts m h.1)

fresh : (ds : List FirstData) → DifferInNode ds → (js : List ℕ) (counts : Bool) (m : Store) → BeginsFresh ds js (store_left (starting ds js counts) m)
fresh ds d js counts m = record {
  messages = data_kept ds js counts (store_left (starting_data ds) m) (data_fresh ds d m);
  acks = acks_kept js counts (store_left (starting_acks js) (store_left (starting_data ds) m)) (acks_fresh js (store_left (starting_data ds) m));
  phase_is = refl;
  sent_is = refl;
  executed_is = refl;
}

-- a variable of the kind 0 is of no other
only_zero : (t k : ℕ) → nat_eq t 0 ≡ true → 0 < k → nat_eq t k ≡ false
only_zero t k h l = grind (arith, nat_tests, h, l)

phase_leaves : (counts : Bool) (m : Store) (p : CVariable) → nat_eq (tag p) 0 ≡ true → store_left (starting_phase counts) m p ≡ m p
phase_leaves counts m p h =
    let n = store_left (starting_left counts) m in
    other_tag (stored (stored n phase (pos 0)) sent (pos 0)) executed p (pos 0) (only_zero (tag p) 6 h (omega arith))
    ∙ other_tag (stored n phase (pos 0)) sent p (pos 0) (only_zero (tag p) 5 h (omega arith))
    ∙ other_tag n phase p (pos 0) (only_zero (tag p) 3 h (omega arith))
    ∙ left_leaves counts m p (only_zero (tag p) 4 h (omega arith))

slots : (ds : List FirstData) (js : List ℕ) (counts : Bool) (m : Store) (p : CVariable) → nat_eq (tag p) 0 ≡ true → store_left (starting ds js counts) m p ≡ m p
slots ds js counts m p h =
    phase_leaves counts (store_left (starting_acks js) (store_left (starting_data ds) m)) p h
    ∙ acks_leave js (store_left (starting_data ds) m) p (only_zero (tag p) 10 h (omega arith)) (only_zero (tag p) 11 h (omega arith))
    ∙ data_leaves ds m p (only_zero (tag p) 7 h (omega arith)) (only_zero (tag p) 8 h (omega arith)) (only_zero (tag p) 9 h (omega arith))

pub starts_fresh : StartsFresh
starts_fresh = record { fresh = fresh; slots = slots }
