-- What init leaves stands for the start.
use Rattle.std.proofs.Common.{◌≡◌, ℕ, ◌+◌, ◌<◌, Bool, true, false, List, [], ◌∷◌, length, map, Some, None, refl, sym, ap, ◌∙◌, subst, arith, pos, ℤ, eqb-true}
use Rattle.std.specs.Prelude.{◌||◌, nat_eq, filter, if◌then◌else◌}
use Rattle.std.specs.List.{slice_get, list_any}
use Rattle.std.proofs.lemmas.Option.{slice_get_within, get_or_from_slice_get}
use Rattle.lt_base.specs.declared.value.Value.TheVariants.{Bool as Truth}
use Rattle.lt_place_reads.specs.declared.crossing.Crossing.{Crossing}
use Rattle.lt_place.specs.declared.layout.Layout.{Layout}
use Rattle.lt_place.specs.Layout.{crossing_of}
use Rattle.lt_net_node.specs.Layout.{joins, crossing_place}
use Rattle.lt_c.specs.Tree.{CVariable, slot, payload, newest, answered, tag}
use Rattle.lt_c.specs.Meaning.{Store, stored, store_left}
use Rattle.lt_c.specs.Literals.{c_number}
use Rattle.lt_c.proofs.Stores.{other_tag}
use Rattle.lt_c_step.proofs.Statements.{firsts_match}
use Rattle.lt_c_step.specs.Translate.{of_firsts}
use Rattle.lt_c_control.specs.Inboxes.{payload_value}
use Rattle.lt_c_net.specs.Stands.{sender}
use Rattle.lt_c_net.specs.Laws.{literals_of, firsts_from}
use Rattle.lt_c_bodies.specs.Starts.{starting_number, starting_numbers, starting_answers}
use Rattle.lt_c_lossy.specs.Crossed.{crossing_channel}
use Rattle.lt_c_lossy.specs.LosingLaws.{LosingStarts}
use Rattle.lt_c_lossy.proofs.Whole.{entry_between}
use Rattle.lt_c_lossy.proofs.Crossings.{fits_of, channel_sender, channel_to}
use Rattle.lt_c_lossy.proofs.Filled.{filling_leaves, filling_others, filled}

at_zero : (b : Bool) (z : ℤ) → z ≡ pos 0 → (if b then pos 0 else z) ≡ pos 0
at_zero true z h = refl
at_zero false z h = h

module _ (cross : List Crossing) (n : ℕ) where
  -- what the inbox of one node leaves
  abbrev begun : ℕ → Store → Store
  begun i m = store_left (starting_number (record { from_node = i; firsts = literals_of cross n i })) m

  numbers_leave : (js : List ℕ) (m : Store) (p : CVariable) → nat_eq (tag p) 9 ≡ false → nat_eq (tag p) 20 ≡ false → store_left (starting_numbers (firsts_from cross n js)) m p ≡ m p
  numbers_leave [] m p f g = refl
  numbers_leave (i ∷ js) m p f g =
      numbers_leave js (begun i m) p f g
      ∙ filling_leaves i 0 (literals_of cross n i) (stored m (newest i) (pos 0)) p f
      ∙ other_tag m (newest i) p (pos 0) g

  number_begun : (i j : ℕ) (m : Store) → begun i m (newest j) ≡ (if nat_eq j i then pos 0 else m (newest j))
  number_begun i j m = filling_leaves i 0 (literals_of cross n i) (stored m (newest i) (pos 0)) (newest j) refl

  number_stays : (js : List ℕ) (j : ℕ) (m : Store) → m (newest j) ≡ pos 0 → store_left (starting_numbers (firsts_from cross n js)) m (newest j) ≡ pos 0
  number_stays [] j m h = h
  number_stays (i ∷ js) j m h = number_stays js j (begun i m) (number_begun i j m ∙ at_zero (nat_eq j i) (m (newest j)) h)

  number_zero : (js : List ℕ) (j : ℕ) (m : Store) → list_any (nat_eq j) js ≡ true → store_left (starting_numbers (firsts_from cross n js)) m (newest j) ≡ pos 0
  number_zero [] j m h = absurd (cc)
  number_zero (i ∷ js) j m h = here (nat_eq j i) refl (λ k. number_zero js j (begun i m) k) h
    where
      here : (b : Bool) → nat_eq j i ≡ b → (list_any (nat_eq j) js ≡ true → store_left (starting_numbers (firsts_from cross n js)) (begun i m) (newest j) ≡ pos 0) → (b || list_any (nat_eq j) js) ≡ true →
          store_left (starting_numbers (firsts_from cross n js)) (begun i m) (newest j) ≡ pos 0
      here true e rest k = number_stays js j (begun i m) (number_begun i j m ∙ ap (λ (b : Bool). if b then pos 0 else m (newest j)) e)
      here false e rest k = rest k

  module _ (j x : ℕ) (within : x < length (literals_of cross n j)) where
    abbrev literal : ℤ
    literal = c_number (payload_value (literals_of cross n j) x)

    literal_begun : (i : ℕ) (m : Store) → (nat_eq j i ≡ false → m (payload j x) ≡ literal) → begun i m (payload j x) ≡ literal
    literal_begun i m h = by_node (nat_eq j i) refl
      where
        zero_plus : (k : ℕ) → k ≡ 0 + k
        zero_plus k = omega arith

        by_node : (b : Bool) → nat_eq j i ≡ b → begun i m (payload j x) ≡ literal
        by_node false e = filling_others i 0 (literals_of cross n i) (stored m (newest i) (pos 0)) j x e ∙ h e
        by_node true e =
            ap (λ i. begun i m (payload j x)) (sym (eqb-true j i e))
            ∙ ap (λ k. store_left (Rattle.lt_c_control.specs.Inboxes.filling j 0 (literals_of cross n j)) (stored m (newest j) (pos 0)) (payload j k)) (zero_plus x)
            ∙ filled j 0 (literals_of cross n j) (stored m (newest j) (pos 0)) x within

    literal_stays : (js : List ℕ) (m : Store) → m (payload j x) ≡ literal → store_left (starting_numbers (firsts_from cross n js)) m (payload j x) ≡ literal
    literal_stays [] m h = h
    literal_stays (i ∷ js) m h = literal_stays js (begun i m) (literal_begun i m (λ e. h))

    literal_there : (js : List ℕ) (m : Store) → list_any (nat_eq j) js ≡ true → store_left (starting_numbers (firsts_from cross n js)) m (payload j x) ≡ literal
    literal_there [] m h = absurd (cc)
    literal_there (i ∷ js) m h = here (nat_eq j i) refl (λ k. literal_there js (begun i m) k) h
      where
        here : (b : Bool) → nat_eq j i ≡ b → (list_any (nat_eq j) js ≡ true → store_left (starting_numbers (firsts_from cross n js)) (begun i m) (payload j x) ≡ literal) → (b || list_any (nat_eq j) js) ≡ true →
            store_left (starting_numbers (firsts_from cross n js)) (begun i m) (payload j x) ≡ literal
        here true e rest k = literal_stays js (begun i m) (literal_begun i m (λ f. absurd (let g : true ≡ false = sym e ∙ f in cc)))
        here false e rest k = rest k

answers_leave : (js : List ℕ) (m : Store) (p : CVariable) → nat_eq (tag p) 21 ≡ false → store_left (starting_answers js) m p ≡ m p
answers_leave [] m p h = refl
answers_leave (i ∷ js) m p h = answers_leave js (stored m (answered i) (pos 0)) p h ∙ other_tag m (answered i) p (pos 0) h

answer_stays : (js : List ℕ) (j : ℕ) (m : Store) → m (answered j) ≡ pos 0 → store_left (starting_answers js) m (answered j) ≡ pos 0
answer_stays [] j m h = h
answer_stays (i ∷ js) j m h = answer_stays js j (stored m (answered i) (pos 0)) (at_zero (nat_eq j i) (m (answered j)) h)

answer_zero : (js : List ℕ) (j : ℕ) (m : Store) → list_any (nat_eq j) js ≡ true → store_left (starting_answers js) m (answered j) ≡ pos 0
answer_zero [] j m h = absurd (cc)
answer_zero (i ∷ js) j m h = here (nat_eq j i) refl (λ k. answer_zero js j (stored m (answered i) (pos 0)) k) h
  where
    here : (b : Bool) → nat_eq j i ≡ b → (list_any (nat_eq j) js ≡ true → store_left (starting_answers js) (stored m (answered i) (pos 0)) (answered j) ≡ pos 0) → (b || list_any (nat_eq j) js) ≡ true →
        store_left (starting_answers js) (stored m (answered i) (pos 0)) (answered j) ≡ pos 0
    here true e rest k = answer_stays js j (stored m (answered i) (pos 0)) (ap (λ (b : Bool). if b then pos 0 else m (answered j)) e)
    here false e rest k = rest k

-- the literal of a crossing stands at its place
literal_at : (l : Layout) (x n : ℕ) → x < length l.cross → (crossing_of l x).to ≡ n → slice_get (literals_of l.cross n (crossing_of l x).from) (crossing_place l x) ≡ Some (crossing_of l x).first
literal_at l x n lt to =
    ap (λ j. slice_get (map (λ (cr : Crossing). cr.first) (filter (joins (crossing_of l x).from j) l.cross)) (crossing_place l x)) (sym to)
    ∙ entry_between l (λ cr. cr.first) x lt

pub losing_starts : LosingStarts
losing_starts f losses d is n nb memory =
    let l : Layout = d.base.layout in
    let s = d.base.shape in
    let node = d.base.nodes n in
    let made = (is.coded n nb).emitted.made in
    let channels = (fits_of f losses d is).channels in
    let m1 : Store = store_left (of_firsts node.code.keeps) memory in
    let m2 : Store = store_left (starting_numbers (firsts_from l.cross n node.ins)) m1 in
    record {
      phase_is = refl;
      executions_are = refl;
      sendings_are = refl;
      numbers = λ c lt to. answers_leave node.acks m2 (newest (sender s.channels c)) refl ∙ number_zero l.cross n node.ins (sender s.channels c) m1 (made.ins_are.all c lt to);
      answers = λ c lt to. answer_zero node.acks (sender s.channels c) m2 (made.acks_are.all c lt to);
      values = λ x lt to.
          let i : ℕ = (crossing_of l x).from in
          let there = literal_at l x n lt to in
          let c : ℕ = crossing_channel l s x in
          let in_ins : list_any (nat_eq i) node.ins ≡ true = subst (λ j. list_any (nat_eq j) node.ins ≡ true) (channel_sender l s channels x lt) (made.ins_are.all c (channels.there x lt) (channel_to l s channels x n lt to)) in
          answers_leave node.acks m2 (payload i (crossing_place l x)) refl
          ∙ literal_there l.cross n i (crossing_place l x) (slice_get_within (literals_of l.cross n i) (crossing_place l x) (crossing_of l x).first there) node.ins m1 in_ins
          ∙ ap c_number (get_or_from_slice_get (literals_of l.cross n i) (crossing_place l x) (crossing_of l x).first (Truth false) there);
      slots = λ x v h.
          answers_leave node.acks m2 (slot x) refl
          ∙ numbers_leave l.cross n node.ins m1 (slot x) refl refl
          ∙ firsts_match node.code.keeps (λ _. None) memory (λ y w e. absurd (cc)) x v h;
      kept = λ x lt from some. absurd (omega (arith, some));
    }
