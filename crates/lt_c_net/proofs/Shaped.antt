-- The lists of senders, and the phases of protocols.
use Rattle.std.proofs.Common.{◌≡◌, ◌≢◌, ◌⊎◌, inl, inr, ℕ, zero, suc, ◌<◌, ◌≤◌, ◌-◌, ◌^◌, Bool, true, false, List, [], ◌∷◌, length, refl, sym, ap, ◌∙◌, subst, arith}
use Rattle.std.specs.Prelude.{◌&&◌, ◌||◌, ◌==◌, nat_eq, slice_index_or, if◌then◌else◌}
use Rattle.std.specs.List.{list_any}
use Rattle.std.proofs.lemmas.Bool.{cases_lt}
use Rattle.std.proofs.lemmas.Bool.Decides.{Decides-eqb, eqb_tells}
use Rattle.std.proofs.lemmas.List.Folds.{list_any-append, list_any_at}
use Rattle.lt_arch.specs.declared.chan.Chan.{Chan}
use Rattle.lt_arch.specs.declared.chan.ChanKind.{ChanKind}
use Rattle.lt_arch.specs.declared.chan.ChanKind.TheVariants.{Data, Ack}
use Rattle.lt_arch.specs.declared.shape.Shape.{Shape}
use Rattle.lt_arch.specs.Readers.{node_count, is_data, no_chan}
use Rattle.lt_arch.specs.declared.event.Deed.{Deed}
use Rattle.lt_arch.specs.declared.event.Deed.TheVariants.{Nothing, Execute, Send}
use Rattle.lt_arch.specs.State.{Phase, Wait, Ready, First, Sending, Executing}
use Rattle.lt_arch.specs.Deeds.{deed_of, phase_after}
use Rattle.lt_link.specs.Ports.{is_to}
use Rattle.lt_base.specs.Truths.{same_truth}
use Rattle.lt_net_bench.proofs.Entries.{same_number, and_parts}
use Rattle.lt_link.specs.Ports.{push_number, numbers}
use Rattle.lt_c_control.specs.Control.{IsCounting}
use Rattle.lt_c_net.specs.Stands.{sender, ListsSenders, OneEach}
use Rattle.lt_c_net.specs.Laws.{IsPressing}
use Rattle.lt_c_net.specs.Kept.{leads, senders_to, ShapesServe, PhasesStay}

-- ---- senders

or_cases : (a b : Bool) → (a || b) ≡ true → (a ≡ true) ⊎ (b ≡ true)
or_cases true b h = inl refl
or_cases false b h = inr h

or_right : (a b : Bool) → b ≡ true → (a || b) ≡ true
or_right true b h = refl
or_right false b h = h

or_left : (a b : Bool) → a ≡ true → (a || b) ≡ true
or_left true b h = refl
or_left false b h = absurd (cc)

in_numbers : (on : ℕ → Bool) (n j : ℕ) → list_any (nat_eq j) (numbers on n) ≡ true → on j ≡ true
in_numbers on zero j h = absurd (cc)
in_numbers on (suc k) j h = by_last (on k) refl (λ g. in_numbers on k j g) h
  where
    by_last : (b : Bool) → on k ≡ b → (list_any (nat_eq j) (numbers on k) ≡ true → on j ≡ true) → list_any (nat_eq j) (push_number b k (numbers on k)) ≡ true → on j ≡ true
    by_last false e rest g = rest g
    by_last true e rest g = elim (or_cases (list_any (nat_eq j) (numbers on k)) (nat_eq j k || false) (sym (list_any-append (nat_eq j) (numbers on k) (k ∷ [])) ∙ g)) [
      | inl h ↦ rest h
      | inr h ↦ elim (or_cases (nat_eq j k) false h) [ inl s ↦ ap on ((Decides-eqb j k).0 s) ∙ e | inr s ↦ absurd (cc) ]
    ]

of_numbers : (on : ℕ → Bool) (n j : ℕ) → j < n → on j ≡ true → list_any (nat_eq j) (numbers on n) ≡ true
of_numbers on zero j lt h = absurd (omega (arith, lt))
of_numbers on (suc k) j lt h = elim (eqb_tells j k) [
  | inl e ↦ last (on k) (ap on (sym e.1) ∙ h) e.0
  | inr e ↦ earlier (on k) (of_numbers on k j (let ne = e.1 in omega (arith, lt, ne)) h)
]
  where
    last : (b : Bool) → b ≡ true → nat_eq j k ≡ true → list_any (nat_eq j) (push_number b k (numbers on k)) ≡ true
    last true e s = list_any-append (nat_eq j) (numbers on k) (k ∷ []) ∙ or_right (list_any (nat_eq j) (numbers on k)) (nat_eq j k || false) (or_left (nat_eq j k) false s)
    last false e s = absurd (cc)

    earlier : (b : Bool) → list_any (nat_eq j) (numbers on k) ≡ true → list_any (nat_eq j) (push_number b k (numbers on k)) ≡ true
    earlier true g = list_any-append (nat_eq j) (numbers on k) (k ∷ []) ∙ or_left (list_any (nat_eq j) (numbers on k)) (nat_eq j k || false) g
    earlier false g = g

found : (test : Chan → Bool) (cs : List Chan) → list_any test cs ≡ true → (c : ℕ) × (c < length cs) × (test (slice_index_or cs c no_chan) ≡ true)
found test [] h = absurd (cc)
found test (x ∷ cs) h = by_first (test x) refl (λ g. found test cs g) h
  where
    by_first : (b : Bool) → test x ≡ b → (list_any test cs ≡ true → (c : ℕ) × (c < length cs) × (test (slice_index_or cs c no_chan) ≡ true)) → (b || list_any test cs) ≡ true →
        (c : ℕ) × (c < suc (length cs)) × (test (slice_index_or (x ∷ cs) c no_chan) ≡ true)
    by_first true e rest g = (0, omega arith, e)
    by_first false e rest g = let r = rest g in (suc r.0, (let l = r.1 in omega (arith, l)), r.2)

same_chan : (a b : Chan) → a.from ≡ b.from → a.to ≡ b.to → a.kind ≡ b.kind → a ≡ b
same_chan a b e f g = λ i. record { from = e i; to = f i; kind = g i }

same_kind : (kind : Bool) (a b : ChanKind) → same_truth kind (is_data a) ≡ true → same_truth kind (is_data b) ≡ true → a ≡ b
same_kind true Data Data g h = refl
same_kind true Ack b g h = absurd (cc)
same_kind true Data Ack g h = absurd (cc)
same_kind false Ack Ack g h = refl
same_kind false Data b g h = absurd (cc)
same_kind false Ack Data g h = absurd (cc)

module _ (s : Shape) (n : ℕ) (kind : Bool) where
  senders_are : ListsSenders s.channels n kind (senders_to s n kind)
  senders_are = record {
    all = λ c lt to. of_numbers (λ j. list_any (leads j n kind) s.channels) (node_count s) (sender s.channels c) (s.ends c no_chan lt).from_in
        (list_any_at (leads (sender s.channels c) n kind) s.channels c no_chan lt (let e = same_number (sender s.channels c) in λ i. e i && to i));
    only = λ j h. let r = found (leads j n kind) s.channels (in_numbers (λ j. list_any (leads j n kind) s.channels) (node_count s) j h) in
        let parts = and_parts ((slice_index_or s.channels r.0 no_chan).from == j) (is_to s.channels n kind r.0) r.2 in
        (r.0, r.1, parts.1, (Decides-eqb (slice_index_or s.channels r.0 no_chan).from j).0 parts.0);
  }

  same_ends : (c d : ℕ) → is_to s.channels n kind c ≡ true → is_to s.channels n kind d ≡ true → sender s.channels c ≡ sender s.channels d → slice_index_or s.channels c no_chan ≡ slice_index_or s.channels d no_chan
  same_ends c d g h e =
      let a = and_parts ((slice_index_or s.channels c no_chan).to == n) (same_truth kind (is_data (slice_index_or s.channels c no_chan).kind)) g in
      let b = and_parts ((slice_index_or s.channels d no_chan).to == n) (same_truth kind (is_data (slice_index_or s.channels d no_chan).kind)) h in
      same_chan (slice_index_or s.channels c no_chan) (slice_index_or s.channels d no_chan) e
      ((Decides-eqb (slice_index_or s.channels c no_chan).to n).0 a.0 ∙ sym ((Decides-eqb (slice_index_or s.channels d no_chan).to n).0 b.0))
      (same_kind kind (slice_index_or s.channels c no_chan).kind (slice_index_or s.channels d no_chan).kind a.1 b.1)

  one_each : OneEach s.channels n kind
  one_each c d lt lt' g h e = elim (cases_lt c d) [
    | inl less ↦ absurd (s.channels_differ c d no_chan less lt' (same_ends c d g h e))
    | inr most ↦ elim (cases_lt d c) [
      | inl less ↦ absurd (s.channels_differ d c no_chan less lt (same_ends d c h g (sym e)))
      | inr most' ↦ omega (arith, most, most')
    ]
  ]

pub shapes_serve : ShapesServe
shapes_serve s n kind = (senders_are s n kind, one_each s n kind)

-- ---- phases

pub pressing_stays : (ph : Phase) (send execute : ℕ) (ins some acks left : Bool) → IsPressing ph → IsPressing (phase_after send execute ph (deed_of ph ins some acks left))
pressing_stays Wait send execute true some acks true h = tt
pressing_stays Wait send execute true some acks false h = tt
pressing_stays Wait send execute false some acks left h = tt
pressing_stays Ready send execute ins some true left h = tt
pressing_stays Ready send execute ins some false left h = tt
pressing_stays First send execute ins some acks left h = absurd h
pressing_stays (Sending k) send execute ins some acks left h = absurd h
pressing_stays (Executing k) send execute ins some acks left h = absurd h

pub counting_stays : (ph : Phase) (send execute : ℕ) (ins some acks left : Bool) → 1 ≤ send → send < 2 ^ 63 → 1 ≤ execute → execute < 2 ^ 63 → IsCounting ph → IsCounting (phase_after send execute ph (deed_of ph ins some acks left))
counting_stays Wait send execute ins some acks left a b c d h = absurd h
counting_stays Ready send execute ins some acks left a b c d h = absurd h
counting_stays First send execute ins some acks true a b c d h = (a, b)
counting_stays First send execute ins some acks false a b c d h = tt
counting_stays (Sending k) send execute ins some acks left a b c d h = elim (eqb_tells k 1) [
  | inl e ↦ subst (λ (x : Bool). IsCounting (phase_after send execute (Sending k) (deed x))) (sym (or_left (k == 1) some e.0)) (c, d)
  | inr e ↦ later some e.0 e.1
]
  where
    deed : Bool → Deed
    deed x = if x then Send else Nothing

    later : (some : Bool) → (k == 1) ≡ false → k ≢ 1 → IsCounting (phase_after send execute (Sending k) (deed ((k == 1) || some)))
    later true e ne = subst (λ (x : Bool). IsCounting (phase_after send execute (Sending k) (deed (x || true)))) (sym e) (c, d)
    later false e ne = subst (λ (x : Bool). IsCounting (phase_after send execute (Sending k) (deed (x || false)))) (sym e) (let l = h.0 in let u = h.1 in (omega (arith, l, ne), omega (arith, u)))
counting_stays (Executing k) send execute ins some acks left a b c d h = by_last (k == 1) refl left
  where
    by_last : (x : Bool) → (k == 1) ≡ x → (left : Bool) → IsCounting (phase_after send execute (Executing k) (if (x && left) then Execute else Nothing))
    by_last true e true = (a, b)
    by_last true e false = subst (λ (y : Bool). IsCounting (if y then Executing 1 else Executing (k - 1))) (sym e) (omega arith, one_small)
      where
        one_small : 1 < 2 ^ 63
        one_small = omega arith
    by_last false e left = subst (λ (y : Bool). IsCounting (if y then Executing 1 else Executing (k - 1))) (sym e) (let l = h.0 in let u = h.1 in (not_one e l, omega (arith, u)))
      where
        not_one : (k == 1) ≡ false → 1 ≤ k → 1 ≤ k - 1
        not_one e l = elim (eqb_tells k 1) [ inl g ↦ absurd (let f : true ≡ false = sym g.0 ∙ e in cc) | inr g ↦ (let ne = g.1 in omega (arith, l, ne)) ]

pub phases_stay : PhasesStay
phases_stay = record { pressing = pressing_stays; counting = counting_stays }
