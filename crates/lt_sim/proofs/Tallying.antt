-- Channels that are counted, as messages arrive and instants are executed.
use Rattle.std.proofs.Common.{◌≡◌, ◌≢◌, ℕ, suc, ◌+◌, ◌<◌, ◌⊎◌, inl, inr, List, length, replicate, set, Bool, true, false, ◌&&◌, ◌==◌, nat_le, if◌then◌else◌, refl, sym, ◌∙◌, ap, subst, arith, slice_index_or, add-one, eq-eqb, le-leb, length-set}
use Rattle.std.specs.Prelude.{slice_set}
use Rattle.std.proofs.lemmas.Bool.Decides.{eqb_tells, leb_tells}
use Rattle.std.proofs.lemmas.List.{get_or-set_same, get_or-set_other, get_or-replicate}
use Rattle.lt_arch.specs.declared.shape.Shape.{Shape}
use Rattle.lt_arch.specs.Readers.{node_count, chan_count, chan_of, to_of, is_data}
use Rattle.lt_arch.specs.Step.{updated}
use Rattle.lt_arch.proofs.Changes.{same_or_not, updated-here, updated-other}
use Rattle.lt_sim.specs.declared.tally.Tally.{Tally}
use Rattle.lt_base.specs.Truths.{how_many}
use Rattle.lt_sim.specs.Tallies.{leads_kind_to, raised}
use Rattle.lt_base.specs.Truths.{same_truth}
use Rattle.lt_sim.specs.Progress.{fresh_by, early_by, IsTallied, IsNoneAhead}
use Rattle.lt_sim.proofs.Counting.{how_many-same, how_many-one, how_many-none}

both_true : (a b : Bool) → (a && b) ≡ true → (a ≡ true) × (b ≡ true)
both_true true b h = (refl, h)
both_true false b h = absurd cc

and_false : (a : Bool) → (a && false) ≡ false
and_false true = refl
and_false false = refl

pub le_no : (a b : ℕ) → b < a → nat_le a b ≡ false
le_no a b h = elim (leb_tells a b) [ inl l ↦ absurd (omega (arith, l.1, h)) | inr r ↦ r.0 ]

true_or_not : (b : Bool) → (b ≡ true) ⊎ (b ≡ false)
true_or_not true = inl refl
true_or_not false = inr refl

-- a channel that leads to node n has it as its end
pub leads_end : (s : Shape) (k : Bool) (n c : ℕ) → leads_kind_to s.channels k n c ≡ true → to_of s c ≡ n
unfolding chan_of
leads_end s k n c h = elim (eqb_tells (to_of s c) n) [
  | inl e ↦ e.1
  | inr e ↦ let b = both_true (to_of s c == n) (same_truth k (is_data (chan_of s c).kind)) h in let clash : true ≡ false = sym b.0 ∙ e.0 in absurd cc
]

pub leads_here : (s : Shape) (k : Bool) (c : ℕ) → same_truth k (is_data (chan_of s c).kind) ≡ true → leads_kind_to s.channels k (to_of s c) c ≡ true
unfolding chan_of
leads_here s k c h = rw (eq-eqb (to_of s c) (to_of s c) refl, h) refl

pub leads_off : (s : Shape) (k : Bool) (n c : ℕ) → same_truth k (is_data (chan_of s c).kind) ≡ false → leads_kind_to s.channels k n c ≡ false
unfolding chan_of
leads_off s k n c h = rw h (and_false (to_of s c == n))

-- what a list has after one number was raised
raised-here : (b : Bool) (xs : List ℕ) (n : ℕ) → n < length xs → slice_index_or (raised b xs n) n 0 ≡ (if b then slice_index_or xs n 0 + 1 else slice_index_or xs n 0)
raised-here true xs n lt = get_or-set_same xs n (slice_index_or xs n 0 + 1) 0 lt
raised-here false xs n lt = refl

raised-other : (b : Bool) (xs : List ℕ) (n k : ℕ) → k ≢ n → slice_index_or (raised b xs n) k 0 ≡ slice_index_or xs k 0
raised-other true xs n k ne = get_or-set_other xs n k (slice_index_or xs n 0 + 1) 0 ne
raised-other false xs n k ne = refl

pub raised-length : (b : Bool) (xs : List ℕ) (n : ℕ) → length (raised b xs n) ≡ length xs
raised-length true xs n = length-set xs n (slice_index_or xs n 0 + 1)
raised-length false xs n = refl

-- Of the channels that lead to a node, those that have delivered at least so many messages.
module _ (s : Shape) (k : Bool) (level : ℕ → ℕ) where
  pub passes : (delivered : ℕ → ℕ) (n c : ℕ) → Bool
  passes delivered n c = leads_kind_to s.channels k n c && nat_le (level (to_of s c)) (delivered c)

  module _ (d : ℕ → ℕ) (c : ℕ) (lt : c < chan_count s) (xs : List ℕ) (each : (n : ℕ) → n < node_count s → slice_index_or xs n 0 ≡ how_many (passes d n) (chan_count s)) where
    abbrev pub next : ℕ → ℕ
    next = updated d c (d c + 1)

    same_elsewhere : (n i : ℕ) → i ≢ c → passes d n i ≡ passes next n i
    unfolding passes
    same_elsewhere n i ne = λ j. leads_kind_to s.channels k n i && nat_le (level (to_of s i)) (sym (updated-other d c (d c + 1) i ne) j)

    -- a channel of the other kind, or to another node
    pub unmoved : (n : ℕ) → n < node_count s → leads_kind_to s.channels k n c ≡ false → slice_index_or xs n 0 ≡ how_many (passes next n) (chan_count s)
    unfolding passes
    unmoved n within off = each n within ∙ how_many-same (passes d n) (passes next n) (chan_count s) (λ i below. elim (same_or_not i c) [
      | inl e ↦ subst (λ i. passes d n i ≡ passes next n i) (sym e) ((λ j. off j && nat_le (level (to_of s c)) (d c)) ∙ (λ j. sym off j && nat_le (level (to_of s c)) (next c)))
      | inr ne ↦ same_elsewhere n i ne
    ])

    module _ (on : leads_kind_to s.channels k (to_of s c) c ≡ true) (inside : to_of s c < node_count s) (size : to_of s c < length xs) where
      at_next : next c ≡ d c + 1
      at_next = updated-here d c (d c + 1) c refl

      -- it passes from now on
      hit : d c + 1 ≡ level (to_of s c) → how_many (passes next (to_of s c)) (chan_count s) ≡ how_many (passes d (to_of s c)) (chan_count s) + 1
      unfolding passes
      hit is = how_many-one (passes d (to_of s c)) (passes next (to_of s c)) (chan_count s) c lt
          ((λ j. on j && nat_le (level (to_of s c)) (d c)) ∙ le_no (level (to_of s c)) (d c) (omega (arith, is)))
          ((λ j. on j && nat_le (level (to_of s c)) (at_next j)) ∙ le-leb (level (to_of s c)) (d c + 1) (omega (arith, is)))
          (λ i below ne. same_elsewhere (to_of s c) i ne)

      -- or as before
      missed : d c + 1 ≢ level (to_of s c) → how_many (passes d (to_of s c)) (chan_count s) ≡ how_many (passes next (to_of s c)) (chan_count s)
      unfolding passes
      missed differ = how_many-same (passes d (to_of s c)) (passes next (to_of s c)) (chan_count s) (λ i below. elim (same_or_not i c) [
        | inl e ↦ subst (λ i. passes d (to_of s c) i ≡ passes next (to_of s c) i) (sym e)
            (let now : nat_le (level (to_of s c)) (next c) ≡ nat_le (level (to_of s c)) (d c + 1) = ap (λ v. nat_le (level (to_of s c)) v) at_next in
            λ j. leads_kind_to s.channels k (to_of s c) c && (same_test (level (to_of s c)) (d c) differ ∙ sym now) j)
        | inr ne ↦ same_elsewhere (to_of s c) i ne
      ])
        where
          same_test : (a b : ℕ) → b + 1 ≢ a → nat_le a b ≡ nat_le a (b + 1)
          same_test a b ne = elim (leb_tells a b) [
            | inl h ↦ h.0 ∙ sym (le-leb a (b + 1) (omega (arith, h.1)))
            | inr h ↦ h.0 ∙ sym (le_no a (b + 1) (omega (arith, h.1, ne)))
          ]

      pub moved : (hits : Bool) → hits ≡ (d c + 1 == level (to_of s c)) → (n : ℕ) → n < node_count s → slice_index_or (raised hits xs (to_of s c)) n 0 ≡ how_many (passes next n) (chan_count s)
      moved hits is n within = elim (same_or_not n (to_of s c)) [
        | inl e ↦ subst (λ n. slice_index_or (raised hits xs (to_of s c)) n 0 ≡ how_many (passes next n) (chan_count s)) (sym e)
            (raised-here hits xs (to_of s c) size ∙ elim (eqb_tells (d c + 1) (level (to_of s c))) [
              | inl q ↦ (λ j. if (is ∙ q.0) j then slice_index_or xs (to_of s c) 0 + 1 else slice_index_or xs (to_of s c) 0) ∙ ap (λ v. v + 1) (each (to_of s c) inside) ∙ sym (hit q.1)
              | inr q ↦ (λ j. if (is ∙ q.0) j then slice_index_or xs (to_of s c) 0 + 1 else slice_index_or xs (to_of s c) 0) ∙ each (to_of s c) inside ∙ missed q.1
            ])
        | inr ne ↦ raised-other hits xs (to_of s c) n ne ∙ unmoved n within (off n ne)
      ]
        where
          off : (n : ℕ) → n ≢ to_of s c → leads_kind_to s.channels k n c ≡ false
          off n ne = elim (true_or_not (leads_kind_to s.channels k n c)) [ inl h ↦ absurd (ne (sym (leads_end s k n c h))) | inr h ↦ h ]

-- Messages of one kind.
module _ (w : Tally) (s : Shape) (k : Bool) (e d : ℕ → ℕ) (h : IsTallied w s k e d) where
  pub tally_arrives : (v : Tally) (c : ℕ) → c < chan_count s → same_truth k (is_data (chan_of s c).kind) ≡ true → to_of s c < node_count s → v.wanted.items ≡ w.wanted.items
      → v.fresh.items ≡ raised (d c + 1 == e (to_of s c)) w.fresh.items (to_of s c) → v.early.items ≡ raised (d c + 1 == e (to_of s c) + 1) w.early.items (to_of s c)
      → IsTallied v s k e (updated d c (d c + 1))
  unfolding passes
  tally_arrives v c lt kind inside wanted fresh early = record {
    wanted_length = ap length wanted ∙ h.wanted_length;
    fresh_length = ap length fresh ∙ (raised-length (d c + 1 == e (to_of s c)) w.fresh.items (to_of s c) ∙ h.fresh_length);
    early_length = ap length early ∙ (raised-length (d c + 1 == e (to_of s c) + 1) w.early.items (to_of s c) ∙ h.early_length);
    wanted = λ n within. ap (λ (xs : List ℕ). slice_index_or xs n 0) wanted ∙ h.wanted n within;
    fresh = λ n within. ap (λ (xs : List ℕ). slice_index_or xs n 0) fresh
        ∙ moved s k e d c lt w.fresh.items h.fresh (leads_here s k c kind) inside (let size = h.fresh_length in omega (arith, size, inside)) (d c + 1 == e (to_of s c)) refl n within;
    early = λ n within. ap (λ (xs : List ℕ). slice_index_or xs n 0) early
        ∙ moved s k (λ m. suc (e m)) d c lt w.early.items h.early (leads_here s k c kind) inside (let size = h.early_length in omega (arith, size, inside)) (d c + 1 == e (to_of s c) + 1) (ap (λ v. d c + 1 == v) (add-one (e (to_of s c)))) n within;
  }

  pub tally_stays : (c : ℕ) → c < chan_count s → same_truth k (is_data (chan_of s c).kind) ≡ false → IsTallied w s k e (updated d c (d c + 1))
  unfolding passes
  tally_stays c lt kind = record {
    wanted_length = h.wanted_length;
    fresh_length = h.fresh_length;
    early_length = h.early_length;
    wanted = h.wanted;
    fresh = λ n within. unmoved s k e d c lt w.fresh.items h.fresh n within (leads_off s k n c kind);
    early = λ n within. unmoved s k (λ m. suc (e m)) d c lt w.early.items h.early n within (leads_off s k n c kind);
  }

  -- a node executes an instant
  module _ (v : Tally) (m : ℕ) (inside : m < node_count s) (none : IsNoneAhead s e d m) (wanted : v.wanted.items ≡ w.wanted.items)
      (fresh : v.fresh.items ≡ slice_set w.fresh.items m (slice_index_or w.early.items m 0)) (early : v.early.items ≡ slice_set w.early.items m 0) where
    after : ℕ → ℕ
    after = updated e m (e m + 1)

    at_other : (level : ℕ → ℕ) (n c : ℕ) → n ≢ m → (leads_kind_to s.channels k n c && nat_le (level (e (to_of s c))) (d c)) ≡ (leads_kind_to s.channels k n c && nat_le (level (after (to_of s c))) (d c))
    unfolding after
    at_other level n c ne = elim (true_or_not (leads_kind_to s.channels k n c)) [
      | inl on ↦ let to = leads_end s k n c on in let e' = updated-other e m (e m + 1) (to_of s c) (λ same. ne (sym to ∙ same)) in λ j. leads_kind_to s.channels k n c && nat_le (level (sym e' j)) (d c)
      | inr off ↦ (λ j. off j && nat_le (level (e (to_of s c))) (d c)) ∙ (λ j. sym off j && nat_le (level (after (to_of s c))) (d c))
    ]

    at_here : (c : ℕ) → leads_kind_to s.channels k m c ≡ true → after (to_of s c) ≡ suc (e (to_of s c))
    unfolding after
    at_here c on = let to = leads_end s k m c on in updated-here e m (e m + 1) (to_of s c) to ∙ (add-one (e m) ∙ ap (λ i. suc (e i)) (sym to))

    fresh_here : (c : ℕ) → (leads_kind_to s.channels k m c && early_by s e d c) ≡ (leads_kind_to s.channels k m c && fresh_by s after d c)
    fresh_here c = elim (true_or_not (leads_kind_to s.channels k m c)) [
      | inl on ↦ λ j. leads_kind_to s.channels k m c && nat_le (sym (at_here c on) j) (d c)
      | inr off ↦ (λ j. off j && early_by s e d c) ∙ (λ j. sym off j && fresh_by s after d c)
    ]

    early_here : (c : ℕ) → c < chan_count s → (leads_kind_to s.channels k m c && early_by s after d c) ≡ false
    early_here c lt = elim (true_or_not (leads_kind_to s.channels k m c)) [
      | inl on ↦
          let to = leads_end s k m c on in
          let low = none c lt to in
          let same : e (to_of s c) ≡ e m = ap e to in
          let now = at_here c on in
          (λ j. on j && early_by s after d c) ∙ le_no (suc (after (to_of s c))) (d c) (omega (arith, low, same, now))
      | inr off ↦ λ j. off j && early_by s after d c
    ]

    pub tally_executes : IsTallied v s k (updated e m (e m + 1)) d
    unfolding after
    tally_executes = record {
      wanted_length = ap length wanted ∙ h.wanted_length;
      fresh_length = ap length fresh ∙ (length-set w.fresh.items m (slice_index_or w.early.items m 0) ∙ h.fresh_length);
      early_length = ap length early ∙ (length-set w.early.items m 0 ∙ h.early_length);
      wanted = λ n within. ap (λ (xs : List ℕ). slice_index_or xs n 0) wanted ∙ h.wanted n within;
      fresh = λ n within. ap (λ (xs : List ℕ). slice_index_or xs n 0) fresh ∙ elim (same_or_not n m) [
        | inl q ↦ subst (λ n. slice_index_or (set w.fresh.items m (slice_index_or w.early.items m 0)) n 0 ≡ how_many (λ c. leads_kind_to s.channels k n c && fresh_by s after d c) (chan_count s)) (sym q)
            (get_or-set_same w.fresh.items m (slice_index_or w.early.items m 0) 0 (let size = h.fresh_length in omega (arith, size, inside)) ∙ (h.early m inside
            ∙ how_many-same (λ c. leads_kind_to s.channels k m c && early_by s e d c) (λ c. leads_kind_to s.channels k m c && fresh_by s after d c) (chan_count s) (λ c lt. fresh_here c)))
        | inr ne ↦ get_or-set_other w.fresh.items m n (slice_index_or w.early.items m 0) 0 ne ∙ (h.fresh n within
            ∙ how_many-same (λ c. leads_kind_to s.channels k n c && fresh_by s e d c) (λ c. leads_kind_to s.channels k n c && fresh_by s after d c) (chan_count s) (λ c lt. at_other (λ v. v) n c ne))
      ];
      early = λ n within. ap (λ (xs : List ℕ). slice_index_or xs n 0) early ∙ elim (same_or_not n m) [
        | inl q ↦ subst (λ n. slice_index_or (set w.early.items m 0) n 0 ≡ how_many (λ c. leads_kind_to s.channels k n c && early_by s after d c) (chan_count s)) (sym q)
            (get_or-set_same w.early.items m 0 0 (let size = h.early_length in omega (arith, size, inside))
            ∙ sym (how_many-none (λ c. leads_kind_to s.channels k m c && early_by s after d c) (chan_count s) early_here))
        | inr ne ↦ get_or-set_other w.early.items m n 0 0 ne ∙ (h.early n within
            ∙ how_many-same (λ c. leads_kind_to s.channels k n c && early_by s e d c) (λ c. leads_kind_to s.channels k n c && early_by s after d c) (chan_count s) (λ c lt. at_other suc n c ne))
      ];
    }

-- Before the first event.
pub tally_first : (w : Tally) (s : Shape) (k : Bool) → (length w.wanted.items ≡ node_count s) × (length w.fresh.items ≡ node_count s) × (length w.early.items ≡ node_count s)
    → ((n : ℕ) → n < node_count s → slice_index_or w.wanted.items n 0 ≡ how_many (leads_kind_to s.channels k n) (chan_count s))
    → ((n : ℕ) → n < node_count s → slice_index_or w.fresh.items n 0 ≡ how_many (leads_kind_to s.channels k n) (chan_count s))
    → w.early.items ≡ replicate (node_count s) 0 → IsTallied w s k (λ n. 0) (λ c. 0)
tally_first w s k lengths wanted fresh early = record {
  wanted_length = lengths.0;
  fresh_length = lengths.1;
  early_length = lengths.2;
  wanted = wanted;
  fresh = λ n within. fresh n within ∙ how_many-same (leads_kind_to s.channels k n) (λ c. leads_kind_to s.channels k n c && true) (chan_count s) (λ c lt. sym (and_true (leads_kind_to s.channels k n c)));
  early = λ n within. ap (λ (xs : List ℕ). slice_index_or xs n 0) early ∙ (get_or-replicate (node_count s) n 0 0 within ∙ sym (how_many-none (λ c. leads_kind_to s.channels k n c && false) (chan_count s) (λ c lt. and_false (leads_kind_to s.channels k n c))));
}
  where
    and_true : (a : Bool) → (a && true) ≡ a
    and_true true = refl
    and_true false = refl
