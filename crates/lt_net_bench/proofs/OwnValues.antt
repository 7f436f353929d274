-- Payloads stay their senders' own when nodes go on, and when more is delivered.
use Rattle.std.proofs.Common.{◌≡◌, ◌⊎◌, inl, inr, ℕ, zero, suc, ◌+◌, ◌<◌, ◌≤◌, List, [], ◌∷◌, ◌++◌, length, map, Some, true, refl, sym, ap, ◌∙◌, subst, arith, cond, length-append}
use Rattle.std.specs.Prelude.{slice_index_or, ◌==◌}
use Rattle.std.specs.List.{slice_get}
use Rattle.std.proofs.Math.ListN.{get_or-append}
use Rattle.std.proofs.Math.Seq.{get_or-append_seam}
use Rattle.std.proofs.lemmas.Bool.{cases_lt}
use Rattle.std.proofs.lemmas.Bool.Decides.{eqb_tells}
use Rattle.lt_base.specs.declared.value.Value.{Value}
use Rattle.lt_base.specs.Program.{Function}
use Rattle.lt_base.specs.Meaning.{Callee, calls, environments}
use Rattle.lt_arch.specs.declared.shape.Shape.{Shape}
use Rattle.lt_arch.specs.Readers.{chan_count, from_of, to_of, carries_data}
use Rattle.lt_place.specs.declared.layout.Feed.{Feed}
use Rattle.lt_place.specs.declared.layout.Feed.TheVariants.{Input, Cross}
use Rattle.lt_place.specs.declared.layout.Layout.{Layout}
use Rattle.lt_place.specs.Layout.{part_of, crossing_of}
use Rattle.lt_net_bench.specs.Changes.{GrowsByRow, Gets, HasEnough}
use Rattle.lt_net_node.specs.Layout.{IsLaidOut, crossing_place}
use Rattle.lt_net_node.specs.Local.{Messages, arrived, fed, fed_row, local_runs, newest}
use Rattle.lt_net_node.specs.Payloads.{payloads_between, row_at, channel_between}
use Rattle.lt_net_bench.specs.Own.{PayloadsAreOwn}
use Rattle.lt_net_bench.specs.Standing.{HasOwnValues}
use Rattle.lt_net_bench.proofs.Firsts.{upto-same}
use Rattle.lt_net_bench.proofs.LocalFronts.{local_runs_same}

module _ (l : Layout) (s : Shape) (inputs inputs' got : ℕ → List (List Value)) where
  pub own_stays : (more : ℕ → List (List Value)) → ((n : ℕ) → inputs' n ≡ inputs n ++ more n) → (i j k : ℕ) (p : List Value) → k < length (inputs i) → HasOwnValues l s inputs got i j k p → HasOwnValues l s inputs' got i j k p
  own_stays more grown i j k p h own c x cb from to gives =
      ap (λ es. newest es x) (local_runs_same l (payloads_between s got) i (suc k) (row_at (inputs' i)) (row_at (inputs i))
      (λ m mb. ap (λ rs. row_at rs m) (grown i) ∙ get_or-append (inputs i) (more i) [] m (omega (arith, mb, h))) (calls [] 0))
      ∙ own c x cb from to gives

  -- a node took a row
  pub own_taken : (n : ℕ) (row : List Value) → GrowsByRow inputs inputs' n row → (i j k : ℕ) (p : List Value) → k < length (inputs i) → HasOwnValues l s inputs got i j k p → HasOwnValues l s inputs' got i j k p
  own_taken n row takes = own_stays (λ i. cond (i == n) (row ∷ []) []) (λ i. elim (eqb_tells i n) [
    | inl h ↦ ap inputs' h.1 ∙ takes.there ∙ ap (λ z. inputs z ++ row ∷ []) (sym h.1) ∙ ap (λ x. inputs i ++ cond x (row ∷ []) []) (sym h.0)
    | inr h ↦ takes.elsewhere i h.1 ∙ nothing_more (inputs i) ∙ ap (λ x. inputs i ++ cond x (row ∷ []) []) (sym h.0)
  ])
    where
      nothing_more : (xs : List (List Value)) → xs ≡ xs ++ []
      nothing_more [] = refl
      nothing_more (x ∷ xs) = ap (λ r. x ∷ r) (nothing_more xs)

map-same : {A B : Type 0} (f g : A → B) (xs : List A) → ((x : ℕ) (d : A) → slice_get xs x ≡ Some d → f d ≡ g d) → map f xs ≡ map g xs
map-same f g [] h = refl
map-same f g (y ∷ ys) h =
    let a = h 0 y refl in
    let b = map-same f g ys (λ x d e. h (suc x) d e) in
    λ i. a i ∷ b i

-- what was there stays there
pub record Extends (old new : Messages) : Type 0 where
  pub same : (i j k : ℕ) → k < length (old i j) → slice_index_or (new i j) k [] ≡ slice_index_or (old i j) k []

-- the messages that node n sees at the instants before m are the same
pub record SeesSame (l : Layout) (old new : Messages) (n m : ℕ) : Type 0 where
  pub same : (c k : ℕ) → c < length l.cross → (crossing_of l c).to ≡ n → suc k < m → slice_index_or (new (crossing_of l c).from (crossing_of l c).to) k [] ≡ slice_index_or (old (crossing_of l c).from (crossing_of l c).to) k []

module _ (f : Function) (l : Layout) (layout : IsLaidOut f l) (got got' : Messages) (n m : ℕ) (b : n < length l.nodes) (sees : SeesSame l got got' n m) where
  arrived_same : (c k : ℕ) → c < length l.cross → (crossing_of l c).to ≡ n → k < m → arrived l got' k c ≡ arrived l got k c
  arrived_same c zero cb to h = refl
  arrived_same c (suc k) cb to h = ap (λ p. slice_index_or p (crossing_place l c) (crossing_of l c).first) (sees.same c k cb to h)

  fed_same : (row : List Value) (k : ℕ) (d : Feed) → ((c : ℕ) → d ≡ Cross c → (c < length l.cross) × ((crossing_of l c).to ≡ n)) → k < m → fed l got' row k d ≡ fed l got row k d
  fed_same row k (Input x) crosses h = refl
  fed_same row k (Cross x) crosses h = let there = crosses x refl in arrived_same x k there.0 there.1 h

  pub fed_row_same : (row : List Value) (k : ℕ) → k < m → fed_row l got' n row k ≡ fed_row l got n row k
  fed_row_same row k h = map-same (fed l got' row k) (fed l got row k) (part_of l n).feeds (λ x d at. fed_same row k d (λ c is. layout.crosses n x c b (at ∙ ap (λ z. Some z) is)) h)

  local_runs_same_seen : (callee : Callee) (rows : ℕ → List Value) (j : ℕ) → j ≤ m → local_runs callee l got' n rows j ≡ local_runs callee l got n rows j
  local_runs_same_seen callee rows j h = ap (environments callee (part_of l n).flat.func) (upto-same _ _ j (λ k kb. ap (map Some) (fed_row_same (rows k) k (omega arith))))

-- so they are where messages came besides, and there was one for each instant but the first
pub sees_extended : (l : Layout) (inputs : ℕ → List (List Value)) (got got' : Messages) → Extends got got' → ((c : ℕ) → c < length l.cross → length (inputs (crossing_of l c).to) ≤ length (got (crossing_of l c).from (crossing_of l c).to) + 1) →
    (n : ℕ) → SeesSame l got got' n (length (inputs n))
sees_extended l inputs got got' extends enough n = record {
  same = λ c k cb to h.
      let there : suc k < length (inputs (crossing_of l c).to) = subst (λ z. suc k < length (inputs z)) (sym to) h in
      extends.same (crossing_of l c).from (crossing_of l c).to k (omega (arith, there, enough c cb));
}

module _ (s : Shape) (got got' : ℕ → List (List Value)) (ch : ℕ) (payload : List Value) (gets : Gets got got' ch payload) where
  pub entry_stays : (c k : ℕ) → k < length (got c) → slice_index_or (got' c) k [] ≡ slice_index_or (got c) k []
  entry_stays c k h = elim (eqb_tells c ch) [
    | inl g ↦
        let short : k < length (got ch) = subst (λ j. k < length (got j)) g.1 h in
        ap (λ ms. slice_index_or ms k []) (ap got' g.1 ∙ gets.there) ∙ get_or-append (got ch) (payload ∷ []) [] k short ∙ ap (λ j. slice_index_or (got j) k []) (sym g.1)
    | inr g ↦ ap (λ ms. slice_index_or ms k []) (gets.elsewhere c g.1)
  ]

  pub grows_extends : Extends (payloads_between s got) (payloads_between s got')
  grows_extends = record { same = λ i j k h. entry_stays (channel_between s i j) k h }

-- a sender's own value is the same where its node sees the same
pub own_seen : (f : Function) (l : Layout) (s : Shape) → IsLaidOut f l → (inputs got got' : ℕ → List (List Value)) → ((n : ℕ) → SeesSame l (payloads_between s got) (payloads_between s got') n (length (inputs n))) →
    (i j k : ℕ) (p : List Value) → i < length l.nodes → k < length (inputs i) → HasOwnValues l s inputs got i j k p → HasOwnValues l s inputs got' i j k p
own_seen f l s layout inputs got got' sees i j k p b h own c x cb from to gives =
    ap (λ es. newest es x) (local_runs_same_seen f l layout (payloads_between s got) (payloads_between s got') i (length (inputs i)) b (sees i) (calls [] 0) (row_at (inputs i)) (suc k) (omega (arith, h))) ∙ own c x cb from to gives

-- so it is over the longer lists
pub own_extended : (f : Function) (l : Layout) (s : Shape) → IsLaidOut f l → (inputs got got' : ℕ → List (List Value)) → HasEnough l s inputs got → Extends (payloads_between s got) (payloads_between s got') →
    (i j k : ℕ) (p : List Value) → i < length l.nodes → k < length (inputs i) → HasOwnValues l s inputs got i j k p → HasOwnValues l s inputs got' i j k p
own_extended f l s layout inputs got got' enough extends = own_seen f l s layout inputs got got' (sees_extended l inputs (payloads_between s got) (payloads_between s got') extends enough)

-- those delivered stay so when nodes go on
pub owns_longer : (l : Layout) (s : Shape) (inputs inputs' got : ℕ → List (List Value)) (more : ℕ → List (List Value)) → ((n : ℕ) → inputs' n ≡ inputs n ++ more n) → PayloadsAreOwn l s inputs got → PayloadsAreOwn l s inputs' got
owns_longer l s inputs inputs' got more grown owns = record {
  before = λ c k cb carries h. let a = owns.before c k cb carries h in let e = ap length (grown (from_of s c)) in let m = length-append (inputs (from_of s c)) (more (from_of s c)) in omega (arith, a, e, m);
  own = λ c k cb carries h. own_stays l s inputs inputs' got more grown (from_of s c) (to_of s c) k _ (owns.before c k cb carries h) (owns.own c k cb carries h);
}

-- and when a payload more is delivered that is its sender's own
module _ (f : Function) (l : Layout) (s : Shape) (layout : IsLaidOut f l) (inputs got got' : ℕ → List (List Value)) (enough : HasEnough l s inputs got) (ends : (c : ℕ) → c < chan_count s → from_of s c < length l.nodes)
    (ch : ℕ) (payload : List Value) (gets : Gets got got' ch payload) (owns : PayloadsAreOwn l s inputs got)
    (late : ch < chan_count s → carries_data s ch ≡ true → length (got ch) < length (inputs (from_of s ch)))
    (own : ch < chan_count s → carries_data s ch ≡ true → HasOwnValues l s inputs got (from_of s ch) (to_of s ch) (length (got ch)) payload) where
  entry_is : (c k : ℕ) → k < length (got' c) → (k < length (got c)) ⊎ (c ≡ ch) × (k ≡ length (got ch))
  entry_is c k h = elim (eqb_tells c ch) [
    | inl g ↦
        let h' : k < length (got' ch) = subst (λ j. k < length (got' j)) g.1 h in
        let e = ap length gets.there in
        let m = length-append (got ch) (payload ∷ []) in
        elim (cases_lt k (length (got ch))) [
          | inl a ↦ inl (subst (λ j. k < length (got j)) (sym g.1) a)
          | inr a ↦ inr (g.1, omega (arith, a, h', e, m))
        ]
    | inr g ↦ inl (subst (λ ms. k < length ms) (gets.elsewhere c g.1) h)
  ]

  own_there : (i j k : ℕ) (p : List Value) → i < length l.nodes → k < length (inputs i) → HasOwnValues l s inputs got i j k p → HasOwnValues l s inputs got' i j k p
  own_there = own_extended f l s layout inputs got got' enough (grows_extends s got got' ch payload gets)

  new_own : ch < chan_count s → carries_data s ch ≡ true → HasOwnValues l s inputs got' (from_of s ch) (to_of s ch) (length (got ch)) (slice_index_or (got' ch) (length (got ch)) [])
  new_own cb carries =
      let entry : slice_index_or (got' ch) (length (got ch)) [] ≡ payload = ap (λ ms. slice_index_or ms (length (got ch)) []) gets.there ∙ get_or-append_seam (got ch) payload [] [] in
      subst (λ p. HasOwnValues l s inputs got' (from_of s ch) (to_of s ch) (length (got ch)) p) (sym entry) (own_there (from_of s ch) (to_of s ch) (length (got ch)) payload (ends ch cb) (late cb carries) (own cb carries))

  pub owns_delivered : PayloadsAreOwn l s inputs got'
  owns_delivered = record {
    before = λ c k cb carries h. elim (entry_is c k h) [
      | inl a ↦ owns.before c k cb carries a
      | inr a ↦
          let there = late (subst (λ j. j < chan_count s) a.0 cb) (subst (λ j. carries_data s j ≡ true) a.0 carries) in
          subst (λ j. k < length (inputs (from_of s j))) (sym a.0) (subst (λ m. m < length (inputs (from_of s ch))) (sym a.1) there)
    ];
    own = λ c k cb carries h. elim (entry_is c k h) [
      | inl a ↦
          subst (λ p. HasOwnValues l s inputs got' (from_of s c) (to_of s c) k p) (sym (entry_stays s got got' ch payload gets c k a))
          (own_there (from_of s c) (to_of s c) k _ (ends c cb) (owns.before c k cb carries a) (owns.own c k cb carries a))
      | inr a ↦
          subst (λ j. HasOwnValues l s inputs got' (from_of s j) (to_of s j) k (slice_index_or (got' j) k [])) (sym a.0)
          (subst (λ m. HasOwnValues l s inputs got' (from_of s ch) (to_of s ch) m (slice_index_or (got' ch) m [])) (sym a.1)
          (new_own (subst (λ j. j < chan_count s) a.0 cb) (subst (λ j. carries_data s j ≡ true) a.0 carries)))
    ];
  }
