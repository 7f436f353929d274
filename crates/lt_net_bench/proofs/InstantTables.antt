-- What an instant puts into payloads and tracks.
use Rattle.std.proofs.Common.{◌≡◌, ◌≢◌, inl, inr, ℕ, zero, suc, ◌<◌, Bool, true, false, List, [], ◌∷◌, ◌++◌, length, set, refl, sym, ap, ◌∙◌, subst, arith}
use Rattle.std.specs.Prelude.{slice_index_or, ◌==◌}
use Rattle.std.proofs.lemmas.Bool.{cases_lt}
use Rattle.std.proofs.lemmas.Bool.Decides.{eqb_tells}
use Rattle.std.proofs.lemmas.List.{get_or-set_same, get_or-set_other}
use Rattle.lt_base.specs.declared.value.Value.{Value}
use Rattle.lt_base.specs.declared.value.Cell.{Cell}
use Rattle.lt_base.specs.declared.value.Cell.TheVariants.{Absent, Here}
use Rattle.lt_place_reads.specs.declared.crossing.Crossing.{Crossing}
use Rattle.lt_place.specs.Layout.{no_crossing}
use Rattle.lt_net_node.specs.declared.route.Route.{Route}
use Rattle.lt_net_bench.specs.declared.exit.Exit.{Exit}
use Rattle.lt_net_node.specs.Fed.{route_of}
use Rattle.lt_net_bench.specs.Routes.{exit_of, put_cell, put_if, filled, push_cell_if, tracked}
use Rattle.lt_net_bench.specs.Track.{TrackState, track_at}
use Rattle.lt_net_bench.proofs.Filling.{filled-size, filled-length, tracked-size, tracked-later}

-- the track of an output that the node gives out has one cell more, and any other stays
module _ (exits : List Exit) (i : ℕ) (outs : List Cell) (ts : List TrackState) where
  after_push : (b : Bool) (y : ℕ) (cell : Cell) (us : List TrackState) → y < length us → b ≡ true → (track_at (push_cell_if b y cell us) y).cells ≡ (track_at us y).cells ++ cell ∷ []
  after_push true y cell us lt h = ap (λ (z : TrackState). z.cells) (get_or-set_same us y _ _ lt)
  after_push false y cell us lt h = absurd (cc)

  no_push : (b : Bool) (y : ℕ) (cell : Cell) (us : List TrackState) → b ≡ false → track_at (push_cell_if b y cell us) y ≡ track_at us y
  no_push false y cell us h = refl
  no_push true y cell us h = absurd (cc)

  other_push : (b : Bool) (y : ℕ) (cell : Cell) (us : List TrackState) (k : ℕ) → k ≢ y → track_at (push_cell_if b y cell us) k ≡ track_at us k
  other_push true y cell us k ne = get_or-set_other us y k _ _ ne
  other_push false y cell us k ne = refl

  pub tracked-here : (n k : ℕ) → k < n → k < length ts → ((exit_of exits k).node == i) ≡ true → (track_at (tracked exits i outs n ts) k).cells ≡ (track_at ts k).cells ++ slice_index_or outs (exit_of exits k).out Absent ∷ []
  tracked-here zero k lt kt on = absurd (omega (arith, lt))
  tracked-here (suc y) k lt kt on = elim (eqb_tells k y) [
    | inl e ↦ subst (λ y. (track_at (push_cell_if ((exit_of exits y).node == i) y (slice_index_or outs (exit_of exits y).out Absent) (tracked exits i outs y ts)) k).cells ≡ (track_at ts k).cells ++ slice_index_or outs (exit_of exits k).out Absent ∷ []) e.1
        (after_push ((exit_of exits k).node == i) k _ (tracked exits i outs k ts) (subst (λ m. k < m) (sym (tracked-size exits i outs k ts)) kt) on
        ∙ ap (λ (z : TrackState). z.cells ++ slice_index_or outs (exit_of exits k).out Absent ∷ []) (tracked-later exits i outs k ts k (omega arith)))
    | inr e ↦ ap (λ (z : TrackState). z.cells) (other_push _ y _ (tracked exits i outs y ts) k e.1) ∙ tracked-here y k (let ne = e.1 in below k y lt ne) kt on
  ]
    where
      below : (k y : ℕ) → k < suc y → k ≢ y → k < y
      below k y lt ne = elim (cases_lt k y) [ inl h ↦ h | inr h ↦ absurd (ne (omega (arith, h, lt))) ]

  pub tracked-other : (n k : ℕ) → ((exit_of exits k).node == i) ≡ false → track_at (tracked exits i outs n ts) k ≡ track_at ts k
  tracked-other zero k off = refl
  tracked-other (suc y) k off = elim (eqb_tells k y) [
    | inl e ↦ subst (λ y. track_at (push_cell_if ((exit_of exits y).node == i) y (slice_index_or outs (exit_of exits y).out Absent) (tracked exits i outs y ts)) k ≡ track_at ts k) e.1
        (no_push ((exit_of exits k).node == i) k _ (tracked exits i outs k ts) off ∙ tracked-other-below k off)
    | inr e ↦ other_push _ y _ (tracked exits i outs y ts) k e.1 ∙ tracked-other y k off
  ]
    where
      tracked-other-below : (k : ℕ) → ((exit_of exits k).node == i) ≡ false → track_at (tracked exits i outs k ts) k ≡ track_at ts k
      tracked-other-below k off = tracked-later exits i outs k ts k (omega arith)

-- the payloads
module _ (cross : List Crossing) (routes : List Route) (i : ℕ) (outs : List Cell) (ps : List (List Value)) where
  abbrev sender : ℕ → Bool
  sender c = (slice_index_or cross c no_crossing).from == i

  put_other : (cell : Cell) (ch place : ℕ) (qs : List (List Value)) (k : ℕ) → k ≢ ch → slice_index_or (put_cell cell ch place qs) k [] ≡ slice_index_or qs k []
  put_other Absent ch place qs k ne = refl
  put_other (Here v) ch place qs k ne = get_or-set_other qs ch k _ [] ne

  put_if_other : (b : Bool) (r : Route) (qs : List (List Value)) (k : ℕ) → (b ≡ true → k ≢ r.channel) → slice_index_or (put_if b outs r qs) k [] ≡ slice_index_or qs k []
  put_if_other true r qs k ne = put_other (slice_index_or outs r.out Absent) r.channel r.place qs k (ne refl)
  put_if_other false r qs k ne = refl

  -- a channel on which the node sends nothing keeps its payload
  pub filled-other : (n k : ℕ) → ((c : ℕ) → c < n → sender c ≡ true → k ≢ (route_of routes c).channel) → slice_index_or (filled cross routes i outs n ps) k [] ≡ slice_index_or ps k []
  filled-other zero k h = refl
  filled-other (suc c) k h = put_if_other (sender c) (route_of routes c) (filled cross routes i outs c ps) k (h c (omega arith)) ∙ filled-other c k (λ c lt. h c (omega (arith, lt)))

  -- what a put leaves at another place
  put_elsewhere : (cell : Cell) (ch place : ℕ) (qs : List (List Value)) (k p : ℕ) (d : Value) → ch < length qs → (k ≡ ch → p ≢ place) → slice_index_or (slice_index_or (put_cell cell ch place qs) k []) p d ≡ slice_index_or (slice_index_or qs k []) p d
  put_elsewhere Absent ch place qs k p d lt ne = refl
  put_elsewhere (Here v) ch place qs k p d lt ne = elim (eqb_tells k ch) [
    | inl e ↦ subst (λ k. slice_index_or (slice_index_or (set qs ch (set (slice_index_or qs ch []) place v)) k []) p d ≡ slice_index_or (slice_index_or qs k []) p d) (sym e.1)
        (ap (λ xs. slice_index_or xs p d) (get_or-set_same qs ch _ [] lt) ∙ get_or-set_other (slice_index_or qs ch []) place p v d (ne e.1))
    | inr e ↦ ap (λ xs. slice_index_or xs p d) (get_or-set_other qs ch k _ [] e.1)
  ]

  put_if_elsewhere : (b : Bool) (r : Route) (qs : List (List Value)) (k p : ℕ) (d : Value) → (b ≡ true → r.channel < length qs) → (b ≡ true → k ≡ r.channel → p ≢ r.place) → slice_index_or (slice_index_or (put_if b outs r qs) k []) p d ≡ slice_index_or (slice_index_or qs k []) p d
  put_if_elsewhere true r qs k p d lt ne = put_elsewhere (slice_index_or outs r.out Absent) r.channel r.place qs k p d (lt refl) (ne refl)
  put_if_elsewhere false r qs k p d lt ne = refl

  put_here : (b : Bool) (r : Route) (qs : List (List Value)) (v d : Value) → b ≡ true → slice_index_or outs r.out Absent ≡ Here v → r.channel < length qs → r.place < length (slice_index_or qs r.channel []) → slice_index_or (slice_index_or (put_if b outs r qs) r.channel []) r.place d ≡ v
  put_here true r qs v d on is lt in_place =
      ap (λ cell. slice_index_or (slice_index_or (put_cell cell r.channel r.place qs) r.channel []) r.place d) is
      ∙ ap (λ xs. slice_index_or xs r.place d) (get_or-set_same qs r.channel _ [] lt)
      ∙ get_or-set_same (slice_index_or qs r.channel []) r.place v d in_place
  put_here false r qs v d on is lt in_place = absurd (cc)

  -- the value of a crossing that the node sends, where no later one has its place
  pub filled-here : (n c : ℕ) (v d : Value) → c < n → sender c ≡ true → slice_index_or outs (route_of routes c).out Absent ≡ Here v →
      ((c : ℕ) → c < n → sender c ≡ true → (route_of routes c).channel < length ps) → ((c : ℕ) → c < n → sender c ≡ true → (route_of routes c).place < length (slice_index_or ps (route_of routes c).channel [])) →
      ((b c : ℕ) → b < n → c < n → b ≢ c → sender b ≡ true → sender c ≡ true → (route_of routes c).channel ≡ (route_of routes b).channel → (route_of routes c).place ≢ (route_of routes b).place) →
      slice_index_or (slice_index_or (filled cross routes i outs n ps) (route_of routes c).channel []) (route_of routes c).place d ≡ v
  filled-here zero c v d lt on is channels places apart = absurd (omega (arith, lt))
  filled-here (suc b) c v d lt on is channels places apart = elim (eqb_tells c b) [
    | inl e ↦ subst (λ b. slice_index_or (slice_index_or (put_if (sender b) outs (route_of routes b) (filled cross routes i outs b ps)) (route_of routes c).channel []) (route_of routes c).place d ≡ v) e.1
        (put_here (sender c) (route_of routes c) (filled cross routes i outs c ps) v d on is
        (subst (λ m. (route_of routes c).channel < m) (sym (filled-size cross routes i outs c ps)) (channels c lt on))
        (subst (λ m. (route_of routes c).place < m) (sym (filled-length cross routes i outs ps c (λ k kc. channels k (omega (arith, kc, lt))) (route_of routes c).channel)) (places c lt on)))
    | inr e ↦
        put_if_elsewhere (sender b) (route_of routes b) (filled cross routes i outs b ps) (route_of routes c).channel (route_of routes c).place d
        (λ ob. subst (λ m. (route_of routes b).channel < m) (sym (filled-size cross routes i outs b ps)) (channels b (omega arith) ob))
        (λ ob same. apart b c (omega arith) lt (λ q. e.1 (sym q)) ob on same)
        ∙ filled-here b c v d (below c b lt e.1) on is (λ k kb. channels k (omega (arith, kb))) (λ k kb. places k (omega (arith, kb))) (λ a k ab kb. apart a k (omega (arith, ab)) (omega (arith, kb)))
  ]
    where
      below : (c b : ℕ) → c < suc b → c ≢ b → c < b
      below c b lt ne = elim (cases_lt c b) [ inl h ↦ h | inr h ↦ absurd (ne (omega (arith, h, lt))) ]
