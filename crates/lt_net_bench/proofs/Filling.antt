-- What is put into payloads, and what into tracks.
use Rattle.std.proofs.Common.{◌≡◌, ◌≢◌, inl, inr, ℕ, zero, suc, ◌<◌, ◌≤◌, Bool, true, false, List, [], length, set, refl, sym, ap, ◌∙◌, subst, arith, length-set, ◌==◌}
use Rattle.std.specs.Prelude.{slice_index_or}
use Rattle.std.proofs.lemmas.Bool.Decides.{eqb_tells}
use Rattle.std.proofs.lemmas.List.{get_or-set_same, get_or-set_other, get_or_default}
use Rattle.lt_base.specs.declared.value.Value.{Value}
use Rattle.lt_base.specs.declared.value.Cell.{Cell}
use Rattle.lt_base.specs.declared.value.Cell.TheVariants.{Absent, Here}
use Rattle.lt_place_reads.specs.declared.crossing.Crossing.{Crossing}
use Rattle.lt_place.specs.Layout.{no_crossing}
use Rattle.lt_net_node.specs.declared.route.Route.{Route}
use Rattle.lt_net_bench.specs.declared.exit.Exit.{Exit}
use Rattle.lt_net_node.specs.Fed.{route_of}
use Rattle.lt_net_bench.specs.Routes.{exit_of, put_cell, put_if, filled, push_cell_if, tracked}
use Rattle.lt_net_bench.specs.Track.{TrackState, track_at}

-- a payload keeps its length, and there are as many of them
put_cell-size : (cell : Cell) (ch place : ℕ) (ps : List (List Value)) → length (put_cell cell ch place ps) ≡ length ps
put_cell-size Absent ch place ps = refl
put_cell-size (Here v) ch place ps = length-set ps ch _

put_if-size : (b : Bool) (outs : List Cell) (r : Route) (ps : List (List Value)) → length (put_if b outs r ps) ≡ length ps
put_if-size true outs r ps = put_cell-size (slice_index_or outs r.out Absent) r.channel r.place ps
put_if-size false outs r ps = refl

pub filled-size : (cross : List Crossing) (routes : List Route) (i : ℕ) (outs : List Cell) (n : ℕ) (ps : List (List Value)) → length (filled cross routes i outs n ps) ≡ length ps
filled-size cross routes i outs zero ps = refl
filled-size cross routes i outs (suc c) ps = put_if-size _ outs (route_of routes c) (filled cross routes i outs c ps) ∙ filled-size cross routes i outs c ps

put_cell-length : (cell : Cell) (ch place : ℕ) (ps : List (List Value)) → ch < length ps → (c : ℕ) → length (slice_index_or (put_cell cell ch place ps) c []) ≡ length (slice_index_or ps c [])
put_cell-length Absent ch place ps lt c = refl
put_cell-length (Here v) ch place ps lt c = elim (eqb_tells c ch) [
  | inl e ↦ subst (λ c. length (slice_index_or (set ps ch (set (slice_index_or ps ch []) place v)) c []) ≡ length (slice_index_or ps c [])) (sym e.1) (ap length (get_or-set_same ps ch _ [] lt) ∙ length-set (slice_index_or ps ch []) place v)
  | inr e ↦ ap length (get_or-set_other ps ch c _ [] e.1)
]

put_if-length : (b : Bool) (outs : List Cell) (r : Route) (ps : List (List Value)) → (b ≡ true → r.channel < length ps) → (c : ℕ) → length (slice_index_or (put_if b outs r ps) c []) ≡ length (slice_index_or ps c [])
put_if-length true outs r ps lt c = put_cell-length (slice_index_or outs r.out Absent) r.channel r.place ps (lt refl) c
put_if-length false outs r ps lt c = refl

module _ (cross : List Crossing) (routes : List Route) (i : ℕ) (outs : List Cell) (ps : List (List Value)) where
  abbrev sends : ℕ → Bool
  sends c = (slice_index_or cross c no_crossing).from == i

  pub filled-length : (n : ℕ) → ((c : ℕ) → c < n → sends c ≡ true → (route_of routes c).channel < length ps) → (ch : ℕ) → length (slice_index_or (filled cross routes i outs n ps) ch []) ≡ length (slice_index_or ps ch [])
  filled-length zero h ch = refl
  filled-length (suc c) h ch =
      put_if-length (sends c) outs (route_of routes c) (filled cross routes i outs c ps) (λ on. subst (λ k. (route_of routes c).channel < k) (sym (filled-size cross routes i outs c ps)) (h c (omega arith) on)) ch
      ∙ filled-length c (λ c lt on. h c (omega (arith, lt)) on) ch

tracked_if-size : (b : Bool) (y : ℕ) (cell : Cell) (ts : List TrackState) → length (push_cell_if b y cell ts) ≡ length ts
tracked_if-size true y cell ts = length-set ts y _
tracked_if-size false y cell ts = refl

pub tracked-size : (exits : List Exit) (i : ℕ) (outs : List Cell) (n : ℕ) (ts : List TrackState) → length (tracked exits i outs n ts) ≡ length ts
tracked-size exits i outs zero ts = refl
tracked-size exits i outs (suc y) ts = tracked_if-size _ y _ (tracked exits i outs y ts) ∙ tracked-size exits i outs y ts

-- a track that comes later is as it was
push_if-other : (b : Bool) (y : ℕ) (cell : Cell) (ts : List TrackState) (k : ℕ) → k ≢ y → track_at (push_cell_if b y cell ts) k ≡ track_at ts k
push_if-other true y cell ts k ne = get_or-set_other ts y k _ _ ne
push_if-other false y cell ts k ne = refl

pub tracked-later : (exits : List Exit) (i : ℕ) (outs : List Cell) (n : ℕ) (ts : List TrackState) (k : ℕ) → n ≤ k → track_at (tracked exits i outs n ts) k ≡ track_at ts k
tracked-later exits i outs zero ts k h = refl
tracked-later exits i outs (suc y) ts k h =
    push_if-other _ y _ (tracked exits i outs y ts) k (λ e. absurd (omega (arith, e, h))) ∙ tracked-later exits i outs y ts k (omega (arith, h))

-- a track keeps its room
push_if-room : (b : Bool) (y : ℕ) (cell : Cell) (ts : List TrackState) → y < length ts → (k : ℕ) → (track_at (push_cell_if b y cell ts) k).room ≡ (track_at ts k).room
push_if-room false y cell ts lt k = refl
push_if-room true y cell ts lt k = elim (eqb_tells k y) [
  | inl e ↦ subst (λ k. (track_at (push_cell_if true y cell ts) k).room ≡ (track_at ts k).room) (sym e.1) (ap (λ (z : TrackState). z.room) (get_or-set_same ts y _ _ lt))
  | inr e ↦ ap (λ (z : TrackState). z.room) (get_or-set_other ts y k _ _ e.1)
]

pub tracked-room : (exits : List Exit) (i : ℕ) (outs : List Cell) (n : ℕ) (ts : List TrackState) → n ≤ length ts → (k : ℕ) → (track_at (tracked exits i outs n ts) k).room ≡ (track_at ts k).room
tracked-room exits i outs zero ts le k = refl
tracked-room exits i outs (suc y) ts le k =
    push_if-room _ y _ (tracked exits i outs y ts) (let e = tracked-size exits i outs y ts in omega (arith, e, le)) k ∙ tracked-room exits i outs y ts (omega (arith, le)) k

-- by what code has
pub fill_place : (cross : List Crossing) (routes : List Route) (i : ℕ) (outs : List Cell) (ps bs : List (List Value)) (c : ℕ) (d : Crossing) → c < length cross → bs ≡ filled cross routes i outs c ps →
    ((c : ℕ) → c < length cross → ((slice_index_or cross c no_crossing).from == i) ≡ true → (route_of routes c).channel < length ps) →
    ((c : ℕ) → c < length cross → ((slice_index_or cross c no_crossing).from == i) ≡ true → (route_of routes c).place < length (slice_index_or ps (route_of routes c).channel [])) →
    ((slice_index_or cross c d).from == i) ≡ true → (route_of routes c).place < length (slice_index_or bs (route_of routes c).channel [])
fill_place cross routes i outs ps bs c d lt is channels places on =
    let on' : ((slice_index_or cross c no_crossing).from == i) ≡ true = ap (λ (z : Crossing). z.from == i) (get_or_default cross c no_crossing d lt) ∙ on in
    subst (λ n. (route_of routes c).place < n)
    (sym (ap (λ xs. length (slice_index_or xs (route_of routes c).channel [])) is ∙ filled-length cross routes i outs ps c (λ k kc. channels k (omega (arith, kc, lt))) (route_of routes c).channel))
    (places c lt on')

pub append_room : (exits : List Exit) (i : ℕ) (outs : List Cell) (ts us : List TrackState) (y : ℕ) → y < length exits → us ≡ tracked exits i outs y ts →
    ((y : ℕ) → y < length exits → ((exit_of exits y).node == i) ≡ true → length (track_at ts y).cells < (track_at ts y).room) →
    ((exit_of exits y).node == i) ≡ true → length (track_at us y).cells < (track_at us y).room
append_room exits i outs ts us y lt is room on =
    subst (λ (z : TrackState). length z.cells < z.room) (sym (ap (λ xs. track_at xs y) is ∙ tracked-later exits i outs y ts y (omega arith))) (room y lt on)
