-- The channels of the large input: its nodes stand in a ring.
use Rattle.std.proofs.Common.{◌≡◌, ℕ, zero, suc, ◌+◌, ◌<◌, ◌≤◌, Bool, true, false, ◌&&◌, ◌||◌, ◌==◌, List, [], ◌∷◌, length, get_or, Some, refl, sym, ◌∙◌, subst, arith, eqb-true, length-append}
use Rattle.std.specs.List.{list_any}
use Rattle.lt_base.specs.declared.operators.Bin.TheVariants.{Add}
use Rattle.lt_base.specs.declared.value.Value.{Value}
use Rattle.lt_base.specs.Expression.{Expression, variable, binary, delayed}
use Rattle.lt_base.specs.Meaning.{right_of}
use Rattle.lt_arch.specs.declared.chan.Chan.{Chan}
use Rattle.lt_arch.specs.declared.chan.ChanKind.{ChanKind}
use Rattle.lt_arch.specs.declared.chan.ChanKind.TheVariants.{Data, Ack}
use Rattle.lt_arch.specs.declared.nodes.NamedNodes.{NamedNodes}
use Rattle.lt_arch.specs.declared.placement.Placement.TheVariants.{Named}
use Rattle.lt_arch.specs.declared.timing.Protocol.TheVariants.{BackPressure}
use Rattle.lt_place_reads.specs.declared.crossing.Crossing.{Crossing}
use Rattle.lt_place.specs.declared.layout.Layout.{Layout}
use Rattle.lt_place.specs.Layout.{HasCrossings, crossing_of, no_crossing}
use Rattle.lt_net_node.specs.Layout.{joins}
use Rattle.lt_net_node.specs.Channels.{has_channel, channel, push_channel_if, chans_from, chans_below, all_chans}
use Rattle.lt_big_texts.specs.Bounds.{large_nodes}
use Rattle.lt_big_accepted.proofs.Flat.{one_and, flat_rights, flat_form, last_of}
use Rattle.lt_big_accepted.proofs.Seats.{seat, seat_is, each_flat}

-- ---- what crosses

-- each node gives to the next one, and the last one to the first
abbrev ring : (i j : ℕ) → Bool
ring i j = ((i + 1) == j) || ((i == 7) && (j == 0))

-- where a delay delays a variable as a whole, its node gives to that of the delay, or is the same
abbrev GivesNext : ℕ × Expression → Type 0
GivesNext q = (v : Value) (y : ℕ) → q.1 ≡ delayed v (variable y) → ring (seat y) (seat q.0) ≡ true

gives : (x reader : ℕ) → ring (seat x) (seat reader) ≡ true → (v : Value) (y : ℕ) → last_of x ≡ delayed v (variable y) → ring (seat y) (seat reader) ≡ true
gives x reader is v y same = let read : x ≡ y = cc in subst (λ (z : ℕ). ring (seat z) (seat reader) ≡ true) read is

no_delay : (a b : Expression) (reader : ℕ) (v : Value) (y : ℕ) → binary Add a b ≡ delayed v (variable y) → ring (seat y) (seat reader) ≡ true
no_delay a b reader v y same = absurd cc

no_more : (x reader : ℕ) (v : Value) (y : ℕ) → one_and x ≡ delayed v (variable y) → ring (seat y) (seat reader) ≡ true
no_more x reader v y same = absurd cc

gives_next : (x : ℕ) (e : Expression) → right_of flat_rights x ≡ Some e → GivesNext (x, e)
gives_next =
    each_flat GivesNext (
      no_delay (variable 0) (variable 9) 1,
      (
        no_more 10 2,
        (
          no_more 11 3,
          (
            no_more 12 4,
            (
              no_more 13 5,
              (
                no_more 14 6,
                (
                  no_more 15 7,
                  (
                    no_more 16 8,
                    (gives 8 9 refl, (gives 1 10 refl, (gives 2 11 refl, (gives 3 12 refl, (gives 4 13 refl, (gives 5 14 refl, (gives 6 15 refl, (gives 7 16 refl, tt)))))))),
                  ),
                ),
              ),
            ),
          ),
        ),
      ),
    )

-- an element that passes
record PassesAt (p : Crossing → Bool) (xs : List Crossing) : Type 0 where
  place : ℕ
  low : place < length xs
  passes : p (get_or xs place no_crossing) ≡ true

first_passes : (p : Crossing → Bool) (x : Crossing) (xs : List Crossing) → (list_any p xs ≡ true → PassesAt p xs) → (b : Bool) → p x ≡ b → (b || list_any p xs) ≡ true → PassesAt p (x ∷ xs)
first_passes p x xs others true here it = record { place = 0; low = omega arith; passes = here }
first_passes p x xs others false here it =
    let later = others it in
    let low : later.place < length xs = later.low in
    record { place = suc later.place; low = omega (arith, low); passes = later.passes }

passes_at : (p : Crossing → Bool) (xs : List Crossing) → list_any p xs ≡ true → PassesAt p xs
passes_at p [] is = absurd cc
passes_at p (x ∷ xs) is = first_passes p x xs (λ it. passes_at p xs it) (p x) refl is

both_equal : (a b i j : ℕ) → ((a == i) && (b == j)) ≡ true → (a ≡ i) × (b ≡ j)
both_equal a b i j is = by (a == i) refl (b == j) refl is
  where
    by : (c : Bool) → (a == i) ≡ c → (d : Bool) → (b == j) ≡ d → (c && d) ≡ true → (a ≡ i) × (b ≡ j)
    by true p true q it = (eqb-true a i p, eqb-true b j q)
    by true p false q it = absurd cc
    by false p d q it = absurd cc

module _ (named : NamedNodes) (is : named.nodes ≡ large_nodes) (l : Layout) (crosses : HasCrossings flat_form (Named named) l) where
  crossing_ring : (c : ℕ) → c < length l.cross → ring (crossing_of l c).from (crossing_of l c).to ≡ true
  crossing_ring c low =
      let next = gives_next (crossing_of l c).reader (delayed (crossing_of l c).first (variable (crossing_of l c).var)) (crosses.readers c low) (crossing_of l c).first (crossing_of l c).var refl in
      let from : (crossing_of l c).from ≡ seat (crossing_of l c).var = crosses.from_node c low ∙ seat_is named is (crossing_of l c).var in
      let to : (crossing_of l c).to ≡ seat (crossing_of l c).reader = crosses.to_node c low ∙ seat_is named is (crossing_of l c).reader in
      let same : ring (crossing_of l c).from (crossing_of l c).to ≡ ring (seat (crossing_of l c).var) (seat (crossing_of l c).reader) = λ t. ring (from t) (to t) in
      same ∙ next

  crossed_ring : (i j : ℕ) → list_any (joins i j) l.cross ≡ true → ring i j ≡ true
  unfolding crossing_of
  crossed_ring i j some =
      let at = passes_at (joins i j) l.cross some in
      let ends = both_equal (crossing_of l at.place).from (crossing_of l at.place).to i j at.passes in
      let from : (crossing_of l at.place).from ≡ i = ends.0 in
      let to : (crossing_of l at.place).to ≡ j = ends.1 in
      let same : ring (crossing_of l at.place).from (crossing_of l at.place).to ≡ ring i j = λ t. ring (from t) (to t) in
      sym same ∙ crossing_ring at.place at.low

-- ---- how many channels there are

abbrev Has : Type 0
Has = ChanKind → ℕ → ℕ → Bool

-- each channel of the one is one of the other
abbrev IsWithin : Has → Has → Type 0
IsWithin few many = (kind : ChanKind) (i j : ℕ) → few kind i j ≡ true → many kind i j ≡ true

push_more : (a b : Bool) (ch : Chan) (cs ds : List Chan) → (a ≡ true → b ≡ true) → length cs ≤ length ds → length (push_channel_if a ch cs) ≤ length (push_channel_if b ch ds)
push_more true true ch cs ds more le = let p = length-append cs (ch ∷ []) in let q = length-append ds (ch ∷ []) in omega (arith, le, p, q)
push_more true false ch cs ds more le = (let wrong = more refl in absurd cc)
push_more false true ch cs ds more le = let q = length-append ds (ch ∷ []) in omega (arith, le, q)
push_more false false ch cs ds more le = le

module _ (few many : Has) (within : IsWithin few many) (kind : ChanKind) where
  from_more : (i n : ℕ) (cs ds : List Chan) → length cs ≤ length ds → length (chans_from few kind i n cs) ≤ length (chans_from many kind i n ds)
  from_more i zero cs ds le = le
  from_more i (suc j) cs ds le = push_more (few kind i j) (many kind i j) (channel kind i j) (chans_from few kind i j cs) (chans_from many kind i j ds) (within kind i j) (from_more i j cs ds le)

  below_more : (n m : ℕ) (cs ds : List Chan) → length cs ≤ length ds → length (chans_below few kind n m cs) ≤ length (chans_below many kind n m ds)
  below_more n zero cs ds le = le
  below_more n (suc i) cs ds le = from_more i n (chans_below few kind n i cs) (chans_below many kind n i ds) (below_more n i cs ds le)

all_more : (few many : Has) → IsWithin few many → (n : ℕ) → length (all_chans few n) ≤ length (all_chans many n)
all_more few many within n = below_more few many within Ack n n (chans_below few Data n n []) (chans_below many Data n n []) (below_more few many within Data n n [] [] (omega arith))

-- data along the ring, and acknowledgements back
abbrev ring_channel : Has
ring_channel Data i j = ring i j
ring_channel Ack i j = ring j i

sixteen : length (all_chans ring_channel 8) ≡ 16
sixteen = refl

pub few_channels : (named : NamedNodes) → named.nodes ≡ large_nodes → (l : Layout) → HasCrossings flat_form (Named named) l → length (all_chans (has_channel l.cross BackPressure) 8) ≤ 16
few_channels named is l crosses = let le = all_more (has_channel l.cross BackPressure) ring_channel within 8 in omega (arith, le, sixteen)
  where
    within : IsWithin (has_channel l.cross BackPressure) ring_channel
    within Data i j some = crossed_ring named is l crosses i j some
    within Ack i j some = crossed_ring named is l crosses j i some
