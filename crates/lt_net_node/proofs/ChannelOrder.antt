-- Which channels there are, and in which order they stand.
use Rattle.std.proofs.Common.{◌≡◌, inl, inr, ℕ, zero, suc, ◌<◌, ◌≤◌, ◌+◌, ◌*◌, Bool, true, false, List, [], ◌∷◌, length, length-append, refl, arith, All, AllPairs, Contains}
use Rattle.std.proofs.lemmas.Bool.Decides.{eqb_tells}
use Rattle.std.proofs.lemmas.List.Quantifiers.{all_pairs_push}
use Rattle.std.proofs.lemmas.List.Elements.{All-push, All-weaker, All-nil, Contains-append_left, Contains-push}
use Rattle.lt_arch.specs.declared.chan.Chan.{Chan}
use Rattle.lt_arch.specs.declared.chan.ChanKind.{ChanKind}
use Rattle.lt_arch.specs.declared.chan.ChanKind.TheVariants.{Data, Ack}
use Rattle.lt_net_node.specs.Channels.{channel, push_channel_if, chans_from, chans_below, all_chans, kind_rank, StandsBefore, IsBefore}

-- In order.

-- all stand in order, and before the channels of a kind from i to j
record AreOrdered (kind : ChanKind) (i j : ℕ) (cs : List Chan) : Type 0 where
  pairs : AllPairs IsBefore cs
  before : All (StandsBefore kind i j) cs

next_to : (kind : ChanKind) (i j : ℕ) (ch : Chan) → StandsBefore kind i j ch → StandsBefore kind i (suc j) ch
next_to kind i j ch h = elim h [
  | inl k ↦ inl k
  | inr w ↦ elim w.1 [
    | inl f ↦ inr (w.0, inl f)
    | inr f ↦ inr (w.0, inr (f.0, omega (arith, f.1)))
  ]
]

next_from : (kind : ChanKind) (i j : ℕ) (ch : Chan) → StandsBefore kind i j ch → StandsBefore kind (suc i) 0 ch
next_from kind i j ch h = elim h [
  | inl k ↦ inl k
  | inr w ↦ elim w.1 [
    | inl f ↦ inr (w.0, inl (omega (arith, f)))
    | inr f ↦ inr (w.0, inl (omega (arith, f.0)))
  ]
]

next_kind : (i j : ℕ) (ch : Chan) → StandsBefore Data i j ch → StandsBefore Ack 0 0 ch
next_kind i j ch h = elim h [
  | inl k ↦ absurd (omega (arith, k))
  | inr w ↦ inl (omega (arith, w.0))
]

pushed : (has : Bool) (kind : ChanKind) (i j : ℕ) (cs : List Chan) → AreOrdered kind i j cs → AreOrdered kind i (suc j) (push_channel_if has (channel kind i j) cs)
pushed true kind i j cs o = record {
  pairs = all_pairs_push IsBefore cs (channel kind i j) o.pairs (λ k d lt. o.before k d lt);
  before = All-push (StandsBefore kind i (suc j)) cs (channel kind i j) (All-weaker (StandsBefore kind i j) (StandsBefore kind i (suc j)) (next_to kind i j) cs o.before) (inr (refl, inr (refl, omega arith)));
}
pushed false kind i j cs o = record { pairs = o.pairs; before = All-weaker (StandsBefore kind i j) (StandsBefore kind i (suc j)) (next_to kind i j) cs o.before }

module _ (has : ChanKind → ℕ → ℕ → Bool) where
  from_ordered : (kind : ChanKind) (i n : ℕ) (cs : List Chan) → AreOrdered kind i 0 cs → AreOrdered kind i n (chans_from has kind i n cs)
  from_ordered kind i zero cs o = o
  from_ordered kind i (suc j) cs o = pushed (has kind i j) kind i j (chans_from has kind i j cs) (from_ordered kind i j cs o)

  below_ordered : (kind : ChanKind) (n m : ℕ) (cs : List Chan) → AreOrdered kind 0 0 cs → AreOrdered kind m 0 (chans_below has kind n m cs)
  below_ordered kind n zero cs o = o
  below_ordered kind n (suc i) cs o =
      let all = from_ordered kind i n (chans_below has kind n i cs) (below_ordered kind n i cs o) in
      record { pairs = all.pairs; before = All-weaker (StandsBefore kind i n) (StandsBefore kind (suc i) 0) (next_from kind i n) (chans_from has kind i n (chans_below has kind n i cs)) all.before }

  pub all_ordered : (n : ℕ) → AllPairs IsBefore (all_chans has n)
  all_ordered n =
      let data_ones = below_ordered Data n n [] (record { pairs = λ i j d lt within. absurd (omega (arith, within)); before = All-nil (StandsBefore Data 0 0) }) in
      (below_ordered Ack n n (chans_below has Data n n []) (record { pairs = data_ones.pairs; before = All-weaker (StandsBefore Data n 0) (StandsBefore Ack 0 0) (next_kind n 0) (chans_below has Data n n []) data_ones.before })).pairs

-- How many there are.

push_length : (b : Bool) (ch : Chan) (cs : List Chan) → length (push_channel_if b ch cs) ≤ length cs + 1
push_length true ch cs = let e = length-append cs (ch ∷ []) in omega (arith, e)
push_length false ch cs = omega arith

module _ (has : ChanKind → ℕ → ℕ → Bool) where
  from_length : (kind : ChanKind) (i m : ℕ) (cs : List Chan) → length (chans_from has kind i m cs) ≤ length cs + m
  from_length kind i zero cs = omega arith
  from_length kind i (suc j) cs =
      let last = push_length (has kind i j) (channel kind i j) (chans_from has kind i j cs) in
      let rest = from_length kind i j cs in
      omega (arith, last, rest)

  below_length : (kind : ChanKind) (n m : ℕ) (cs : List Chan) → length (chans_below has kind n m cs) ≤ length cs + m * n
  below_length kind n zero cs = omega arith
  below_length kind n (suc i) cs =
      let last = from_length kind i n (chans_below has kind n i cs) in
      let rest = below_length kind n i cs in
      let more : suc i * n ≡ i * n + n = omega arith in
      omega (arith, last, rest, more)

  pub all_length : (n : ℕ) → length (all_chans has n) ≤ 2 * (n * n)
  all_length n =
      let data_ones = below_length Data n n [] in
      let all = below_length Ack n n (chans_below has Data n n []) in
      omega (arith, data_ones, all)

-- In order two of them differ,
pub before-differ : (a b : Chan) → IsBefore a b → a ≡ b → ⊥
before-differ a b h e = elim h [
  | inl k ↦ let same : kind_rank a.kind ≡ kind_rank b.kind = λ i. kind_rank (e i).kind in omega (arith, k, same)
  | inr w ↦ elim w.1 [
    | inl f ↦ let same : a.from ≡ b.from = λ i. (e i).from in omega (arith, f, same)
    | inr f ↦ let same : a.to ≡ b.to = λ i. (e i).to in omega (arith, f.1, same)
  ]
]

-- and they are not of one kind between the same nodes.
pub before-apart : (a b : Chan) → IsBefore a b → a.kind ≡ b.kind → a.from ≡ b.from → a.to ≡ b.to → ⊥
before-apart a b h kind from to = elim h [
  | inl k ↦ let same : kind_rank a.kind ≡ kind_rank b.kind = λ i. kind_rank (kind i) in omega (arith, k, same)
  | inr w ↦ elim w.1 [
    | inl f ↦ omega (arith, f, from)
    | inr f ↦ omega (arith, f.1, to)
  ]
]

-- Which there are.

-- a channel between two of n nodes that is to be there
pub record IsWanted (has : ChanKind → ℕ → ℕ → Bool) (n : ℕ) (ch : Chan) : Type 0 where
  pub from_in : ch.from < n
  pub to_in : ch.to < n
  pub is : has ch.kind ch.from ch.to ≡ true

push_all : (P : Chan → Type 0) (b : Bool) (ch : Chan) (cs : List Chan) → (b ≡ true → P ch) → All P cs → All P (push_channel_if b ch cs)
push_all P true ch cs h all = All-push P cs ch all (h refl)
push_all P false ch cs h all = all

push_there : (b : Bool) (ch : Chan) (cs : List Chan) → b ≡ true → Contains (push_channel_if b ch cs) ch
push_there true ch cs h = Contains-push cs ch
push_there false ch cs h = absurd (cc)

push_keeps : (b : Bool) (ch x : Chan) (cs : List Chan) → Contains cs x → Contains (push_channel_if b ch cs) x
push_keeps true ch x cs h = Contains-append_left cs (ch ∷ []) x h
push_keeps false ch x cs h = h

module _ (has : ChanKind → ℕ → ℕ → Bool) (n : ℕ) where
  from_wanted : (kind : ChanKind) (i m : ℕ) (cs : List Chan) → i < n → m ≤ n → All (IsWanted has n) cs → All (IsWanted has n) (chans_from has kind i m cs)
  from_wanted kind i zero cs lt le h = h
  from_wanted kind i (suc j) cs lt le h =
      push_all (IsWanted has n) (has kind i j) (channel kind i j) (chans_from has kind i j cs) (λ e. record { from_in = lt; to_in = omega (arith, le); is = e }) (from_wanted kind i j cs lt (omega (arith, le)) h)

  below_wanted : (kind : ChanKind) (m : ℕ) (cs : List Chan) → m ≤ n → All (IsWanted has n) cs → All (IsWanted has n) (chans_below has kind n m cs)
  below_wanted kind zero cs le h = h
  below_wanted kind (suc i) cs le h = from_wanted kind i n (chans_below has kind n i cs) (omega (arith, le)) (omega arith) (below_wanted kind i cs (omega (arith, le)) h)

  -- all of them are to be there
  pub all_wanted : All (IsWanted has n) (all_chans has n)
  all_wanted = below_wanted Ack n (chans_below has Data n n []) (omega arith) (below_wanted Data n [] (omega arith) (All-nil (IsWanted has n)))

  from_keeps : (kind : ChanKind) (i m : ℕ) (cs : List Chan) (x : Chan) → Contains cs x → Contains (chans_from has kind i m cs) x
  from_keeps kind i zero cs x h = h
  from_keeps kind i (suc j) cs x h = push_keeps (has kind i j) (channel kind i j) x (chans_from has kind i j cs) (from_keeps kind i j cs x h)

  below_keeps : (kind : ChanKind) (m : ℕ) (cs : List Chan) (x : Chan) → Contains cs x → Contains (chans_below has kind n m cs) x
  below_keeps kind zero cs x h = h
  below_keeps kind (suc i) cs x h = from_keeps kind i n (chans_below has kind n i cs) x (below_keeps kind i cs x h)

  from_there : (kind : ChanKind) (i j m : ℕ) (cs : List Chan) → j < m → has kind i j ≡ true → Contains (chans_from has kind i m cs) (channel kind i j)
  from_there kind i j zero cs lt h = absurd (omega (arith, lt))
  from_there kind i j (suc k) cs lt h = elim (eqb_tells j k) [
    | inl e ↦ rw e.1 (push_there (has kind i k) (channel kind i k) (chans_from has kind i k cs) (rw e.1 at h))
    | inr ne ↦ push_keeps (has kind i k) (channel kind i k) (channel kind i j) (chans_from has kind i k cs) (from_there kind i j k cs (omega (arith, lt, ne.1)) h)
  ]

  below_there : (kind : ChanKind) (i j m : ℕ) (cs : List Chan) → i < m → j < n → has kind i j ≡ true → Contains (chans_below has kind n m cs) (channel kind i j)
  below_there kind i j zero cs lt lj h = absurd (omega (arith, lt))
  below_there kind i j (suc k) cs lt lj h = elim (eqb_tells i k) [
    | inl e ↦ rw e.1 (from_there kind k j n (chans_below has kind n k cs) lj (rw e.1 at h))
    | inr ne ↦ from_keeps kind k n (chans_below has kind n k cs) (channel kind i j) (below_there kind i j k cs (omega (arith, lt, ne.1)) lj h)
  ]

  -- and all that are to be there are
  pub all_there : (kind : ChanKind) (i j : ℕ) → i < n → j < n → has kind i j ≡ true → Contains (all_chans has n) (channel kind i j)
  all_there Data i j li lj h = below_keeps Ack n (chans_below has Data n n []) (channel Data i j) (below_there Data i j n [] li lj h)
  all_there Ack i j li lj h = below_there Ack i j n (chans_below has Data n n []) li lj h
