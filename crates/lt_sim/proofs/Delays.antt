-- Delays that are drawn channel by channel.
use Rattle.std.proofs.Common.{◌≡◌, ◌≢◌, ℕ, zero, suc, ◌+◌, ◌-◌, ◌<◌, ◌≤◌, ◌⊎◌, inl, inr, List, length, set, Option, Some, None, Bool, true, false, ◌&&◌, nat_lt, if◌then◌else◌, refl, sym, ◌∙◌, ap, subst, arith, slice_index_or, add-one, length-set, lt-ltb}
use Rattle.std.proofs.lemmas.Bool.{cases_lt}
use Rattle.std.proofs.lemmas.Bool.Decides.{leb_tells}
use Rattle.std.proofs.lemmas.List.{get_or-set_same, get_or-set_other}
use Rattle.rand_core.specs.Stream.{Stream, next_u64}
use Rattle.lt_arch.specs.declared.shape.Shape.{Shape}
use Rattle.lt_arch.specs.declared.chan.Chan.{Chan}
use Rattle.lt_arch.specs.declared.timing.Timing.{Timing}
use Rattle.lt_arch.specs.Readers.{node_count, chan_count, chan_of, no_chan, from_of, to_of, dmin_of, dmax_of}
use Rattle.lt_arch.proofs.Ranges.{dmin-dmax}
use Rattle.lt_arch.proofs.Changes.{same_or_not}
use Rattle.lt_sim.specs.declared.sending.Span.{Span}
use Rattle.lt_sim.specs.Words.{left_after, drawn_word, number_in}
use Rattle.lt_sim.specs.Drawn.{delay}
use Rattle.lt_base.specs.Truths.{how_many}
use Rattle.lt_sim.specs.Tallies.{leads_kind_from}
use Rattle.lt_sim.specs.Spans.{IsSpanBelow, DrawsDelays}
use Rattle.lt_sim.proofs.Counting.{how_many_yes, how_many_no}

-- Words.

pub word-next : (seed k : ℕ) → drawn_word seed (k + 1) ≡ (next_u64 (left_after seed k)).0
unfolding drawn_word
word-next seed k = let same : k + 1 - 1 ≡ k = omega arith in ap (λ n. (next_u64 (left_after seed n)).0) same

pub left-next : (seed k : ℕ) → left_after seed (k + 1) ≡ (next_u64 (left_after seed k)).1
unfolding left_after
left-next seed k = rw (add-one k) refl

module _ (seed k low high result : ℕ) (old new : Stream) (is : old ≡ left_after seed k) where
  pub number_drawn : result ≡ number_in low high (next_u64 old).0 → result ≡ number_in low high (drawn_word seed (k + 1))
  number_drawn h = h ∙ ap (λ w. number_in low high w) (ap (λ (x : Stream). (next_u64 x).0) is ∙ sym (word-next seed k))

  pub left_drawn : new ≡ (next_u64 old).1 → new ≡ left_after seed (k + 1)
  left_drawn h = h ∙ (ap (λ (x : Stream). (next_u64 x).1) is ∙ sym (left-next seed k))

-- Spans.

pub span_none : (cs : List Chan) (k : Bool) (n : ℕ) (span : Span) → span.first ≡ 0 → span.end ≡ 0 → IsSpanBelow cs k n 0 span
span_none cs k n span first end = record { within = omega (arith, end); first_within = omega (arith, first); holds = λ c lt on. absurd (omega (arith, lt)) }

pub span_skip : (cs : List Chan) (k : Bool) (n i : ℕ) (span : Span) → IsSpanBelow cs k n i span → leads_kind_from cs k n i ≡ false → IsSpanBelow cs k n (i + 1) span
span_skip cs k n i span h off = record {
  within = let w = h.within in omega (arith, w);
  first_within = let w = h.first_within in omega (arith, w);
  holds = λ c lt on. elim (same_or_not c i) [
    | inl e ↦ let clash : true ≡ false = sym on ∙ (ap (leads_kind_from cs k n) e ∙ off) in absurd cc
    | inr ne ↦ h.holds c (omega (arith, lt, ne)) on
  ];
}

pub span_more : (cs : List Chan) (k : Bool) (n i : ℕ) (span wider : Span) → IsSpanBelow cs k n i span → (span.end ≡ 0 → wider.first ≡ i) × (0 < span.end → wider.first ≡ span.first) → wider.end ≡ i + 1 → IsSpanBelow cs k n (i + 1) wider
span_more cs k n i span wider h first end =
    let low : wider.first ≤ i = elim (cases_lt 0 span.end) [
      | inl some ↦ let e = first.1 some in let w = h.first_within in omega (arith, e, w)
      | inr none ↦ let e = first.0 (omega (arith, none)) in omega (arith, e)
    ] in
    record {
      within = omega (arith, end);
      first_within = omega (arith, low);
      holds = λ c lt on. elim (same_or_not c i) [
        | inl e ↦ (omega (arith, low, e), omega (arith, end, e))
        | inr ne ↦
            let in_old = h.holds c (omega (arith, lt, ne)) on in
            let a = in_old.0 in
            let b = in_old.1 in
            let w = h.within in
            let f = first.1 (omega (arith, b)) in
            (omega (arith, f, a), omega (arith, b, w, end))
      ];
    }

-- Delays.

lt_no : (c i : ℕ) → i ≤ c → nat_lt c i ≡ false
lt_no c i le = elim (leb_tells (suc c) i) [ inl h ↦ absurd (omega (arith, h.1, le)) | inr h ↦ h.0 ]

lt_other : (c i : ℕ) → c ≢ i → nat_lt c i ≡ nat_lt c (i + 1)
lt_other c i ne = elim (cases_lt c i) [
  | inl lt ↦ lt-ltb c i lt ∙ sym (lt-ltb c (i + 1) (omega (arith, lt)))
  | inr le ↦ lt_no c i le ∙ sym (lt_no c (i + 1) (omega (arith, le, ne)))
]

and_false : (b : Bool) → (b && false) ≡ false
and_false true = refl
and_false false = refl

pub how_many-past : (on : ℕ → Bool) (i n : ℕ) → ((c : ℕ) → i ≤ c → c < i + n → on c ≡ false) → how_many on (i + n) ≡ how_many on i
how_many-past on i zero off = ap (how_many on) (same i)
  where
    same : (x : ℕ) → x + 0 ≡ x
    same x = omega arith
how_many-past on i (suc n) off =
    let next : i + suc n ≡ i + n + 1 = omega arith in
    ap (how_many on) next ∙ (how_many_no on (i + n) (off (i + n) (omega arith) (omega arith)) ∙ how_many-past on i n (λ c low high. off c low (omega (arith, high))))

module _ (s : Shape) (t : Timing) (seed words at : ℕ) (on : ℕ → Bool) (old : List (Option ℕ)) where
  -- what a channel has
  value : (b : Bool) (c : ℕ) → Option ℕ
  value b c = if b then Some (at + delay s t seed c (words + 1 + how_many on c)) else slice_index_or old (node_count s + c) None

  pub delays_none : (i : ℕ) → ((c : ℕ) → c < i → on c ≡ false) → DrawsDelays s t seed words at i on old old
  unfolding value
  delays_none i off = record {
    same_length = refl;
    nodes = λ n lt. refl;
    channels = λ c lt. elim (cases_lt c i) [
      | inl below ↦ sym (ap (λ (b : Bool). value b c) ((λ j. nat_lt c i && off c below j) ∙ and_false (nat_lt c i)))
      | inr past ↦ sym (ap (λ (b : Bool). value (b && on c) c) (lt_no c i past))
    ];
  }

  module _ (i : ℕ) (mid : List (Option ℕ)) (h : DrawsDelays s t seed words at i on old mid) where
    pub delays_skip : on i ≡ false → DrawsDelays s t seed words at (i + 1) on old mid
    unfolding value
    delays_skip off = record {
      same_length = h.same_length;
      nodes = h.nodes;
      channels = λ c lt. h.channels c lt ∙ elim (same_or_not c i) [
        | inl e ↦ subst (λ c. value (nat_lt c i && on c) c ≡ value (nat_lt c (i + 1) && on c) c) (sym e)
            (ap (λ (b : Bool). value b i) ((λ j. nat_lt i i && off j) ∙ (and_false (nat_lt i i) ∙ sym ((λ j. nat_lt i (i + 1) && off j) ∙ and_false (nat_lt i (i + 1))))))
        | inr ne ↦ ap (λ (b : Bool). value (b && on c) c) (lt_other c i ne)
      ];
    }

    pub delays_more : (v : ℕ) → on i ≡ true → i < chan_count s → length old ≡ node_count s + chan_count s → v ≡ at + delay s t seed i (words + 1 + how_many on i) → DrawsDelays s t seed words at (i + 1) on old (set mid (node_count s + i) (Some v))
    unfolding value
    delays_more v yes_on lt size is =
        let same = h.same_length in
        record {
          same_length = length-set mid (node_count s + i) (Some v) ∙ h.same_length;
          nodes = λ n below. get_or-set_other mid (node_count s + i) n (Some v) None (λ e. absurd (omega (arith, e, below))) ∙ h.nodes n below;
          channels = λ c within. elim (same_or_not c i) [
            | inl e ↦ subst (λ c. slice_index_or (set mid (node_count s + i) (Some v)) (node_count s + c) None ≡ value (nat_lt c (i + 1) && on c) c) (sym e)
                (get_or-set_same mid (node_count s + i) (Some v) None (omega (arith, lt, size, same)) ∙ (ap (λ n. Some n) is ∙ sym (ap (λ (b : Bool). value b i) (λ j. lt-ltb i (i + 1) (omega arith) j && yes_on j))))
            | inr ne ↦ get_or-set_other mid (node_count s + i) (node_count s + c) (Some v) None (λ e. ne (omega (arith, e))) ∙ (h.channels c within ∙ ap (λ (b : Bool). value (b && on c) c) (lt_other c i ne))
          ];
        }

    pub delays_all : i ≤ chan_count s → ((c : ℕ) → i ≤ c → c < chan_count s → on c ≡ false) → DrawsDelays s t seed words at (chan_count s) on old mid
    unfolding value
    delays_all le off = record {
      same_length = h.same_length;
      nodes = h.nodes;
      channels = λ c lt. h.channels c lt ∙ elim (cases_lt c i) [
        | inl below ↦ ap (λ (b : Bool). value (b && on c) c) (lt-ltb c i below ∙ sym (lt-ltb c (chan_count s) lt))
        | inr past ↦ ap (λ (b : Bool). value b c) ((λ j. nat_lt c i && off c past lt j) ∙ (and_false (nat_lt c i) ∙ sym ((λ j. nat_lt c (chan_count s) && off c past lt j) ∙ and_false (nat_lt c (chan_count s)))))
      ];
    }

pub how_many-all : (on : ℕ → Bool) (i n : ℕ) → i ≤ n → ((c : ℕ) → i ≤ c → c < n → on c ≡ false) → how_many on n ≡ how_many on i
how_many-all on i n le off =
    let is : n ≡ i + (n - i) = omega (arith, le) in
    ap (how_many on) is ∙ how_many-past on i (n - i) (λ c low high. off c low (omega (arith, high, le)))

-- outside its span no channel is the node's
pub off_outside : (cs : List Chan) (k : Bool) (n below : ℕ) (span : Span) (c : ℕ) → IsSpanBelow cs k n below span → c < below → (c < span.first) ⊎ (span.end ≤ c) → leads_kind_from cs k n c ≡ false
off_outside cs k n below span c h lt outside = by (leads_kind_from cs k n c) refl
  where
    by : (b : Bool) → leads_kind_from cs k n c ≡ b → b ≡ false
    by true on = let inside = h.holds c lt on in let a = inside.0 in let b = inside.1 in elim outside [ inl x ↦ absurd (omega (arith, x, a)) | inr x ↦ absurd (omega (arith, x, b)) ]
    by false on = refl

-- One channel of a span.

pub order_of : (t : Timing) (i j x y : ℕ) → x ≡ dmin_of t i j → y ≡ dmax_of t i j → x ≤ y
order_of t i j x y low high = let o = dmin-dmax t i j in omega (arith, o, low, high)

chan_from : (s : Shape) (channels : List Chan) (c : ℕ) → channels ≡ s.channels → (slice_index_or channels c no_chan).from ≡ from_of s c
unfolding chan_of
chan_from s channels c is = ap (λ (cs : List Chan). (slice_index_or cs c no_chan).from) is

chan_to : (s : Shape) (channels : List Chan) (c : ℕ) → channels ≡ s.channels → (slice_index_or channels c no_chan).to ≡ to_of s c
unfolding chan_of
chan_to s channels c is = ap (λ (cs : List Chan). (slice_index_or cs c no_chan).to) is

module _ (s : Shape) (t : Timing) (seed words at : ℕ) (k : Bool) (n : ℕ) (channels : List Chan) (is : channels ≡ s.channels) (old mid : List (Option ℕ)) (before : Stream) (c : ℕ)
    (left : before ≡ left_after seed (words + how_many (leads_kind_from s.channels k n) c)) (h : DrawsDelays s t seed words at c (leads_kind_from s.channels k n) old mid) where
  pub step_drawn : (nodes x y result : ℕ) → nodes ≡ node_count s → x ≡ dmin_of t (slice_index_or channels c no_chan).from (slice_index_or channels c no_chan).to → y ≡ dmax_of t (slice_index_or channels c no_chan).from (slice_index_or channels c no_chan).to
      → result ≡ number_in x y (next_u64 before).0 → leads_kind_from channels k n c ≡ true → c < chan_count s → length old ≡ node_count s + chan_count s
      → DrawsDelays s t seed words at (c + 1) (leads_kind_from s.channels k n) old (set mid (nodes + c) (Some (at + result)))
  step_drawn nodes x y result nodes_is low high drawn on lt size =
      let number = number_drawn seed (words + how_many (leads_kind_from s.channels k n) c) x y result before before left drawn in
      let low' : x ≡ dmin_of t (from_of s c) (to_of s c) = low ∙ (λ i. dmin_of t (chan_from s channels c is i) (chan_to s channels c is i)) in
      let high' : y ≡ dmax_of t (from_of s c) (to_of s c) = high ∙ (λ i. dmax_of t (chan_from s channels c is i) (chan_to s channels c is i)) in
      let place : words + how_many (leads_kind_from s.channels k n) c + 1 ≡ words + 1 + how_many (leads_kind_from s.channels k n) c = omega arith in
      let value : at + result ≡ at + delay s t seed c (words + 1 + how_many (leads_kind_from s.channels k n) c) = ap (λ v. at + v) (number ∙ (λ i. number_in (low' i) (high' i) (drawn_word seed (place i)))) in
      let on' : leads_kind_from s.channels k n c ≡ true = subst (λ (cs : List Chan). leads_kind_from cs k n c ≡ true) is on in
      subst (λ m. DrawsDelays s t seed words at (c + 1) (leads_kind_from s.channels k n) old (set mid (m + c) (Some (at + result)))) (sym nodes_is)
      (delays_more s t seed words at (leads_kind_from s.channels k n) old c mid h (at + result) on' lt size value)

  pub step_left : (now : Stream) → now ≡ (next_u64 before).1 → leads_kind_from channels k n c ≡ true → now ≡ left_after seed (words + how_many (leads_kind_from s.channels k n) (c + 1))
  step_left now drawn on =
      let on' : leads_kind_from s.channels k n c ≡ true = subst (λ (cs : List Chan). leads_kind_from cs k n c ≡ true) is on in
      let more = how_many_yes (leads_kind_from s.channels k n) c on' in
      let place : words + how_many (leads_kind_from s.channels k n) c + 1 ≡ words + how_many (leads_kind_from s.channels k n) (c + 1) = omega (arith, more) in
      left_drawn seed (words + how_many (leads_kind_from s.channels k n) c) 0 0 0 before now left drawn ∙ ap (left_after seed) place

  pub step_skips : leads_kind_from channels k n c ≡ false → DrawsDelays s t seed words at (c + 1) (leads_kind_from s.channels k n) old mid
  step_skips off = delays_skip s t seed words at (leads_kind_from s.channels k n) old c mid h (subst (λ (cs : List Chan). leads_kind_from cs k n c ≡ false) is off)

  pub step_stays : leads_kind_from channels k n c ≡ false → before ≡ left_after seed (words + how_many (leads_kind_from s.channels k n) (c + 1))
  step_stays off = left ∙ ap (λ m. left_after seed (words + m)) (sym (how_many_no (leads_kind_from s.channels k n) c (subst (λ (cs : List Chan). leads_kind_from cs k n c ≡ false) is off)))
