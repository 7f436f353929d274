-- Messages sent on one channel more.
use Rattle.std.proofs.Common.{◌≡◌, ◌≢◌, ◌∙◌, ℕ, suc, ◌+◌, ◌<◌, ◌==◌, ◌&&◌, ◌||◌, not, nat_lt, Bool, true, false, List, length, set, length-set, Option, None, refl, sym, ap, subst, arith, inl, inr, slice_index_or}
use Rattle.std.proofs.lemmas.Bool.Decides.{eqb_tells, leb_tells}
use Rattle.std.proofs.lemmas.List.{get_or-set_same, get_or-set_other}
use Rattle.lt_arch.specs.declared.chan.Chan.{Chan}
use Rattle.lt_arch.specs.declared.event.Deed.{Deed}
use Rattle.lt_arch.specs.declared.event.Deed.TheVariants.{Nothing, Execute, Send}
use Rattle.lt_arch.specs.declared.timing.Protocol.{Protocol}
use Rattle.lt_arch.specs.State.{ChanState}
use Rattle.lt_arch.specs.Readers.{is_data, is_back_pressure}
use Rattle.lt_arch.specs.Step.{is_execute, is_send, with_sent}
use Rattle.lt_arch.specs.Times.{Times, sent_in}
use Rattle.lt_link.specs.Ports.{is_from}
use Rattle.lt_audit.specs.Audit.{LineState, kept_of, line_at, no_line, oldest}
use Rattle.lt_audit.specs.Acts.{SentBelow, is_sent_on, audited_chan, is_ack_from}

none_from : (send exec bp k : Bool) → ((send && (false && k)) || (exec && (bp && (false && not k)))) ≡ false
none_from true true true k = refl
none_from true true false k = refl
none_from true false bp k = refl
none_from false true true k = refl
none_from false true false k = refl
none_from false false bp k = refl

-- a node sends on none but its own channels
pub sent_off : (p : Protocol) (n : ℕ) (deed : Deed) (ch : Chan) → (ch.from == n) ≡ false → is_sent_on p n deed ch ≡ false
sent_off p n deed ch other =
    ap (λ (x : Bool). (is_send deed && (x && is_data ch.kind)) || (is_execute deed && (is_back_pressure p && (x && not (is_data ch.kind))))) other ∙
    none_from (is_send deed) (is_execute deed) (is_back_pressure p) (is_data ch.kind)

off_acks : (p a : Bool) → a ≡ false → (p && a) ≡ false
off_acks true a off = off
off_acks false a off = refl

-- it sends data where it sends, and else acknowledgements, if it sends on any
pub not_sent : (p : Protocol) (n : ℕ) (deed : Deed) (cs : List Chan) (c : ℕ) → is_from cs n (is_send deed) c ≡ false → is_sent_on p n deed (audited_chan cs c) ≡ false
not_sent p n Nothing cs c off = refl
not_sent p n Execute cs c off = off_acks (is_back_pressure p) (is_ack_from (audited_chan cs c) n) off
not_sent p n Send cs c off = ap (λ (x : Bool). x || false) off

lt_here : (i : ℕ) → nat_lt i (i + 1) ≡ true
lt_here i = elim (leb_tells (suc i) (i + 1)) [ inl h ↦ h.0 | inr h ↦ absurd (omega (arith, h.1)) ]

lt_self : (i : ℕ) → nat_lt i i ≡ false
lt_self i = elim (leb_tells (suc i) i) [ inl h ↦ absurd (omega (arith, h.1)) | inr h ↦ h.0 ]

lt_other : (c i : ℕ) → c ≢ i → nat_lt c i ≡ nat_lt c (i + 1)
lt_other c i ne = elim (leb_tells (suc c) i) [
  | inl h ↦ elim (leb_tells (suc c) (i + 1)) [ inl k ↦ cc (h.0, k.0) | inr k ↦ absurd (omega (arith, h.1, k.1)) ]
  | inr h ↦ elim (leb_tells (suc c) (i + 1)) [ inl k ↦ absurd (ne (omega (arith, h.1, k.1))) | inr k ↦ cc (h.0, k.0) ]
]

and_false : (b : Bool) → (b && false) ≡ false
and_false true = refl
and_false false = refl

none_below : (on : ℕ → Bool) (c : ℕ) → false ≡ (nat_lt c 0 && on c)
none_below on c = elim (leb_tells (suc c) 0) [ inl h ↦ absurd (omega (arith, h.1)) | inr h ↦ sym (ap (λ (b : Bool). b && on c) h.0) ]

-- nothing was sent on the channels below 0
pub sent_none : (on : ℕ → Bool) (at : ℕ) (ls : List LineState) (w : Times) → ((c : ℕ) → c < length ls → sent_in w c ≡ oldest (line_at ls c).transit) → SentBelow on at 0 ls ls w w
sent_none on at ls w first = record {
  same_length = refl;
  lines = λ c lt. ap (λ (b : Bool). with_sent b at (kept_of (line_at ls c))) (none_below on c);
  room = λ c le. refl;
  watch = refl;
  sends = refl;
  oldest_are = first;
}

module _ (on : ℕ → Bool) (at i : ℕ) (old mid : List LineState) (w v : Times) (so_far : SentBelow on at i old mid w v) where
  still : (c : ℕ) → on i ≡ false → (nat_lt c i && on c) ≡ (nat_lt c (i + 1) && on c)
  still c off = elim (eqb_tells c i) [
    | inl e ↦
        let here : on c ≡ false = ap on e.1 ∙ off in
        (λ j. nat_lt c i && here j) ∙ and_false (nat_lt c i) ∙ sym ((λ j. nat_lt c (i + 1) && here j) ∙ and_false (nat_lt c (i + 1)))
    | inr e ↦ ap (λ (b : Bool). b && on c) (lt_other c i e.1)
  ]

  -- a channel on which nothing is sent
  pub sent_passed : on i ≡ false → SentBelow on at (i + 1) old mid w v
  sent_passed off = record {
    same_length = so_far.same_length;
    lines = λ c lt. so_far.lines c lt ∙ ap (λ (b : Bool). with_sent b at (kept_of (line_at old c))) (still c off);
    room = λ c le. so_far.room c (omega (arith, le));
    watch = so_far.watch;
    sends = so_far.sends;
    oldest_are = so_far.oldest_are;
  }

  module _ (x y : LineState) (u : Times) (lt : i < length old) (places : length w.sends ≡ length old) (is : x ≡ line_at mid i) (sent : kept_of y ≡ with_sent true at (kept_of x)) (told : u ≡ record v { sends = set v.sends i (oldest y.transit) }) where
    within : i < length mid
    within = let e = so_far.same_length in omega (arith, e, lt)

    line_here : line_at (set mid i y) i ≡ y
    line_here = get_or-set_same mid i y no_line within

    line_there : (c : ℕ) → c ≢ i → line_at (set mid i y) c ≡ line_at mid c
    line_there c ne = get_or-set_other mid i c y no_line ne

    before_is : kept_of (line_at mid i) ≡ kept_of (line_at old i)
    before_is = so_far.lines i lt ∙ ap (λ (b : Bool). with_sent (b && on i) at (kept_of (line_at old i))) (lt_self i)

    sends_are : u.sends ≡ set v.sends i (oldest y.transit)
    sends_are = ap (λ (z : Times). z.sends) told

    kept_now : on i ≡ true → kept_of (line_at (set mid i y) i) ≡ with_sent (nat_lt i (i + 1) && on i) at (kept_of (line_at old i))
    kept_now yes_here =
        ap kept_of line_here ∙ sent ∙ ap (λ (l : LineState). with_sent true at (kept_of l)) is ∙ ap (λ (k : ChanState). with_sent true at k) before_is ∙
        sym ((λ j. with_sent (lt_here i j && on i) at (kept_of (line_at old i))) ∙ (λ j. with_sent (yes_here j) at (kept_of (line_at old i))))

    -- a message was sent on channel i too
    pub sent_more : on i ≡ true → SentBelow on at (i + 1) old (set mid i y) w u
    sent_more yes_here = record {
      same_length = length-set mid i y ∙ so_far.same_length;
      lines = λ c lc. elim (eqb_tells c i) [
        | inl e ↦ subst (λ (j : ℕ). kept_of (line_at (set mid i y) j) ≡ with_sent (nat_lt j (i + 1) && on j) at (kept_of (line_at old j))) (sym e.1) (kept_now yes_here)
        | inr e ↦ ap kept_of (line_there c e.1) ∙ so_far.lines c lc ∙ ap (λ (b : Bool). with_sent (b && on c) at (kept_of (line_at old c))) (lt_other c i e.1)
      ];
      room = λ c le. ap (λ (l : LineState). l.room) (line_there c (λ same. absurd (omega (arith, le, same)))) ∙ so_far.room c (omega (arith, le));
      watch = told ∙ ap (λ (z : Times). record z { sends = set v.sends i (oldest y.transit) }) so_far.watch ∙ ap (λ (s : List (Option ℕ)). record w { sends = s }) (sym sends_are);
      sends = ap length sends_are ∙ length-set v.sends i (oldest y.transit) ∙ so_far.sends;
      oldest_are = λ c lc. elim (eqb_tells c i) [
        | inl e ↦
            let size : i < length v.sends = let s = so_far.sends in omega (arith, s, lt, places) in
            subst (λ (j : ℕ). sent_in u j ≡ oldest (line_at (set mid i y) j).transit) (sym e.1)
            (ap (λ (s : List (Option ℕ)). slice_index_or s i None) sends_are ∙ get_or-set_same v.sends i (oldest y.transit) None size ∙ ap (λ (l : LineState). oldest l.transit) (sym line_here))
        | inr e ↦
            ap (λ (s : List (Option ℕ)). slice_index_or s c None) sends_are ∙ get_or-set_other v.sends i c (oldest y.transit) None e.1 ∙ so_far.oldest_are c lc ∙
            ap (λ (l : LineState). oldest l.transit) (sym (line_there c e.1))
      ];
    }
