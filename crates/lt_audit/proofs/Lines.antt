-- Channels in a table, and what counts of them.
use Rattle.std.proofs.Common.{◌≡◌, ◌∙◌, ℕ, ◌+◌, ◌<◌, ◌≤◌, ◌&&◌, Bool, true, false, not, List, Result, Ok, Err, OnErr, length, map, set, refl, sym, ap, subst, arith, inl, inr, eq-eqb, length-set, slice_index_or}
use Rattle.std.proofs.lemmas.Bool.{false≢true}
use Rattle.std.proofs.lemmas.Bool.Decides.{eqb_tells}
use Rattle.std.proofs.lemmas.List.{get_or-map, get_or_default, get_or-set_same, get_or-set_other}
use Rattle.std.proofs.Math.Seq.{map-set_same}
use Rattle.lt_arch.specs.declared.chan.Chan.{Chan}
use Rattle.lt_audit.specs.Audit.{LineState, kept_of, line_at, chan_at, no_line, no_chan_state}
use Rattle.lt_arch.specs.Readers.{is_data}
use Rattle.lt_link.specs.Ports.{is_from}
use Rattle.lt_audit.specs.Acts.{SameLines, LinesHaveRoom, HasRoomOn, HasFullLine, audited_chan}

-- what counts of the channel at a place
pub kept_at : (ls : List LineState) (c : ℕ) → c < length ls → chan_at (map kept_of ls) c ≡ kept_of (line_at ls c)
kept_at ls c lt = get_or-map kept_of ls c no_line no_chan_state lt

-- a channel that was read, by any default
pub read_at : (ls : List LineState) (c : ℕ) (x : LineState) → c < length ls → x ≡ slice_index_or ls c x → chan_at (map kept_of ls) c ≡ kept_of x
read_at ls c x lt is = kept_at ls c lt ∙ ap kept_of (sym (is ∙ get_or_default ls c x no_line lt))

pub line_is : (ls : List LineState) (c : ℕ) (x : LineState) → c < length ls → x ≡ slice_index_or ls c x → x ≡ line_at ls c
line_is ls c x lt is = is ∙ get_or_default ls c x no_line lt

pub same_lines : (ls : List LineState) → SameLines ls ls
same_lines ls = record { same_length = refl; kept = refl; grows = λ c. omega arith }

module _ (old mid : List LineState) (same : SameLines old mid) (c : ℕ) (x y : LineState) (lt : c < length old) (is : x ≡ slice_index_or mid c x) (kept : kept_of y ≡ kept_of x) (grows : x.room ≤ y.room) where
  within : c < length mid
  within = let e = same.same_length in omega (arith, e, lt)

  -- after room was made on channel c
  pub room_made : SameLines old (set mid c y)
  room_made = record {
    same_length = length-set mid c y ∙ same.same_length;
    kept = map-set_same kept_of mid c y no_line (kept ∙ ap kept_of (line_is mid c x within is)) ∙ same.kept;
    grows = λ d. let before = same.grows d in elim (eqb_tells d c) [
      | inl e ↦
          let here : line_at (set mid c y) d ≡ y = ap (λ i. slice_index_or (set mid c y) i no_line) e.1 ∙ get_or-set_same mid c y no_line within in
          let there : x ≡ line_at mid d = line_is mid c x within is ∙ ap (λ i. line_at mid i) (sym e.1) in
          let less : (line_at mid d).room ≤ y.room = subst (λ (l : LineState). l.room ≤ y.room) there grows in
          subst (λ (l : LineState). (line_at old d).room ≤ l.room) (sym here) (omega (arith, before, less))
      | inr e ↦ subst (λ (l : LineState). (line_at old d).room ≤ l.room) (sym (get_or-set_other mid c d y no_line e.1)) before
    ];
  }

  -- so there is room on one channel more
  pub one_more : (on : ℕ → Bool) → HasRoomOn on mid c → 0 < y.room → HasRoomOn on (set mid c y) (c + 1)
  one_more on has some d ld passes = elim (eqb_tells d c) [
    | inl e ↦ subst (λ (l : LineState). 0 < l.room) (sym (ap (λ i. slice_index_or (set mid c y) i no_line) e.1 ∙ get_or-set_same mid c y no_line within)) some
    | inr e ↦ let ne = e.1 in subst (λ (l : LineState). 0 < l.room) (sym (get_or-set_other mid c d y no_line e.1)) (has d (omega (arith, ld, ne)) passes)
  ]

-- a channel that is none of them needs none
pub room_passed : (on : ℕ → Bool) (ls : List LineState) (c : ℕ) → HasRoomOn on ls c → on c ≡ false → HasRoomOn on ls (c + 1)
room_passed on ls c has off d ld passes = elim (eqb_tells d c) [
  | inl e ↦ absurd (false≢true (sym off ∙ ap on (sym e.1) ∙ passes))
  | inr e ↦ let ne = e.1 in has d (omega (arith, ld, ne)) passes
]

-- a channel that has no room left had none before
pub full_before : (old mid : List LineState) → SameLines old mid → (c : ℕ) (x : LineState) → c < length old → x ≡ slice_index_or mid c x → x.room ≡ 0 → (line_at old c).room ≡ 0
full_before old mid same c x lt is none =
    let within : c < length mid = let e = same.same_length in omega (arith, e, lt) in
    let now : (line_at mid c).room ≡ 0 = subst (λ (l : LineState). l.room ≡ 0) (line_is mid c x within is) none in
    let grown = same.grows c in
    omega (arith, grown, now)

pub full_on : (cs : List Chan) (old mid : List LineState) (n : ℕ) → SameLines old mid → HasFullLine cs mid n → HasFullLine cs old n
full_on cs old mid n same f =
    let grown = same.grows f.chan in
    let now = f.full in
    record { chan = f.chan; within = f.within; leads = f.leads; full = omega (arith, grown, now) }

-- a fact of an answer that is an error, and of any other
pub on_any : {T E P : Type 0} (r : Result T E) → P → OnErr r P
on_any (Ok x) p = tt
on_any (Err e) p = p

-- room is made twice
pub same_twice : (old mid new : List LineState) → SameLines old mid → SameLines mid new → SameLines old new
same_twice old mid new a b = record {
  same_length = b.same_length ∙ a.same_length;
  kept = b.kept ∙ a.kept;
  grows = λ c. let first = a.grows c in let second = b.grows c in omega (arith, first, second);
}

either : (cs : List Chan) (n c : ℕ) (kind : Bool) → is_data (audited_chan cs c).kind ≡ kind → (audited_chan cs c).from ≡ n → is_from cs n kind c ≡ true
either cs n c true is from = (λ i. eq-eqb (audited_chan cs c).from n from i && is i)
either cs n c false is from = (λ i. eq-eqb (audited_chan cs c).from n from i && not (is i))

-- on data channels, and then on the others
pub room_on_both : (cs : List Chan) (mid new : List LineState) (n i : ℕ) → HasRoomOn (is_from cs n true) mid i → SameLines mid new → HasRoomOn (is_from cs n false) new i → LinesHaveRoom cs new n i
room_on_both cs mid new n i first same second c lt from = by_kind (is_data (audited_chan cs c).kind) refl
  where
    by_kind : (kind : Bool) → is_data (audited_chan cs c).kind ≡ kind → 0 < (line_at new c).room
    by_kind true is = let some = first c lt (either cs n c true is from) in let more = same.grows c in omega (arith, some, more)
    by_kind false is = second c lt (either cs n c false is from)
