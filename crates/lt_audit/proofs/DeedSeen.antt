-- What a node hears is what its state tells, and so its deed is the one of the state.
use Rattle.std.proofs.Common.{◌≡◌, ◌∙◌, ℕ, zero, suc, ◌<◌, ◌==◌, ◌&&◌, ◌||◌, not, nat_le, nat_lt, Bool, true, false, length, refl, sym, ap, arith}
use Rattle.std.proofs.lemmas.Bool.Decides.{Decides-eqb}
use Rattle.lt_arch.specs.declared.timing.Timing.{Timing}
use Rattle.lt_arch.specs.State.{State, executed_of}
use Rattle.lt_arch.specs.Readers.{node_count, chan_count, to_of, carries_data, chan_of}
use Rattle.lt_arch.specs.Deeds.{deed_of, deed_at, all_below, some_below, all_in, any_in, all_ack, data_to, ack_to, is_fresh}
use Rattle.lt_audit.specs.declared.hearing.Heard.{Heard}
use Rattle.lt_audit.specs.Audit.{AuditState, member_at}
use Rattle.lt_audit.specs.Acts.{audited_chan, is_data_to, is_ack_to, has_delivered, heard_below}
use Rattle.lt_audit.specs.Standing.{HasState}

all_same : (p q : ℕ → Bool) (n : ℕ) → ((c : ℕ) → c < n → p c ≡ q c) → all_below p n ≡ all_below q n
all_same p q zero h = refl
all_same p q (suc k) h = λ i. h k (omega arith) i && all_same p q k (λ c lt. h c (omega (arith, lt))) i

some_same : (p q : ℕ → Bool) (n : ℕ) → ((c : ℕ) → c < n → p c ≡ q c) → some_below p n ≡ some_below q n
some_same p q zero h = refl
some_same p q (suc k) h = λ i. h k (omega arith) i || some_same p q k (λ c lt. h c (omega (arith, lt))) i

-- a test that counts where something is asked alone

where_asked : (asked x y : Bool) → (asked ≡ true → x ≡ y) → (not asked || x) ≡ (not asked || y)
where_asked true x y same = same refl
where_asked false x y same = refl

if_asked : (asked x y : Bool) → (asked ≡ true → x ≡ y) → (asked && x) ≡ (asked && y)
if_asked true x y same = same refl
if_asked false x y same = refl

first_true : (a b : Bool) → (a && b) ≡ true → a ≡ true
first_true true b is = refl
first_true false b is = is

pub is_to : (k : Bool) (to n : ℕ) → ((to == n) && k) ≡ true → to ≡ n
is_to k to n is = (Decides-eqb to n).0 (first_true (to == n) k is)

module _ (a : AuditState) (t : Timing) (st : State) (h : HasState a a.shape t st) (n : ℕ) (ln : n < node_count a.shape) where
  fresh_same : (c : ℕ) → c < chan_count a.shape → to_of a.shape c ≡ n → has_delivered a.chans (member_at a.members n).executed c ≡ is_fresh a.shape st c
  fresh_same c lc to =
      let counts : (member_at a.members n).executed ≡ executed_of st (to_of a.shape c) = h.executed n ln ∙ ap (executed_of st) (sym to) in
      λ i. nat_le (counts i) (h.chan c lc i).delivered

  data_same : (c : ℕ) → is_data_to (audited_chan a.shape.channels c) n ≡ data_to a.shape n c
  unfolding chan_of
  data_same c = refl

  ack_same : (c : ℕ) → is_ack_to (audited_chan a.shape.channels c) n ≡ ack_to a.shape n c
  unfolding chan_of
  ack_same c = refl

  heard_now : Heard
  heard_now = heard_below a.shape.channels a.chans n (member_at a.members n).executed (length a.shape.channels)

  all_in_is : all_below (λ c. not (is_data_to (audited_chan a.shape.channels c) n) || has_delivered a.chans (member_at a.members n).executed c) (chan_count a.shape) ≡ all_in a.shape st n
  unfolding all_in
  all_in_is = all_same _ _ (chan_count a.shape) (λ c lc.
      ap (λ (x : Bool). not x || has_delivered a.chans (member_at a.members n).executed c) (data_same c) ∙
      where_asked (data_to a.shape n c) _ _ (λ asked. fresh_same c lc (is_to (carries_data a.shape c) (to_of a.shape c) n asked)))

  any_in_is : some_below (λ c. is_data_to (audited_chan a.shape.channels c) n && has_delivered a.chans (member_at a.members n).executed c) (chan_count a.shape) ≡ any_in a.shape st n
  unfolding any_in
  any_in_is = some_same _ _ (chan_count a.shape) (λ c lc.
      ap (λ (x : Bool). x && has_delivered a.chans (member_at a.members n).executed c) (data_same c) ∙
      if_asked (data_to a.shape n c) _ _ (λ asked. fresh_same c lc (is_to (carries_data a.shape c) (to_of a.shape c) n asked)))

  all_ack_is : all_below (λ c. not (is_ack_to (audited_chan a.shape.channels c) n) || has_delivered a.chans (member_at a.members n).executed c) (chan_count a.shape) ≡ all_ack a.shape st n
  unfolding all_ack
  all_ack_is = all_same _ _ (chan_count a.shape) (λ c lc.
      ap (λ (x : Bool). not x || has_delivered a.chans (member_at a.members n).executed c) (ack_same c) ∙
      where_asked (ack_to a.shape n c) _ _ (λ asked. fresh_same c lc (is_to (not (carries_data a.shape c)) (to_of a.shape c) n asked)))

  pub deed_seen : (rows : ℕ) → deed_of (member_at a.members n).phase
      (heard_below a.shape.channels a.chans n (member_at a.members n).executed (length a.shape.channels)).all_in
      (heard_below a.shape.channels a.chans n (member_at a.members n).executed (length a.shape.channels)).any_in
      (heard_below a.shape.channels a.chans n (member_at a.members n).executed (length a.shape.channels)).all_ack
      (nat_lt (member_at a.members n).executed rows) ≡ deed_at a.shape rows st n
  deed_seen rows = λ i. deed_of (h.phase n ln i) (all_in_is i) (any_in_is i) (all_ack_is i) (nat_lt (h.executed n ln i) rows)
