-- Messages sent channel by channel.
use Rattle.std.proofs.Common.{◌≡◌, ◌≢◌, ℕ, ◌+◌, ◌<◌, List, [], ◌∷◌, ◌++◌, length, set, Bool, true, false, ◌&&◌, ◌==◌, nat_lt, cond, if◌then◌else◌, inl, inr, refl, sym, ◌∙◌, ap, subst, arith, slice_index_or, length-set, lt-ltb, le-ltb}
use Rattle.std.proofs.lemmas.Bool.{cases_lt}
use Rattle.std.proofs.lemmas.List.{get_or-set_same, get_or-set_other}
use Rattle.lt_arch.specs.declared.chan.Chan.{Chan}
use Rattle.lt_arch.specs.declared.shape.Shape.{Shape}
use Rattle.lt_arch.specs.Readers.{chan_of, is_data}
use Rattle.lt_arch.proofs.Changes.{same_or_not}
use Rattle.lt_lossy.specs.State.{LinkState}
use Rattle.lt_lossy.specs.Step.{link_with_message}
use Rattle.lt_lossy.specs.Times.{LossyTimes, queue_at, with_sent_on}
use Rattle.lt_lossy_audit.specs.declared.seen.Seen.{Seen}
use Rattle.lt_lossy_audit.specs.Links.{no_link, link_seen}
use Rattle.lt_lossy_audit.specs.Nodes.{count_seen, sends_seen, sent_seen}
use Rattle.lt_lossy_audit.specs.Sends.{SendsSeen}

and_false : (b : Bool) → (b && false) ≡ false
and_false true = refl
and_false false = refl

lt_other : (c i : ℕ) → c ≢ i → nat_lt c i ≡ nat_lt c (i + 1)
lt_other c i ne = elim (cases_lt c i) [
  | inl lt ↦ lt-ltb c i lt ∙ sym (lt-ltb c (i + 1) (omega (arith, lt)))
  | inr le ↦ le-ltb c i le ∙ sym (le-ltb c (i + 1) (omega (arith, le, ne)))
]

-- Lists that are changed at each place below a number where a test passes.
module _ {A : Type 0} (d : A) (on : ℕ → Bool) (change : Bool → (c : ℕ) → A → A) (idle : (c : ℕ) (x : A) → change false c x ≡ x) (xs : List A) where
  abbrev pub ChangedTo : (i : ℕ) → List A → Type 0
  ChangedTo i ys = (c : ℕ) → c < length xs → slice_index_or ys c d ≡ change (nat_lt c i && on c) c (slice_index_or xs c d)

  pub changed_first : ChangedTo 0 xs
  changed_first c lt = sym (ap (λ (b : Bool). change (b && on c) c (slice_index_or xs c d)) (le-ltb c 0 (omega arith)) ∙ idle c (slice_index_or xs c d))

  module _ (i : ℕ) (ys : List A) (h : ChangedTo i ys) where
    pub changed_next : i < length xs → slice_index_or ys i d ≡ slice_index_or xs i d
    changed_next lt = h i lt ∙ (ap (λ (b : Bool). change (b && on i) i (slice_index_or xs i d)) (le-ltb i i (omega arith)) ∙ idle i (slice_index_or xs i d))

    pub changed_at : on i ≡ true → i < length xs → i < length ys → (v : A) → v ≡ change true i (slice_index_or ys i d) → ChangedTo (i + 1) (set ys i v)
    changed_at here lt within v is c inside = elim (same_or_not c i) [
      | inl e ↦ subst (λ (c : ℕ). slice_index_or (set ys i v) c d ≡ change (nat_lt c (i + 1) && on c) c (slice_index_or xs c d)) (sym e)
          (get_or-set_same ys i v d within ∙ (is ∙ (ap (change true i) (changed_next lt) ∙ sym (λ j. change (lt-ltb i (i + 1) (omega arith) j && here j) i (slice_index_or xs i d)))))
      | inr ne ↦ get_or-set_other ys i c v d ne ∙ (h c inside ∙ ap (λ (b : Bool). change (b && on c) c (slice_index_or xs c d)) (lt_other c i ne))
    ]

    pub changed_not : on i ≡ false → i < length xs → ChangedTo (i + 1) ys
    changed_not off lt c inside = elim (same_or_not c i) [
      | inl e ↦ subst (λ (c : ℕ). slice_index_or ys c d ≡ change (nat_lt c (i + 1) && on c) c (slice_index_or xs c d)) (sym e)
          (changed_next lt ∙ sym ((λ j. change (nat_lt i (i + 1) && off j) i (slice_index_or xs i d)) ∙ (ap (λ (b : Bool). change b i (slice_index_or xs i d)) (and_false (nat_lt i (i + 1))) ∙ idle i (slice_index_or xs i d))))
      | inr ne ↦ h c inside ∙ ap (λ (b : Bool). change (b && on c) c (slice_index_or xs c d)) (lt_other c i ne)
    ]

module _ (s : Shape) (n : ℕ) (x : Seen) (at : ℕ) where
  abbrev on : ℕ → Bool
  on = sends_seen s n x

  abbrev with_link : Bool → (c : ℕ) → LinkState → LinkState
  with_link b c link = link_with_message b (count_seen s x c) at link

  abbrev with_time : Bool → (c : ℕ) → List ℕ → List ℕ
  with_time b c times = cond b (times ++ at ∷ []) times

  pub seen_none : (ls : List LinkState) (w : LossyTimes) → SendsSeen s n x at 0 ls ls w w
  seen_none ls w = record {
    same_length = refl;
    links = changed_first no_link on with_link (λ c link. refl) ls;
    queues = record { same_length = refl; each = changed_first [] on with_time (λ c times. refl) w.queues };
    watch = refl;
  }

  module _ (i : ℕ) (old mid : List LinkState) (w v : LossyTimes) (h : SendsSeen s n x at i old mid w v) where
    -- the next channel is as it was
    pub link_same : i < length old → link_seen mid i ≡ link_seen old i
    link_same lt = changed_next no_link on with_link (λ c link. refl) old i mid h.links lt

    pub queue_same : i < length w.queues → queue_at v i ≡ queue_at w i
    queue_same lt = changed_next [] on with_time (λ c times. refl) w.queues i v.queues h.queues.each lt

    pub seen_more : on i ≡ true → i < length old → i < length w.queues → (link : LinkState) → link ≡ link_with_message true (count_seen s x i) at (link_seen mid i) → SendsSeen s n x at (i + 1) old (set mid i link) w (with_sent_on v i at)
    seen_more here lt queue link is = record {
      same_length = length-set mid i link ∙ h.same_length;
      links = changed_at no_link on with_link (λ c link. refl) old i mid h.links here lt (let size = h.same_length in omega (arith, lt, size)) link is;
      queues = record {
        same_length = length-set v.queues i (queue_at v i ++ at ∷ []) ∙ h.queues.same_length;
        each = changed_at [] on with_time (λ c times. refl) w.queues i v.queues h.queues.each here queue (let size = h.queues.same_length in omega (arith, queue, size)) (queue_at v i ++ at ∷ []) refl;
      };
      watch = ap (λ (z : LossyTimes). record z { queues = set v.queues i (queue_at v i ++ at ∷ []) }) h.watch;
    }

    pub seen_skip : on i ≡ false → i < length old → i < length w.queues → SendsSeen s n x at (i + 1) old mid w v
    seen_skip off lt queue = record {
      same_length = h.same_length;
      links = changed_not no_link on with_link (λ c link. refl) old i mid h.links off lt;
      queues = record { same_length = h.queues.same_length; each = changed_not [] on with_time (λ c times. refl) w.queues i v.queues h.queues.each off queue };
      watch = h.watch;
    }

-- what is read of a channel tells what the node counts there, and whether it sends
module _ (s : Shape) (n : ℕ) (x : Seen) (i : ℕ) (channel : Chan) (number sent : ℕ) (channel_is : channel ≡ chan_of s i) (sent_is : sent ≡ sent_seen x) (number_is : number ≡ (if is_data channel.kind then sent else x.executed)) where
  pub count_is : number ≡ count_seen s x i
  count_is = number_is ∙ (λ j. if is_data (channel_is j).kind then sent_is j else x.executed)

  pub test_is : ((channel.from == n) && nat_lt 0 number) ≡ sends_seen s n x i
  test_is = λ j. ((channel_is j).from == n) && nat_lt 0 (count_is j)
