-- How far nodes and channels are after a delivery, and after an instant.
use Rattle.std.proofs.Common.{◌≡◌, ℕ, ◌+◌, ◌*◌, ◌^◌, ◌<◌, List, length, replicate, set, Bool, true, false, ◌==◌, ◌&&◌, sym, ◌∙◌, ap, subst, arith, slice_index_or, length-set}
use Rattle.std.specs.Prelude.{slice_set}
use Rattle.std.proofs.lemmas.List.{get_or-set_same, get_or-set_other, get_or-replicate, length-replicate, get_or_read}
use Rattle.lt_arch.specs.declared.shape.Shape.{Shape}
use Rattle.lt_arch.specs.declared.chan.Chan.{Chan}
use Rattle.lt_arch.specs.declared.chan.ChanKind.{ChanKind}
use Rattle.lt_arch.specs.declared.chan.ChanKind.TheVariants.{Data, Ack}
use Rattle.lt_arch.specs.Readers.{node_count, chan_count, chan_of, to_of, is_data, no_chan}
use Rattle.lt_arch.specs.Step.{updated}
use Rattle.lt_arch.proofs.Changes.{at_updated}
use Rattle.lt_arch.proofs.Facts.{ends-of}
use Rattle.lt_sim.specs.declared.tally.Tally.{Tally}
use Rattle.lt_sim.specs.declared.progress.Progress.{Progress}
use Rattle.lt_sim.specs.Tallies.{leads_kind_to, raised}
use Rattle.lt_base.specs.Truths.{same_truth}
use Rattle.lt_sim.specs.Progress.{fresh_by, early_by, IsTallied, ProgressIsAt, IsNoneAhead}
use Rattle.lt_sim.proofs.Counting.{how_many-most}
use Rattle.lt_sim.proofs.Tallying.{tally_arrives, tally_stays, tally_executes}

-- no count is large
pub fresh_few : (w : Tally) (s : Shape) (k : Bool) (e d : ℕ → ℕ) (n : ℕ) → IsTallied w s k e d → chan_count s < 2147483648 → n < node_count s → slice_index_or w.fresh.items n 0 < 4294967295
fresh_few w s k e d n h few lt = let is = h.fresh n lt in let most = how_many-most (λ c. leads_kind_to s.channels k n c && fresh_by s e d c) (chan_count s) in omega (arith, is, most, few)

pub early_few : (w : Tally) (s : Shape) (k : Bool) (e d : ℕ → ℕ) (n : ℕ) → IsTallied w s k e d → chan_count s < 2147483648 → n < node_count s → slice_index_or w.early.items n 0 < 4294967295
early_few w s k e d n h few lt = let is = h.early n lt in let most = how_many-most (λ c. leads_kind_to s.channels k n c && early_by s e d c) (chan_count s) in omega (arith, is, most, few)

pub chan_to : (s : Shape) (channels : List Chan) (c : ℕ) → channels ≡ s.channels → (slice_index_or channels c no_chan).to ≡ to_of s c
unfolding chan_of
chan_to s channels c is = ap (λ (cs : List Chan). (slice_index_or cs c no_chan).to) is

pub chan_kind : (s : Shape) (channels : List Chan) (c : ℕ) → channels ≡ s.channels → (chan_of s c).kind ≡ (slice_index_or channels c no_chan).kind
unfolding chan_of
chan_kind s channels c is = ap (λ (cs : List Chan). (slice_index_or cs c no_chan).kind) (sym is)

pub to_in : (s : Shape) (c : ℕ) → c < chan_count s → to_of s c < node_count s
to_in s c lt = (ends-of s c lt).to_in

-- A delivery.

module _ (p : Progress) (s : Shape) (e d : ℕ → ℕ) (c : ℕ) (at : ProgressIsAt p s e d) (lt : c < chan_count s) (channels : List Chan) (is : channels ≡ s.channels) (executed delivered : ℕ)
    (read_executed : executed ≡ slice_index_or p.executed.items (slice_index_or channels c no_chan).to executed) (read_delivered : delivered ≡ slice_index_or p.delivered.items c delivered) where
  executed_now : executed ≡ e (to_of s c)
  executed_now =
      let inside = to_in s c lt in
      let size = at.executed_length in
      let there : executed ≡ slice_index_or p.executed.items (to_of s c) executed = read_executed ∙ ap (λ n. slice_index_or p.executed.items n executed) (chan_to s channels c is) in
      get_or_read p.executed.items (to_of s c) executed (omega (arith, inside, size)) there 0 ∙ at.executed_is (to_of s c) inside

  pub delivered_now : delivered ≡ d c
  delivered_now = let size = at.delivered_length in get_or_read p.delivered.items c delivered (omega (arith, lt, size)) read_delivered 0 ∙ at.delivered_is c lt

  grown : (w v : Tally) (k : Bool) → IsTallied w s k e d → same_truth k (is_data (chan_of s c).kind) ≡ true → v.wanted.items ≡ w.wanted.items
      → v.fresh.items ≡ raised (delivered + 1 == executed) w.fresh.items (slice_index_or channels c no_chan).to → v.early.items ≡ raised (delivered + 1 == executed + 1) w.early.items (slice_index_or channels c no_chan).to
      → IsTallied v s k e (updated d c (d c + 1))
  grown w v k h kind wanted fresh early =
      tally_arrives w s k e d h v c lt kind (to_in s c lt) wanted
      (fresh ∙ (λ i. raised (delivered_now i + 1 == executed_now i) w.fresh.items (chan_to s channels c is i)))
      (early ∙ (λ i. raised (delivered_now i + 1 == executed_now i + 1) w.early.items (chan_to s channels c is i)))

  moved : (new : Progress) → new.executed.items ≡ p.executed.items → new.delivered.items ≡ set p.delivered.items c (delivered + 1) → IsTallied new.messages s true e (updated d c (d c + 1)) → IsTallied new.acks s false e (updated d c (d c + 1))
      → ProgressIsAt new s e (updated d c (d c + 1))
  moved new executed_same delivered_set messages acks = record {
    few = at.few;
    executed_length = ap length executed_same ∙ at.executed_length;
    executed_is = λ n within. ap (λ (xs : List ℕ). slice_index_or xs n 0) executed_same ∙ at.executed_is n within;
    delivered_length = ap length delivered_set ∙ (length-set p.delivered.items c (delivered + 1) ∙ at.delivered_length);
    delivered_is = λ i within. ap (λ (xs : List ℕ). slice_index_or xs i 0) delivered_set ∙ at_updated (λ i v. i < chan_count s → slice_index_or (set p.delivered.items c (delivered + 1)) i 0 ≡ v) d c (d c + 1)
        (λ _. let size = at.delivered_length in get_or-set_same p.delivered.items c (delivered + 1) 0 (omega (arith, lt, size)) ∙ ap (λ v. v + 1) delivered_now)
        (λ i ne inside. get_or-set_other p.delivered.items c i (delivered + 1) 0 ne ∙ at.delivered_is i inside) i within;
    messages = messages;
    acks = acks;
  }

  module _ (new : Progress) (executed_same : new.executed.items ≡ p.executed.items) (delivered_set : new.delivered.items ≡ set p.delivered.items c (delivered + 1)) where
    pub data_arrives : (slice_index_or channels c no_chan).kind ≡ Data → new.acks ≡ p.acks → new.messages.wanted.items ≡ p.messages.wanted.items
        → new.messages.fresh.items ≡ raised (delivered + 1 == executed) p.messages.fresh.items (slice_index_or channels c no_chan).to → new.messages.early.items ≡ raised (delivered + 1 == executed + 1) p.messages.early.items (slice_index_or channels c no_chan).to
        → ProgressIsAt new s e (updated d c (d c + 1))
    data_arrives kind acks wanted fresh early =
        let kind' : (chan_of s c).kind ≡ Data = chan_kind s channels c is ∙ kind in
        moved new executed_same delivered_set (grown p.messages new.messages true at.messages (ap (λ (x : ChanKind). is_data x) kind') wanted fresh early)
        (subst (λ (w : Tally). IsTallied w s false e (updated d c (d c + 1))) (sym acks) (tally_stays p.acks s false e d at.acks c lt (ap (λ (x : ChanKind). same_truth false (is_data x)) kind')))

    pub ack_arrives : (slice_index_or channels c no_chan).kind ≡ Ack → new.messages ≡ p.messages → new.acks.wanted.items ≡ p.acks.wanted.items
        → new.acks.fresh.items ≡ raised (delivered + 1 == executed) p.acks.fresh.items (slice_index_or channels c no_chan).to → new.acks.early.items ≡ raised (delivered + 1 == executed + 1) p.acks.early.items (slice_index_or channels c no_chan).to
        → ProgressIsAt new s e (updated d c (d c + 1))
    ack_arrives kind messages wanted fresh early =
        let kind' : (chan_of s c).kind ≡ Ack = chan_kind s channels c is ∙ kind in
        moved new executed_same delivered_set
        (subst (λ (w : Tally). IsTallied w s true e (updated d c (d c + 1))) (sym messages) (tally_stays p.messages s true e d at.messages c lt (ap (λ (x : ChanKind). is_data x) kind')))
        (grown p.acks new.acks false at.acks (ap (λ (x : ChanKind). same_truth false (is_data x)) kind') wanted fresh early)

-- An instant.

pub executed_on : (p new : Progress) (s : Shape) (e d : ℕ → ℕ) (n x : ℕ) → ProgressIsAt p s e d → n < node_count s → IsNoneAhead s e d n → x ≡ slice_index_or p.executed.items n x
    → new.executed.items ≡ set p.executed.items n (x + 1) → new.delivered.items ≡ p.delivered.items
    → new.messages.wanted.items ≡ p.messages.wanted.items → new.messages.fresh.items ≡ slice_set p.messages.fresh.items n (slice_index_or p.messages.early.items n 0) → new.messages.early.items ≡ slice_set p.messages.early.items n 0
    → new.acks.wanted.items ≡ p.acks.wanted.items → new.acks.fresh.items ≡ slice_set p.acks.fresh.items n (slice_index_or p.acks.early.items n 0) → new.acks.early.items ≡ slice_set p.acks.early.items n 0
    → ProgressIsAt new s (updated e n (e n + 1)) d
executed_on p new s e d n x at lt none read executed delivered wanted fresh early wanted_acks fresh_acks early_acks =
    let size = at.executed_length in
    let now : x ≡ e n = get_or_read p.executed.items n x (omega (arith, lt, size)) read 0 ∙ at.executed_is n lt in
    record {
      few = at.few;
      executed_length = ap length executed ∙ (length-set p.executed.items n (x + 1) ∙ at.executed_length);
      executed_is = λ i within. ap (λ (xs : List ℕ). slice_index_or xs i 0) executed ∙ at_updated (λ i v. i < node_count s → slice_index_or (set p.executed.items n (x + 1)) i 0 ≡ v) e n (e n + 1)
          (λ _. get_or-set_same p.executed.items n (x + 1) 0 (omega (arith, lt, size)) ∙ ap (λ v. v + 1) now)
          (λ i ne inside. get_or-set_other p.executed.items n i (x + 1) 0 ne ∙ at.executed_is i inside) i within;
      delivered_length = ap length delivered ∙ at.delivered_length;
      delivered_is = λ c within. ap (λ (xs : List ℕ). slice_index_or xs c 0) delivered ∙ at.delivered_is c within;
      messages = tally_executes p.messages s true e d at.messages new.messages n lt none wanted fresh early;
      acks = tally_executes p.acks s false e d at.acks new.acks n lt none wanted_acks fresh_acks early_acks;
    }

-- The start.

pub at_first : (p : Progress) (s : Shape) → 2 * (node_count s + chan_count s) < 2 ^ 32 → p.executed.items ≡ replicate (node_count s) 0 → p.delivered.items ≡ replicate (chan_count s) 0
    → IsTallied p.messages s true (λ n. 0) (λ c. 0) → IsTallied p.acks s false (λ n. 0) (λ c. 0) → ProgressIsAt p s (λ n. 0) (λ c. 0)
at_first p s numbered executed delivered messages acks = record {
  few = omega (arith, numbered);
  executed_length = ap length executed ∙ length-replicate (node_count s) 0;
  executed_is = λ n within. ap (λ (xs : List ℕ). slice_index_or xs n 0) executed ∙ get_or-replicate (node_count s) n 0 0 within;
  delivered_length = ap length delivered ∙ length-replicate (chan_count s) 0;
  delivered_is = λ c within. ap (λ (xs : List ℕ). slice_index_or xs c 0) delivered ∙ get_or-replicate (chan_count s) c 0 0 within;
  messages = messages;
  acks = acks;
}
