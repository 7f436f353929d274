-- Loops over the channels of a node.
use Rattle.std.proofs.Common.{◌≡◌, ℕ, ◌+◌, ◌<◌, ◌≤◌, Bool, true, false, List, length, set, ap, ◌∙◌, arith, get_or}
use Rattle.std.specs.Prelude.{slice_index_or}
use Rattle.std.proofs.lemmas.List.{get_or_default}
use Rattle.lt_arch.specs.declared.chan.Chan.{Chan}
use Rattle.lt_arch.specs.Deeds.{all_below, some_below}
use Rattle.lt_link.specs.Inbox.{InboxState, no_inbox, has_unread}
use Rattle.lt_net_node.specs.Acts.{marked}
use Rattle.lt_net_node.specs.Freshness.{fresh_at, fresh_or_other, fresh_one, TakenUpTo}
use Rattle.lt_link.specs.Ports.{is_to, numbers}
use Rattle.lt_net_node.proofs.InboxesRead.{taken_none, taken_more, taken_skip}
use Rattle.lt_link.proofs.Loops.{all_none as all_before, some_none as some_before, all_more as all_after, some_more as some_after, all_not as not_all, some_yes as some_one}
use Rattle.lt_link.proofs.Listed.{from_start, onward, here, at_end, within_zero, passes_zero}

module _ (cs : List Chan) (bs : List InboxState) (same : length bs ≡ length cs) (n : ℕ) (kind : Bool) (xs : List ℕ) (is : xs ≡ numbers (is_to cs n kind) (length cs)) where
  pub all_none : all_below (fresh_or_other cs bs n kind) (slice_index_or xs 0 (length cs)) ≡ true
  all_none = all_before (is_to cs n kind) (fresh_at bs) (length cs) xs is

  pub some_none : some_below (fresh_one cs bs n kind) (slice_index_or xs 0 (length cs)) ≡ false
  some_none = some_before (is_to cs n kind) (fresh_at bs) (length cs) xs is

  module _ (i : ℕ) (lt : i < length xs) (box : InboxState) (at : box ≡ get_or bs (slice_index_or xs i 0) box) (fresh : Bool) (fresh_is : fresh ≡ has_unread box) where
    fresh_here : fresh ≡ fresh_at bs (slice_index_or xs i 0)
    fresh_here = fresh_is ∙ ap has_unread (at ∙ get_or_default bs (slice_index_or xs i 0) box no_inbox (let w = within_zero (is_to cs n kind) (length cs) xs is i lt in omega (arith, w, same)))

    pub all_more : fresh ≡ true → all_below (fresh_or_other cs bs n kind) (slice_index_or xs i (length cs)) ≡ true → all_below (fresh_or_other cs bs n kind) (slice_index_or xs (i + 1) (length cs)) ≡ true
    all_more yes_here h = all_after (is_to cs n kind) (fresh_at bs) (length cs) xs is i lt fresh fresh_here yes_here h

    pub some_more : fresh ≡ false → some_below (fresh_one cs bs n kind) (slice_index_or xs i (length cs)) ≡ false → some_below (fresh_one cs bs n kind) (slice_index_or xs (i + 1) (length cs)) ≡ false
    some_more no_here h = some_after (is_to cs n kind) (fresh_at bs) (length cs) xs is i lt fresh fresh_here no_here h

    pub all_not : fresh ≡ false → all_below (fresh_or_other cs bs n kind) (length cs) ≡ false
    all_not no_here = not_all (is_to cs n kind) (fresh_at bs) (length cs) xs is i lt fresh fresh_here no_here

    pub some_yes : fresh ≡ true → some_below (fresh_one cs bs n kind) (length cs) ≡ true
    some_yes yes_here = some_one (is_to cs n kind) (fresh_at bs) (length cs) xs is i lt fresh fresh_here yes_here

-- The inboxes of a node become read.
module _ (on : ℕ → Bool) (n : ℕ) (xs : List ℕ) (is : xs ≡ numbers on n) (old : List InboxState) where
  pub reads_none : TakenUpTo (slice_index_or xs 0 n) on old old
  reads_none = from_start on n xs is (λ c. TakenUpTo c on old old) (λ c lt off h. taken_skip c on old old h off) (taken_none on old)

  pub reads_more : (i : ℕ) → i < length xs → (mid new : List InboxState) → n ≡ length old → TakenUpTo (slice_index_or xs i n) on old mid →
      new ≡ set mid (slice_index_or xs i 0) (marked true (slice_index_or mid (slice_index_or xs i 0) no_inbox)) → TakenUpTo (slice_index_or xs (i + 1) n) on old new
  reads_more i lt mid new same h e =
      onward on n xs is (λ c. TakenUpTo c on old new) (λ c lt off h. taken_skip c on old new h off) i lt
      (taken_more (slice_index_or xs i 0) on old mid (here n xs (λ c. TakenUpTo c on old mid) i lt h) new
      (let w = within_zero on n xs is i lt in omega (arith, w, same, h.same_length)) (passes_zero on n xs is i lt) e)

  pub reads_all : (i : ℕ) → length xs ≤ i → (new : List InboxState) → TakenUpTo (slice_index_or xs i n) on old new → TakenUpTo n on old new
  reads_all i ge new h = at_end n xs (λ c. TakenUpTo c on old new) i ge h
