-- One payload more is posted.
use Rattle.std.proofs.Common.{◌≡◌, ℕ, ◌+◌, ◌<◌, ◌≤◌, Bool, true, false, List, [], length, set, refl, sym, ap, ◌∙◌, subst, arith, inl, inr, length-set, cond}
use Rattle.std.specs.Prelude.{◌&&◌, nat_lt, slice_index_or}
use Rattle.std.proofs.lemmas.Bool.Decides.{eqb_tells}
use Rattle.std.proofs.lemmas.List.{get_or-set_same, get_or-set_other}
use Rattle.lt_base.specs.declared.value.Value.{Value}
use Rattle.lt_net_node.proofs.Below.{lt_none, lt_here, lt_self, lt_other, lt_yes}
use Rattle.lt_link.specs.Ports.{numbers}
use Rattle.lt_link.proofs.Listed.{from_start, onward, here, at_end, within_zero, passes_zero}
use Rattle.lt_net_lossy.specs.Changes.{Posts, PostedUpTo}

posted_none : (on : ℕ → Bool) (bs ps : List (List Value)) → PostedUpTo 0 on bs ps ps
posted_none on bs ps = record { same_length = refl; each = λ c. ap (λ b. cond (b && on c) (slice_index_or bs c []) (slice_index_or ps c [])) (sym (lt_none c)) }

module _ (i : ℕ) (on : ℕ → Bool) (bs old mid : List (List Value)) (upto : PostedUpTo i on bs old mid) where
  pub here_still : slice_index_or mid i [] ≡ slice_index_or old i []
  here_still = upto.each i ∙ ap (λ b. cond (b && on i) (slice_index_or bs i []) (slice_index_or old i [])) (lt_self i)

  posted_more : (new : List (List Value)) → i < length mid → on i ≡ true → new ≡ set mid i (slice_index_or bs i []) → PostedUpTo (i + 1) on bs old new
  posted_more new lt h is = record {
    same_length = ap length is ∙ length-set mid i _ ∙ upto.same_length;
    each = λ c. ap (λ xs. slice_index_or xs c []) is ∙ elim (eqb_tells c i) [
      | inl e ↦
          let there : slice_index_or (set mid i (slice_index_or bs i [])) i [] ≡ cond (nat_lt i (i + 1) && on i) (slice_index_or bs i []) (slice_index_or old i []) =
          get_or-set_same mid i _ [] lt ∙ sym (ap (λ b. cond (b && on i) (slice_index_or bs i []) (slice_index_or old i [])) (lt_here i) ∙ ap (λ b. cond b (slice_index_or bs i []) (slice_index_or old i [])) h) in
          subst (λ c. slice_index_or (set mid i (slice_index_or bs i [])) c [] ≡ cond (nat_lt c (i + 1) && on c) (slice_index_or bs c []) (slice_index_or old c [])) (sym e.1) there
      | inr e ↦ get_or-set_other mid i c _ [] e.1 ∙ upto.each c ∙ ap (λ b. cond (b && on c) (slice_index_or bs c []) (slice_index_or old c [])) (sym (lt_other c i e.1))
    ];
  }

  posted_skip : on i ≡ false → PostedUpTo (i + 1) on bs old mid
  posted_skip h = record {
    same_length = upto.same_length;
    each = λ c. elim (eqb_tells c i) [
      | inl e ↦
          let there : slice_index_or mid i [] ≡ cond (nat_lt i (i + 1) && on i) (slice_index_or bs i []) (slice_index_or old i []) =
          here_still ∙ sym (ap (λ b. cond (b && on i) (slice_index_or bs i []) (slice_index_or old i [])) (lt_here i) ∙ ap (λ b. cond b (slice_index_or bs i []) (slice_index_or old i [])) h) in
          subst (λ c. slice_index_or mid c [] ≡ cond (nat_lt c (i + 1) && on c) (slice_index_or bs c []) (slice_index_or old c [])) (sym e.1) there
      | inr e ↦ upto.each c ∙ ap (λ b. cond (b && on c) (slice_index_or bs c []) (slice_index_or old c [])) (sym (lt_other c i e.1))
    ];
  }

-- The data channels of a node.
module _ (on : ℕ → Bool) (n : ℕ) (xs : List ℕ) (is : xs ≡ numbers on n) (bs old : List (List Value)) where
  skip_posted : (new : List (List Value)) (c : ℕ) → c < n → on c ≡ false → PostedUpTo c on bs old new → PostedUpTo (c + 1) on bs old new
  skip_posted new c lt off h = posted_skip c on bs old new h off

  pub posts_begin : PostedUpTo (slice_index_or xs 0 n) on bs old old
  posts_begin = from_start on n xs is (λ c. PostedUpTo c on bs old old) (skip_posted old) (posted_none on bs old)

  pub posts_here : (new : List (List Value)) (i : ℕ) → i < length xs → PostedUpTo (slice_index_or xs i n) on bs old new → PostedUpTo (slice_index_or xs i 0) on bs old new
  posts_here new i lt h = here n xs (λ c. PostedUpTo c on bs old new) i lt h

  pub posts_more : (i : ℕ) → i < length xs → (mid new : List (List Value)) → n ≡ length old → PostedUpTo (slice_index_or xs i n) on bs old mid → new ≡ set mid (slice_index_or xs i 0) (slice_index_or bs (slice_index_or xs i 0) []) →
      PostedUpTo (slice_index_or xs (i + 1) n) on bs old new
  posts_more i lt mid new same h e =
      onward on n xs is (λ c. PostedUpTo c on bs old new) (skip_posted new) i lt
      (posted_more (slice_index_or xs i 0) on bs old mid (here n xs (λ c. PostedUpTo c on bs old mid) i lt h) new
      (let w = within_zero on n xs is i lt in omega (arith, w, same, h.same_length)) (passes_zero on n xs is i lt) e)

  pub posts_end : (i : ℕ) → length xs ≤ i → (new : List (List Value)) → PostedUpTo (slice_index_or xs i n) on bs old new → PostedUpTo n on bs old new
  posts_end i ge new h = at_end n xs (λ c. PostedUpTo c on bs old new) i ge h

-- all of them
pub posted_all : (on on' : ℕ → Bool) (bs old new : List (List Value)) → PostedUpTo (length old) on bs old new → ((c : ℕ) → c < length old → on c ≡ on' c) → Posts on' bs old new
posted_all on on' bs old new t same = record {
  same_length = t.same_length;
  each = λ c lt. t.each c ∙ ap (λ x. cond (x && on c) (slice_index_or bs c []) (slice_index_or old c [])) (lt_yes c (length old) lt) ∙ ap (λ x. cond x (slice_index_or bs c []) (slice_index_or old c [])) (same c lt);
}
