-- One inbox more is read.
use Rattle.std.proofs.Common.{◌≡◌, ℕ, ◌+◌, ◌<◌, Bool, true, false, List, length, set, refl, sym, ap, ◌∙◌, subst, arith, inl, inr, length-set}
use Rattle.std.specs.Prelude.{◌&&◌, nat_lt, slice_index_or}
use Rattle.std.proofs.lemmas.Bool.Decides.{eqb_tells}
use Rattle.std.proofs.lemmas.List.{get_or-set_same, get_or-set_other}
use Rattle.std.proofs.lemmas.Option.{slice_get_within, get_or_from_slice_get, slice_get-get_or}
use Rattle.lt_link.specs.Inbox.{InboxState, no_inbox}
use Rattle.lt_net_node.specs.Acts.{marked, MarkedOn}
use Rattle.lt_net_node.specs.Freshness.{TakenUpTo}
use Rattle.lt_net_node.proofs.Below.{lt_none, lt_here, lt_self, lt_other, lt_yes}

pub taken_none : (on : ℕ → Bool) (bs : List InboxState) → TakenUpTo 0 on bs bs
taken_none on bs = record { same_length = refl; each = λ c. ap (λ b. marked (b && on c) (slice_index_or bs c no_inbox)) (sym (lt_none c)) }

module _ (i : ℕ) (on : ℕ → Bool) (old mid : List InboxState) (upto : TakenUpTo i on old mid) where
  here_still : slice_index_or mid i no_inbox ≡ slice_index_or old i no_inbox
  here_still = upto.each i ∙ ap (λ b. marked (b && on i) (slice_index_or old i no_inbox)) (lt_self i)

  pub taken_more : (new : List InboxState) → i < length mid → on i ≡ true → new ≡ set mid i (marked true (slice_index_or mid i no_inbox)) → TakenUpTo (i + 1) on old new
  taken_more new lt h is = record {
    same_length = ap length is ∙ length-set mid i _ ∙ upto.same_length;
    each = λ c. ap (λ bs. slice_index_or bs c no_inbox) is ∙ elim (eqb_tells c i) [
      | inl e ↦
          let here : slice_index_or (set mid i (marked true (slice_index_or mid i no_inbox))) i no_inbox ≡ marked (nat_lt i (i + 1) && on i) (slice_index_or old i no_inbox) =
          get_or-set_same mid i _ no_inbox lt ∙ ap (marked true) here_still ∙ sym (ap (λ b. marked (b && on i) (slice_index_or old i no_inbox)) (lt_here i) ∙ ap (λ b. marked b (slice_index_or old i no_inbox)) h) in
          subst (λ c. slice_index_or (set mid i (marked true (slice_index_or mid i no_inbox))) c no_inbox ≡ marked (nat_lt c (i + 1) && on c) (slice_index_or old c no_inbox)) (sym e.1) here
      | inr e ↦ get_or-set_other mid i c _ no_inbox e.1 ∙ upto.each c ∙ ap (λ b. marked (b && on c) (slice_index_or old c no_inbox)) (sym (lt_other c i e.1))
    ];
  }

  pub taken_skip : on i ≡ false → TakenUpTo (i + 1) on old mid
  taken_skip h = record {
    same_length = upto.same_length;
    each = λ c. elim (eqb_tells c i) [
      | inl e ↦
          let here : slice_index_or mid i no_inbox ≡ marked (nat_lt i (i + 1) && on i) (slice_index_or old i no_inbox) =
          here_still ∙ sym (ap (λ b. marked (b && on i) (slice_index_or old i no_inbox)) (lt_here i) ∙ ap (λ b. marked b (slice_index_or old i no_inbox)) h) in
          subst (λ c. slice_index_or mid c no_inbox ≡ marked (nat_lt c (i + 1) && on c) (slice_index_or old c no_inbox)) (sym e.1) here
      | inr e ↦ upto.each c ∙ ap (λ b. marked (b && on c) (slice_index_or old c no_inbox)) (sym (lt_other c i e.1))
    ];
  }

-- all of them
pub taken_marks : (on on' : ℕ → Bool) (old new : List InboxState) → TakenUpTo (length old) on old new → ((c : ℕ) → c < length old → on c ≡ on' c) → MarkedOn on' old new
taken_marks on on' old new t same = record {
  same_length = t.same_length;
  each = λ c b h.
      let w = slice_get_within new c b h in
      let lt : c < length old = omega (arith, w, t.same_length) in (
        slice_index_or old c no_inbox,
        slice_get-get_or old c no_inbox lt,
        sym (get_or_from_slice_get new c b no_inbox h) ∙ t.each c ∙ ap (λ x. marked (x && on c) (slice_index_or old c no_inbox)) (lt_yes c (length old) lt) ∙ ap (λ x. marked x (slice_index_or old c no_inbox)) (same c lt),
      );
}

-- none
pub no_marks : (on : ℕ → Bool) (bs : List InboxState) → ((c : ℕ) → on c ≡ false) → MarkedOn on bs bs
no_marks on bs none = record { same_length = refl; each = λ c b h. (b, h, sym (ap (λ x. marked x b) (none c))) }
