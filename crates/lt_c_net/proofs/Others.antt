-- The stores of nodes that do not act.
use Rattle.std.proofs.Common.{◌≡◌, ◌≢◌, ℕ, zero, suc, ◌∷◌, [], ◌+◌, Bool, true, false, List, length, refl, sym, ap, ◌∙◌, subst, set}
use Rattle.std.specs.Prelude.{◌&&◌, ◌==◌, nat_lt, slice_index_or}
use Rattle.std.specs.List.{slice_get}
use Rattle.std.proofs.lemmas.Bool.Decides.{Decides-eqb}
use Rattle.std.proofs.lemmas.List.{get_or-set_other}
use Rattle.lt_base.specs.declared.value.Value.{Value}
use Rattle.lt_arch.specs.declared.chan.Chan.{Chan}
use Rattle.lt_arch.specs.declared.shape.Shape.{Shape}
use Rattle.lt_arch.specs.declared.event.Deed.{Deed}
use Rattle.lt_arch.specs.declared.event.Deed.TheVariants.{Nothing, Execute, Send}
use Rattle.lt_arch.specs.Readers.{is_data, no_chan}
use Rattle.lt_link.specs.Inbox.{no_inbox}
use Rattle.lt_net_node.specs.Acts.{marked}
use Rattle.lt_net_node.specs.Freshness.{TakenUpTo}
use Rattle.lt_link.specs.Ports.{is_to}
use Rattle.lt_base.specs.Truths.{same_truth}
use Rattle.lt_net_bench.specs.Bench.{BenchState}
use Rattle.lt_net_bench.proofs.Entries.{and_parts, other_number}
use Rattle.lt_c_control.specs.Inboxes.{HasData, HasAck}
use Rattle.lt_c_net.specs.Stands.{sender, NodeAt}
use Rattle.lt_c_net.specs.Moves.{Moves}
use Rattle.lt_c_net.specs.Kept.{OthersStay}
use Rattle.lt_machine.specs.declared.machine.Machine.{Ghosts as Machines}
use Rattle.lt_arch.specs.declared.controller.Controller.{Ghosts as Controls}

set_other : {C : Type 0} (xs : List C) (n i : ℕ) (v : C) → i ≢ n → slice_get (set xs n v) i ≡ slice_get xs i
set_other [] n i v ne = refl
set_other (x ∷ xs) zero zero v ne = absurd (ne refl)
set_other (x ∷ xs) zero (suc i) v ne = refl
set_other (x ∷ xs) (suc n) zero v ne = refl
set_other (x ∷ xs) (suc n) (suc i) v ne = set_other xs n i v (λ e. ne (ap suc e))

-- a channel to one node is none to another
not_to : (cs : List Chan) (n i c : ℕ) (kind kind' : Bool) → i ≢ n → is_to cs i kind c ≡ true → is_to cs n kind' c ≡ false
not_to cs n i c kind kind' ne h =
    let to : (slice_index_or cs c no_chan).to ≡ i = (Decides-eqb (slice_index_or cs c no_chan).to i).0 (and_parts ((slice_index_or cs c no_chan).to == i) (same_truth kind (is_data (slice_index_or cs c no_chan).kind)) h).0 in
    ap (λ (b : Bool). b && same_truth kind' (is_data (slice_index_or cs c no_chan).kind)) (ap (λ z. z == n) to ∙ other_number i n ne)

and_none : (a b : Bool) → b ≡ false → (a && b) ≡ false
and_none true b h = h
and_none false b h = refl

-- its inbox stays
inbox_stays : {C M : Type 0} (mch : Machines M) (p q : BenchState C M) (n i : ℕ) (row : List Value) (deed : Deed) (kind : Bool) → i ≢ n → Moves mch p q n row deed →
    (c : ℕ) → is_to p.shape.channels i kind c ≡ true → slice_index_or p.inboxes c no_inbox ≡ slice_index_or q.inboxes c no_inbox
inbox_stays mch p q n i row Nothing kind ne moves c to = ap (λ b. slice_index_or b c no_inbox) (sym moves.0)
inbox_stays mch p q n i row Send kind ne moves c to =
    let taken : TakenUpTo (length p.shape.channels) (is_to p.shape.channels n false) p.inboxes q.inboxes = moves.0 in
    sym (taken.each c ∙ ap (λ x. marked x (slice_index_or p.inboxes c no_inbox)) (and_none (nat_lt c (length p.shape.channels)) (is_to p.shape.channels n false c) (not_to p.shape.channels n i c kind false ne to)))
inbox_stays mch p q n i row Execute kind ne moves c to =
    let taken : TakenUpTo (length p.shape.channels) (is_to p.shape.channels n true) p.inboxes q.inboxes = moves.taken in
    sym (taken.each c ∙ ap (λ x. marked x (slice_index_or p.inboxes c no_inbox)) (and_none (nat_lt c (length p.shape.channels)) (is_to p.shape.channels n true c) (not_to p.shape.channels n i c kind true ne to)))

count_stays : {C M : Type 0} (mch : Machines M) (p q : BenchState C M) (n i : ℕ) (row : List Value) (deed : Deed) → i ≢ n → Moves mch p q n row deed → slice_index_or p.executed i 0 ≡ slice_index_or q.executed i 0
count_stays mch p q n i row Nothing ne moves = ap (λ e. slice_index_or e i 0) (sym moves.1)
count_stays mch p q n i row Send ne moves = ap (λ e. slice_index_or e i 0) (sym moves.1)
count_stays mch p q n i row Execute ne moves = sym (ap (λ e. slice_index_or e i 0) moves.executed ∙ get_or-set_other p.executed n i (slice_index_or p.executed n 0 + 1) 0 ne)

pub others_stay : {C M : Type 0} (ctl : Controls C) (mch : Machines M) → OthersStay ctl mch
others_stay ctl mch p q n i code own rows row deed m ne a s =
    let cs : List Chan = p.shape.channels in
    let stays = inbox_stays mch p q n i row deed in
    let at : NodeAt cs i (ctl.phase s.0) (slice_index_or p.executed i 0) p.inboxes code rows m = s.2 in
    let r : NodeAt cs i (ctl.phase s.0) (slice_index_or p.executed i 0) q.inboxes code rows m = record {
      phase_is = at.phase_is;
      messages = λ c lt to. subst (λ b. HasData m (sender cs c) b) (stays true ne a.moves c to) (at.messages c lt to);
      acks = λ c lt to. subst (λ b. HasAck m (sender cs c) b) (stays false ne a.moves c to) (at.acks c lt to);
      slots = at.slots;
      executed_is = at.executed_is;
      sent_is = at.sent_is;
      counted = at.counted;
    } in (
      s.0,
      ap (λ xs. slice_get xs i) a.wakes.is ∙ set_other p.controllers n i a.wakes.after ne ∙ s.1,
      subst (λ (z : Shape). NodeAt z.channels i (ctl.phase s.0) (slice_index_or q.executed i 0) q.inboxes code rows m) (sym a.shape)
          (subst (λ e. NodeAt cs i (ctl.phase s.0) e q.inboxes code rows m) (count_stays mch p q n i row deed ne a.moves) r),
    )
