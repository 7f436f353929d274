-- What init leaves stands for a node before the first event.
use Rattle.std.proofs.Common.{◌≡◌, ℕ, zero, suc, ◌<◌, ◌≤◌, ◌-◌, Bool, true, false, not, List, [], ◌∷◌, length, map, Some, None, refl, sym, ap, ◌∙◌, subst, arith, pos, eqb-true}
use Rattle.std.specs.Prelude.{◌==◌, ◌||◌, nat_eq, slice_index_or, filter, if◌then◌else◌}
use Rattle.std.specs.List.{slice_get, list_any, AllByRecursion}
use Rattle.std.proofs.lemmas.Bool.Decides.{Decides-eqb}
use Rattle.std.proofs.lemmas.List.{get_or-map, get_or-replicate}
use Rattle.lt_arch.specs.declared.chan.Chan.{Chan}
use Rattle.lt_arch.specs.declared.timing.Protocol.{Protocol}
use Rattle.lt_arch.specs.declared.timing.Protocol.TheVariants.{BackPressure, TimeBased}
use Rattle.lt_arch.specs.State.{Phase, first_phase, unsent}
use Rattle.lt_arch.specs.Readers.{node_count, is_data, no_chan}
use Rattle.lt_link.specs.Bits.{bit_of}
use Rattle.lt_link.specs.Inbox.{InboxState, no_inbox}
use Rattle.lt_link.specs.Ports.{is_to}
use Rattle.lt_net_node.specs.Layout.{joins}
use Rattle.lt_net_bench.specs.Starts.{first_inbox}
use Rattle.lt_net_bench.proofs.Entries.{and_parts}
use Rattle.lt_place_reads.specs.declared.crossing.Crossing.{Crossing}
use Rattle.lt_step.specs.Code.{StepCode}
use Rattle.lt_c.specs.Tree.{slot}
use Rattle.lt_c.specs.Meaning.{Store, of_truth, store_left}
use Rattle.lt_c_control.specs.Control.{HasPhase}
use Rattle.lt_c_step.proofs.Statements.{firsts_match}
use Rattle.lt_c_control.specs.Inboxes.{HasData, HasAck, FirstData, starting, DifferInNode, BeginsFresh}
use Rattle.lt_c_control.proofs.Started.{starts_fresh}
use Rattle.lt_c_step.specs.Translate.{of_firsts}
use Rattle.lt_c_net.specs.Stands.{sender, NodeAt, ListsSenders}
use Rattle.lt_c_net.specs.Laws.{literals_of, firsts_from, init_of, StartsStand}
use Rattle.lt_machine.specs.declared.machine.Machine.{Ghosts as Machines}
use Rattle.lt_arch.specs.declared.controller.Controller.{Ghosts as Controls}

not_true : (b : Bool) → not b ≡ true → b ≡ false
not_true true h = absurd (cc)
not_true false h = refl

-- what holds of all that is made of a list holds of what is made of one of its numbers
of_one : {A : Type 0} (P : A → Type 0) (g : ℕ → A) (js : List ℕ) (j : ℕ) → AllByRecursion P (map g js) → list_any (nat_eq j) js ≡ true → P (g j)
of_one P g [] j h is_in = absurd (cc)
of_one P g (i ∷ js) j h is_in = here (nat_eq j i) refl h.0 (of_one P g js j h.1) is_in
  where
    here : (b : Bool) → nat_eq j i ≡ b → P (g i) → (list_any (nat_eq j) js ≡ true → P (g j)) → (b || list_any (nat_eq j) js) ≡ true → P (g j)
    here true e first rest k = subst (λ x. P (g x)) (sym (eqb-true j i e)) first
    here false e first rest k = rest k

of_same : (P : ℕ → Type 0) (js : List ℕ) → AllByRecursion P js → AllByRecursion P (map (λ j. j) js)
of_same P [] h = tt
of_same P (j ∷ js) h = (h.0, of_same P js h.1)

module _ (cross : List Crossing) (cs : List Chan) (n : ℕ) (code : StepCode) (m : Store) (ins acks : List ℕ) (counts : Bool) (ins_are : ListsSenders cs n true ins) (acks_are : ListsSenders cs n false acks) (differ : DifferInNode (firsts_from cross n ins)) where
  abbrev m1 : Store
  m1 = store_left (of_firsts code.keeps) m

  abbrev m' : Store
  m' = store_left (starting (firsts_from cross n ins) acks counts) m1

  begins_fresh : BeginsFresh (firsts_from cross n ins) acks m'
  begins_fresh = starts_fresh.fresh (firsts_from cross n ins) differ acks counts m1

  abbrev bs : List InboxState
  bs = map (first_inbox cross) cs

  inbox_at : (c : ℕ) → c < length cs → slice_index_or bs c no_inbox ≡ first_inbox cross (slice_index_or cs c no_chan)
  inbox_at c lt = get_or-map (first_inbox cross) cs c no_chan no_inbox lt

  data_of : (j to : ℕ) (is : Bool) → to ≡ n → is ≡ true → HasData m' j (record { payload = literals_of cross n j; bit = false; read = true }) →
      HasData m' j (record { payload = if is then map (λ cr. cr.first) (filter (joins j to) cross) else []; bit = false; read = is })
  data_of j to is same yea h =
      subst (λ to. HasData m' j (record { payload = if is then map (λ cr. cr.first) (filter (joins j to) cross) else []; bit = false; read = is })) (sym same)
      (subst (λ is. HasData m' j (record { payload = if is then map (λ cr. cr.first) (filter (joins j n) cross) else []; bit = false; read = is })) (sym yea) h)

  data_at : (c : ℕ) → c < length cs → is_to cs n true c ≡ true → HasData m' (sender cs c) (slice_index_or bs c no_inbox)
  data_at c lt to =
      let parts = and_parts ((slice_index_or cs c no_chan).to == n) (is_data (slice_index_or cs c no_chan).kind) to in
      let own = of_one (λ (d : FirstData). HasData m' d.from_node (record { payload = d.firsts; bit = false; read = true })) (λ j. record { from_node = j; firsts = literals_of cross n j }) ins (sender cs c) begins_fresh.messages (ins_are.all c lt to) in
      subst (λ b. HasData m' (sender cs c) b) (sym (inbox_at c lt))
      (data_of (sender cs c) (slice_index_or cs c no_chan).to (is_data (slice_index_or cs c no_chan).kind) ((Decides-eqb (slice_index_or cs c no_chan).to n).0 parts.0) parts.1 own)

  ack_at : (c : ℕ) → c < length cs → is_to cs n false c ≡ true → HasAck m' (sender cs c) (slice_index_or bs c no_inbox)
  ack_at c lt to =
      let parts = and_parts ((slice_index_or cs c no_chan).to == n) (not (is_data (slice_index_or cs c no_chan).kind)) to in
      let own = of_one (λ j. HasAck m' j (record { payload = []; bit = false; read = false })) (λ j. j) acks (sender cs c) (of_same (λ j. HasAck m' j (record { payload = []; bit = false; read = false })) acks begins_fresh.acks) (acks_are.all c lt to) in
      subst (λ b. HasAck m' (sender cs c) b) (sym (inbox_at c lt))
      (record { bit_is = own.bit_is; read_is = own.read_is ∙ ap of_truth (sym (not_true (is_data (slice_index_or cs c no_chan).kind) parts.1)) })

  begins : (ph : Phase) (count : ℕ) (p : Protocol) → ph ≡ first_phase p → count ≡ 0 → NodeAt cs n ph count bs code [] m'
  begins ph count p is none =
      subst (λ ph. NodeAt cs n ph count bs code [] m') (sym is)
      (subst (λ count. NodeAt cs n (first_phase p) count bs code [] m') (sym none)
      (record {
        phase_is = phase_first p;
        messages = data_at;
        acks = ack_at;
        slots = λ x v h. starts_fresh.slots (firsts_from cross n ins) acks counts m1 (slot x) refl ∙ firsts_match code.keeps (λ _. None) m (λ y w e. absurd (cc)) x v h;
        executed_is = begins_fresh.executed_is;
        sent_is = begins_fresh.sent_is ∙ sent_first p;
        counted = counted_first p;
      }))
    where
      phase_first : (p : Protocol) → HasPhase m' (first_phase p)
      phase_first BackPressure = begins_fresh.phase_is
      phase_first TimeBased = begins_fresh.phase_is

      sent_first : (p : Protocol) → pos 0 ≡ of_truth (bit_of (0 - unsent (first_phase p)))
      sent_first BackPressure = refl
      sent_first TimeBased = refl

      counted_first : (p : Protocol) → unsent (first_phase p) ≤ 0
      counted_first BackPressure = omega arith
      counted_first TimeBased = omega arith

there : {C : Type 0} (xs : List C) (n : ℕ) → n < length xs → (c : C) × (slice_get xs n ≡ Some c)
there [] n lt = absurd (omega (arith, lt))
there (x ∷ xs) zero lt = (x, refl)
there (x ∷ xs) (suc n) lt = there xs n (omega (arith, lt))

pub starts_stand : {C M : Type 0} (ctl : Controls C) (mch : Machines M) → StartsStand ctl mch
starts_stand {C} {M} ctl mch p t n code ins acks counts m node start none inboxes ins_are acks_are differ =
    let c = there p.controllers n (let e = start.count in omega (arith, node, e)) in (
      c.0,
      c.1,
      subst (λ b. NodeAt p.shape.channels n (ctl.phase c.0) (slice_index_or p.executed n 0) b code [] (store_left (init_of code (firsts_from p.layout.cross n ins) acks counts) m)) (sym inboxes)
          (begins p.layout.cross p.shape.channels n code m ins acks counts ins_are acks_are differ (ctl.phase c.0) (slice_index_or p.executed n 0) t.protocol (start.phases n c.0 c.1)
          (ap (λ e. slice_index_or e n 0) none ∙ get_or-replicate (node_count p.shape) n 0 0 node)),
    )
