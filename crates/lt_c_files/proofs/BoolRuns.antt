-- Along a run the variables that files declare as bool hold 0 or 1.
use Rattle.std.proofs.Common.{◌≡◌, ℕ, ◌<◌, Bool, true, false, List, [], ◌∷◌, ◌++◌, length, refl, sym, ap, ◌∙◌, subst, arith, eqb-true}
use Rattle.std.specs.Prelude.{◌==◌, ◌&&◌, nat_eq, nat_lt, slice_index_or, if◌then◌else◌}
use Rattle.std.specs.List.{AllByRecursion}
use Rattle.std.proofs.lemmas.Bool.Decides.{Decides-eqb}
use Rattle.lt_arch.specs.declared.event.Event.{Event}
use Rattle.lt_arch.specs.declared.event.Event.TheVariants.{Act, Del, End}
use Rattle.lt_arch.specs.declared.pace.Pace.{Pace}
use Rattle.lt_arch.specs.Readers.{node_count, chan_count, from_of, to_of, chan_of, no_chan, is_data}
use Rattle.lt_arch.specs.Schedule.{IsEventOf}
use Rattle.lt_link.specs.Ports.{is_to, is_from}
use Rattle.lt_norm.specs.Flat.{Originated}
use Rattle.lt_net_node.specs.Payloads.{row_at}
use Rattle.lt_net_bench.proofs.Entries.{and_parts}
use Rattle.lt_net_replay.specs.Sound.{PlansAreSound, PlanIsSound}
use Rattle.lt_c.specs.Tree.{executed}
use Rattle.lt_c.specs.Meaning.{Store, store_left}
use Rattle.lt_c.specs.Truths.{Types, HoldsTruths, AssignsTruths}
use Rattle.lt_c.proofs.Truthful.{truths_stay}
use Rattle.lt_c_control.specs.Inboxes.{delivering, acknowledging}
use Rattle.lt_c_net.specs.Stands.{Packet, sender, offered, handed}
use Rattle.lt_c_net.specs.Moves.{own_row}
use Rattle.lt_c_net.specs.Laws.{taken_in}
use Rattle.lt_c_net.specs.Emitted.{NodeCode, init_tree, activation_tree, has_executed, has_sent, packet_for, answer_packet}
use Rattle.lt_c_net.specs.Runs.{Deployment, NodesRunning, begun_with, activated_store, put_on, with_activation, value_count, with_delivery, with_event, with_events}
use Rattle.lt_c_heads.specs.declared.file.NodeFile.{NodeFile}
use Rattle.lt_c_node.specs.NodeOf.{values_between, IsFileOfNode}
use Rattle.lt_c_files.specs.FileNodes.{code_of_file}
use Rattle.lt_c_files.specs.FileRuns.{RunsTexts}
use Rattle.lt_c_files.specs.DeclaredTypes.{value_type, declared_types, HoldsDeclared, IsTruthful, HoldsBools, BoolsHoldTruths}
use Rattle.lt_c_files.proofs.BoolFiles.{acts_truths, init_truths, delivered, acknowledged, offered_truths, sent_bool, sent_mark}

all_and : {A : Type 0} (P : A → Type 0) (xs ys : List A) → AllByRecursion P xs → AllByRecursion P ys → AllByRecursion P (xs ++ ys)
all_and P [] ys h g = g
all_and P (x ∷ xs) ys h g = (h.0, all_and P xs ys h.1 g)

module _ (plans : PlansAreSound) (f : Originated) (pace : Pace) (d : Deployment) (texts : ℕ → List ℕ) (is : RunsTexts f pace d texts) where
  sound : PlanIsSound d.layout d.shape d.timing (length d.inputs)
  sound = plans f d.layout d.shape d.timing (length d.inputs) is.placed (pace, is.paced) is.timed is.accepted

  inside : (n : ℕ) → n < node_count d.shape → n < length d.layout.nodes
  inside n lt = let e = sound.fits.channels.nodes in omega (arith, e, lt)

  abbrev file : (n : ℕ) → n < node_count d.shape → NodeFile
  file n lt = (is.texts_are n lt).emitted.file

  abbrev is_file : (n : ℕ) (lt : n < node_count d.shape) → IsFileOfNode d.layout d.shape d.timing pace n (file n lt)
  is_file n lt = (is.texts_are n lt).emitted.is_file

  abbrev types : (n : ℕ) → n < node_count d.shape → Types
  types n lt = declared_types (file n lt)

  abbrev Truths : NodesRunning → Type 0
  Truths w = HoldsBools is w

  at_start : (memory : ℕ → Store) → HoldsDeclared is memory → Truths (begun_with d memory)
  at_start memory h = record {
    variables = λ n lt. truths_stay (types n lt) (init_tree d.layout d.timing n (d.nodes n))
        (subst (λ (node : NodeCode). AssignsTruths (types n lt) (init_tree d.layout d.timing n node)) (sym (is.texts_are n lt).code)
        (init_truths f d.layout is.placed d.shape sound.fits.channels d.timing pace n (inside n lt) (file n lt) (is_file n lt))) (memory n) (h n lt);
    on_way = λ c lt. tt;
  }

  -- ---- an activation

  activated : (w : NodesRunning) → Truths w → (n : ℕ) (lt : n < node_count d.shape) → HoldsTruths (types n lt) (activated_store d w n)
  activated w t n lt =
      truths_stay (types n lt) (activation_tree d.timing n (d.nodes n))
      (subst (λ (node : NodeCode). AssignsTruths (types n lt) (activation_tree d.timing n node)) (sym (is.texts_are n lt).code)
      (acts_truths f d.layout is.placed d.shape sound.fits.channels d.timing pace n (inside n lt) (file n lt) (is_file n lt)))
      (offered (nat_lt (w.used n) (length d.inputs)) (own_row d.layout n (row_at d.inputs (w.used n))) (w.stores n))
      (offered_truths f d.layout is.placed d.shape sound.fits.channels d.timing pace n (inside n lt) (file n lt) (is_file n lt) d.inputs is.fit (nat_lt (w.used n) (length d.inputs)) (w.used n) (w.stores n) (t.variables n lt))

  made_packet : (n : ℕ) (lt : n < node_count d.shape) (m : Store) → HoldsTruths (types n lt) m → (c : ℕ) → from_of d.shape c ≡ n → IsTruthful d c (packet_for (d.nodes n) (to_of d.shape c) m)
  made_packet n lt m h c from =
      subst (λ (node : NodeCode). IsTruthful d c (packet_for node (to_of d.shape c) m)) (sym (is.texts_are n lt).code) (
        sent_mark f d.layout is.placed d.shape sound.fits.channels d.timing pace n (inside n lt) (file n lt) (is_file n lt) ((code_of_file (file n lt)).slots_for (to_of d.shape c)) m h,
        λ i b. sent_bool f d.layout is.placed d.shape sound.fits.channels d.timing pace n (inside n lt) (file n lt) (is_file n lt) (to_of d.shape c) i m h
            (ap (λ j. value_type (values_between d.layout j (to_of d.shape c)) i) (sym from) ∙ b),
      )

  all_put : (n : ℕ) (lt : n < node_count d.shape) (m : Store) → HoldsTruths (types n lt) m → (c : ℕ) → AllByRecursion (IsTruthful d c) (put_on d n m c)
  unfolding chan_of
  all_put n lt m h c = by_data (is_from d.shape.channels n true c && has_sent m) refl
    where
      by_answer : (b : Bool) → AllByRecursion (IsTruthful d c) (if b then answer_packet m ∷ [] else [])
      by_answer true = ((h executed refl, λ i b. refl), tt)
      by_answer false = tt

      by_data : (b : Bool) → (is_from d.shape.channels n true c && has_sent m) ≡ b →
          AllByRecursion (IsTruthful d c) (if b then packet_for (d.nodes n) (to_of d.shape c) m ∷ [] else (if is_from d.shape.channels n false c && has_executed m then answer_packet m ∷ [] else []))
      by_data true e =
          let from = and_parts ((slice_index_or d.shape.channels c no_chan).from == n) (is_data (slice_index_or d.shape.channels c no_chan).kind) (and_parts (is_from d.shape.channels n true c) (has_sent m) e).0 in
          (made_packet n lt m h c ((Decides-eqb (slice_index_or d.shape.channels c no_chan).from n).0 from.0), tt)
      by_data false e = by_answer (is_from d.shape.channels n false c && has_executed m)

  after_act : (w : NodesRunning) → Truths w → (n : ℕ) → n < node_count d.shape → Truths (with_activation d w n (activated_store d w n))
  after_act w t n lt = record {
    variables = λ i i_lt. by_node i i_lt (nat_eq i n) refl;
    on_way = λ c c_lt. all_and (IsTruthful d c) (w.under_way c) (put_on d n (activated_store d w n) c) (t.on_way c c_lt) (all_put n lt (activated_store d w n) (activated w t n lt) c);
  }
    where
      by_node : (i : ℕ) (i_lt : i < node_count d.shape) (b : Bool) → nat_eq i n ≡ b → HoldsTruths (types i i_lt) (if b then activated_store d w n else w.stores i)
      by_node i i_lt true e = subst (λ k. HoldsTruths (types i i_lt) (activated_store d w k)) (eqb-true i n e) (activated w t i i_lt)
      by_node i i_lt false e = t.variables i i_lt

  -- ---- a delivery

  taken : (c : ℕ) (k : Packet) → IsTruthful d c k → (n : ℕ) (lt : n < node_count d.shape) (m : Store) → HoldsTruths (types n lt) m → HoldsTruths (types n lt) (taken_in d.shape.channels n c (value_count d c) k m)
  unfolding chan_of
  taken c k truthful n lt m h = by_data (is_to d.shape.channels n true c) refl
    where
      by_answer : (b : Bool) → HoldsTruths (types n lt) (if b then store_left (acknowledging (sender d.shape.channels c)) (handed k m) else m)
      by_answer true = acknowledged f d.layout is.placed d.shape sound.fits.channels d.timing pace n (inside n lt) (file n lt) (is_file n lt) (sender d.shape.channels c) k m truthful.0 h
      by_answer false = h

      by_data : (b : Bool) → is_to d.shape.channels n true c ≡ b → HoldsTruths (types n lt)
          (if b then store_left (delivering (sender d.shape.channels c) (value_count d c)) (handed k m) else (if is_to d.shape.channels n false c then store_left (acknowledging (sender d.shape.channels c)) (handed k m) else m))
      by_data true e =
          let to = and_parts ((slice_index_or d.shape.channels c no_chan).to == n) (is_data (slice_index_or d.shape.channels c no_chan).kind) e in
          let to_is : (slice_index_or d.shape.channels c no_chan).to ≡ n = (Decides-eqb (slice_index_or d.shape.channels c no_chan).to n).0 to.0 in
          delivered f d.layout is.placed d.shape sound.fits.channels d.timing pace n (inside n lt) (file n lt) (is_file n lt) (sender d.shape.channels c) (value_count d c) k m truthful.0
          (λ i b. truthful.1 i (ap (λ j. value_type (values_between d.layout (sender d.shape.channels c) j) i) to_is ∙ b)) h
      by_data false e = by_answer (is_to d.shape.channels n false c)

  after_del : (w : NodesRunning) → Truths w → (c : ℕ) → c < chan_count d.shape → Truths (with_delivery d w c (w.under_way c))
  after_del w t c c_lt = by_list (w.under_way c) refl
    where
      by_list : (ks : List Packet) → w.under_way c ≡ ks → Truths (with_delivery d w c ks)
      by_list [] e = t
      by_list (k ∷ ks) e = record { variables = λ n lt. taken c k all.0 n lt (w.stores n) (t.variables n lt); on_way = λ i i_lt. by_channel i i_lt (nat_eq i c) refl }
        where
          all : AllByRecursion (IsTruthful d c) (k ∷ ks)
          all = subst (AllByRecursion (IsTruthful d c)) e (t.on_way c c_lt)

          by_channel : (i : ℕ) → i < chan_count d.shape → (b : Bool) → nat_eq i c ≡ b → AllByRecursion (IsTruthful d i) (if b then ks else w.under_way i)
          by_channel i i_lt true g = subst (λ j. AllByRecursion (IsTruthful d j) ks) (sym (eqb-true i c g)) all.1
          by_channel i i_lt false g = t.on_way i i_lt

  -- ---- a run

  after_event : (w : NodesRunning) → Truths w → (e : Event) → IsEventOf d.shape e → Truths (with_event d w e)
  after_event w t (Act n at) event = after_act w t n event.placed
  after_event w t (Del c at) event = after_del w t c event.placed
  after_event w t (End at) event = t

  after_events : (es : List Event) (w : NodesRunning) → Truths w → AllByRecursion (IsEventOf d.shape) es → Truths (with_events d w es)
  after_events [] w t events = t
  after_events (e ∷ es) w t events = after_events es (with_event d w e) (after_event w t e events.0) events.1

pub bools_hold_truths : PlansAreSound → BoolsHoldTruths
bools_hold_truths plans f pace d texts is memory h es events = after_events plans f pace d texts is es (begun_with d memory) (at_start plans f pace d texts is memory h) events
