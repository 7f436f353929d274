-- Activations keep a store standing, under both protocols.
use Rattle.std.proofs.Common.{◌≡◌, ℕ, zero, suc, ◌<◌, ◌+◌, Bool, true, false, List, [], ◌∷◌, length, set, Some, refl, sym, ap, ◌∙◌, subst, arith}
use Rattle.std.specs.Prelude.{nat_lt, slice_index_or, if◌then◌else◌}
use Rattle.std.specs.List.{slice_get}
use Rattle.std.proofs.lemmas.Option.{slice_get_within}
use Rattle.lt_base.specs.declared.value.Value.{Value}
use Rattle.lt_arch.specs.declared.chan.Chan.{Chan}
use Rattle.lt_arch.specs.declared.shape.Shape.{Shape}
use Rattle.lt_arch.specs.declared.event.Deed.{Deed}
use Rattle.lt_arch.specs.State.{Phase, Wait, Ready, First, Sending, Executing}
use Rattle.lt_arch.specs.Deeds.{deed_of, phase_after, all_below, some_below}
use Rattle.lt_arch.specs.Step.{is_execute}
use Rattle.lt_link.specs.Inbox.{no_inbox}
use Rattle.lt_net_node.specs.Freshness.{fresh_or_other, fresh_one}
use Rattle.lt_net_bench.specs.Bench.{BenchState}
use Rattle.lt_net_bench.proofs.RunByCode.{same_machine}
use Rattle.lt_net.proofs.Counts as counts
use Rattle.lt_step.specs.Code.{StepCode}
use Rattle.lt_c.specs.Tree.{more, Statement, perform}
use Rattle.lt_c.specs.Meaning.{Store, c_truth_of, store_left}
use Rattle.lt_c_step.specs.declared.sources.Source.{Source}
use Rattle.lt_c_step.specs.declared.sources.Output.{Output}
use Rattle.lt_c_step.specs.Part.{part_step}
use Rattle.lt_c.specs.Meaning.{WritesStep}
use Rattle.lt_c_control.specs.Control.{pressure, every, some, fresh_data, fresh_ack, HasPhase, Does}
use Rattle.lt_c.proofs.Stores.{truth_back}
use Rattle.lt_c_control.proofs.Pressing.{pressure_is_deed}
use Rattle.lt_c_step.proofs.Executing.{parts_write_slots}
use Rattle.lt_c_net.specs.Stands.{sender, NodeAt, NodeStands, offered}
use Rattle.lt_c_net.specs.Moves.{IsCodeOfNode, rows_after, own_row}
use Rattle.lt_c_net.specs.Laws.{Acts, IsPressing, StandsAfter, PressingKeeps}
use Rattle.lt_c_net.proofs.Senders.{data_is, ack_is, every_sender, some_sender}
use Rattle.lt_c_net.proofs.Acting.{offers, deed_keeps}
use Rattle.lt_machine.specs.declared.machine.Machine.{Ghosts as Machines}
use Rattle.lt_arch.specs.declared.controller.Controller.{Ghosts as Controls}

got_set : {C : Type 0} (xs : List C) (n : ℕ) (a : C) → n < length xs → slice_get (set xs n a) n ≡ Some a
got_set [] n a lt = absurd (omega (arith, lt))
got_set (x ∷ xs) zero a lt = refl
got_set (x ∷ xs) (suc n) a lt = got_set xs n a (omega (arith, lt))

pressing_does : (ins acks : List ℕ) (run : Statement) (send execute : ℕ) (m : Store) (ph : Phase) (some_in : Bool) → WritesStep run → IsPressing ph → HasPhase m ph →
    let deed : Deed = deed_of ph (every (fresh_data m) ins) some_in (every (fresh_ack m) acks) (c_truth_of (m more)) in
    Does ins acks run m (store_left (pressure ins acks run) m) deed (phase_after send execute ph deed)
pressing_does ins acks run send execute m Wait some_in w ok h = pressure_is_deed ins acks run send execute m false some_in w h
pressing_does ins acks run send execute m Ready some_in w ok h = pressure_is_deed ins acks run send execute m true some_in w h
pressing_does ins acks run send execute m First some_in w ok h = absurd ok
pressing_does ins acks run send execute m (Sending k) some_in w ok h = absurd ok
pressing_does ins acks run send execute m (Executing k) some_in w ok h = absurd ok

module _ {C M : Type 0} (ctl : Controls C) (mch : Machines M)
    (p q : BenchState C M) (n : ℕ) (code : StepCode) (ins acks : List ℕ) (ss : List Source) (os : List Output) (rows : List (List Value)) (row : List Value) (deed : Deed) (m : Store) (file : IsCodeOfNode p.layout p.shape n code ins acks ss os)
    (acts : Acts ctl mch p q n row rows deed) (s : NodeStands ctl p n code rows m) where
  abbrev cs : List Chan
  cs = p.shape.channels

  abbrev count : ℕ
  count = slice_index_or p.executed n 0

  abbrev has : Bool
  has = nat_lt count p.rows

  abbrev m1 : Store
  m1 = offered has (own_row p.layout n row) m

  abbrev run : Statement
  run = perform (part_step ss os code)

  abbrev control : C
  control = acts.wakes.before

  abbrev ph : Phase
  ph = ctl.phase control

  abbrev all_in : Bool
  all_in = all_below (fresh_or_other cs p.inboxes n true) (length cs)

  abbrev some_in : Bool
  some_in = some_below (fresh_one cs p.inboxes n true) (length cs)

  abbrev all_ack : Bool
  all_ack = all_below (fresh_or_other cs p.inboxes n false) (length cs)

  pub writes : WritesStep run
  writes m x h = parts_write_slots ss os code m x h

  -- the controller that was woken is that of the store
  pub at : NodeAt cs n ph count p.inboxes code rows m
  at = subst (λ c. NodeAt cs n (ctl.phase c) count p.inboxes code rows m) (same_machine p.controllers n s.0 control s.1 acts.wakes.there) s.2

  at1 : NodeAt cs n ph count p.inboxes code rows m1
  at1 = offers cs n ph count p.inboxes code rows m has (own_row p.layout n row) at

  pub has_phase : HasPhase m1 ph
  has_phase = at1.phase_is

  every_in : every (fresh_data m1) ins ≡ all_in
  every_in = every_sender cs n true ins file.ins_are p.inboxes (fresh_data m1) (λ c lt to. data_is m1 (sender cs c) (slice_index_or p.inboxes c no_inbox) (at1.messages c lt to))

  pub some_of_in : some (fresh_data m1) ins ≡ some_in
  some_of_in = some_sender cs n true ins file.ins_are p.inboxes (fresh_data m1) (λ c lt to. data_is m1 (sender cs c) (slice_index_or p.inboxes c no_inbox) (at1.messages c lt to))

  every_ack : every (fresh_ack m1) acks ≡ all_ack
  every_ack = every_sender cs n false acks file.acks_are p.inboxes (fresh_ack m1) (λ c lt to. ack_is m1 (sender cs c) (slice_index_or p.inboxes c no_inbox) (at1.acks c lt to))

  abbrev next : Deed → Phase
  next d = phase_after (ctl.send control) (ctl.execute control) ph d

  goes_of : counts.Wakes ph count (deed_of ph all_in some_in all_ack has) (next (deed_of ph all_in some_in all_ack has)) (if is_execute (deed_of ph all_in some_in all_ack has) then count + 1 else count)
  goes_of = counts.wakes ph count (ctl.send control) (ctl.execute control) all_in some_in all_ack has at.counted

  goes : counts.Wakes ph count deed (next deed) (if is_execute deed then count + 1 else count)
  goes = subst (λ d. counts.Wakes ph count d (next d) (if is_execute d then count + 1 else count)) (sym acts.wakes.deed_is) goes_of

  -- where the statements of a controller do the deed, the store stands
  pub finish : (m' : Store) → Does ins acks run m1 m' deed (next deed) → StandsAfter ctl p q n row code rows deed m'
  finish m' d =
      let w = acts.wakes in
      let r : NodeAt cs n (next deed) (slice_index_or q.executed n 0) q.inboxes code (rows_after p n row deed rows) m' =
      deed_keeps mch p q n row rows ph code ins acks ss os file m has acts.node at deed (next deed) m' d acts.moves acts.is_fed goes in
      let r' : NodeAt q.shape.channels n (ctl.phase w.after) (slice_index_or q.executed n 0) q.inboxes code (rows_after p n row deed rows) m' =
      subst (λ (z : Shape). NodeAt z.channels n (ctl.phase w.after) (slice_index_or q.executed n 0) q.inboxes code (rows_after p n row deed rows) m') (sym acts.shape)
      (subst (λ x. NodeAt cs n x (slice_index_or q.executed n 0) q.inboxes code (rows_after p n row deed rows) m') (sym w.phase_is) r) in
      record {
        is_there = (w.after, ap (λ xs. slice_get xs n) w.is ∙ got_set p.controllers n w.after (slice_get_within p.controllers n w.before w.there), r');
        deed_is = d.deed_is;
      }

  pub presses_deed : IsPressing ph → Does ins acks run m1 (store_left (pressure ins acks run) m1) deed (next deed)
  presses_deed ok =
      let same : deed_of ph (every (fresh_data m1) ins) some_in (every (fresh_ack m1) acks) (c_truth_of (m1 more)) ≡ deed =
      (λ i. deed_of ph (every_in i) some_in (every_ack i) (truth_back has i)) ∙ sym acts.wakes.deed_is in
      subst (λ d. Does ins acks run m1 (store_left (pressure ins acks run) m1) d (next d)) same
      (pressing_does ins acks run (ctl.send control) (ctl.execute control) m1 ph some_in writes ok has_phase)

  pub presses : IsPressing ph → StandsAfter ctl p q n row code rows deed (store_left (pressure ins acks run) m1)
  presses ok = finish (store_left (pressure ins acks run) m1) (presses_deed ok)

pub pressing_keeps : {C M : Type 0} (ctl : Controls C) (mch : Machines M) → PressingKeeps ctl mch
pressing_keeps ctl mch p q n code ins acks ss os rows row deed m file ok acts s =
    presses ctl mch p q n code ins acks ss os rows row deed m file acts s (ok acts.wakes.before acts.wakes.there)
