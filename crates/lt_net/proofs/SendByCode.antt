-- A node that sends its messages of a kind, by what code has.
use Rattle.std.proofs.Common.{◌≡◌, ℕ, ◌+◌, ◌*◌, ◌^◌, ◌<◌, ◌≤◌, Bool, true, List, [], length, length-set, map, set, Some, None, IsTrue, sym, ap, ◌∙◌, subst, arith}
use Rattle.std.specs.Prelude.{slice_index_or, Result, Ok, Err, OnOk, IsErrOf, IsErrAnd}
use Rattle.lt_base.specs.declared.value.Value.{Value}
use Rattle.lt_base.specs.Value.{ty_of}
use Rattle.lt_arch.specs.declared.chan.Chan.{Chan}
use Rattle.lt_arch.specs.declared.timing.Timing.{Timing}
use Rattle.lt_arch.specs.Times.{Times}
use Rattle.lt_io.specs.declared.fault.LinkErr.{LinkErr}
use Rattle.lt_io.specs.declared.fault.LinkErr.TheVariants.{Memory as NoMemory}
use Rattle.lt_io.specs.Counts.{LinkCounted}
use Rattle.lt_io.specs.FabricState.{FabricState, KeepsFabric, channel_kind}
use Rattle.lt_link.specs.Inbox.{InboxState}
use Rattle.lt_net_bench.specs.Bench.{BenchState}
use Rattle.lt_link.specs.Ports.{HasPorts, is_from}
use Rattle.lt_net.specs.Net.{TimedBenchState, timed_bench_of}
use Rattle.lt_net.specs.Ran.{CanSend, TellsWatch, HasSent}
use Rattle.lt_net.proofs.ExecuteByCode.{err_is}
use Rattle.lt_net.proofs.Halting.{no_error}
use Rattle.lt_net.specs.Sends.{SendsUpTo, message_on}
use Rattle.lt_base.specs.Truths.{how_many}

more_entries : (s mid new x y : ℕ) → mid ≤ s + x → new ≤ mid + y → new ≤ s + (x + y)
more_entries s mid new x y h k = omega (arith, h, k)

-- what a call that sends is owed, for these channels, payloads and inboxes
pub record Owed (w : Times) (n : ℕ) (kind : Bool) (fabric : FabricState) (cs : List Chan) (ps : List (List Value)) (bs : List InboxState) : Type 0 where
  pub size : length cs < 2 ^ 32
  pub buffers : length ps ≡ length cs
  pub inboxes : length bs ≡ length cs
  pub sends : length w.sends ≡ length cs
  pub kinds : length fabric.kinds ≡ length cs
  pub types : (c : ℕ) → c < length cs → is_from cs n kind c ≡ true → map ty_of (slice_index_or ps c []) ≡ channel_kind fabric c
  pub free : (c : ℕ) → c < length cs → is_from cs n kind c ≡ true → slice_index_or w.sends c None ≡ None

module _ {C M : Type 0} (p b : BenchState C M) (t : Timing) (w : Times) (now : TimedBenchState C M) (p_is : p ≡ b) (is : timed_bench_of b t w ≡ now) (n : ℕ) (kind : Bool) (at : ℕ) (old : FabricState) (can_now : CanSend now n kind old)
    (cs : List Chan) (cs_is : cs ≡ p.shape.channels) (ps : List (List Value)) (ps_is : ps ≡ p.buffers) (bs : List InboxState) (bs_is : bs ≡ p.inboxes) where
  net_is : timed_bench_of p t w ≡ now
  net_is = ap (λ x. timed_bench_of x t w) p_is ∙ is

  can : CanSend (timed_bench_of p t w) n kind old
  can = subst (λ z. CanSend z n kind old) (sym net_is) can_now

  pub owed : Owed w n kind old cs ps bs
  owed =
      let z = can.sized in
      subst (λ x. Owed w n kind old x ps bs) (sym cs_is) (subst (λ x. Owed w n kind old p.shape.channels x bs) (sym ps_is) (subst (λ x. Owed w n kind old p.shape.channels p.buffers x) (sym bs_is) (record {
        size = can.few;
        buffers = z.buffers;
        inboxes = z.inboxes;
        sends = z.sends;
        kinds = can.kinds.count;
        types = λ c lt on. z.buffer_types c lt ∙ sym (can.kinds.each c lt);
        free = can.free;
      })))

  pub owed_ports : HasPorts cs n p.ports
  owed_ports = subst (λ x. HasPorts x n p.ports) (sym cs_is) can.ports

  pub owed_place : n < length w.lasts
  owed_place = let z = can.sized in let nb = can.node in omega (arith, nb, z.lasts)

  cs_now : cs ≡ now.shape.channels
  cs_now = cs_is ∙ ap (λ (z : TimedBenchState C M). z.shape.channels) net_is

  module _ (noted : Times) (lasts : noted.lasts ≡ w.lasts) (sends : length noted.sends ≡ length w.sends) (fabric : FabricState) (keeps : KeepsFabric old fabric) (sound : IsTrue old.sound → fabric.faults ≡ old.faults) (s mid : ℕ)
      (cost : (k : ℕ) → length w.lasts + length w.sends ≤ 2 ^ k → mid ≤ s + how_many (is_from cs n kind) (length cs) * (8 * k + 8)) where
    answers : (v : Times) → length v.lasts ≡ length w.lasts → length v.sends ≡ length w.sends → (r : Result (Unit {0}) LinkErr) → OnOk r (TellsWatch now v n kind at old fabric) → LinkCounted old.faults fabric.faults r →
        (IsTrue old.prompt → ((c : ℕ) → c < length cs → is_from cs n kind c ≡ true → old.transit c ≡ []) → IsErrOf r NoMemory → ⊥) → (new : ℕ) →
        ((k : ℕ) → length w.lasts + length w.sends ≤ 2 ^ k → new ≤ s + (how_many (is_from cs n kind) (length cs) * (8 * k + 8) + (8 * k + 8))) → HasSent now (timed_bench_of b t v) n kind at old fabric s new r
    answers v lasts_v sends_v r tells cause prompt new total = record {
      is = ap (λ (z : TimedBenchState C M). record z { watch = v }) is;
      lasts = lasts_v ∙ ap (λ (z : TimedBenchState C M). length z.watch.lasts) is;
      sends = sends_v ∙ ap (λ (z : TimedBenchState C M). length z.watch.sends) is;
      sent = tells;
      cause = cause;
      keeps = keeps;
      sound = sound;
      prompt = λ quick empty. prompt quick (subst (λ (x : List Chan). (c : ℕ) → c < length x → is_from x n kind c ≡ true → old.transit c ≡ []) (sym cs_now) empty);
      cost = λ k few.
          subst (λ (x : List Chan). new ≤ s + (how_many (is_from x n kind) (length x) * (8 * k + 8) + (8 * k + 8))) cs_now
          (total k (subst (λ (z : TimedBenchState C M). length z.watch.lasts + length z.watch.sends ≤ 2 ^ k) (sym is) few));
    }

    -- a call on the fabric failed
    pub unsent : (e : LinkErr) → LinkCounted {T = Unit {0}} old.faults fabric.faults (Err e) → (IsTrue old.prompt → ((c : ℕ) → c < length cs → is_from cs n kind c ≡ true → old.transit c ≡ []) → IsErrOf {T = Unit {0}} (Err e) NoMemory → ⊥) →
        (r : Result (Unit {0}) LinkErr) → IsErrAnd r (λ f. f ≡ e) → HasSent now (timed_bench_of b t noted) n kind at old fabric s mid r
    unsent e cause prompt r is = subst (λ x. HasSent now (timed_bench_of b t noted) n kind at old fabric s mid x) (sym (err_is r e is))
        (answers noted (ap length lasts) sends (Err e) tt cause prompt mid (λ k few. more_entries s mid mid (how_many (is_from cs n kind) (length cs) * (8 * k + 8)) (8 * k + 8) (cost k few) (omega arith)))

    -- all were sent
    pub sent : SendsUpTo (length cs) (is_from cs n kind) (message_on ps bs) at old fabric w noted → (v : Times) → v ≡ record noted { lasts = set noted.lasts n (Some at); latest = Some at } → fabric.faults ≡ old.faults → (new : ℕ) →
        ((k : ℕ) → length noted.lasts + length noted.sends ≤ 2 ^ k → new ≤ mid + (8 * k + 8)) → HasSent now (timed_bench_of b t v) n kind at old fabric s new (Ok tt)
    sent upto v is_v calm new acted = answers v
        (ap (λ (z : Times). length z.lasts) is_v ∙ length-set noted.lasts n (Some at) ∙ ap length lasts) (ap (λ (z : Times). length z.sends) is_v ∙ sends) (Ok tt)
        (record {
          noted = noted;
          sent =
              subst (λ (z : TimedBenchState C M). SendsUpTo (length z.shape.channels) (is_from z.shape.channels n kind) (message_on z.buffers z.inboxes) at old fabric z.watch noted) net_is
              (subst (λ x. SendsUpTo (length x) (is_from x n kind) (message_on p.buffers p.inboxes) at old fabric w noted) cs_is
              (subst (λ x. SendsUpTo (length cs) (is_from cs n kind) (message_on x p.inboxes) at old fabric w noted) ps_is
              (subst (λ x. SendsUpTo (length cs) (is_from cs n kind) (message_on ps x) at old fabric w noted) bs_is upto)));
          watch = is_v;
        })
        calm (λ quick empty. no_error tt NoMemory) new
        (λ k few. more_entries s mid new (how_many (is_from cs n kind) (length cs) * (8 * k + 8)) (8 * k + 8) (cost k few)
        (acted k (subst (λ (x : ℕ). x + length noted.sends ≤ 2 ^ k) (sym (ap length lasts)) (subst (λ (x : ℕ). length w.lasts + x ≤ 2 ^ k) (sym sends) few))))
