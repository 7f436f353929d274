-- What ties nodes that run their emitted code to the made net.
use Rattle.std.proofs.Common.{◌≡◌, ℕ, ◌+◌, ◌*◌, ◌^◌, ◌<◌, ◌≤◌, Bool, true, false, pos, List, [], ◌∷◌, ◌++◌, length, map, Some, IsTrue, refl, sym, ap, subst, arith}
use Rattle.std.specs.Prelude.{◌&&◌, ◌==◌, slice_index_or, if◌then◌else◌}
use Rattle.std.specs.List.{slice_get, AllByRecursion}
use Rattle.std.proofs.lemmas.Bool.Decides.{Decides-eqb}
use Rattle.std.proofs.lemmas.List.{append-nil, get_or-replicate}
use Rattle.lt_base.specs.Value.{ty_of}
use Rattle.lt_base.specs.Behaviour.{RowsFit}
use Rattle.lt_base.specs.Operators.{int_eq}
use Rattle.lt_base.specs.Truths.{same_truth}
use Rattle.lt_arch.specs.declared.event.Deed.{Deed}
use Rattle.lt_arch.specs.declared.event.Deed.TheVariants.{Nothing, Execute, Send}
use Rattle.lt_arch.specs.declared.event.Event.{Event}
use Rattle.lt_arch.specs.declared.shape.Shape.{Shape}
use Rattle.lt_arch.specs.declared.timing.Protocol.{Protocol}
use Rattle.lt_arch.specs.declared.timing.Protocol.TheVariants.{BackPressure, TimeBased}
use Rattle.lt_arch.specs.declared.timing.Timing.{Timing}
use Rattle.lt_arch.specs.State.{Phase, first_phase}
use Rattle.lt_arch.specs.Readers.{chan_of, no_chan, is_data, node_count, chan_count, from_of, carries_data, send_of, execute_of, time_at}
use Rattle.lt_arch.specs.Schedule.{OnePlace}
use Rattle.lt_arch.specs.Step.{is_execute, is_send}
use Rattle.lt_io.specs.declared.message.Message.{Message}
use Rattle.lt_io.specs.FabricState.{FabricState, channel_kind}
use Rattle.lt_link.specs.Ports.{is_from}
use Rattle.lt_norm.specs.Flat.{Originated}
use Rattle.lt_place.specs.Layout.{IsPlaced}
use Rattle.lt_net_node.specs.Channels.{FitsLayout}
use Rattle.lt_net_node.specs.Wakes.{AreConfigured}
use Rattle.lt_net_bench.specs.Track.{TrackState, track_at}
use Rattle.lt_net_bench.proofs.Entries.{and_parts}
use Rattle.lt_net.specs.Net.{Lists, bench_of}
use Rattle.lt_net.specs.Kept.{Kept, NetHasRoom}
use Rattle.lt_net.specs.Loop.{ReplayIsGiven}
use Rattle.lt_net.specs.Replay.{ReplayKeeps}
use Rattle.lt_net.specs.Sends.{messages_with}
use Rattle.lt_net.specs.Starts.{no_lists}
use Rattle.lt_net.proofs.Fitting.{given_by}
use Rattle.lt_c.specs.Meaning.{Store}
use Rattle.lt_c_control.specs.Control.{deed_number, IsCounting}
use Rattle.lt_c_net.specs.Stands.{Packet, Carries}
use Rattle.lt_c_net.specs.Laws.{IsPressing}
use Rattle.lt_c_net.specs.Nets.{NetFollows}
use Rattle.lt_c_net.specs.Emitted.{IsEmittedNode, needs_countdown}
use Rattle.lt_c_net.specs.Runs.{Deployment, NodesRunning, begun_with}
use Rattle.lt_c_net.specs.WholeRuns.{GivesOutput}
use Rattle.lt_c_net.proofs.Starting.{starts_stand}
use Rattle.lt_c_net.proofs.MadeNet.{MadeControl, made_controls, made_machines, MadeParts, made_net, made_start, made_links, made_at_start, made_configured, first_control, entry_made, made_kept, made_room, made_opened}
use Rattle.lt_c_net.proofs.MadeActs.{puts_by}

-- packets carry messages, one each
abbrev pub AllCarry : List Packet → List Message → Type 0
AllCarry [] [] = Unit {0}
AllCarry [] (m ∷ ms) = ⊥
AllCarry (k ∷ ks) [] = ⊥
AllCarry (k ∷ ks) (m ∷ ms) = Carries k m × AllCarry ks ms

-- a phase of the protocol
abbrev pub IsPhaseOf : Protocol → Phase → Type 0
IsPhaseOf BackPressure ph = IsPressing ph
IsPhaseOf TimeBased ph = IsCounting ph

-- after these events the nodes are where a made net is, which stands for lists
pub record Tied (d : Deployment) (read : List Event) (w : NodesRunning) : Type 0 where
  pub parts : MadeParts
  pub links : FabricState
  pub ls : Lists
  pub kept : Kept made_controls made_machines (made_net d parts)
  pub room : NetHasRoom (made_net d parts)
  pub configured : AreConfigured made_controls d.timing parts.controllers
  pub keeps : ReplayKeeps made_controls made_machines d.inputs read (made_net d parts) links ls
  pub faithful : IsTrue links.faithful
  pub typed : (c : ℕ) → c < chan_count d.shape → AllByRecursion (λ (m : Message). map ty_of m.payload ≡ channel_kind links c) (links.transit c)
  pub follows : NetFollows made_controls (made_net d parts) ls (λ n. (d.nodes n).code) w.stores
  pub phases : (n : ℕ) (c : MadeControl) → slice_get parts.controllers n ≡ Some c → IsPhaseOf d.timing.protocol c.at
  pub used : (n : ℕ) → n < node_count d.shape → w.used n ≡ slice_index_or parts.executed n 0
  pub packets : (c : ℕ) → c < chan_count d.shape → AllCarry (w.under_way c) (links.transit c)
  pub shown : (y n x : ℕ) → GivesOutput d y n x → w.shown_so_far n x ≡ (track_at parts.tracks y).cells

-- ---- small facts

pub executed_told : (deed : Deed) → int_eq (deed_number deed) (pos 1) ≡ is_execute deed
executed_told Nothing = refl
executed_told Execute = refl
executed_told Send = refl

pub sent_told : (deed : Deed) → int_eq (deed_number deed) (pos 2) ≡ is_send deed
sent_told Nothing = refl
sent_told Execute = refl
sent_told Send = refl

pub carry_more : (ks : List Packet) (ms : List Message) (k : Packet) (m : Message) → AllCarry ks ms → Carries k m → AllCarry (ks ++ k ∷ []) (ms ++ m ∷ [])
carry_more [] [] k m all one = (one, tt)
carry_more [] (x ∷ ms) k m all one = absurd all
carry_more (y ∷ ks) [] k m all one = absurd all
carry_more (y ∷ ks) (x ∷ ms) k m all one = (all.0, carry_more ks ms k m all.1 one)

-- by its deed a node puts nothing, its message or its acknowledgement on a channel
abbrev pub puts_bit : Deed → (data_from ack_from : Bool) → Bool
puts_bit Nothing a b = false
puts_bit Send a b = a
puts_bit Execute a b = b

pub puts_are : (d : Deployment) (n c : ℕ) (deed : Deed) → puts_by d n deed c ≡ puts_bit deed (is_from d.shape.channels n true c) (is_from d.shape.channels n false c)
puts_are d n c Nothing = refl
puts_are d n c Send = refl
puts_are d n c Execute = refl

pub carry_on : (deed : Deed) (a b : Bool) (ks : List Packet) (ms : List Message) (pk ak : Packet) (msg : Message) → AllCarry ks ms → (a ≡ true → deed ≡ Send → Carries pk msg) → (b ≡ true → deed ≡ Execute → Carries ak msg) →
    AllCarry (ks ++ (if a && is_send deed then pk ∷ [] else (if b && is_execute deed then ak ∷ [] else []))) (messages_with (puts_bit deed a b) ms msg)
carry_on Nothing true true ks ms pk ak msg all sends answers = subst (λ xs. AllCarry xs ms) (sym (append-nil ks)) all
carry_on Nothing true false ks ms pk ak msg all sends answers = subst (λ xs. AllCarry xs ms) (sym (append-nil ks)) all
carry_on Nothing false true ks ms pk ak msg all sends answers = subst (λ xs. AllCarry xs ms) (sym (append-nil ks)) all
carry_on Nothing false false ks ms pk ak msg all sends answers = subst (λ xs. AllCarry xs ms) (sym (append-nil ks)) all
carry_on Send true b ks ms pk ak msg all sends answers = carry_more ks ms pk msg all (sends refl refl)
carry_on Send false true ks ms pk ak msg all sends answers = subst (λ xs. AllCarry xs ms) (sym (append-nil ks)) all
carry_on Send false false ks ms pk ak msg all sends answers = subst (λ xs. AllCarry xs ms) (sym (append-nil ks)) all
carry_on Execute true true ks ms pk ak msg all sends answers = carry_more ks ms ak msg all (answers refl refl)
carry_on Execute false true ks ms pk ak msg all sends answers = carry_more ks ms ak msg all (answers refl refl)
carry_on Execute true false ks ms pk ak msg all sends answers = subst (λ xs. AllCarry xs ms) (sym (append-nil ks)) all
carry_on Execute false false ks ms pk ak msg all sends answers = subst (λ xs. AllCarry xs ms) (sym (append-nil ks)) all

typed_one_more : (P : Message → Type 0) (ms : List Message) (m : Message) → AllByRecursion P ms → P m → AllByRecursion P (ms ++ m ∷ [])
typed_one_more P [] m all one = (one, tt)
typed_one_more P (x ∷ ms) m all one = (all.0, typed_one_more P ms m all.1 one)

pub typed_more : (P : Message → Type 0) (b : Bool) (ms : List Message) (m : Message) → AllByRecursion P ms → P m → AllByRecursion P (messages_with b ms m)
typed_more P true ms m all one = typed_one_more P ms m all one
typed_more P false ms m all one = all

-- what it means that a channel of a kind comes from node n
pub from_parts : (s : Shape) (n c : ℕ) (kind : Bool) → is_from s.channels n kind c ≡ true → (from_of s c ≡ n) × (same_truth kind (carries_data s c) ≡ true)
unfolding chan_of
from_parts s n c kind h =
    let p = and_parts ((slice_index_or s.channels c no_chan).from == n) (same_truth kind (is_data (slice_index_or s.channels c no_chan).kind)) h in
    ((Decides-eqb (slice_index_or s.channels c no_chan).from n).0 p.0, p.1)

pub is_same : (b : Bool) → same_truth true b ≡ true → b ≡ true
is_same true h = refl
is_same false h = h

pub is_opposite : (b : Bool) → same_truth false b ≡ true → b ≡ false
is_opposite false h = refl
is_opposite true h = absurd (cc)

-- countdowns are within the range of C
pub send_fits : (t : Timing) (n : ℕ) → (1 ≤ send_of t n) × (send_of t n < 2 ^ 63)
unfolding send_of
send_fits t n = let r = (time_at t n).sends in let low = r.0 in let high = r.1 in (low, omega (arith, high))

pub execute_fits : (t : Timing) (n : ℕ) → (1 ≤ execute_of t n) × (execute_of t n < 2 ^ 63)
unfolding execute_of
execute_fits t n = let r = (time_at t n).executes in let low = r.0 in let high = r.1 in (low, omega (arith, high))

module _ (f : Originated) (d : Deployment) (placed : IsPlaced f d.layout) (fits : FitsLayout d.layout d.timing.protocol d.shape) (one : OnePlace d.shape d.timing (length d.inputs)) (rows_fit : RowsFit f.func d.inputs) where
  -- what a replay needs is known of the made net, whatever its parts
  pub given_of : (parts : MadeParts) → Kept made_controls made_machines (made_net d parts) → ReplayIsGiven (made_net d parts) d.inputs
  given_of parts k = given_by f d.layout placed d.inputs rows_fit d.shape d.timing (length d.inputs) parts.machines parts.controllers (made_net d parts)
      (record { layout = refl; shape = refl; timing = refl; rows = refl; machines = refl; controllers = refl }) fits one refl k.sized.executed

  module _ (few : 2 * (node_count d.shape + chan_count d.shape) < 2 ^ 32) (coded : (n : ℕ) → n < node_count d.shape → IsEmittedNode d.layout d.shape n (d.nodes n)) where
    first_is : (p : Protocol) → IsPhaseOf p (first_phase p)
    first_is BackPressure = tt
    first_is TimeBased = tt

    -- before the first event
    pub tied_at_start : (memory : ℕ → Store) → Tied d [] (begun_with d memory)
    tied_at_start memory = record {
      parts = made_start d;
      links = made_links d;
      ls = no_lists;
      kept = made_kept f d placed fits few one;
      room = made_room f d placed fits few one;
      configured = made_configured d;
      keeps = made_opened f d placed fits few one;
      faithful = refl;
      typed = λ c lt. tt;
      follows = λ n lt. let code = coded n lt in starts_stand made_controls made_machines (bench_of (made_net d (made_start d))) d.timing n (d.nodes n).code (d.nodes n).ins (d.nodes n).acks (needs_countdown d.timing.protocol) (memory n) lt (made_at_start d) refl refl code.made.ins_are code.made.acks_are code.differ;
      phases = λ n c h. subst (IsPhaseOf d.timing.protocol) (sym (ap (λ (c : MadeControl). c.at) (entry_made (first_control d) (node_count d.shape) n c h))) (first_is d.timing.protocol);
      used = λ n lt. sym (get_or-replicate (node_count d.shape) n 0 0 lt);
      packets = λ c lt. tt;
      shown = λ y n x gives. sym (ap (λ (t : TrackState). t.cells) (get_or-replicate {A = TrackState} (length d.layout.outs) y (record { cells = []; room = length d.inputs }) (record { cells = []; room = 0 }) gives.0));
    }
