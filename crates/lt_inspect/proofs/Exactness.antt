-- Where a timing is accepted, a node that executes an instant has exactly its messages.
use Rattle.std.proofs.Common.{◌≡◌, ◌∙◌, ℕ, ◌<◌, ◌≤◌, ◌==◌, ◌&&◌, Bool, true, false, if◌then◌else◌, List, [], ◌∷◌, ◌++◌, None, refl, sym, ap, subst, arith}
use Rattle.std.proofs.lemmas.Bool.Decides.{Decides-eqb}
use Rattle.lt_arch.specs.declared.event.Deed.TheVariants.{Nothing, Execute, Send}
use Rattle.lt_arch.specs.declared.event.Event.{Event}
use Rattle.lt_arch.specs.declared.event.Event.TheVariants.{Act, Del, End}
use Rattle.lt_arch.specs.declared.limits.TheConstants.{GREATEST_TIME}
use Rattle.lt_arch.specs.declared.pace.Pace.TheVariants.{Plain, Lossy, Leader}
use Rattle.lt_arch.specs.declared.shape.Shape.{Shape}
use Rattle.lt_arch.specs.declared.timing.Timing.{Timing}
use Rattle.lt_arch.specs.declared.timing.Protocol.{Protocol}
use Rattle.lt_arch.specs.declared.timing.Protocol.TheVariants.{BackPressure, TimeBased}
use Rattle.lt_arch.specs.State.{State, Phase, Wait, Ready, First, Sending, Executing, start, executed_of}
use Rattle.lt_arch.specs.Readers.{carries_data, to_of}
use Rattle.lt_arch.specs.Deeds.{deed_of, all_in, any_in, all_ack, more}
use Rattle.lt_arch.specs.Schedule.{after_all, reached, HasNoOffence, IsOffenceFree, AreUpTo}
use Rattle.lt_arch.specs.Shapes.{IsBackPressureShape, IsTimeBasedShape, HaveSameNodes}
use Rattle.lt_arch.specs.Step.{after, offence_of}
use Rattle.lt_arch.proofs.Fresh.{all_in-at}
use Rattle.lt_timing.specs.Accepts.{Accepts}
use Rattle.lt_bp.specs.Laws as pressure
use Rattle.lt_tb.specs.Laws as time
use Rattle.lt_tb.specs.Rounds.{HasExactMessages}
use Rattle.lt_net_node.specs.Channels.{IsShapeOf, ShapesFit}
use Rattle.lt_lead.specs.Channels.{LeadShapesFit}
use Rattle.lt_lead.specs.Laws.{LeaderExecutesOnExactMessages}
use Rattle.lt_net.proofs.Uncounted.{IsUncounted, uncounted}
use Rattle.lt_audit.specs.Misses.{Misses, HasNoMiss}
use Rattle.lt_inspect.specs.Clean.{AcceptedIsClean, PacedIsClean}

front_free : (s : Shape) (t : Timing) (rows : ℕ) (st : State) (front : List Event) (e : Event) (later : List Event) → HasNoOffence s t rows st (front ++ e ∷ later) →
    HasNoOffence s t rows st front × (offence_of s t (after_all s t rows st front) e ≡ None)
front_free s t rows st [] e later free = (tt, free.0)
front_free s t rows st (d ∷ front) e later free = let rest = front_free s t rows (after s t rows st d) front e later free.1 in ((free.0, rest.0), rest.1)

front_timely : (limit : ℕ) (front : List Event) (e : Event) (later : List Event) → AreUpTo limit (front ++ e ∷ later) → AreUpTo limit front
front_timely limit [] e later all = tt
front_timely limit (d ∷ front) e later all = (all.0, front_timely limit front e later all.1)

both_true : (a b : Bool) → (a && b) ≡ true → (a ≡ true) × (b ≡ true)
both_true true b is = (refl, is)
both_true false b is = cc

waits_for_all : (all more : Bool) → (if all && more then Execute else Nothing) ≡ Execute → all ≡ true
waits_for_all true more is = refl
waits_for_all false more is = cc

never_executes : (test : Bool) → (if test then Send else Nothing) ≡ Execute → ⊥
never_executes true is = cc
never_executes false is = cc

-- under back-pressure a node executes only where every incoming data channel is fresh
executes_fresh : (p : Phase) → IsUncounted p → (all_in any_in all_ack more : Bool) → deed_of p all_in any_in all_ack more ≡ Execute → all_in ≡ true
executes_fresh Wait counted all_in any_in all_ack more is = waits_for_all all_in more is
executes_fresh Ready counted all_in any_in all_ack more is = absurd (never_executes all_ack is)
executes_fresh First counted all_in any_in all_ack more is = absurd counted
executes_fresh (Sending left) counted all_in any_in all_ack more is = absurd counted
executes_fresh (Executing left) counted all_in any_in all_ack more is = absurd counted

-- and then has exactly the messages of its instant
pressed_exact : pressure.BackPressureKeepsOnePlace → (s : Shape) (t : Timing) (rows : ℕ) → t.protocol ≡ BackPressure → IsBackPressureShape s → (front : List Event) → AreUpTo GREATEST_TIME front → IsOffenceFree s t rows front →
    HasExactMessages s t rows (reached s t rows front)
pressed_exact one_place s t rows is pressed front timely free = λ n at none executes c lc to carries.
    let st = reached s t rows front in
    let here = one_place s t rows is pressed front timely free in
    let high : (st.chan c).delivered ≤ executed_of st n = subst (λ (m : ℕ). (st.chan c).delivered ≤ executed_of st m) to (here.data_high c lc carries) in
    let fresh = executes_fresh (st.node n).phase (uncounted s t rows is front n) (all_in s st n) (any_in s st n) (all_ack s st n) (more rows st n) executes in
    let low = all_in-at s st n c fresh lc to carries in
    omega (arith, high, low)

-- so it is under both protocols
exact_by : pressure.BackPressureKeepsOnePlace → time.TimeBasedExecutesOnExactMessages → (s : Shape) (t : Timing) (rows : ℕ) → (t.protocol ≡ BackPressure → IsBackPressureShape s) → (t.protocol ≡ TimeBased → IsTimeBasedShape s) →
    HaveSameNodes s t → Accepts t → (p : Protocol) → t.protocol ≡ p → (front : List Event) → AreUpTo GREATEST_TIME front → IsOffenceFree s t rows front → HasExactMessages s t rows (reached s t rows front)
exact_by one_place exact s t rows pressed timed same accepts BackPressure is front timely free = pressed_exact one_place s t rows is (pressed is) front timely free
exact_by one_place exact s t rows pressed timed same accepts TimeBased is front timely free = exact s t rows is (timed is) same accepts front free

-- where every list has, none has a miss
module _ (s : Shape) (t : Timing) (rows : ℕ) (holds : (front : List Event) → AreUpTo GREATEST_TIME front → IsOffenceFree s t rows front → HasExactMessages s t rows (reached s t rows front)) where
  no_miss_at : (front : List Event) (e : Event) → AreUpTo GREATEST_TIME front → IsOffenceFree s t rows front → offence_of s t (reached s t rows front) e ≡ None → Misses s rows (reached s t rows front) e → ⊥
  no_miss_at front (Act n at) timely free none miss =
      let both = both_true (to_of s miss.channel == miss.node) (carries_data s miss.channel) miss.off.incoming in
      let to : to_of s miss.channel ≡ n = (Decides-eqb (to_of s miss.channel) miss.node).0 both.0 ∙ sym miss.executes.0 in
      miss.off.differs (holds front timely free n at none miss.executes.1 miss.channel miss.off.channel to both.1 ∙ ap (executed_of (reached s t rows front)) miss.executes.0)
  no_miss_at front (Del c at) timely free none miss = miss.executes
  no_miss_at front (End at) timely free none miss = miss.executes

  clean : (es : List Event) → AreUpTo GREATEST_TIME es → IsOffenceFree s t rows es → HasNoMiss s t rows es
  clean es timely free front e later is miss =
      let fronts = front_free s t rows (start t.protocol) front e later (subst (λ (l : List Event). HasNoOffence s t rows (start t.protocol) l) is free) in
      no_miss_at front e (front_timely GREATEST_TIME front e later (subst (λ (l : List Event). AreUpTo GREATEST_TIME l) is timely)) fronts.0 fronts.1 miss

pub accepted_clean : ShapesFit → pressure.BackPressureKeepsOnePlace → time.TimeBasedExecutesOnExactMessages → AcceptedIsClean
accepted_clean fit one_place exact f l s t rows placed shaped nodes accepts es timely free =
    let fits = fit f l t.protocol s placed shaped in
    clean s t rows (exact_by one_place exact s t rows fits.0.back_pressure fits.1 (fits.0.timed t nodes) accepts t.protocol refl) es timely free

-- the shape by a pace is that of the timing's protocol, or one in which a node leads
pub paced_clean : AcceptedIsClean → LeadShapesFit → LeaderExecutesOnExactMessages → PacedIsClean
paced_clean accepted fit exact f l s t Plain placed shaped nodes paced = λ accepts rows es timely free. accepted f l s t rows placed shaped nodes accepts es timely free
paced_clean accepted fit exact f l s t (Lossy losses) placed shaped nodes paced =
    let by : IsShapeOf l t.protocol s = subst (λ (p : Protocol). IsShapeOf l p s) (sym (paced.lossy losses refl).acknowledges) shaped in
    λ accepts rows es timely free. accepted f l s t rows placed by nodes accepts es timely free
paced_clean accepted fit exact f l s t (Leader leader) placed shaped nodes paced =
    let led = paced.led leader refl in
    let fits = fit f l leader s placed (subst (λ (n : ℕ). leader < n) nodes led.leader_in) shaped in
    λ accepts rows es timely free. clean s t rows (λ front before so_far. exact s t rows leader fits.1 (fits.0.timed t nodes) led accepts front before so_far) es timely free
