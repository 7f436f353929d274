-- A network whose layout is placed and whose timing is accepted is sound.
use Rattle.std.proofs.Common.{◌≡◌, ◌⊎◌, inl, inr, ℕ, ◌+◌, ◌*◌, ◌^◌, ◌<◌, ◌≤◌, List, length, min, refl, sym, ap, ◌∙◌, subst, arith}
use Rattle.std.specs.Prelude.{if◌then◌else◌}
use Rattle.std.proofs.lemmas.Nat.{mul-le}
use Rattle.lt_arch.specs.declared.event.Event.{Event}
use Rattle.lt_arch.specs.declared.limits.TheConstants.{GREATEST_TIME}
use Rattle.lt_arch.specs.declared.timing.Protocol.{Protocol}
use Rattle.lt_arch.specs.declared.timing.Protocol.TheVariants.{BackPressure, TimeBased}
use Rattle.lt_arch.specs.declared.timing.Timing.{Timing}
use Rattle.lt_arch.specs.declared.shape.Shape.{Shape}
use Rattle.lt_arch.specs.Readers.{node_count, chan_count, is_back_pressure}
use Rattle.lt_arch.specs.State.{executed_of}
use Rattle.lt_arch.specs.Schedule.{AreUpTo, IsOffenceFree, OnePlace, reached}
use Rattle.lt_arch.specs.Shapes.{HaveSameNodes}
use Rattle.lt_timing.specs.Accepts.{Accepts}
use Rattle.lt_timing.specs.Bounds.{time_based_bound, back_pressure_bound}
use Rattle.lt_bp.specs.Laws as pressure
use Rattle.lt_tb.specs.Laws as counting
use Rattle.lt_tb.specs.Rounds.{HasExactMessages}
use Rattle.lt_place.specs.declared.layout.Layout.{Layout}
use Rattle.lt_place.specs.Layout.{IsPlaced}
use Rattle.lt_net_node.specs.Channels.{FitsLayout, IsShapeOf, ShapesFit}
use Rattle.lt_norm.specs.Flat.{Originated}
use Rattle.lt_arch.specs.declared.pace.Pace.{Pace}
use Rattle.lt_arch.specs.declared.pace.Pace.TheVariants.{Plain, Lossy, Leader}
use Rattle.lt_arch.specs.Paced.{IsLed}
use Rattle.lt_lead.specs.Shapes.{IsLeaderShape}
use Rattle.lt_lead.specs.Channels.{LeadShapesFit}
use Rattle.lt_lead.specs.Paced.{KeepsPace, bound_by}
use Rattle.lt_lead.specs.Laws as leading
use Rattle.lt_lead.proofs.ByPace.{nodes_are}
use Rattle.lt_net_replay.specs.Played.{IsLeastBound}
use Rattle.lt_net_replay.specs.Sound.{PlanIsSound, PlansAreSound}
use Rattle.lt_lead.proofs.LossyBound.{lossy_at_most}

either : (p : Protocol) → (p ≡ BackPressure) ⊎ (p ≡ TimeBased)
either BackPressure = inl refl
either TimeBased = inr refl

few_channels : (n c names : ℕ) → n ≡ names → c ≤ 2 * (names * names) → names ≤ 32 → 2 * (n + c) < 2 ^ 32
few_channels n c names same few low =
    let square : names * names ≤ 32 * 32 = mul-le names names 32 32 low low in
    omega (arith, same, few, low, square)

-- a smaller bound is met too
fewer : (small bound rows count : ℕ) → small ≤ bound → min bound rows ≤ count → min small rows ≤ count
fewer small bound rows count less met = omega (arith, less, met)

module _ (shapes_fit : ShapesFit) (lead_shapes_fit : LeadShapesFit) (f : Originated) (l : Layout) (s : Shape) (t : Timing) (rows : ℕ) (placed : IsPlaced f l) (same : length t.nodes ≡ length l.names) (accepted : Accepts t) where
  -- where a node leads

  module _ (leader : ℕ) (k : KeepsPace l s t (Leader leader)) where
    led : IsLed t leader
    led = k.fits.led leader refl

    fits_led : FitsLayout l TimeBased s × IsLeaderShape s leader
    fits_led = lead_shapes_fit f l leader s placed (subst (λ n. leader < n) same led.leader_in) k.shaped

    same_led : HaveSameNodes s t
    same_led = fits_led.0.timed t same

  -- where links lose messages, the shape and the protocol are those of back-pressure

  module _ (losses : ℕ) (k : KeepsPace l s t (Lossy losses)) where
    acknowledges : t.protocol ≡ BackPressure
    acknowledges = (k.fits.lossy losses refl).acknowledges

    plain_of : KeepsPace l s t Plain
    plain_of = record { shaped = subst (λ p. IsShapeOf l p s) (sym acknowledges) k.shaped; fits = record { led = λ leader is. cc; lossy = λ losses is. cc } }

  -- by each pace

  fits_by : (pace : Pace) → KeepsPace l s t pace → FitsLayout l t.protocol s
  fits_by Plain k = (shapes_fit f l t.protocol s placed k.shaped).0
  fits_by (Lossy losses) k = (shapes_fit f l t.protocol s placed (plain_of losses k).shaped).0
  fits_by (Leader leader) k = subst (λ p. FitsLayout l p s) (sym (led leader k).counts) (fits_led leader k).0

  one_by : pressure.BackPressureKeepsOnePlace → counting.TimeBasedKeepsOnePlace → leading.LeaderKeepsOnePlace → (pace : Pace) → KeepsPace l s t pace → OnePlace s t rows
  one_by by_pressure by_counting by_leading Plain k =
      let fit = shapes_fit f l t.protocol s placed k.shaped in
      elim (either t.protocol) [
        | inl p ↦ by_pressure s t rows p (fit.0.back_pressure p)
        | inr p ↦ by_counting s t rows p (fit.1 p) (fit.0.timed t same) accepted
      ]
  one_by by_pressure by_counting by_leading (Lossy losses) k =
      let fit = shapes_fit f l t.protocol s placed (plain_of losses k).shaped in
      by_pressure s t rows (acknowledges losses k) (fit.0.back_pressure (acknowledges losses k))
  one_by by_pressure by_counting by_leading (Leader leader) k = by_leading s t rows leader (fits_led leader k).1 (same_led leader k) (led leader k) accepted

  exact_by : counting.TimeBasedExecutesOnExactMessages → leading.LeaderExecutesOnExactMessages → (pace : Pace) → KeepsPace l s t pace → t.protocol ≡ TimeBased →
      (es : List Event) → AreUpTo GREATEST_TIME es → IsOffenceFree s t rows es → HasExactMessages s t rows (reached s t rows es)
  exact_by by_counting by_leading Plain k counts es timely free =
      let fit = shapes_fit f l t.protocol s placed k.shaped in
      by_counting s t rows counts (fit.1 counts) (fit.0.timed t same) accepted es free
  exact_by by_counting by_leading (Lossy losses) k counts es timely free = absurd (let both : BackPressure ≡ TimeBased = sym (acknowledges losses k) ∙ counts in cc)
  exact_by by_counting by_leading (Leader leader) k counts es timely free = by_leading s t rows leader (fits_led leader k).1 (same_led leader k) (led leader k) accepted es timely free

  least_by : pressure.BackPressureReachesBound → counting.TimeBasedReachesBound → leading.LeaderReachesBound → (pace : Pace) → KeepsPace l s t pace → IsLeastBound (bound_by pace) s t rows
  least_by by_pressure by_counting by_leading Plain k es h n timely admissible ends b =
      let fit = shapes_fit f l t.protocol s placed k.shaped in
      elim (either t.protocol) [
        | inl p ↦
            subst (λ m. min m rows ≤ executed_of (reached s t rows es) n) (sym (ap (λ q. if is_back_pressure q then back_pressure_bound t n h else time_based_bound t n h) p))
            (by_pressure s t rows es h n p (fit.0.back_pressure p) (fit.0.timed t same) admissible ends b)
        | inr p ↦
            subst (λ m. min m rows ≤ executed_of (reached s t rows es) n) (sym (ap (λ q. if is_back_pressure q then back_pressure_bound t n h else time_based_bound t n h) p))
            (by_counting s t rows es h n p admissible ends b)
      ]
  least_by by_pressure by_counting by_leading (Lossy losses) k es h n timely admissible ends b =
      let fit = shapes_fit f l t.protocol s placed (plain_of losses k).shaped in
      let nodes : length t.nodes ≡ node_count s = fit.0.timed t same in
      fewer (bound_by (Lossy losses) t n h) (back_pressure_bound t n h) rows (executed_of (reached s t rows es) n) (lossy_at_most t losses n h (omega (arith, nodes, b)))
      (by_pressure s t rows es h n (acknowledges losses k) (fit.0.back_pressure (acknowledges losses k)) (fit.0.timed t same) admissible ends b)
  least_by by_pressure by_counting by_leading (Leader leader) k es h n timely admissible ends b =
      by_leading s t rows leader (fits_led leader k).1 (same_led leader k) (led leader k) accepted es h n timely admissible ends b

pub are_sound : ShapesFit → LeadShapesFit → pressure.BackPressureKeepsOnePlace → pressure.BackPressureReachesBound → counting.TimeBasedKeepsOnePlace → counting.TimeBasedReachesBound → leading.LeaderKeepsOnePlace → leading.LeaderReachesBound →
    counting.TimeBasedExecutesOnExactMessages → leading.LeaderExecutesOnExactMessages → PlansAreSound
are_sound shapes_fit lead_shapes_fit one_by_pressure least_by_pressure one_by_counting least_by_counting one_by_leading least_by_leading exact_by_counting exact_by_leading f l s t rows placed paced same accepted =
    let fits = fits_by shapes_fit lead_shapes_fit f l s t rows placed same accepted paced.0 paced.1 in
    let nodes = nodes_are l paced.0 t s paced.1.shaped in
    record {
      fits = fits;
      same_nodes = fits.timed t same;
      one_place = one_by shapes_fit lead_shapes_fit f l s t rows placed same accepted one_by_pressure one_by_counting one_by_leading paced.0 paced.1;
      exact = exact_by shapes_fit lead_shapes_fit f l s t rows placed same accepted exact_by_counting exact_by_leading paced.0 paced.1;
      paced = paced;
      least = least_by shapes_fit lead_shapes_fit f l s t rows placed same accepted least_by_pressure least_by_counting least_by_leading;
      numbered = λ low. few_channels (node_count s) (chan_count s) (length l.names) (ap length nodes) fits.few low;
    }

-- the same of an equal layout, shape and timing
pub sound_of_equals : (l l' : Layout) (s s' : Shape) (t t' : Timing) (rows : ℕ) → l' ≡ l → s' ≡ s → t' ≡ t → PlanIsSound l s t rows → PlanIsSound l' s' t' rows
sound_of_equals l l' s s' t t' rows same_layout same_shape same_timing sound =
    subst (λ z. PlanIsSound z s' t' rows) (sym same_layout) (subst (λ z. PlanIsSound l z t' rows) (sym same_shape) (subst (λ z. PlanIsSound l s z rows) (sym same_timing) sound))
