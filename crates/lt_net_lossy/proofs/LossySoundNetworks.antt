-- A network whose layout is placed, with its shape under back-pressure and a timing that has the window, is sound.
use Rattle.std.proofs.Common.{◌≡◌, ℕ, ◌+◌, ◌*◌, ◌^◌, ◌<◌, ◌≤◌, length, sym, ap, subst, arith}
use Rattle.std.proofs.lemmas.Nat.{mul-le}
use Rattle.lt_arch.specs.declared.shape.Shape.{Shape}
use Rattle.lt_arch.specs.declared.timing.Timing.{Timing}
use Rattle.lt_arch.specs.declared.timing.Protocol.TheVariants.{BackPressure}
use Rattle.lt_arch.specs.Readers.{node_count, chan_count}
use Rattle.lt_lossy.specs.Window.{HasWindow}
use Rattle.lt_norm.specs.Flat.{Originated}
use Rattle.lt_place.specs.declared.layout.Layout.{Layout}
use Rattle.lt_place.specs.Layout.{IsPlaced}
use Rattle.lt_net_node.specs.Channels.{IsShapeOf, FitsLayout, ShapesFit}
use Rattle.lt_net_lossy.specs.LossySound.{IsLossySound}

few_channels : (n c names : ℕ) → n ≡ names → c ≤ 2 * (names * names) → names ≤ 32 → 2 * (n + c) < 2 ^ 32
few_channels n c names same few low =
    let square : names * names ≤ 32 * 32 = mul-le names names 32 32 low low in
    omega (arith, same, few, low, square)

pub is_sound : ShapesFit → (f : Originated) (l : Layout) (s : Shape) (t : Timing) → IsPlaced f l → t.protocol ≡ BackPressure → IsShapeOf l BackPressure s → length t.nodes ≡ length l.names → HasWindow t → length l.names ≤ 32 → IsLossySound l s t
is_sound shapes_fit f l s t placed protocol shaped timed window low =
    let fits : FitsLayout l t.protocol s = (shapes_fit f l t.protocol s placed (subst (λ p. IsShapeOf l p s) (sym protocol) shaped)).0 in
    record {
      protocol = protocol;
      fits = fits;
      same_nodes = fits.timed t timed;
      window = window;
      numbered = few_channels (node_count s) (chan_count s) (length l.names) (ap length shaped.nodes) fits.few low;
    }
