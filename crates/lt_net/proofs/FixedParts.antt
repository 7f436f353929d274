-- What no event of a net changes, for the shape of its layout.
use Rattle.std.proofs.Common.{◌≡◌, ℕ, ◌<◌, ◌^◌, false, refl}
use Rattle.lt_arch.specs.declared.shape.Shape.{Shape}
use Rattle.lt_arch.specs.declared.timing.Timing.{Timing}
use Rattle.lt_arch.specs.declared.timing.Protocol.{Protocol}
use Rattle.lt_arch.specs.declared.timing.Protocol.TheVariants.{BackPressure, TimeBased}
use Rattle.lt_arch.specs.Readers.{chan_count, is_back_pressure}
use Rattle.lt_arch.specs.Schedule.{OnePlace}
use Rattle.lt_norm.specs.Flat.{Originated}
use Rattle.lt_place.specs.declared.layout.Layout.{Layout}
use Rattle.lt_place.specs.Layout.{IsPlaced}
use Rattle.lt_net.specs.Kept.{IsFixed}
use Rattle.lt_net_node.specs.Channels.{FitsLayout}
use Rattle.lt_net_bench.proofs.LaidOut.{laid_out}

is_time_based : (p : Protocol) → is_back_pressure p ≡ false → p ≡ TimeBased
is_time_based BackPressure h = absurd (cc)
is_time_based TimeBased h = refl

pub fixed : (f : Originated) (l : Layout) (s : Shape) (t : Timing) (rows : ℕ) → IsPlaced f l → FitsLayout l t.protocol s → OnePlace s t rows → chan_count s < 2 ^ 32 → IsFixed l s t rows
fixed f l s t rows placed fits one few = record {
  one_place = one;
  whole = f.func;
  laid = laid_out f l placed;
  channels = fits.channels;
  few = few;
  no_acks = λ h. fits.only_data (is_time_based t.protocol h);
}
