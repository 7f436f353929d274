-- A miss of a shape.
use Rattle.std.specs.Prelude.{◌≡◌, ◌<◌, Option, Some}
use Rattle.lt_arch.specs.declared.shape.Shape.{Shape}
use Rattle.lt_arch.specs.Readers.{node_count, chan_count}
use Rattle.lt_audit.specs.declared.miss.Miss.{Miss}

-- a miss names a node and a channel of the shape
abbrev pub IsOfShape : Shape → Option Miss → Type 0
IsOfShape s miss = (m : Miss) → miss ≡ Some m → (m.node < node_count s) × (m.channel < chan_count s)
