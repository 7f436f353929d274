-- The line of a refused placement.
use Rattle.std.specs.Prelude.{ℕ, List, ◌++◌, codes}
use Rattle.lt_base.specs.Program.{Function}
use Rattle.lt_place.specs.declared.fault.PlaceFault.{PlaceFault}
use Rattle.lt_place.specs.declared.fault.PlaceFault.TheVariants.{Unplaced, PlacedTwice, UnknownName, DirectCross, SlowCross, ClockElsewhere}
use Rattle.lt_evaluate.specs.Main.{written_name}

-- the line of a refused placement, with variables by the names that this function declares
abbrev pub place_line : Function → PlaceFault → List ℕ
place_line main (Unplaced x) = codes "placement 1 Unplaced: " ++ written_name main x
place_line main (PlacedTwice x) = codes "placement 2 PlacedTwice: " ++ written_name main x
place_line main (UnknownName name) = codes "placement 3 UnknownName: " ++ name
place_line main (DirectCross reader read) = codes "placement 4 DirectCross: " ++ written_name main reader ++ codes " reads " ++ written_name main read
place_line main (SlowCross reader read) = codes "placement 5 SlowCross: " ++ written_name main reader ++ codes " reads " ++ written_name main read
place_line main (ClockElsewhere x c) = codes "placement 6 ClockElsewhere: " ++ written_name main x ++ codes " on " ++ written_name main c
