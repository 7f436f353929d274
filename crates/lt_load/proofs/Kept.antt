-- What a loaded plan keeps.
use Rattle.lt_base.specs.Inputs.{InputTable}
use Rattle.lt_base.specs.Program.{GoodProgram}
use Rattle.lt_base.specs.Main.{InputsFitMain}
use Rattle.lt_front.specs.Checked.{CheckedText, IsChecked}
use Rattle.lt_compile.specs.declared.site.Site.{Site}
use Rattle.lt_load.specs.Plan.{IsLoaded}
use Rattle.lt_compile.specs.Sites.{IsSited}
use Rattle.lt_load.specs.Sites.{loaded_of}
use Rattle.lt_load.proofs.Flattens.{width_is, wide_rows, rows_fit, code_room}

pub is_loaded : (checked : CheckedText) → IsChecked checked → GoodProgram checked.program → (s : Site) → IsSited checked.flat s → (table : InputTable) → InputsFitMain checked.program table → IsLoaded (loaded_of checked s table)
is_loaded checked kept good s sited table fit = record {
  placed = sited.placed;
  paced = sited.paced;
  accepted = sited.accepted;
  windowed = sited.windowed;
  timed = sited.timed;
  few = sited.few;
  fit = fit;
  rows_fit = rows_fit checked.program good checked.flat kept.keeps table fit;
  width = width_is checked.program good checked.flat kept.keeps table fit;
  wide = wide_rows checked.program good checked.flat kept.keeps table fit;
  room = code_room checked.program checked.flat kept.keeps;
}
