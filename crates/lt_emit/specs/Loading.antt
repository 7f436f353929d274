-- Where the program of a file runs by the setup of another.
use Rattle.std.specs.Prelude.{ℕ, List, Option, Some, Result}
use Rattle.lt_base.specs.declared.memory.Or.{Or}
use Rattle.lt_io.specs.FilesState.{FilesState}
use Rattle.lt_norm.specs.Flat.{Originated}
use Rattle.lt_place.specs.Sizes.{HasCodeRoom}
use Rattle.lt_answer.specs.Answered.{Verdict, AndThen}
use Rattle.lt_front.specs.Examined.{ExaminedText}
use Rattle.lt_load_fit.specs.declared.fault.CommandFault.{CommandFault}
use Rattle.lt_compile.specs.declared.site.Site.{Site}
use Rattle.lt_compile.specs.Sites.{IsSited, site_verdict}
use Rattle.lt_load.specs.Errands.{config_errand, check_errands}
use Rattle.lt_load.specs.Loaded.{program_verdict, config_verdict}
use Rattle.lt_load.specs.OnFiles.{OnFiles}

-- a program: the setup of a file, the placement, the timing and the window, in this order
unfoldable pub setup_site_verdict : (named : List ℕ → Option (List ℕ)) (config : List ℕ) → ExaminedText → Verdict Site CommandFault
setup_site_verdict named config checked = AndThen (config_verdict (named config)) (λ setup. site_verdict checked setup)

-- the program, the setup, the placement, the timing and the window, in this order
unfoldable pub load_site_verdict : (named : List ℕ → Option (List ℕ)) (program config : List ℕ) → Verdict Site CommandFault
load_site_verdict named program config = AndThen (program_verdict (named program)) (λ checked. setup_site_verdict named config checked)

-- the site of a program that is loaded
abbrev pub LoadsSite : (program config : List ℕ) (old new : FilesState) → Result Site (Or CommandFault) → Type 0
LoadsSite program config old new result = OnFiles (check_errands program (Some config)) (load_site_verdict old.named program config) old new result

-- the same from the setup on
abbrev pub LoadsSetupSite : (config : List ℕ) → ExaminedText → (old new : FilesState) → Result Site (Or CommandFault) → Type 0
LoadsSetupSite config checked old new result = OnFiles (config_errand config) (setup_site_verdict old.named config checked) old new result

-- it is the site of some function for which step code has room
abbrev pub IsCoded : Site → Type 0
IsCoded s = (f : Originated) × IsSited f s × HasCodeRoom f.func
