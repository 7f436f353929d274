-- The lines of refused files.
use Rattle.std.specs.Prelude.{ℕ, Bool, true, false, List, [], ◌++◌, codes, slice_index_or}
use Rattle.std.specs.Fmt.{decimal}
use Rattle.lt_config.specs.declared.fault.ConfigKind.{ConfigKind}
use Rattle.lt_config.specs.declared.fault.ConfigKind.TheVariants.{NotToml, Missing, WrongKind, UnknownKey, OutOfRange, BadName}
use Rattle.lt_config.specs.declared.fault.ConfigFault.{ConfigFault}
use Rattle.lt_timing.specs.declared.fault.Which.{Which}
use Rattle.lt_timing.specs.declared.fault.Which.TheVariants as which
use Rattle.lt_timing.specs.declared.fault.TimingFault.{TimingFault}
use Rattle.lt_lossy.specs.declared.room.WindowFault.{WindowFault}
use Rattle.lt_inputs.specs.declared.fault.InputKind.{InputKind}
use Rattle.lt_inputs.specs.declared.fault.InputKind.TheVariants as inputs
use Rattle.lt_inputs.specs.declared.fault.InputFault.{InputFault}
use Rattle.lt_past.specs.declared.fault.ObserverKind.{ObserverKind}
use Rattle.lt_past.specs.declared.fault.ObserverKind.TheVariants as observer
use Rattle.lt_past.specs.declared.fault.ObserverFault.{ObserverFault}

-- a kind's number and name
abbrev pub config_kind_text : ConfigKind → List ℕ
config_kind_text NotToml = codes "1 NotToml"
config_kind_text Missing = codes "2 Missing"
config_kind_text WrongKind = codes "3 WrongKind"
config_kind_text UnknownKey = codes "4 UnknownKey"
config_kind_text OutOfRange = codes "5 OutOfRange"
config_kind_text BadName = codes "6 BadName"

abbrev pub config_line_of : ConfigKind → ConfigFault → List ℕ
config_line_of NotToml f = codes "config 1 NotToml"
config_line_of _ f = codes "config " ++ config_kind_text f.kind ++ codes ": " ++ f.key

-- the line of a refused setup, without its line feed
abbrev pub config_line : ConfigFault → List ℕ
config_line f = config_line_of f.kind f

-- a number and a name
abbrev pub which_text : Which → List ℕ
which_text which.Execute = codes "1 Execute"
which_text which.Send = codes "2 Send"
which_text which.First = codes "3 First"

-- the node, where nodes differ
abbrev pub at_node : (names : List (List ℕ)) → (mixed : Bool) → (node : ℕ) → List ℕ
at_node names true node = codes " at " ++ slice_index_or names node []
at_node names false node = []

-- the line of a timing that is not accepted
abbrev pub timing_line : TimingFault → (names : List (List ℕ)) → (mixed : Bool) → List ℕ
timing_line f names mixed =
    codes "timing " ++ which_text f.which ++ at_node names mixed f.node ++ codes ": " ++ decimal f.left ++ codes " is not above " ++ decimal f.right

-- the line of the first pair of nodes that is not in the window, with its first node
abbrev pub window_line : WindowFault → (names : List (List ℕ)) → List ℕ
window_line f names = codes "timing 4 Window" ++ at_node names true f.node ++ codes ": " ++ decimal f.left ++ codes " is not above " ++ decimal f.right

-- a kind's number and name
abbrev pub inputs_kind_text : InputKind → List ℕ
inputs_kind_text inputs.NotCsv = codes "1 NotCsv"
inputs_kind_text inputs.Header = codes "2 Header"
inputs_kind_text inputs.Instant = codes "3 Instant"
inputs_kind_text inputs.Value = codes "4 Value"
inputs_kind_text inputs.TooMany = codes "5 TooMany"

abbrev pub inputs_line_of : InputKind → InputFault → List ℕ
inputs_line_of inputs.TooMany f = codes "limit: input rows 100000"
inputs_line_of _ f = codes "inputs " ++ inputs_kind_text f.kind ++ codes " at row " ++ decimal f.row

-- the line of refused inputs, without its line feed
abbrev pub inputs_line : InputFault → List ℕ
inputs_line f = inputs_line_of f.kind f

-- a kind's number and name
abbrev pub observer_kind_text : ObserverKind → List ℕ
observer_kind_text observer.BadByte = codes "1 BadByte"
observer_kind_text observer.Unexpected = codes "2 Unexpected"
observer_kind_text observer.TooDeep = codes "3 TooDeep"
observer_kind_text observer.UnknownName = codes "4 UnknownName"
observer_kind_text observer.NotBool = codes "5 NotBool"
observer_kind_text observer.NotBase = codes "6 NotBase"

-- the line of a refused observer, without its line feed
abbrev pub observer_line : ObserverFault → List ℕ
observer_line f = codes "observer " ++ observer_kind_text f.kind ++ codes " at byte " ++ decimal f.at
