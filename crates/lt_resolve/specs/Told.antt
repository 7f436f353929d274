-- What a check answers against what it looks for.
use Rattle.std.specs.Prelude.{◌≡◌, ◌<◌, ◌≤◌, ℕ, Option, Some, None, List, Result, Ok, Err, MatchResult}
use Rattle.std.specs.Option.{option_map}
use Rattle.std.specs.Borrow.{Bor}
use Rattle.lt_base.specs.declared.memory.Or.{Or}
use Rattle.lt_base.specs.declared.memory.Or.TheVariants.{Fault, Memory}
use Rattle.lt_base.specs.Or.{ForFault}
use Rattle.lt_syntax.specs.declared.tree.NodeText.{NodeText}
use Rattle.lt_resolve.specs.declared.fault.NameKind.{NameKind}
use Rattle.lt_resolve.specs.declared.fault.NameKind.TheVariants.{Unknown}
use Rattle.lt_resolve.specs.declared.fault.NameFault.{NameFault}
use Rattle.lt_resolve.specs.Names.{Name}
use Rattle.lt_resolve.specs.Faults.{Occurrence, First, kind_number}

-- this name is found, or memory was wanting
abbrev pub RefusesName : Option Name → Or (Bor Name) → Type 0
RefusesName o (Fault x) = o ≡ Some x.now
RefusesName o Memory = Unit {0}

-- nothing is found, or the name that is
abbrev pub TellsName : {T : Type 0} → Option Name → Result T (Or (Bor Name)) → Type 0
TellsName o (Ok x) = o ≡ None
TellsName o (Err e) = RefusesName o e

-- a fault of the kind shows the occurrence, or memory was wanting
abbrev pub BlamesName : NameKind → (Option Occurrence → Type 0) → Or NameFault → Type 0
BlamesName kind P (Fault f) = (f.kind ≡ kind) × P (Some (f.func, f.name))
BlamesName kind P Memory = Unit {0}

-- there is no such occurrence, or a fault of the kind shows it
abbrev pub ShowsFault : {T : Type 0} → NameKind → (Option Occurrence → Type 0) → Result T (Or NameFault) → Type 0
ShowsFault kind P (Ok x) = P None
ShowsFault kind P (Err e) = BlamesName kind P e

-- no kind behind the one number and up to the other occurs
abbrev pub Cleared : List NodeText → ℕ → ℕ → Type 0
Cleared t m n = (k : NameKind) → m < kind_number k → kind_number k ≤ n → First t k None

-- the first occurrence of the first kind behind that number that occurs
pub record IsFirstBehind (t : List NodeText) (m : ℕ) (f : NameFault) : Type 0 where
  pub here : First t f.kind (Some (f.func, f.name))
  pub behind : m < kind_number f.kind
  pub before : (k : NameKind) → m < kind_number k → kind_number k < kind_number f.kind → First t k None

-- no such kind occurs, or the fault is the first one behind the one number
abbrev pub ChecksPass : {T : Type 0} → List NodeText → ℕ → ℕ → Result T (Or NameFault) → Type 0
ChecksPass t m n result = MatchResult result (λ _. Cleared t m n) (λ e. ForFault e (IsFirstBehind t m))

-- names that are not declared are at fault, and the first of them in the function at this place is this one, if there is one
abbrev pub ShowsUnknown : {T : Type 0} → ℕ → Option Name → Result T (Or NameFault) → Type 0
ShowsUnknown place found result = ShowsFault Unknown (λ o. o ≡ option_map (λ x. (place, x)) found) result
