-- What checks answer, one after another.
use Rattle.std.proofs.Common.{◌≡◌, ℕ, ◌<◌, List, length, get_or, drop, Option, None, Result, Ok, Err, sym, ◌∙◌, subst, Bor, Box, Global}
use Rattle.std.specs.Result.{IsErrAnd, IfOk}
use Rattle.std.specs.Option.{option_or}
use Rattle.lt_base.specs.declared.memory.Or.{Or}
use Rattle.lt_base.specs.declared.memory.Or.TheVariants.{Fault, Memory}
use Rattle.lt_resolve.specs.Names.{Name, first_some}
use Rattle.lt_resolve.specs.Told.{RefusesName, TellsName}
use Rattle.lt_base.specs.Memory.{NeedsNoMemory}
use Rattle.lt_resolve.proofs.Lists.{or_none, or_some, some_here}

-- an error that is handed on
pub tells_on : {T : Type 0} (o : Option Name) (e : Or (Bor Name)) (r : Result T (Or (Bor Name))) → IsErrAnd r (λ f. f ≡ e) → RefusesName o e → TellsName o r
tells_on o e (Ok x) h t = absurd h
tells_on o e (Err f) h t = subst (RefusesName o) (sym h) t

pub needs_none_on : {T E : Type 0} (e : Or E) (r : Result T (Or E)) → IsErrAnd r (λ f. f ≡ e) → NeedsNoMemory {T = T} (Err e) → NeedsNoMemory r
needs_none_on e (Ok x) h n = absurd h
needs_none_on {T = T} e (Err f) h n = subst (λ g. NeedsNoMemory {T = T} (Err g)) (sym h) n

-- what is found at place i is the first
pub tells_at : {A T : Type 0} (f : A → Option Name) (xs : List A) (i : ℕ) (x : A) (e : Or (Bor Name)) (r : Result T (Or (Bor Name))) → i < length xs → x ≡ get_or xs i x → first_some f (drop i xs) ≡ first_some f xs → IsErrAnd r (λ g. g ≡ e) → RefusesName (f x) e → TellsName (first_some f xs) r
tells_at f xs i x e r l at so h t = tells_on (first_some f xs) e r h (by e t)
  where
    by : (e : Or (Bor Name)) → RefusesName (f x) e → RefusesName (first_some f xs) e
    by (Fault y) t = some_here f xs i x y.now l at t so
    by Memory t = tt

-- one check after another
pub refuses_first : (o p : Option Name) (e : Or (Bor Name)) → RefusesName o e → RefusesName (option_or o p) e
refuses_first o p (Fault y) h = or_some o p y.now h
refuses_first o p Memory h = tt

pub refuses_then : (o p : Option Name) (e : Or (Bor Name)) → o ≡ None → RefusesName p e → RefusesName (option_or o p) e
refuses_then o p (Fault y) n h = or_none o p n ∙ h
refuses_then o p Memory n h = tt

pub tells_then : {T : Type 0} (o p : Option Name) (r : Result T (Or (Bor Name))) → o ≡ None → TellsName p r → TellsName (option_or o p) r
tells_then o p (Ok x) n h = or_none o p n ∙ h
tells_then o p (Err e) n h = refuses_then o p e n h

pub tells_as : {T : Type 0} (o p : Option Name) (r : Result T (Or (Bor Name))) → o ≡ p → TellsName p r → TellsName o r
tells_as o p (Ok x) e h = e ∙ h
tells_as o p (Err (Fault y)) e h = e ∙ h
tells_as o p (Err Memory) e h = tt

-- what follows of a value that was made
pub if_ok : {T E : Type 0} (P Q : T → Type 0) → ((x : T) → P x → Q x) → (r : Result T E) → IfOk r P → IfOk r Q
if_ok P Q f (Ok x) h = f x h
if_ok P Q f (Err e) h = tt

-- what holds of a value that was made, once it is in a box
pub boxed_as : {T E F : Type 0} (P : T → Type 0) (r : Result T E) (s : Result (Box T Global) F) → IfOk r P → IfOk s (λ b. r ≡ Ok b.value) → IfOk s (λ b. P b.value)
boxed_as P r (Ok b) h is = subst (λ r. IfOk r P) is h
boxed_as P r (Err e) h is = tt
