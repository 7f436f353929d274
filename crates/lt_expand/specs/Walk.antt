-- What the steps of expansion do to the declarations and equations made so far.
use Rattle.std.specs.Prelude.{◌≡◌, ℕ, zero, suc, ◌<◌, ◌++◌, List, [], ◌∷◌, Option, Some, None, length, replicate, slice_index_or}
use Rattle.std.specs.List.{All, range_with_len}
use Rattle.lt_base.specs.declared.function.Decl.{Decl}
use Rattle.lt_base.specs.Expression.{Expression, arguments_of}
use Rattle.lt_base.specs.Program.{Function}
use Rattle.lt_base.specs.Meaning.{ClockPairs}
use Rattle.lt_base.specs.Calls.{EachCall, CallsFunction}
use Rattle.lt_expand.specs.declared.inline.Pasted.{Pasted}
use Rattle.lt_expand.specs.Copies.{Library, Copy, grown, inlined, copies, copied_decls, copied_equations, equations_inlined, equations_copies, function_or_none, expanded}

-- fewer than n calls nest in function g
abbrev pub NestsWithin : List Function → ℕ → ℕ → Type 0
NestsWithin fs zero g = ⊥
NestsWithin fs (suc n) g = (h : ℕ) → CallsFunction fs g h → NestsWithin fs n h

-- these copies were appended to the declarations and to the equations
pub record AddsCopies (cs : List Copy) (ds : List Decl) (es : List (ℕ × Expression)) (ds' : List Decl) (es' : List (ℕ × Expression)) : Type 0 where
  pub decls : ds' ≡ ds ++ copied_decls cs
  pub eqs : es' ≡ es ++ copied_equations cs

-- one copy was: that of this function, on the clock of a call's place, whose inputs have these right sides
abbrev pub AddsCopy : ClockPairs → Function → List Expression → List Decl → List (ℕ × Expression) → List Decl → List (ℕ × Expression) → Type 0
AddsCopy ck f inputs ds es ds' es' = AddsCopies (record { from = length ds; clock = ck; source = f; inputs = arguments_of inputs } ∷ []) ds es ds' es'

-- so were the copies for the calls of an expression at a clock, and this form of it is left
pub record InlinedTo (lib : Library) (ck : ClockPairs) (e : Expression) (ds : List Decl) (es : List (ℕ × Expression)) (ds' : List Decl) (es' : List (ℕ × Expression)) (e' : Expression) : Type 0 where
  pub form : e' ≡ inlined lib (length ds) e
  pub adds : AddsCopies (copies lib (length ds) ck e) ds es ds' es'

-- a step puts copies in place of the calls of an expression at a clock: what was pasted before it and after it, and the form that is left
abbrev pub Inlines : Library → ClockPairs → Expression → Pasted → Pasted → Expression → Type 0
Inlines lib ck e before after e' = InlinedTo lib ck e before.decls.items before.eqs.items after.decls.items after.eqs.items e'

-- what is made for a function, if it is
abbrev pub made_of : List (Option Function) → ℕ → Option Function
made_of versions g = slice_index_or versions g None

-- the versions without calls that are made, as a library
abbrev pub library_of : List (Option Function) → Library
library_of versions g = function_or_none (made_of versions g)

-- the version of a function is made
abbrev pub IsMade : List (Option Function) → ℕ → Type 0
IsMade versions g = made_of versions g ≡ Some (library_of versions g)

-- the version of a function is made, has no call, and fits a call with that many arguments
pub record Copyable (versions : List (Option Function)) (g n : ℕ) : Type 0 where
  pub made : IsMade versions g
  pub callless : All (λ q. EachCall (λ h. ⊥) q.1) (library_of versions g).eqs
  pub arity : (library_of versions g).n_in ≡ n
  pub output : 0 < length (library_of versions g).outs

-- what was made is a program's functions without their calls
pub record AreVersions (fs : List Function) (versions : List (Option Function)) : Type 0 where
  pub all : length versions ≡ length fs
  pub are : (g : ℕ) (F : Function) → made_of versions g ≡ Some F → (n : ℕ) → NestsWithin fs n g → F ≡ expanded fs n g

-- what was made is still there
abbrev pub KeepsVersions : List (Option Function) → List (Option Function) → Type 0
KeepsVersions before after = (g : ℕ) (F : Function) → made_of before g ≡ Some F → made_of after g ≡ Some F

-- the variables in whose equations those of the copies arose, equation by equation
abbrev pub owners : Library → List (ℕ × Expression) → List ℕ
owners lib [] = []
owners lib (q ∷ qs) = replicate (grown lib q.1) q.0 ++ owners lib qs

-- these equations of a function with these declarations got copies in place of their calls
pub record AllInlined (lib : Library) (known : List Decl) (qs : List (ℕ × Expression)) (ds : List Decl) (eqs : List (ℕ × Expression)) (copied : List (ℕ × Expression)) (origins : List ℕ) : Type 0 where
  pub decls : ds ≡ known ++ copied_decls (equations_copies lib known (length known) qs)
  pub eqs_are : eqs ≡ equations_inlined lib (length known) qs
  pub copied_are : copied ≡ copied_equations (equations_copies lib known (length known) qs)
  pub origins_are : origins ≡ range_with_len 0 (length known) ++ owners lib qs
