-- Which observer the bytes are, or where they go wrong first.
use Rattle.std.specs.Prelude.{ℕ, ◌+◌, ◌≡◌, ◌⊎◌, List, [], ◌∷◌, ◌++◌, length, Err}
use Rattle.lt_base.specs.Program.{Function}
use Rattle.lt_tokens.specs.Text.{skip}
use Rattle.lt_past.specs.declared.fault.ObserverFault.{ObserverFault}
use Rattle.lt_past.specs.declared.fault.ObserverKind.{ObserverKind}
use Rattle.lt_past.specs.declared.fault.ObserverKind.TheVariants as kind
use Rattle.lt_past.specs.Observer.{Observing}
use Rattle.lt_past.specs.Tokens.{Token, name, sign, ObserverFront, Over, Begins as Next, BadByte, ObserverCuts, observer_front}
use Rattle.lt_past.specs.Grammar.{ObserverForm, names, formula_meaning}
use Rattle.lt_past.specs.Spelled.{WritesObserver, SpellsObserver}
use Rattle.lt_past.specs.Naming.{output_of, named_outs, output_number, AreOutputs}

-- The bytes spell a form whose names are bool outputs on the base clock; the outputs are those that are named, and each name is the
-- signal at its output's place among them.
pub record IsObserverOf (limit : ℕ) (main : Function) (bytes : List ℕ) (o : Observing) : Type 0 where
  pub form : ObserverForm
  pub spelled : SpellsObserver limit bytes form
  pub good : AreOutputs main (names form)
  pub outs_are : o.outs ≡ named_outs main (names form)
  pub formula_is : o.formula ≡ formula_meaning (output_number main o.outs) form

-- these tokens begin an observer
abbrev pub ObserverBegins : ℕ → List Token → Type 0
ObserverBegins limit ts = (more : List Token) × (f : ObserverForm) × WritesObserver limit (ts ++ more) f

-- These tokens begin no observer, whatever the limit on height.
abbrev pub ObserverBreaks : List Token → Type 0
ObserverBreaks ts = (limit : ℕ) → ObserverBegins limit ts → ⊥

-- they begin one, but none within this limit
abbrev pub ObserverExceeds : ℕ → List Token → Type 0
ObserverExceeds limit ts = (ObserverBegins limit ts → ⊥) × ((more : ℕ) × ObserverBegins more ts)

-- What stands behind tokens that begin an observer is wrong, in this way.
abbrev pub ObserverOffends : ℕ → ObserverKind → List Token → ObserverFront → Type 0
ObserverOffends limit kind.BadByte ts BadByte = Unit {0}
ObserverOffends limit kind.Unexpected ts (Next t after) = ObserverBreaks (ts ++ t ∷ [])
ObserverOffends limit kind.Unexpected ts Over = (f : ObserverForm) → WritesObserver limit ts f → ⊥
ObserverOffends limit kind.TooDeep ts (Next t after) = ObserverExceeds limit (ts ++ t ∷ [])
ObserverOffends limit _ ts _ = ⊥

-- The first offending place of the bytes, and its kind: the tokens before it begin an observer, and what stands there offends.
pub record IsSyntaxFault (limit : ℕ) (bytes : List ℕ) (f : ObserverFault) : Type 0 where
  pub tokens : List Token
  pub rest : List ℕ
  pub cut : ObserverCuts bytes tokens rest
  pub place : f.at + length (skip rest) ≡ length bytes
  pub before : ObserverBegins limit tokens
  pub offends : ObserverOffends limit f.kind tokens (observer_front (skip rest))

-- the names among tokens, in order
abbrev pub names_in : List Token → List (List ℕ)
names_in [] = []
names_in (name x ∷ ts) = x ∷ names_in ts
names_in (sign s ∷ ts) = names_in ts

-- The first name of the tokens that is no bool output on the base clock stands here, with the reason.
pub record IsBadName (main : Function) (bytes : List ℕ) (f : ObserverFault) : Type 0 where
  pub tokens : List Token
  pub rest : List ℕ
  pub cut : ObserverCuts bytes tokens rest
  pub place : f.at + length (skip rest) ≡ length bytes
  pub wrong_name : List ℕ
  pub after : List ℕ
  pub stands : observer_front (skip rest) ≡ Next (name wrong_name) after
  pub earlier : AreOutputs main (names_in tokens)
  pub wrong : output_of main wrong_name ≡ Err f.kind

-- a fault of a name, where the bytes spell a form
pub record IsNameFault (limit : ℕ) (main : Function) (bytes : List ℕ) (f : ObserverFault) : Type 0 where
  pub form : ObserverForm
  pub spelled : SpellsObserver limit bytes form
  pub bad : IsBadName main bytes f

-- a fault of the syntax; where there is none, of a name
abbrev pub IsObserverFault : ℕ → Function → List ℕ → ObserverFault → Type 0
IsObserverFault limit main bytes f = IsSyntaxFault limit bytes f ⊎ IsNameFault limit main bytes f
