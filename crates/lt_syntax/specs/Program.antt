-- The grammar of declarations, nodes and programs, and what spells a tree.
use Rattle.std.specs.Prelude.{ℕ, ◌≤◌, ◌≡◌, ◌++◌, Bool, true, false, List, [], ◌∷◌, map}
use Rattle.lt_base.specs.declared.operators.Bin.TheVariants.{Eq}
use Rattle.lt_base.specs.declared.value.Ty.{Ty}
use Rattle.lt_base.specs.Limits.{greatest_height}
use Rattle.lt_tokens.specs.declared.token.Infix.TheVariants.{Operator}
use Rattle.lt_tokens.specs.declared.token.Token.{Token}
use Rattle.lt_tokens.specs.declared.token.Token.TheVariants as token
use Rattle.lt_tokens.specs.Text as text
use Rattle.lt_tokens.specs.Text.{Cuts, front, skip}
use Rattle.lt_syntax.specs.declared.tree.DeclText.{DeclText}
use Rattle.lt_syntax.specs.declared.tree.NodeText.{NodeText}
use Rattle.lt_syntax.specs.Grammar.{Form, IsAt, tokens, polarity, height, meaning}

-- names of one type and clock, declared together
pub record Group : Type 0 where
  pub names : List (List ℕ)
  pub ty : Ty
  pub clock : List (List ℕ × Bool)

-- a node as it is written, with its optional semicolons
pub record Node : Type 0 where
  pub name : List ℕ
  pub ins : List Group
  pub outs : List Group
  pub semicolon : Bool
  pub locals : List Group
  pub eqs : List (List ℕ × Form)
  pub last : Bool

-- one after the other, each written with what follows it; and the same with a token between them
abbrev pub each : {A : Type 0} → (A → List Token → List Token) → List A → List Token → List Token
each f [] ts = ts
each f (x ∷ xs) ts = f x (each f xs ts)

abbrev pub separated_by : {A : Type 0} → Token → (A → List Token → List Token) → List A → List Token → List Token
separated_by s f [] ts = ts
separated_by s f (x ∷ []) ts = f x ts
separated_by s f (x ∷ y ∷ xs) ts = f x (s ∷ separated_by s f (y ∷ xs) ts)

abbrev pub optional : Bool → Token → List Token → List Token
optional true t ts = t ∷ ts
optional false t ts = ts

abbrev pub ident : List ℕ → List Token → List Token
ident x ts = token.Ident x ∷ ts

-- one clause `when c` or `when not c`
abbrev pub clause : List ℕ × Bool → List Token → List Token
clause c ts = token.When ∷ polarity c.1 (token.Ident c.0 ∷ ts)

abbrev pub group : Group → List Token → List Token
group g ts = separated_by token.Comma ident g.names (token.Colon ∷ token.Type g.ty ∷ each clause g.clock ts)

abbrev pub local : Group → List Token → List Token
local g ts = group g (token.Semicolon ∷ ts)

-- the declarations of locals, where there are any
abbrev pub locals : List Group → List Token → List Token
locals [] ts = ts
locals (g ∷ gs) ts = token.Var ∷ each local (g ∷ gs) ts

abbrev pub equation : List ℕ × Form → List Token → List Token
equation e ts = token.Ident e.0 ∷ token.Infix (Operator Eq) ∷ tokens e.1 (token.Semicolon ∷ ts)

-- the tokens of a node, and then ts
abbrev pub node : Node → List Token → List Token
node n ts =
    token.Node ∷ token.Ident n.name ∷ token.Open ∷ separated_by token.Semicolon group n.ins
    (token.Close ∷ token.Returns ∷ token.Open ∷ separated_by token.Semicolon group n.outs
    (token.Close ∷ optional n.semicolon token.Semicolon (locals n.locals
    (token.Let ∷ each equation n.eqs (token.Tel ∷ optional n.last token.Semicolon ts)))))

abbrev pub NotEmpty : {A : Type 0} → List A → Type 0
NotEmpty [] = ⊥
NotEmpty (x ∷ xs) = Unit {0}

abbrev pub Each : {A : Type 0} → (A → Type 0) → List A → Type 0
Each P [] = Unit {0}
Each P (x ∷ xs) = P x × Each P xs

abbrev pub IsGroup : Group → Type 0
IsGroup g = NotEmpty g.names

-- a group without a clock
abbrev pub IsPlain : Group → Type 0
IsPlain g = IsGroup g × (g.clock ≡ [])

-- the right side is an expression of at most this height
abbrev pub IsEquation : ℕ → List ℕ × Form → Type 0
IsEquation limit e = IsAt 1 e.1 × (height e.1 ≤ limit)

abbrev pub IsNode : ℕ → Node → Type 0
IsNode limit n = Each IsPlain n.ins × NotEmpty n.outs × Each IsGroup n.outs × Each IsGroup n.locals × Each (IsEquation limit) n.eqs

-- one declaration for each name, in order
abbrev pub declared : List (List ℕ) → Ty → List (List ℕ × Bool) → List DeclText
declared [] ty clock = []
declared (x ∷ xs) ty clock = record { name = x; ty = ty; clock = clock } ∷ declared xs ty clock

abbrev pub decls : List Group → List DeclText
decls [] = []
decls (g ∷ gs) = declared g.names g.ty g.clock ++ decls gs

abbrev pub node_tree : Node → NodeText
node_tree n = record { name = n.name; ins = decls n.ins; outs = decls n.outs; locals = decls n.locals; eqs = map (λ e. (e.0, meaning e.1)) n.eqs }

-- These tokens are a program, whose tree this is.
pub record Program (limit : ℕ) (ts : List Token) (t : List NodeText) : Type 0 where
  pub nodes : List Node
  pub some : NotEmpty nodes
  pub good : Each (IsNode limit) nodes
  pub spelled : ts ≡ each node nodes []
  pub meant : map node_tree nodes ≡ t

-- These bytes are cut into tokens up to their end, and the tokens are a program with this tree.
pub record Spells (limit : ℕ) (bytes : List ℕ) (t : List NodeText) : Type 0 where
  pub tokens : List Token
  pub rest : List ℕ
  pub cut : Cuts bytes tokens rest
  pub ended : front (skip rest) ≡ text.Over
  pub program : Program limit tokens t

-- some bytes spell the tree, within the greatest height
abbrev pub IsSpelled : List NodeText → Type 0
IsSpelled t = (bytes : List ℕ) × Spells greatest_height bytes t
