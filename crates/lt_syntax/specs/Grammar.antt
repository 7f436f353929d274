-- The grammar of expressions. An expression as it is written, with its parentheses, is a form;
-- where it may stand, its tokens, its height and its tree are read off it.
use Rattle.std.specs.Prelude.{ℕ, ◌+◌, ◌≤◌, max, Bool, true, false, List, ◌∷◌, Option, Some, None, pos, neg_ℤ}
use Rattle.lt_base.specs.declared.operators.Bin.TheVariants.{Sub}
use Rattle.lt_base.specs.declared.operators.Un.TheVariants.{Neg, Not}
use Rattle.lt_base.specs.declared.value.Value.{Value}
use Rattle.lt_base.specs.declared.value.Value.TheVariants.{Int, Bool as Truth}
use Rattle.lt_tokens.specs.declared.token.Infix.{Infix}
use Rattle.lt_tokens.specs.declared.token.Infix.TheVariants.{Operator, Fby, Arrow}
use Rattle.lt_tokens.specs.declared.token.Token.{Token}
use Rattle.lt_tokens.specs.declared.token.Token.TheVariants as token
use Rattle.lt_syntax.specs.Tree as tree
use Rattle.lt_syntax.specs.Tree.{Tm, Tms}
use Rattle.lt_syntax.specs.Levels.{infix_line, level, left_level, right_level}

mutual
  pub data Form : Type 0 where
    number : ℕ → Form
    truth : Bool → Form
    name : List ℕ → Form
    paren : Form → Form
    minus : Form → Form
    negated : Form → Form
    binary : Infix → Form → Form → Form
    choice : Form → Form → Form → Form
    sampled : Form → List ℕ → Bool → Form
    merged : List ℕ → Form → Form → Form
    call : List ℕ → Forms → Form

  pub data Forms : Type 0 where
    nil : Forms
    cons : Form → Forms → Forms

-- the form may stand where the grammar asks for this level
abbrev mutual
  pub IsAt : ℕ → Form → Type 0
  IsAt l (number n) = l ≤ 12
  IsAt l (truth b) = l ≤ 12
  IsAt l (name x) = l ≤ 12
  IsAt l (paren a) = (l ≤ 12) × IsAt 1 a
  IsAt l (minus a) = (l ≤ 10) × IsAt 11 a
  IsAt l (negated a) = (l ≤ 5) × IsAt 5 a
  IsAt l (binary o a b) = (l ≤ level (infix_line o)) × IsAt (left_level (infix_line o)) a × IsAt (right_level (infix_line o)) b
  IsAt l (choice c a b) = (l ≤ 1) × IsAt 1 c × IsAt 1 a × IsAt 1 b
  IsAt l (sampled a c b) = (l ≤ 9) × IsAt 9 a
  IsAt l (merged c a b) = (l ≤ 11) × IsAt 12 a × IsAt 12 b
  IsAt l (call f xs) = (l ≤ 11) × AreExprs xs

  pub AreExprs : Forms → Type 0
  AreExprs nil = Unit {0}
  AreExprs (cons a xs) = IsAt 1 a × AreExprs xs

-- `not` before the variable of a `when`, or nothing, and then ts
abbrev pub polarity : Bool → List Token → List Token
polarity true ts = ts
polarity false ts = token.Not ∷ ts

-- the tokens of a form, and then ts
abbrev mutual
  pub tokens : Form → List Token → List Token
  tokens (number n) ts = token.Number n ∷ ts
  tokens (truth b) ts = token.Truth b ∷ ts
  tokens (name x) ts = token.Ident x ∷ ts
  tokens (paren a) ts = token.Open ∷ tokens a (token.Close ∷ ts)
  tokens (minus a) ts = token.Infix (Operator Sub) ∷ tokens a ts
  tokens (negated a) ts = token.Not ∷ tokens a ts
  tokens (binary o a b) ts = tokens a (token.Infix o ∷ tokens b ts)
  tokens (choice c a b) ts = token.If ∷ tokens c (token.Then ∷ tokens a (token.Else ∷ tokens b ts))
  tokens (sampled a c b) ts = tokens a (token.When ∷ polarity b (token.Ident c ∷ ts))
  tokens (merged c a b) ts = token.Merge ∷ token.Ident c ∷ tokens a (tokens b ts)
  tokens (call f xs) ts = token.Ident f ∷ token.Open ∷ arguments xs (token.Close ∷ ts)

  -- separated by commas
  pub arguments : Forms → List Token → List Token
  arguments nil ts = ts
  arguments (cons a nil) ts = tokens a ts
  arguments (cons a (cons b xs)) ts = tokens a (token.Comma ∷ arguments (cons b xs) ts)

-- the value of a form that is spelled by `literal`
abbrev pub literal : Form → Option Value
literal (number n) = Some (Int (pos n))
literal (truth b) = Some (Truth b)
literal (minus (number n)) = Some (Int (neg_ℤ (pos n)))
literal _ = None

-- A literal to the left of `fby` or `->` is one value; every other left side is an expression.
abbrev pub joined : Infix → Option Value → Tm → Tm → Tm
joined (Operator o) v a b = tree.Binary o a b
joined Fby (Some v) a b = tree.Delayed v b
joined Fby None a b = tree.Followed a b
joined Arrow (Some v) a b = tree.Arrow (tree.Lit v) b
joined Arrow None a b = tree.Arrow a b

-- the height of a left side: a literal to the left of `fby` or `->` has 1
abbrev pub left_height : Infix → Option Value → ℕ → ℕ
left_height Fby (Some v) h = 1
left_height Arrow (Some v) h = 1
left_height _ v h = h

abbrev mutual
  pub height : Form → ℕ
  height (number n) = 1
  height (truth b) = 1
  height (name x) = 1
  height (paren a) = height a + 1
  height (minus a) = height a + 1
  height (negated a) = height a + 1
  height (binary o a b) = max (left_height o (literal a) (height a)) (height b) + 1
  height (choice c a b) = max (max (height c) (height a)) (height b) + 1
  height (sampled a c b) = height a + 1
  height (merged c a b) = max (height a) (height b) + 1
  height (call f xs) = max 1 (heights xs) + 1

  -- the greatest
  pub heights : Forms → ℕ
  heights nil = 0
  heights (cons a xs) = max (height a) (heights xs)

abbrev mutual
  pub meaning : Form → Tm
  meaning (number n) = tree.Lit (Int (pos n))
  meaning (truth b) = tree.Lit (Truth b)
  meaning (name x) = tree.Var x
  meaning (paren a) = meaning a
  meaning (minus a) = tree.Unary Neg (meaning a)
  meaning (negated a) = tree.Unary Not (meaning a)
  meaning (binary o a b) = joined o (literal a) (meaning a) (meaning b)
  meaning (choice c a b) = tree.Choice (meaning c) (meaning a) (meaning b)
  meaning (sampled a c b) = tree.Sampled (meaning a) c b
  meaning (merged c a b) = tree.Merged c (meaning a) (meaning b)
  meaning (call f xs) = tree.Call f (meanings xs)

  pub meanings : Forms → Tms
  meanings nil = tree.Nil
  meanings (cons a xs) = tree.Cons (meaning a) (meanings xs)
