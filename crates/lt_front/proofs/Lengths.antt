-- A text has no more functions than bytes, and no function more equations.
use Rattle.std.proofs.Common.{◌≡◌, ℕ, suc, ◌+◌, ◌<◌, ◌≤◌, Bool, true, false, Option, Some, None, List, [], ◌∷◌, length, map, drop, refl, ap, subst, arith, length-drop}
use Rattle.std.proofs.lemmas.List.{length-map, length-take}
use Rattle.std.proofs.lemmas.List.Elements.{All-nil, All-cons}
use Rattle.std.specs.Prelude.{cond, take_while, if◌then◌else◌}
use Rattle.std.specs.List.{All, prefix_len}
use Rattle.lt_tokens.specs.declared.token.Infix.{Infix}
use Rattle.lt_tokens.specs.declared.token.Token.{Token}
use Rattle.lt_tokens.specs.declared.token.Token.TheVariants as token
use Rattle.lt_base.specs.Digits.{is_digit}
use Rattle.lt_tokens.specs.Text.{is_blank, is_letter, is_word, skip, skip_comment, Front, Begins, BadNumber, pair, single, symbol_of, span, word, number, front, Cuts}
use Rattle.lt_syntax.specs.declared.tree.NodeText.{NodeText}
use Rattle.lt_syntax.specs.Tree.{Tm}
use Rattle.lt_syntax.specs.Grammar.{Form, Forms, meaning, tokens, arguments, polarity, number as numeral, truth, name, paren, minus, negated, binary, choice, sampled, merged, call, nil, cons}
use Rattle.lt_syntax.specs.Program.{Group, Node, each, separated_by, optional, ident, clause, group, local, locals, equation, node, node_tree, Spells}

-- blanks and comments

if_short : (test : Bool) (n : ℕ) (a b : List ℕ) → length a ≤ n → length b ≤ n → length (if test then a else b) ≤ n
if_short true n a b p q = p
if_short false n a b p q = q

mutual
  skip_short : (bs : List ℕ) → length (skip bs) ≤ length bs
  skip_short [] = omega arith
  skip_short (b ∷ bs) =
      let p = skip_short bs in
      let q = comment_short bs in
      if_short (is_blank b) (suc (length bs)) (skip bs) _ (omega (arith, p))
      (if_short _ (suc (length bs)) (skip_comment bs) (b ∷ bs) (omega (arith, q)) (omega arith))

  comment_short : (bs : List ℕ) → length (skip_comment bs) ≤ length bs
  comment_short [] = omega arith
  comment_short (b ∷ bs) =
      let p = skip_short bs in
      let q = comment_short bs in
      if_short _ (suc (length bs)) (skip bs) (skip_comment bs) (omega (arith, p)) (omega (arith, q))

-- a token takes a byte at least

abbrev Shorter : ℕ → Front → Type 0
Shorter n f = (t : Token) (after : List ℕ) → f ≡ Begins t after → length after < n

if_shorter : (test : Bool) (n : ℕ) (a b : Front) → (test ≡ true → Shorter n a) → (test ≡ false → Shorter n b) → Shorter n (if test then a else b)
if_shorter true n a b p q = p refl
if_shorter false n a b p q = q refl

begins_shorter : (n : ℕ) (t : Token) (rest : List ℕ) → length rest < n → Shorter n (Begins t rest)
begins_shorter n t rest less u after is = let e : rest ≡ after = cc in omega (arith, ap length e, less)

some_of : (test : Bool) (n : ℕ) → test ≡ true → 1 ≤ cond test (1 + n) 0
some_of true n is = omega arith
some_of false n is = cc

taken_some : (p : ℕ → Bool) (b : ℕ) (bs : List ℕ) → p b ≡ true → 1 ≤ length (take_while p (b ∷ bs))
taken_some p b bs is =
    let some : 1 ≤ prefix_len p (b ∷ bs) = some_of (p b) (prefix_len p bs) is in
    omega (arith, some, length-take (prefix_len p (b ∷ bs)) (b ∷ bs))

rest_less : (p : ℕ → Bool) (b : ℕ) (bs : List ℕ) → p b ≡ true → length (drop (length (take_while p (b ∷ bs))) (b ∷ bs)) < suc (length bs)
rest_less p b bs is = omega (arith, length-drop (length (take_while p (b ∷ bs))) (b ∷ bs), taken_some p b bs is)

letter_is_word : (b : ℕ) → is_letter b ≡ true → is_word b ≡ true
letter_is_word b is = rw is refl

none_shorter : (n : ℕ) → Shorter n BadNumber
none_shorter n t after is = cc

word_shorter : (b : ℕ) (bs : List ℕ) → is_letter b ≡ true → Shorter (suc (length bs)) (span is_word (b ∷ bs) word)
word_shorter b bs is = begins_shorter _ _ _ (rest_less is_word b bs (letter_is_word b is))

number_shorter : (b : ℕ) (bs : List ℕ) → is_digit b ≡ true → Shorter (suc (length bs)) (span is_digit (b ∷ bs) number)
number_shorter b bs is = if_shorter _ _ _ _ (λ _. begins_shorter _ _ _ (rest_less is_digit b bs is)) (λ _. none_shorter _)

symbol_shorter : (o : Option Infix) (t : Option Token) (bs : List ℕ) → Shorter (suc (length bs)) (symbol_of o t bs)
symbol_shorter (Some o) t bs = begins_shorter _ _ _ (omega (arith, length-drop 1 bs))
symbol_shorter None (Some t) bs = begins_shorter _ _ _ (omega arith)
symbol_shorter None None bs = λ t after none. cc

front_shorter : (bs : List ℕ) → Shorter (length bs) (front bs)
front_shorter [] = λ t after none. cc
front_shorter (b ∷ bs) =
    if_shorter (is_letter b) _ _ _ (λ is. word_shorter b bs is)
    (λ _. if_shorter (is_digit b) _ _ _ (λ is. number_shorter b bs is) (λ _. symbol_shorter (pair b bs) (single b) bs))

cuts_few : (ts : List Token) (bytes rest : List ℕ) → Cuts bytes ts rest → length ts ≤ length bytes
cuts_few [] bytes rest cut = omega arith
cuts_few (t ∷ ts) bytes rest cut =
    let less = front_shorter (skip bytes) t cut.0 cut.1 in
    let short = skip_short bytes in
    let few = cuts_few ts cut.0 rest cut.2 in
    omega (arith, less, short, few)

-- what is written before other tokens only grows them

abbrev Grows : {A : Type 0} → (A → List Token → List Token) → Type 0
Grows f = (x : _) (ts : List Token) → length ts ≤ length (f x ts)

each_grows : {A : Type 0} (f : A → List Token → List Token) → Grows f → Grows (each f)
each_grows f grows [] ts = omega arith
each_grows f grows (x ∷ xs) ts = omega (arith, grows x (each f xs ts), each_grows f grows xs ts)

between_grows : {A : Type 0} (s : Token) (f : A → List Token → List Token) → Grows f → Grows (separated_by s f)
between_grows s f grows [] ts = omega arith
between_grows s f grows (x ∷ []) ts = grows x ts
between_grows s f grows (x ∷ y ∷ xs) ts = omega (arith, grows x (s ∷ separated_by s f (y ∷ xs) ts), between_grows s f grows (y ∷ xs) ts)

optional_grows : (b : Bool) (t : Token) (ts : List Token) → length ts ≤ length (optional b t ts)
optional_grows true t ts = omega arith
optional_grows false t ts = omega arith

ident_grows : Grows ident
ident_grows x ts = omega arith

polarity_grows : (b : Bool) (ts : List Token) → length ts ≤ length (polarity b ts)
polarity_grows true ts = omega arith
polarity_grows false ts = omega arith

clause_grows : Grows clause
clause_grows c ts = omega (arith, polarity_grows c.1 (token.Ident c.0 ∷ ts))

group_grows : Grows group
group_grows g ts =
    omega (arith, between_grows token.Comma ident ident_grows g.names (token.Colon ∷ token.Type g.ty ∷ each clause g.clock ts), each_grows clause clause_grows g.clock ts)

local_grows : Grows local
local_grows g ts = omega (arith, group_grows g (token.Semicolon ∷ ts))

locals_grows : (gs : List Group) (ts : List Token) → length ts ≤ length (locals gs ts)
locals_grows [] ts = omega arith
locals_grows (g ∷ gs) ts = omega (arith, each_grows local local_grows (g ∷ gs) ts)

mutual
  tokens_grow : Grows tokens
  tokens_grow (numeral n) ts = omega arith
  tokens_grow (truth b) ts = omega arith
  tokens_grow (name x) ts = omega arith
  tokens_grow (paren a) ts = omega (arith, tokens_grow a (token.Close ∷ ts))
  tokens_grow (minus a) ts = omega (arith, tokens_grow a ts)
  tokens_grow (negated a) ts = omega (arith, tokens_grow a ts)
  tokens_grow (binary o a b) ts = omega (arith, tokens_grow a (token.Infix o ∷ tokens b ts), tokens_grow b ts)
  tokens_grow (choice c a b) ts =
      omega (arith, tokens_grow c (token.Then ∷ tokens a (token.Else ∷ tokens b ts)), tokens_grow a (token.Else ∷ tokens b ts), tokens_grow b ts)
  tokens_grow (sampled a c b) ts = omega (arith, tokens_grow a (token.When ∷ polarity b (token.Ident c ∷ ts)), polarity_grows b (token.Ident c ∷ ts))
  tokens_grow (merged c a b) ts = omega (arith, tokens_grow a (tokens b ts), tokens_grow b ts)
  tokens_grow (call f xs) ts = omega (arith, arguments_grow xs (token.Close ∷ ts))

  arguments_grow : (xs : Forms) (ts : List Token) → length ts ≤ length (arguments xs ts)
  arguments_grow nil ts = omega arith
  arguments_grow (cons a nil) ts = tokens_grow a ts
  arguments_grow (cons a (cons b xs)) ts = omega (arith, tokens_grow a (token.Comma ∷ arguments (cons b xs) ts), arguments_grow (cons b xs) ts)

-- each equation has a token, and so has each function

equations_grow : (eqs : List (List ℕ × Form)) (ts : List Token) → length eqs + length ts ≤ length (each equation eqs ts)
equations_grow [] ts = omega arith
equations_grow (e ∷ eqs) ts = omega (arith, tokens_grow e.1 (token.Semicolon ∷ each equation eqs ts), equations_grow eqs ts)

node_grows : (n : Node) (ts : List Token) → length n.eqs + length ts + 1 ≤ length (node n ts)
node_grows n ts =
    let last = optional n.last token.Semicolon ts in
    let body = token.Let ∷ each equation n.eqs (token.Tel ∷ last) in
    let after = optional n.semicolon token.Semicolon (locals n.locals body) in
    let returns = token.Close ∷ token.Returns ∷ token.Open ∷ separated_by token.Semicolon group n.outs (token.Close ∷ after) in
    omega (
      arith,
      between_grows token.Semicolon group group_grows n.ins returns,
      between_grows token.Semicolon group group_grows n.outs (token.Close ∷ after),
      optional_grows n.semicolon token.Semicolon (locals n.locals body),
      locals_grows n.locals body,
      equations_grow n.eqs (token.Tel ∷ last),
      optional_grows n.last token.Semicolon ts,
    )

-- no more functions and equations than n
pub record IsFew (n : ℕ) (t : List NodeText) : Type 0 where
  pub functions : length t ≤ n
  pub equations : All (λ m. length m.eqs ≤ n) t

nodes_grow : (ns : List Node) → length ns ≤ length (each node ns [])
nodes_grow [] = omega arith
nodes_grow (n ∷ ns) = omega (arith, node_grows n (each node ns []), nodes_grow ns)

equations_few : (k : ℕ) (ns : List Node) → length (each node ns []) ≤ k → All (λ m. length m.eqs ≤ k) (map node_tree ns)
equations_few k [] few = All-nil (λ m. length m.eqs ≤ k)
equations_few k (n ∷ ns) few =
    let grows = node_grows n (each node ns []) in
    let f : List ℕ × Form → List ℕ × Tm = λ e. (e.0, meaning e.1) in
    let same = length-map n.eqs f in
    All-cons (λ m. length m.eqs ≤ k) (node_tree n) (map node_tree ns) (omega (arith, grows, few, same)) (equations_few k ns (omega (arith, grows, few)))

-- a text has as many functions and equations as bytes, or fewer
pub spelled_few : (limit : ℕ) (bytes : List ℕ) (t : List NodeText) → Spells limit bytes t → IsFew (length bytes) t
spelled_few limit bytes t spelled =
    let ns = spelled.program.nodes in
    let short : length (each node ns []) ≤ length bytes = omega (arith, cuts_few spelled.tokens bytes spelled.rest spelled.cut, ap length spelled.program.spelled) in
    let few : IsFew (length bytes) (map node_tree ns) = record {
      functions = omega (arith, nodes_grow ns, short, length-map ns node_tree);
      equations = equations_few (length bytes) ns short;
    } in
    subst (λ (u : List NodeText). IsFew (length bytes) u) spelled.program.meant few
