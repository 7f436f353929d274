-- What is spelled can be written: its names are names, and its numbers are numbers of the language.
use Rattle.std.proofs.Common.{◌≡◌, ℕ, zero, suc, ◌+◌, ◌≤◌, Bool, true, false, List, [], ◌∷◌, length, codes, ◌==◌, nat_le, Option, Some, None, pos, negsuc, if◌then◌else◌, refl, sym, ap, ◌∙◌, subst, arith}
use Rattle.lt_base.specs.declared.operators.Bin.TheVariants.{Sub, Add, Mul, Eq, Lt, Gt}
use Rattle.lt_base.specs.declared.operators.Un.TheVariants.{Neg, Not}
use Rattle.lt_base.specs.declared.value.Value.{Value}
use Rattle.lt_base.specs.declared.value.Value.TheVariants.{Int, Bool as Truth}
use Rattle.lt_base.specs.declared.value.Ty.TheVariants as ty
use Rattle.lt_tokens.specs.declared.token.Infix.{Infix}
use Rattle.lt_tokens.specs.declared.token.Infix.TheVariants.{Operator, Fby, Arrow}
use Rattle.lt_tokens.specs.declared.token.Token.{Token}
use Rattle.lt_tokens.specs.declared.token.Token.TheVariants as token
use Rattle.lt_base.specs.Digits.{is_digit, read_on}
use Rattle.lt_tokens.specs.Text.{Front, Begins, greatest_number, skip, front, is_word, Cuts}
use Rattle.lt_syntax.specs.Tree as tree
use Rattle.lt_syntax.specs.Tree.{Tm, Tms}
use Rattle.lt_syntax.specs.Levels.{infix_line, left_level, right_level}
use Rattle.lt_syntax.specs.Grammar.{Form, Forms, number, truth, name, paren, minus, negated, binary, choice, sampled, merged, call, nil, cons, IsAt, AreExprs, tokens, arguments, literal, joined, meaning, meanings}
use Rattle.lt_print.specs.Canonical.{parenthesized, value_form, guarded_literal, led, level_of, bare, all_bare, placed}
use Rattle.lt_print.proofs.Written.{AllPass, IsIdent, GoodValue, GoodLit, Good, AllGood}
use Rattle.lt_print.proofs.Lexed.{own}
use Rattle.std.proofs.Common.{leb-true, ◌||◌, bytes_eq, take, cond, drop}
use Rattle.std.specs.List.{prefix_len, take_while}
use Rattle.lt_tokens.specs.Words.{declaring, forming, joining, keyword_or, word_of}
use Rattle.lt_tokens.specs.Text.{is_letter, span, word, number as number_of, symbol, symbol_of, pair, single, BadNumber}
use Rattle.lt_print.proofs.Written.{placed_at}
use Rattle.lt_print.proofs.Texts.{GoodForm, GoodForms}

good_value : (v : Value) → GoodValue v → GoodForm (value_form v)
good_value (Int (pos n)) g = g
good_value (Int (negsuc n)) g = (g, omega arith)
good_value (Truth b) g = tt

good_lit : (v : Value) → GoodLit v → GoodForm (value_form v)
good_lit (Int (pos n)) g = g
good_lit (Int (negsuc n)) g = absurd g
good_lit (Truth b) g = tt

within_good : (l own : ℕ) (a : Form) → GoodForm a → GoodForm (parenthesized l own a)
within_good l own a g = elim (nat_le l own) as (λ t. GoodForm (if t then a else paren a)) [ true ↦ g | false ↦ g ]

led_good : (a : Form) → GoodForm a → GoodForm (led a)
led_good a g = elim (literal a) as (λ v. GoodForm (guarded_literal v a)) [ Some v ↦ g | None ↦ g ]

mutual
  pub good_bare : (t : Tm) → Good t → GoodForm (bare t)
  good_bare (tree.Lit v) g = good_lit v g
  good_bare (tree.Var x) g = g
  good_bare (tree.Unary Neg a) g = (within_good 11 (level_of a) (bare a) (good_bare a g), placed_at 11 a (omega arith) g)
  good_bare (tree.Unary Not a) g = within_good 5 (level_of a) (bare a) (good_bare a g)
  good_bare (tree.Binary o a b) g = (within_good (left_level (infix_line (Operator o))) (level_of a) (bare a) (good_bare a g.0), within_good (right_level (infix_line (Operator o))) (level_of b) (bare b) (good_bare b g.1))
  good_bare (tree.Choice c a b) g = (within_good 1 (level_of c) (bare c) (good_bare c g.0), within_good 1 (level_of a) (bare a) (good_bare a g.1), within_good 1 (level_of b) (bare b) (good_bare b g.2))
  good_bare (tree.Sampled a c b) g = (within_good 9 (level_of a) (bare a) (good_bare a g.0), g.1)
  good_bare (tree.Merged c a b) g = (g.0, within_good 12 (level_of a) (bare a) (good_bare a g.1), within_good 12 (level_of b) (bare b) (good_bare b g.2))
  good_bare (tree.Delayed v b) g = (good_value v g.0, within_good 1 (level_of b) (bare b) (good_bare b g.1))
  good_bare (tree.Followed a b) g = (led_good (placed 2 a) (within_good 2 (level_of a) (bare a) (good_bare a g.0)), within_good 1 (level_of b) (bare b) (good_bare b g.1))
  good_bare (tree.Arrow (tree.Lit v) b) g = (good_value v g.0, within_good 1 (level_of b) (bare b) (good_bare b g.1))
  good_bare (tree.Arrow a b) g = (led_good (placed 2 a) (within_good 2 (level_of a) (bare a) (good_bare a g.0)), within_good 1 (level_of b) (bare b) (good_bare b g.1))
  good_bare (tree.Call f xs) g = (g.0, good_all_bare xs g.1)

  good_all_bare : (xs : Tms) → AllGood xs → GoodForms (all_bare xs)
  good_all_bare tree.Nil g = tt
  good_all_bare (tree.Cons a xs) g = (within_good 1 (level_of a) (bare a) (good_bare a g.0), good_all_bare xs g.1)

pub good_placed : (l : ℕ) (t : Tm) → Good t → GoodForm (placed l t)
good_placed l t g = within_good l (level_of t) (bare t) (good_bare t g)

-- a literal's value
abbrev GoodLead : Option Value → Type 0
GoodLead (Some v) = GoodValue v
GoodLead None = Unit {0}

good_literal : (a : Form) → GoodForm a → GoodLead (literal a)
good_literal (number n) g = g
good_literal (truth b) g = tt
good_literal (minus (number zero)) g = omega arith
good_literal (minus (number (suc n))) g = g.0
good_literal _ g = tt

lit_value : (v : Value) → GoodLit v → GoodValue v
lit_value (Int (pos n)) g = g
lit_value (Int (negsuc n)) g = absurd g
lit_value (Truth b) g = tt

arrow_good : (t u : Tm) → Good t → Good u → Good (tree.Arrow t u)
arrow_good (tree.Lit v) u g h = (lit_value v g, h)
arrow_good _ u g h = (g, h)

joined_good : (o : Infix) (v : Option Value) (a b : Tm) → GoodLead v → Good a → Good b → Good (joined o v a b)
joined_good (Operator o) v a b l g h = (g, h)
joined_good Fby (Some v) a b l g h = (l, h)
joined_good Fby None a b l g h = (g, h)
joined_good Arrow (Some v) a b l g h = (l, h)
joined_good Arrow None a b l g h = arrow_good a b g h

mutual
  pub good_meaning : (a : Form) → GoodForm a → Good (meaning a)
  good_meaning (number n) g = g
  good_meaning (truth b) g = tt
  good_meaning (name x) g = g
  good_meaning (paren a) g = good_meaning a g
  good_meaning (minus a) g = good_meaning a g.0
  good_meaning (negated a) g = good_meaning a g
  good_meaning (binary o a b) g = joined_good o (literal a) (meaning a) (meaning b) (good_literal a g.0) (good_meaning a g.0) (good_meaning b g.1)
  good_meaning (choice c a b) g = (good_meaning c g.0, good_meaning a g.1, good_meaning b g.2)
  good_meaning (sampled a c b) g = (good_meaning a g.0, g.1)
  good_meaning (merged c a b) g = (g.0, good_meaning a g.1, good_meaning b g.2)
  good_meaning (call f xs) g = (g.0, good_meanings xs g.1)

  good_meanings : (xs : Forms) → GoodForms xs → AllGood (meanings xs)
  good_meanings nil g = tt
  good_meanings (cons a xs) g = (good_meaning a g.0, good_meanings xs g.1)

-- tokens that bytes give
abbrev pub GoodToken : Token → Type 0
GoodToken (token.Ident x) = IsIdent x
GoodToken (token.Number n) = n ≤ greatest_number
GoodToken _ = Unit {0}

abbrev pub AllTokens : List Token → Type 0
AllTokens [] = Unit {0}
AllTokens (t ∷ ts) = GoodToken t × AllTokens ts

mutual
  pub tokens_good : (l : ℕ) (a : Form) → IsAt l a → (ts : List Token) → AllTokens (tokens a ts) → GoodForm a × AllTokens ts
  tokens_good l (number n) at ts g = g
  tokens_good l (truth b) at ts g = g
  tokens_good l (name x) at ts g = g
  tokens_good l (paren a) at ts g = let d = tokens_good 1 a at.1 (token.Close ∷ ts) g.1 in (d.0, d.1.1)
  tokens_good l (minus a) at ts g = let d = tokens_good 11 a at.1 ts g.1 in ((d.0, at.1), d.1)
  tokens_good l (negated a) at ts g = tokens_good 5 a at.1 ts g.1
  tokens_good l (binary o a b) at ts g =
      let d = tokens_good (left_level (infix_line o)) a at.1 (token.Infix o ∷ tokens b ts) g in
      let e = tokens_good (right_level (infix_line o)) b at.2 ts d.1.1 in
      ((d.0, e.0), e.1)
  tokens_good l (choice c a b) at ts g =
      let d = tokens_good 1 c at.1 (token.Then ∷ tokens a (token.Else ∷ tokens b ts)) g.1 in
      let e = tokens_good 1 a at.2 (token.Else ∷ tokens b ts) d.1.1 in
      let f = tokens_good 1 b at.3 ts e.1.1 in
      ((d.0, e.0, f.0), f.1)
  tokens_good l (sampled a c true) at ts g = let d = tokens_good 9 a at.1 (token.When ∷ token.Ident c ∷ ts) g in ((d.0, d.1.1.0), d.1.1.1)
  tokens_good l (sampled a c false) at ts g = let d = tokens_good 9 a at.1 (token.When ∷ token.Not ∷ token.Ident c ∷ ts) g in ((d.0, d.1.1.1.0), d.1.1.1.1)
  tokens_good l (merged c a b) at ts g =
      let d = tokens_good 12 a at.1 (tokens b ts) g.1.1 in
      let e = tokens_good 12 b at.2 ts d.1 in
      ((g.1.0, d.0, e.0), e.1)
  tokens_good l (call f xs) at ts g = let d = arguments_good xs at.1 (token.Close ∷ ts) g.1.1 in ((g.0, d.0), d.1.1)

  arguments_good : (xs : Forms) → AreExprs xs → (ts : List Token) → AllTokens (arguments xs ts) → GoodForms xs × AllTokens ts
  arguments_good nil at ts g = (tt, g)
  arguments_good (cons a nil) at ts g = let d = tokens_good 1 a at.0 ts g in ((d.0, tt), d.1)
  arguments_good (cons a (cons b xs)) at ts g =
      let d = tokens_good 1 a at.0 (token.Comma ∷ arguments (cons b xs) ts) g in
      let e = arguments_good (cons b xs) at.1 ts d.1.1 in
      ((d.0, e.0), e.1)

-- a choice of two
pick : {A : Type 0} → (P : A → Type 0) (b : Bool) (x y : A) → P x → P y → P (if b then x else y)
pick P true x y p q = p
pick P false x y p q = q

-- a keyword is no name and no number
abbrev NoName : Option Token → Type 0
NoName (Some (token.Ident x)) = ⊥
NoName (Some (token.Number n)) = ⊥
NoName _ = Unit {0}

declaring_no : (s : List ℕ) → NoName (declaring s)
declaring_no s = pick NoName (bytes_eq s (codes "node")) (Some (token.Node)) (if bytes_eq s (codes "returns") then Some (token.Returns) else (if bytes_eq s (codes "var") then Some (token.Var) else (if bytes_eq s (codes "let") then Some (token.Let) else (if bytes_eq s (codes "tel") then Some (token.Tel) else (if bytes_eq s (codes "int") then Some (token.Type ty.Int) else (if bytes_eq s (codes "bool") then Some (token.Type ty.Bool) else (None))))))) tt (pick NoName (bytes_eq s (codes "returns")) (Some (token.Returns)) (if bytes_eq s (codes "var") then Some (token.Var) else (if bytes_eq s (codes "let") then Some (token.Let) else (if bytes_eq s (codes "tel") then Some (token.Tel) else (if bytes_eq s (codes "int") then Some (token.Type ty.Int) else (if bytes_eq s (codes "bool") then Some (token.Type ty.Bool) else (None)))))) tt (pick NoName (bytes_eq s (codes "var")) (Some (token.Var)) (if bytes_eq s (codes "let") then Some (token.Let) else (if bytes_eq s (codes "tel") then Some (token.Tel) else (if bytes_eq s (codes "int") then Some (token.Type ty.Int) else (if bytes_eq s (codes "bool") then Some (token.Type ty.Bool) else (None))))) tt (pick NoName (bytes_eq s (codes "let")) (Some (token.Let)) (if bytes_eq s (codes "tel") then Some (token.Tel) else (if bytes_eq s (codes "int") then Some (token.Type ty.Int) else (if bytes_eq s (codes "bool") then Some (token.Type ty.Bool) else (None)))) tt (pick NoName (bytes_eq s (codes "tel")) (Some (token.Tel)) (if bytes_eq s (codes "int") then Some (token.Type ty.Int) else (if bytes_eq s (codes "bool") then Some (token.Type ty.Bool) else (None))) tt (pick NoName (bytes_eq s (codes "int")) (Some (token.Type ty.Int)) (if bytes_eq s (codes "bool") then Some (token.Type ty.Bool) else (None)) tt (pick NoName (bytes_eq s (codes "bool")) (Some (token.Type ty.Bool)) (None) tt (tt)))))))

forming_no : (s : List ℕ) → NoName (forming s)
forming_no s = pick NoName (bytes_eq s (codes "true")) (Some (token.Truth true)) (if bytes_eq s (codes "false") then Some (token.Truth false) else (if bytes_eq s (codes "if") then Some (token.If) else (if bytes_eq s (codes "then") then Some (token.Then) else (if bytes_eq s (codes "else") then Some (token.Else) else (if bytes_eq s (codes "not") then Some (token.Not) else (if bytes_eq s (codes "when") then Some (token.When) else (if bytes_eq s (codes "merge") then Some (token.Merge) else (None)))))))) tt (pick NoName (bytes_eq s (codes "false")) (Some (token.Truth false)) (if bytes_eq s (codes "if") then Some (token.If) else (if bytes_eq s (codes "then") then Some (token.Then) else (if bytes_eq s (codes "else") then Some (token.Else) else (if bytes_eq s (codes "not") then Some (token.Not) else (if bytes_eq s (codes "when") then Some (token.When) else (if bytes_eq s (codes "merge") then Some (token.Merge) else (None))))))) tt (pick NoName (bytes_eq s (codes "if")) (Some (token.If)) (if bytes_eq s (codes "then") then Some (token.Then) else (if bytes_eq s (codes "else") then Some (token.Else) else (if bytes_eq s (codes "not") then Some (token.Not) else (if bytes_eq s (codes "when") then Some (token.When) else (if bytes_eq s (codes "merge") then Some (token.Merge) else (None)))))) tt (pick NoName (bytes_eq s (codes "then")) (Some (token.Then)) (if bytes_eq s (codes "else") then Some (token.Else) else (if bytes_eq s (codes "not") then Some (token.Not) else (if bytes_eq s (codes "when") then Some (token.When) else (if bytes_eq s (codes "merge") then Some (token.Merge) else (None))))) tt (pick NoName (bytes_eq s (codes "else")) (Some (token.Else)) (if bytes_eq s (codes "not") then Some (token.Not) else (if bytes_eq s (codes "when") then Some (token.When) else (if bytes_eq s (codes "merge") then Some (token.Merge) else (None)))) tt (pick NoName (bytes_eq s (codes "not")) (Some (token.Not)) (if bytes_eq s (codes "when") then Some (token.When) else (if bytes_eq s (codes "merge") then Some (token.Merge) else (None))) tt (pick NoName (bytes_eq s (codes "when")) (Some (token.When)) (if bytes_eq s (codes "merge") then Some (token.Merge) else (None)) tt (pick NoName (bytes_eq s (codes "merge")) (Some (token.Merge)) (None) tt (tt))))))))

-- a word is a keyword or its own name
abbrev IsWordOf : List ℕ → Token → Type 0
IsWordOf s (token.Ident x) = x ≡ s
IsWordOf s (token.Number n) = ⊥
IsWordOf s _ = Unit {0}

keyword_is : (a b : Option Token) (c : Option Infix) (s : List ℕ) → NoName a → NoName b → IsWordOf s (keyword_or a b c s)
keyword_is (Some t) b c s p q = from t p
  where
    from : (t : Token) → NoName (Some t) → IsWordOf s t
    from (token.Ident x) p = absurd p
    from (token.Number n) p = absurd p
    from _ p = tt
keyword_is None (Some t) c s p q = from t q
  where
    from : (t : Token) → NoName (Some t) → IsWordOf s t
    from (token.Ident x) p = absurd p
    from (token.Number n) p = absurd p
    from _ p = tt
keyword_is None None (Some o) s p q = tt
keyword_is None None None s p q = refl

good_word : (s : List ℕ) (b : ℕ) (w : List ℕ) → s ≡ b ∷ w → is_letter b ≡ true → AllPass is_word w → GoodToken (word_of s)
good_word s b w e l a =
    elim (word_of s) as (λ t. word_of s ≡ t → IsWordOf s t → GoodToken t) [
      | token.Ident x ↦ λ q i. subst IsIdent (sym (i ∙ e)) (l, a, subst (λ z. word_of z ≡ token.Ident z) e (q ∙ ap token.Ident i))
      | token.Number n ↦ λ q i. absurd i
      | _ ↦ λ q i. tt
    ] refl (keyword_is (declaring s) (forming s) (joining s) s (declaring_no s) (forming_no s))

-- the longest front that passes
passing : (p : ℕ → Bool) (bs : List ℕ) → AllPass p (take_while p bs)
passing p [] = tt
passing p (b ∷ bs) =
    elim (p b) as (λ t. p b ≡ t → AllPass p (take (cond t (1 + prefix_len p bs) 0) (b ∷ bs))) [
      | true ↦ λ e. subst (λ n. AllPass p (take n (b ∷ bs))) (suc_is (prefix_len p bs)) (e, passing p bs)
      | false ↦ λ e. tt
    ] refl
  where
    suc_is : (n : ℕ) → suc n ≡ 1 + n
    suc_is n = omega arith

taken : (p : ℕ → Bool) (b : ℕ) (bs : List ℕ) → p b ≡ true → take_while p (b ∷ bs) ≡ b ∷ take_while p bs
taken p b bs e =
    ap (λ t. take (cond t (1 + prefix_len p bs) 0) (b ∷ bs)) e ∙ ap (λ n. take n (b ∷ bs)) (one_more (prefix_len p bs))
  where
    one_more : (n : ℕ) → 1 + n ≡ suc n
    one_more n = omega arith

abbrev GoodFront : Front → Type 0
GoodFront (Begins t r) = GoodToken t
GoodFront _ = Unit {0}

good_number : (s r : List ℕ) → GoodFront (number_of s r)
good_number s r =
    elim (nat_le (read_on 0 s) greatest_number) as (λ t. nat_le (read_on 0 s) greatest_number ≡ t → GoodFront (if t then Begins (token.Number (read_on 0 s)) r else BadNumber)) [
      | true ↦ λ e. leb-true (read_on 0 s) greatest_number e
      | false ↦ λ e. tt
    ] refl

abbrev GoodSingle : Option Token → Type 0
GoodSingle (Some t) = GoodToken t
GoodSingle None = Unit {0}

single_good : (b : ℕ) → GoodSingle (single b)
single_good b = pick GoodSingle (b == 61) (Some (token.Infix (Operator Eq))) (if b == 60 then Some (token.Infix (Operator Lt)) else (if b == 62 then Some (token.Infix (Operator Gt)) else (if b == 43 then Some (token.Infix (Operator Add)) else (if b == 45 then Some (token.Infix (Operator Sub)) else (if b == 42 then Some (token.Infix (Operator Mul)) else (if b == 40 then Some (token.Open) else (if b == 41 then Some (token.Close) else (if b == 44 then Some (token.Comma) else (if b == 59 then Some (token.Semicolon) else (if b == 58 then Some (token.Colon) else (None))))))))))) tt (pick GoodSingle (b == 60) (Some (token.Infix (Operator Lt))) (if b == 62 then Some (token.Infix (Operator Gt)) else (if b == 43 then Some (token.Infix (Operator Add)) else (if b == 45 then Some (token.Infix (Operator Sub)) else (if b == 42 then Some (token.Infix (Operator Mul)) else (if b == 40 then Some (token.Open) else (if b == 41 then Some (token.Close) else (if b == 44 then Some (token.Comma) else (if b == 59 then Some (token.Semicolon) else (if b == 58 then Some (token.Colon) else (None)))))))))) tt (pick GoodSingle (b == 62) (Some (token.Infix (Operator Gt))) (if b == 43 then Some (token.Infix (Operator Add)) else (if b == 45 then Some (token.Infix (Operator Sub)) else (if b == 42 then Some (token.Infix (Operator Mul)) else (if b == 40 then Some (token.Open) else (if b == 41 then Some (token.Close) else (if b == 44 then Some (token.Comma) else (if b == 59 then Some (token.Semicolon) else (if b == 58 then Some (token.Colon) else (None))))))))) tt (pick GoodSingle (b == 43) (Some (token.Infix (Operator Add))) (if b == 45 then Some (token.Infix (Operator Sub)) else (if b == 42 then Some (token.Infix (Operator Mul)) else (if b == 40 then Some (token.Open) else (if b == 41 then Some (token.Close) else (if b == 44 then Some (token.Comma) else (if b == 59 then Some (token.Semicolon) else (if b == 58 then Some (token.Colon) else (None)))))))) tt (pick GoodSingle (b == 45) (Some (token.Infix (Operator Sub))) (if b == 42 then Some (token.Infix (Operator Mul)) else (if b == 40 then Some (token.Open) else (if b == 41 then Some (token.Close) else (if b == 44 then Some (token.Comma) else (if b == 59 then Some (token.Semicolon) else (if b == 58 then Some (token.Colon) else (None))))))) tt (pick GoodSingle (b == 42) (Some (token.Infix (Operator Mul))) (if b == 40 then Some (token.Open) else (if b == 41 then Some (token.Close) else (if b == 44 then Some (token.Comma) else (if b == 59 then Some (token.Semicolon) else (if b == 58 then Some (token.Colon) else (None)))))) tt (pick GoodSingle (b == 40) (Some (token.Open)) (if b == 41 then Some (token.Close) else (if b == 44 then Some (token.Comma) else (if b == 59 then Some (token.Semicolon) else (if b == 58 then Some (token.Colon) else (None))))) tt (pick GoodSingle (b == 41) (Some (token.Close)) (if b == 44 then Some (token.Comma) else (if b == 59 then Some (token.Semicolon) else (if b == 58 then Some (token.Colon) else (None)))) tt (pick GoodSingle (b == 44) (Some (token.Comma)) (if b == 59 then Some (token.Semicolon) else (if b == 58 then Some (token.Colon) else (None))) tt (pick GoodSingle (b == 59) (Some (token.Semicolon)) (if b == 58 then Some (token.Colon) else (None)) tt (pick GoodSingle (b == 58) (Some (token.Colon)) (None) tt (tt)))))))))))

symbol_good : (o : Option Infix) (t : Option Token) (bs : List ℕ) → GoodSingle t → GoodFront (symbol_of o t bs)
symbol_good (Some o) t bs g = tt
symbol_good None (Some t) bs g = g
symbol_good None None bs g = tt

front_good : (bs : List ℕ) → GoodFront (front bs)
front_good [] = tt
front_good (b ∷ bs) =
    elim (is_letter b) as (λ t. is_letter b ≡ t → GoodFront (if t then span is_word (b ∷ bs) word else (if is_digit b then span is_digit (b ∷ bs) number_of else symbol b bs))) [
      | true ↦ λ e. good_word (take_while is_word (b ∷ bs)) b (take_while is_word bs) (taken is_word b bs (ap (λ z. z || is_digit b) e)) e (passing is_word bs)
      | false ↦ λ e. elim (is_digit b) as (λ t. GoodFront (if t then span is_digit (b ∷ bs) number_of else symbol b bs)) [
        | true ↦ good_number (take_while is_digit (b ∷ bs)) (drop (length (take_while is_digit (b ∷ bs))) (b ∷ bs))
        | false ↦ symbol_good (pair b bs) (single b) bs (single_good b)
      ]
    ] refl

pub cuts_good : (ts : List Token) (bytes rest : List ℕ) → Cuts bytes ts rest → AllTokens ts
cuts_good [] bytes rest c = tt
cuts_good (t ∷ ts) bytes rest c = (subst GoodFront c.1 (front_good (skip bytes)), cuts_good ts c.0 rest c.2)
