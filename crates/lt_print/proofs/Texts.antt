-- The bytes of a form are cut into its tokens, and the canonical form of a term that can be written is such a form.
use Rattle.std.proofs.Common.{◌≡◌, ℕ, ◌≤◌, ◌<◌, Bool, true, false, List, [], ◌∷◌, ◌++◌, length, codes, decimal, ◌==◌, refl, sym, ap, ◌∙◌, subst, arith, append_assoc}
use Rattle.lt_base.specs.declared.operators.Bin.TheVariants.{Sub, Add, Mul, Div, Mod, Eq, Ne, Lt, Le, Gt, Ge, And, Or, Xor, Implies}
use Rattle.lt_tokens.specs.declared.token.Infix.{Infix}
use Rattle.lt_tokens.specs.declared.token.Infix.TheVariants.{Operator, Fby, Arrow}
use Rattle.lt_tokens.specs.declared.token.Token.{Token}
use Rattle.lt_tokens.specs.declared.token.Token.TheVariants as token
use Rattle.std.proofs.lemmas.Fmt.{digits_decimal, decimal_nonempty}
use Rattle.lt_tokens.specs.Text as lexer
use Rattle.lt_base.specs.Digits.{is_digit}
use Rattle.lt_tokens.specs.Text.{Front, Begins, greatest_number, skip, front, is_word, Cuts}
use Rattle.lt_syntax.specs.Levels.{infix_line}
use Rattle.lt_syntax.specs.Grammar.{Form, Forms, number, truth, name, paren, minus, negated, binary, choice, sampled, merged, call, nil, cons, IsAt, polarity, tokens, arguments}
use Rattle.lt_print.specs.Canonical.{operator, truth_text, when_text, text, texts}
use Rattle.lt_syntax.proofs.Complete.{table}
use Rattle.lt_print.proofs.Written.{AllPass, IsIdent}
use Rattle.lt_print.proofs.Lexed.{Stops, letter_plain, digit_plain, ident_front, number_front, open_front, close_front, comma_front, minus_front, own, small, span_stops, halts_word}

-- the names and numbers of a form can be read
abbrev mutual
  pub GoodForm : Form → Type 0
  GoodForm (number n) = n ≤ greatest_number
  GoodForm (truth b) = Unit {0}
  GoodForm (name x) = IsIdent x
  GoodForm (paren a) = GoodForm a
  GoodForm (minus a) = GoodForm a × IsAt 11 a
  GoodForm (negated a) = GoodForm a
  GoodForm (binary o a b) = GoodForm a × GoodForm b
  GoodForm (choice c a b) = GoodForm c × GoodForm a × GoodForm b
  GoodForm (sampled a c b) = GoodForm a × IsIdent c
  GoodForm (merged c a b) = IsIdent c × GoodForm a × GoodForm b
  GoodForm (call f xs) = IsIdent f × GoodForms xs

  pub GoodForms : Forms → Type 0
  GoodForms nil = Unit {0}
  GoodForms (cons a xs) = GoodForm a × GoodForms xs

-- the bytes are cut into the tokens, where the rest is
abbrev pub Reads : Form → Type 0
Reads a = (r : List ℕ) (ts : List Token) (rest : List ℕ) → Stops r → Cuts r ts rest → Cuts (text a ++ r) (tokens a ts) rest

-- there is a token
pub record Nonempty (ts : List Token) : Type 0 where
  pub head : Token
  pub tail : List Token
  pub is : ts ≡ head ∷ tail

pub some : (a : Form) (ts : List Token) → Nonempty (tokens a ts)
some (number n) ts = record { head = token.Number n; tail = ts; is = refl }
some (truth b) ts = record { head = token.Truth b; tail = ts; is = refl }
some (name x) ts = record { head = token.Ident x; tail = ts; is = refl }
some (paren a) ts = record { head = token.Open; tail = tokens a (token.Close ∷ ts); is = refl }
some (minus a) ts = record { head = token.Infix (Operator Sub); tail = tokens a ts; is = refl }
some (negated a) ts = record { head = token.Not; tail = tokens a ts; is = refl }
some (binary o a b) ts = some a (token.Infix o ∷ tokens b ts)
some (choice c a b) ts = record { head = token.If; tail = tokens c (token.Then ∷ tokens a (token.Else ∷ tokens b ts)); is = refl }
some (sampled a c b) ts = some a (token.When ∷ polarity b (token.Ident c ∷ ts))
some (merged c a b) ts = record { head = token.Merge; tail = token.Ident c ∷ tokens a (tokens b ts); is = refl }
some (call f xs) ts = record { head = token.Ident f; tail = token.Open ∷ arguments xs (token.Close ∷ ts); is = refl }

-- a space before a token is skipped
pub blank : (ts : List Token) → Nonempty ts → (r rest : List ℕ) → Cuts r ts rest → Cuts (32 ∷ r) ts rest
blank ts n r rest c = subst (λ z. Cuts (32 ∷ r) z rest) (sym n.is) (subst (λ z. Cuts r z rest) n.is c)

pub blank_form : (a : Form) (ts : List Token) (r rest : List ℕ) → Cuts r (tokens a ts) rest → Cuts (32 ∷ r) (tokens a ts) rest
blank_form a ts r rest c = blank (tokens a ts) (some a ts) r rest c

-- the bytes in another grouping
regroup : (a b r : List ℕ) (ts : List Token) (rest : List ℕ) → Cuts (a ++ (b ++ r)) ts rest → Cuts ((a ++ b) ++ r) ts rest
regroup a b r ts rest c = subst (λ z. Cuts z ts rest) (sym (append_assoc a b r)) c

operator_front : (o : Infix) (u r : List ℕ) → front (skip ((operator o ++ (codes " " ++ u)) ++ r)) ≡ Begins (token.Infix o) (32 ∷ (u ++ r))
operator_front Fby u r = refl
operator_front Arrow u r = refl
operator_front (Operator Add) u r = refl
operator_front (Operator Sub) u r = refl
operator_front (Operator Mul) u r = refl
operator_front (Operator Div) u r = refl
operator_front (Operator Mod) u r = refl
operator_front (Operator Eq) u r = refl
operator_front (Operator Ne) u r = refl
operator_front (Operator Lt) u r = refl
operator_front (Operator Le) u r = refl
operator_front (Operator Gt) u r = refl
operator_front (Operator Ge) u r = refl
operator_front (Operator And) u r = refl
operator_front (Operator Or) u r = refl
operator_front (Operator Xor) u r = refl
operator_front (Operator Implies) u r = refl

reads_paren : (a : Form) → Reads a → Reads (paren a)
reads_paren a ra r ts rest s c = ((text a ++ codes ")") ++ r, open_front _, regroup (text a) (codes ")") r (tokens a (token.Close ∷ ts)) rest (ra (41 ∷ r) (token.Close ∷ ts) rest refl (r, close_front r, c)))

reads_negated : (a : Form) → Reads a → Reads (negated a)
reads_negated a ra r ts rest s c = (32 ∷ (text a ++ r), refl, blank_form a ts (text a ++ r) rest (ra r ts rest s c))

reads_binary : (o : Infix) (a b : Form) → Reads a → Reads b → Reads (binary o a b)
reads_binary o a b ra rb r ts rest s c =
    let u = operator o ++ (codes " " ++ text b) in
    regroup (text a) (codes " " ++ u) r (tokens (binary o a b) ts) rest
    (ra ((codes " " ++ u) ++ r) (token.Infix o ∷ tokens b ts) rest refl
    (32 ∷ (text b ++ r), operator_front o (text b) r, blank_form b ts (text b ++ r) rest (rb r ts rest s c)))

reads_choice : (d a b : Form) → Reads d → Reads a → Reads b → Reads (choice d a b)
reads_choice d a b rd ra rb r ts rest s c =
    let v = codes " else " ++ text b in
    let u = codes " then " ++ (text a ++ v) in (
      32 ∷ ((text d ++ u) ++ r),
      refl,
      blank_form d (token.Then ∷ tokens a (token.Else ∷ tokens b ts)) ((text d ++ u) ++ r) rest
          (regroup (text d) u r _ rest
          (rd (u ++ r) (token.Then ∷ tokens a (token.Else ∷ tokens b ts)) rest refl (
            32 ∷ ((text a ++ v) ++ r),
            refl,
            blank_form a (token.Else ∷ tokens b ts) ((text a ++ v) ++ r) rest
                (regroup (text a) v r _ rest
                (ra (v ++ r) (token.Else ∷ tokens b ts) rest refl
                (32 ∷ (text b ++ r), refl, blank_form b ts (text b ++ r) rest (rb r ts rest s c)))),
          ))),
    )

reads_sampled : (a : Form) (x : List ℕ) (b : Bool) → IsIdent x → Reads a → Reads (sampled a x b)
reads_sampled a x true i ra r ts rest s c =
    regroup (text a) (when_text x true) r (tokens (sampled a x true) ts) rest
    (ra (when_text x true ++ r) (token.When ∷ token.Ident x ∷ ts) rest refl (32 ∷ (x ++ r), refl, (r, ident_front x r i s, c)))
reads_sampled a x false i ra r ts rest s c =
    regroup (text a) (when_text x false) r (tokens (sampled a x false) ts) rest
    (ra (when_text x false ++ r) (token.When ∷ token.Not ∷ token.Ident x ∷ ts) rest refl (codes " not " ++ (x ++ r), refl, (32 ∷ (x ++ r), refl, (r, ident_front x r i s, c))))

reads_merged : (x : List ℕ) (a b : Form) → IsIdent x → Reads a → Reads b → Reads (merged x a b)
reads_merged x a b i ra rb r ts rest s c =
    let v = codes " " ++ text b in
    let u = codes " " ++ (text a ++ v) in (
      32 ∷ ((x ++ u) ++ r),
      refl,
      (
        u ++ r,
        ap (λ z. front (skip z)) (append_assoc x u r) ∙ ident_front x (u ++ r) i refl,
        blank_form a (tokens b ts) ((text a ++ v) ++ r) rest
            (regroup (text a) v r (tokens a (tokens b ts)) rest
            (ra (v ++ r) (tokens b ts) rest refl (blank_form b ts (text b ++ r) rest (rb r ts rest s c)))),
      ),
    )

abbrev AllReads : Forms → Type 0
AllReads nil = Unit {0}
AllReads (cons a xs) = Reads a × AllReads xs

reads_texts : (xs : Forms) → AllReads xs → (r : List ℕ) (ts : List Token) (rest : List ℕ) → Stops r → Cuts r ts rest → Cuts (texts xs ++ r) (arguments xs ts) rest
reads_texts nil rs r ts rest s c = c
reads_texts (cons a nil) rs r ts rest s c = rs.0 r ts rest s c
reads_texts (cons a (cons b xs)) rs r ts rest s c =
    let u = codes ", " ++ texts (cons b xs) in
    regroup (text a) u r (tokens a (token.Comma ∷ arguments (cons b xs) ts)) rest
    (rs.0 (u ++ r) (token.Comma ∷ arguments (cons b xs) ts) rest refl
    (32 ∷ (texts (cons b xs) ++ r), comma_front _, blank (arguments (cons b xs) ts) (some_argument b xs ts) (texts (cons b xs) ++ r) rest (reads_texts (cons b xs) rs.1 r ts rest s c)))
  where
    some_argument : (b : Form) (xs : Forms) (ts : List Token) → Nonempty (arguments (cons b xs) ts)
    some_argument b nil ts = some b ts
    some_argument b (cons d xs) ts = some b (token.Comma ∷ arguments (cons d xs) ts)

reads_call : (f : List ℕ) (xs : Forms) → IsIdent f → AllReads xs → Reads (call f xs)
reads_call f xs i rs r ts rest s c =
    let u = codes "(" ++ (texts xs ++ codes ")") in (
      u ++ r,
      ap (λ z. front (skip z)) (append_assoc f u r) ∙ ident_front f (u ++ r) i refl,
      (
        (texts xs ++ codes ")") ++ r,
        open_front _,
        regroup (texts xs) (codes ")") r (arguments xs (token.Close ∷ ts)) rest
            (reads_texts xs rs (41 ∷ r) (token.Close ∷ ts) rest refl (r, close_front r, c)),
      ),
    )

-- the first byte behind -
record Leads (u : List ℕ) : Type 0 where
  first : ℕ
  more : List ℕ
  is : u ≡ first ∷ more
  no_comment : (first == 45) ≡ false
  no_arrow : (first == 62) ≡ false

digits_lead : (u r : List ℕ) → AllPass is_digit u → 0 < length u → Leads (u ++ r)
digits_lead [] r a l = absurd (omega (arith, l))
digits_lead (b ∷ w) r a l = let p = digit_plain b a.0 in record { first = b; more = w ++ r; is = refl; no_comment = p.1; no_arrow = p.2 }

ident_leads : (x r : List ℕ) → IsIdent x → Leads (x ++ r)
ident_leads [] r i = absurd i
ident_leads (b ∷ w) r i = let p = letter_plain b i.0 in record { first = b; more = w ++ r; is = refl; no_comment = p.1; no_arrow = p.2 }

leads : (a : Form) → IsAt 11 a → GoodForm a → (r : List ℕ) → Leads (text a ++ r)
leads (number n) at g r = digits_lead (decimal n) r (digits_decimal own n (small n g)) (decimal_nonempty n (small n g))
leads (truth true) at g r = record { first = 116; more = codes "rue" ++ r; is = refl; no_comment = refl; no_arrow = refl }
leads (truth false) at g r = record { first = 102; more = codes "alse" ++ r; is = refl; no_comment = refl; no_arrow = refl }
leads (name x) at g r = ident_leads x r g
leads (paren a) at g r = record { first = 40; more = (text a ++ codes ")") ++ r; is = refl; no_comment = refl; no_arrow = refl }
leads (minus a) at g r = absurd (omega (arith, at.0))
leads (negated a) at g r = absurd (omega (arith, at.0))
leads (binary o a b) at g r = absurd (omega (arith, at.0, (table (infix_line o)).high))
leads (choice c a b) at g r = absurd (omega (arith, at.0))
leads (sampled a c b) at g r = absurd (omega (arith, at.0))
leads (merged x a b) at g r = record { first = 109; more = codes "erge " ++ ((x ++ (codes " " ++ (text a ++ (codes " " ++ text b)))) ++ r); is = refl; no_comment = refl; no_arrow = refl }
leads (call f xs) at g r = subst Leads (sym (append_assoc f (codes "(" ++ (texts xs ++ codes ")")) r)) (ident_leads f ((codes "(" ++ (texts xs ++ codes ")")) ++ r) g.0)

reads_minus : (a : Form) → IsAt 11 a → GoodForm a → Reads a → Reads (minus a)
reads_minus a at g ra r ts rest s c =
    let d = leads a at g r in
    (text a ++ r, ap (λ z. front (skip (45 ∷ z))) d.is ∙ minus_front d.first d.more d.no_comment d.no_arrow ∙ ap (λ z. Begins (token.Infix (Operator Sub)) z) (sym d.is), ra r ts rest s c)

truth_front : (b : Bool) (r : List ℕ) → Stops r → front (skip (truth_text b ++ r)) ≡ Begins (token.Truth b) r
truth_front true r s = span_stops is_word (codes "true") r lexer.word (refl, (refl, (refl, (refl, tt)))) (halts_word r s)
truth_front false r s = span_stops is_word (codes "false") r lexer.word (refl, (refl, (refl, (refl, (refl, tt))))) (halts_word r s)

mutual
  pub reads : (a : Form) → GoodForm a → Reads a
  reads (number n) g = λ r ts rest s c. (r, number_front n r g s, c)
  reads (truth b) g = λ r ts rest s c. (r, truth_front b r s, c)
  reads (name x) g = λ r ts rest s c. (r, ident_front x r g s, c)
  reads (paren a) g = reads_paren a (reads a g)
  reads (minus a) g = reads_minus a g.1 g.0 (reads a g.0)
  reads (negated a) g = reads_negated a (reads a g)
  reads (binary o a b) g = reads_binary o a b (reads a g.0) (reads b g.1)
  reads (choice d a b) g = reads_choice d a b (reads d g.0) (reads a g.1) (reads b g.2)
  reads (sampled a x b) g = reads_sampled a x b g.1 (reads a g.0)
  reads (merged x a b) g = reads_merged x a b g.0 (reads a g.1) (reads b g.2)
  reads (call f xs) g = reads_call f xs g.0 (all_reads xs g.1)

  all_reads : (xs : Forms) → GoodForms xs → AllReads xs
  all_reads nil g = tt
  all_reads (cons a xs) g = (reads a g.0, all_reads xs g.1)
