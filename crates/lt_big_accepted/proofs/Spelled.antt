-- The text of the program is cut into tokens, which are a program with the tree.
use Rattle.std.proofs.Common.{◌≡◌, ℕ, zero, suc, false, List, [], ◌∷◌, codes, refl, subst, lit≤}
use Rattle.lt_base.specs.declared.operators.Bin.TheVariants.{Add}
use Rattle.lt_base.specs.declared.value.Ty.TheVariants as ty
use Rattle.lt_tokens.specs.declared.token.Infix.TheVariants.{Operator, Fby}
use Rattle.lt_tokens.specs.declared.token.Token.{Token}
use Rattle.lt_tokens.specs.Text.{Front, Over, Begins, BadByte, BadNumber, front, skip, Cuts}
use Rattle.lt_syntax.specs.Grammar.{Form, number, name, paren, binary}
use Rattle.lt_syntax.specs.Program.{Group, Node, each, node, Each, IsEquation, IsNode}
use Rattle.lt_big_texts.specs.Texts.{program_text}
use Rattle.lt_big_accepted.specs.Program.{ring_names, ProgramSpelled}

-- the tokens that are cut off first, that many at most, and the rest
abbrev cut_front : Front → List ℕ → (List ℕ → List Token × List ℕ) → List Token × List ℕ
cut_front (Begins t after) bytes more = (t ∷ (more after).0, (more after).1)
cut_front Over bytes more = ([], bytes)
cut_front BadByte bytes more = ([], bytes)
cut_front BadNumber bytes more = ([], bytes)

abbrev cut_off : ℕ → List ℕ → List Token × List ℕ
cut_off zero bytes = ([], bytes)
cut_off (suc n) bytes = cut_front (front (skip bytes)) bytes (cut_off n)

cut_by : (n : ℕ) (bytes : List ℕ) → ((more : List ℕ) → Cuts more (cut_off n more).0 (cut_off n more).1) → (f : Front) → front (skip bytes) ≡ f
    → Cuts bytes (cut_front f bytes (cut_off n)).0 (cut_front f bytes (cut_off n)).1
cut_by n bytes later (Begins t after) is = (after, is, later after)
cut_by n bytes later Over is = refl
cut_by n bytes later BadByte is = refl
cut_by n bytes later BadNumber is = refl

cuts : (n : ℕ) (bytes : List ℕ) → Cuts bytes (cut_off n bytes).0 (cut_off n bytes).1
cuts zero bytes = refl
cuts (suc n) bytes = cut_by n bytes (cuts n) (front (skip bytes)) refl

-- the node as it is written
abbrev ints : List (List ℕ) → Group
ints names = record { names = names; ty = ty.Int; clock = [] }

abbrev sum_form : Form → List ℕ → Form
sum_form added y = binary (Operator Add) added (paren (binary Fby (number 0) (name y)))

abbrev one_form : List ℕ → Form
one_form y = sum_form (number 1) y

abbrev written : Node
written = record {
  name = codes "main";
  ins = ints (codes "x" ∷ []) ∷ [];
  outs = ints ring_names ∷ [];
  semicolon = false;
  locals = [];
  eqs = (codes "y0", sum_form (name (codes "x")) (codes "y7"))
      ∷ (codes "y1", one_form (codes "y0"))
      ∷ (codes "y2", one_form (codes "y1"))
      ∷ (codes "y3", one_form (codes "y2"))
      ∷ (codes "y4", one_form (codes "y3"))
      ∷ (codes "y5", one_form (codes "y4"))
      ∷ (codes "y6", one_form (codes "y5"))
      ∷ (codes "y7", one_form (codes "y6"))
      ∷ [];
  last = false;
}

abbrev written_tokens : List Token
written_tokens = each node (written ∷ []) []

text_cut : cut_off 200 program_text ≡ (written_tokens, 10 ∷ [])
text_cut = refl

program_cut : Cuts program_text written_tokens (10 ∷ [])
program_cut = subst (λ (p : List Token × List ℕ). Cuts program_text p.0 p.1) text_cut (cuts 200 program_text)

one_low : (y z : List ℕ) → IsEquation 200 (y, one_form z)
one_low y z = ((lit≤ tt, lit≤ tt, (lit≤ tt, (lit≤ tt, lit≤ tt, lit≤ tt))), lit≤ tt)

first_low : IsEquation 200 (codes "y0", sum_form (name (codes "x")) (codes "y7"))
first_low = ((lit≤ tt, lit≤ tt, (lit≤ tt, (lit≤ tt, lit≤ tt, lit≤ tt))), lit≤ tt)

equations_low : Each (IsEquation 200) written.eqs
equations_low = (
  first_low,
  (
    one_low (codes "y1") (codes "y0"),
    (
      one_low (codes "y2") (codes "y1"),
      (
        one_low (codes "y3") (codes "y2"),
        (one_low (codes "y4") (codes "y3"), (one_low (codes "y5") (codes "y4"), (one_low (codes "y6") (codes "y5"), (one_low (codes "y7") (codes "y6"), tt)))),
      ),
    ),
  ),
)

low : IsNode 200 written
low = (((tt, refl), tt), tt, (tt, tt), tt, equations_low)

pub program_spelled : ProgramSpelled
program_spelled = record {
  tokens = written_tokens;
  rest = 10 ∷ [];
  cut = program_cut;
  ended = refl;
  program = record { nodes = written ∷ []; some = tt; good = (low, tt); spelled = refl; meant = refl };
}
