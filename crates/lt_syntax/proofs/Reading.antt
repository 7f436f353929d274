-- The loop over the bytes.
use Rattle.std.proofs.Common.{◌≡◌, ℕ, ◌+◌, ◌≤◌, List, [], ◌∷◌, ◌++◌, length, Result, Ok, Err, refl, sym, ap, ◌∙◌, subst, append-nil, append_assoc}
use Rattle.lt_base.specs.declared.memory.Or.{Or}
use Rattle.lt_base.specs.declared.memory.Or.TheVariants as or
use Rattle.lt_tokens.specs.declared.token.Token.{Token}
use Rattle.lt_tokens.specs.Text as text
use Rattle.lt_tokens.specs.Text.{Front, Cuts, front, skip}
use Rattle.lt_syntax.specs.declared.fault.SyntaxFault.{SyntaxFault}
use Rattle.lt_syntax.specs.declared.fault.SyntaxKind.{SyntaxKind}
use Rattle.lt_syntax.specs.declared.fault.SyntaxKind.TheVariants as kind
use Rattle.lt_syntax.specs.declared.tree.NodeText.{NodeText}
use Rattle.lt_syntax.specs.Program.{Program, Spells}
use Rattle.lt_syntax.specs.Faults.{ProgramBegins, ProgramOffends, IsFault}
use Rattle.lt_syntax.specs.Parser.{ParserState, Kind, Unexpected, TooDeep, parser_step, on, parser_run, parser_start}
use Rattle.lt_syntax.specs.Reads.{AnswersSyntax, FindsTree, syntax_kind, TextEnds, IsWrong}
use Rattle.lt_syntax.proofs.Whole.{run_on, begins_at, breaks_at, exceeds_at, program_at, none_at, one_tree}

-- one more token is cut off
pub cuts_more : (ts : List Token) (bytes r : List ℕ) (t : Token) (after : List ℕ) → Cuts bytes ts r → front (skip r) ≡ text.Begins t after → Cuts bytes (ts ++ t ∷ []) after
cuts_more [] bytes r t after h e = (after, ap (λ z. front (skip z)) (sym h) ∙ e, refl)
cuts_more (u ∷ ts) bytes r t after h e = (h.0, h.1, cuts_more ts h.0 r t after h.2 e)

-- the tokens up to here, and the state behind them
pub record SoFar (limit : ℕ) (bytes rest : List ℕ) (s : ParserState) : Type 0 where
  pub tokens : List Token
  pub cut : Cuts bytes tokens rest
  pub ran : parser_run limit parser_start tokens ≡ Ok s

pub nothing : (limit : ℕ) (bytes : List ℕ) → SoFar limit bytes bytes parser_start
nothing limit bytes = record { tokens = []; cut = refl; ran = refl }

pub goes : (limit : ℕ) (bytes rest : List ℕ) (s : ParserState) (t : Token) (after : List ℕ) (s' : ParserState) → SoFar limit bytes rest s → front (skip rest) ≡ text.Begins t after → parser_step limit s t ≡ Ok s' → SoFar limit bytes after s'
goes limit bytes rest s t after s' g f e = record {
  tokens = g.tokens ++ t ∷ [];
  cut = cuts_more g.tokens bytes rest t after g.cut f;
  ran = run_on limit g.tokens (t ∷ []) parser_start s g.ran ∙ ap (λ z. on z (λ s'. Ok s')) e;
}

module _ (limit : ℕ) (one : 1 ≤ limit) (bytes rest : List ℕ) (s : ParserState) (g : SoFar limit bytes rest s) where
  -- a fault at what stands here
  fault : (f : SyntaxFault) (n : Front) → front (skip rest) ≡ n → f.at + length (skip rest) ≡ length bytes → ProgramOffends limit f.kind g.tokens n → IsFault limit bytes f
  fault f n e p o = record { tokens = g.tokens; rest = rest; cut = g.cut; place = p; before = begins_at limit one g.tokens s g.ran; offends = subst (ProgramOffends limit f.kind g.tokens) (sym e) o }

  stops : (f : SyntaxFault) (t : Token) (after : List ℕ) (k : Kind) → front (skip rest) ≡ text.Begins t after → f.at + length (skip rest) ≡ length bytes → f.kind ≡ syntax_kind k → parser_step limit s t ≡ Err k → IsFault limit bytes f
  stops f t after Unexpected e p q r = fault f (text.Begins t after) e p (subst (λ z. ProgramOffends limit z g.tokens (text.Begins t after)) (sym q) (breaks_at limit one g.tokens s t g.ran r))
  stops f t after TooDeep e p q r = fault f (text.Begins t after) e p (subst (λ z. ProgramOffends limit z g.tokens (text.Begins t after)) (sym q) (exceeds_at limit one g.tokens s t g.ran r))

  pub wrong : (f : SyntaxFault) (n : Front) → front (skip rest) ≡ n → f.at + length (skip rest) ≡ length bytes → IsWrong limit s n f.kind → IsFault limit bytes f
  wrong f text.BadByte e p w = fault f text.BadByte e p (subst (λ z. ProgramOffends limit z g.tokens text.BadByte) (sym w) tt)
  wrong f text.BadNumber e p w = fault f text.BadNumber e p (subst (λ z. ProgramOffends limit z g.tokens text.BadNumber) (sym w) tt)
  wrong f text.Over e p w = fault f text.Over e p (subst (λ z. ProgramOffends limit z g.tokens text.Over) (sym w.0) (λ t q. none_at limit one g.tokens s g.ran (λ a b. w.1 (a, b)) t q))
  wrong f (text.Begins t after) e p w = stops f t after w.0 e p w.1 w.2

  pub over : TextEnds s → front (skip rest) ≡ text.Over → Spells limit bytes s.done
  over h e = record { tokens = g.tokens; rest = rest; cut = g.cut; ended = e; program = program_at limit one g.tokens s g.ran h.0 h.1 }

-- a text is cut in one way, also from a place in it
cuts_split : (ts us : List Token) (bytes r s : List ℕ) → Cuts bytes ts r → Cuts bytes us s → front (skip s) ≡ text.Over → (more : List Token) × (us ≡ ts ++ more) × Cuts r more s
cuts_split [] us bytes r s h k f = (us, refl, subst (λ z. Cuts z us s) (sym h) k)
cuts_split (t ∷ ts) [] bytes r s h k f = let a : front (skip bytes) ≡ text.Over = subst (λ z. front (skip z) ≡ text.Over) k f in let b = h.1 in cc
cuts_split (t ∷ ts) (u ∷ us) bytes r s h k f =
    let b = h.1 in
    let c = k.1 in
    let p : h.0 ≡ k.0 = cc in
    let q : t ≡ u = cc in
    let d = cuts_split ts us h.0 r s h.2 (subst (λ z. Cuts z us s) (sym p) k.2) f in
    (d.0, ap (λ z. u ∷ z) d.1 ∙ ap (λ z. z ∷ (ts ++ d.0)) (sym q), d.2)

-- what offends at the end is no program, and what offends at a token begins none
not_over : (limit : ℕ) (k : SyntaxKind) (ts : List Token) (t : List NodeText) → ProgramOffends limit k ts text.Over → Program limit ts t → ⊥
not_over limit kind.BadByte ts t o p = o
not_over limit kind.BadNumber ts t o p = o
not_over limit kind.Unexpected ts t o p = o t p
not_over limit kind.TooDeep ts t o p = o

not_token : (limit : ℕ) (k : SyntaxKind) (ts : List Token) (m : Token) (after : List ℕ) → ProgramOffends limit k ts (text.Begins m after) → ProgramBegins limit (ts ++ m ∷ []) → ⊥
not_token limit kind.BadByte ts m after o b = o
not_token limit kind.BadNumber ts m after o b = o
not_token limit kind.Unexpected ts m after o b = o limit b
not_token limit kind.TooDeep ts m after o b = o.0 b

excludes : (limit : ℕ) (k : SyntaxKind) (ts more : List Token) (r s : List ℕ) (t : List NodeText) → ProgramOffends limit k ts (front (skip r)) → Cuts r more s → front (skip s) ≡ text.Over → Program limit (ts ++ more) t → ⊥
excludes limit k ts [] r s t o c f p =
    let e : front (skip r) ≡ text.Over = subst (λ z. front (skip z) ≡ text.Over) c f in
    not_over limit k ts t (subst (ProgramOffends limit k ts) e o) (subst (λ z. Program limit z t) (append-nil ts) p)
excludes limit k ts (m ∷ ms) r s t o c f p =
    not_token limit k ts m c.0 (subst (ProgramOffends limit k ts) c.1 o) (ms, t, subst (λ z. Program limit z t) (sym (append_assoc ts (m ∷ []) ms)) p)

pub only_read : (limit : ℕ) → 1 ≤ limit → (bytes : List ℕ) (r : Result (List NodeText) (Or SyntaxFault)) → AnswersSyntax limit bytes r → (t : List NodeText) → Spells limit bytes t → FindsTree t r
only_read limit one bytes (Err or.Memory) a t s = tt
only_read limit one bytes (Ok u) a t s = one_tree limit one bytes u t a s
only_read limit one bytes (Err (or.Fault f)) a t s =
    let d = cuts_split a.tokens s.tokens bytes a.rest s.rest a.cut s.cut s.ended in
    excludes limit f.kind a.tokens d.0 a.rest s.rest t a.offends d.2 s.ended (subst (λ z. Program limit z t) d.1 s.program)
