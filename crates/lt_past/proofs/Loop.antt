-- The loop over the bytes.
use Rattle.std.proofs.Common.{◌≡◌, ℕ, ◌+◌, ◌-◌, ◌≤◌, List, [], ◌∷◌, ◌++◌, length, drop, Option, Some, None, Result, Ok, Err, refl, sym, ap, ◌∙◌, subst, arith, length-drop}
use Rattle.lt_base.specs.declared.memory.Or.{Or}
use Rattle.lt_base.specs.declared.memory.Or.TheVariants as or
use Rattle.lt_tokens.specs.Text.{skip}
use Rattle.lt_past.specs.declared.fault.ObserverFault.{ObserverFault}
use Rattle.lt_past.specs.declared.fault.ObserverKind.{ObserverKind}
use Rattle.lt_past.specs.declared.fault.ObserverKind.TheVariants as kind
use Rattle.lt_past.specs.declared.formula.Obs.{Obs}
use Rattle.lt_past.specs.declared.parser.Parser.{Parser}
use Rattle.lt_past.specs.declared.tokens.Front as code
use Rattle.lt_past.specs.Formula.{Formula}
use Rattle.lt_past.specs.Fronts.{observer_front_of}
use Rattle.lt_past.specs.Tokens.{Token, ObserverFront, Over, Begins as Next, BadByte, ObserverCuts, observer_front}
use Rattle.lt_past.specs.Grammar.{ObserverForm}
use Rattle.lt_past.specs.Machine.{ObserverState, ObserverRoomy, ObserverHeld, observer_step, observer_on, observer_run, observer_start, end_of}
use Rattle.lt_past.specs.Faults.{ObserverOffends, IsSyntaxFault}
use Rattle.lt_past.specs.Parsed.{ObserverSteps, ObserverStepsAt, ObserverEndsAt, IsFormulaOf, Parses, observer_state_of}
use Rattle.lt_past.specs.Views.{formula_of}
use Rattle.lt_past.proofs.Zipper.{Begun, stack, whole_form}
use Rattle.lt_past.proofs.Sound.{AreBegun, Fit}
use Rattle.lt_past.proofs.Whole.{run_on, reached, begins_at, offends_at, none_at, some_at}

-- one more token is cut off
pub cuts_more : (ts : List Token) (bytes r : List ℕ) (t : Token) (after : List ℕ) → ObserverCuts bytes ts r → observer_front (skip r) ≡ Next t after → ObserverCuts bytes (ts ++ t ∷ []) after
cuts_more [] bytes r t after h e = (after, ap (λ z. observer_front (skip z)) (sym h) ∙ e, refl)
cuts_more (u ∷ ts) bytes r t after h e = (h.0, h.1, cuts_more ts h.0 r t after h.2 e)

-- what stands at the front
pub found : (f g : code.Front) (here rest : List ℕ) → here ≡ skip rest → observer_front_of f here ≡ observer_front here → f ≡ g → observer_front (skip rest) ≡ observer_front_of g here
found f g here rest s v e = ap observer_front (sym s) ∙ sym v ∙ ap (λ z. observer_front_of z here) e

-- its place
pub place : (bytes rest here : List ℕ) → here ≡ skip rest → length here ≤ length bytes → (length bytes - length here) + length (skip rest) ≡ length bytes
place bytes rest here s h = omega (arith, ap length s)

pub shorter : (n : ℕ) (here : List ℕ) → length (drop n here) ≤ length here
shorter n here = grind (arith, length-drop)

-- the tokens up to here, and the state behind them
pub record SoFar (limit : ℕ) (number : List ℕ → ℕ) (bytes rest : List ℕ) (s : ObserverState) : Type 0 where
  pub tokens : List Token
  pub cut : ObserverCuts bytes tokens rest
  pub ran : observer_run limit number observer_start tokens ≡ Ok s

pub nothing : (limit : ℕ) (number : List ℕ → ℕ) (bytes : List ℕ) → SoFar limit number bytes bytes observer_start
nothing limit number bytes = record { tokens = []; cut = refl; ran = refl }

module _ (limit : ℕ) (one : 1 ≤ limit) (number : List ℕ → ℕ) (bytes : List ℕ) where
  module _ (rest : List ℕ) (s : ObserverState) (g : SoFar limit number bytes rest s) where
    pub goes : (t : Token) (after : List ℕ) (s' : ObserverState) → observer_front (skip rest) ≡ Next t after → observer_step limit number s t ≡ Ok s' → SoFar limit number bytes after s'
    goes t after s' f e = record {
      tokens = g.tokens ++ t ∷ [];
      cut = cuts_more g.tokens bytes rest t after g.cut f;
      ran = run_on number limit g.tokens (t ∷ []) observer_start s g.ran ∙ ap (λ z. observer_on z (λ s'. Ok s')) e;
    }

    roomy : (zs : List Begun) → AreBegun number limit zs → ObserverRoomy limit (stack number zs)
    roomy [] b = tt
    roomy (z ∷ zs) b = (b.2, roomy zs b.0)

    held_fits : (zs : List Begun) (h : Option ObserverForm) → AreBegun number limit zs → Fit number limit zs h → ObserverHeld limit (stack number zs) (whole_form number h)
    held_fits zs None b f = tt
    held_fits zs (Some a) b f = (f.room, roomy zs b)

    -- what is begun fits the limit
    pub fits_here : ObserverHeld limit s.frames s.whole
    fits_here =
        let d = reached number limit one g.tokens s g.ran in
        let h = held_fits d.begun d.holding d.good d.fit in
        subst (λ w. ObserverHeld limit s.frames w) d.whole_is (subst (λ fs. ObserverHeld limit fs (whole_form number d.holding)) d.frames_are h)

    -- a fault at what stands here
    fault : (f : ObserverFault) (n : ObserverFront) → observer_front (skip rest) ≡ n → f.at + length (skip rest) ≡ length bytes → ObserverOffends limit f.kind g.tokens n → IsSyntaxFault limit bytes f
    fault f n e p o = record { tokens = g.tokens; rest = rest; cut = g.cut; place = p; before = begins_at number limit one g.tokens s g.ran; offends = subst (ObserverOffends limit f.kind g.tokens) (sym e) o }

    pub stops : (at : ℕ) (t : Token) (after : List ℕ) (k : ObserverKind) → observer_front (skip rest) ≡ Next t after → at + length (skip rest) ≡ length bytes → observer_step limit number s t ≡ Err k → IsSyntaxFault limit bytes (record { at = at; kind = k })
    stops at t after k e p r = fault (record { at = at; kind = k }) (Next t after) e p (offends_at number limit one g.tokens s t after k g.ran r)

    pub bad_byte : (at : ℕ) → observer_front (skip rest) ≡ BadByte → at + length (skip rest) ≡ length bytes → IsSyntaxFault limit bytes (record { at = at; kind = kind.BadByte })
    bad_byte at e p = fault (record { at = at; kind = kind.BadByte }) BadByte e p tt

    over_none : (at : ℕ) → observer_front (skip rest) ≡ Over → at + length (skip rest) ≡ length bytes → end_of s.frames s.whole ≡ None → IsSyntaxFault limit bytes (record { at = at; kind = kind.Unexpected })
    over_none at e p h = fault (record { at = at; kind = kind.Unexpected }) Over e p (λ f w. none_at number limit one g.tokens s g.ran h f w)

    over_some : (F : Formula) → observer_front (skip rest) ≡ Over → end_of s.frames s.whole ≡ Some F → IsFormulaOf limit number bytes F
    over_some F e h =
        let w = some_at number limit one g.tokens s F g.ran h in
        record { form = w.form; spelled = record { formula_tokens = g.tokens; rest = rest; cut = g.cut; ended = e; written = w.writes }; meant = w.meant }

    -- the end of the text
    pub over : (at : ℕ) (r : Result Obs (Or ObserverFault)) → observer_front (skip rest) ≡ Over → at + length (skip rest) ≡ length bytes → ObserverEndsAt at r (end_of s.frames s.whole) → Parses limit number bytes r
    over at (Ok f) e p h = over_some (formula_of f) e h
    over at (Err (or.Fault f)) e p h = subst (IsSyntaxFault limit bytes) (sym h.1) (over_none at e p h.0)
    over at (Err or.Memory) e p h = tt

    -- a step that is refused
    pub refused : (at : ℕ) (t : Token) (after : List ℕ) (r : Result Parser (Or ObserverKind)) (e : Or ObserverFault) → observer_front (skip rest) ≡ Next t after → at + length (skip rest) ≡ length bytes → ObserverSteps r (observer_step limit number s t) → ObserverStepsAt at r (Err e) → Parses limit number bytes (Err e)
    refused at t after (Ok p) e f q h k = absurd (cc)
    refused at t after (Err (or.Fault k)) (or.Fault f) e q h is = let same : f ≡ record { at = at; kind = k } = cc in subst (IsSyntaxFault limit bytes) (sym same) (stops at t after k e q h)
    refused at t after (Err (or.Fault k)) or.Memory e q h is = tt
    refused at t after (Err or.Memory) (or.Fault f) e q h is = absurd (cc)
    refused at t after (Err or.Memory) or.Memory e q h is = tt

    -- one that is made
    pub made : (at : ℕ) (t : Token) (after : List ℕ) (r : Result Parser (Or ObserverKind)) (p : Parser) → observer_front (skip rest) ≡ Next t after → ObserverSteps r (observer_step limit number s t) → ObserverStepsAt at r (Ok p) → SoFar limit number bytes after (observer_state_of p)
    made at t after (Ok q) p f h is = let same : p ≡ q = cc in goes t after (observer_state_of p) f (h ∙ ap (λ z. Ok (observer_state_of z)) (sym same))
    made at t after (Err (or.Fault k)) p f h is = absurd (cc)
    made at t after (Err or.Memory) p f h is = absurd (cc)
