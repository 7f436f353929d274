-- What one turn of the loop over the bytes gives.
use Rattle.std.proofs.Common.{◌≡◌, ℕ, ◌+◌, ◌-◌, ◌≤◌, List, [], ◌∷◌, length, drop, Ok, Err, Some, None, sym, ap, ◌∙◌, subst, arith, length-drop}
use Rattle.lt_base.specs.declared.memory.Or.{Or}
use Rattle.lt_base.specs.declared.memory.Or.TheVariants as or
use Rattle.lt_tokens.specs.Text.{front, skip}
use Rattle.lt_syntax.specs.declared.fault.SyntaxFault.{SyntaxFault}
use Rattle.lt_syntax.specs.Machine.{Roomy, Held}
use Rattle.lt_syntax.specs.Parser.{ParserState}
use Rattle.lt_syntax.specs.Phases.{Fits}
use Rattle.lt_syntax.specs.Program.{Spells}
use Rattle.lt_syntax.specs.Reads.{AnswersSyntax, TakesToken}
use Rattle.lt_syntax.proofs.Zipper.{Begun, Holding, z_want, z_named, z_has, z_clock, stack, mode}
use Rattle.lt_syntax.proofs.Sound.{AreBegun, Fit}
use Rattle.lt_syntax.proofs.Drafts.{Spot, s_in, phase, GoodSpot}
use Rattle.lt_syntax.proofs.Whole.{reached}
use Rattle.lt_syntax.proofs.Reading.{SoFar, goes, over, wrong}

roomy : (limit : ℕ) (zs : List Begun) → AreBegun limit zs → Roomy limit (stack zs)
roomy limit [] g = tt
roomy limit (z ∷ zs) g = (g.2, roomy limit zs g.0)

held_fits : (limit : ℕ) (zs : List Begun) (h : Holding) → AreBegun limit zs → Fit limit zs h → Held limit (mode h) (stack zs)
held_fits limit zs z_want g f = tt
held_fits limit zs (z_named x) g f = (f.0, roomy limit zs g)
held_fits limit zs (z_has a) g f = (f.room, roomy limit zs g)
held_fits limit zs z_clock g f = roomy limit zs g

spot_fits : (limit : ℕ) (p : Spot) → GoodSpot limit p → Fits limit (phase p)
spot_fits limit (s_in x ins outs b ls es y zs h) g = held_fits limit zs h g.2 g.3
spot_fits limit _ g = tt

-- what is begun fits the limit
pub fits_here : (limit : ℕ) → 1 ≤ limit → (bytes rest : List ℕ) (s : ParserState) → SoFar limit bytes rest s → Fits limit s.phase
fits_here limit one bytes rest s g = let d = reached limit one g.tokens s g.ran in subst (Fits limit) d.phase_is (spot_fits limit d.spot d.good)

-- its place
place : (bytes rest here : List ℕ) (at : ℕ) → here ≡ skip rest → length here ≤ length bytes → at ≡ length bytes - length here → at + length (skip rest) ≡ length bytes
place bytes rest here at s h a = omega (arith, ap length s)

module _ (limit : ℕ) (one : 1 ≤ limit) (bytes rest here : List ℕ) (s s' : ParserState) (g : SoFar limit bytes rest s) (e : here ≡ skip rest) (h : length here ≤ length bytes) where
  -- one more token is taken
  pub goes_on : (n : ℕ) → TakesToken limit (length bytes - length here) here s s' (Ok (Some n)) → SoFar limit bytes (drop n here) s'
  goes_on n t = goes limit bytes rest s t.0 (drop n here) s' g (ap front (sym e) ∙ t.1) t.2

  -- the text is taken
  pub ends_here : TakesToken limit (length bytes - length here) here s s' (Ok None) → Spells limit bytes s'.done
  ends_here t = subst (λ z. Spells limit bytes z.done) (sym t.2) (over limit one bytes rest s g t.1 (ap front (sym e) ∙ t.0))

  -- its first fault is found
  pub fails_here : (f : Or SyntaxFault) → TakesToken limit (length bytes - length here) here s s' (Err f) → AnswersSyntax limit bytes (Err f)
  fails_here or.Memory t = tt
  fails_here (or.Fault f) t = wrong limit one bytes rest s g f (front here) (ap front (sym e)) (place bytes rest here f.at e h t.0) t.1

pub shorter : (n : ℕ) (here : List ℕ) → length (drop n here) ≤ length here
shorter n here = grind (arith, length-drop)
