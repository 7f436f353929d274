-- Each form is read by the machine.
use Rattle.std.proofs.Common.{◌≡◌, ℕ, ◌+◌, ◌<◌, ◌≤◌, List, [], ◌∷◌, length, Option, Some, None, Result, Ok, Err, if◌then◌else◌, refl, ap, ◌∙◌, arith, le-leb}
use Rattle.std.proofs.lemmas.Bool.{lt-leb}
use Rattle.lt_past.specs.declared.words.Infix.{Infix}
use Rattle.lt_past.specs.declared.words.Sign.TheVariants as word
use Rattle.lt_past.specs.declared.fault.ObserverKind.{ObserverKind}
use Rattle.lt_past.specs.declared.fault.ObserverKind.TheVariants.{TooDeep}
use Rattle.lt_past.specs.Formula.{Formula}
use Rattle.lt_past.specs.Tokens.{Token, name, sign}
use Rattle.lt_past.specs.Levels.{observer_level, observer_left_level, observer_right_level}
use Rattle.lt_past.specs.Grammar as form
use Rattle.lt_past.specs.Grammar.{ObserverForm, ObserverFormIsAt, formula_tokens, formula_height, formula_meaning}
use Rattle.lt_past.specs.Machine.{ObserverOperand, ObserverFrame, opened, prefixed, joined, ObserverState, Top, observer_hole, observer_ends, observer_complete, observer_close, observer_need, fitting, observer_joining, shutting, observer_step, end_of, ending}
use Rattle.lt_past.proofs.Zipper.{height_pos, table, not_completed, operand}

-- what reading comes to in the end
abbrev pub onward : Result ObserverState ObserverKind → (ObserverState → Result (Option Formula) ObserverKind) → Result (Option Formula) ObserverKind
onward (Ok s) k = k s
onward (Err e) k = Err e

module _ (limit : ℕ) (number : List ℕ → ℕ) where
  abbrev pub read : ObserverState → List Token → Result (Option Formula) ObserverKind
  read s [] = Ok (end_of s.frames s.whole)
  read s (t ∷ ts) = onward (observer_step limit number s t) (λ s'. read s' ts)

  abbrev pub from : List ObserverFrame → Option ObserverOperand → List Token → Result (Option Formula) ObserverKind
  from fs h ts = read (record { frames = fs; whole = h }) ts

  abbrev op : ObserverForm → ObserverOperand
  op = operand number

-- the level from which on what follows completes forms
abbrev pub stop : List Token → ℕ
stop [] = 1
stop (sign (word.Between o) ∷ ts) = observer_left_level o
stop (sign word.Close ∷ ts) = 1
stop _ = 0

ended : (l : ℕ) (f : ObserverFrame) (fs : List ObserverFrame) (a : ObserverOperand) → l ≤ observer_ends f → observer_close l (f ∷ fs) a ≡ observer_close l fs (observer_complete f a)
ended l f fs a h = let kept : Top = record { below = f ∷ fs; operand = a } in ap (λ b. if b then observer_close l fs (observer_complete f a) else kept) (le-leb l (observer_ends f) h)

-- no form is completed
kept_below : (o : Infix) (fs : List ObserverFrame) (a : ObserverOperand) → observer_hole fs ≤ observer_level o → observer_close (observer_left_level o) fs a ≡ record { below = fs; operand = a }
kept_below o [] a h = refl
kept_below o (opened ∷ fs) a h = stays (observer_left_level o) opened fs a (let t = table o in omega (arith, t.left_low))
  where
    stays : (l : ℕ) (f : ObserverFrame) (fs : List ObserverFrame) (a : ObserverOperand) → observer_ends f < l → observer_close l (f ∷ fs) a ≡ record { below = f ∷ fs; operand = a }
    stays l f fs a h = let kept : Top = record { below = f ∷ fs; operand = a } in ap (λ b. if b then observer_close l fs (observer_complete f a) else kept) (lt-leb l (observer_ends f) h)
kept_below o (prefixed p ∷ fs) a h = let t = table o in absurd (omega (arith, h, t.high))
kept_below o (joined j b ∷ fs) a h = stays (observer_left_level o) (joined j b) fs a (not_completed j o h)
  where
    stays : (l : ℕ) (f : ObserverFrame) (fs : List ObserverFrame) (a : ObserverOperand) → observer_ends f < l → observer_close l (f ∷ fs) a ≡ record { below = f ∷ fs; operand = a }
    stays l f fs a h = let kept : Top = record { below = f ∷ fs; operand = a } in ap (λ b. if b then observer_close l fs (observer_complete f a) else kept) (lt-leb l (observer_ends f) h)

module _ (limit : ℕ) (number : List ℕ → ℕ) where
  -- a form that is begun where there is room for it
  fits : (fs : List ObserverFrame) (w : List Token) → observer_need fs ≤ limit → onward (fitting limit fs) (λ s'. read limit number s' w) ≡ from limit number fs None w
  fits fs w h = let s : ObserverState = record { frames = fs; whole = None } in ap (λ b. onward (if b then Ok s else Err TooDeep) (λ s'. read limit number s' w)) (le-leb (observer_need fs) limit h)

  -- what follows completes the newest form
  finishes : (f : ObserverFrame) (fs : List ObserverFrame) (a : ObserverOperand) (ts : List Token) → stop ts ≤ observer_ends f → from limit number (f ∷ fs) (Some a) ts ≡ from limit number fs (Some (observer_complete f a)) ts
  finishes f fs a [] h = ap (λ t. Ok (ending t)) (ended 1 f fs a h)
  finishes f fs a (name x ∷ ts) h = refl
  finishes f fs a (sign (word.Truth b) ∷ ts) h = refl
  finishes f fs a (sign (word.Before p) ∷ ts) h = refl
  finishes f fs a (sign word.Open ∷ ts) h = refl
  finishes f fs a (sign (word.Between o) ∷ ts) h = ap (λ t. onward (observer_joining limit o t) (λ s'. read limit number s' ts)) (ended (observer_left_level o) f fs a h)
  finishes f fs a (sign word.Close ∷ ts) h = ap (λ t. onward (shutting t) (λ s'. read limit number s' ts)) (ended 1 f fs a h)

  -- the form is read, where what ends it follows
  pub runs : (a : ObserverForm) (l : ℕ) → ObserverFormIsAt l a → (fs : List ObserverFrame) (ts : List Token) → observer_hole fs ≤ l → stop ts ≤ l → observer_need fs ≤ limit → length fs + formula_height a ≤ limit → from limit number fs None (formula_tokens a ts) ≡ from limit number fs (Some (operand number a)) ts
  runs (form.truth b) l at fs ts hl st nd hh = refl
  runs (form.named x) l at fs ts hl st nd hh = refl
  runs (form.paren a) l at fs ts hl st nd hh =
      let h : observer_need (opened ∷ fs) ≤ limit = omega (arith, height_pos a) in
      fits (opened ∷ fs) (formula_tokens a (sign word.Close ∷ ts)) h ∙ runs a 1 at.1 (opened ∷ fs) (sign word.Close ∷ ts) (omega arith) (omega arith) h (omega arith)
  runs (form.prefixed p a) l at fs ts hl st nd hh =
      let f = prefixed p in
      let h : observer_need (f ∷ fs) ≤ limit = omega (arith, height_pos a) in
      fits (f ∷ fs) (formula_tokens a ts) h ∙ runs a 5 at.1 (f ∷ fs) ts (omega arith) (omega arith) h (omega arith) ∙ finishes f fs (operand number a) ts (omega arith)
  runs (form.joined o a b) l at fs ts hl st nd hh =
      let k = table o in
      let f = joined o (operand number a) in
      let h : observer_need (f ∷ fs) ≤ limit = omega arith in
      let hole_low : observer_hole fs ≤ observer_level o = omega arith in
      let w = formula_tokens b ts in
      runs a (observer_left_level o) at.1 fs (sign (word.Between o) ∷ w) (omega (arith, k.lefts)) (omega arith) nd (omega arith)
      ∙ ap (λ t. onward (observer_joining limit o t) (λ s'. read limit number s' w)) (kept_below o fs (operand number a) hole_low)
      ∙ fits (f ∷ fs) w h
      ∙ runs b (observer_right_level o) at.2 (f ∷ fs) ts (omega arith) (omega (arith, k.rights)) h (omega arith)
      ∙ finishes f fs (operand number b) ts (omega arith)
