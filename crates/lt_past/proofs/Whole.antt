-- What the machine's answers say of a text.
use Rattle.std.proofs.Common.{◌≡◌, ℕ, ◌≤◌, max, true, false, List, [], ◌∷◌, ◌++◌, Option, Some, None, Result, Ok, Err, nat_le, if◌then◌else◌, refl, sym, ap, ap₂, ◌∙◌, subst, arith, length, ◌+◌, append_assoc, append-nil, leb-true, le-leb, le_trans}
use Rattle.lt_past.specs.declared.words.Sign.TheVariants as word
use Rattle.lt_past.specs.declared.fault.ObserverKind.{ObserverKind}
use Rattle.lt_past.specs.declared.fault.ObserverKind.TheVariants.{BadByte, Unexpected, TooDeep, UnknownName, NotBool, NotBase}
use Rattle.lt_past.specs.Formula.{Formula}
use Rattle.lt_past.specs.Tokens.{Token, name, sign, Begins as Next}
use Rattle.lt_past.specs.Grammar.{ObserverForm, formula_tokens, formula_height, formula_meaning}
use Rattle.lt_past.specs.Machine.{ObserverFrame, ObserverState, ObserverOperand, opened, prefixed, joined, observer_close, observer_need, fitting, shut, observer_step, observer_on, observer_run, observer_start, end_of, ending, end_on}
use Rattle.lt_past.specs.Levels.{observer_left_level}
use Rattle.lt_past.specs.Spelled.{WritesObserver}
use Rattle.lt_past.specs.Faults.{ObserverBegins, ObserverBreaks, ObserverExceeds, ObserverOffends}
use Rattle.lt_past.proofs.Zipper.{Begun, all_leads, held, operand, stack, whole_form}
use Rattle.lt_past.proofs.Sound.{AreBegun, Fit, Good, Closed, closed, StepIs, step_good}
use Rattle.lt_past.proofs.Runs.{read, onward, runs}
use Rattle.lt_past.proofs.Viable.{good_begins}

-- an answer that is right at a limit is the same at a higher one, but where something is too high
abbrev Grows : Result ObserverState ObserverKind → Result ObserverState ObserverKind → Type 0
Grows (Ok s) r = r ≡ Ok s
Grows (Err Unexpected) r = r ≡ Err Unexpected
Grows (Err _) r = Unit {0}

module _ (number : List ℕ → ℕ) where
  pub run_on : (limit : ℕ) (p ts : List Token) (s0 s : ObserverState) → observer_run limit number s0 p ≡ Ok s → observer_run limit number s0 (p ++ ts) ≡ observer_run limit number s ts
  run_on limit [] ts s0 s h = let e : s0 ≡ s = cc in ap (λ z. observer_run limit number z ts) e
  run_on limit (t ∷ p) ts s0 s h =
      elim (observer_step limit number s0 t) as (λ a. observer_on a (λ s'. observer_run limit number s' p) ≡ Ok s → observer_on a (λ s'. observer_run limit number s' (p ++ ts)) ≡ observer_run limit number s ts) [
        | Ok s' ↦ λ e. run_on limit p ts s' s e
        | Err k ↦ λ e. cc
      ] h

  read_on : (limit : ℕ) (p ts : List Token) (s0 s : ObserverState) → observer_run limit number s0 p ≡ Ok s → read limit number s0 (p ++ ts) ≡ read limit number s ts
  read_on limit [] ts s0 s h = let e : s0 ≡ s = cc in ap (λ z. read limit number z ts) e
  read_on limit (t ∷ p) ts s0 s h =
      elim (observer_step limit number s0 t) as (λ a. observer_on a (λ s'. observer_run limit number s' p) ≡ Ok s → onward a (λ s'. read limit number s' (p ++ ts)) ≡ read limit number s ts) [
        | Ok s' ↦ λ e. read_on limit p ts s' s e
        | Err k ↦ λ e. cc
      ] h

  module _ (l m : ℕ) (h : l ≤ m) where
    fitting_grows : (fs : List ObserverFrame) → Grows (fitting l fs) (fitting m fs)
    fitting_grows fs =
        let s : ObserverState = record { frames = fs; whole = None } in
        elim (nat_le (observer_need fs) l) as (λ t. nat_le (observer_need fs) l ≡ t → Grows (if t then Ok s else Err TooDeep) (fitting m fs)) [
          | true ↦ λ is. ap (λ t. if t then Ok s else Err TooDeep) (le-leb (observer_need fs) m (le_trans (leb-true (observer_need fs) l is) h))
          | false ↦ λ is. tt
        ] refl

    same : (r : Result ObserverState ObserverKind) → Grows r r
    same (Ok s) = refl
    same (Err Unexpected) = refl
    same (Err BadByte) = tt
    same (Err TooDeep) = tt
    same (Err UnknownName) = tt
    same (Err NotBool) = tt
    same (Err NotBase) = tt

    step_grows : (s : ObserverState) (t : Token) → Grows (observer_step l number s t) (observer_step m number s t)
    step_grows s t = by s.frames s.whole t
      where
        by : (fs : List ObserverFrame) (w : Option ObserverOperand) (t : Token) → Grows (observer_step l number (record { frames = fs; whole = w }) t) (observer_step m number (record { frames = fs; whole = w }) t)
        by fs None (name x) = refl
        by fs None (sign (word.Truth b)) = refl
        by fs None (sign (word.Before p)) = fitting_grows (prefixed p ∷ fs)
        by fs None (sign word.Open) = fitting_grows (opened ∷ fs)
        by fs None (sign (word.Between o)) = refl
        by fs None (sign word.Close) = refl
        by fs (Some a) (name x) = refl
        by fs (Some a) (sign (word.Truth b)) = refl
        by fs (Some a) (sign (word.Before p)) = refl
        by fs (Some a) (sign word.Open) = refl
        by fs (Some a) (sign (word.Between o)) = let c = observer_close (observer_left_level o) fs a in fitting_grows (joined o c.operand ∷ c.below)
        by fs (Some a) (sign word.Close) = same (shut fs (Some a))

    run_grows : (p : List Token) (s0 s : ObserverState) → observer_run l number s0 p ≡ Ok s → observer_run m number s0 p ≡ Ok s
    run_grows [] s0 s e = e
    run_grows (t ∷ p) s0 s e =
        elim (observer_step l number s0 t) as (λ a. Grows a (observer_step m number s0 t) → observer_on a (λ s'. observer_run l number s' p) ≡ Ok s → observer_on (observer_step m number s0 t) (λ s'. observer_run m number s' p) ≡ Ok s) [
          | Ok s' ↦ λ g e. ap (λ z. observer_on z (λ s'. observer_run m number s' p)) g ∙ run_grows p s' s e
          | Err k ↦ λ g e. cc
        ] (step_grows s0 t) e

  -- an observer is read, with its formula
  pub writes_read : (limit : ℕ) (ts : List Token) (f : ObserverForm) → 1 ≤ limit → WritesObserver limit ts f → read limit number observer_start ts ≡ Ok (Some (formula_meaning number f))
  writes_read limit ts f one w = ap (read limit number observer_start) w.spelled ∙ runs limit number f 1 w.at [] [] (omega arith) (omega arith) (omega arith) (omega (arith, w.low))

  -- and is not stopped at one of its tokens
  not_stopped : (limit : ℕ) → 1 ≤ limit → (p : List Token) (t : Token) (s : ObserverState) (k : ObserverKind) → observer_run limit number observer_start p ≡ Ok s → observer_step limit number s t ≡ Err k → ObserverBegins limit (p ++ t ∷ []) → ⊥
  not_stopped limit one p t s k rp st b =
      let c = writes_read limit ((p ++ t ∷ []) ++ b.0) b.1 one b.2 in
      let d = read_on limit p (t ∷ b.0) observer_start s rp in
      let f = ap (λ r. onward r (λ s'. read limit number s' b.0)) st in
      let g = ap (read limit number observer_start) (append_assoc p (t ∷ []) b.0) in
      cc

  retext : (limit : ℕ) (s : ObserverState) (f g : List Token → List Token) → ((r : List Token) → f r ≡ g r) → Good number limit s g → Good number limit s f
  retext limit s f g e d = record { begun = d.begun; holding = d.holding; frames_are = d.frames_are; whole_is = d.whole_is; good = d.good; fit = d.fit; written = λ r. e r ∙ d.written r }

  module _ (limit : ℕ) (one : 1 ≤ limit) where
    step_text : (z : Result ObserverState ObserverKind) (f g : List Token → List Token) → ((r : List Token) → f r ≡ g r) → StepIs number limit z g → StepIs number limit z f
    step_text (Ok s) f g e d = retext limit s f g e d
    step_text (Err Unexpected) f g e d = tt
    step_text (Err TooDeep) f g e d = (d.0, d.1, d.2, retext d.0 d.2 f g e d.3)
    step_text (Err BadByte) f g e d = d
    step_text (Err UnknownName) f g e d = d
    step_text (Err NotBool) f g e d = d
    step_text (Err NotBase) f g e d = d

    state_good : (s : ObserverState) (t : Token) (text : List Token → List Token) → Good number limit s text → StepIs number limit (observer_step limit number s t) (λ r. text (t ∷ r))
    state_good s t text g =
        let goal : List Token → List Token = λ r. all_leads g.begun (held g.holding (t ∷ r)) in
        let is : record { frames = stack number g.begun; whole = whole_form number g.holding } ≡ s = λ i. record { frames = g.frames_are i; whole = g.whole_is i } in
        step_text (observer_step limit number s t) (λ r. text (t ∷ r)) goal (λ r. g.written (t ∷ r))
        (subst (λ (z : ObserverState). StepIs number limit (observer_step limit number z t) goal) is (step_good number limit g.begun g.holding t g.good g.fit))

    reached_on : (ts p : List Token) (s s' : ObserverState) → Good number limit s (λ r. p ++ r) → observer_run limit number s ts ≡ Ok s' → Good number limit s' (λ r. (p ++ ts) ++ r)
    reached_on [] p s s' g r = let e : s ≡ s' = cc in subst (λ z. Good number limit z (λ r. (p ++ []) ++ r)) e (retext limit s (λ r. (p ++ []) ++ r) (λ r. p ++ r) (λ r. ap (λ z. z ++ r) (append-nil p)) g)
    reached_on (t ∷ ts) p s s' g r =
        elim (observer_step limit number s t) as (λ a. observer_step limit number s t ≡ a → observer_on a (λ z. observer_run limit number z ts) ≡ Ok s' → Good number limit s' (λ r. (p ++ t ∷ ts) ++ r)) [
          | Ok z ↦ λ e r.
              let d : Good number limit z (λ r. p ++ t ∷ r) = subst (λ a. StepIs number limit a (λ r. p ++ t ∷ r)) e (state_good s t (λ r. p ++ r) g) in
              let d' = retext limit z (λ r. (p ++ t ∷ []) ++ r) (λ r. p ++ t ∷ r) (λ r. append_assoc p (t ∷ []) r) d in
              retext limit s' (λ r. (p ++ t ∷ ts) ++ r) (λ r. ((p ++ t ∷ []) ++ ts) ++ r) (λ r. ap (λ z. z ++ r) (sym (append_assoc p (t ∷ []) ts))) (reached_on ts (p ++ t ∷ []) z s' d' r)
          | Err k ↦ λ e r. cc
        ] refl r

    pub reached : (p : List Token) (s : ObserverState) → observer_run limit number observer_start p ≡ Ok s → Good number limit s (λ r. p ++ r)
    reached p s r = reached_on p [] observer_start s (record { begun = []; holding = None; frames_are = refl; whole_is = refl; good = tt; fit = one; written = λ r. refl }) r

    pub begins_at : (p : List Token) (s : ObserverState) → observer_run limit number observer_start p ≡ Ok s → ObserverBegins limit p
    begins_at p s r = good_begins number limit s p (reached p s r)

    begins_more : (l m : ℕ) → l ≤ m → (ts : List Token) → ObserverBegins l ts → ObserverBegins m ts
    begins_more l m h ts b = (b.0, b.1, record { at = b.2.at; low = le_trans b.2.low h; spelled = b.2.spelled })

    breaks_at : (p : List Token) (s : ObserverState) (t : Token) → observer_run limit number observer_start p ≡ Ok s → observer_step limit number s t ≡ Err Unexpected → ObserverBreaks (p ++ t ∷ [])
    breaks_at p s t r e more b =
        let m = max limit more in
        let g : limit ≤ m = omega arith in
        let e' : observer_step m number s t ≡ Err Unexpected = subst (λ z. Grows z (observer_step m number s t)) e (step_grows limit m g s t) in
        not_stopped m (le_trans one g) p t s Unexpected (run_grows limit m g p observer_start s r) e' (begins_more more m (omega arith) (p ++ t ∷ []) b)

    exceeds_at : (p : List Token) (s : ObserverState) (t : Token) → observer_run limit number observer_start p ≡ Ok s → observer_step limit number s t ≡ Err TooDeep → ObserverExceeds limit (p ++ t ∷ [])
    exceeds_at p s t r e =
        let d = subst (λ z. StepIs number limit z (λ r. p ++ t ∷ r)) e (state_good s t (λ r. p ++ r) (reached p s r)) in
        let g : Good number d.0 d.2 (λ r. (p ++ t ∷ []) ++ r) = retext d.0 d.2 (λ r. (p ++ t ∷ []) ++ r) (λ r. p ++ t ∷ r) (λ r. append_assoc p (t ∷ []) r) d.3 in
        (not_stopped limit one p t s TooDeep r e, (d.0, good_begins number d.0 d.2 (p ++ t ∷ []) g))

    -- a step that is refused offends
    pub offends_at : (p : List Token) (s : ObserverState) (t : Token) (after : List ℕ) (k : ObserverKind) → observer_run limit number observer_start p ≡ Ok s → observer_step limit number s t ≡ Err k → ObserverOffends limit k p (Next t after)
    offends_at p s t after Unexpected r e = breaks_at p s t r e
    offends_at p s t after TooDeep r e = exceeds_at p s t r e
    offends_at p s t after BadByte r e = subst (λ z. StepIs number limit z (λ r. p ++ t ∷ r)) e (state_good s t (λ r. p ++ r) (reached p s r))
    offends_at p s t after UnknownName r e = subst (λ z. StepIs number limit z (λ r. p ++ t ∷ r)) e (state_good s t (λ r. p ++ r) (reached p s r))
    offends_at p s t after NotBool r e = subst (λ z. StepIs number limit z (λ r. p ++ t ∷ r)) e (state_good s t (λ r. p ++ r) (reached p s r))
    offends_at p s t after NotBase r e = subst (λ z. StepIs number limit z (λ r. p ++ t ∷ r)) e (state_good s t (λ r. p ++ r) (reached p s r))

    -- the text may not end here
    pub none_at : (p : List Token) (s : ObserverState) → observer_run limit number observer_start p ≡ Ok s → end_of s.frames s.whole ≡ None → (f : ObserverForm) → WritesObserver limit p f → ⊥
    none_at p s r e f w =
        let c = writes_read limit p f one w in
        let d = read_on limit p [] observer_start s r in
        let g = ap (read limit number observer_start) (append-nil p) in
        let h : read limit number s [] ≡ Ok None = ap (λ z. Ok z) e in
        cc

    pub record Written (p : List Token) (F : Formula) : Type 0 where
      pub form : ObserverForm
      pub writes : WritesObserver limit p form
      pub meant : F ≡ formula_meaning number form

    -- it may
    pub some_at : (p : List Token) (s : ObserverState) (F : Formula) → observer_run limit number observer_start p ≡ Ok s → end_of s.frames s.whole ≡ Some F → Written p F
    some_at p s F r e =
        let g = reached p s r in
        let is : end_of (stack number g.begun) (whole_form number g.holding) ≡ Some F = ap₂ end_of g.frames_are g.whole_is ∙ e in
        by g.begun g.holding g.good g.fit is (λ z. g.written z)
      where
        last : (zs : List Begun) (a b : ObserverForm) → (c : Closed number limit 1 zs a) → end_on (stack number c.begun) (operand number c.form) ≡ Some F → c.begun ≡ []
        last zs a b c e = empty c.begun e
          where
            empty : (us : List Begun) → end_on (stack number us) (operand number c.form) ≡ Some F → us ≡ []
            empty [] e = refl
            empty (u ∷ us) e = cc

        by : (zs : List Begun) (h : Option ObserverForm) → AreBegun number limit zs → Fit number limit zs h → end_of (stack number zs) (whole_form number h) ≡ Some F → ((z : List Token) → p ++ z ≡ all_leads zs (held h z)) → Written p F
        by zs None g f e w = absurd (cc)
        by zs (Some a) g f e w =
            let c = closed number limit 1 (omega arith) zs f.level a g f.at f.stands (omega (arith, f.five)) f.room in
            let e' : end_on (stack number c.begun) (operand number c.form) ≡ Some F = ap ending (sym c.is) ∙ e in
            let nil : c.begun ≡ [] = last zs a a c e' in
            let m : F ≡ formula_meaning number c.form = some_is (subst (λ us. end_on (stack number us) (operand number c.form) ≡ Some F) nil e') in
            record {
              form = c.form;
              writes = record { at = c.at; low = let k : 0 + formula_height c.form ≤ limit = subst (λ us. length (stack number us) + formula_height c.form ≤ limit) nil c.room in omega (arith, k); spelled = sym (append-nil p) ∙ w [] ∙ c.text [] ∙ ap (λ us. all_leads us (formula_tokens c.form [])) nil };
              meant = m;
            }
          where
            some_is : {x y : Formula} → Some x ≡ Some y → y ≡ x
            some_is h = cc
