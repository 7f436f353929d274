-- A step of the machine keeps what it has taken written by what it holds.
use Rattle.std.proofs.Common.{◌≡◌, ℕ, ◌+◌, ◌<◌, ◌≤◌, true, false, List, [], ◌∷◌, length, nat_le, Option, Some, None, Result, Ok, Err, if◌then◌else◌, refl, sym, ap, ◌∙◌, subst, arith, leb-true, leb-false}
use Rattle.lt_past.specs.declared.words.Infix.{Infix}
use Rattle.lt_past.specs.declared.words.Sign.TheVariants as word
use Rattle.lt_past.specs.declared.fault.ObserverKind.{ObserverKind}
use Rattle.lt_past.specs.declared.fault.ObserverKind.TheVariants.{Unexpected, TooDeep}
use Rattle.lt_past.specs.Tokens.{Token, name, sign}
use Rattle.lt_past.specs.Levels.{observer_level, observer_left_level}
use Rattle.lt_past.specs.Grammar as form
use Rattle.lt_past.specs.Grammar.{ObserverForm, ObserverFormIsAt, formula_tokens, formula_height}
use Rattle.lt_past.specs.Machine.{ObserverOperand, ObserverFrame, ObserverState, Top, observer_paren_of, observer_part_level, observer_hole, observer_ends, observer_complete, observer_close, observer_need, fitting, observer_joining, shut_on, shutting, observer_step}
use Rattle.lt_past.proofs.Zipper.{height_pos, table, may_join, at_lower, hole_le, Begun, z_paren, z_prefix, z_infix, all_leads, held, IsBegun, closing, operand, frame, stack, whole_form, completes, room_for}

module _ (number : List ℕ → ℕ) (limit : ℕ) where
  abbrev st : List Begun → List ObserverFrame
  st = stack number

  abbrev op : ObserverForm → ObserverOperand
  op = operand number

  -- each form is begun where it may be, and there is room for it
  abbrev pub AreBegun : List Begun → Type 0
  AreBegun [] = Unit {0}
  AreBegun (z ∷ zs) = AreBegun zs × IsBegun (observer_hole (st zs)) z × (observer_need (st (z ∷ zs)) ≤ limit)

  pub record Whole (zs : List Begun) (a : ObserverForm) : Type 0 where
    pub level : ℕ
    pub five : 5 ≤ level
    pub stands : observer_hole (st zs) ≤ level
    pub at : ObserverFormIsAt level a
    pub room : length (st zs) + formula_height a ≤ limit

  abbrev pub Fit : List Begun → Option ObserverForm → Type 0
  Fit zs None = observer_need (st zs) ≤ limit
  Fit zs (Some a) = Whole zs a

  -- the text so far, and then any tokens, is what is begun and held, and then these tokens
  pub record Good (s : ObserverState) (text : List Token → List Token) : Type 0 where
    pub begun : List Begun
    pub holding : Option ObserverForm
    pub frames_are : st begun ≡ s.frames
    pub whole_is : whole_form number holding ≡ s.whole
    pub good : AreBegun begun
    pub fit : Fit begun holding
    pub written : (r : List Token) → text r ≡ all_leads begun (held holding r)

  pub top_room : (zs : List Begun) → AreBegun zs → observer_need (st zs) ≤ limit → length (st zs) + 1 ≤ limit
  top_room [] g nd = nd
  top_room (z_paren ∷ zs) g nd = omega arith
  top_room (z_prefix p ∷ zs) g nd = omega arith
  top_room (z_infix o a ∷ zs) g nd = omega (arith, height_pos a)

  abbrev pub top_ends : List Begun → ℕ
  top_ends [] = 0
  top_ends (z ∷ zs) = observer_ends (frame number z)

  pub record Closed (l : ℕ) (zs : List Begun) (b : ObserverForm) : Type 0 where
    pub begun : List Begun
    pub form : ObserverForm
    pub is : observer_close l (st zs) (op b) ≡ record { below = st begun; operand = op form }
    pub good : AreBegun begun
    pub at : ObserverFormIsAt l form
    pub room : length (st begun) + formula_height form ≤ limit
    pub stops : top_ends begun < l
    pub text : (r : List Token) → all_leads zs (formula_tokens b r) ≡ all_leads begun (formula_tokens form r)

  pub closed : (l : ℕ) → 1 ≤ l → (zs : List Begun) (m : ℕ) (b : ObserverForm) → AreBegun zs → ObserverFormIsAt m b → observer_hole (st zs) ≤ m → l ≤ m → length (st zs) + formula_height b ≤ limit → Closed l zs b
  closed l pos [] m b g at hm lm rm = record { begun = []; form = b; is = refl; good = tt; at = at_lower b l m lm at; room = rm; stops = omega arith; text = λ r. refl }
  closed l pos (z ∷ zs) m b g at hm lm rm =
      let f = frame number z in
      let kept : Top = record { below = f ∷ st zs; operand = op b } in
      elim (nat_le l (observer_ends f)) as (λ t. nat_le l (observer_ends f) ≡ t → Closed l (z ∷ zs) b) [
        | true ↦ λ is.
            let le : l ≤ observer_ends f = leb-true l (observer_ends f) is in
            let c = completes number z (observer_hole (st zs)) b g.1 (at_lower b (observer_part_level f) m hm at) (omega arith) in
            let d = closed l pos zs (observer_ends f) (closing z b) g.0 c.at c.below le (room_for number limit z (length (st zs)) b g.2 (omega arith) (omega arith)) in
            record {
              begun = d.begun;
              form = d.form;
              is = ap (λ t. if t then observer_close l (st zs) (observer_complete f (op b)) else kept) is ∙ ap (observer_close l (st zs)) c.is ∙ d.is;
              good = d.good;
              at = d.at;
              room = d.room;
              stops = d.stops;
              text = λ r. ap (all_leads zs) (c.text r) ∙ d.text r;
            }
        | false ↦ λ is. record { begun = z ∷ zs; form = b; is = ap (λ t. if t then observer_close l (st zs) (observer_complete f (op b)) else kept) is; good = g; at = at_lower b l m lm at; room = rm; stops = leb-false l (observer_ends f) is; text = λ r. refl }
      ] refl

-- a higher limit
module _ (number : List ℕ → ℕ) (l m : ℕ) (h : l ≤ m) where
  begun_more : (zs : List Begun) → AreBegun number l zs → AreBegun number m zs
  begun_more [] g = tt
  begun_more (z ∷ zs) g = (begun_more zs g.0, g.1, omega (arith, g.2))

module _ (number : List ℕ → ℕ) (limit : ℕ) where
  -- what a step answers
  abbrev pub StepIs : Result ObserverState ObserverKind → (List Token → List Token) → Type 0
  StepIs (Ok s) text = Good number limit s text
  StepIs (Err Unexpected) text = Unit {0}
  StepIs (Err TooDeep) text = (more : ℕ) × (limit ≤ more) × (s : ObserverState) × Good number more s text
  StepIs (Err _) text = ⊥

  le_self : (n : ℕ) → n ≤ n
  le_self n = omega arith

  -- one more form is begun, or there is no room for it
  begins : (z : Begun) (zs : List Begun) (text : List Token → List Token) → AreBegun number limit zs → IsBegun (observer_hole (stack number zs)) z → ((r : List Token) → text r ≡ all_leads (z ∷ zs) r) → StepIs (fitting limit (stack number (z ∷ zs))) text
  begins z zs text g b e =
      let n = observer_need (stack number (z ∷ zs)) in
      let s : ObserverState = record { frames = stack number (z ∷ zs); whole = None } in
      let at : (m : ℕ) → limit ≤ m → n ≤ m → Good number m s text = λ m le fits. record { begun = z ∷ zs; holding = None; frames_are = refl; whole_is = refl; good = (begun_more number limit m le zs g, b, fits); fit = fits; written = e } in
      elim (nat_le n limit) as (λ t. nat_le n limit ≡ t → StepIs (if t then Ok s else Err TooDeep) text) [
        | true ↦ λ is. at limit (le_self limit) (leb-true n limit is)
        | false ↦ λ is. let lt = leb-false n limit is in let le : limit ≤ n = omega arith in (n, le, s, at n le (le_self n))
      ] refl

  -- a whole operand that is low enough
  holds : (zs : List Begun) (a : ObserverForm) (s : ObserverState) (text : List Token → List Token) → stack number zs ≡ s.frames → whole_form number (Some a) ≡ s.whole → AreBegun number limit zs → ObserverFormIsAt 6 a → length (stack number zs) + formula_height a ≤ limit → ((r : List Token) → text r ≡ all_leads zs (formula_tokens a r)) → Good number limit s text
  holds zs a s text fs w g at rm e = record {
    begun = zs;
    holding = Some a;
    frames_are = fs;
    whole_is = w;
    good = g;
    fit = record { level = 6; five = omega arith; stands = omega (arith, hole_le (stack number zs)); at = at; room = rm };
    written = e;
  }

  -- a word behind an operand whose forms are completed
  joins : (o : Infix) (zs : List Begun) (b : ObserverForm) (text : List Token → List Token) → AreBegun number limit zs → ObserverFormIsAt (observer_left_level o) b → top_ends number limit zs < observer_left_level o → ((r : List Token) → text r ≡ all_leads zs (formula_tokens b (sign (word.Between o) ∷ r))) → StepIs (fitting limit (stack number (z_infix o b ∷ zs))) text
  joins o zs b text g at stops e = begins (z_infix o b) zs text g (by zs stops, at) e
    where
      by : (zs : List Begun) → top_ends number limit zs < observer_left_level o → observer_hole (stack number zs) ≤ observer_level o
      by [] h = (table o).low
      by (z_paren ∷ zs) h = (table o).low
      by (z_prefix p ∷ zs) h = let t = table o in absurd (omega (arith, h, t.left_high))
      by (z_infix j a ∷ zs) h = may_join j o h

  -- ) behind an operand whose forms are completed
  shuts : (zs : List Begun) (b : ObserverForm) (text : List Token → List Token) → AreBegun number limit zs → ObserverFormIsAt 1 b → length (stack number zs) + formula_height b ≤ limit → ((r : List Token) → text r ≡ all_leads zs (formula_tokens b (sign word.Close ∷ r))) → StepIs (shut_on (stack number zs) (operand number b)) text
  shuts [] b text g at rm e = tt
  shuts (z_paren ∷ zs) b text g at rm e = holds zs (form.paren b) (record { frames = stack number zs; whole = Some (observer_paren_of (operand number b)) }) text refl refl g.0 (omega arith, at) (omega arith) e
  shuts (z_prefix p ∷ zs) b text g at rm e = tt
  shuts (z_infix o a ∷ zs) b text g at rm e = tt

  pub step_good : (zs : List Begun) (h : Option ObserverForm) (t : Token) → AreBegun number limit zs → Fit number limit zs h → StepIs (observer_step limit number (record { frames = stack number zs; whole = whole_form number h }) t) (λ r. all_leads zs (held h (t ∷ r)))
  step_good zs None (name x) g f = holds zs (form.named x) _ _ refl refl g (omega arith) (top_room number limit zs g f) (λ r. refl)
  step_good zs None (sign (word.Truth b)) g f = holds zs (form.truth b) _ _ refl refl g (omega arith) (top_room number limit zs g f) (λ r. refl)
  step_good zs None (sign (word.Before p)) g f = begins (z_prefix p) zs _ g (hole_le (stack number zs)) (λ r. refl)
  step_good zs None (sign word.Open) g f = begins z_paren zs _ g (omega (arith, hole_le (stack number zs))) (λ r. refl)
  step_good zs None (sign (word.Between o)) g f = tt
  step_good zs None (sign word.Close) g f = tt
  step_good zs (Some a) (name x) g f = tt
  step_good zs (Some a) (sign (word.Truth b)) g f = tt
  step_good zs (Some a) (sign (word.Before p)) g f = tt
  step_good zs (Some a) (sign word.Open) g f = tt
  step_good zs (Some a) (sign (word.Between o)) g f =
      let t = table o in
      let c = closed number limit (observer_left_level o) (omega (arith, t.left_low)) zs f.level a g f.at f.stands (omega (arith, t.left_high, f.five)) f.room in
      let text : List Token → List Token = λ r. all_leads zs (formula_tokens a (sign (word.Between o) ∷ r)) in
      subst (λ z. StepIs (observer_joining limit o z) text) (sym c.is) (joins o c.begun c.form text c.good c.at c.stops (λ r. c.text (sign (word.Between o) ∷ r)))
  step_good zs (Some a) (sign word.Close) g f =
      let c = closed number limit 1 (omega arith) zs f.level a g f.at f.stands (omega (arith, f.five)) f.room in
      let text : List Token → List Token = λ r. all_leads zs (formula_tokens a (sign word.Close ∷ r)) in
      subst (λ z. StepIs (shutting z) text) (sym c.is) (shuts c.begun c.form text c.good c.at c.room (λ r. c.text (sign word.Close ∷ r)))
