-- A step of the machine keeps what it has taken written by what it holds.
use Rattle.std.proofs.Common.{◌≡◌, ℕ, ◌+◌, ◌≤◌, max, true, false, List, [], ◌∷◌, ◌++◌, length, map, nat_le, if◌then◌else◌, refl, sym, ap, ap₂, ◌∙◌, subst, arith}
use Rattle.lt_base.specs.declared.operators.Bin.TheVariants.{Sub}
use Rattle.lt_tokens.specs.declared.token.Infix.TheVariants as meet
use Rattle.lt_tokens.specs.declared.token.Token.{Token}
use Rattle.lt_tokens.specs.declared.token.Token.TheVariants as token
use Rattle.lt_syntax.specs.Levels.{infix_line, level}
use Rattle.lt_syntax.specs.Grammar as form
use Rattle.lt_syntax.specs.Grammar.{Form, Forms, IsAt, AreExprs, polarity, tokens, arguments, literal, joined, left_height, height, heights, meaning, meanings}
use Rattle.lt_syntax.specs.Machine.{Operand, Frame, InCall, Mode, Want, Named, Has, WantClock, Next, Bad, Go, Done, name_operand, call_of, part_level, hole, ends, complete, close, stop, want, second, after_operand, has_operand, clock, named, go, need}
use Rattle.lt_syntax.proofs.Complete.{operand, height_pos, left_pos, table, kept_high}
use Rattle.std.proofs.Common.{leb-true}
use Rattle.lt_syntax.proofs.Zipper.{Begun, z_minus, z_not, z_paren, z_infix, z_if, z_then, z_else, z_sampling, z_merge, z_first, z_second, z_call, Holding, z_want, z_named, z_has, z_clock, tallest, frame, stack, mode, commas, opened, all_opened, held, IsBegun, Waits, Ready, closing, forms, at_lower, hole_le, meanings_snoc, tallest_snoc, commas_snoc, exprs_snoc, arguments_snoc, forms_exprs, call_more, completes, room_for}

module _ (limit : ℕ) where
  -- each form is begun where it may be, and there is room for it
  abbrev pub AreBegun : List Begun → Type 0
  AreBegun [] = Unit {0}
  AreBegun (z ∷ zs) = AreBegun zs × IsBegun (hole (stack zs)) z × (need (stack (z ∷ zs)) ≤ limit) × Ready zs

  pub record Whole (zs : List Begun) (a : Form) : Type 0 where
    pub level : ℕ
    pub nine : 9 ≤ level
    pub stands : hole (stack zs) ≤ level
    pub at : IsAt level a
    pub room : length (stack zs) + height a ≤ limit
    pub ready : Ready zs

  abbrev pub Fit : List Begun → Holding → Type 0
  Fit zs z_want = (need (stack zs) ≤ limit) × Ready zs
  Fit zs (z_named x) = (length (stack zs) + 1 ≤ limit) × Ready zs
  Fit zs (z_has a) = Whole zs a
  Fit zs z_clock = Waits zs

  -- the text so far, and then any tokens, is what is begun and held, and then these tokens
  pub record Rest (fs : List Frame) (m : Mode) (text : List Token → List Token) : Type 0 where
    pub begun : List Begun
    pub holding : Holding
    pub stacked : stack begun ≡ fs
    pub held_is : mode holding ≡ m
    pub good : AreBegun begun
    pub fit : Fit begun holding
    pub written : (r : List Token) → text r ≡ all_opened begun (held holding r)

  -- a whole expression before its semicolon
  pub record Ended (a : Operand) (text : List Token → List Token) : Type 0 where
    pub form : Form
    pub is : operand form ≡ a
    pub at : IsAt 1 form
    pub room : height form ≤ limit
    pub written : (r : List Token) → text r ≡ tokens form (token.Semicolon ∷ r)

  -- what a step may answer
  abbrev pub Fine : Next → (List Token → List Token) → Type 0
  Fine Bad text = Unit {0}
  Fine (Go fs Want) text = need fs ≤ limit → Rest fs Want text
  Fine (Go fs WantClock) text = need fs ≤ limit → Rest fs WantClock text
  Fine (Go fs m) text = Rest fs m text
  Fine (Done a) text = Ended a text

  pub top_room : (zs : List Begun) → AreBegun zs → need (stack zs) ≤ limit → length (stack zs) + 1 ≤ limit
  top_room [] g nd = nd
  top_room (z_minus ∷ zs) g nd = omega arith
  top_room (z_not ∷ zs) g nd = omega arith
  top_room (z_paren ∷ zs) g nd = omega arith
  top_room (z_infix o a ∷ zs) g nd = let p = left_pos o (literal a) (height a) (height_pos a) in omega arith
  top_room (z_if ∷ zs) g nd = omega arith
  top_room (z_then c ∷ zs) g nd = omega (arith, height_pos c)
  top_room (z_else c a ∷ zs) g nd = omega (arith, height_pos c)
  top_room (z_sampling a v ∷ zs) g nd = omega (arith, height_pos a)
  top_room (z_merge ∷ zs) g nd = omega arith
  top_room (z_first c ∷ zs) g nd = omega arith
  top_room (z_second c a ∷ zs) g nd = omega (arith, height_pos a)
  top_room (z_call f xs ∷ zs) g nd = omega arith

  record Closed (l : ℕ) (zs : List Begun) (b : Form) : Type 0 where
    begun : List Begun
    form : Form
    is : (k : List Frame → Operand → Next) → close l (stack zs) (operand b) k ≡ k (stack begun) (operand form)
    good : AreBegun begun
    at : IsAt l form
    room : length (stack begun) + height form ≤ limit
    text : (r : List Token) → all_opened zs (tokens b r) ≡ all_opened begun (tokens form r)
    ready : Ready begun

  closed : (l : ℕ) → 1 ≤ l → (zs : List Begun) (m : ℕ) (b : Form) → AreBegun zs → Ready zs → IsAt m b → hole (stack zs) ≤ m → l ≤ m → length (stack zs) + height b ≤ limit → Closed l zs b
  closed l pos [] m b g rd at hm lm rm = record { begun = []; form = b; is = λ k. refl; good = tt; at = at_lower b l m lm at; room = rm; text = λ r. refl; ready = tt }
  closed l pos (z ∷ zs) m b g rd at hm lm rm =
      let f = frame z in
      elim (nat_le l (ends f)) as (λ t. nat_le l (ends f) ≡ t → Closed l (z ∷ zs) b) [
        | true ↦ λ is.
            let le : l ≤ ends f = leb-true l (ends f) is in
            let c = completes z (hole (stack zs)) b g.1 (at_lower b (part_level f) m hm at) (omega arith) in
            let d = closed l pos zs (ends f) (closing z b) g.0 g.3 c.at c.below le (room_for limit z (length (stack zs)) b g.2 (omega arith) (omega arith)) in
            record {
              begun = d.begun;
              form = d.form;
              is = λ k. ap (λ t. if t then close l (stack zs) (complete f (operand b)) k else k (f ∷ stack zs) (operand b)) is ∙ ap (λ a. close l (stack zs) a k) c.is ∙ d.is k;
              good = d.good;
              at = d.at;
              room = d.room;
              text = λ r. ap (all_opened zs) (c.text r) ∙ d.text r;
              ready = d.ready;
            }
        | false ↦ λ is. record { begun = z ∷ zs; form = b; is = λ k. ap (λ t. if t then close l (stack zs) (complete f (operand b)) k else k (f ∷ stack zs) (operand b)) is; good = g; at = at_lower b l m lm at; room = rm; text = λ r. refl; ready = rd }
      ] refl

  -- a test that guards a begun form
  tested : (a b : ℕ) (fs : List Frame) (text : List Token → List Token) → (a ≤ b → need fs ≤ limit → Rest fs Want text) → Fine (if nat_le a b then Go fs Want else Bad) text
  tested a b fs text k = elim (nat_le a b) as (λ t. nat_le a b ≡ t → Fine (if t then Go fs Want else Bad) text) [ true ↦ λ is. k (leb-true a b is) | false ↦ λ is. tt ] refl

  tested_clock : (a b : ℕ) (fs : List Frame) (text : List Token → List Token) → (a ≤ b → need fs ≤ limit → Rest fs WantClock text) → Fine (if nat_le a b then Go fs WantClock else Bad) text
  tested_clock a b fs text k = elim (nat_le a b) as (λ t. nat_le a b ≡ t → Fine (if t then Go fs WantClock else Bad) text) [ true ↦ λ is. k (leb-true a b is) | false ↦ λ is. tt ] refl

  -- a form on top
  begins : (z : Begun) (zs : List Begun) (text : List Token → List Token) → AreBegun zs → Ready zs → Ready (z ∷ zs) → IsBegun (hole (stack zs)) z → need (stack (z ∷ zs)) ≤ limit → ((r : List Token) → text r ≡ all_opened zs (opened z r)) → Rest (stack (z ∷ zs)) Want text
  begins z zs text g rd top b nd e = record { begun = z ∷ zs; holding = z_want; stacked = refl; held_is = refl; good = (g, b, nd, rd); fit = (nd, top); written = e }

  -- a whole operand
  whole : (zs : List Begun) (a : Form) (m : ℕ) (text : List Token → List Token) → AreBegun zs → Ready zs → 9 ≤ m → hole (stack zs) ≤ m → IsAt m a → length (stack zs) + height a ≤ limit → ((r : List Token) → text r ≡ all_opened zs (tokens a r)) → Rest (stack zs) (Has (operand a)) text
  whole zs a m text g rd nine st at rm e = record { begun = zs; holding = z_has a; stacked = refl; held_is = refl; good = g; fit = record { level = m; nine = nine; stands = st; at = at; room = rm; ready = rd }; written = e }

  call_rest : (zs : List Begun) (f : List ℕ) (xs : List Form) (a : Form) (text : List Token → List Token) → AreBegun (z_call f xs ∷ zs) → IsAt 1 a → length (stack (z_call f xs ∷ zs)) + height a ≤ limit → ((r : List Token) → text r ≡ all_opened zs (token.Ident f ∷ token.Open ∷ commas xs (tokens a (token.Close ∷ r)))) → Rest (stack zs) (Has (call_of f (map meaning xs ++ meaning a ∷ []) (max (tallest xs) (height a)))) text
  call_rest zs f xs a text g at rm e =
      let c = form.call f (forms (xs ++ a ∷ [])) in
      let h : height c ≡ max 1 (max (tallest xs) (height a)) + 1 = sym (ap (λ o. o.height) (call_more f xs a)) in
      subst (λ o. Rest (stack zs) (Has o) text) (sym (call_more f xs a))
      (whole zs c 11 text g.0 g.3 (omega arith) g.1.0 (omega arith, forms_exprs (xs ++ a ∷ []) (exprs_snoc xs a g.1.1 at)) (omega (arith, h, g.2, rm))
      (λ r. e r ∙ ap (λ z. all_opened zs (token.Ident f ∷ token.Open ∷ z)) (sym (arguments_snoc xs a (token.Close ∷ r)))))

  comma_rest : (zs : List Begun) (f : List ℕ) (xs : List Form) (a : Form) (text : List Token → List Token) → AreBegun (z_call f xs ∷ zs) → IsAt 1 a → ((r : List Token) → text r ≡ all_opened zs (token.Ident f ∷ token.Open ∷ commas xs (tokens a (token.Comma ∷ r)))) → need (InCall f (map meaning xs ++ meaning a ∷ []) (max (tallest xs) (height a)) ∷ stack zs) ≤ limit → Rest (InCall f (map meaning xs ++ meaning a ∷ []) (max (tallest xs) (height a)) ∷ stack zs) Want text
  comma_rest zs f xs a text g at e nd =
      let z = z_call f (xs ++ a ∷ []) in
      let s : frame z ≡ InCall f (map meaning xs ++ meaning a ∷ []) (max (tallest xs) (height a)) = sym (ap₂ (InCall f) (meanings_snoc xs a) (tallest_snoc xs a)) in
      let nd' : need (stack (z ∷ zs)) ≤ limit = omega (arith, nd, tallest_snoc xs a) in
      subst (λ f'. Rest (f' ∷ stack zs) Want text) s
      (begins z zs text g.0 g.3 tt (g.1.0, exprs_snoc xs a g.1.1 at) nd' (λ r. e r ∙ ap (λ z. all_opened zs (token.Ident f ∷ token.Open ∷ z)) (sym (commas_snoc xs a r))))

  after_fine : (t : Token) (zs : List Begun) (b : Form) → AreBegun zs → Ready zs → IsAt (stop t) b → stop t ≤ 9 → length (stack zs) + height b ≤ limit → Fine (after_operand t (stack zs) (operand b)) (λ r. all_opened zs (tokens b (t ∷ r)))
  after_fine (token.Infix o) zs b g rd at lo rm = tested (hole (stack zs)) (level (infix_line o)) (stack (z_infix o b ∷ zs)) _ (λ le nd. begins (z_infix o b) zs _ g rd tt (le, at) nd (λ r. refl))
  after_fine token.When zs b g rd at lo rm = tested_clock (hole (stack zs)) 9 (stack (z_sampling b true ∷ zs)) _ (λ le nd. record { begun = z_sampling b true ∷ zs; holding = z_clock; stacked = refl; held_is = refl; good = (g, (le, at), nd, rd); fit = tt; written = λ r. refl })
  after_fine token.Close (z_paren ∷ zs) b g rd at lo rm = whole zs (form.paren b) 12 _ g.0 g.3 (omega arith) (hole_le (stack zs)) (omega arith, at) (omega arith) (λ r. refl)
  after_fine token.Close (z_call f xs ∷ zs) b g rd at lo rm = call_rest zs f xs b _ g at rm (λ r. refl)
  after_fine token.Comma (z_call f xs ∷ zs) b g rd at lo rm = comma_rest zs f xs b _ g at (λ r. refl)
  after_fine token.Then (z_if ∷ zs) b g rd at lo rm = λ nd. begins (z_then b) zs _ g.0 g.3 tt (g.1, at) nd (λ r. refl)
  after_fine token.Else (z_then c ∷ zs) b g rd at lo rm = λ nd. begins (z_else c b) zs _ g.0 g.3 tt (g.1.0, g.1.1, at) nd (λ r. refl)
  after_fine token.Semicolon [] b g rd at lo rm = record { form = b; is = refl; at = at; room = omega arith; written = λ r. refl }
  after_fine (token.Number n) zs b g rd at lo rm = absurd (omega (arith, lo))
  after_fine (token.Truth n) zs b g rd at lo rm = absurd (omega (arith, lo))
  after_fine (token.Ident n) zs b g rd at lo rm = absurd (omega (arith, lo))
  after_fine token.Open zs b g rd at lo rm = absurd (omega (arith, lo))
  after_fine _ _ b g rd at lo rm = tt

  want_fine : (t : Token) (zs : List Begun) → AreBegun zs → Ready zs → need (stack zs) ≤ limit → Fine (want t (stack zs)) (λ r. all_opened zs (t ∷ r))
  want_fine (token.Number n) zs g rd nd = whole zs (form.number n) 12 _ g rd (omega arith) (hole_le (stack zs)) (omega arith) (top_room zs g nd) (λ r. refl)
  want_fine (token.Truth b) zs g rd nd = whole zs (form.truth b) 12 _ g rd (omega arith) (hole_le (stack zs)) (omega arith) (top_room zs g nd) (λ r. refl)
  want_fine (token.Ident x) zs g rd nd = record { begun = zs; holding = z_named x; stacked = refl; held_is = refl; good = g; fit = (top_room zs g nd, rd); written = λ r. refl }
  want_fine token.Open zs g rd nd = λ k. begins z_paren zs _ g rd tt (hole_le (stack zs)) k (λ r. refl)
  want_fine (token.Infix (meet.Operator Sub)) zs g rd nd = tested (hole (stack zs)) 10 (stack (z_minus ∷ zs)) _ (λ le k. begins z_minus zs _ g rd tt le k (λ r. refl))
  want_fine token.Not zs g rd nd = tested (hole (stack zs)) 5 (stack (z_not ∷ zs)) _ (λ le k. begins z_not zs _ g rd tt le k (λ r. refl))
  want_fine token.If zs g rd nd = tested (hole (stack zs)) 1 (stack (z_if ∷ zs)) _ (λ le k. begins z_if zs _ g rd tt le k (λ r. refl))
  want_fine token.Merge zs g rd nd = tested_clock (hole (stack zs)) 11 (stack (z_merge ∷ zs)) _ (λ le k. record { begun = z_merge ∷ zs; holding = z_clock; stacked = refl; held_is = refl; good = (g, le, k, rd); fit = tt; written = λ r. refl })
  want_fine token.Close (z_call f [] ∷ zs) g rd nd = whole zs (form.call f form.nil) 11 _ g.0 g.3 (omega arith) g.1.0 (omega arith, tt) (omega arith) (λ r. refl)
  want_fine _ zs g rd nd = tt

  -- the second part of a merge
  second_fine : (t : Token) (zs : List Begun) (b : Form) → AreBegun zs → Whole zs b → Fine (second t (stack zs) (operand b)) (λ r. all_opened zs (tokens b (t ∷ r)))
  second_fine t (z_first c ∷ zs) b g w =
      want_fine t (z_second c b ∷ zs) (g.0, (g.1, at_lower b 12 w.level w.stands w.at), omega (arith, w.room), g.3) tt (omega (arith, w.room))
  second_fine t [] b g w = tt
  second_fine t (z_minus ∷ zs) b g w = tt
  second_fine t (z_not ∷ zs) b g w = tt
  second_fine t (z_paren ∷ zs) b g w = tt
  second_fine t (z_infix o a ∷ zs) b g w = tt
  second_fine t (z_if ∷ zs) b g w = tt
  second_fine t (z_then c ∷ zs) b g w = tt
  second_fine t (z_else c a ∷ zs) b g w = tt
  second_fine t (z_sampling a v ∷ zs) b g w = tt
  second_fine t (z_merge ∷ zs) b g w = tt
  second_fine t (z_second c a ∷ zs) b g w = tt
  second_fine t (z_call f xs ∷ zs) b g w = tt

  fine_is : (n m : Next) (text : List Token → List Token) → m ≡ n → Fine n text → Fine m text
  fine_is n m text e f = subst (λ z. Fine z text) (sym e) f

  fine_text : (n : Next) (f g : List Token → List Token) → ((r : List Token) → f r ≡ g r) → Fine n g → Fine n f
  fine_text Bad f g e h = tt
  fine_text (Go fs Want) f g e h = λ nd. let r = h nd in record { begun = r.begun; holding = r.holding; stacked = r.stacked; held_is = r.held_is; good = r.good; fit = r.fit; written = λ z. e z ∙ r.written z }
  fine_text (Go fs WantClock) f g e h = λ nd. let r = h nd in record { begun = r.begun; holding = r.holding; stacked = r.stacked; held_is = r.held_is; good = r.good; fit = r.fit; written = λ z. e z ∙ r.written z }
  fine_text (Go fs (Named x)) f g e r = record { begun = r.begun; holding = r.holding; stacked = r.stacked; held_is = r.held_is; good = r.good; fit = r.fit; written = λ z. e z ∙ r.written z }
  fine_text (Go fs (Has a)) f g e r = record { begun = r.begun; holding = r.holding; stacked = r.stacked; held_is = r.held_is; good = r.good; fit = r.fit; written = λ z. e z ∙ r.written z }
  fine_text (Done a) f g e d = record { form = d.form; is = d.is; at = d.at; room = d.room; written = λ z. e z ∙ d.written z }

  ended_fine : (t : Token) → 1 ≤ stop t → stop t ≤ 9 → (zs : List Begun) (b : Form) → AreBegun zs → Whole zs b → Fine (has_operand (stack zs) (operand b) t) (λ r. all_opened zs (tokens b (t ∷ r)))
  ended_fine t lo hi zs b g w =
      let c = closed (stop t) lo zs w.level b g w.ready w.at w.stands (omega (arith, w.nine)) w.room in
      fine_is (after_operand t (stack c.begun) (operand c.form)) (has_operand (stack zs) (operand b) t) _ (c.is (after_operand t))
      (fine_text (after_operand t (stack c.begun) (operand c.form)) (λ r. all_opened zs (tokens b (t ∷ r))) (λ r. all_opened c.begun (tokens c.form (t ∷ r))) (λ r. c.text (t ∷ r)) (after_fine t c.begun c.form c.good c.ready c.at hi c.room))

  high_fine : (t : Token) → stop t ≡ 12 → (zs : List Begun) (b : Form) (text : List Token → List Token) → Fine (after_operand t (stack zs) (operand b)) text → Fine (has_operand (stack zs) (operand b) t) text
  high_fine t e zs b text f = fine_is (after_operand t (stack zs) (operand b)) (has_operand (stack zs) (operand b) t) text (ap (λ l. close l (stack zs) (operand b) (after_operand t)) e ∙ kept_high (stack zs) (operand b) (after_operand t)) f

  has_fine : (t : Token) (zs : List Begun) (b : Form) → AreBegun zs → Whole zs b → Fine (has_operand (stack zs) (operand b) t) (λ r. all_opened zs (tokens b (t ∷ r)))
  has_fine (token.Infix o) zs b g w = let k = table (infix_line o) in ended_fine (token.Infix o) (omega (arith, k.low, k.lefts)) (omega (arith, k.left_high)) zs b g w
  has_fine token.When zs b g w = ended_fine token.When (omega arith) (omega arith) zs b g w
  has_fine token.Close zs b g w = ended_fine token.Close (omega arith) (omega arith) zs b g w
  has_fine token.Comma zs b g w = ended_fine token.Comma (omega arith) (omega arith) zs b g w
  has_fine token.Then zs b g w = ended_fine token.Then (omega arith) (omega arith) zs b g w
  has_fine token.Else zs b g w = ended_fine token.Else (omega arith) (omega arith) zs b g w
  has_fine token.Semicolon zs b g w = ended_fine token.Semicolon (omega arith) (omega arith) zs b g w
  has_fine (token.Number n) zs b g w = high_fine (token.Number n) refl zs b _ (second_fine (token.Number n) zs b g w)
  has_fine (token.Truth n) zs b g w = high_fine (token.Truth n) refl zs b _ (second_fine (token.Truth n) zs b g w)
  has_fine (token.Ident n) zs b g w = high_fine (token.Ident n) refl zs b _ (second_fine (token.Ident n) zs b g w)
  has_fine token.Open zs b g w = high_fine token.Open refl zs b _ (second_fine token.Open zs b g w)
  has_fine token.Not zs b g w = high_fine token.Not refl zs b _ tt
  has_fine token.Merge zs b g w = high_fine token.Merge refl zs b _ tt
  has_fine token.If zs b g w = high_fine token.If refl zs b _ tt
  has_fine token.Colon zs b g w = high_fine token.Colon refl zs b _ tt
  has_fine token.Node zs b g w = high_fine token.Node refl zs b _ tt
  has_fine token.Returns zs b g w = high_fine token.Returns refl zs b _ tt
  has_fine token.Var zs b g w = high_fine token.Var refl zs b _ tt
  has_fine token.Let zs b g w = high_fine token.Let refl zs b _ tt
  has_fine token.Tel zs b g w = high_fine token.Tel refl zs b _ tt
  has_fine (token.Type ty) zs b g w = high_fine (token.Type ty) refl zs b _ tt

  name_whole : (x : List ℕ) (zs : List Begun) → (length (stack zs) + 1 ≤ limit) × Ready zs → Whole zs (form.name x)
  name_whole x zs rm = record { level = 12; nine = omega arith; stands = hole_le (stack zs); at = omega arith; room = rm.0; ready = rm.1 }

  named_fine : (x : List ℕ) (t : Token) (zs : List Begun) → AreBegun zs → (length (stack zs) + 1 ≤ limit) × Ready zs → Fine (named x (stack zs) t) (λ r. all_opened zs (token.Ident x ∷ t ∷ r))
  named_fine x token.Open zs g rm =
      let text : List Token → List Token = λ r. all_opened zs (token.Ident x ∷ token.Open ∷ r) in
      let h = hole (stack zs) in
      elim (nat_le h 11) as (λ b. nat_le h 11 ≡ b → Fine (if b then Go (InCall x [] 0 ∷ stack zs) Want else has_operand (stack zs) (name_operand x) token.Open) text) [
        | true ↦ λ is. λ nd. begins (z_call x []) zs text g rm.1 tt (leb-true h 11 is, tt) nd (λ r. refl)
        | false ↦ λ is. has_fine token.Open zs (form.name x) g (name_whole x zs rm)
      ] refl
  named_fine x t zs g rm = has_fine t zs (form.name x) g (name_whole x zs rm)

  clock_fine : (t : Token) (zs : List Begun) → AreBegun zs → Waits zs → Fine (clock t (stack zs)) (λ r. all_opened zs (t ∷ r))
  clock_fine token.Not (z_sampling a true ∷ zs) g k = λ nd. record { begun = z_sampling a false ∷ zs; holding = z_clock; stacked = refl; held_is = refl; good = (g.0, g.1, nd, g.3); fit = tt; written = λ r. refl }
  clock_fine (token.Ident c) (z_sampling a b ∷ zs) g k = whole zs (form.sampled a c b) 9 _ g.0 g.3 (omega arith) g.1.0 (omega arith, g.1.1) (omega (arith, g.2)) (λ r. refl)
  clock_fine (token.Ident c) (z_merge ∷ zs) g k = λ nd. begins (z_first c) zs _ g.0 g.3 tt g.1 nd (λ r. refl)
  clock_fine _ _ g k = tt

  pub go_fine : (h : Holding) (zs : List Begun) (t : Token) → AreBegun zs → Fit zs h → Fine (go (mode h) (stack zs) t) (λ r. all_opened zs (held h (t ∷ r)))
  go_fine z_want zs t g f = want_fine t zs g f.1 f.0
  go_fine (z_named x) zs t g f = named_fine x t zs g f
  go_fine (z_has a) zs t g f = has_fine t zs a g f
  go_fine z_clock zs t g f = clock_fine t zs g f
