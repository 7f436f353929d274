-- Each form is read by the machine.
use Rattle.std.proofs.Common.{◌≡◌, ℕ, ◌+◌, ◌≤◌, max, Bool, true, false, List, [], ◌∷◌, ◌++◌, length, None, Result, Ok, Err, if◌then◌else◌, refl, sym, ap, ap₂, ◌∙◌, arith, le-leb, append_assoc}
use Rattle.lt_base.specs.declared.operators.Bin.TheVariants.{Sub}
use Rattle.lt_tokens.specs.declared.token.Infix.{Infix}
use Rattle.lt_tokens.specs.declared.token.Infix.TheVariants as meet
use Rattle.lt_tokens.specs.declared.token.Token.{Token}
use Rattle.lt_tokens.specs.declared.token.Token.TheVariants as token
use Rattle.lt_syntax.specs.declared.tree.NodeText.{NodeText}
use Rattle.lt_syntax.specs.Tree as tree
use Rattle.lt_syntax.specs.Tree.{Tm, tms}
use Rattle.lt_syntax.specs.Levels.{infix_line, level, left_level, right_level}
use Rattle.lt_syntax.specs.Grammar as form
use Rattle.lt_syntax.specs.Grammar.{Form, Forms, IsAt, AreExprs, polarity, tokens, arguments, literal, joined, left_height, height, heights, meaning, meanings}
use Rattle.lt_syntax.specs.Machine.{Operand, Frame, AfterMinus, AfterNot, InParen, AfterInfix, AfterIf, AfterThen, AfterElse, Sampling, AfterMerge, FirstPart, SecondPart, InCall, Mode, Want, Named, Has, WantClock, Bad, Go, number_operand, truth_operand, name_operand, call_of, hole, ends, complete, stop, want, after_operand, has_operand, go, need}
use Rattle.lt_syntax.specs.Parser.{In, ParserState, Kind, TooDeep, checked, finish, on, parser_run}
use Rattle.lt_syntax.proofs.Complete.{operand, height_pos, left_pos, literal_low, table, kept_infix, kept_when, ended, not_call, negative_of}

-- the trees of arguments, as a list
abbrev pub trees_of : Forms → List Tm
trees_of form.nil = []
trees_of (form.cons a xs) = meaning a ∷ trees_of xs

pub trees_meant : (xs : Forms) → tms (trees_of xs) ≡ meanings xs
trees_meant form.nil = refl
trees_meant (form.cons a xs) = ap (tree.Cons (meaning a)) (trees_meant xs)

-- what a token that may begin the second part of a merge does there
pub record Starts (ts : List Token) : Type 0 where
  pub first : Token
  pub more : List Token
  pub is : ts ≡ first ∷ more
  pub level : stop first ≤ 12
  pub begins : (c : List ℕ) (a : Operand) (fs : List Frame) → has_operand (FirstPart c ∷ fs) a first ≡ want first (SecondPart c a ∷ fs)

pub starts : (b : Form) → IsAt 12 b → (ts : List Token) → Starts (tokens b ts)
starts (form.number n) at ts = record { first = token.Number n; more = ts; is = refl; level = omega arith; begins = λ c a fs. refl }
starts (form.truth v) at ts = record { first = token.Truth v; more = ts; is = refl; level = omega arith; begins = λ c a fs. refl }
starts (form.name x) at ts = record { first = token.Ident x; more = ts; is = refl; level = omega arith; begins = λ c a fs. refl }
starts (form.paren b) at ts = record { first = token.Open; more = tokens b (token.Close ∷ ts); is = refl; level = omega arith; begins = λ c a fs. refl }
starts (form.minus b) at ts = absurd (omega (arith, at.0))
starts (form.negated b) at ts = absurd (omega (arith, at.0))
starts (form.binary o a b) at ts = let t = table (infix_line o) in absurd (omega (arith, at.0, t.high))
starts (form.choice c a b) at ts = absurd (omega (arith, at.0))
starts (form.sampled a c b) at ts = absurd (omega (arith, at.0))
starts (form.merged c a b) at ts = absurd (omega (arith, at.0))
starts (form.call f xs) at ts = absurd (omega (arith, at.0))

module _ (limit : ℕ) (done : List NodeText) (n : NodeText) (x : List ℕ) where
  abbrev pub from : List Frame → Mode → List Token → Result ParserState Kind
  from fs m ts = parser_run limit (record { done = done; phase = In n x fs m }) ts

  abbrev state : List Frame → Mode → Result ParserState Kind
  state fs m = Ok (record { done = done; phase = In n x fs m })

  -- one step that begins a form or its next part
  moves : (fs : List Frame) (m : Mode) (t : Token) (fs' : List Frame) (w : List Token) → go m fs t ≡ Go fs' Want → need fs' ≤ limit → from fs m (t ∷ w) ≡ from fs' Want w
  moves fs m t fs' w e h =
      ap (λ z. on (finish done (checked limit n x z)) (λ s. parser_run limit s w)) e
      ∙ ap (λ b. on (finish done (if b then Ok (In n x fs' Want) else Err TooDeep)) (λ s. parser_run limit s w)) (le-leb (need fs') limit h)

  -- one step behind which a clock's variable must come
  clocks : (fs : List Frame) (m : Mode) (t : Token) (fs' : List Frame) (w : List Token) → go m fs t ≡ Go fs' WantClock → need fs' ≤ limit → from fs m (t ∷ w) ≡ from fs' WantClock w
  clocks fs m t fs' w e h =
      ap (λ z. on (finish done (checked limit n x z)) (λ s. parser_run limit s w)) e
      ∙ ap (λ b. on (finish done (if b then Ok (In n x fs' WantClock) else Err TooDeep)) (λ s. parser_run limit s w)) (le-leb (need fs') limit h)

  -- two states that take the next token alike
  alike : (fs : List Frame) (m : Mode) (t : Token) (fs' : List Frame) (m' : Mode) (w : List Token) → go m fs t ≡ go m' fs' t → from fs m (t ∷ w) ≡ from fs' m' (t ∷ w)
  alike fs m t fs' m' w e = ap (λ z. on (finish done (checked limit n x z)) (λ s. parser_run limit s w)) e

  -- one step that ends a form
  lands : (fs : List Frame) (m : Mode) (t : Token) (fs' : List Frame) (b : Operand) (w : List Token) → go m fs t ≡ Go fs' (Has b) → from fs m (t ∷ w) ≡ from fs' (Has b) w
  lands fs m t fs' b w e = ap (λ z. on (finish done (checked limit n x z)) (λ s. parser_run limit s w)) e

  -- the next token completes the newest form
  finishes : (f : Frame) (fs : List Frame) (a : Operand) (t : Token) (w : List Token) → stop t ≤ ends f → from (f ∷ fs) (Has a) (t ∷ w) ≡ from fs (Has (complete f a)) (t ∷ w)
  finishes f fs a t w h = alike (f ∷ fs) (Has a) t fs (Has (complete f a)) w (ended (stop t) f fs a (after_operand t) h)

  -- the form is read, where a token that ends it follows
  pub record Runs (a : Form) : Type 0 where
    pub by : (l : ℕ) → IsAt l a → (fs : List Frame) (t : Token) (w : List Token) → hole fs ≤ l → stop t ≤ l → stop t ≤ max 11 (hole fs) → need fs ≤ limit → length fs + height a ≤ limit → from fs Want (tokens a (t ∷ w)) ≡ from fs (Has (operand a)) (t ∷ w)

  runs_number : (v : ℕ) → Runs (form.number v)
  runs_number v = record { by = λ l at fs t w hl st sh nd hh. lands fs Want (token.Number v) fs (number_operand v) (t ∷ w) refl }

  runs_truth : (b : Bool) → Runs (form.truth b)
  runs_truth b = record { by = λ l at fs t w hl st sh nd hh. lands fs Want (token.Truth b) fs (truth_operand b) (t ∷ w) refl }

  runs_name : (y : List ℕ) → Runs (form.name y)
  runs_name y = record { by = λ l at fs t w hl st sh nd hh. alike fs (Named y) t fs (Has (name_operand y)) w (not_call y fs t sh) }

  runs_paren : (a : Form) → Runs a → Runs (form.paren a)
  runs_paren a ra = record {
    by = λ l at fs t w hl st sh nd hh.
        let h : need (InParen ∷ fs) ≤ limit = omega (arith, height_pos a) in
        moves fs Want token.Open (InParen ∷ fs) (tokens a (token.Close ∷ t ∷ w)) refl h
        ∙ ra.by 1 at.1 (InParen ∷ fs) token.Close (t ∷ w) (omega arith) (omega arith) (omega arith) h (omega arith)
        ∙ lands (InParen ∷ fs) (Has (operand a)) token.Close fs (operand (form.paren a)) (t ∷ w) refl;
  }

  runs_minus : (a : Form) → Runs a → Runs (form.minus a)
  runs_minus a ra = record {
    by = λ l at fs t w hl st sh nd hh.
        let h : need (AfterMinus ∷ fs) ≤ limit = omega (arith, height_pos a) in
        let e : go Want fs (token.Infix (meet.Operator Sub)) ≡ Go (AfterMinus ∷ fs) Want = ap (λ b. if b then Go (AfterMinus ∷ fs) Want else Bad) (le-leb (hole fs) 10 (omega arith)) in
        moves fs Want (token.Infix (meet.Operator Sub)) (AfterMinus ∷ fs) (tokens a (t ∷ w)) e h
        ∙ ra.by 11 at.1 (AfterMinus ∷ fs) t w (omega arith) (omega arith) (omega arith) h (omega arith)
        ∙ finishes AfterMinus fs (operand a) t w (omega arith)
        ∙ ap (λ b. from fs (Has b) (t ∷ w)) (negative_of a at.1);
  }

  runs_negated : (a : Form) → Runs a → Runs (form.negated a)
  runs_negated a ra = record {
    by = λ l at fs t w hl st sh nd hh.
        let h : need (AfterNot ∷ fs) ≤ limit = omega (arith, height_pos a) in
        let e : go Want fs token.Not ≡ Go (AfterNot ∷ fs) Want = ap (λ b. if b then Go (AfterNot ∷ fs) Want else Bad) (le-leb (hole fs) 5 (omega arith)) in
        moves fs Want token.Not (AfterNot ∷ fs) (tokens a (t ∷ w)) e h
        ∙ ra.by 5 at.1 (AfterNot ∷ fs) t w (omega arith) (omega arith) (omega arith) h (omega arith)
        ∙ finishes AfterNot fs (operand a) t w (omega arith);
  }

  runs_binary : (o : Infix) (a b : Form) → Runs a → Runs b → Runs (form.binary o a b)
  runs_binary o a b ra rb = record {
    by = λ l at fs t w hl st sh nd hh.
        let k = infix_line o in
        let tt' = table k in
        let f = AfterInfix o (operand a) in
        let pa = height_pos a in
        let lp = left_pos o (literal a) (height a) pa in
        let h : need (f ∷ fs) ≤ limit = omega arith in
        let hl' : hole fs ≤ level k = omega arith in
        let e : go (Has (operand a)) fs (token.Infix o) ≡ Go (f ∷ fs) Want =
        kept_infix k fs (operand a) (after_operand (token.Infix o)) hl' ∙ ap (λ b. if b then Go (f ∷ fs) Want else Bad) (le-leb (hole fs) (level k) hl') in
        ra.by (left_level k) at.1 fs (token.Infix o) (tokens b (t ∷ w)) (omega (arith, tt'.lefts)) (omega arith) (omega (arith, tt'.left_high)) nd (omega (arith, literal_low o a))
        ∙ moves fs (Has (operand a)) (token.Infix o) (f ∷ fs) (tokens b (t ∷ w)) e h
        ∙ rb.by (right_level k) at.2 (f ∷ fs) t w (omega arith) (omega (arith, tt'.rights)) (omega (arith, tt'.high)) h (omega arith)
        ∙ finishes f fs (operand b) t w (omega arith);
  }

  runs_choice : (c a b : Form) → Runs c → Runs a → Runs b → Runs (form.choice c a b)
  runs_choice c a b rc ra rb = record {
    by = λ l at fs t w hl st sh nd hh.
        let f = AfterElse (operand c) (operand a) in
        let h1 : need (AfterIf ∷ fs) ≤ limit = omega (arith, height_pos c) in
        let h2 : need (AfterThen (operand c) ∷ fs) ≤ limit = omega (arith, height_pos c) in
        let h3 : need (f ∷ fs) ≤ limit = omega arith in
        let e : go Want fs token.If ≡ Go (AfterIf ∷ fs) Want = ap (λ b. if b then Go (AfterIf ∷ fs) Want else Bad) (le-leb (hole fs) 1 (omega arith)) in
        let w2 = tokens b (t ∷ w) in
        let w1 = tokens a (token.Else ∷ w2) in
        moves fs Want token.If (AfterIf ∷ fs) (tokens c (token.Then ∷ w1)) e h1
        ∙ rc.by 1 at.1 (AfterIf ∷ fs) token.Then w1 (omega arith) (omega arith) (omega arith) h1 (omega arith)
        ∙ moves (AfterIf ∷ fs) (Has (operand c)) token.Then (AfterThen (operand c) ∷ fs) w1 refl h2
        ∙ ra.by 1 at.2 (AfterThen (operand c) ∷ fs) token.Else w2 (omega arith) (omega arith) (omega arith) h2 (omega arith)
        ∙ moves (AfterThen (operand c) ∷ fs) (Has (operand a)) token.Else (f ∷ fs) w2 refl h3
        ∙ rb.by 1 at.3 (f ∷ fs) t w (omega arith) (omega arith) (omega arith) h3 (omega arith)
        ∙ finishes f fs (operand b) t w (omega arith);
  }

  runs_sampled : (a : Form) (c : List ℕ) (b : Bool) → Runs a → Runs (form.sampled a c b)
  runs_sampled a c b ra = record {
    by = λ l at fs t w hl st sh nd hh.
        let f = Sampling (operand a) true in
        let h : need (f ∷ fs) ≤ limit = omega arith in
        let hl' : hole fs ≤ 9 = omega arith in
        let e : go (Has (operand a)) fs token.When ≡ Go (f ∷ fs) WantClock =
        kept_when fs (operand a) (after_operand token.When) hl' ∙ ap (λ b. if b then Go (f ∷ fs) WantClock else Bad) (le-leb (hole fs) 9 hl') in
        ra.by 9 at.1 fs token.When (polarity b (token.Ident c ∷ t ∷ w)) (omega arith) (omega arith) (omega arith) nd (omega arith)
        ∙ clocks fs (Has (operand a)) token.When (f ∷ fs) (polarity b (token.Ident c ∷ t ∷ w)) e h
        ∙ elim b as (λ b. from (f ∷ fs) WantClock (polarity b (token.Ident c ∷ t ∷ w)) ≡ from fs (Has (operand (form.sampled a c b))) (t ∷ w)) [
          | true ↦ lands (f ∷ fs) WantClock (token.Ident c) fs (operand (form.sampled a c true)) (t ∷ w) refl
          | false ↦ clocks (f ∷ fs) WantClock token.Not (Sampling (operand a) false ∷ fs) (token.Ident c ∷ t ∷ w) refl h
              ∙ lands (Sampling (operand a) false ∷ fs) WantClock (token.Ident c) fs (operand (form.sampled a c false)) (t ∷ w) refl
        ];
  }

  runs_merged : (c : List ℕ) (a b : Form) → Runs a → Runs b → Runs (form.merged c a b)
  runs_merged c a b ra rb = record {
    by = λ l at fs t w hl st sh nd hh.
        let f = FirstPart c in
        let g = SecondPart c (operand a) in
        let pa = height_pos a in
        let h1 : need (AfterMerge ∷ fs) ≤ limit = omega arith in
        let h2 : need (f ∷ fs) ≤ limit = omega arith in
        let h3 : need (g ∷ fs) ≤ limit = omega arith in
        let e : go Want fs token.Merge ≡ Go (AfterMerge ∷ fs) WantClock = ap (λ b. if b then Go (AfterMerge ∷ fs) WantClock else Bad) (le-leb (hole fs) 11 (omega arith)) in
        let s = starts b at.2 (t ∷ w) in
        clocks fs Want token.Merge (AfterMerge ∷ fs) (token.Ident c ∷ tokens a (tokens b (t ∷ w))) e h1
        ∙ moves (AfterMerge ∷ fs) WantClock (token.Ident c) (f ∷ fs) (tokens a (tokens b (t ∷ w))) refl h2
        ∙ ap (λ z. from (f ∷ fs) Want (tokens a z)) s.is
        ∙ ra.by 12 at.1 (f ∷ fs) s.first s.more (omega arith) s.level (omega (arith, s.level)) h2 (omega arith)
        ∙ alike (f ∷ fs) (Has (operand a)) s.first (g ∷ fs) Want s.more (s.begins c (operand a) fs)
        ∙ ap (from (g ∷ fs) Want) (sym s.is)
        ∙ rb.by 12 at.2 (g ∷ fs) t w (omega arith) (omega arith) (omega arith) h3 (omega arith)
        ∙ finishes g fs (operand b) t w (omega arith);
  }

  abbrev AllRun : Forms → Type 0
  AllRun form.nil = Unit {0}
  AllRun (form.cons a xs) = Runs a × AllRun xs

  -- the rest of the arguments of a call, and its end
  args_run : (f : List ℕ) (ys : List Tm) (h : ℕ) (a : Form) (xs : Forms) → Runs a → AllRun xs → IsAt 1 a → AreExprs xs → (fs : List Frame) (w : List Token) → length fs + max 1 (max h (heights (form.cons a xs))) + 1 ≤ limit → from (InCall f ys h ∷ fs) Want (arguments (form.cons a xs) (token.Close ∷ w)) ≡ from fs (Has (call_of f (ys ++ trees_of (form.cons a xs)) (max h (heights (form.cons a xs))))) w
  args_run f ys h a form.nil ra rxs at axs fs w hh =
      let e : max h (height a) ≡ max h (heights (form.cons a form.nil)) = omega arith in
      ra.by 1 at (InCall f ys h ∷ fs) token.Close w (omega arith) (omega arith) (omega arith) (omega arith) (omega arith)
      ∙ lands (InCall f ys h ∷ fs) (Has (operand a)) token.Close fs (call_of f (ys ++ meaning a ∷ []) (max h (height a))) w refl
      ∙ ap (λ m. from fs (Has (call_of f (ys ++ meaning a ∷ []) m)) w) e
  args_run f ys h a (form.cons b xs) ra rxs at axs fs w hh =
      let zs = ys ++ meaning a ∷ [] in
      let g = InCall f zs (max h (height a)) in
      let n : need (g ∷ fs) ≤ limit = omega arith in
      let e : max (max h (height a)) (heights (form.cons b xs)) ≡ max h (heights (form.cons a (form.cons b xs))) = omega arith in
      let k : length fs + max 1 (max (max h (height a)) (heights (form.cons b xs))) + 1 ≤ limit = omega arith in
      ra.by 1 at (InCall f ys h ∷ fs) token.Comma (arguments (form.cons b xs) (token.Close ∷ w)) (omega arith) (omega arith) (omega arith) (omega arith) (omega arith)
      ∙ moves (InCall f ys h ∷ fs) (Has (operand a)) token.Comma (g ∷ fs) (arguments (form.cons b xs) (token.Close ∷ w)) refl n
      ∙ args_run f zs (max h (height a)) b xs rxs.0 rxs.1 axs.0 axs.1 fs w k
      ∙ ap₂ (λ us m. from fs (Has (call_of f us m)) w) (append_assoc ys (meaning a ∷ []) (trees_of (form.cons b xs))) e

  runs_call : (f : List ℕ) (xs : Forms) → AllRun xs → Runs (form.call f xs)
  runs_call f form.nil r = record {
    by = λ l at fs t w hl st sh nd hh.
        let h : need (InCall f [] 0 ∷ fs) ≤ limit = omega arith in
        let e : go (Named f) fs token.Open ≡ Go (InCall f [] 0 ∷ fs) Want = ap (λ b. if b then Go (InCall f [] 0 ∷ fs) Want else has_operand fs (name_operand f) token.Open) (le-leb (hole fs) 11 (omega arith)) in
        moves fs (Named f) token.Open (InCall f [] 0 ∷ fs) (token.Close ∷ t ∷ w) e h
        ∙ lands (InCall f [] 0 ∷ fs) Want token.Close fs (operand (form.call f form.nil)) (t ∷ w) refl;
  }
  runs_call f (form.cons a xs) r = record {
    by = λ l at fs t w hl st sh nd hh.
        let h : need (InCall f [] 0 ∷ fs) ≤ limit = omega arith in
        let e : go (Named f) fs token.Open ≡ Go (InCall f [] 0 ∷ fs) Want = ap (λ b. if b then Go (InCall f [] 0 ∷ fs) Want else has_operand fs (name_operand f) token.Open) (le-leb (hole fs) 11 (omega arith)) in
        let m : max 0 (heights (form.cons a xs)) ≡ heights (form.cons a xs) = omega arith in
        moves fs (Named f) token.Open (InCall f [] 0 ∷ fs) (arguments (form.cons a xs) (token.Close ∷ t ∷ w)) e h
        ∙ args_run f [] 0 a xs r.0 r.1 at.1.0 at.1.1 fs (t ∷ w) (omega arith)
        ∙ ap₂ (λ us m. from fs (Has (record { tree = tree.Call f us; height = max 1 m + 1; lead = None })) (t ∷ w)) (trees_meant (form.cons a xs)) m;
  }

  mutual
    pub runs : (a : Form) → Runs a
    runs (form.number v) = runs_number v
    runs (form.truth b) = runs_truth b
    runs (form.name y) = runs_name y
    runs (form.paren a) = runs_paren a (runs a)
    runs (form.minus a) = runs_minus a (runs a)
    runs (form.negated a) = runs_negated a (runs a)
    runs (form.binary o a b) = runs_binary o a b (runs a) (runs b)
    runs (form.choice c a b) = runs_choice c a b (runs c) (runs a) (runs b)
    runs (form.sampled a c b) = runs_sampled a c b (runs a)
    runs (form.merged c a b) = runs_merged c a b (runs a) (runs b)
    runs (form.call f xs) = runs_call f xs (all_run xs)

    all_run : (xs : Forms) → AllRun xs
    all_run form.nil = tt
    all_run (form.cons a xs) = (runs a, all_run xs)
