-- What the parser's answers say of a text.
use Rattle.std.proofs.Common.{◌≡◌, ℕ, ◌≤◌, max, true, false, List, [], ◌∷◌, ◌++◌, map, Result, Ok, Err, nat_le, if◌then◌else◌, refl, sym, ap, ap₂, ◌∙◌, subst, arith, append_assoc, append-nil, leb-true, le-leb, le_trans}
use Rattle.lt_tokens.specs.declared.token.Token.{Token}
use Rattle.lt_tokens.specs.declared.token.Token.TheVariants as token
use Rattle.lt_tokens.specs.Text as text
use Rattle.lt_tokens.specs.Text.{Front, Cuts, front, skip}
use Rattle.lt_syntax.specs.declared.tree.NodeText.{NodeText}
use Rattle.lt_syntax.specs.Program.{Node, each, node, NotEmpty, Each, IsNode, node_tree, Program, Spells}
use Rattle.lt_syntax.specs.Faults.{ProgramBegins, ProgramBreaks, ProgramExceeds}
use Rattle.lt_syntax.specs.Machine.{Want, Named, Has, WantClock, Next, Bad, Go, Done, need, go}
use Rattle.lt_syntax.specs.Parser.{ParserPhase, Idle, Told, WantNode, HasNode, Opened, WantName, HasName, WantType, HasGroup, WantPolarity, WantVariable, HasIns, Returning, HasOuts, HasHead, HasLocals, Body, HasLeft, In, ParserState, Kind, Unexpected, TooDeep, checked, move, finish, step_on, parser_step, on, parser_run, parser_start, PhaseEnds}
use Rattle.lt_syntax.proofs.Nodes.{behind, ends_behind, program_runs}
use Rattle.lt_syntax.proofs.Drafts.{Spot, s_idle, s_told, whole_node, phase, spot_text, all_done, GoodSpot, each_snoc, not_empty_snoc, each_all_snoc, map_snoc}
use Rattle.lt_syntax.proofs.Steps.{Good, StepIs, nodes_more, step_good}
use Rattle.lt_syntax.proofs.Viable.{good_begins}

-- a run over a front, and then the rest
pub run_on : (limit : ℕ) (p ts : List Token) (s0 s : ParserState) → parser_run limit s0 p ≡ Ok s → parser_run limit s0 (p ++ ts) ≡ parser_run limit s ts
run_on limit [] ts s0 s h = let e : s0 ≡ s = cc in ap (λ z. parser_run limit z ts) e
run_on limit (t ∷ p) ts s0 s h =
    elim (parser_step limit s0 t) as (λ a. on a (λ s'. parser_run limit s' p) ≡ Ok s → on a (λ s'. parser_run limit s' (p ++ ts)) ≡ parser_run limit s ts) [
      | Ok s' ↦ λ e. run_on limit p ts s' s e
      | Err k ↦ λ e. cc
    ] h

-- a step that is good at a limit is the same at a higher one
abbrev Grows : {A : Type 0} → Result A Kind → Result A Kind → Type 0
Grows (Ok s) r = r ≡ Ok s
Grows (Err Unexpected) r = r ≡ Err Unexpected
Grows (Err TooDeep) r = Unit {0}

checked_grows : (l m : ℕ) → l ≤ m → (n : NodeText) (x : List ℕ) (k : Next) → Grows (checked l n x k) (checked m n x k)
checked_grows l m h n x Bad = refl
checked_grows l m h n x (Go fs Want) =
    elim (nat_le (need fs) l) as (λ t. nat_le (need fs) l ≡ t → Grows (if t then Ok (In n x fs Want) else Err TooDeep) (checked m n x (Go fs Want))) [
      | true ↦ λ is. ap (λ t. if t then Ok (In n x fs Want) else Err TooDeep) (le-leb (need fs) m (le_trans (leb-true (need fs) l is) h))
      | false ↦ λ is. tt
    ] refl
checked_grows l m h n x (Go fs WantClock) =
    elim (nat_le (need fs) l) as (λ t. nat_le (need fs) l ≡ t → Grows (if t then Ok (In n x fs WantClock) else Err TooDeep) (checked m n x (Go fs WantClock))) [
      | true ↦ λ is. ap (λ t. if t then Ok (In n x fs WantClock) else Err TooDeep) (le-leb (need fs) m (le_trans (leb-true (need fs) l is) h))
      | false ↦ λ is. tt
    ] refl
checked_grows l m h n x (Go fs (Named y)) = refl
checked_grows l m h n x (Go fs (Has a)) = refl
checked_grows l m h n x (Done a) = refl

finish_grows : (done : List NodeText) (a b : Result ParserPhase Kind) → Grows a b → Grows (finish done a) (finish done b)
finish_grows done (Ok p) b g = ap (finish done) g
finish_grows done (Err Unexpected) b g = ap (finish done) g
finish_grows done (Err TooDeep) b g = tt

same : (r : Result ParserPhase Kind) → Grows r r
same (Ok p) = refl
same (Err Unexpected) = refl
same (Err TooDeep) = tt

move_grows : (l m : ℕ) → l ≤ m → (p : ParserPhase) (t : Token) → Grows (move l p t) (move m p t)
move_grows l m h (In n x fs k) t = checked_grows l m h n x (go k fs t)
move_grows l m h Idle t = same (move l Idle t)
move_grows l m h Told t = same (move l Told t)
move_grows l m h WantNode t = same (move l WantNode t)
move_grows l m h (HasNode x) t = same (move l (HasNode x) t)
move_grows l m h (Opened n) t = same (move l (Opened n) t)
move_grows l m h (WantName n s xs) t = same (move l (WantName n s xs) t)
move_grows l m h (HasName n s xs) t = same (move l (HasName n s xs) t)
move_grows l m h (WantType n s xs) t = same (move l (WantType n s xs) t)
move_grows l m h (HasGroup n s xs ty c) t = same (move l (HasGroup n s xs ty c) t)
move_grows l m h (WantPolarity n s xs ty c) t = same (move l (WantPolarity n s xs ty c) t)
move_grows l m h (WantVariable n s xs ty c) t = same (move l (WantVariable n s xs ty c) t)
move_grows l m h (HasIns n) t = same (move l (HasIns n) t)
move_grows l m h (Returning n) t = same (move l (Returning n) t)
move_grows l m h (HasOuts n) t = same (move l (HasOuts n) t)
move_grows l m h (HasHead n) t = same (move l (HasHead n) t)
move_grows l m h (HasLocals n) t = same (move l (HasLocals n) t)
move_grows l m h (Body n) t = same (move l (Body n) t)
move_grows l m h (HasLeft n x) t = same (move l (HasLeft n x) t)

step_grows : (l m : ℕ) → l ≤ m → (s : ParserState) (t : Token) → Grows (parser_step l s t) (parser_step m s t)
step_grows l m h s t = step_on_grows s.done s.phase t
  where
    step_on_grows : (done : List NodeText) (p : ParserPhase) (t : Token) → Grows (step_on l done p t) (step_on m done p t)
    step_on_grows done (Body n) token.Tel = refl
    step_on_grows done p t = finish_grows done (move l p t) (move m p t) (move_grows l m h p t)

run_grows : (l m : ℕ) → l ≤ m → (p : List Token) (s0 s : ParserState) → parser_run l s0 p ≡ Ok s → parser_run m s0 p ≡ Ok s
run_grows l m h [] s0 s e = e
run_grows l m h (t ∷ p) s0 s e =
    elim (parser_step l s0 t) as (λ a. Grows a (parser_step m s0 t) → on a (λ s'. parser_run l s' p) ≡ Ok s → on (parser_step m s0 t) (λ s'. parser_run m s' p) ≡ Ok s) [
      | Ok s' ↦ λ g e. ap (λ z. on z (λ s'. parser_run m s' p)) g ∙ run_grows l m h p s' s e
      | Err k ↦ λ g e. cc
    ] (step_grows l m h s0 t) e

-- a program is not stopped at one of its tokens
not_stopped : (limit : ℕ) (p : List Token) (t : Token) (s : ParserState) (k : Kind) → parser_run limit parser_start p ≡ Ok s → parser_step limit s t ≡ Err k → ProgramBegins limit (p ++ t ∷ []) → ⊥
not_stopped limit p t s k rp st b =
    let c = (program_runs limit ((p ++ t ∷ []) ++ b.0) b.1 b.2).1 in
    let d = run_on limit p (t ∷ b.0) parser_start s rp in
    let f = ap (λ r. on r (λ s'. parser_run limit s' b.0)) st in
    let g = ap (parser_run limit parser_start) (append_assoc p (t ∷ []) b.0) in
    cc

program_more : (l m : ℕ) → l ≤ m → (ts : List Token) (t : List NodeText) → Program l ts t → Program m ts t
program_more l m h ts t p = record { nodes = p.nodes; some = p.some; good = nodes_more l m h p.nodes p.good; spelled = p.spelled; meant = p.meant }

begins_more : (l m : ℕ) → l ≤ m → (ts : List Token) → ProgramBegins l ts → ProgramBegins m ts
begins_more l m h ts b = (b.0, b.1, program_more l m h (ts ++ b.0) b.1 b.2)

retext : (limit : ℕ) (s : ParserState) (f g : List Token → List Token) → ((r : List Token) → f r ≡ g r) → Good limit s g → Good limit s f
retext limit s f g e d = record { nodes = d.nodes; spot = d.spot; done_is = d.done_is; phase_is = d.phase_is; whole = d.whole; good = d.good; written = λ r. e r ∙ d.written r }

-- the text ends behind whole nodes
ended : (limit : ℕ) (p : List Token) (spot : Spot) (nodes : List Node) (done : List NodeText) (ph : ParserPhase) → all_done nodes spot ≡ done → phase spot ≡ ph → PhaseEnds ph → NotEmpty done → Each (IsNode limit) nodes → GoodSpot limit spot → ((r : List Token) → p ++ r ≡ each node nodes (spot_text spot r)) → Program limit p done
ended limit p s_idle nodes done ph d q e n w g t = record { nodes = nodes; some = some_nodes nodes (subst NotEmpty (sym d) n); good = w; spelled = sym (append-nil p) ∙ t []; meant = d }
  where
    some_nodes : (nodes : List Node) → NotEmpty (map node_tree nodes) → NotEmpty nodes
    some_nodes [] h = absurd h
    some_nodes (x ∷ xs) h = tt
ended limit p (s_told x ins outs b ls es) nodes done ph d q e n w g t =
    let k = whole_node x ins outs b ls es false in
    record {
      nodes = nodes ++ k ∷ [];
      some = not_empty_snoc nodes k;
      good = each_all_snoc (IsNode limit) nodes k w (g.0.plain, g.0.some, g.0.groups, g.0.locals, g.1);
      spelled = sym (append-nil p) ∙ t [] ∙ sym (each_snoc node nodes k []);
      meant = sym (map_snoc node_tree nodes k) ∙ d;
    }
ended limit p spot nodes done ph d q e n w g t = let f = subst PhaseEnds (sym q) e in absurd f

abbrev done_of : Result ParserState Kind → List NodeText
done_of (Ok s) = s.done
done_of (Err k) = []

some_trees : (limit : ℕ) (ts : List Token) (t : List NodeText) → Program limit ts t → NotEmpty t
some_trees limit ts t p = subst NotEmpty p.meant (by p.nodes p.some)
  where
    by : (nodes : List Node) → NotEmpty nodes → NotEmpty (map node_tree nodes)
    by [] h = absurd h
    by (x ∷ xs) h = tt

module _ (limit : ℕ) (one : 1 ≤ limit) where
  step_text : (z : Result ParserState Kind) (f g : List Token → List Token) → ((r : List Token) → f r ≡ g r) → StepIs limit z g → StepIs limit z f
  step_text (Ok s) f g e d = retext limit s f g e d
  step_text (Err Unexpected) f g e d = tt
  step_text (Err TooDeep) f g e d = (d.0, d.1, d.2, retext d.0 d.2 f g e d.3)

  state_good : (s : ParserState) (t : Token) (text : List Token → List Token) → Good limit s text → StepIs limit (parser_step limit s t) (λ r. text (t ∷ r))
  state_good s t text g =
      let goal : List Token → List Token = λ r. each node g.nodes (spot_text g.spot (t ∷ r)) in
      step_text (parser_step limit s t) (λ r. text (t ∷ r)) goal (λ r. g.written (t ∷ r))
      (subst (λ z. StepIs limit z goal) (ap₂ (λ a b. step_on limit a b t) g.done_is g.phase_is) (step_good limit one g.nodes g.spot t g.whole g.good))

  -- what is reached is good
  reached_on : (ts p : List Token) (s s' : ParserState) → Good limit s (λ r. p ++ r) → parser_run limit s ts ≡ Ok s' → Good limit s' (λ r. (p ++ ts) ++ r)
  reached_on [] p s s' g r = let e : s ≡ s' = cc in subst (λ z. Good limit z (λ r. (p ++ []) ++ r)) e (retext limit s (λ r. (p ++ []) ++ r) (λ r. p ++ r) (λ r. ap (λ z. z ++ r) (append-nil p)) g)
  reached_on (t ∷ ts) p s s' g r =
      elim (parser_step limit s t) as (λ a. parser_step limit s t ≡ a → on a (λ z. parser_run limit z ts) ≡ Ok s' → Good limit s' (λ r. (p ++ t ∷ ts) ++ r)) [
        | Ok z ↦ λ e r.
            let d : Good limit z (λ r. p ++ t ∷ r) = subst (λ a. StepIs limit a (λ r. p ++ t ∷ r)) e (state_good s t (λ r. p ++ r) g) in
            let d' = retext limit z (λ r. (p ++ t ∷ []) ++ r) (λ r. p ++ t ∷ r) (λ r. append_assoc p (t ∷ []) r) d in
            retext limit s' (λ r. (p ++ t ∷ ts) ++ r) (λ r. ((p ++ t ∷ []) ++ ts) ++ r) (λ r. ap (λ z. z ++ r) (sym (append_assoc p (t ∷ []) ts))) (reached_on ts (p ++ t ∷ []) z s' d' r)
        | Err k ↦ λ e r. cc
      ] refl r

  pub reached : (p : List Token) (s : ParserState) → parser_run limit parser_start p ≡ Ok s → Good limit s (λ r. p ++ r)
  reached p s r = reached_on p [] parser_start s (record { nodes = []; spot = s_idle; done_is = refl; phase_is = refl; whole = tt; good = tt; written = λ r. refl }) r

  pub begins_at : (p : List Token) (s : ParserState) → parser_run limit parser_start p ≡ Ok s → ProgramBegins limit p
  begins_at p s r = good_begins limit s p one (reached p s r)

  pub breaks_at : (p : List Token) (s : ParserState) (t : Token) → parser_run limit parser_start p ≡ Ok s → parser_step limit s t ≡ Err Unexpected → ProgramBreaks (p ++ t ∷ [])
  breaks_at p s t r e more b =
      let m = max limit more in
      let g : limit ≤ m = omega arith in
      let e' : parser_step m s t ≡ Err Unexpected = subst (λ z. Grows z (parser_step m s t)) e (step_grows limit m g s t) in
      not_stopped m p t s Unexpected (run_grows limit m g p parser_start s r) e' (begins_more more m (omega arith) (p ++ t ∷ []) b)

  pub exceeds_at : (p : List Token) (s : ParserState) (t : Token) → parser_run limit parser_start p ≡ Ok s → parser_step limit s t ≡ Err TooDeep → ProgramExceeds limit (p ++ t ∷ [])
  exceeds_at p s t r e =
      let d = subst (λ z. StepIs limit z (λ r. p ++ t ∷ r)) e (state_good s t (λ r. p ++ r) (reached p s r)) in
      let g : Good d.0 d.2 (λ r. (p ++ t ∷ []) ++ r) = retext d.0 d.2 (λ r. (p ++ t ∷ []) ++ r) (λ r. p ++ t ∷ r) (λ r. append_assoc p (t ∷ []) r) d.3 in
      (not_stopped limit p t s TooDeep r e, (d.0, good_begins d.0 d.2 (p ++ t ∷ []) (omega (arith, d.1)) g))

  pub program_at : (p : List Token) (s : ParserState) → parser_run limit parser_start p ≡ Ok s → PhaseEnds s.phase → NotEmpty s.done → Program limit p s.done
  program_at p s r e n = let g = reached p s r in ended limit p g.spot g.nodes s.done s.phase g.done_is g.phase_is e n g.whole g.good g.written

  pub none_at : (p : List Token) (s : ParserState) → parser_run limit parser_start p ≡ Ok s → (PhaseEnds s.phase → NotEmpty s.done → ⊥) → (t : List NodeText) → Program limit p t → ⊥
  none_at p s r h t q =
      let c = program_runs limit p t q in
      let k : ParserState = record { done = t; phase = behind c.0 } in
      let e : k ≡ s = cc in
      h (subst (λ z. PhaseEnds z.phase) e (ends_behind c.0)) (subst (λ z. NotEmpty z.done) e (some_trees limit p t q))

  pub one_program : (ts : List Token) (t u : List NodeText) → Program limit ts t → Program limit ts u → t ≡ u
  one_program ts t u p q =
      let a = program_runs limit ts t p in
      let b = program_runs limit ts u q in
      ap done_of (sym a.1 ∙ b.1)

-- a text is cut in one way
pub cuts_one : (ts us : List Token) (bytes r s : List ℕ) → Cuts bytes ts r → front (skip r) ≡ text.Over → Cuts bytes us s → front (skip s) ≡ text.Over → ts ≡ us
cuts_one [] [] bytes r s h e k f = refl
cuts_one [] (u ∷ us) bytes r s h e k f = let a : front (skip bytes) ≡ text.Over = subst (λ z. front (skip z) ≡ text.Over) h e in let b = k.1 in cc
cuts_one (t ∷ ts) [] bytes r s h e k f = let a : front (skip bytes) ≡ text.Over = subst (λ z. front (skip z) ≡ text.Over) k f in let b = h.1 in cc
cuts_one (t ∷ ts) (u ∷ us) bytes r s h e k f =
    let b = h.1 in
    let c = k.1 in
    let p : h.0 ≡ k.0 = cc in
    let q : t ≡ u = cc in
    ap₂ (λ y z. y ∷ z) q (cuts_one ts us h.0 r s h.2 e (subst (λ z. Cuts z us s) (sym p) k.2) f)

pub one_tree : (limit : ℕ) → 1 ≤ limit → (bytes : List ℕ) (t u : List NodeText) → Spells limit bytes t → Spells limit bytes u → t ≡ u
one_tree limit one bytes t u a b =
    let e = cuts_one a.tokens b.tokens bytes a.rest b.rest a.cut a.ended b.cut b.ended in
    one_program limit one a.tokens t u a.program (subst (λ z. Program limit z u) (sym e) b.program)
