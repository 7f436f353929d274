-- A step of the parser keeps what it has taken written by what it holds.
use Rattle.std.proofs.Common.{◌≡◌, ℕ, ◌≤◌, Bool, true, false, List, [], ◌∷◌, ◌++◌, map, Result, Ok, Err, nat_le, if◌then◌else◌, refl, sym, ap, ap₂, ◌∙◌, arith, leb-true, leb-false}
use Rattle.lt_base.specs.declared.operators.Bin.TheVariants.{Eq}
use Rattle.lt_base.specs.declared.value.Ty.{Ty}
use Rattle.lt_tokens.specs.declared.token.Infix.TheVariants as meet
use Rattle.lt_tokens.specs.declared.token.Token.{Token}
use Rattle.lt_tokens.specs.declared.token.Token.TheVariants as token
use Rattle.lt_syntax.specs.declared.section.Section.TheVariants.{Ins, Outs}
use Rattle.lt_syntax.specs.Grammar.{Form, meaning}
use Rattle.lt_syntax.specs.Program.{Group, Node, each, separated_by, optional, ident, clause, group, local, equation, node, NotEmpty, Each, IsGroup, IsPlain, IsEquation, IsNode, decls, node_tree}
use Rattle.lt_syntax.specs.Machine.{Frame, Mode, Want, Named, Has, WantClock, Next, Bad, Go, Done, need, go}
use Rattle.lt_syntax.specs.Parser.{WantName, HasGroup, HasIns, HasOuts, HasLocals, Body, In, ParserState, Kind, Unexpected, TooDeep, end_group, checked, finish, step_on}
use Rattle.lt_syntax.proofs.Zipper.{Begun, Holding, z_want, z_named, z_has, z_clock, stack, mode, all_opened, held}
use Rattle.lt_syntax.proofs.Sound.{AreBegun, Fit, Rest, Fine, go_fine}
use Rattle.lt_syntax.proofs.Drafts.{Draft, d_ins, d_outs, d_locals, section, draft_tree, head, with_ins, with_outs, lead, with_locals, GoodDraft, MayClock, ClockFits, group_of, Eqs, Spot, s_idle, s_told, s_node, s_name, s_opened, s_want, s_has, s_type, s_group, s_polarity, s_variable, s_ins, s_returning, s_outs, s_head, s_locals, s_body, s_left, s_in, whole_node, body_tree, phase, spot_text, all_done, GoodHead, GoodSpot, each_snoc, between_snoc, each_between, between_comma, not_empty_snoc, each_all_snoc, decls_snoc, map_snoc, locals_some}

-- the tokens of the text so far, and then any tokens, are written by whole nodes and a spot
pub record Good (limit : ℕ) (s : ParserState) (text : List Token → List Token) : Type 0 where
  pub nodes : List Node
  pub spot : Spot
  pub done_is : all_done nodes spot ≡ s.done
  pub phase_is : phase spot ≡ s.phase
  pub whole : Each (IsNode limit) nodes
  pub good : GoodSpot limit spot
  pub written : (r : List Token) → text r ≡ each node nodes (spot_text spot r)

-- what a step answers
abbrev pub StepIs : ℕ → Result ParserState Kind → (List Token → List Token) → Type 0
StepIs limit (Ok s) text = Good limit s text
StepIs limit (Err Unexpected) text = Unit {0}
StepIs limit (Err TooDeep) text = (more : ℕ) × (limit ≤ more) × (s : ParserState) × Good more s text

-- a higher limit
equations_more : (l m : ℕ) → l ≤ m → (es : Eqs) → Each (IsEquation l) es → Each (IsEquation m) es
equations_more l m h [] e = tt
equations_more l m h (x ∷ es) e = ((e.0.0, omega (arith, e.0.1)), equations_more l m h es e.1)

node_more : (l m : ℕ) → l ≤ m → (d : Node) → IsNode l d → IsNode m d
node_more l m h d e = (e.0, e.1, e.2, e.3, equations_more l m h d.eqs e.4)

pub nodes_more : (l m : ℕ) → l ≤ m → (ds : List Node) → Each (IsNode l) ds → Each (IsNode m) ds
nodes_more l m h [] e = tt
nodes_more l m h (d ∷ ds) e = (node_more l m h d e.0, nodes_more l m h ds e.1)

begun_more : (l m : ℕ) → l ≤ m → (zs : List Begun) → AreBegun l zs → AreBegun m zs
begun_more l m h [] g = tt
begun_more l m h (z ∷ zs) g = (begun_more l m h zs g.0, g.1, omega (arith, g.2), g.3)

fit_more : (l m : ℕ) → l ≤ m → (zs : List Begun) (k : Holding) → Fit l zs k → Fit m zs k
fit_more l m h zs z_want f = (omega (arith, f.0), f.1)
fit_more l m h zs (z_named x) f = (omega (arith, f.0), f.1)
fit_more l m h zs (z_has a) f = record { level = f.level; nine = f.nine; stands = f.stands; at = f.at; room = omega (arith, f.room); ready = f.ready }
fit_more l m h zs z_clock f = f

-- a spot in which an equation is written
abbrev equation_text : List Node → List ℕ → List Group → List Group → Bool → List Group → Eqs → List ℕ → List Token → List Token
equation_text ds x ins outs b ls es y w = each node ds (with_locals x ins outs b ls (each equation es (token.Ident y ∷ token.Infix (meet.Operator Eq) ∷ w)))

module _ (limit : ℕ) (one : 1 ≤ limit) where
  in_good : (more : ℕ) → limit ≤ more → (ds : List Node) (x : List ℕ) (ins outs : List Group) (b : Bool) (ls : List Group) (es : Eqs) (y : List ℕ) → Each (IsNode limit) ds → GoodHead ins outs ls → Each (IsEquation limit) es → (fs : List Frame) (m : Mode) (text : List Token → List Token) → Rest more fs m text → Good more (record { done = map node_tree ds; phase = In (body_tree x ins outs ls es) y fs m }) (λ r. equation_text ds x ins outs b ls es y (text r))
  in_good more le ds x ins outs b ls es y w g e fs m text r = record {
    nodes = ds;
    spot = s_in x ins outs b ls es y r.begun r.holding;
    done_is = refl;
    phase_is = ap₂ (λ fs m. In (body_tree x ins outs ls es) y fs m) r.stacked r.held_is;
    whole = nodes_more limit more le ds w;
    good = (g, equations_more limit more le es e, r.good, r.fit);
    written = λ z. ap (equation_text ds x ins outs b ls es y) (r.written z);
  }

  le_refl : (n : ℕ) → n ≤ n
  le_refl n = omega arith

  checked_good : (ds : List Node) (x : List ℕ) (ins outs : List Group) (b : Bool) (ls : List Group) (es : Eqs) (y : List ℕ) → Each (IsNode limit) ds → GoodHead ins outs ls → Each (IsEquation limit) es → (n : Next) (text : List Token → List Token) → ((more : ℕ) → limit ≤ more → Fine more n text) → StepIs limit (finish (map node_tree ds) (checked limit (body_tree x ins outs ls es) y n)) (λ r. equation_text ds x ins outs b ls es y (text r))
  checked_good ds x ins outs b ls es y w g e Bad text h = tt
  checked_good ds x ins outs b ls es y w g e (Go fs Want) text h =
      let p = In (body_tree x ins outs ls es) y fs Want in
      let goal : List Token → List Token = λ r. equation_text ds x ins outs b ls es y (text r) in
      elim (nat_le (need fs) limit) as (λ t. nat_le (need fs) limit ≡ t → StepIs limit (finish (map node_tree ds) (if t then Ok p else Err TooDeep)) goal) [
        | true ↦ λ is. in_good limit (le_refl limit) ds x ins outs b ls es y w g e fs Want text (h limit (le_refl limit) (leb-true (need fs) limit is))
        | false ↦ λ is.
            let lt = leb-false (need fs) limit is in
            let le : limit ≤ need fs = omega arith in
            (need fs, le, record { done = map node_tree ds; phase = p }, in_good (need fs) le ds x ins outs b ls es y w g e fs Want text (h (need fs) le (le_refl (need fs))))
      ] refl
  checked_good ds x ins outs b ls es y w g e (Go fs WantClock) text h =
      let p = In (body_tree x ins outs ls es) y fs WantClock in
      let goal : List Token → List Token = λ r. equation_text ds x ins outs b ls es y (text r) in
      elim (nat_le (need fs) limit) as (λ t. nat_le (need fs) limit ≡ t → StepIs limit (finish (map node_tree ds) (if t then Ok p else Err TooDeep)) goal) [
        | true ↦ λ is. in_good limit (le_refl limit) ds x ins outs b ls es y w g e fs WantClock text (h limit (le_refl limit) (leb-true (need fs) limit is))
        | false ↦ λ is.
            let lt = leb-false (need fs) limit is in
            let le : limit ≤ need fs = omega arith in
            (need fs, le, record { done = map node_tree ds; phase = p }, in_good (need fs) le ds x ins outs b ls es y w g e fs WantClock text (h (need fs) le (le_refl (need fs))))
      ] refl
  checked_good ds x ins outs b ls es y w g e (Go fs (Named v)) text h = in_good limit (le_refl limit) ds x ins outs b ls es y w g e fs (Named v) text (h limit (le_refl limit))
  checked_good ds x ins outs b ls es y w g e (Go fs (Has a)) text h = in_good limit (le_refl limit) ds x ins outs b ls es y w g e fs (Has a) text (h limit (le_refl limit))
  checked_good ds x ins outs b ls es y w g e (Done a) text h =
      let d = h limit (le_refl limit) in
      let q : List ℕ × Form = (y, d.form) in
      let t : meaning d.form ≡ a.tree = ap (λ o. o.tree) d.is in
      record {
        nodes = ds;
        spot = s_body x ins outs b ls (es ++ q ∷ []);
        done_is = refl;
        phase_is = ap (λ z. Body (record { name = x; ins = decls ins; outs = decls outs; locals = decls ls; eqs = z })) (sym (map_snoc (λ e. (e.0, meaning e.1)) es q) ∙ ap (λ z. map (λ e. (e.0, meaning e.1)) es ++ (y, z) ∷ []) t);
        whole = w;
        good = (g, each_all_snoc (IsEquation limit) es q e (d.at, d.room));
        written = λ r. ap (equation_text ds x ins outs b ls es y) (d.written r) ∙ ap (λ z. each node ds (with_locals x ins outs b ls z)) (sym (each_snoc equation es q r));
      }

  -- a group ends
  group_good : (ds : List Node) (d : Draft) (xs : List (List ℕ)) (ty : Ty) (c : List (List ℕ × Bool)) (t : Token) → Each (IsNode limit) ds → GoodSpot limit (s_group d xs ty c) → StepIs limit (finish (map node_tree ds) (end_group t (draft_tree d) (section d) xs ty c)) (λ r. each node ds (lead d (group (group_of xs ty c) (t ∷ r))))
  group_good ds (d_outs x ins gs) xs ty c token.When w g = record { nodes = ds; spot = s_polarity (d_outs x ins gs) xs ty c; done_is = refl; phase_is = refl; whole = w; good = (g.0, g.1, tt); written = λ r. refl }
  group_good ds (d_locals x ins outs b gs) xs ty c token.When w g = record { nodes = ds; spot = s_polarity (d_locals x ins outs b gs) xs ty c; done_is = refl; phase_is = refl; whole = w; good = (g.0, g.1, tt); written = λ r. refl }
  group_good ds (d_ins x gs) xs ty c token.Semicolon w g =
      let q = group_of xs ty c in
      record {
        nodes = ds;
        spot = s_want (d_ins x (gs ++ q ∷ [])) [];
        done_is = refl;
        phase_is = ap (λ z. WantName (record { name = x; ins = z; outs = []; locals = []; eqs = [] }) Ins []) (sym (decls_snoc gs q));
        whole = w;
        good = each_all_snoc IsPlain gs q g.0 (g.1, g.2);
        written = λ r. ap (λ z. each node ds (head x z)) (sym (each_snoc local gs q r));
      }
  group_good ds (d_outs x ins gs) xs ty c token.Semicolon w g =
      let q = group_of xs ty c in
      record {
        nodes = ds;
        spot = s_want (d_outs x ins (gs ++ q ∷ [])) [];
        done_is = refl;
        phase_is = ap (λ z. WantName (record { name = x; ins = decls ins; outs = z; locals = []; eqs = [] }) Outs []) (sym (decls_snoc gs q));
        whole = w;
        good = (g.0.0, each_all_snoc IsGroup gs q g.0.1 g.1);
        written = λ r. ap (λ z. each node ds (with_ins x ins (token.Returns ∷ token.Open ∷ z))) (sym (each_snoc local gs q r));
      }
  group_good ds (d_locals x ins outs b gs) xs ty c token.Semicolon w g =
      let q = group_of xs ty c in
      record {
        nodes = ds;
        spot = s_locals x ins outs b (gs ++ q ∷ []);
        done_is = refl;
        phase_is = ap (λ z. HasLocals (record { name = x; ins = decls ins; outs = decls outs; locals = z; eqs = [] })) (sym (decls_snoc gs q));
        whole = w;
        good = (record { plain = g.0.0; some = g.0.1; groups = g.0.2; locals = each_all_snoc IsGroup gs q g.0.3 g.1 }, not_empty_snoc gs q);
        written = λ r. ap (λ z. each node ds (with_outs x ins outs (optional b token.Semicolon (token.Var ∷ z)))) (sym (each_snoc local gs q r));
      }
  group_good ds (d_ins x gs) xs ty c token.Close w g =
      let q = group_of xs ty c in
      record {
        nodes = ds;
        spot = s_ins x (gs ++ q ∷ []);
        done_is = refl;
        phase_is = ap (λ z. HasIns (record { name = x; ins = z; outs = []; locals = []; eqs = [] })) (sym (decls_snoc gs q));
        whole = w;
        good = each_all_snoc IsPlain gs q g.0 (g.1, g.2);
        written = λ r. ap (λ z. each node ds (head x z)) (sym (between_snoc token.Semicolon group gs q (token.Close ∷ r)));
      }
  group_good ds (d_outs x ins gs) xs ty c token.Close w g =
      let q = group_of xs ty c in
      record {
        nodes = ds;
        spot = s_outs x ins (gs ++ q ∷ []);
        done_is = refl;
        phase_is = ap (λ z. HasOuts (record { name = x; ins = decls ins; outs = z; locals = []; eqs = [] })) (sym (decls_snoc gs q));
        whole = w;
        good = record { plain = g.0.0; some = not_empty_snoc gs q; groups = each_all_snoc IsGroup gs q g.0.1 g.1; locals = tt };
        written = λ r. ap (λ z. each node ds (with_ins x ins (token.Returns ∷ token.Open ∷ z))) (sym (between_snoc token.Semicolon group gs q (token.Close ∷ r)));
      }
  group_good ds (d_ins x gs) xs ty c _ w g = tt
  group_good ds (d_outs x ins gs) xs ty c _ w g = tt
  group_good ds (d_locals x ins outs b gs) xs ty c _ w g = tt

  -- a clause of a clock
  clocked : (ds : List Node) (d : Draft) (xs : List (List ℕ)) (ty : Ty) (c : List (List ℕ × Bool)) (v : List ℕ) (b : Bool) → Each (IsNode limit) ds → GoodDraft d × NotEmpty xs × MayClock d → Good limit (record { done = map node_tree ds; phase = HasGroup (draft_tree d) (section d) xs ty (c ++ (v, b) ∷ []) }) (λ r. each node ds (lead d (group (group_of xs ty c) (clause (v, b) r))))
  clocked ds d xs ty c v b w g =
      record {
        nodes = ds;
        spot = s_group d xs ty (c ++ (v, b) ∷ []);
        done_is = refl;
        phase_is = refl;
        whole = w;
        good = (g.0, g.1, fits d g.2);
        written = λ r. ap (λ z. each node ds (lead d (separated_by token.Comma ident xs (token.Colon ∷ token.Type ty ∷ z)))) (sym (each_snoc clause c (v, b) r));
      }
    where
      fits : (d : Draft) → MayClock d → ClockFits d (c ++ (v, b) ∷ [])
      fits (d_ins x gs) m = absurd m
      fits (d_outs x ins gs) m = tt
      fits (d_locals x ins outs b' gs) m = tt

  -- one token
  pub step_good : (ds : List Node) (p : Spot) (t : Token) → Each (IsNode limit) ds → GoodSpot limit p → StepIs limit (step_on limit (all_done ds p) (phase p) t) (λ r. each node ds (spot_text p (t ∷ r)))
  step_good ds s_idle token.Node w g = record { nodes = ds; spot = s_node; done_is = refl; phase_is = refl; whole = w; good = tt; written = λ r. refl }
  step_good ds (s_told x ins outs b ls es) token.Node w g =
      let q = whole_node x ins outs b ls es false in
      record {
        nodes = ds ++ q ∷ [];
        spot = s_node;
        done_is = sym (map_snoc node_tree ds q);
        phase_is = refl;
        whole = each_all_snoc (IsNode limit) ds q w (g.0.plain, g.0.some, g.0.groups, g.0.locals, g.1);
        good = tt;
        written = λ r. sym (each_snoc node ds q (token.Node ∷ r));
      }
  step_good ds (s_told x ins outs b ls es) token.Semicolon w g =
      let q = whole_node x ins outs b ls es true in
      record {
        nodes = ds ++ q ∷ [];
        spot = s_idle;
        done_is = sym (map_snoc node_tree ds q);
        phase_is = refl;
        whole = each_all_snoc (IsNode limit) ds q w (g.0.plain, g.0.some, g.0.groups, g.0.locals, g.1);
        good = tt;
        written = λ r. sym (each_snoc node ds q r);
      }
  step_good ds s_node (token.Ident x) w g = record { nodes = ds; spot = s_name x; done_is = refl; phase_is = refl; whole = w; good = tt; written = λ r. refl }
  step_good ds (s_name x) token.Open w g = record { nodes = ds; spot = s_opened x; done_is = refl; phase_is = refl; whole = w; good = tt; written = λ r. refl }
  step_good ds (s_opened x) (token.Ident y) w g = record { nodes = ds; spot = s_has (d_ins x []) (y ∷ []); done_is = refl; phase_is = refl; whole = w; good = (tt, tt); written = λ r. refl }
  step_good ds (s_opened x) token.Close w g = record { nodes = ds; spot = s_ins x []; done_is = refl; phase_is = refl; whole = w; good = tt; written = λ r. refl }
  step_good ds (s_want d xs) (token.Ident y) w g =
      record {
        nodes = ds;
        spot = s_has d (xs ++ y ∷ []);
        done_is = refl;
        phase_is = refl;
        whole = w;
        good = (g, not_empty_snoc xs y);
        written = λ r. ap (λ z. each node ds (lead d z)) (sym (each_between xs y r));
      }
  step_good ds (s_has d xs) token.Comma w g =
      record {
        nodes = ds;
        spot = s_want d xs;
        done_is = refl;
        phase_is = refl;
        whole = w;
        good = g.0;
        written = λ r. ap (λ z. each node ds (lead d z)) (between_comma xs r g.1);
      }
  step_good ds (s_has d xs) token.Colon w g = record { nodes = ds; spot = s_type d xs; done_is = refl; phase_is = refl; whole = w; good = g; written = λ r. refl }
  step_good ds (s_type d xs) (token.Type ty) w g =
      record { nodes = ds; spot = s_group d xs ty []; done_is = refl; phase_is = refl; whole = w; good = (g.0, g.1, no_clock d); written = λ r. refl }
    where
      no_clock : (d : Draft) → ClockFits d []
      no_clock (d_ins x gs) = refl
      no_clock (d_outs x ins gs) = tt
      no_clock (d_locals x ins outs b gs) = tt
  step_good ds (s_group d xs ty c) t w g = group_good ds d xs ty c t w g
  step_good ds (s_polarity d xs ty c) token.Not w g = record { nodes = ds; spot = s_variable d xs ty c; done_is = refl; phase_is = refl; whole = w; good = g; written = λ r. refl }
  step_good ds (s_polarity d xs ty c) (token.Ident v) w g = clocked ds d xs ty c v true w g
  step_good ds (s_variable d xs ty c) (token.Ident v) w g = clocked ds d xs ty c v false w g
  step_good ds (s_ins x ins) token.Returns w g = record { nodes = ds; spot = s_returning x ins; done_is = refl; phase_is = refl; whole = w; good = g; written = λ r. refl }
  step_good ds (s_returning x ins) token.Open w g = record { nodes = ds; spot = s_want (d_outs x ins []) []; done_is = refl; phase_is = refl; whole = w; good = (g, tt); written = λ r. refl }
  step_good ds (s_outs x ins outs) token.Semicolon w g = record { nodes = ds; spot = s_head x ins outs; done_is = refl; phase_is = refl; whole = w; good = g; written = λ r. refl }
  step_good ds (s_outs x ins outs) token.Var w g = record { nodes = ds; spot = s_want (d_locals x ins outs false []) []; done_is = refl; phase_is = refl; whole = w; good = (g.plain, g.some, g.groups, tt); written = λ r. refl }
  step_good ds (s_outs x ins outs) token.Let w g = record { nodes = ds; spot = s_body x ins outs false [] []; done_is = refl; phase_is = refl; whole = w; good = (g, tt); written = λ r. refl }
  step_good ds (s_head x ins outs) token.Var w g = record { nodes = ds; spot = s_want (d_locals x ins outs true []) []; done_is = refl; phase_is = refl; whole = w; good = (g.plain, g.some, g.groups, tt); written = λ r. refl }
  step_good ds (s_head x ins outs) token.Let w g = record { nodes = ds; spot = s_body x ins outs true [] []; done_is = refl; phase_is = refl; whole = w; good = (g, tt); written = λ r. refl }
  step_good ds (s_locals x ins outs b ls) (token.Ident y) w g = record { nodes = ds; spot = s_has (d_locals x ins outs b ls) (y ∷ []); done_is = refl; phase_is = refl; whole = w; good = ((g.0.plain, g.0.some, g.0.groups, g.0.locals), tt); written = λ r. refl }
  step_good ds (s_locals x ins outs b ls) token.Let w g =
      record {
        nodes = ds;
        spot = s_body x ins outs b ls [];
        done_is = refl;
        phase_is = refl;
        whole = w;
        good = (g.0, tt);
        written = λ r. ap (λ z. each node ds (with_outs x ins outs (optional b token.Semicolon z))) (sym (locals_some ls (token.Let ∷ r) g.1));
      }
  step_good ds (s_body x ins outs b ls es) (token.Ident y) w g = record { nodes = ds; spot = s_left x ins outs b ls es y; done_is = refl; phase_is = refl; whole = w; good = g; written = λ r. refl }
  step_good ds (s_body x ins outs b ls es) token.Tel w g = record { nodes = ds; spot = s_told x ins outs b ls es; done_is = refl; phase_is = refl; whole = w; good = g; written = λ r. refl }
  step_good ds (s_left x ins outs b ls es y) (token.Infix (meet.Operator Eq)) w g = record { nodes = ds; spot = s_in x ins outs b ls es y [] z_want; done_is = refl; phase_is = refl; whole = w; good = (g.0, g.1, tt, (one, tt)); written = λ r. refl }
  step_good ds (s_in x ins outs b ls es y zs h) t w g =
      checked_good ds x ins outs b ls es y w g.0 g.1 (go (mode h) (stack zs) t) (λ r. all_opened zs (held h (t ∷ r))) (λ more le. go_fine more h zs t (begun_more limit more le zs g.2) (fit_more limit more le zs h g.3))
  step_good ds _ _ w g = tt
