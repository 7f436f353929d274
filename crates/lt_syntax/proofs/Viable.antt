-- Whatever the parser has taken can be led to an end.
use Rattle.std.proofs.Common.{◌≡◌, ℕ, ◌+◌, ◌≤◌, max, Bool, true, false, List, [], ◌∷◌, ◌++◌, length, map, refl, sym, ap, ◌∙◌, arith}
use Rattle.lt_base.specs.declared.operators.Bin.TheVariants.{Eq}
use Rattle.lt_tokens.specs.declared.token.Infix.TheVariants as meet
use Rattle.lt_tokens.specs.declared.token.Token.{Token}
use Rattle.lt_tokens.specs.declared.token.Token.TheVariants as token
use Rattle.lt_syntax.specs.Grammar.{Form, IsAt, polarity, tokens, height, meaning}
use Rattle.lt_syntax.specs.Program.{Group, Node, each, separated_by, optional, ident, clause, group, local, equation, node, Each, IsGroup, IsPlain, IsEquation, IsNode, node_tree}
use Rattle.lt_syntax.specs.Machine.{hole}
use Rattle.lt_syntax.specs.Parser.{ParserState}
use Rattle.lt_syntax.proofs.Complete.{height_pos}
use Rattle.lt_syntax.proofs.Zipper.{Begun, Holding, z_want, stack, all_opened, held}
use Rattle.lt_syntax.proofs.Sound.{AreBegun, Fit}
use Rattle.std.specs.Prelude.{codes}
use Rattle.lt_base.specs.declared.value.Ty.TheVariants as ty
use Rattle.lt_syntax.specs.Grammar as form
use Rattle.lt_syntax.specs.Grammar.{literal, left_height}
use Rattle.lt_syntax.specs.Faults.{ProgramBegins}
use Rattle.lt_syntax.specs.Levels.{infix_line, level, right_level}
use Rattle.lt_syntax.proofs.Complete.{table}
use Rattle.lt_syntax.proofs.Zipper.{z_minus, z_not, z_paren, z_infix, z_if, z_then, z_else, z_sampling, z_merge, z_first, z_second, z_call, z_named, z_has, z_clock, tallest, Ready, closing, forms, at_lower, hole_le, tallest_snoc, forms_tall, exprs_snoc, arguments_snoc, forms_exprs, completes, room_for}
use Rattle.lt_syntax.proofs.Sound.{top_room}
use Rattle.lt_syntax.proofs.Drafts.{Draft, d_ins, d_outs, d_locals, head, with_ins, with_outs, lead, with_locals, GoodDraft, MayClock, ClockFits, group_of, Eqs, Spot, s_idle, s_told, s_node, s_name, s_opened, s_want, s_has, s_type, s_group, s_polarity, s_variable, s_ins, s_returning, s_outs, s_head, s_locals, s_body, s_left, s_in, whole_node, spot_text, GoodHead, GoodSpot, each_snoc, between_snoc, each_between, not_empty_snoc, each_all_snoc, locals_some}
use Rattle.lt_syntax.proofs.Steps.{Good}

abbrev some_name : List ℕ
some_name = codes "x"

abbrev named : Form
named = form.name some_name

abbrev some_group : Group
some_group = group_of (some_name ∷ []) ty.Int []

-- the form that is begun, ended
record Finished (limit : ℕ) (zs : List Begun) (b : Form) : Type 0 where
  more : List Token → List Token
  whole : Form
  at : IsAt 1 whole
  room : height whole ≤ limit
  text : (r : List Token) → all_opened zs (tokens b (more r)) ≡ tokens whole r

module _ (limit : ℕ) where
  -- with these tokens behind it
  behind : (zs us : List Begun) (b c : Form) (f : List Token → List Token) → ((r : List Token) → all_opened zs (tokens b (f r)) ≡ all_opened us (tokens c r)) → Finished limit us c → Finished limit zs b
  behind zs us b c f e d = record { more = λ r. f (d.more r); whole = d.whole; at = d.at; room = d.room; text = λ r. e (d.more r) ∙ d.text r }

  finishes : (zs : List Begun) (m : ℕ) (b : Form) → AreBegun limit zs → Ready zs → IsAt m b → hole (stack zs) ≤ m → length (stack zs) + height b ≤ limit → Finished limit zs b
  finishes [] m b g rd at hm rm = record { more = λ r. r; whole = b; at = at_lower b 1 m hm at; room = omega arith; text = λ r. refl }
  finishes (z_paren ∷ zs) m b g rd at hm rm =
      behind (z_paren ∷ zs) zs b (form.paren b) (λ r. token.Close ∷ r) (λ r. refl)
      (finishes zs 12 (form.paren b) g.0 g.3 (omega arith, at_lower b 1 m hm at) (hole_le (stack zs)) (omega arith))
  finishes (z_call f xs ∷ zs) m b g rd at hm rm =
      let c = form.call f (forms (xs ++ b ∷ [])) in
      let h : height c ≤ max 1 (max (tallest xs) (height b)) + 1 = omega (arith, forms_tall (xs ++ b ∷ []), tallest_snoc xs b) in
      behind (z_call f xs ∷ zs) zs b c (λ r. token.Close ∷ r) (λ r. ap (λ z. all_opened zs (token.Ident f ∷ token.Open ∷ z)) (sym (arguments_snoc xs b (token.Close ∷ r))))
      (finishes zs 11 c g.0 g.3 (omega arith, forms_exprs (xs ++ b ∷ []) (exprs_snoc xs b g.1.1 (at_lower b 1 m hm at))) g.1.0 (omega (arith, h, g.2)))
  finishes (z_if ∷ zs) m b g rd at hm rm =
      let c = form.choice b named named in
      behind (z_if ∷ zs) zs b c (λ r. token.Then ∷ token.Ident some_name ∷ token.Else ∷ token.Ident some_name ∷ r) (λ r. refl)
      (finishes zs 1 c g.0 g.3 (omega arith, at_lower b 1 m hm at, omega arith, omega arith) g.1 (omega (arith, height_pos b)))
  finishes (z_then c ∷ zs) m b g rd at hm rm =
      let d = form.choice c b named in
      behind (z_then c ∷ zs) zs b d (λ r. token.Else ∷ token.Ident some_name ∷ r) (λ r. refl)
      (finishes zs 1 d g.0 g.3 (omega arith, g.1.1, at_lower b 1 m hm at, omega arith) g.1.0 (omega (arith, height_pos b, g.2)))
  finishes (z_first c ∷ zs) m b g rd at hm rm =
      let d = form.merged c b named in
      behind (z_first c ∷ zs) zs b d (λ r. token.Ident some_name ∷ r) (λ r. refl)
      (finishes zs 11 d g.0 g.3 (omega arith, at_lower b 12 m hm at, omega arith) g.1 (omega (arith, height_pos b, g.2)))
  finishes (z_sampling a v ∷ zs) m b g rd at hm rm = absurd rd
  finishes (z_merge ∷ zs) m b g rd at hm rm = absurd rd
  finishes (z_minus ∷ zs) m b g rd at hm rm =
      let c = completes z_minus (hole (stack zs)) b g.1 (at_lower b 11 m hm at) (omega arith) in
      behind (z_minus ∷ zs) zs b (closing z_minus b) (λ r. r) (λ r. ap (all_opened zs) (c.text r))
      (finishes zs 10 (closing z_minus b) g.0 g.3 c.at c.below (room_for limit z_minus (length (stack zs)) b g.2 (omega arith) (omega arith)))
  finishes (z_not ∷ zs) m b g rd at hm rm =
      let c = completes z_not (hole (stack zs)) b g.1 (at_lower b 5 m hm at) (omega arith) in
      behind (z_not ∷ zs) zs b (closing z_not b) (λ r. r) (λ r. ap (all_opened zs) (c.text r))
      (finishes zs 5 (closing z_not b) g.0 g.3 c.at c.below (room_for limit z_not (length (stack zs)) b g.2 (omega arith) (omega arith)))
  finishes (z_infix o a ∷ zs) m b g rd at hm rm =
      let k = table (infix_line o) in
      let z = z_infix o a in
      let c = completes z (hole (stack zs)) b g.1 (at_lower b (right_level (infix_line o)) m hm at) k.low in
      behind (z ∷ zs) zs b (closing z b) (λ r. r) (λ r. ap (all_opened zs) (c.text r))
      (finishes zs (level (infix_line o)) (closing z b) g.0 g.3 c.at c.below (room_for limit z (length (stack zs)) b g.2 (omega arith) k.low))
  finishes (z_else d a ∷ zs) m b g rd at hm rm =
      let z = z_else d a in
      let c = completes z (hole (stack zs)) b g.1 (at_lower b 1 m hm at) (omega arith) in
      behind (z ∷ zs) zs b (closing z b) (λ r. r) (λ r. ap (all_opened zs) (c.text r))
      (finishes zs 1 (closing z b) g.0 g.3 c.at c.below (room_for limit z (length (stack zs)) b g.2 (omega arith) (omega arith)))
  finishes (z_second d a ∷ zs) m b g rd at hm rm =
      let z = z_second d a in
      let c = completes z (hole (stack zs)) b g.1 (at_lower b 12 m hm at) (omega arith) in
      behind (z ∷ zs) zs b (closing z b) (λ r. r) (λ r. ap (all_opened zs) (c.text r))
      (finishes zs 11 (closing z b) g.0 g.3 c.at c.below (room_for limit z (length (stack zs)) b g.2 (omega arith) (omega arith)))

  -- an expression that is begun, ended
  record Ending (zs : List Begun) (h : Holding) : Type 0 where
    more : List Token → List Token
    whole : Form
    at : IsAt 1 whole
    room : height whole ≤ limit
    text : (r : List Token) → all_opened zs (held h (more r)) ≡ tokens whole r

  ending : (zs : List Begun) (h : Holding) → AreBegun limit zs → Fit limit zs h → Ending zs h
  ending zs z_want g f =
      let d = finishes zs 12 named g f.1 (omega arith) (hole_le (stack zs)) (top_room limit zs g f.0) in
      record { more = λ r. token.Ident some_name ∷ d.more r; whole = d.whole; at = d.at; room = d.room; text = d.text }
  ending zs (z_named x) g f =
      let d = finishes zs 12 (form.name x) g f.1 (omega arith) (hole_le (stack zs)) f.0 in
      record { more = d.more; whole = d.whole; at = d.at; room = d.room; text = d.text }
  ending zs (z_has a) g f =
      let d = finishes zs f.level a g f.ready f.at f.stands f.room in
      record { more = d.more; whole = d.whole; at = d.at; room = d.room; text = d.text }
  ending (z_sampling a v ∷ zs) z_clock g f =
      let d = finishes zs 9 (form.sampled a some_name v) g.0 g.3 (omega arith, g.1.1) g.1.0 (omega (arith, g.2)) in
      record { more = λ r. token.Ident some_name ∷ d.more r; whole = d.whole; at = d.at; room = d.room; text = d.text }
  ending (z_merge ∷ zs) z_clock g f =
      let d = finishes zs 11 (form.merged some_name named named) g.0 g.3 (omega arith, omega arith, omega arith) g.1 (omega (arith, g.2)) in
      record { more = λ r. token.Ident some_name ∷ token.Ident some_name ∷ token.Ident some_name ∷ d.more r; whole = d.whole; at = d.at; room = d.room; text = d.text }
  ending _ z_clock g f = absurd f

  -- the node that is begun, ended
  record Led (p : Spot) : Type 0 where
    more : List Token
    whole : Node
    good : IsNode limit whole
    text : spot_text p more ≡ node whole []

  good_node : (x : List ℕ) (ins outs : List Group) (b : Bool) (ls : List Group) (es : Eqs) → GoodHead ins outs ls → Each (IsEquation limit) es → IsNode limit (whole_node x ins outs b ls es false)
  good_node x ins outs b ls es g e = (g.plain, g.some, g.groups, g.locals, e)

  -- what ends a section after a group, and the rest of the node
  abbrev rest_of : Draft → List Token
  rest_of (d_ins x gs) = token.Close ∷ token.Returns ∷ token.Open ∷ token.Ident some_name ∷ token.Colon ∷ token.Type ty.Int ∷ token.Close ∷ token.Let ∷ token.Tel ∷ []
  rest_of (d_outs x ins gs) = token.Close ∷ token.Let ∷ token.Tel ∷ []
  rest_of (d_locals x ins outs b gs) = token.Semicolon ∷ token.Let ∷ token.Tel ∷ []

  record Grown (d : Draft) (g : Group) : Type 0 where
    whole : Node
    good : IsNode limit whole
    text : lead d (group g (rest_of d)) ≡ node whole []

  grown : (d : Draft) (g : Group) → GoodDraft d → IsGroup g → ClockFits d g.clock → Grown d g
  grown (d_ins x gs) g w i c = record {
    whole = whole_node x (gs ++ g ∷ []) (some_group ∷ []) false [] [] false;
    good = (each_all_snoc IsPlain gs g w (i, c), tt, (tt, tt), tt, tt);
    text = ap (head x) (sym (between_snoc token.Semicolon group gs g (rest_of (d_ins x gs))));
  }
  grown (d_outs x ins gs) g w i c = record {
    whole = whole_node x ins (gs ++ g ∷ []) false [] [] false;
    good = (w.0, not_empty_snoc gs g, each_all_snoc IsGroup gs g w.1 i, tt, tt);
    text = ap (λ z. with_ins x ins (token.Returns ∷ token.Open ∷ z)) (sym (between_snoc token.Semicolon group gs g (rest_of (d_outs x ins gs))));
  }
  grown (d_locals x ins outs b gs) g w i c =
      let r = token.Let ∷ token.Tel ∷ [] in
      record {
        whole = whole_node x ins outs b (gs ++ g ∷ []) [] false;
        good = (w.0, w.1, w.2, each_all_snoc IsGroup gs g w.3 i, tt);
        text = ap (λ z. with_outs x ins outs (optional b token.Semicolon (token.Var ∷ z))) (sym (each_snoc local gs g r)) ∙ ap (λ z. with_outs x ins outs (optional b token.Semicolon z)) (sym (locals_some (gs ++ g ∷ []) r (not_empty_snoc gs g)));
      }

  free : (d : Draft) → ClockFits d []
  free (d_ins x gs) = refl
  free (d_outs x ins gs) = tt
  free (d_locals x ins outs b gs) = tt

  may : (d : Draft) (c : List (List ℕ × Bool)) → MayClock d → ClockFits d c
  may (d_ins x gs) c m = absurd m
  may (d_outs x ins gs) c m = tt
  may (d_locals x ins outs b gs) c m = tt

  spot_ends : (p : Spot) → 1 ≤ limit → GoodSpot limit p → Led p
  spot_ends s_idle one g = record { more = node (whole_node some_name [] (some_group ∷ []) false [] [] false) []; whole = whole_node some_name [] (some_group ∷ []) false [] [] false; good = (tt, tt, (tt, tt), tt, tt); text = refl }
  spot_ends (s_told x ins outs b ls es) one g = record { more = []; whole = whole_node x ins outs b ls es false; good = good_node x ins outs b ls es g.0 g.1; text = refl }
  spot_ends s_node one g = record { more = token.Ident some_name ∷ token.Open ∷ rest_of (d_ins some_name []); whole = whole_node some_name [] (some_group ∷ []) false [] [] false; good = (tt, tt, (tt, tt), tt, tt); text = refl }
  spot_ends (s_name x) one g = record { more = token.Open ∷ rest_of (d_ins x []); whole = whole_node x [] (some_group ∷ []) false [] [] false; good = (tt, tt, (tt, tt), tt, tt); text = refl }
  spot_ends (s_opened x) one g = record { more = rest_of (d_ins x []); whole = whole_node x [] (some_group ∷ []) false [] [] false; good = (tt, tt, (tt, tt), tt, tt); text = refl }
  spot_ends (s_want d xs) one g =
      let q = grown d (group_of (xs ++ some_name ∷ []) ty.Int []) g (not_empty_snoc xs some_name) (free d) in
      record {
        more = token.Ident some_name ∷ token.Colon ∷ token.Type ty.Int ∷ rest_of d;
        whole = q.whole;
        good = q.good;
        text = ap (lead d) (sym (each_between xs some_name (token.Colon ∷ token.Type ty.Int ∷ rest_of d))) ∙ q.text;
      }
  spot_ends (s_has d xs) one g = let q = grown d (group_of xs ty.Int []) g.0 g.1 (free d) in record { more = token.Colon ∷ token.Type ty.Int ∷ rest_of d; whole = q.whole; good = q.good; text = q.text }
  spot_ends (s_type d xs) one g = let q = grown d (group_of xs ty.Int []) g.0 g.1 (free d) in record { more = token.Type ty.Int ∷ rest_of d; whole = q.whole; good = q.good; text = q.text }
  spot_ends (s_group d xs t c) one g = let q = grown d (group_of xs t c) g.0 g.1 g.2 in record { more = rest_of d; whole = q.whole; good = q.good; text = q.text }
  spot_ends (s_polarity d xs t c) one g =
      let q = grown d (group_of xs t (c ++ (some_name, true) ∷ [])) g.0 g.1 (may d _ g.2) in
      record {
        more = token.Ident some_name ∷ rest_of d;
        whole = q.whole;
        good = q.good;
        text = ap (λ z. lead d (separated_by token.Comma ident xs (token.Colon ∷ token.Type t ∷ z))) (sym (each_snoc clause c (some_name, true) (rest_of d))) ∙ q.text;
      }
  spot_ends (s_variable d xs t c) one g =
      let q = grown d (group_of xs t (c ++ (some_name, false) ∷ [])) g.0 g.1 (may d _ g.2) in
      record {
        more = token.Ident some_name ∷ rest_of d;
        whole = q.whole;
        good = q.good;
        text = ap (λ z. lead d (separated_by token.Comma ident xs (token.Colon ∷ token.Type t ∷ z))) (sym (each_snoc clause c (some_name, false) (rest_of d))) ∙ q.text;
      }
  spot_ends (s_ins x ins) one g = record { more = token.Returns ∷ token.Open ∷ token.Ident some_name ∷ token.Colon ∷ token.Type ty.Int ∷ token.Close ∷ token.Let ∷ token.Tel ∷ []; whole = whole_node x ins (some_group ∷ []) false [] [] false; good = (g, tt, (tt, tt), tt, tt); text = refl }
  spot_ends (s_returning x ins) one g = record { more = token.Open ∷ token.Ident some_name ∷ token.Colon ∷ token.Type ty.Int ∷ token.Close ∷ token.Let ∷ token.Tel ∷ []; whole = whole_node x ins (some_group ∷ []) false [] [] false; good = (g, tt, (tt, tt), tt, tt); text = refl }
  spot_ends (s_outs x ins outs) one g = record { more = token.Let ∷ token.Tel ∷ []; whole = whole_node x ins outs false [] [] false; good = good_node x ins outs false [] [] g tt; text = refl }
  spot_ends (s_head x ins outs) one g = record { more = token.Let ∷ token.Tel ∷ []; whole = whole_node x ins outs true [] [] false; good = good_node x ins outs true [] [] g tt; text = refl }
  spot_ends (s_locals x ins outs b ls) one g = record {
    more = token.Let ∷ token.Tel ∷ [];
    whole = whole_node x ins outs b ls [] false;
    good = good_node x ins outs b ls [] g.0 tt;
    text = ap (λ z. with_outs x ins outs (optional b token.Semicolon z)) (sym (locals_some ls (token.Let ∷ token.Tel ∷ []) g.1));
  }
  spot_ends (s_body x ins outs b ls es) one g = record { more = token.Tel ∷ []; whole = whole_node x ins outs b ls es false; good = good_node x ins outs b ls es g.0 g.1; text = refl }
  spot_ends (s_left x ins outs b ls es y) one g =
      let q : List ℕ × Form = (y, named) in
      record {
        more = token.Infix (meet.Operator Eq) ∷ token.Ident some_name ∷ token.Semicolon ∷ token.Tel ∷ [];
        whole = whole_node x ins outs b ls (es ++ q ∷ []) false;
        good = good_node x ins outs b ls (es ++ q ∷ []) g.0 (each_all_snoc (IsEquation limit) es q g.1 (omega arith, one));
        text = ap (with_locals x ins outs b ls) (sym (each_snoc equation es q (token.Tel ∷ [])));
      }
  spot_ends (s_in x ins outs b ls es y zs h) one g =
      let d = ending zs h g.2 g.3 in
      let q : List ℕ × Form = (y, d.whole) in
      record {
        more = d.more (token.Semicolon ∷ token.Tel ∷ []);
        whole = whole_node x ins outs b ls (es ++ q ∷ []) false;
        good = good_node x ins outs b ls (es ++ q ∷ []) g.0 (each_all_snoc (IsEquation limit) es q g.1 (d.at, d.room));
        text = ap (λ z. with_locals x ins outs b ls (each equation es (token.Ident y ∷ token.Infix (meet.Operator Eq) ∷ z))) (d.text (token.Semicolon ∷ token.Tel ∷ []))
            ∙ ap (with_locals x ins outs b ls) (sym (each_snoc equation es q (token.Tel ∷ [])));
      }

  -- what is taken begins a program
  pub good_begins : (s : ParserState) (ts : List Token) → 1 ≤ limit → Good limit s (λ r. ts ++ r) → ProgramBegins limit ts
  good_begins s ts one g =
      let d = spot_ends g.spot one g.good in (
        d.more,
        map node_tree (g.nodes ++ d.whole ∷ []),
        record {
          nodes = g.nodes ++ d.whole ∷ [];
          some = not_empty_snoc g.nodes d.whole;
          good = each_all_snoc (IsNode limit) g.nodes d.whole g.whole d.good;
          spelled = g.written d.more ∙ ap (each node g.nodes) d.text ∙ sym (each_snoc node g.nodes d.whole []);
          meant = refl;
        },
      )
