-- The machine reads every program.
use Rattle.std.proofs.Common.{◌≡◌, ℕ, Bool, true, false, List, [], ◌∷◌, ◌++◌, map, Result, Ok, refl, sym, ap, ◌∙◌, arith, append_assoc, append-nil}
use Rattle.lt_base.specs.declared.value.Ty.{Ty}
use Rattle.lt_tokens.specs.declared.token.Token.{Token}
use Rattle.lt_tokens.specs.declared.token.Token.TheVariants as token
use Rattle.lt_syntax.specs.declared.tree.DeclText.{DeclText}
use Rattle.lt_syntax.specs.declared.tree.NodeText.{NodeText}
use Rattle.lt_syntax.specs.declared.section.Section.{Section}
use Rattle.lt_syntax.specs.declared.section.Section.TheVariants.{Ins, Outs, Locals}
use Rattle.lt_syntax.specs.Tree.{Tm}
use Rattle.lt_syntax.specs.Grammar.{Form, polarity, meaning}
use Rattle.lt_syntax.specs.Program.{Group, Node, each, separated_by, optional, ident, clause, group, local, locals, equation, node, NotEmpty, Each, IsGroup, IsPlain, IsEquation, IsNode, declared, decls, node_tree, Program}
use Rattle.lt_syntax.specs.Parser.{ParserPhase, Idle, Told, Opened, WantName, HasName, HasGroup, WantPolarity, HasIns, HasOuts, HasLocals, Body, ParserState, Kind, empty_node, add, add_equation, parser_run, parser_start, PhaseEnds}
use Rattle.lt_syntax.proofs.Complete.{height_pos}
use Rattle.lt_syntax.proofs.Runs.{runs}

-- the phase behind the ) of a section
abbrev pub closed : Section → NodeText → ParserPhase
closed Ins n = HasIns n
closed Outs n = HasOuts n
closed Locals n = HasLocals n

-- sections whose groups may have clocks
abbrev pub Clocked : Section → Type 0
Clocked Ins = ⊥
Clocked Outs = Unit {0}
Clocked Locals = Unit {0}

abbrev pub Listed : Section → Type 0
Listed Ins = Unit {0}
Listed Outs = Unit {0}
Listed Locals = ⊥

pub add_add : (n : NodeText) (s : Section) (ds es : List DeclText) → add (add n s ds) s es ≡ add n s (ds ++ es)
add_add n Ins ds es = ap (λ z. record { name = n.name; ins = z; outs = n.outs; locals = n.locals; eqs = n.eqs }) (append_assoc n.ins ds es)
add_add n Outs ds es = ap (λ z. record { name = n.name; ins = n.ins; outs = z; locals = n.locals; eqs = n.eqs }) (append_assoc n.outs ds es)
add_add n Locals ds es = ap (λ z. record { name = n.name; ins = n.ins; outs = n.outs; locals = z; eqs = n.eqs }) (append_assoc n.locals ds es)

pub add_none : (n : NodeText) (s : Section) → n ≡ add n s []
add_none n Ins = ap (λ z. record { name = n.name; ins = z; outs = n.outs; locals = n.locals; eqs = n.eqs }) (sym (append-nil n.ins))
add_none n Outs = ap (λ z. record { name = n.name; ins = n.ins; outs = z; locals = n.locals; eqs = n.eqs }) (sym (append-nil n.outs))
add_none n Locals = ap (λ z. record { name = n.name; ins = n.ins; outs = n.outs; locals = z; eqs = n.eqs }) (sym (append-nil n.locals))

abbrev pub with_equations : NodeText → List (List ℕ × Tm) → NodeText
with_equations n es = record { name = n.name; ins = n.ins; outs = n.outs; locals = n.locals; eqs = n.eqs ++ es }

module _ (limit : ℕ) (done : List NodeText) where
  abbrev pub at : ParserPhase → List Token → Result ParserState Kind
  at p ts = parser_run limit (record { done = done; phase = p }) ts

  names_run : (n : NodeText) (s : Section) (before : List (List ℕ)) (x : List ℕ) (more : List (List ℕ)) (w : List Token) → at (WantName n s before) (separated_by token.Comma ident (x ∷ more) w) ≡ at (HasName n s (before ++ x ∷ more)) w
  names_run n s before x [] w = refl
  names_run n s before x (y ∷ ys) w = names_run n s (before ++ x ∷ []) y ys w ∙ ap (λ z. at (HasName n s z) w) (append_assoc before (x ∷ []) (y ∷ ys))

  clock_run : (n : NodeText) (s : Section) (xs : List (List ℕ)) (ty : Ty) (c cs : List (List ℕ × Bool)) (w : List Token) → Clocked s → at (HasGroup n s xs ty c) (each clause cs w) ≡ at (HasGroup n s xs ty (c ++ cs)) w
  clock_run n Ins xs ty c cs w k = absurd k
  clock_run n Outs xs ty c [] w k = ap (λ z. at (HasGroup n Outs xs ty z) w) (sym (append-nil c))
  clock_run n Locals xs ty c [] w k = ap (λ z. at (HasGroup n Locals xs ty z) w) (sym (append-nil c))
  clock_run n Outs xs ty c (p ∷ cs) w k =
      elim p.1 as (λ b. at (WantPolarity n Outs xs ty c) (polarity b (token.Ident p.0 ∷ each clause cs w)) ≡ at (HasGroup n Outs xs ty (c ++ (p.0, b) ∷ [])) (each clause cs w)) [ true ↦ refl | false ↦ refl ]
      ∙ clock_run n Outs xs ty (c ++ p ∷ []) cs w k
      ∙ ap (λ z. at (HasGroup n Outs xs ty z) w) (append_assoc c (p ∷ []) cs)
  clock_run n Locals xs ty c (p ∷ cs) w k =
      elim p.1 as (λ b. at (WantPolarity n Locals xs ty c) (polarity b (token.Ident p.0 ∷ each clause cs w)) ≡ at (HasGroup n Locals xs ty (c ++ (p.0, b) ∷ [])) (each clause cs w)) [ true ↦ refl | false ↦ refl ]
      ∙ clock_run n Locals xs ty (c ++ p ∷ []) cs w k
      ∙ ap (λ z. at (HasGroup n Locals xs ty z) w) (append_assoc c (p ∷ []) cs)

  -- a group may stand in this section
  abbrev pub May : Section → Group → Type 0
  May Ins g = IsPlain g
  May Outs g = IsGroup g
  May Locals g = IsGroup g

  clauses_run : (n : NodeText) (s : Section) (xs : List (List ℕ)) (ty : Ty) (g : Group) (w : List Token) → May s g → at (HasGroup n s xs ty []) (each clause g.clock w) ≡ at (HasGroup n s xs ty g.clock) w
  clauses_run n Ins xs ty g w m = ap (λ z. at (HasGroup n Ins xs ty []) (each clause z w)) m.1 ∙ ap (λ z. at (HasGroup n Ins xs ty z) w) (sym m.1)
  clauses_run n Outs xs ty g w m = clock_run n Outs xs ty [] g.clock w tt
  clauses_run n Locals xs ty g w m = clock_run n Locals xs ty [] g.clock w tt

  may_group : (s : Section) (g : Group) → May s g → IsGroup g
  may_group Ins g m = m.0
  may_group Outs g m = m
  may_group Locals g m = m

  group_by : (n : NodeText) (s : Section) (g : Group) (w : List Token) → May s g → (xs : List (List ℕ)) → NotEmpty xs → at (WantName n s []) (separated_by token.Comma ident xs (token.Colon ∷ token.Type g.ty ∷ each clause g.clock w)) ≡ at (HasGroup n s xs g.ty g.clock) w
  group_by n s g w m [] e = absurd e
  group_by n s g w m (x ∷ more) e =
      names_run n s [] x more (token.Colon ∷ token.Type g.ty ∷ each clause g.clock w) ∙ clauses_run n s (x ∷ more) g.ty g w m

  group_run : (n : NodeText) (s : Section) (g : Group) (w : List Token) → May s g → at (WantName n s []) (group g w) ≡ at (HasGroup n s g.names g.ty g.clock) w
  group_run n s g w m = group_by n s g w m g.names (may_group s g m)

  -- the first name of a section
  enter : (p : ParserPhase) (n : NodeText) (s : Section) → ((x : List ℕ) (w : List Token) → at p (token.Ident x ∷ w) ≡ at (WantName n s []) (token.Ident x ∷ w)) → (xs : List (List ℕ)) → NotEmpty xs → (w : List Token) → at p (separated_by token.Comma ident xs w) ≡ at (WantName n s []) (separated_by token.Comma ident xs w)
  enter p n s h [] e w = absurd e
  enter p n s h (x ∷ []) e w = h x w
  enter p n s h (x ∷ y ∷ ys) e w = h x (token.Comma ∷ separated_by token.Comma ident (y ∷ ys) w)

  -- the groups of a list up to its )
  section_run : (n : NodeText) (s : Section) → Listed s → (g : Group) (gs : List Group) (w : List Token) → May s g → Each (May s) gs → at (WantName n s []) (separated_by token.Semicolon group (g ∷ gs) (token.Close ∷ w)) ≡ at (closed s (add n s (decls (g ∷ gs)))) w
  section_run n Ins l g [] w m ms = group_run n Ins g (token.Close ∷ w) m ∙ ap (λ z. at (HasIns (add n Ins z)) w) (sym (append-nil (declared g.names g.ty g.clock)))
  section_run n Outs l g [] w m ms = group_run n Outs g (token.Close ∷ w) m ∙ ap (λ z. at (HasOuts (add n Outs z)) w) (sym (append-nil (declared g.names g.ty g.clock)))
  section_run n Locals l g gs w m ms = absurd l
  section_run n Ins l g (h ∷ gs) w m ms =
      let ds = declared g.names g.ty g.clock in
      group_run n Ins g (token.Semicolon ∷ separated_by token.Semicolon group (h ∷ gs) (token.Close ∷ w)) m
      ∙ section_run (add n Ins ds) Ins l h gs w ms.0 ms.1
      ∙ ap (λ z. at (HasIns z) w) (add_add n Ins ds (decls (h ∷ gs)))
  section_run n Outs l g (h ∷ gs) w m ms =
      let ds = declared g.names g.ty g.clock in
      group_run n Outs g (token.Semicolon ∷ separated_by token.Semicolon group (h ∷ gs) (token.Close ∷ w)) m
      ∙ section_run (add n Outs ds) Outs l h gs w ms.0 ms.1
      ∙ ap (λ z. at (HasOuts z) w) (add_add n Outs ds (decls (h ∷ gs)))

  -- the groups of locals that are left, up to `let`
  locals_run : (n : NodeText) (gs : List Group) (w : List Token) → Each IsGroup gs → at (HasLocals n) (each local gs (token.Let ∷ w)) ≡ at (Body (add n Locals (decls gs))) w
  locals_run n [] w m = ap (λ z. at (Body z) w) (add_none n Locals)
  locals_run n (g ∷ gs) w m =
      let ds = declared g.names g.ty g.clock in
      enter (HasLocals n) n Locals (λ x w. refl) g.names m.0 _
      ∙ group_run n Locals g (token.Semicolon ∷ each local gs (token.Let ∷ w)) m.0
      ∙ locals_run (add n Locals ds) gs w m.1
      ∙ ap (λ z. at (Body z) w) (add_add n Locals ds (decls gs))

  all_locals_run : (n : NodeText) (b : Bool) (gs : List Group) (w : List Token) → Each IsGroup gs → at (HasOuts n) (optional b token.Semicolon (locals gs (token.Let ∷ w))) ≡ at (Body (add n Locals (decls gs))) w
  all_locals_run n true [] w m = ap (λ z. at (Body z) w) (add_none n Locals)
  all_locals_run n false [] w m = ap (λ z. at (Body z) w) (add_none n Locals)
  all_locals_run n true (g ∷ gs) w m = sym (enter (HasLocals n) n Locals (λ x w. refl) g.names m.0 _) ∙ locals_run n (g ∷ gs) w m
  all_locals_run n false (g ∷ gs) w m = sym (enter (HasLocals n) n Locals (λ x w. refl) g.names m.0 _) ∙ locals_run n (g ∷ gs) w m

  equations_run : (n : NodeText) (es : List (List ℕ × Form)) (w : List Token) → Each (IsEquation limit) es → at (Body n) (each equation es (token.Tel ∷ w)) ≡ at (Body (with_equations n (map (λ e. (e.0, meaning e.1)) es))) (token.Tel ∷ w)
  equations_run n [] w m = ap (λ z. at (Body (record { name = n.name; ins = n.ins; outs = n.outs; locals = n.locals; eqs = z })) (token.Tel ∷ w)) (sym (append-nil n.eqs))
  equations_run n (e ∷ es) w m =
      let pos = height_pos e.1 in
      let e' : List ℕ × Tm = (e.0, meaning e.1) in
      (runs limit done n e.0 e.1).by 1 m.0.0 [] token.Semicolon (each equation es (token.Tel ∷ w)) (omega arith) (omega arith) (omega arith) (omega (arith, m.0.1)) (omega (arith, m.0.1))
      ∙ equations_run (add_equation n e.0 (meaning e.1)) es w m.1
      ∙ ap (λ z. at (Body (record { name = n.name; ins = n.ins; outs = n.outs; locals = n.locals; eqs = z })) (token.Tel ∷ w)) (append_assoc n.eqs (e' ∷ []) (map (λ e. (e.0, meaning e.1)) es))

  ins_run : (x : List ℕ) (gs : List Group) (w : List Token) → Each IsPlain gs → at (Opened (empty_node x)) (separated_by token.Semicolon group gs (token.Close ∷ w)) ≡ at (HasIns (add (empty_node x) Ins (decls gs))) w
  ins_run x [] w m = refl
  ins_run x (g ∷ []) w m = enter (Opened (empty_node x)) (empty_node x) Ins (λ x w. refl) g.names m.0.0 _ ∙ section_run (empty_node x) Ins tt g [] w m.0 m.1
  ins_run x (g ∷ h ∷ gs) w m = enter (Opened (empty_node x)) (empty_node x) Ins (λ x w. refl) g.names m.0.0 _ ∙ section_run (empty_node x) Ins tt g (h ∷ gs) w m.0 m.1

  outs_run : (n : NodeText) (gs : List Group) (w : List Token) → NotEmpty gs → Each IsGroup gs → at (WantName n Outs []) (separated_by token.Semicolon group gs (token.Close ∷ w)) ≡ at (HasOuts (add n Outs (decls gs))) w
  outs_run n [] w e m = absurd e
  outs_run n (g ∷ gs) w e m = section_run n Outs tt g gs w m.0 m.1

-- behind a node
abbrev pub behind : Bool → ParserPhase
behind true = Idle
behind false = Told

pub ends_behind : (b : Bool) → PhaseEnds (behind b)
ends_behind true = tt
ends_behind false = tt

module _ (limit : ℕ) where
  pub node_runs : (done : List NodeText) (d : Node) (w : List Token) → IsNode limit d → at limit done Idle (node d w) ≡ parser_run limit (record { done = done ++ node_tree d ∷ []; phase = behind d.last }) w
  node_runs done d w m =
      let n1 = add (empty_node d.name) Ins (decls d.ins) in
      let n2 = add n1 Outs (decls d.outs) in
      let n3 = add n2 Locals (decls d.locals) in
      let w3 = token.Tel ∷ optional d.last token.Semicolon w in
      let w2 = each equation d.eqs w3 in
      ins_run limit done d.name d.ins _ m.0
      ∙ outs_run limit done n1 d.outs _ m.1 m.2
      ∙ all_locals_run limit done n2 d.semicolon d.locals w2 m.3
      ∙ equations_run limit done n3 d.eqs (optional d.last token.Semicolon w) m.4
      ∙ elim d.last as (λ b. parser_run limit (record { done = done ++ node_tree d ∷ []; phase = Told }) (optional b token.Semicolon w) ≡ parser_run limit (record { done = done ++ node_tree d ∷ []; phase = behind b }) w) [ true ↦ refl | false ↦ refl ]

  told : (done : List NodeText) (b : Bool) (d : Node) (w : List Token) → at limit done (behind b) (node d w) ≡ at limit done Idle (node d w)
  told done true d w = refl
  told done false d w = refl

  pub nodes_run : (done : List NodeText) (b : Bool) (ds : List Node) → Each (IsNode limit) ds → (c : Bool) × (at limit done (behind b) (each node ds []) ≡ Ok (record { done = done ++ map node_tree ds; phase = behind c }))
  nodes_run done b [] m = (b, ap (λ z. Ok (record { done = z; phase = behind b })) (sym (append-nil done)))
  nodes_run done b (d ∷ ds) m =
      let r = nodes_run (done ++ node_tree d ∷ []) d.last ds m.1 in
      (r.0, told done b d (each node ds []) ∙ node_runs done d (each node ds []) m.0 ∙ r.1 ∙ ap (λ z. Ok (record { done = z; phase = behind r.0 })) (append_assoc done (node_tree d ∷ []) (map node_tree ds)))

  -- every program is read
  pub program_runs : (ts : List Token) (t : List NodeText) → Program limit ts t → (c : Bool) × (parser_run limit parser_start ts ≡ Ok (record { done = t; phase = behind c }))
  program_runs ts t p =
      let r = nodes_run [] true p.nodes p.good in
      (r.0, ap (parser_run limit parser_start) p.spelled ∙ r.1 ∙ ap (λ z. Ok (record { done = z; phase = behind r.0 })) p.meant)
