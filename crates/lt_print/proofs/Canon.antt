-- The canonical text of a tree spells it.
use Rattle.std.proofs.Common.{◌≡◌, ℕ, ◌≤◌, Bool, true, false, List, [], ◌∷◌, ◌++◌, map, codes, refl, sym, ap, ◌∙◌, subst, append_assoc}
use Rattle.lt_base.specs.declared.operators.Bin.TheVariants.{Eq}
use Rattle.lt_base.specs.declared.value.Ty.{Ty}
use Rattle.lt_base.specs.declared.value.Ty.TheVariants as ty
use Rattle.lt_tokens.specs.declared.token.Infix.TheVariants.{Operator}
use Rattle.lt_tokens.specs.declared.token.Token.{Token}
use Rattle.lt_tokens.specs.declared.token.Token.TheVariants as token
use Rattle.lt_tokens.specs.Text as lexer
use Rattle.lt_tokens.specs.Text.{Begins, skip, front, is_word, Cuts}
use Rattle.lt_syntax.specs.declared.tree.DeclText.{DeclText}
use Rattle.lt_syntax.specs.declared.tree.NodeText.{NodeText}
use Rattle.lt_syntax.specs.Tree.{Tm}
use Rattle.lt_syntax.specs.Grammar.{tokens, height}
use Rattle.lt_syntax.specs.Program.{Group, Node, each, separated_by, clause, group, local, locals, equation, node, NotEmpty, Each}
use Rattle.lt_print.specs.Canonical.{placed, text, when_text, clocks_text, decl_text, decls_text, local_lines, locals_text, equation_lines, node_layout, canonical}
use Rattle.lt_base.specs.TypeText.{ty_text}
use Rattle.lt_print.proofs.Written.{IsIdent, Good}
use Rattle.lt_print.proofs.Lexed.{Stops, ident_front, span_stops, halts_word, open_front, close_front, semicolon_front, colon_front}
use Rattle.lt_print.proofs.Texts.{Nonempty, blank, blank_form, reads}
use Rattle.lt_print.proofs.Goods.{good_placed}

-- one declaration as a group, and a node as it is printed
abbrev pub single : DeclText → Group
single d = record { names = d.name ∷ []; ty = d.ty; clock = d.clock }

abbrev pub printed : NodeText → Node
printed n = record { name = n.name; ins = map single n.ins; outs = map single n.outs; semicolon = false; locals = map single n.locals; eqs = map (λ e. (e.0, placed 1 e.1)) n.eqs; last = false }

abbrev pub GoodClock : List (List ℕ × Bool) → Type 0
GoodClock cs = Each (λ c. IsIdent c.0) cs

abbrev pub GoodDecl : DeclText → Type 0
GoodDecl d = IsIdent d.name × GoodClock d.clock

abbrev pub GoodEquation : List ℕ × Tm → Type 0
GoodEquation e = IsIdent e.0 × Good e.1 × (height (placed 1 e.1) ≤ 200)

-- the node can be written
pub record GoodNode (n : NodeText) : Type 0 where
  pub named : IsIdent n.name
  pub ins : Each GoodDecl n.ins
  pub plain : Each (λ d. d.clock ≡ []) n.ins
  pub outs : Each GoodDecl n.outs
  pub some_outs : NotEmpty n.outs
  pub locals : Each GoodDecl n.locals
  pub eqs : Each GoodEquation n.eqs

regroup : (a b r : List ℕ) (ts : List Token) (rest : List ℕ) → Cuts (a ++ (b ++ r)) ts rest → Cuts ((a ++ b) ++ r) ts rest
regroup a b r ts rest c = subst (λ z. Cuts z ts rest) (sym (append_assoc a b r)) c

newline : (ts : List Token) → Nonempty ts → (r rest : List ℕ) → Cuts r ts rest → Cuts (10 ∷ r) ts rest
newline ts n r rest c = subst (λ z. Cuts (10 ∷ r) z rest) (sym n.is) (subst (λ z. Cuts r z rest) n.is c)

-- a name before what ends it
reads_name : (x u : List ℕ) (r : List ℕ) (ts : List Token) (rest : List ℕ) → IsIdent x → Stops (u ++ r) → Cuts (u ++ r) ts rest → Cuts ((x ++ u) ++ r) (token.Ident x ∷ ts) rest
reads_name x u r ts rest i s c = (u ++ r, ap (λ z. front (skip z)) (append_assoc x u r) ∙ ident_front x (u ++ r) i s, c)

ty_front : (t : Ty) (r : List ℕ) → Stops r → front (skip (ty_text t ++ r)) ≡ Begins (token.Type t) r
ty_front ty.Int r s = span_stops is_word (codes "int") r lexer.word (refl, (refl, (refl, tt))) (halts_word r s)
ty_front ty.Bool r s = span_stops is_word (codes "bool") r lexer.word (refl, (refl, (refl, (refl, tt)))) (halts_word r s)

reads_clock : (x : List ℕ) (b : Bool) (r : List ℕ) (ts : List Token) (rest : List ℕ) → IsIdent x → Stops r → Cuts r ts rest → Cuts (when_text x b ++ r) (clause (x, b) ts) rest
reads_clock x true r ts rest i s c = (32 ∷ (x ++ r), refl, (r, ident_front x r i s, c))
reads_clock x false r ts rest i s c = (codes " not " ++ (x ++ r), refl, (32 ∷ (x ++ r), refl, (r, ident_front x r i s, c)))

stops_clock : (x : List ℕ) (b : Bool) (u r : List ℕ) → Stops ((when_text x b ++ u) ++ r)
stops_clock x true u r = refl
stops_clock x false u r = refl

stops_clocks : (cs : List (List ℕ × Bool)) (r : List ℕ) → Stops r → Stops (clocks_text cs ++ r)
stops_clocks [] r s = s
stops_clocks (c ∷ cs) r s = stops_clock c.0 c.1 (clocks_text cs) r

reads_clocks : (cs : List (List ℕ × Bool)) → GoodClock cs → (r : List ℕ) (ts : List Token) (rest : List ℕ) → Stops r → Cuts r ts rest → Cuts (clocks_text cs ++ r) (each clause cs ts) rest
reads_clocks [] g r ts rest s c = c
reads_clocks (k ∷ cs) g r ts rest s c =
    regroup (when_text k.0 k.1) (clocks_text cs) r (each clause (k ∷ cs) ts) rest
    (reads_clock k.0 k.1 (clocks_text cs ++ r) (each clause cs ts) rest g.0 (stops_clocks cs r s) (reads_clocks cs g.1 r ts rest s c))

reads_decl : (d : DeclText) → GoodDecl d → (r : List ℕ) (ts : List Token) (rest : List ℕ) → Stops r → Cuts r ts rest → Cuts (decl_text d ++ r) (group (single d) ts) rest
reads_decl d g r ts rest s c =
    let u = ty_text d.ty ++ clocks_text d.clock in
    reads_name d.name (codes ": " ++ u) r (token.Colon ∷ token.Type d.ty ∷ each clause d.clock ts) rest g.0 refl (
      32 ∷ (u ++ r),
      colon_front _,
      (
        clocks_text d.clock ++ r,
        ap (λ z. front (skip z)) (append_assoc (ty_text d.ty) (clocks_text d.clock) r) ∙ ty_front d.ty (clocks_text d.clock ++ r) (stops_clocks d.clock r s),
        reads_clocks d.clock g.1 r ts rest s c,
      ),
    )

reads_decls : (ds : List DeclText) → Each GoodDecl ds → (r : List ℕ) (ts : List Token) (rest : List ℕ) → Stops r → Cuts r ts rest → Cuts (decls_text ds ++ r) (separated_by token.Semicolon group (map single ds) ts) rest
reads_decls [] g r ts rest s c = c
reads_decls (d ∷ []) g r ts rest s c = reads_decl d g.0 r ts rest s c
reads_decls (d ∷ e ∷ ds) g r ts rest s c =
    let u = codes "; " ++ decls_text (e ∷ ds) in
    let ts' = separated_by token.Semicolon group (map single (e ∷ ds)) ts in
    regroup (decl_text d) u r (group (single d) (token.Semicolon ∷ ts')) rest
    (reads_decl d g.0 (u ++ r) (token.Semicolon ∷ ts') rest refl
    (32 ∷ (decls_text (e ∷ ds) ++ r), semicolon_front _, blank ts' (some_decl e ds ts) (decls_text (e ∷ ds) ++ r) rest (reads_decls (e ∷ ds) g.1 r ts rest s c)))
  where
    some_decl : (e : DeclText) (ds : List DeclText) (ts : List Token) → Nonempty (separated_by token.Semicolon group (map single (e ∷ ds)) ts)
    some_decl e [] ts = record { head = token.Ident e.name; tail = _; is = refl }
    some_decl e (f ∷ ds) ts = record { head = token.Ident e.name; tail = _; is = refl }

some_local : (ds : List DeclText) (ts : List Token) → Nonempty (each local (map single ds) (token.Let ∷ ts))
some_local [] ts = record { head = token.Let; tail = ts; is = refl }
some_local (d ∷ ds) ts = record { head = token.Ident d.name; tail = _; is = refl }

reads_lines : (ds : List DeclText) → Each GoodDecl ds → (r : List ℕ) (ts : List Token) (rest : List ℕ) → Cuts r (token.Let ∷ ts) rest → Cuts (local_lines ds ++ r) (each local (map single ds) (token.Let ∷ ts)) rest
reads_lines [] g r ts rest c = c
reads_lines (d ∷ ds) g r ts rest c =
    let u = codes ";\n" ++ local_lines ds in
    let ts' = each local (map single ds) (token.Let ∷ ts) in
    regroup (decl_text d) u r (group (single d) (token.Semicolon ∷ ts')) rest
    (reads_decl d g.0 (u ++ r) (token.Semicolon ∷ ts') rest refl
    (10 ∷ (local_lines ds ++ r), semicolon_front _, newline ts' (some_local ds ts) (local_lines ds ++ r) rest (reads_lines ds g.1 r ts rest c)))

reads_locals : (ds : List DeclText) → Each GoodDecl ds → (r : List ℕ) (ts : List Token) (rest : List ℕ) → Cuts r (token.Let ∷ ts) rest → Cuts (10 ∷ (locals_text ds ++ r)) (locals (map single ds) (token.Let ∷ ts)) rest
reads_locals [] g r ts rest c = c
reads_locals (d ∷ ds) g r ts rest c = (10 ∷ (local_lines (d ∷ ds) ++ r), refl, reads_lines (d ∷ ds) g r ts rest c)

some_equation : (es : List (List ℕ × Tm)) (ts : List Token) → Nonempty (each equation (map (λ e. (e.0, placed 1 e.1)) es) (token.Tel ∷ ts))
some_equation [] ts = record { head = token.Tel; tail = ts; is = refl }
some_equation (e ∷ es) ts = record { head = token.Ident e.0; tail = _; is = refl }

reads_equations : (es : List (List ℕ × Tm)) → Each GoodEquation es → (r : List ℕ) (ts : List Token) (rest : List ℕ) → Cuts r (token.Tel ∷ ts) rest → Cuts (equation_lines es ++ r) (each equation (map (λ e. (e.0, placed 1 e.1)) es) (token.Tel ∷ ts)) rest
reads_equations [] g r ts rest c = c
reads_equations (e ∷ es) g r ts rest c =
    let a = placed 1 e.1 in
    let v = codes ";\n" ++ equation_lines es in
    let u = codes " = " ++ (text a ++ v) in
    let ts' = each equation (map (λ e. (e.0, placed 1 e.1)) es) (token.Tel ∷ ts) in
    reads_name e.0 u r (token.Infix (Operator Eq) ∷ tokens a (token.Semicolon ∷ ts')) rest g.0.0 refl (
      32 ∷ ((text a ++ v) ++ r),
      refl,
      blank_form a (token.Semicolon ∷ ts') ((text a ++ v) ++ r) rest
          (regroup (text a) v r (tokens a (token.Semicolon ∷ ts')) rest
          (reads a (good_placed 1 e.1 g.0.1) (v ++ r) (token.Semicolon ∷ ts') rest refl
          (10 ∷ (equation_lines es ++ r), semicolon_front _, newline ts' (some_equation es ts) (equation_lines es ++ r) rest (reads_equations es g.1 r ts rest c)))),
    )

reads_node : (n : NodeText) → GoodNode n → (r : List ℕ) (ts : List Token) (rest : List ℕ) → Cuts (10 ∷ r) ts rest → Cuts (node_layout n ++ r) (node (printed n) ts) rest
reads_node n g r ts rest c =
    let es = map (λ e. (e.0, placed 1 e.1)) n.eqs in
    let t5 = token.Tel ∷ ts in
    let t4 = each equation es t5 in
    let t3 = locals (map single n.locals) (token.Let ∷ t4) in
    let t2 = separated_by token.Semicolon group (map single n.outs) (token.Close ∷ t3) in
    let u5 = equation_lines n.eqs ++ codes "tel\n" in
    let u4 = locals_text n.locals ++ (codes "let\n" ++ u5) in
    let u3 = decls_text n.outs ++ (codes ")\n" ++ u4) in
    let u2 = decls_text n.ins ++ (codes ") returns (" ++ u3) in
    let c5 : Cuts (u5 ++ r) t4 rest = regroup (equation_lines n.eqs) (codes "tel\n") r t4 rest (reads_equations n.eqs g.eqs (codes "tel\n" ++ r) ts rest (10 ∷ r, refl, c)) in
    let c4 : Cuts (10 ∷ (u4 ++ r)) t3 rest =
    subst (λ z. Cuts (10 ∷ z) t3 rest) (sym (append_assoc (locals_text n.locals) (codes "let\n" ++ u5) r))
    (reads_locals n.locals g.locals ((codes "let\n" ++ u5) ++ r) t4 rest (10 ∷ (u5 ++ r), refl, newline t4 (some_equation n.eqs ts) (u5 ++ r) rest c5)) in
    let c3 : Cuts (u3 ++ r) t2 rest =
    regroup (decls_text n.outs) (codes ")\n" ++ u4) r t2 rest (reads_decls n.outs g.outs ((codes ")\n" ++ u4) ++ r) (token.Close ∷ t3) rest refl (10 ∷ (u4 ++ r), close_front _, c4)) in
    let t1 = token.Close ∷ token.Returns ∷ token.Open ∷ t2 in
    let c2 : Cuts (u2 ++ r) (separated_by token.Semicolon group (map single n.ins) t1) rest =
    regroup (decls_text n.ins) (codes ") returns (" ++ u3) r (separated_by token.Semicolon group (map single n.ins) t1) rest
    (reads_decls n.ins g.ins ((codes ") returns (" ++ u3) ++ r) t1 rest refl
    (codes " returns (" ++ (u3 ++ r), refl, (codes " (" ++ (u3 ++ r), refl, (u3 ++ r, open_front _, c3)))) in (
      32 ∷ ((n.name ++ (codes "(" ++ u2)) ++ r),
      refl,
      reads_name n.name (codes "(" ++ u2) r (token.Open ∷ separated_by token.Semicolon group (map single n.ins) t1) rest g.named refl
          (u2 ++ r, open_front _, c2),
    )

pub reads_nodes : (n : NodeText) (ns : List NodeText) → Each GoodNode (n ∷ ns) → Cuts (canonical (n ∷ ns)) (each node (map printed (n ∷ ns)) []) (10 ∷ [])
reads_nodes n [] g = reads_node n g.0 [] [] (10 ∷ []) refl
reads_nodes n (m ∷ ns) g = reads_node n g.0 (canonical (m ∷ ns)) (each node (map printed (m ∷ ns)) []) (10 ∷ []) (reads_nodes m ns g.1)
