-- The canonical text of a tree that is spelled spells it.
use Rattle.std.proofs.Common.{◌≡◌, ℕ, ◌≤◌, Bool, true, false, List, [], ◌∷◌, ◌++◌, map, refl, ap, ap₂, subst, arith}
use Rattle.lt_base.specs.declared.value.Ty.{Ty}
use Rattle.lt_tokens.specs.declared.token.Token.{Token}
use Rattle.lt_tokens.specs.declared.token.Token.TheVariants as token
use Rattle.lt_syntax.specs.declared.tree.DeclText.{DeclText}
use Rattle.lt_syntax.specs.declared.tree.NodeText.{NodeText}
use Rattle.lt_syntax.specs.Tree.{Tm}
use Rattle.lt_syntax.specs.Grammar.{Form, height, meaning}
use Rattle.lt_syntax.specs.Program.{Group, Node, each, separated_by, optional, ident, clause, group, local, locals, equation, node, NotEmpty, Each, IsGroup, IsPlain, IsEquation, IsNode, declared, decls, node_tree, Spells}
use Rattle.lt_print.specs.Canonical.{placed, canonical}
use Rattle.lt_print.proofs.Written.{IsIdent, placed_at, placed_means, lowest}
use Rattle.lt_print.proofs.Goods.{AllTokens, good_meaning, tokens_good, cuts_good}
use Rattle.lt_print.proofs.Canon.{single, printed, GoodClock, GoodDecl, GoodEquation, GoodNode, reads_nodes}

names_good : (xs : List (List ℕ)) (ts : List Token) → AllTokens (separated_by token.Comma ident xs ts) → Each IsIdent xs × AllTokens ts
names_good [] ts g = (tt, g)
names_good (x ∷ []) ts g = ((g.0, tt), g.1)
names_good (x ∷ y ∷ xs) ts g = let d = names_good (y ∷ xs) ts g.1.1 in ((g.0, d.0), d.1)

clause_good : (x : List ℕ) (b : Bool) (ts : List Token) → AllTokens (clause (x, b) ts) → IsIdent x × AllTokens ts
clause_good x true ts g = (g.1.0, g.1.1)
clause_good x false ts g = (g.1.1.0, g.1.1.1)

clock_good : (cs : List (List ℕ × Bool)) (ts : List Token) → AllTokens (each clause cs ts) → GoodClock cs × AllTokens ts
clock_good [] ts g = (tt, g)
clock_good (c ∷ cs) ts g =
    let d = clause_good c.0 c.1 (each clause cs ts) g in
    let e = clock_good cs ts d.1 in
    ((d.0, e.0), e.1)

declared_good : (xs : List (List ℕ)) (t : Ty) (c : List (List ℕ × Bool)) → Each IsIdent xs → GoodClock c → Each GoodDecl (declared xs t c)
declared_good [] t c g k = tt
declared_good (x ∷ xs) t c g k = ((g.0, k), declared_good xs t c g.1 k)

group_good : (g : Group) (ts : List Token) → AllTokens (group g ts) → Each GoodDecl (declared g.names g.ty g.clock) × AllTokens ts
group_good g ts a =
    let d = names_good g.names (token.Colon ∷ token.Type g.ty ∷ each clause g.clock ts) a in
    let e = clock_good g.clock ts d.1.1.1 in
    (declared_good g.names g.ty g.clock d.0 e.0, e.1)

each_append : {A : Type 0} → (P : A → Type 0) (xs ys : List A) → Each P xs → Each P ys → Each P (xs ++ ys)
each_append P [] ys g h = h
each_append P (x ∷ xs) ys g h = (g.0, each_append P xs ys g.1 h)

groups_good : (gs : List Group) (ts : List Token) → AllTokens (separated_by token.Semicolon group gs ts) → Each GoodDecl (decls gs) × AllTokens ts
groups_good [] ts a = (tt, a)
groups_good (g ∷ []) ts a = let d = group_good g ts a in (each_append GoodDecl (declared g.names g.ty g.clock) [] d.0 tt, d.1)
groups_good (g ∷ h ∷ gs) ts a =
    let d = group_good g (token.Semicolon ∷ separated_by token.Semicolon group (h ∷ gs) ts) a in
    let e = groups_good (h ∷ gs) ts d.1.1 in
    (each_append GoodDecl (declared g.names g.ty g.clock) (decls (h ∷ gs)) d.0 e.0, e.1)

locals_each : (gs : List Group) (ts : List Token) → AllTokens (each local gs ts) → Each GoodDecl (decls gs) × AllTokens ts
locals_each [] ts a = (tt, a)
locals_each (g ∷ gs) ts a =
    let d = group_good g (token.Semicolon ∷ each local gs ts) a in
    let e = locals_each gs ts d.1.1 in
    (each_append GoodDecl (declared g.names g.ty g.clock) (decls gs) d.0 e.0, e.1)

locals_good : (b : Bool) (gs : List Group) (ts : List Token) → AllTokens (optional b token.Semicolon (locals gs ts)) → Each GoodDecl (decls gs) × AllTokens ts
locals_good true [] ts a = (tt, a.1)
locals_good false [] ts a = (tt, a)
locals_good true (g ∷ gs) ts a = locals_each (g ∷ gs) ts a.1.1
locals_good false (g ∷ gs) ts a = locals_each (g ∷ gs) ts a.1

equations_good : (es : List (List ℕ × Form)) (ts : List Token) → Each (IsEquation 200) es → AllTokens (each equation es ts) → Each GoodEquation (map (λ e. (e.0, meaning e.1)) es) × AllTokens ts
equations_good [] ts m a = (tt, a)
equations_good (e ∷ es) ts m a =
    let d = tokens_good 1 e.1 m.0.0 (token.Semicolon ∷ each equation es ts) a.1.1 in
    let f = equations_good es ts m.1 d.1.1 in
    let h : height (placed 1 (meaning e.1)) ≤ 200 = omega (arith, lowest e.1 1 m.0.0, m.0.1) in
    (((a.0, good_meaning e.1 d.0, h), f.0), f.1)

last_good : (b : Bool) (ts : List Token) → AllTokens (optional b token.Semicolon ts) → AllTokens ts
last_good true ts a = a.1
last_good false ts a = a

no_clock : (xs : List (List ℕ)) (t : Ty) (c : List (List ℕ × Bool)) → c ≡ [] → Each (λ d. d.clock ≡ []) (declared xs t c)
no_clock [] t c e = tt
no_clock (x ∷ xs) t c e = (e, no_clock xs t c e)

no_clocks : (gs : List Group) → Each IsPlain gs → Each (λ d. d.clock ≡ []) (decls gs)
no_clocks [] m = tt
no_clocks (g ∷ gs) m = each_append (λ d. d.clock ≡ []) (declared g.names g.ty g.clock) (decls gs) (no_clock g.names g.ty g.clock m.0.1) (no_clocks gs m.1)

some_decls : (gs : List Group) → NotEmpty gs → Each IsGroup gs → NotEmpty (decls gs)
some_decls [] n m = absurd n
some_decls (g ∷ gs) n m = by g.names m.0
  where
    by : (xs : List (List ℕ)) → NotEmpty xs → NotEmpty (declared xs g.ty g.clock ++ decls gs)
    by [] n = absurd n
    by (x ∷ xs) n = tt

node_good : (d : Node) (ts : List Token) → IsNode 200 d → AllTokens (node d ts) → GoodNode (node_tree d) × AllTokens ts
node_good d ts m a =
    let t5 = optional d.last token.Semicolon ts in
    let t4 = token.Let ∷ each equation d.eqs (token.Tel ∷ t5) in
    let t2 = separated_by token.Semicolon group d.outs (token.Close ∷ optional d.semicolon token.Semicolon (locals d.locals t4)) in
    let i = groups_good d.ins (token.Close ∷ token.Returns ∷ token.Open ∷ t2) a.1.1.1 in
    let o = groups_good d.outs (token.Close ∷ optional d.semicolon token.Semicolon (locals d.locals t4)) i.1.1.1.1 in
    let l = locals_good d.semicolon d.locals t4 o.1.1 in
    let e = equations_good d.eqs (token.Tel ∷ t5) m.4 l.1.1 in
    (record { named = a.1.0; ins = i.0; plain = no_clocks d.ins m.0; outs = o.0; some_outs = some_decls d.outs m.1 m.2; locals = l.0; eqs = e.0 }, last_good d.last ts e.1.1)

nodes_good : (ds : List Node) (ts : List Token) → Each (IsNode 200) ds → AllTokens (each node ds ts) → Each GoodNode (map node_tree ds) × AllTokens ts
nodes_good [] ts m a = (tt, a)
nodes_good (d ∷ ds) ts m a =
    let g = node_good d (each node ds ts) m.0 a in
    let h = nodes_good ds ts m.1 g.1 in
    ((g.0, h.0), h.1)

-- the printed node has the tree, and is one of the grammar
decls_single : (ds : List DeclText) → decls (map single ds) ≡ ds
decls_single [] = refl
decls_single (d ∷ ds) = ap (λ z. d ∷ z) (decls_single ds)

eqs_meant : (es : List (List ℕ × Tm)) → Each GoodEquation es → map (λ (e : List ℕ × Form). (e.0, meaning e.1)) (map (λ (e : List ℕ × Tm). (e.0, placed 1 e.1)) es) ≡ es
eqs_meant [] g = refl
eqs_meant (e ∷ es) g = ap₂ (λ t z. (e.0, t) ∷ z) (placed_means 1 e.1 g.0.1) (eqs_meant es g.1)

printed_tree : (n : NodeText) → GoodNode n → node_tree (printed n) ≡ n
printed_tree n g =
    let p = decls_single n.ins in
    let q = decls_single n.outs in
    let r = decls_single n.locals in
    let s = eqs_meant n.eqs g.eqs in
    λ i. record { name = n.name; ins = p i; outs = q i; locals = r i; eqs = s i }

plain_singles : (ds : List DeclText) → Each (λ d. d.clock ≡ []) ds → Each IsPlain (map single ds)
plain_singles [] g = tt
plain_singles (d ∷ ds) g = ((tt, g.0), plain_singles ds g.1)

singles : (ds : List DeclText) → Each IsGroup (map single ds)
singles [] = tt
singles (d ∷ ds) = (tt, singles ds)

some_singles : (ds : List DeclText) → NotEmpty ds → NotEmpty (map single ds)
some_singles [] n = absurd n
some_singles (d ∷ ds) n = tt

equations_fit : (es : List (List ℕ × Tm)) → Each GoodEquation es → Each (IsEquation 200) (map (λ e. (e.0, placed 1 e.1)) es)
equations_fit [] g = tt
equations_fit (e ∷ es) g = ((placed_at 1 e.1 (omega arith) g.0.1, g.0.2), equations_fit es g.1)

printed_good : (n : NodeText) → GoodNode n → IsNode 200 (printed n)
printed_good n g = (plain_singles n.ins g.plain, some_singles n.outs g.some_outs, singles n.outs, singles n.locals, equations_fit n.eqs g.eqs)

all_trees : (ns : List NodeText) → Each GoodNode ns → map node_tree (map printed ns) ≡ ns
all_trees [] g = refl
all_trees (n ∷ ns) g = ap₂ (λ m z. m ∷ z) (printed_tree n g.0) (all_trees ns g.1)

all_printed : (ns : List NodeText) → Each GoodNode ns → Each (IsNode 200) (map printed ns)
all_printed [] g = tt
all_printed (n ∷ ns) g = (printed_good n g.0, all_printed ns g.1)

spells : (ns : List NodeText) → NotEmpty ns → Each GoodNode ns → Spells 200 (canonical ns) ns
spells [] n g = absurd n
spells (n ∷ ns) e g = record {
  tokens = each node (map printed (n ∷ ns)) [];
  rest = 10 ∷ [];
  cut = reads_nodes n ns g;
  ended = refl;
  program = record { nodes = map printed (n ∷ ns); some = tt; good = all_printed (n ∷ ns) g; spelled = refl; meant = all_trees (n ∷ ns) g };
}

some_trees : (ds : List Node) → NotEmpty ds → NotEmpty (map node_tree ds)
some_trees [] h = absurd h
some_trees (x ∷ xs) h = tt

pub canonical_spells : (bytes : List ℕ) (t : List NodeText) → Spells 200 bytes t → Spells 200 (canonical t) t
canonical_spells bytes t s =
    let p = s.program in
    let a = subst AllTokens p.spelled (cuts_good s.tokens bytes s.rest s.cut) in
    let g = nodes_good p.nodes [] p.good a in
    subst (λ z. Spells 200 (canonical z) z) p.meant (spells (map node_tree p.nodes) (some_trees p.nodes p.some) g.0)
