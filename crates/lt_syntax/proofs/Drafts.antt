-- A program that is begun, as it is written.
use Rattle.std.proofs.Common.{◌≡◌, ℕ, Bool, false, List, [], ◌∷◌, ◌++◌, map, refl, sym, ap, ◌∙◌, append_assoc, append-nil}
use Rattle.lt_base.specs.declared.operators.Bin.TheVariants.{Eq}
use Rattle.lt_base.specs.declared.value.Ty.{Ty}
use Rattle.lt_tokens.specs.declared.token.Infix.TheVariants as meet
use Rattle.lt_tokens.specs.declared.token.Token.{Token}
use Rattle.lt_tokens.specs.declared.token.Token.TheVariants as token
use Rattle.lt_syntax.specs.declared.tree.NodeText.{NodeText}
use Rattle.lt_syntax.specs.declared.section.Section.{Section}
use Rattle.lt_syntax.specs.declared.section.Section.TheVariants.{Ins, Outs, Locals}
use Rattle.lt_syntax.specs.Grammar.{Form, meaning}
use Rattle.lt_syntax.specs.Program.{Group, Node, each, separated_by, optional, ident, group, local, locals, equation, node, NotEmpty, Each, IsGroup, IsPlain, IsEquation, declared, decls, node_tree}
use Rattle.lt_syntax.specs.Parser.{ParserPhase, Idle, Told, WantNode, HasNode, Opened, WantName, HasName, WantType, HasGroup, WantPolarity, WantVariable, HasIns, Returning, HasOuts, HasHead, HasLocals, Body, HasLeft, In, empty_node}
use Rattle.lt_syntax.proofs.Zipper.{Begun, Holding, stack, mode, all_opened, held}
use Rattle.lt_syntax.proofs.Sound.{AreBegun, Fit}

-- a section of declarations that is begun, with its whole groups
pub data Draft : Type 0 where
  d_ins : List ℕ → List Group → Draft
  d_outs : List ℕ → List Group → List Group → Draft
  d_locals : List ℕ → List Group → List Group → Bool → List Group → Draft

abbrev pub section : Draft → Section
section (d_ins x gs) = Ins
section (d_outs x ins gs) = Outs
section (d_locals x ins outs b gs) = Locals

abbrev pub draft_tree : Draft → NodeText
draft_tree (d_ins x gs) = record { name = x; ins = decls gs; outs = []; locals = []; eqs = [] }
draft_tree (d_outs x ins gs) = record { name = x; ins = decls ins; outs = decls gs; locals = []; eqs = [] }
draft_tree (d_locals x ins outs b gs) = record { name = x; ins = decls ins; outs = decls outs; locals = decls gs; eqs = [] }

abbrev pub head : List ℕ → List Token → List Token
head x r = token.Node ∷ token.Ident x ∷ token.Open ∷ r

abbrev pub with_ins : List ℕ → List Group → List Token → List Token
with_ins x ins r = head x (separated_by token.Semicolon group ins (token.Close ∷ r))

abbrev pub with_outs : List ℕ → List Group → List Group → List Token → List Token
with_outs x ins outs r = with_ins x ins (token.Returns ∷ token.Open ∷ separated_by token.Semicolon group outs (token.Close ∷ r))

abbrev pub lead : Draft → List Token → List Token
lead (d_ins x gs) r = head x (each local gs r)
lead (d_outs x ins gs) r = with_ins x ins (token.Returns ∷ token.Open ∷ each local gs r)
lead (d_locals x ins outs b gs) r = with_outs x ins outs (optional b token.Semicolon (token.Var ∷ each local gs r))

abbrev pub with_locals : List ℕ → List Group → List Group → Bool → List Group → List Token → List Token
with_locals x ins outs b ls r = with_outs x ins outs (optional b token.Semicolon (locals ls (token.Let ∷ r)))

abbrev pub GoodDraft : Draft → Type 0
GoodDraft (d_ins x gs) = Each IsPlain gs
GoodDraft (d_outs x ins gs) = Each IsPlain ins × Each IsGroup gs
GoodDraft (d_locals x ins outs b gs) = Each IsPlain ins × NotEmpty outs × Each IsGroup outs × Each IsGroup gs

-- inputs have no clocks
abbrev pub MayClock : Draft → Type 0
MayClock (d_ins x gs) = ⊥
MayClock _ = Unit {0}

abbrev pub ClockFits : Draft → List (List ℕ × Bool) → Type 0
ClockFits (d_ins x gs) c = c ≡ []
ClockFits _ c = Unit {0}

abbrev pub name_comma : List ℕ → List Token → List Token
name_comma x r = token.Ident x ∷ token.Comma ∷ r

abbrev pub group_of : List (List ℕ) → Ty → List (List ℕ × Bool) → Group
group_of xs ty c = record { names = xs; ty = ty; clock = c }

abbrev pub Eqs : Type 0
Eqs = List (List ℕ × Form)

-- where the text is, as it is written
pub data Spot : Type 0 where
  s_idle : Spot
  s_told : List ℕ → List Group → List Group → Bool → List Group → Eqs → Spot
  s_node : Spot
  s_name : List ℕ → Spot
  s_opened : List ℕ → Spot
  s_want : Draft → List (List ℕ) → Spot
  s_has : Draft → List (List ℕ) → Spot
  s_type : Draft → List (List ℕ) → Spot
  s_group : Draft → List (List ℕ) → Ty → List (List ℕ × Bool) → Spot
  s_polarity : Draft → List (List ℕ) → Ty → List (List ℕ × Bool) → Spot
  s_variable : Draft → List (List ℕ) → Ty → List (List ℕ × Bool) → Spot
  s_ins : List ℕ → List Group → Spot
  s_returning : List ℕ → List Group → Spot
  s_outs : List ℕ → List Group → List Group → Spot
  s_head : List ℕ → List Group → List Group → Spot
  s_locals : List ℕ → List Group → List Group → Bool → List Group → Spot
  s_body : List ℕ → List Group → List Group → Bool → List Group → Eqs → Spot
  s_left : List ℕ → List Group → List Group → Bool → List Group → Eqs → List ℕ → Spot
  s_in : List ℕ → List Group → List Group → Bool → List Group → Eqs → List ℕ → List Begun → Holding → Spot

abbrev pub whole_node : List ℕ → List Group → List Group → Bool → List Group → Eqs → Bool → Node
whole_node x ins outs b ls es last = record { name = x; ins = ins; outs = outs; semicolon = b; locals = ls; eqs = es; last = last }

abbrev pub body_tree : List ℕ → List Group → List Group → List Group → Eqs → NodeText
body_tree x ins outs ls es = record { name = x; ins = decls ins; outs = decls outs; locals = decls ls; eqs = map (λ e. (e.0, meaning e.1)) es }

abbrev pub phase : Spot → ParserPhase
phase s_idle = Idle
phase (s_told x ins outs b ls es) = Told
phase s_node = WantNode
phase (s_name x) = HasNode x
phase (s_opened x) = Opened (empty_node x)
phase (s_want d xs) = WantName (draft_tree d) (section d) xs
phase (s_has d xs) = HasName (draft_tree d) (section d) xs
phase (s_type d xs) = WantType (draft_tree d) (section d) xs
phase (s_group d xs ty c) = HasGroup (draft_tree d) (section d) xs ty c
phase (s_polarity d xs ty c) = WantPolarity (draft_tree d) (section d) xs ty c
phase (s_variable d xs ty c) = WantVariable (draft_tree d) (section d) xs ty c
phase (s_ins x ins) = HasIns (body_tree x ins [] [] [])
phase (s_returning x ins) = Returning (body_tree x ins [] [] [])
phase (s_outs x ins outs) = HasOuts (body_tree x ins outs [] [])
phase (s_head x ins outs) = HasHead (body_tree x ins outs [] [])
phase (s_locals x ins outs b ls) = HasLocals (body_tree x ins outs ls [])
phase (s_body x ins outs b ls es) = Body (body_tree x ins outs ls es)
phase (s_left x ins outs b ls es y) = HasLeft (body_tree x ins outs ls es) y
phase (s_in x ins outs b ls es y zs h) = In (body_tree x ins outs ls es) y (stack zs) (mode h)

-- the text of a spot, and then r
abbrev pub spot_text : Spot → List Token → List Token
spot_text s_idle r = r
spot_text (s_told x ins outs b ls es) r = node (whole_node x ins outs b ls es false) r
spot_text s_node r = token.Node ∷ r
spot_text (s_name x) r = token.Node ∷ token.Ident x ∷ r
spot_text (s_opened x) r = head x r
spot_text (s_want d xs) r = lead d (each name_comma xs r)
spot_text (s_has d xs) r = lead d (separated_by token.Comma ident xs r)
spot_text (s_type d xs) r = lead d (separated_by token.Comma ident xs (token.Colon ∷ r))
spot_text (s_group d xs ty c) r = lead d (group (group_of xs ty c) r)
spot_text (s_polarity d xs ty c) r = lead d (group (group_of xs ty c) (token.When ∷ r))
spot_text (s_variable d xs ty c) r = lead d (group (group_of xs ty c) (token.When ∷ token.Not ∷ r))
spot_text (s_ins x ins) r = with_ins x ins r
spot_text (s_returning x ins) r = with_ins x ins (token.Returns ∷ r)
spot_text (s_outs x ins outs) r = with_outs x ins outs r
spot_text (s_head x ins outs) r = with_outs x ins outs (token.Semicolon ∷ r)
spot_text (s_locals x ins outs b ls) r = with_outs x ins outs (optional b token.Semicolon (token.Var ∷ each local ls r))
spot_text (s_body x ins outs b ls es) r = with_locals x ins outs b ls (each equation es r)
spot_text (s_left x ins outs b ls es y) r = with_locals x ins outs b ls (each equation es (token.Ident y ∷ r))
spot_text (s_in x ins outs b ls es y zs h) r = with_locals x ins outs b ls (each equation es (token.Ident y ∷ token.Infix (meet.Operator Eq) ∷ all_opened zs (held h r)))

-- the trees of the nodes that are whole
abbrev pub all_done : List Node → Spot → List NodeText
all_done ds (s_told x ins outs b ls es) = map node_tree ds ++ body_tree x ins outs ls es ∷ []
all_done ds _ = map node_tree ds

-- the parts of a node before its equations
pub record GoodHead (ins outs ls : List Group) : Type 0 where
  pub plain : Each IsPlain ins
  pub some : NotEmpty outs
  pub groups : Each IsGroup outs
  pub locals : Each IsGroup ls

abbrev pub GoodSpot : ℕ → Spot → Type 0
GoodSpot limit s_idle = Unit {0}
GoodSpot limit (s_told x ins outs b ls es) = GoodHead ins outs ls × Each (IsEquation limit) es
GoodSpot limit s_node = Unit {0}
GoodSpot limit (s_name x) = Unit {0}
GoodSpot limit (s_opened x) = Unit {0}
GoodSpot limit (s_want d xs) = GoodDraft d
GoodSpot limit (s_has d xs) = GoodDraft d × NotEmpty xs
GoodSpot limit (s_type d xs) = GoodDraft d × NotEmpty xs
GoodSpot limit (s_group d xs ty c) = GoodDraft d × NotEmpty xs × ClockFits d c
GoodSpot limit (s_polarity d xs ty c) = GoodDraft d × NotEmpty xs × MayClock d
GoodSpot limit (s_variable d xs ty c) = GoodDraft d × NotEmpty xs × MayClock d
GoodSpot limit (s_ins x ins) = Each IsPlain ins
GoodSpot limit (s_returning x ins) = Each IsPlain ins
GoodSpot limit (s_outs x ins outs) = GoodHead ins outs []
GoodSpot limit (s_head x ins outs) = GoodHead ins outs []
GoodSpot limit (s_locals x ins outs b ls) = GoodHead ins outs ls × NotEmpty ls
GoodSpot limit (s_body x ins outs b ls es) = GoodHead ins outs ls × Each (IsEquation limit) es
GoodSpot limit (s_left x ins outs b ls es y) = GoodHead ins outs ls × Each (IsEquation limit) es
GoodSpot limit (s_in x ins outs b ls es y zs h) = GoodHead ins outs ls × Each (IsEquation limit) es × AreBegun limit zs × Fit limit zs h

-- one more at the end
pub each_snoc : {A : Type 0} → (f : A → List Token → List Token) (xs : List A) (x : A) (r : List Token) → each f (xs ++ x ∷ []) r ≡ each f xs (f x r)
each_snoc f [] x r = refl
each_snoc f (y ∷ xs) x r = ap (f y) (each_snoc f xs x r)

pub between_snoc : {A : Type 0} → (s : Token) (f : A → List Token → List Token) (xs : List A) (x : A) (r : List Token) → separated_by s f (xs ++ x ∷ []) r ≡ each (λ y w. f y (s ∷ w)) xs (f x r)
between_snoc s f [] x r = refl
between_snoc s f (y ∷ []) x r = refl
between_snoc s f (y ∷ z ∷ xs) x r = ap (λ w. f y (s ∷ w)) (between_snoc s f (z ∷ xs) x r)

-- what follows the names of a group begins behind a comma as behind the names
pub each_between : (xs : List (List ℕ)) (x : List ℕ) (r : List Token) → separated_by token.Comma ident (xs ++ x ∷ []) r ≡ each name_comma xs (token.Ident x ∷ r)
each_between xs x r = between_snoc token.Comma ident xs x r

pub between_comma : (xs : List (List ℕ)) (r : List Token) → NotEmpty xs → separated_by token.Comma ident xs (token.Comma ∷ r) ≡ each name_comma xs r
between_comma [] r e = absurd e
between_comma (x ∷ []) r e = refl
between_comma (x ∷ y ∷ xs) r e = ap (λ w. token.Ident x ∷ token.Comma ∷ w) (between_comma (y ∷ xs) r tt)

pub not_empty_snoc : {A : Type 0} → (xs : List A) (x : A) → NotEmpty (xs ++ x ∷ [])
not_empty_snoc [] x = tt
not_empty_snoc (y ∷ xs) x = tt

pub each_all_snoc : {A : Type 0} → (P : A → Type 0) (xs : List A) (x : A) → Each P xs → P x → Each P (xs ++ x ∷ [])
each_all_snoc P [] x e h = (h, tt)
each_all_snoc P (y ∷ xs) x e h = (e.0, each_all_snoc P xs x e.1 h)

pub decls_snoc : (gs : List Group) (g : Group) → decls gs ++ declared g.names g.ty g.clock ≡ decls (gs ++ g ∷ [])
decls_snoc [] g = sym (append-nil (declared g.names g.ty g.clock))
decls_snoc (h ∷ gs) g = append_assoc (declared h.names h.ty h.clock) (decls gs) (declared g.names g.ty g.clock) ∙ ap (λ z. declared h.names h.ty h.clock ++ z) (decls_snoc gs g)

pub map_snoc : {A B : Type 0} → (f : A → B) (xs : List A) (x : A) → map f xs ++ f x ∷ [] ≡ map f (xs ++ x ∷ [])
map_snoc f [] x = refl
map_snoc f (y ∷ xs) x = ap (λ z. f y ∷ z) (map_snoc f xs x)

pub locals_some : (ls : List Group) (r : List Token) → NotEmpty ls → locals ls r ≡ token.Var ∷ each local ls r
locals_some [] r e = absurd e
locals_some (g ∷ gs) r e = refl
