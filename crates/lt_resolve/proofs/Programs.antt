-- The program of a right tree is good, and its names, calls and sizes are right.
use Rattle.std.proofs.Common.{◌≡◌, ℕ, zero, suc, ◌+◌, ◌<◌, true, List, [], ◌∷◌, ◌++◌, length, get_or, map, slice_get, Some, refl, sym, ap, ◌∙◌, subst, arith, eqb-true}
use Rattle.std.specs.Prelude.{nat_eq}
use Rattle.std.specs.List.{All}
use Rattle.std.proofs.lemmas.List.{length-map, map-append}
use Rattle.std.proofs.lemmas.List.Elements.{All-nil, All-cons, All-head, All-tail}
use Rattle.lt_base.specs.declared.function.Decl.{Decl}
use Rattle.lt_base.specs.Expression.{Expression, literal, variable, unary, binary, imported, choose, sampled, merged, delayed, follow, arrow, call, Arguments, no_arguments, argument}
use Rattle.lt_base.specs.Program.{Function, GoodFunction, GoodProgram, CallsBelow}
use Rattle.lt_base.specs.Meaning.{function_of}
use Rattle.lt_base.specs.Checked.{EachUse, EachArgumentUse, AnswersCall, NamesDiffer, argument_count}
use Rattle.lt_syntax.specs.declared.tree.DeclText.{DeclText}
use Rattle.lt_syntax.specs.declared.tree.NodeText.{NodeText}
use Rattle.lt_syntax.specs.Tree.{Tm, Lit, Var, Unary, Binary, Choice, Sampled, Merged, Delayed, Followed, Arrow, Call, Tms, Nil, Cons}
use Rattle.lt_resolve.specs.Names.{Name, number_of_name}
use Rattle.lt_resolve.specs.Scopes.{declarations, declared_names, variables, functions}
use Rattle.lt_resolve.specs.Named.{IsNamed, AreNamed, IsDeclared, IsNamedEquation, IsFunction, Along, numbers_from, main}
use Rattle.lt_resolve.specs.Uses as uses
use Rattle.lt_resolve.specs.Uses.{Site, sites_in, argument_sites, equation_sites, sites_from, edge, edges}
use Rattle.lt_resolve.specs.Right.{NodeIsRight, IsRightTree}
use Rattle.lt_resolve.specs.Faults.{sites, wanted, answered, input_count_of, output_count_of}
use Rattle.lt_resolve.proofs.Numbers.{number_below}
use Rattle.lt_resolve.proofs.Distinct.{differ}
use Rattle.lt_resolve.proofs.Below.{calls_below}
use Rattle.lt_resolve.specs.declared.function.Draft.{Draft}
use Rattle.lt_resolve.specs.Drafts.{IsDraft, AreDrafts}
use Rattle.lt_resolve.proofs.Pairs.{all_at, along_push, along_length, along_right, all_left, all_right}
use Rattle.lt_resolve.proofs.Good.{good_function}

-- ---- a good program

good_functions : (funcs : List Name) (t : List NodeText) (fs : List Function) → Along (IsFunction funcs) t fs → All (NodeIsRight funcs) t → All GoodFunction fs
good_functions funcs [] [] h r = All-nil GoodFunction
good_functions funcs [] (f ∷ fs) h r = absurd h
good_functions funcs (n ∷ t) [] h r = absurd h
good_functions funcs (n ∷ t) (f ∷ fs) h r = All-cons GoodFunction f fs (good_function funcs n f h.0 (All-head (NodeIsRight funcs) n t r)) (good_functions funcs t fs h.1 (All-tail (NodeIsRight funcs) n t r))

pub good_program : (t : List NodeText) (fs : List Function) (m : ℕ) → Along (IsFunction (functions t)) t fs → number_of_name (functions t) main ≡ Some m → IsRightTree t → GoodProgram (record { funcs = fs; main = m })
good_program t fs m h k r =
    let same : length fs ≡ length t = along_length (IsFunction (functions t)) t fs h in
    let many : length (functions t) ≡ length t = length-map t (λ (n : NodeText). n.name) in
    let below = number_below (functions t) main m k in
    record {
      functions = good_functions (functions t) t fs h r.all;
      main = omega (arith, same, many, below);
      calls = along_right (IsFunction (functions t)) (λ f. All (λ e. CallsBelow (length fs) e.1) f.eqs)
          (λ n f i. along_right (IsNamedEquation (variables n) (functions t)) (λ e. CallsBelow (length fs) e.1) (λ q e j. subst (λ z. CallsBelow z e.1) (many ∙ sym same) (calls_below (variables n) (functions t) q.1 e.1 j.1)) n.eqs f.eqs i.eqs) t fs h;
    }

-- ---- names

pub function_names : (funcs : List Name) (t : List NodeText) (fs : List Function) → Along (IsFunction funcs) t fs → map (λ f. f.name) fs ≡ functions t
function_names funcs [] [] h = refl
function_names funcs [] (f ∷ fs) h = absurd h
function_names funcs (n ∷ t) [] h = absurd h
function_names funcs (n ∷ t) (f ∷ fs) h = λ i. h.0.name i ∷ function_names funcs t fs h.1 i

decl_names : (vars : List Name) (ds : List DeclText) (es : List Decl) → Along (IsDeclared vars) ds es → map (λ d. d.name) es ≡ declared_names ds
decl_names vars [] [] h = refl
decl_names vars [] (e ∷ es) h = absurd h
decl_names vars (d ∷ ds) [] h = absurd h
decl_names vars (d ∷ ds) (e ∷ es) h = λ i. h.0.name i ∷ decl_names vars ds es h.1 i

pub variables_differ : (funcs : List Name) (t : List NodeText) (fs : List Function) → Along (IsFunction funcs) t fs → All (NodeIsRight funcs) t → All (λ f. NamesDiffer (map (λ d. d.name) f.decls)) fs
variables_differ funcs [] [] h r = All-nil (λ f. NamesDiffer (map (λ d. d.name) f.decls))
variables_differ funcs [] (f ∷ fs) h r = absurd h
variables_differ funcs (n ∷ t) [] h r = absurd h
variables_differ funcs (n ∷ t) (f ∷ fs) h r =
    All-cons (λ f. NamesDiffer (map (λ d. d.name) f.decls)) f fs
    (subst NamesDiffer (sym (decl_names (variables n) (declarations n) f.decls h.0.decls)) (differ (variables n) (All-head (NodeIsRight funcs) n t r).apart))
    (variables_differ funcs t fs h.1 (All-tail (NodeIsRight funcs) n t r))

-- ---- calls

count_named : (vars funcs : List Name) (args : Tms) (es : Arguments) → AreNamed vars funcs args es → argument_count es ≡ uses.term_count args
count_named vars funcs Nil no_arguments h = refl
count_named vars funcs (Cons a args) (argument e es) h = ap (λ n. 1 + n) (count_named vars funcs args es h.1)
count_named vars funcs _ _ h = absurd h

-- a fact of each call of a function
abbrev pub OfSite : (ℕ → ℕ → Type 0) → Site → Type 0
OfSite P s = (g : ℕ) → s.callee ≡ Some g → P g s.arguments

module _ (P : ℕ → ℕ → Type 0) (vars funcs : List Name) (i : ℕ) where
  mutual
    each_use : (a : Tm) (e : Expression) → IsNamed vars funcs a e → All (OfSite P) (sites_in funcs i a) → EachUse P e
    each_use (Lit v) (literal w) h s = tt
    each_use (Var x) (variable y) h s = tt
    each_use (Unary o a) (unary p e) h s = each_use a e h.1 s
    each_use (Binary o a b) (binary p d e) h s = (each_use a d h.1 (all_left (OfSite P) (sites_in funcs i a) (sites_in funcs i b) s), each_use b e h.2 (all_right (OfSite P) (sites_in funcs i a) (sites_in funcs i b) s))
    each_use (Choice c a b) (choose f d e) h s =
        let s1 = all_right (OfSite P) (sites_in funcs i c) (sites_in funcs i a ++ sites_in funcs i b) s in
        (each_use c f h.0 (all_left (OfSite P) (sites_in funcs i c) (sites_in funcs i a ++ sites_in funcs i b) s), each_use a d h.1 (all_left (OfSite P) (sites_in funcs i a) (sites_in funcs i b) s1), each_use b e h.2 (all_right (OfSite P) (sites_in funcs i a) (sites_in funcs i b) s1))
    each_use (Sampled a c t) (sampled e y u) h s = each_use a e h.0 s
    each_use (Merged c a b) (merged y d e) h s = (each_use a d h.1 (all_left (OfSite P) (sites_in funcs i a) (sites_in funcs i b) s), each_use b e h.2 (all_right (OfSite P) (sites_in funcs i a) (sites_in funcs i b) s))
    each_use (Delayed v a) (delayed w e) h s = each_use a e h.1 s
    each_use (Followed a b) (follow d e) h s = (each_use a d h.0 (all_left (OfSite P) (sites_in funcs i a) (sites_in funcs i b) s), each_use b e h.1 (all_right (OfSite P) (sites_in funcs i a) (sites_in funcs i b) s))
    each_use (Arrow a b) (arrow d e) h s = (each_use a d h.0 (all_left (OfSite P) (sites_in funcs i a) (sites_in funcs i b) s), each_use b e h.1 (all_right (OfSite P) (sites_in funcs i a) (sites_in funcs i b) s))
    each_use (Call f args) (call g es) h s = (
      subst (P g) (sym (count_named vars funcs args es h.1)) (All-head (OfSite P) (record { caller = i; name = f; callee = number_of_name funcs f; arguments = uses.term_count args }) (argument_sites funcs i args) s g h.0),
      each_args args es h.1 (All-tail (OfSite P) (record { caller = i; name = f; callee = number_of_name funcs f; arguments = uses.term_count args }) (argument_sites funcs i args) s),
    )
    each_use (Call f args) (imported o d e) h s =
        let k = each_args args (argument d (argument e no_arguments)) h.2 (All-tail (OfSite P) (record { caller = i; name = f; callee = number_of_name funcs f; arguments = uses.term_count args }) (argument_sites funcs i args) s) in (k.0, k.1.0)
    each_use _ _ h s = absurd h

    each_args : (args : Tms) (es : Arguments) → AreNamed vars funcs args es → All (OfSite P) (argument_sites funcs i args) → EachArgumentUse P es
    each_args Nil no_arguments h s = tt
    each_args (Cons a args) (argument e es) h s = (each_use a e h.0 (all_left (OfSite P) (sites_in funcs i a) (argument_sites funcs i args) s), each_args args es h.1 (all_right (OfSite P) (sites_in funcs i a) (argument_sites funcs i args) s))
    each_args _ _ h s = absurd h

  equations_use : (qs : List (Name × Tm)) (es : List (ℕ × Expression)) → Along (IsNamedEquation vars funcs) qs es → All (OfSite P) (equation_sites funcs i qs) → All (λ e. EachUse P e.1) es
  equations_use [] [] h s = All-nil (λ e. EachUse P e.1)
  equations_use [] (e ∷ es) h s = absurd h
  equations_use (q ∷ qs) [] h s = absurd h
  equations_use (q ∷ qs) (e ∷ es) h s =
      All-cons (λ e. EachUse P e.1) e es
      (each_use q.1 e.1 h.0.1 (all_left (OfSite P) (sites_in funcs i q.1) (equation_sites funcs i qs) s))
      (equations_use qs es h.1 (all_right (OfSite P) (sites_in funcs i q.1) (equation_sites funcs i qs) s))

functions_use : (P : ℕ → ℕ → Type 0) (funcs : List Name) (i : ℕ) (t : List NodeText) (fs : List Function) → Along (IsFunction funcs) t fs → All (OfSite P) (sites_from funcs i t) → All (λ f. All (λ e. EachUse P e.1) f.eqs) fs
functions_use P funcs i [] [] h s = All-nil (λ f. All (λ e. EachUse P e.1) f.eqs)
functions_use P funcs i [] (f ∷ fs) h s = absurd h
functions_use P funcs i (n ∷ t) [] h s = absurd h
functions_use P funcs i (n ∷ t) (f ∷ fs) h s =
    All-cons (λ f. All (λ e. EachUse P e.1) f.eqs) f fs
    (equations_use P (variables n) funcs i n.eqs f.eqs h.0.eqs (all_left (OfSite P) (equation_sites funcs i n.eqs) (sites_from funcs (i + 1) t) s))
    (functions_use P funcs (i + 1) t fs h.1 (all_right (OfSite P) (equation_sites funcs i n.eqs) (sites_from funcs (i + 1) t) s))

pub length_numbers : (first n : ℕ) → length (numbers_from first n) ≡ n
length_numbers first zero = refl
length_numbers first (suc n) = ap suc (length_numbers (suc first) n)

-- the called function has the inputs and outputs of its node
answers : (funcs : List Name) (t : List NodeText) (fs : List Function) → Along (IsFunction funcs) t fs → (g k : ℕ) → g < length t → k ≡ input_count_of (slice_get t g) → output_count_of (slice_get t g) ≡ 1 → AnswersCall (function_of fs g) k
answers funcs [] fs h g k l a b = absurd (omega arith)
answers funcs (n ∷ t) [] h g k l a b = absurd h
answers funcs (n ∷ t) (f ∷ fs) h zero k l a b = (h.0.n_in ∙ sym a, ap length h.0.outs ∙ length_numbers (length n.ins) (length n.outs) ∙ b)
answers funcs (n ∷ t) (f ∷ fs) h (suc g) k l a b = answers funcs t fs h.1 g k (omega arith) a b

pub uses_right : (t : List NodeText) (fs : List Function) → Along (IsFunction (functions t)) t fs → All (λ s. nat_eq s.arguments (wanted t s.callee) ≡ true) (sites t) → All (λ s. nat_eq (answered t s.callee) 1 ≡ true) (sites t) → All (λ s. (g : ℕ) → s.callee ≡ Some g → g < length t) (sites t)
    → All (λ f. All (λ e. EachUse (λ g n. AnswersCall (function_of fs g) n) e.1) f.eqs) fs
uses_right t fs h a b c =
    functions_use (λ g n. AnswersCall (function_of fs g) n) (functions t) 0 t fs h
    (λ k d l g e. answers (functions t) t fs h g (get_or (sites t) k d).arguments (c k d l g e) (eqb-true (get_or (sites t) k d).arguments (input_count_of (slice_get t g)) (subst (λ o. nat_eq (get_or (sites t) k d).arguments (wanted t o) ≡ true) e (a k d l))) (eqb-true (output_count_of (slice_get t g)) 1 (subst (λ o. nat_eq (answered t o) 1 ≡ true) e (b k d l))))

-- ---- drafts

map_same : {A : Type 0} (xs : List A) → map (λ x. x) xs ≡ xs
map_same [] = refl
map_same (x ∷ xs) = ap (λ l. x ∷ l) (map_same xs)

unmapped : {A B : Type 0} (P : B → Type 0) (f : A → B) (xs : List A) → All P (map f xs) → All (λ x. P (f x)) xs
unmapped P f [] h = All-nil (λ x. P (f x))
unmapped P f (x ∷ xs) h = All-cons (λ x. P (f x)) x xs (All-head P (f x) (map f xs) h) (unmapped P f xs (All-tail P (f x) (map f xs) h))

abbrev node_of : Draft → NodeText
node_of d = d.node.now

-- a draft of a right tree is of a right function
module _ (t : List NodeText) (ds : List Draft) (a : AreDrafts t ds) (r : IsRightTree t) (k : ℕ) (d : Draft) (l : k < length ds) (e : d ≡ get_or ds k d) where
  pub draft_at : IsDraft (functions t) d
  draft_at = all_at (IsDraft (functions t)) ds k d a.all l e

  pub right_at : NodeIsRight (functions t) d.node.now
  right_at = all_at (λ d. NodeIsRight (functions t) d.node.now) ds k d (unmapped (NodeIsRight (functions t)) node_of ds (subst (All (NodeIsRight (functions t))) (sym a.nodes) r.all)) l e

-- one function more
pub along_next : (funcs : List Name) (ds : List Draft) (fs fs' : List Function) (d : Draft) (f : Function) → Along (IsFunction funcs) (map (λ d. d.node.now) ds) fs → IsFunction funcs d.node.now f → fs' ≡ fs ++ f ∷ [] → Along (IsFunction funcs) (map (λ d. d.node.now) (ds ++ d ∷ [])) fs'
along_next funcs ds fs fs' d f h i p =
    subst (Along (IsFunction funcs) (map node_of (ds ++ d ∷ []))) (sym p)
    (subst (λ ns. Along (IsFunction funcs) ns (fs ++ f ∷ [])) (sym (map-append node_of ds (d ∷ []))) (along_push (IsFunction funcs) (map node_of ds) fs d.node.now f h i))

-- all functions
pub along_whole : (t : List NodeText) (ds done : List Draft) (fs gs : List Function) → map (λ d. d) done ≡ ds → AreDrafts t ds → gs ≡ fs → Along (IsFunction (functions t)) (map (λ d. d.node.now) done) fs → Along (IsFunction (functions t)) t gs
along_whole t ds done fs gs e a p h =
    subst (Along (IsFunction (functions t)) t) (sym p)
    (subst (λ ns. Along (IsFunction (functions t)) ns fs) (ap (map node_of) (sym (map_same done) ∙ e) ∙ a.nodes) h)
