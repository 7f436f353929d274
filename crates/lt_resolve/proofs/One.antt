-- A tree names at most one program.
use Rattle.std.proofs.Common.{◌≡◌, ℕ, Bool, true, List, [], ◌∷◌, reverse, Option, None, Some, refl, sym, ap, ◌∙◌}
use Rattle.std.proofs.lemmas.List.{reverse-reverse}
use Rattle.lt_base.specs.declared.value.Value.TheVariants.{Bool as Truth}
use Rattle.lt_base.specs.declared.operators.Imp.{Imp}
use Rattle.lt_base.specs.declared.function.Decl.{Decl}
use Rattle.lt_base.specs.Expression.{Expression, literal, variable, unary, binary, imported, choose, sampled, merged, delayed, follow, arrow, call, Arguments, no_arguments, argument}
use Rattle.lt_base.specs.Program.{Function, WholeProgram}
use Rattle.lt_syntax.specs.declared.tree.DeclText.{DeclText}
use Rattle.lt_syntax.specs.declared.tree.NodeText.{NodeText}
use Rattle.lt_syntax.specs.Tree.{Tm, Lit, Var, Unary, Binary, Choice, Sampled, Merged, Delayed, Followed, Arrow, Call, Tms, Nil, Cons}
use Rattle.lt_resolve.specs.Names.{Name, number_of_name}
use Rattle.lt_resolve.specs.Scopes.{declarations, variables, functions}
use Rattle.lt_resolve.specs.Named.{operator_of, IsNamed, AreNamed, IsPair, IsDeclared, IsNamedEquation, IsFunction, Along, Named, main}

abbrev number_or : Option ℕ → ℕ
number_or None = 0
number_or (Some i) = i

abbrev call_of : Option ℕ → Option Imp → Arguments → Expression
call_of (Some g) o es = call g es
call_of None (Some o) (argument d (argument e no_arguments)) = imported o d e
call_of None o es = literal (Truth true)

-- what a term names, if anything
module _ (vars funcs : List Name) where
  abbrev mutual
    translated : Tm → Expression
    translated (Lit v) = literal v
    translated (Var x) = variable (number_or (number_of_name vars x))
    translated (Unary o a) = unary o (translated a)
    translated (Binary o a b) = binary o (translated a) (translated b)
    translated (Choice c a b) = choose (translated c) (translated a) (translated b)
    translated (Sampled a c t) = sampled (translated a) (number_or (number_of_name vars c)) t
    translated (Merged c a b) = merged (number_or (number_of_name vars c)) (translated a) (translated b)
    translated (Delayed v a) = delayed v (translated a)
    translated (Followed a b) = follow (translated a) (translated b)
    translated (Arrow a b) = arrow (translated a) (translated b)
    translated (Call f args) = call_of (number_of_name funcs f) (operator_of f) (translated_arguments args)

    translated_arguments : Tms → Arguments
    translated_arguments Nil = no_arguments
    translated_arguments (Cons a args) = argument (translated a) (translated_arguments args)

  mutual
    is_translated : (a : Tm) (e : Expression) → IsNamed vars funcs a e → e ≡ translated a
    is_translated (Lit v) (literal w) h = ap literal h
    is_translated (Var x) (variable i) h = ap (λ o. variable (number_or o)) (sym h)
    is_translated (Unary o a) (unary p e) h = λ i. unary (h.0 i) (is_translated a e h.1 i)
    is_translated (Binary o a b) (binary p d e) h = λ i. binary (h.0 i) (is_translated a d h.1 i) (is_translated b e h.2 i)
    is_translated (Choice c a b) (choose f d e) h = λ i. choose (is_translated c f h.0 i) (is_translated a d h.1 i) (is_translated b e h.2 i)
    is_translated (Sampled a c t) (sampled e y u) h = λ i. sampled (is_translated a e h.0 i) (number_or (sym h.1 i)) (h.2 i)
    is_translated (Merged c a b) (merged y d e) h = λ i. merged (number_or (sym h.0 i)) (is_translated a d h.1 i) (is_translated b e h.2 i)
    is_translated (Delayed v a) (delayed w e) h = λ i. delayed (h.0 i) (is_translated a e h.1 i)
    is_translated (Followed a b) (follow d e) h = λ i. follow (is_translated a d h.0 i) (is_translated b e h.1 i)
    is_translated (Arrow a b) (arrow d e) h = λ i. arrow (is_translated a d h.0 i) (is_translated b e h.1 i)
    is_translated (Call f args) (call g es) h = ap (λ k. call g k) (are_translated args es h.1) ∙ ap (λ o. call_of o (operator_of f) (translated_arguments args)) (sym h.0)
    is_translated (Call f args) (imported o d e) h =
        (λ i. call_of (sym h.0 i) (sym h.1 i) (argument d (argument e no_arguments)))
        ∙ ap (call_of (number_of_name funcs f) (operator_of f)) (are_translated args (argument d (argument e no_arguments)) h.2)
    is_translated _ _ h = absurd h

    are_translated : (args : Tms) (es : Arguments) → AreNamed vars funcs args es → es ≡ translated_arguments args
    are_translated Nil no_arguments h = refl
    are_translated (Cons a args) (argument e es) h = λ i. argument (is_translated a e h.0 i) (are_translated args es h.1 i)
    are_translated _ _ h = absurd h

-- a relation that gives one right element for each left one gives one list
along_one : {A B : Type 0} (R : A → B → Type 0) → ((x : A) (y z : B) → R x y → R x z → y ≡ z) → (xs : List A) (ys zs : List B) → Along R xs ys → Along R xs zs → ys ≡ zs
along_one R one [] [] [] h k = refl
along_one R one [] [] (z ∷ zs) h k = absurd k
along_one R one [] (y ∷ ys) zs h k = absurd h
along_one R one (x ∷ xs) [] zs h k = absurd h
along_one R one (x ∷ xs) (y ∷ ys) [] h k = absurd k
along_one R one (x ∷ xs) (y ∷ ys) (z ∷ zs) h k = λ i. one x y z h.0 k.0 i ∷ along_one R one xs ys zs h.1 k.1 i

same_number : (o : Option ℕ) (i j : ℕ) → o ≡ Some i → o ≡ Some j → i ≡ j
same_number o i j h k = cc

one_pair : (vars : List Name) (p : Name × Bool) (q r : ℕ × Bool) → IsPair vars p q → IsPair vars p r → q ≡ r
one_pair vars p q r h k = λ i. (same_number (number_of_name vars p.0) q.0 r.0 h.0 k.0 i, (h.1 ∙ sym k.1) i)

one_declaration : (vars : List Name) (d : DeclText) (e f : Decl) → IsDeclared vars d e → IsDeclared vars d f → e ≡ f
one_declaration vars d e f h k =
    let clock : e.clock ≡ f.clock = sym (reverse-reverse e.clock) ∙ ap reverse (along_one (IsPair vars) (one_pair vars) d.clock (reverse e.clock) (reverse f.clock) h.clock k.clock) ∙ reverse-reverse f.clock in
    λ i. record { name = (h.name ∙ sym k.name) i; ty = (h.ty ∙ sym k.ty) i; clock = clock i }

one_equation : (vars funcs : List Name) (q : Name × Tm) (d e : ℕ × Expression) → IsNamedEquation vars funcs q d → IsNamedEquation vars funcs q e → d ≡ e
one_equation vars funcs q d e h k = λ i. (same_number (number_of_name vars q.0) d.0 e.0 h.0 k.0 i, (is_translated vars funcs q.1 d.1 h.1 ∙ sym (is_translated vars funcs q.1 e.1 k.1)) i)

one_function : (funcs : List Name) (n : NodeText) (f g : Function) → IsFunction funcs n f → IsFunction funcs n g → f ≡ g
one_function funcs n f g h k =
    let decls = along_one (IsDeclared (variables n)) (one_declaration (variables n)) (declarations n) f.decls g.decls h.decls k.decls in
    let eqs = along_one (IsNamedEquation (variables n) funcs) (one_equation (variables n) funcs) n.eqs f.eqs g.eqs h.eqs k.eqs in
    λ i. record { name = (h.name ∙ sym k.name) i; decls = decls i; n_in = (h.n_in ∙ sym k.n_in) i; outs = (h.outs ∙ sym k.outs) i; eqs = eqs i }

pub one_program : (t : List NodeText) (p q : WholeProgram) → Named t p → Named t q → p ≡ q
one_program t p q h k =
    let funcs = along_one (IsFunction (functions t)) (one_function (functions t)) t p.funcs q.funcs h.funcs k.funcs in
    let same = same_number (number_of_name (functions t) main) p.main q.main h.main k.main in
    λ i. record { funcs = funcs i; main = same i }
