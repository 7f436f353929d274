-- Terms and their names.
use Rattle.std.proofs.Common.{◌≡◌, ℕ, ◌+◌, subst, Vec, Global, List, [], ◌∷◌, map, Some, None, refl, ap, sym, ◌∙◌}
use Rattle.std.specs.List.{sum_by}
use Rattle.std.proofs.lemmas.List.Sums.{sum_by-cons}
use Rattle.std.specs.Option.{option_or}
use Rattle.lt_syntax.specs.declared.term.Term.{Term, fold-roll-Term}
use Rattle.lt_syntax.specs.declared.term.Term as term
use Rattle.lt_syntax.specs.declared.term.Term.TheVariants.{rolls-Var, rolls-Call}
use Rattle.lt_syntax.specs.declared.term.Term.TheOpen as layer
use Rattle.lt_syntax.specs.Tree.{Tm, Var, Call, Tms, tms}
use Rattle.lt_syntax.specs.Views.{tm_step, tm_of}
use Rattle.lt_base.specs.declared.expression.Expr.{Expr}
use Rattle.lt_base.specs.declared.expression.Expr as expr
use Rattle.lt_base.proofs.Shape.{shape-Call}
use Rattle.lt_base.specs.declared.operators.Imp.{Imp}
use Rattle.lt_base.specs.Expression.{Expression, imported, call, Arguments, shape, arguments_of}
use Rattle.lt_resolve.specs.declared.expression.Callee.{Callee}
use Rattle.lt_resolve.specs.declared.expression.Callee.TheVariants.{Function, Operator}
use Rattle.lt_resolve.specs.Named.{operator_of, IsNamed, AreNamed, Along}
use Rattle.lt_resolve.specs.Known.{IsCallable, IsOperation, StandsFor, IsCalled, IsTranslated, AreTranslated}
use Rattle.lt_resolve.specs.Names.{Name, number_of_name, first_some}
use Rattle.lt_resolve.specs.Uses.{unknown, unknown_argument, term_count, term_delays, argument_delays}

-- what is unknown in arguments
pub unknown_arguments : (vars funcs : List Name) (args : List Term) → first_some (λ a. unknown vars funcs (tm_of a)) args ≡ unknown_argument vars funcs (tms (map tm_of args))
unknown_arguments vars funcs [] = refl
unknown_arguments vars funcs (a ∷ args) = ap (option_or (unknown vars funcs (tm_of a))) (unknown_arguments vars funcs args)

-- the delays in arguments
pub argument_delays_are : (args : List Term) → argument_delays (tms (map tm_of args)) ≡ sum_by (λ a. term_delays (tm_of a)) args
argument_delays_are [] = refl
argument_delays_are (a ∷ args) = ap (λ n. term_delays (tm_of a) + n) (argument_delays_are args) ∙ sym (sum_by-cons (λ a. term_delays (tm_of a)) a args)

-- the shape of a call
pub tm_of-Call : (f : Name) (args : Vec Term Global) → tm_of (term.Call f args) ≡ Call f (tms (map tm_of args.items))
tm_of-Call f args = ap tm_of (sym (rolls-Call f args)) ∙ fold-roll-Term Tm tm_step (layer.Call f args)

-- the shape of a variable
pub tm_of-Var : (x : Name) → tm_of (term.Var x) ≡ Var x
tm_of-Var x = ap tm_of (sym (rolls-Var x)) ∙ fold-roll-Term Tm tm_step (layer.Var x)

-- arguments with numbers
pub translated_arguments : (vars funcs : List Name) (args : List Term) (es : List Expr) → Along (λ a e. IsTranslated vars funcs (tm_of a) (shape e)) args es → AreTranslated vars funcs (tms (map tm_of args)) (arguments_of (map shape es))
translated_arguments vars funcs [] [] h = λ k. tt
translated_arguments vars funcs [] (e ∷ es) h = absurd h
translated_arguments vars funcs (a ∷ args) [] h = absurd h
translated_arguments vars funcs (a ∷ args) (e ∷ es) h = λ k. (h.0 k.0, translated_arguments vars funcs args es h.1 k.1)

-- a call with numbers
module _ (vars funcs : List Name) (f : Name) (args : Tms) (n : ℕ) (es : Arguments) (many : n ≡ term_count args) (translated : AreTranslated vars funcs args es) where
  of_operator : (o : Imp) (e : Expression) → number_of_name funcs f ≡ None → operator_of f ≡ Some o → IsOperation o es e → AreNamed vars funcs args es → IsNamed vars funcs (Call f args) e
  of_operator o (imported p d e) s t i a = (s, t ∙ ap Some (sym i.0), subst (AreNamed vars funcs args) i.1 a)
  of_operator o _ s t i a = absurd i

  pub translated_call : (c : Callee) (e : Expression) → StandsFor funcs f c → IsCalled c n es e → IsTranslated vars funcs (Call f args) e
  translated_call (Function g) (call h ds) s k = λ w. (s ∙ ap Some (sym k.0), subst (AreNamed vars funcs args) (sym k.1) (translated w.1))
  translated_call (Function g) _ s k = absurd k
  translated_call (Operator o) e s k = λ w.
      let two : IsCallable None (Some o) (term_count args) = subst (λ p. IsCallable p (Some o) (term_count args)) s.0 (subst (λ q. IsCallable (number_of_name funcs f) q (term_count args)) s.1 w.0) in
      of_operator o e s.0 s.1 (k (many ∙ two)) (translated w.1)

-- a call of a function
pub called_function : (c : Callee) (g n : ℕ) (args : Vec Expr Global) → c ≡ Function g → IsCalled c n (arguments_of (map shape args.items)) (shape (expr.Call g args))
called_function c g n args h =
    let es = arguments_of (map shape args.items) in
    let direct : IsCalled (Function g) n es (shape (expr.Call g args)) = subst (IsCalled (Function g) n es) (sym (shape-Call g args)) (refl, refl) in
    subst (λ (k : Callee). IsCalled k n es (shape (expr.Call g args))) (sym h) direct
