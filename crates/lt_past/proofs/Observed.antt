-- What a text is read as.
use Rattle.std.proofs.Common.{◌≡◌, ℕ, ◌<◌, ◌≤◌, Bool, true, false, List, [], ◌∷◌, ◌++◌, length, get_or, nat_eq, Result, Ok, Err, if◌then◌else◌, inl, inr, refl, sym, ap, ap₂, ◌∙◌, subst, arith, append_assoc, append-nil}
use Rattle.std.specs.Prelude.{IsErrAnd}
use Rattle.lt_base.specs.declared.memory.Or.{Or}
use Rattle.lt_base.specs.declared.memory.Or.TheVariants as or
use Rattle.lt_base.specs.Program.{Function}
use Rattle.lt_tokens.specs.Text.{skip}
use Rattle.lt_past.specs.declared.fault.ObserverFault.{ObserverFault}
use Rattle.lt_past.specs.declared.fault.ObserverKind.{ObserverKind}
use Rattle.lt_past.specs.declared.fault.ObserverKind.TheVariants as kind
use Rattle.lt_past.specs.Tokens.{Token, name, sign, Over, Begins as Next, ObserverCuts, observer_front}
use Rattle.lt_past.specs.Grammar as form
use Rattle.lt_past.specs.Grammar.{ObserverForm, names, formula_meaning}
use Rattle.lt_past.specs.Formula.{Formula, SignalsBelow}
use Rattle.lt_past.specs.Naming.{output_of, is_output_at, is_named, numbers_below, named_outs, output_place, output_number, AreOutputs}
use Rattle.lt_past.specs.Observer.{Observing, Increases, IsObserver}
use Rattle.lt_past.specs.Spelled.{WritesObserver, SpellsObserver}
use Rattle.lt_past.specs.Faults.{names_in, ObserverBegins, ObserverOffends, IsBadName, IsObserverFault, IsObserverOf}
use Rattle.lt_past.specs.Marking.{IsMarked, FrontEnds, marked_below}
use Rattle.lt_past.specs.Parsed.{IsFormulaOf, Parses}
use Rattle.lt_past.specs.Reads.{AnswersObserver, FindsObserver}
use Rattle.lt_past.proofs.Naming.{names_append, names_tokens, outputs_rest}
use Rattle.lt_past.proofs.Outs.{chosen_increase, Has, chosen_has, place_low, filter_same}
use Rattle.lt_past.proofs.Whole.{writes_read}

-- a text is cut in one way
cuts_one : (ts us : List Token) (bytes r s : List ℕ) → ObserverCuts bytes ts r → FrontEnds (observer_front (skip r)) → ObserverCuts bytes us s → FrontEnds (observer_front (skip s)) → (ts ≡ us) × (r ≡ s)
cuts_one [] [] bytes r s h e k f = (refl, h ∙ sym k)
cuts_one [] (u ∷ us) bytes r s h e k f = absurd (subst FrontEnds (ap (λ z. observer_front (skip z)) h ∙ k.1) e)
cuts_one (t ∷ ts) [] bytes r s h e k f = absurd (subst FrontEnds (ap (λ z. observer_front (skip z)) k ∙ h.1) f)
cuts_one (t ∷ ts) (u ∷ us) bytes r s h e k f =
    let b = h.1 in
    let c = k.1 in
    let p : h.0 ≡ k.0 = cc in
    let q : t ≡ u = cc in
    let d = cuts_one ts us h.0 r s h.2 e (subst (λ z. ObserverCuts z us s) (sym p) k.2) f in
    (ap₂ (λ y z. y ∷ z) q d.0, d.1)

-- also from a place in it
cuts_split : (ts us : List Token) (bytes r s : List ℕ) → ObserverCuts bytes ts r → ObserverCuts bytes us s → observer_front (skip s) ≡ Over → (more : List Token) × (us ≡ ts ++ more) × ObserverCuts r more s
cuts_split [] us bytes r s h k f = (us, refl, subst (λ z. ObserverCuts z us s) (sym h) k)
cuts_split (t ∷ ts) [] bytes r s h k f = let a : observer_front (skip bytes) ≡ Over = subst (λ z. observer_front (skip z) ≡ Over) k f in let b = h.1 in cc
cuts_split (t ∷ ts) (u ∷ us) bytes r s h k f =
    let b = h.1 in
    let c = k.1 in
    let p : h.0 ≡ k.0 = cc in
    let q : t ≡ u = cc in
    let d = cuts_split ts us h.0 r s h.2 (subst (λ z. ObserverCuts z us s) (sym p) k.2) f in
    (d.0, ap (λ z. u ∷ z) d.1 ∙ ap (λ z. z ∷ (ts ++ d.0)) (sym q), d.2)

spelled_names : (limit : ℕ) (ts : List Token) (f : ObserverForm) → WritesObserver limit ts f → names_in ts ≡ names f
spelled_names limit ts f w = ap names_in w.spelled ∙ names_tokens f [] ∙ append_nil_names (names f)
  where
    append_nil_names : (xs : List (List ℕ)) → xs ++ [] ≡ xs
    append_nil_names [] = refl
    append_nil_names (x ∷ xs) = ap (λ z. x ∷ z) (append_nil_names xs)

module _ (main : Function) where
  abbrev n : ℕ
  n = length main.outs

  -- a name that stands there names an output
  low : (place : ℕ) (x : List ℕ) (xs : List (List ℕ)) → output_of main x ≡ Ok place → is_named main (x ∷ xs) place ≡ true
  low place x xs e = let h : is_output_at place (output_of main x) ≡ true = ap (is_output_at place) e ∙ self place in ap (λ b. if b then true else is_named main xs place) h
    where
      self : (m : ℕ) → nat_eq m m ≡ true
      self m = grind arith

  -- the names of some are among those of all
  abbrev Among : List (List ℕ) → List (List ℕ) → Type 0
  Among xs all = (place : ℕ) → is_named main xs place ≡ true → is_named main all place ≡ true

  named_left : (xs ys : List (List ℕ)) → Among xs (xs ++ ys)
  named_left [] ys place h = cc
  named_left (x ∷ xs) ys place h = by (is_output_at place (output_of main x)) h (λ k. named_left xs ys place k)
    where
      by : (b : Bool) → (if b then true else is_named main xs place) ≡ true → (is_named main xs place ≡ true → is_named main (xs ++ ys) place ≡ true) → (if b then true else is_named main (xs ++ ys) place) ≡ true
      by true h k = refl
      by false h k = k h

  named_right : (xs ys : List (List ℕ)) → Among ys (xs ++ ys)
  named_right [] ys place h = h
  named_right (x ∷ xs) ys place h = by (is_output_at place (output_of main x)) (named_right xs ys place h)
    where
      by : (b : Bool) → is_named main (xs ++ ys) place ≡ true → (if b then true else is_named main (xs ++ ys) place) ≡ true
      by true k = refl
      by false k = k

  -- each signal has a place
  module _ (outs : List ℕ) (all : List (List ℕ)) (has : (place : ℕ) → is_named main all place ≡ true → Has outs place) where
    placed : (a : ObserverForm) → AreOutputs main (names a) → Among (names a) all → SignalsBelow (length outs) (formula_meaning (output_number main outs) a)
    placed (form.truth b) g m = tt
    placed (form.named x) g m =
        let place = g.0.0 in
        let is = g.0.1 in
        subst (λ r. output_place outs r < length outs) (sym is) (place_low outs place (has place (m place (low place x [] is))))
    placed (form.paren a) g m = placed a g m
    placed (form.prefixed p a) g m = placed a g m
    placed (form.joined o a b) g m = (
      placed a (first (names a) (names b) g) (λ place h. m place (named_left (names a) (names b) place h)),
      placed b (outputs_rest main (names a) (names b) g) (λ place h. m place (named_right (names a) (names b) place h)),
    )
      where
        first : (xs ys : List (List ℕ)) → AreOutputs main (xs ++ ys) → AreOutputs main xs
        first [] ys g = tt
        first (x ∷ xs) ys g = (g.0, first xs ys g.1)

  -- a name of an output has a place below their number
  module _ (in_range : (x : List ℕ) (place : ℕ) → output_of main x ≡ Ok place → place < n) where
    named_low : (xs : List (List ℕ)) (place : ℕ) → is_named main xs place ≡ true → place < n
    named_low [] place h = absurd (cc)
    named_low (x ∷ xs) place h = by (output_of main x) refl h (λ k. named_low xs place k)
      where
        by : (r : Result ℕ ObserverKind) → output_of main x ≡ r → (if is_output_at place r then true else is_named main xs place) ≡ true → (is_named main xs place ≡ true → place < n) → place < n
        by (Err k) e h rest = rest h
        by (Ok found) e h rest =
            elim (nat_eq place found) as (λ b. nat_eq place found ≡ b → (if b then true else is_named main xs place) ≡ true → place < n) [
              | true ↦ λ same h. let s : place ≡ found = grind (arith, same) in subst (λ m. m < n) (sym s) (in_range x found e)
              | false ↦ λ same h. rest h
            ] refl h

    -- what every observer keeps
    pub is_observer : (limit : ℕ) (bytes : List ℕ) (o : Observing) → IsObserverOf limit main bytes o → IsObserver o
    is_observer limit bytes o is =
        let all = names is.form in
        let outs = named_outs main all in
        let has : (place : ℕ) → is_named main all place ≡ true → Has outs place = λ place h. chosen_has (is_named main all) n place (named_low all place h) h in
        let p : SignalsBelow (length outs) (formula_meaning (output_number main outs) is.form) = placed outs all has is.form is.good (λ place h. h) in
        let e : formula_meaning (output_number main outs) is.form ≡ o.formula = ap (λ z. formula_meaning (output_number main z) is.form) (sym is.outs_are) ∙ sym is.formula_is in
        record {
          ordered = subst Increases (sym is.outs_are) (chosen_increase (is_named main all) n);
          placed = subst (λ z. SignalsBelow (length z) o.formula) (sym is.outs_are) (subst (SignalsBelow (length outs)) e p);
        }

  -- names that are all outputs, and the formula
  pub observed : (limit : ℕ) (bytes : List ℕ) (olds vs : List Bool) (outs : List ℕ) (f : Formula) → ((p : ℕ) → get_or olds p false ≡ false) → IsMarked main bytes olds vs → outs ≡ marked_below vs n → IsFormulaOf limit (output_number main outs) bytes f → IsObserverOf limit main bytes (record { outs = outs; formula = f })
  observed limit bytes olds vs outs f none marked outs_are read =
      let s = read.spelled in
      let m = marked.marked in
      let over : FrontEnds (observer_front (skip s.rest)) = subst FrontEnds (sym s.ended) tt in
      let c = cuts_one m.tokens s.formula_tokens bytes marked.rest s.rest m.cut marked.ends s.cut over in
      let e : names_in m.tokens ≡ names read.form = ap names_in c.0 ∙ spelled_names limit s.formula_tokens read.form s.written in
      let test : (p : ℕ) → get_or vs p false ≡ is_named main (names read.form) p = λ p.
      m.marks p ∙ ap (λ b. if is_named main (names_in m.tokens) p then true else b) (none p) ∙ plain (is_named main (names_in m.tokens) p) ∙ ap (λ xs. is_named main xs p) e in
      record {
        form = read.form;
        spelled = s;
        good = subst (AreOutputs main) e m.good;
        outs_are = outs_are ∙ filter_same (λ p. get_or vs p false) (is_named main (names read.form)) test (numbers_below n);
        formula_is = read.meant;
      }
    where
      plain : (b : Bool) → (if b then true else false) ≡ b
      plain true = refl
      plain false = refl

  -- a bad name, where the bytes spell a form
  pub bad_name : (limit : ℕ) (bytes : List ℕ) (number : List ℕ → ℕ) (f : Formula) (e : ObserverFault) → IsBadName main bytes e → IsFormulaOf limit number bytes f → IsObserverFault limit main bytes e
  bad_name limit bytes number f e bad read = inr (record { form = read.form; spelled = read.spelled; bad = bad })

  -- one observer is spelled by given bytes
  pub one_observer : (limit : ℕ) → 1 ≤ limit → (bytes : List ℕ) (o p : Observing) → IsObserverOf limit main bytes o → IsObserverOf limit main bytes p → o ≡ p
  one_observer limit one bytes o p a b =
      let over : (s : SpellsObserver limit bytes a.form) → FrontEnds (observer_front (skip s.rest)) = λ s. subst FrontEnds (sym s.ended) tt in
      let c = cuts_one a.spelled.formula_tokens b.spelled.formula_tokens bytes a.spelled.rest b.spelled.rest a.spelled.cut (over a.spelled) b.spelled.cut (subst FrontEnds (sym b.spelled.ended) tt) in
      let wb : WritesObserver limit a.spelled.formula_tokens b.form = subst (λ z. WritesObserver limit z b.form) (sym c.0) b.spelled.written in
      let ns : names a.form ≡ names b.form = sym (spelled_names limit a.spelled.formula_tokens a.form a.spelled.written) ∙ spelled_names limit a.spelled.formula_tokens b.form wb in
      let outs : o.outs ≡ p.outs = a.outs_are ∙ ap (named_outs main) ns ∙ sym b.outs_are in
      let ra = writes_read (output_number main o.outs) limit a.spelled.formula_tokens a.form one a.spelled.written in
      let rb = writes_read (output_number main o.outs) limit a.spelled.formula_tokens b.form one wb in
      let m : formula_meaning (output_number main o.outs) a.form ≡ formula_meaning (output_number main o.outs) b.form = cc in
      let f : o.formula ≡ p.formula = a.formula_is ∙ m ∙ ap (λ z. formula_meaning (output_number main z) b.form) outs ∙ sym b.formula_is in
      λ i. record { outs = outs i; formula = f i }

  -- what offends at the end is no observer, and what offends at a token begins none
  not_over : (limit : ℕ) (k : ObserverKind) (ts : List Token) (f : ObserverForm) → ObserverOffends limit k ts Over → WritesObserver limit ts f → ⊥
  not_over limit kind.BadByte ts f o w = o
  not_over limit kind.Unexpected ts f o w = o f w
  not_over limit kind.TooDeep ts f o w = o
  not_over limit kind.UnknownName ts f o w = o
  not_over limit kind.NotBool ts f o w = o
  not_over limit kind.NotBase ts f o w = o

  not_token : (limit : ℕ) (k : ObserverKind) (ts : List Token) (m : Token) (after : List ℕ) → ObserverOffends limit k ts (Next m after) → ObserverBegins limit (ts ++ m ∷ []) → ⊥
  not_token limit kind.BadByte ts m after o b = o
  not_token limit kind.Unexpected ts m after o b = o limit b
  not_token limit kind.TooDeep ts m after o b = o.0 b
  not_token limit kind.UnknownName ts m after o b = o
  not_token limit kind.NotBool ts m after o b = o
  not_token limit kind.NotBase ts m after o b = o

  excludes : (limit : ℕ) (k : ObserverKind) (ts more : List Token) (r s : List ℕ) (f : ObserverForm) → ObserverOffends limit k ts (observer_front (skip r)) → ObserverCuts r more s → observer_front (skip s) ≡ Over → WritesObserver limit (ts ++ more) f → ⊥
  excludes limit k ts [] r s f o c e w =
      let h : observer_front (skip r) ≡ Over = subst (λ z. observer_front (skip z) ≡ Over) c e in
      not_over limit k ts f (subst (ObserverOffends limit k ts) h o) (subst (λ z. WritesObserver limit z f) (append-nil ts) w)
  excludes limit k ts (m ∷ ms) r s f o c e w = not_token limit k ts m c.0 (subst (ObserverOffends limit k ts) c.1 o) (ms, f, subst (λ z. WritesObserver limit z f) (sym (append_assoc ts (m ∷ []) ms)) w)

  -- an observer has no fault
  pub not_both : (limit : ℕ) (bytes : List ℕ) (o : Observing) (e : ObserverFault) → IsObserverOf limit main bytes o → IsObserverFault limit main bytes e → ⊥
  not_both limit bytes o e is (inl a) =
      let s = is.spelled in
      let d = cuts_split a.tokens s.formula_tokens bytes a.rest s.rest a.cut s.cut s.ended in
      excludes limit e.kind a.tokens d.0 a.rest s.rest is.form a.offends d.2 s.ended (subst (λ z. WritesObserver limit z is.form) d.1 s.written)
  not_both limit bytes o e is (inr a) =
      let s = is.spelled in
      let b = a.bad in
      let d = cuts_split b.tokens s.formula_tokens bytes b.rest s.rest b.cut s.cut s.ended in
      let good : AreOutputs main (names_in s.formula_tokens) = subst (AreOutputs main) (sym (spelled_names limit s.formula_tokens is.form s.written)) is.good in
      let both : AreOutputs main (names_in b.tokens ++ names_in d.0) = subst (AreOutputs main) (ap names_in d.1 ∙ names_append b.tokens d.0) good in
      wrong d.0 d.2 (outputs_rest main (names_in b.tokens) (names_in d.0) both)
    where
      wrong : (more : List Token) → ObserverCuts a.bad.rest more is.spelled.rest → AreOutputs main (names_in more) → ⊥
      wrong [] c g = let h : observer_front (skip a.bad.rest) ≡ Over = subst (λ z. observer_front (skip z) ≡ Over) c is.spelled.ended in let k = a.bad.stands in cc
      wrong (t ∷ ts) c g = let k = a.bad.stands in let j = c.1 in let same : t ≡ name a.bad.wrong_name = cc in named t same g
        where
          named : (t : Token) → t ≡ name a.bad.wrong_name → AreOutputs main (names_in (t ∷ ts)) → ⊥
          named (name x) same g = let e : x ≡ a.bad.wrong_name = cc in let w = a.bad.wrong in let r = g.0.1 in let q = ap (output_of main) e in cc
          named (sign s) same g = cc

  -- what is an observer is found
  pub only_read : (limit : ℕ) → 1 ≤ limit → (bytes : List ℕ) (r : Result Observing (Or ObserverFault)) → AnswersObserver limit main bytes r → (o : Observing) → IsObserverOf limit main bytes o → FindsObserver o r
  only_read limit one bytes (Ok p) a o is = one_observer limit one bytes p o a is
  only_read limit one bytes (Err (or.Fault e)) a o is = not_both limit bytes o e is a
  only_read limit one bytes (Err or.Memory) a o is = tt

-- a text that does not read as a formula
pub refused_answers : (limit : ℕ) (main : Function) (number : List ℕ → ℕ) (bytes : List ℕ) (e : Or ObserverFault) (r : Result Observing (Or ObserverFault)) → IsErrAnd r (λ d. d ≡ e) → Parses limit number bytes (Err e) → AnswersObserver limit main bytes r
refused_answers limit main number bytes e (Ok o) is parsed = absurd is
refused_answers limit main number bytes (or.Fault f) (Err d) is parsed = subst (λ (z : Or ObserverFault). AnswersObserver limit main bytes (Err z)) (sym is) (inl parsed)
refused_answers limit main number bytes or.Memory (Err d) is parsed = subst (λ (z : Or ObserverFault). AnswersObserver limit main bytes (Err z)) (sym is) tt
