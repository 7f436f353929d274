-- The names among the tokens of a text, and the outputs that they name.
use Rattle.std.proofs.Common.{◌≡◌, ℕ, ◌+◌, ◌<◌, Bool, true, false, List, [], ◌∷◌, ◌++◌, length, get_or, nat_eq, Ok, Err, if◌then◌else◌, refl, sym, ap, ◌∙◌, subst, arith, append_assoc}
use Rattle.std.specs.Prelude.{slice_set}
use Rattle.std.proofs.lemmas.List.{get_or-set_same, get_or-set_other}
use Rattle.lt_base.specs.Program.{Function}
use Rattle.lt_tokens.specs.Text.{skip}
use Rattle.lt_past.specs.declared.words.Sign.TheVariants as word
use Rattle.lt_past.specs.declared.fault.ObserverKind.{ObserverKind}
use Rattle.lt_past.specs.Tokens.{Token, name, sign, Begins as Next, observer_front}
use Rattle.lt_past.specs.Grammar as form
use Rattle.lt_past.specs.Grammar.{ObserverForm, formula_tokens, names, formula_meaning}
use Rattle.lt_past.specs.Naming.{output_of, is_output_at, is_named, AreOutputs}
use Rattle.lt_past.specs.Faults.{names_in, IsBadName}
use Rattle.lt_past.specs.Marking.{IsMarkedTo}
use Rattle.lt_past.proofs.Loop.{cuts_more}

-- names of tokens

pub names_append : (ts us : List Token) → names_in (ts ++ us) ≡ names_in ts ++ names_in us
names_append [] us = refl
names_append (name x ∷ ts) us = ap (λ z. x ∷ z) (names_append ts us)
names_append (sign s ∷ ts) us = names_append ts us

pub names_tokens : (a : ObserverForm) (ts : List Token) → names_in (formula_tokens a ts) ≡ names a ++ names_in ts
names_tokens (form.truth b) ts = refl
names_tokens (form.named x) ts = refl
names_tokens (form.paren a) ts = names_tokens a (sign word.Close ∷ ts)
names_tokens (form.prefixed p a) ts = names_tokens a ts
names_tokens (form.joined o a b) ts = names_tokens a (sign (word.Between o) ∷ formula_tokens b ts) ∙ ap (λ z. names a ++ z) (names_tokens b ts) ∙ sym (append_assoc (names a) (names b) (names_in ts))

module _ (main : Function) where
  pub outputs_append : (xs ys : List (List ℕ)) → AreOutputs main xs → AreOutputs main ys → AreOutputs main (xs ++ ys)
  outputs_append [] ys g h = h
  outputs_append (x ∷ xs) ys g h = (g.0, outputs_append xs ys g.1 h)

  pub outputs_first : (xs ys : List (List ℕ)) → AreOutputs main (xs ++ ys) → AreOutputs main xs
  outputs_first [] ys g = tt
  outputs_first (x ∷ xs) ys g = (g.0, outputs_first xs ys g.1)

  pub outputs_rest : (xs ys : List (List ℕ)) → AreOutputs main (xs ++ ys) → AreOutputs main ys
  outputs_rest [] ys g = g
  outputs_rest (x ∷ xs) ys g = outputs_rest xs ys g.1

  named_snoc : (xs : List (List ℕ)) (x : List ℕ) (place : ℕ) → is_named main (xs ++ x ∷ []) place ≡ (if is_named main xs place then true else is_output_at place (output_of main x))
  named_snoc [] x place = by (is_output_at place (output_of main x))
    where
      by : (b : Bool) → (if b then true else false) ≡ b
      by true = refl
      by false = refl
  named_snoc (y ∷ xs) x place = by (is_output_at place (output_of main y)) (is_named main (xs ++ x ∷ []) place) (is_named main xs place) (is_output_at place (output_of main x)) (named_snoc xs x place)
    where
      by : (a b c d : Bool) → b ≡ (if c then true else d) → (if a then true else b) ≡ (if (if a then true else c) then true else d)
      by true b c d e = refl
      by false b c d e = e

  module _ (bytes rest : List ℕ) (olds vs : List Bool) (g : IsMarkedTo main bytes rest olds vs) where
    -- one more name
    pub name_more : (x after : List ℕ) (place : ℕ) → observer_front (skip rest) ≡ Next (name x) after → output_of main x ≡ Ok place → place < length vs → IsMarkedTo main bytes after olds (slice_set vs place true)
    name_more x after place f is low = record {
      tokens = g.tokens ++ name x ∷ [];
      cut = cuts_more g.tokens bytes rest (name x) after g.cut f;
      good = subst (AreOutputs main) (sym (names_append g.tokens (name x ∷ []))) (outputs_append (names_in g.tokens) (x ∷ []) g.good ((place, is), tt));
      marks = λ p. at_place p ∙ ap (λ b. if b then true else get_or olds p false) (sym (ap (λ xs. is_named main xs p) (names_append g.tokens (name x ∷ [])) ∙ named_snoc (names_in g.tokens) x p));
    }
      where
        split : (b : Bool) (o : Bool) → true ≡ (if (if b then true else true) then true else o)
        split true o = refl
        split false o = refl

        plain : (b : Bool) (o v : Bool) → v ≡ (if b then true else o) → v ≡ (if (if b then true else false) then true else o)
        plain true o v e = e
        plain false o v e = e

        at_place : (p : ℕ) → get_or (slice_set vs place true) p false ≡ (if (if is_named main (names_in g.tokens) p then true else is_output_at p (output_of main x)) then true else get_or olds p false)
        at_place p =
            elim (nat_eq p place) as (λ t. nat_eq p place ≡ t → get_or (slice_set vs place true) p false ≡ (if (if is_named main (names_in g.tokens) p then true else is_output_at p (output_of main x)) then true else get_or olds p false)) [
              | true ↦ λ same.
                  let e : p ≡ place = grind (arith, same) in
                  let here : is_output_at p (output_of main x) ≡ true = ap (is_output_at p) is ∙ same in
                  (ap (λ q. get_or (slice_set vs place true) q false) e ∙ get_or-set_same vs place true false low)
                  ∙ split (is_named main (names_in g.tokens) p) (get_or olds p false)
                  ∙ ap (λ b. if (if is_named main (names_in g.tokens) p then true else b) then true else get_or olds p false) (sym here)
              | false ↦ λ other.
                  let here : is_output_at p (output_of main x) ≡ false = ap (is_output_at p) is ∙ other in
                  let kept : get_or (slice_set vs place true) p false ≡ get_or vs p false = get_or-set_other vs place p true false (λ e. grind (arith, e, other)) in
                  plain (is_named main (names_in g.tokens) p) (get_or olds p false) (get_or (slice_set vs place true) p false) (kept ∙ g.marks p)
                  ∙ ap (λ b. if (if is_named main (names_in g.tokens) p then true else b) then true else get_or olds p false) (sym here)
            ] refl

    -- another token
    pub sign_more : (s : _) (after : List ℕ) → observer_front (skip rest) ≡ Next (sign s) after → IsMarkedTo main bytes after olds vs
    sign_more s after f =
        let e : names_in (g.tokens ++ sign s ∷ []) ≡ names_in g.tokens = names_append g.tokens (sign s ∷ []) ∙ append_nil_names (names_in g.tokens) in
        record {
          tokens = g.tokens ++ sign s ∷ [];
          cut = cuts_more g.tokens bytes rest (sign s) after g.cut f;
          good = subst (AreOutputs main) (sym e) g.good;
          marks = λ p. g.marks p ∙ ap (λ xs. if is_named main xs p then true else get_or olds p false) (sym e);
        }
      where
        append_nil_names : (xs : List (List ℕ)) → xs ++ [] ≡ xs
        append_nil_names [] = refl
        append_nil_names (x ∷ xs) = ap (λ z. x ∷ z) (append_nil_names xs)

    -- a name that is none of an output
    pub bad_name : (at : ℕ) (x after : List ℕ) (k : ObserverKind) → observer_front (skip rest) ≡ Next (name x) after → output_of main x ≡ Err k → at + length (skip rest) ≡ length bytes → IsBadName main bytes (record { at = at; kind = k })
    bad_name at x after k f is p = record { tokens = g.tokens; rest = rest; cut = g.cut; place = p; wrong_name = x; after = after; stands = f; earlier = g.good; wrong = is }

-- nothing is read yet
pub none_marked : (main : Function) (bytes : List ℕ) (olds : List Bool) → IsMarkedTo main bytes bytes olds olds
none_marked main bytes olds = record { tokens = []; cut = refl; good = tt; marks = λ p. refl }
