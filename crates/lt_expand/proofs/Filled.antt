-- The copies for an expression have the numbers from n on, one after the other.
use Rattle.std.proofs.Common.{◌≡◌, ℕ, ◌+◌, ◌≤◌, true, false, List, [], ◌∷◌, ◌++◌, length, refl, ap, ◌∙◌, subst, arith, length-append, map}
use Rattle.std.proofs.lemmas.List.{length-map}
use Rattle.lt_base.specs.declared.function.Decl.{Decl}
use Rattle.lt_base.specs.Expression.{Expression, literal, variable, unary, binary, imported, choose, sampled, merged, delayed, follow, arrow, call, Arguments, no_arguments, argument}
use Rattle.lt_base.specs.Meaning.{ClockPairs, clock_of, outer}
use Rattle.lt_expand.specs.Copies.{Library, Copy, grown, arguments_grown, copies, arguments_copies, copy_decl, copied_decls, equations_grown, equations_copies}
use Rattle.lt_expand.proofs.Standing.{Each, span, Numbered, Fills}

-- ---- facts of each copy

pub each_left : (P : Copy → Type 0) (xs ys : List Copy) → Each P (xs ++ ys) → Each P xs
each_left P [] ys e = tt
each_left P (x ∷ xs) ys e = (e.0, each_left P xs ys e.1)

pub each_right : (P : Copy → Type 0) (xs ys : List Copy) → Each P (xs ++ ys) → Each P ys
each_right P [] ys e = e
each_right P (x ∷ xs) ys e = each_right P xs ys e.1

pub each_append : (P : Copy → Type 0) (xs ys : List Copy) → Each P xs → Each P ys → Each P (xs ++ ys)
each_append P [] ys p q = q
each_append P (x ∷ xs) ys p q = (p.0, each_append P xs ys p.1 q)

pub each_copy_map : (P Q : Copy → Type 0) → ((c : Copy) → P c → Q c) → (cs : List Copy) → Each P cs → Each Q cs
each_copy_map P Q h [] e = tt
each_copy_map P Q h (c ∷ cs) e = (h c e.0, each_copy_map P Q h cs e.1)

pub each_both : (P Q : Copy → Type 0) (cs : List Copy) → Each P cs → Each Q cs → Each (λ c. P c × Q c) cs
each_both P Q [] p q = tt
each_both P Q (c ∷ cs) p q = ((p.0, q.0), each_both P Q cs p.1 q.1)

-- ---- their numbers

span_append : (xs ys : List Copy) → span (xs ++ ys) ≡ span xs + span ys
span_append [] ys = omega arith
span_append (x ∷ xs) ys = let h = span_append xs ys in omega (arith, h)

numbered_append : (n m : ℕ) (xs ys : List Copy) → n + span xs ≡ m → Numbered n xs → Numbered m ys → Numbered n (xs ++ ys)
numbered_append n m [] ys e p q = subst (λ k. Numbered k ys) (omega (arith, e)) q
numbered_append n m (x ∷ xs) ys e p q = (p.0, numbered_append (n + length x.source.decls) m xs ys (omega (arith, e)) p.1 q)

-- each begins at the first number or later
pub numbered_low : (lo n : ℕ) (cs : List Copy) → lo ≤ n → Numbered n cs → Each (λ c. lo ≤ c.from) cs
numbered_low lo n [] l m = tt
numbered_low lo n (c ∷ cs) l m = (let q = m.0 in omega (arith, l, q), numbered_low lo (n + length c.source.decls) cs (omega (arith, l)) m.1)

fills_none : (n : ℕ) → Fills n 0 []
fills_none n = record { numbered = tt; all = refl }

fills_two : (n a b : ℕ) (xs ys : List Copy) → Fills n a xs → Fills (n + a) b ys → Fills n (a + b) (xs ++ ys)
fills_two n a b xs ys p q = record {
  numbered = numbered_append n (n + a) xs ys (ap (λ k. n + k) p.all) p.numbered q.numbered;
  all = span_append xs ys ∙ (λ i. p.all i + q.all i);
}

fills_one : (c : Copy) (n : ℕ) → c.from ≡ n → Fills n (length c.source.decls) (c ∷ [])
fills_one c n e = record { numbered = (e, tt); all = omega arith }

module _ (lib : Library) where
  mutual
    pub filled : (n : ℕ) (ck : ClockPairs) (e : Expression) → Fills n (grown lib e) (copies lib n ck e)
    filled n ck (literal v) = fills_none n
    filled n ck (variable x) = fills_none n
    filled n ck (unary o a) = filled n ck a
    filled n ck (binary o a b) = fills_two n (grown lib a) (grown lib b) (copies lib n ck a) _ (filled n ck a) (filled (n + grown lib a) ck b)
    filled n ck (imported o a b) = fills_two n (grown lib a) (grown lib b) (copies lib n ck a) _ (filled n ck a) (filled (n + grown lib a) ck b)
    filled n ck (choose c a b) =
        fills_two n (grown lib c) (grown lib a + grown lib b) (copies lib n ck c) _ (filled n ck c)
        (fills_two (n + grown lib c) (grown lib a) (grown lib b) (copies lib (n + grown lib c) ck a) _ (filled (n + grown lib c) ck a) (filled ((n + grown lib c) + grown lib a) ck b))
    filled n ck (sampled e c b) = filled n (outer ck) e
    filled n ck (merged c a b) =
        fills_two n (grown lib a) (grown lib b) (copies lib n ((c, true) ∷ ck) a) _ (filled n ((c, true) ∷ ck) a) (filled (n + grown lib a) ((c, false) ∷ ck) b)
    filled n ck (delayed v e) = filled n ck e
    filled n ck (follow a b) = fills_two n (grown lib a) (grown lib b) (copies lib n ck a) _ (filled n ck a) (filled (n + grown lib a) ck b)
    filled n ck (arrow a b) = fills_two n (grown lib a) (grown lib b) (copies lib n ck a) _ (filled n ck a) (filled (n + grown lib a) ck b)
    filled n ck (call g args) =
        fills_two n (arguments_grown lib args) (length (lib g).decls) (arguments_copies lib n ck args) _ (arguments_filled n ck args) (fills_one _ (n + arguments_grown lib args) refl)

    pub arguments_filled : (n : ℕ) (ck : ClockPairs) (args : Arguments) → Fills n (arguments_grown lib args) (arguments_copies lib n ck args)
    arguments_filled n ck no_arguments = fills_none n
    arguments_filled n ck (argument e args) =
        fills_two n (grown lib e) (arguments_grown lib args) (copies lib n ck e) _ (filled n ck e) (arguments_filled (n + grown lib e) ck args)

  pub equations_filled : (ds : List Decl) (n : ℕ) (qs : List (ℕ × Expression)) → Fills n (equations_grown lib qs) (equations_copies lib ds n qs)
  equations_filled ds n [] = fills_none n
  equations_filled ds n (q ∷ qs) =
      fills_two n (grown lib q.1) (equations_grown lib qs) (copies lib n (clock_of ds q.0) q.1) _ (filled n (clock_of ds q.0) q.1) (equations_filled ds (n + grown lib q.1) qs)

pub copied_length : (cs : List Copy) → length (copied_decls cs) ≡ span cs
copied_length [] = refl
copied_length (c ∷ cs) =
    let l = length-append (map (copy_decl c.from c.clock) c.source.decls) (copied_decls cs) in
    let m = length-map c.source.decls (copy_decl c.from c.clock) in
    let h = copied_length cs in
    omega (arith, l, m, h)
