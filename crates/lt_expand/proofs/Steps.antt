-- The walk over an expression, case by case.
use Rattle.std.proofs.Common.{◌≡◌, ℕ, ◌+◌, Bool, true, false, List, [], ◌∷◌, ◌++◌, length, refl, sym, ap, ◌∙◌, subst, arith, length-append}
use Rattle.std.proofs.lemmas.List.{append_assoc, append-nil}
use Rattle.lt_base.specs.declared.value.Value.{Value}
use Rattle.lt_base.specs.declared.operators.Un.{Un}
use Rattle.lt_base.specs.declared.operators.Bin.{Bin}
use Rattle.lt_base.specs.declared.operators.Imp.{Imp}
use Rattle.lt_base.specs.declared.function.Decl.{Decl}
use Rattle.lt_base.specs.Expression.{Expression, variable, unary, binary, imported, choose, sampled, merged, delayed, follow, arrow, call, Arguments, no_arguments, argument, arguments_of}
use Rattle.lt_base.specs.Meaning.{ClockPairs, outer}
use Rattle.lt_expand.specs.Copies.{Library, Copy, grown, arguments_grown, inlined, arguments_inlined, copies, arguments_copies, copy_decls, input_equations, copy_equations, copied_decls, copied_equations, first_or_zero}
use Rattle.lt_expand.specs.Walk.{AddsCopies, InlinedTo}
use Rattle.lt_expand.proofs.Standing.{span}
use Rattle.lt_expand.proofs.Filled.{filled, arguments_filled, copied_length}

abbrev Decls : Type 0
Decls = List Decl

abbrev Eqs : Type 0
Eqs = List (ℕ × Expression)

pub decls_append : (xs ys : List Copy) → copied_decls (xs ++ ys) ≡ copied_decls xs ++ copied_decls ys
decls_append [] ys = refl
decls_append (c ∷ xs) ys =
    ap (λ l. copy_decls c.from c.clock c.source.decls ++ l) (decls_append xs ys) ∙ sym (append_assoc (copy_decls c.from c.clock c.source.decls) (copied_decls xs) (copied_decls ys))

pub equations_append : (xs ys : List Copy) → copied_equations (xs ++ ys) ≡ copied_equations xs ++ copied_equations ys
equations_append [] ys = refl
equations_append (c ∷ xs) ys =
    let own = input_equations c.from c.inputs ++ copy_equations c.from c.source.eqs in
    ap (λ l. own ++ l) (equations_append xs ys) ∙ sym (append_assoc own (copied_equations xs) (copied_equations ys))

pub adds_none : (ds : Decls) (es : Eqs) → AddsCopies [] ds es ds es
adds_none ds es = record { decls = sym (append-nil ds); eqs = sym (append-nil es) }

pub adds_two : (xs ys : List Copy) (ds ds1 ds2 : Decls) (es es1 es2 : Eqs) → AddsCopies xs ds es ds1 es1 → AddsCopies ys ds1 es1 ds2 es2 → AddsCopies (xs ++ ys) ds es ds2 es2
adds_two xs ys ds ds1 ds2 es es1 es2 a b = record {
  decls = b.decls
      ∙ ap (λ l. l ++ copied_decls ys) a.decls
      ∙ append_assoc ds (copied_decls xs) (copied_decls ys)
      ∙ ap (λ l. ds ++ l) (sym (decls_append xs ys));
  eqs = b.eqs
      ∙ ap (λ l. l ++ copied_equations ys) a.eqs
      ∙ append_assoc es (copied_equations xs) (copied_equations ys)
      ∙ ap (λ l. es ++ l) (sym (equations_append xs ys));
}

adds_length : (cs : List Copy) (ds : Decls) (es : Eqs) (ds' : Decls) (es' : Eqs) → AddsCopies cs ds es ds' es' → length ds' ≡ length ds + span cs
adds_length cs ds es ds' es' a = ap length a.decls ∙ length-append ds (copied_decls cs) ∙ ap (λ k. length ds + k) (copied_length cs)

module _ (lib : Library) where
  abbrev To : ClockPairs → Expression → Decls → Eqs → Decls → Eqs → Expression → Type 0
  To = InlinedTo lib

  pub inline_length : (ck : ClockPairs) (e : Expression) (ds : Decls) (es : Eqs) (ds' : Decls) (es' : Eqs) (e' : Expression) → To ck e ds es ds' es' e' → length ds' ≡ length ds + grown lib e
  inline_length ck e ds es ds' es' e' l = adds_length _ ds es ds' es' l.adds ∙ ap (λ k. length ds + k) (filled lib (length ds) ck e).all

  pub inline_unary : (ck : ClockPairs) (o : Un) (a a' : Expression) (ds ds' : Decls) (es es' : Eqs) → To ck a ds es ds' es' a' → To ck (unary o a) ds es ds' es' (unary o a')
  inline_unary ck o a a' ds ds' es es' l = record { form = ap (unary o) l.form; adds = l.adds }

  pub inline_delayed : (ck : ClockPairs) (v : Value) (a a' : Expression) (ds ds' : Decls) (es es' : Eqs) → To ck a ds es ds' es' a' → To ck (delayed v a) ds es ds' es' (delayed v a')
  inline_delayed ck v a a' ds ds' es es' l = record { form = ap (delayed v) l.form; adds = l.adds }

  pub inline_sampled : (ck ck' : ClockPairs) (c : ℕ) (b : Bool) (a a' : Expression) (ds ds' : Decls) (es es' : Eqs) → ck' ≡ outer ck → To ck' a ds es ds' es' a' → To ck (sampled a c b) ds es ds' es' (sampled a' c b)
  inline_sampled ck ck' c b a a' ds ds' es es' p l =
      let l' = subst (λ k. To k a ds es ds' es' a') p l in
      record { form = ap (λ z. sampled z c b) l'.form; adds = l'.adds }

  -- two operands, perhaps at two clocks
  adds_pair : (ck ck' : ClockPairs) (a a' b b' : Expression) (ds ds1 ds2 : Decls) (es es1 es2 : Eqs) → To ck a ds es ds1 es1 a' → To ck' b ds1 es1 ds2 es2 b' → AddsCopies (copies lib (length ds) ck a ++ copies lib (length ds + grown lib a) ck' b) ds es ds2 es2
  adds_pair ck ck' a a' b b' ds ds1 ds2 es es1 es2 l m =
      adds_two (copies lib (length ds) ck a) _ ds ds1 ds2 es es1 es2 l.adds (subst (λ n. AddsCopies (copies lib n ck' b) ds1 es1 ds2 es2) (inline_length ck a ds es ds1 es1 a' l) m.adds)

  form_next : (ck ck' : ClockPairs) (a a' b b' : Expression) (ds ds1 ds2 : Decls) (es es1 es2 : Eqs) → To ck a ds es ds1 es1 a' → To ck' b ds1 es1 ds2 es2 b' → b' ≡ inlined lib (length ds + grown lib a) b
  form_next ck ck' a a' b b' ds ds1 ds2 es es1 es2 l m = m.form ∙ ap (λ n. inlined lib n b) (inline_length ck a ds es ds1 es1 a' l)

  pub inline_binary : (ck : ClockPairs) (o : Bin) (a a' b b' : Expression) (ds ds1 ds2 : Decls) (es es1 es2 : Eqs) → To ck a ds es ds1 es1 a' → To ck b ds1 es1 ds2 es2 b' → To ck (binary o a b) ds es ds2 es2 (binary o a' b')
  inline_binary ck o a a' b b' ds ds1 ds2 es es1 es2 l m =
      let f = form_next ck ck a a' b b' ds ds1 ds2 es es1 es2 l m in
      record { form = λ i. binary o (l.form i) (f i); adds = adds_pair ck ck a a' b b' ds ds1 ds2 es es1 es2 l m }

  pub inline_imported : (ck : ClockPairs) (o : Imp) (a a' b b' : Expression) (ds ds1 ds2 : Decls) (es es1 es2 : Eqs) → To ck a ds es ds1 es1 a' → To ck b ds1 es1 ds2 es2 b' → To ck (imported o a b) ds es ds2 es2 (imported o a' b')
  inline_imported ck o a a' b b' ds ds1 ds2 es es1 es2 l m =
      let f = form_next ck ck a a' b b' ds ds1 ds2 es es1 es2 l m in
      record { form = λ i. imported o (l.form i) (f i); adds = adds_pair ck ck a a' b b' ds ds1 ds2 es es1 es2 l m }

  pub inline_follow : (ck : ClockPairs) (a a' b b' : Expression) (ds ds1 ds2 : Decls) (es es1 es2 : Eqs) → To ck a ds es ds1 es1 a' → To ck b ds1 es1 ds2 es2 b' → To ck (follow a b) ds es ds2 es2 (follow a' b')
  inline_follow ck a a' b b' ds ds1 ds2 es es1 es2 l m =
      let f = form_next ck ck a a' b b' ds ds1 ds2 es es1 es2 l m in
      record { form = λ i. follow (l.form i) (f i); adds = adds_pair ck ck a a' b b' ds ds1 ds2 es es1 es2 l m }

  pub inline_arrow : (ck : ClockPairs) (a a' b b' : Expression) (ds ds1 ds2 : Decls) (es es1 es2 : Eqs) → To ck a ds es ds1 es1 a' → To ck b ds1 es1 ds2 es2 b' → To ck (arrow a b) ds es ds2 es2 (arrow a' b')
  inline_arrow ck a a' b b' ds ds1 ds2 es es1 es2 l m =
      let f = form_next ck ck a a' b b' ds ds1 ds2 es es1 es2 l m in
      record { form = λ i. arrow (l.form i) (f i); adds = adds_pair ck ck a a' b b' ds ds1 ds2 es es1 es2 l m }

  pub inline_merged : (ck ck1 ck2 : ClockPairs) (c : ℕ) (a a' b b' : Expression) (ds ds1 ds2 : Decls) (es es1 es2 : Eqs) → ck1 ≡ (c, true) ∷ ck → ck2 ≡ (c, false) ∷ ck → To ck1 a ds es ds1 es1 a' → To ck2 b ds1 es1 ds2 es2 b' → To ck (merged c a b) ds es ds2 es2 (merged c a' b')
  inline_merged ck ck1 ck2 c a a' b b' ds ds1 ds2 es es1 es2 p q l m =
      let l' = subst (λ k. To k a ds es ds1 es1 a') p l in
      let m' = subst (λ k. To k b ds1 es1 ds2 es2 b') q m in
      let f = form_next ((c, true) ∷ ck) ((c, false) ∷ ck) a a' b b' ds ds1 ds2 es es1 es2 l' m' in
      record { form = λ i. merged c (l'.form i) (f i); adds = adds_pair ((c, true) ∷ ck) ((c, false) ∷ ck) a a' b b' ds ds1 ds2 es es1 es2 l' m' }

  -- the same at clocks that were made for the branches
  pub inline_merged_from : (ck ck1 ck2 : ClockPairs) (c c1 c2 : ℕ) (a a' b b' : Expression) (ds ds1 ds2 : Decls) (es es1 es2 : Eqs) → To ck1 a ds es ds1 es1 a' → To ck2 b ds1 es1 ds2 es2 b' → ck1 ≡ (c1, true) ∷ ck → ck2 ≡ (c2, false) ∷ ck → c1 ≡ c → c2 ≡ c → To ck (merged c a b) ds es ds2 es2 (merged c a' b')
  inline_merged_from ck ck1 ck2 c c1 c2 a a' b b' ds ds1 ds2 es es1 es2 l m p q j k =
      inline_merged ck ck1 ck2 c a a' b b' ds ds1 ds2 es es1 es2 (p ∙ ap (λ n. (n, true) ∷ ck) j) (q ∙ ap (λ n. (n, false) ∷ ck) k) l m

  pub inline_choose : (ck : ClockPairs) (c c' a a' b b' : Expression) (ds ds1 ds2 ds3 : Decls) (es es1 es2 es3 : Eqs) → To ck c ds es ds1 es1 c' → To ck a ds1 es1 ds2 es2 a' → To ck b ds2 es2 ds3 es3 b' → To ck (choose c a b) ds es ds3 es3 (choose c' a' b')
  inline_choose ck c c' a a' b b' ds ds1 ds2 ds3 es es1 es2 es3 k l m =
      let n1 = inline_length ck c ds es ds1 es1 c' k in
      let f : a' ≡ inlined lib (length ds + grown lib c) a = l.form ∙ ap (λ n. inlined lib n a) n1 in
      let g : b' ≡ inlined lib ((length ds + grown lib c) + grown lib a) b = m.form ∙ ap (λ n. inlined lib n b) (inline_length ck a ds1 es1 ds2 es2 a' l ∙ ap (λ n. n + grown lib a) n1) in
      record {
        form = λ i. choose (k.form i) (f i) (g i);
        adds = adds_two (copies lib (length ds) ck c) _ ds ds1 ds3 es es1 es3 k.adds (subst (λ n. AddsCopies (copies lib n ck a ++ copies lib (n + grown lib a) ck b) ds1 es1 ds3 es3) n1 (adds_pair ck ck a a' b b' ds1 ds2 ds3 es1 es2 es3 l m));
      }

  -- the same of equal expressions
  pub moved : (ck : ClockPairs) (e0 e1 : Expression) (ds : Decls) (es : Eqs) (ds' : Decls) (es' : Eqs) (r0 r1 : Expression) → e0 ≡ e1 → r0 ≡ r1 → To ck e1 ds es ds' es' r1 → To ck e0 ds es ds' es' r0
  moved ck e0 e1 ds es ds' es' r0 r1 p q l = subst (λ z. To ck z ds es ds' es' r0) (sym p) (subst (λ z. To ck e1 ds es ds' es' z) (sym q) l)

  -- ---- arguments, one after the other

  abbrev arguments_more : Arguments → Expression → Arguments
  arguments_more no_arguments e = argument e no_arguments
  arguments_more (argument a args) e = argument a (arguments_more args e)

  of_more : (xs : List Expression) (e : Expression) → arguments_of (xs ++ e ∷ []) ≡ arguments_more (arguments_of xs) e
  of_more [] e = refl
  of_more (x ∷ xs) e = ap (argument x) (of_more xs e)

  inlined_more : (n : ℕ) (args : Arguments) (e : Expression) → arguments_inlined lib n (arguments_more args e) ≡ arguments_more (arguments_inlined lib n args) (inlined lib (n + arguments_grown lib args) e)
  inlined_more n no_arguments e = ap (λ m. argument (inlined lib m e) no_arguments) (omega arith)
  inlined_more n (argument a args) e =
      ap (argument (inlined lib n a)) (inlined_more (n + grown lib a) args e ∙ ap (λ m. arguments_more (arguments_inlined lib (n + grown lib a) args) (inlined lib m e)) (omega arith))

  copies_more : (n : ℕ) (ck : ClockPairs) (args : Arguments) (e : Expression) → arguments_copies lib n ck (arguments_more args e) ≡ arguments_copies lib n ck args ++ copies lib (n + arguments_grown lib args) ck e
  copies_more n ck no_arguments e = append-nil (copies lib n ck e) ∙ ap (λ m. copies lib m ck e) (omega arith)
  copies_more n ck (argument a args) e =
      ap (λ l. copies lib n ck a ++ l) (copies_more (n + grown lib a) ck args e)
      ∙ sym (append_assoc (copies lib n ck a) (arguments_copies lib (n + grown lib a) ck args) (copies lib ((n + grown lib a) + arguments_grown lib args) ck e))
      ∙ ap (λ m. (copies lib n ck a ++ arguments_copies lib (n + grown lib a) ck args) ++ copies lib m ck e) (omega arith)

  -- these arguments got copies in place of their calls
  pub record ArgumentsTo (ck : ClockPairs) (xs : List Expression) (ds : Decls) (es : Eqs) (ds' : Decls) (es' : Eqs) (ys : List Expression) : Type 0 where
    pub form : arguments_of ys ≡ arguments_inlined lib (length ds) (arguments_of xs)
    pub count : length ys ≡ length xs
    pub adds : AddsCopies (arguments_copies lib (length ds) ck (arguments_of xs)) ds es ds' es'

  pub arguments_none : (ck : ClockPairs) (ds : Decls) (es : Eqs) → ArgumentsTo ck [] ds es ds es []
  arguments_none ck ds es = record { form = refl; count = refl; adds = adds_none ds es }

  pub arguments_length : (ck : ClockPairs) (xs : List Expression) (ds : Decls) (es : Eqs) (ds' : Decls) (es' : Eqs) (ys : List Expression) → ArgumentsTo ck xs ds es ds' es' ys → length ds' ≡ length ds + arguments_grown lib (arguments_of xs)
  arguments_length ck xs ds es ds' es' ys a = adds_length _ ds es ds' es' a.adds ∙ ap (λ k. length ds + k) (arguments_filled lib (length ds) ck (arguments_of xs)).all

  pub arguments_next : (ck : ClockPairs) (xs : List Expression) (x x' : Expression) (ds ds1 ds2 : Decls) (es es1 es2 : Eqs) (ys : List Expression) → ArgumentsTo ck xs ds es ds1 es1 ys → To ck x ds1 es1 ds2 es2 x' → ArgumentsTo ck (xs ++ x ∷ []) ds es ds2 es2 (ys ++ x' ∷ [])
  arguments_next ck xs x x' ds ds1 ds2 es es1 es2 ys a l =
      let n = arguments_length ck xs ds es ds1 es1 ys a in
      let args = arguments_of xs in
      let f : x' ≡ inlined lib (length ds + arguments_grown lib args) x = l.form ∙ ap (λ m. inlined lib m x) n in
      record {
        form = of_more ys x' ∙ (λ i. arguments_more (a.form i) (f i)) ∙ sym (inlined_more (length ds) args x) ∙ ap (arguments_inlined lib (length ds)) (sym (of_more xs x));
        count = (let p = length-append ys (x' ∷ []) in let q = length-append xs (x ∷ []) in let c = a.count in omega (arith, p, q, c));
        adds = subst (λ cs. AddsCopies cs ds es ds2 es2) (sym (ap (arguments_copies lib (length ds) ck) (of_more xs x) ∙ copies_more (length ds) ck args x))
            (adds_two (arguments_copies lib (length ds) ck args) _ ds ds1 ds2 es es1 es2 a.adds (subst (λ m. AddsCopies (copies lib m ck x) ds1 es1 ds2 es2) n l.adds));
      }

  -- and then the copy for the call was appended
  pub inline_call : (ck : ClockPairs) (g : ℕ) (xs : List Expression) (ds ds1 ds2 : Decls) (es es1 es2 : Eqs) (ys : List Expression) (y : ℕ) → ArgumentsTo ck xs ds es ds1 es1 ys → y ≡ first_or_zero (lib g).outs + length ds1 → AddsCopies (record { from = length ds1; clock = ck; source = lib g; inputs = arguments_of ys } ∷ []) ds1 es1 ds2 es2 → To ck (call g (arguments_of xs)) ds es ds2 es2 (variable y)
  inline_call ck g xs ds ds1 ds2 es es1 es2 ys y a o r =
      let n = arguments_length ck xs ds es ds1 es1 ys a in
      record {
        form = ap variable (o ∙ ap (λ m. first_or_zero (lib g).outs + m) n);
        adds = adds_two (arguments_copies lib (length ds) ck (arguments_of xs)) _ ds ds1 ds2 es es1 es2 a.adds (subst (λ (c : Copy). AddsCopies (c ∷ []) ds1 es1 ds2 es2) (λ i. record { from = n i; clock = ck; source = lib g; inputs = a.form i }) r);
      }
