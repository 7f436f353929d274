-- What lifting takes, arm by arm.
use Rattle.std.proofs.Common.{◌≡◌, ℕ, ◌+◌, Bool, true, List, [], ◌∷◌, ◌++◌, length, map, Result, Ok, Err, IfOk, OnOk, refl, sym, ap, subst, ◌∙◌, arith}
use Rattle.std.proofs.lemmas.List.{append_assoc, append-nil, map-append, length-append}
use Rattle.lt_base.specs.declared.value.Value.{Value}
use Rattle.lt_base.specs.declared.value.Value.TheVariants.{Bool as Truth}
use Rattle.lt_base.specs.declared.memory.Memory.{Memory}
use Rattle.lt_base.specs.Expression.{Expression, choose, sampled, delayed, follow, arrow, call, Arguments, no_arguments, arguments_of}
use Rattle.lt_base.specs.Meaning.{ClockPairs, outer}
use Rattle.lt_meaning.specs.declared.node.Node.{Node}
use Rattle.lt_meaning.specs.Form.{NodeForm, node_form, at, kept, either}
use Rattle.lt_meaning.specs.Plan.{StepForm, runs}
use Rattle.lt_meaning.specs.Lift.{delay_count, delay_counts, call_count, call_counts, form_of, forms_of, Wait, first_wait, delays_in, arguments_delays, part, Item, step_of, calls_in, arguments_calls}
use Rattle.lt_meaning.specs.Taken.{Taken, taken_after, after_arguments, with_wait, with_call}
use Rattle.lt_meaning.proofs.Lifting.{delays_number, arguments_delays_number, two_lengths}

pub ok_map : {A E : Type 0} (P Q : A → Type 0) (r : Result A E) → ((v : A) → P v → Q v) → IfOk r P → IfOk r Q
ok_map P Q (Ok v) h p = h v p
ok_map P Q (Err e) h p = tt

pub ok_any : {A E : Type 0} (Q : Type 0) (r : Result A E) → Q → OnOk r Q
ok_any Q (Ok v) h = h
ok_any Q (Err e) h = tt

-- an expression was lifted to this node
pub record Lifts (x : Taken) (e : Expression) (ck : ClockPairs) (r : Result Node Memory) (y : Taken) : Type 0 where
  pub form : IfOk r (λ node. node_form node ≡ form_of (length x.waits) x.cells e)
  pub grown : OnOk r (y ≡ taken_after x e ck)

same_taken : (n n' : ℕ) (s s' : List StepForm) (w w' : List Wait) → n ≡ n' → s ≡ s' → w ≡ w' → ◌≡◌ {A = Taken} (record { cells = n; steps = s; waits = w }) (record { cells = n'; steps = s'; waits = w' })
same_taken n n' s s' w w' p q r = λ i. record { cells = p i; steps = q i; waits = r i }

pub waits_number : (x : Taken) (e : Expression) (ck : ClockPairs) → length (taken_after x e ck).waits ≡ length x.waits + delay_count e
waits_number x e ck = length-append x.waits (delays_in e ck) ∙ ap (λ n. length x.waits + n) (delays_number e ck)

-- two expressions, one after the other
pub after_two : (x : Taken) (a b : Expression) (cka ckb : ClockPairs)
    → taken_after (taken_after x a cka) b ckb ≡ record {
      cells = x.cells + (call_count a + call_count b);
      steps = x.steps ++ map step_of (calls_in (length x.waits) x.cells a cka ++ calls_in (length x.waits + delay_count a) (x.cells + call_count a) b ckb);
      waits = x.waits ++ (delays_in a cka ++ delays_in b ckb);
    }
after_two x a b cka ckb =
    let ca = calls_in (length x.waits) x.cells a cka in
    let cb : ℕ → List Item = λ n. calls_in n (x.cells + call_count a) b ckb in
    same_taken _ _ _ _ _ _
    (omega arith)
    (append_assoc x.steps (map step_of ca) (map step_of (cb (length (taken_after x a cka).waits))) ∙ ap (λ n. x.steps ++ (map step_of ca ++ map step_of (cb n))) (waits_number x a cka) ∙ ap (λ l. x.steps ++ l) (sym (map-append step_of ca (cb (length x.waits + delay_count a)))))
    (append_assoc x.waits (delays_in a cka) (delays_in b ckb))

form_next : (x : Taken) (a b : Expression) (cka : ClockPairs) → form_of (length (taken_after x a cka).waits) (taken_after x a cka).cells b ≡ form_of (length x.waits + delay_count a) (x.cells + call_count a) b
form_next x a b cka = ap (λ n. form_of n (x.cells + call_count a) b) (waits_number x a cka)

pub one_lifts : (x y : Taken) (e a : Expression) (ck : ClockPairs) (F : NodeForm → NodeForm) (node : Node) (r : Result Node Memory)
    → ((k c : ℕ) → form_of k c e ≡ F (form_of k c a)) → ((z : Taken) → taken_after z e ck ≡ taken_after z a ck)
    → node_form node ≡ form_of (length x.waits) x.cells a → y ≡ taken_after x a ck → IfOk r (λ n. node_form n ≡ F (node_form node)) → Lifts x e ck r y
one_lifts x y e a ck F node r hf ha f g h = record {
  form = ok_map (λ n. node_form n ≡ F (node_form node)) _ r (λ n p. p ∙ ap F f ∙ sym (hf _ _)) h;
  grown = ok_any _ r (g ∙ sym (ha x));
}

pub two_lifts : (x y z : Taken) (e a b : Expression) (ck cka ckb : ClockPairs) (F : NodeForm → NodeForm → NodeForm) (na nb : Node) (r : Result Node Memory)
    → ((k c : ℕ) → form_of k c e ≡ F (form_of k c a) (form_of (k + delay_count a) (c + call_count a) b))
    → (taken_after x e ck ≡ record {
      cells = x.cells + (call_count a + call_count b);
      steps = x.steps ++ map step_of (calls_in (length x.waits) x.cells a cka ++ calls_in (length x.waits + delay_count a) (x.cells + call_count a) b ckb);
      waits = x.waits ++ (delays_in a cka ++ delays_in b ckb);
    })
    → node_form na ≡ form_of (length x.waits) x.cells a → y ≡ taken_after x a cka → node_form nb ≡ form_of (length y.waits) y.cells b → z ≡ taken_after y b ckb → IfOk r (λ n. node_form n ≡ F (node_form na) (node_form nb)) → Lifts x e ck r z
two_lifts x y z e a b ck cka ckb F na nb r hf ha fa ga fb gb h =
    let there : node_form nb ≡ form_of (length x.waits + delay_count a) (x.cells + call_count a) b = fb ∙ ap (λ (y : Taken). form_of (length y.waits) y.cells b) ga ∙ form_next x a b cka in
    record {
      form = ok_map (λ n. node_form n ≡ F (node_form na) (node_form nb)) _ r (λ n p. p ∙ (λ i. F (fa i) (there i)) ∙ sym (hf _ _)) h;
      grown = ok_any _ r (gb ∙ ap (λ (y : Taken). taken_after y b ckb) ga ∙ after_two x a b cka ckb ∙ sym ha);
    }

pub choose_lifts : (x y z w : Taken) (t a b : Expression) (ck : ClockPairs) (nt na nb : Node) (r : Result Node Memory)
    → node_form nt ≡ form_of (length x.waits) x.cells t → y ≡ taken_after x t ck → node_form na ≡ form_of (length y.waits) y.cells a → z ≡ taken_after y a ck → node_form nb ≡ form_of (length z.waits) z.cells b → w ≡ taken_after z b ck
    → IfOk r (λ n. node_form n ≡ either (node_form nt) (node_form na) (node_form nb)) → Lifts x (choose t a b) ck r w
choose_lifts x y z w t a b ck nt na nb r ft gt fa ga fb gb h =
    let k = length x.waits in
    let c = x.cells in
    let two : Taken = record {
      cells = c + (call_count t + call_count a);
      steps = x.steps ++ map step_of (calls_in k c t ck ++ calls_in (k + delay_count t) (c + call_count t) a ck);
      waits = x.waits ++ (delays_in t ck ++ delays_in a ck);
    } in
    let z_is : z ≡ two = ga ∙ ap (λ (y : Taken). taken_after y a ck) gt ∙ after_two x t a ck ck in
    let waits : length two.waits ≡ k + delay_count t + delay_count a =
    length-append x.waits (delays_in t ck ++ delays_in a ck) ∙ ap (λ n. k + n) (two_lengths (delays_in t ck) (delays_in a ck) _ _ (delays_number t ck) (delays_number a ck)) ∙ omega arith in
    let cells : two.cells ≡ c + call_count t + call_count a = omega arith in
    let na_is : node_form na ≡ form_of (k + delay_count t) (c + call_count t) a = fa ∙ ap (λ (y : Taken). form_of (length y.waits) y.cells a) gt ∙ form_next x t a ck in
    let nb_is : node_form nb ≡ form_of (k + delay_count t + delay_count a) (c + call_count t + call_count a) b =
    fb ∙ ap (λ (z : Taken). form_of (length z.waits) z.cells b) z_is ∙ (λ i. form_of (waits i) (cells i) b) in
    let steps : two.steps ++ map step_of (calls_in (length two.waits) two.cells b ck) ≡ x.steps ++ map step_of (calls_in k c (choose t a b) ck) =
    (λ i. two.steps ++ map step_of (calls_in (waits i) (cells i) b ck))
    ∙ append_assoc x.steps (map step_of (calls_in k c t ck ++ calls_in (k + delay_count t) (c + call_count t) a ck)) (map step_of (calls_in (k + delay_count t + delay_count a) (c + call_count t + call_count a) b ck))
    ∙ ap (λ l. x.steps ++ l) (sym (map-append step_of (calls_in k c t ck ++ calls_in (k + delay_count t) (c + call_count t) a ck) (calls_in (k + delay_count t + delay_count a) (c + call_count t + call_count a) b ck))) in
    let w_is : w ≡ taken_after x (choose t a b) ck =
    gb ∙ ap (λ (z : Taken). taken_after z b ck) z_is
    ∙ same_taken _ _ _ _ _ _ (omega arith) steps (append_assoc x.waits (delays_in t ck ++ delays_in a ck) (delays_in b ck)) in
    record {
      form = ok_map (λ n. node_form n ≡ either (node_form nt) (node_form na) (node_form nb)) _ r (λ n p. p ∙ (λ i. either (ft i) (na_is i) (nb_is i))) h;
      grown = ok_any _ r w_is;
    }

pub sampled_lifts : (x y : Taken) (e : Expression) (c : ℕ) (b : Bool) (ck before : ClockPairs) (r : Result Node Memory) → before ≡ outer ck
    → IfOk r (λ n. node_form n ≡ form_of (length x.waits) x.cells e) → OnOk r (y ≡ taken_after x e before) → Lifts x (sampled e c b) ck r y
sampled_lifts x y e c b ck before r o f g = record { form = f; grown = subst (λ k. OnOk r (y ≡ taken_after x e k)) o g }

pub delayed_lifts : (x y : Taken) (v : Value) (e : Expression) (ck : ClockPairs) (r : Result Node Memory)
    → IfOk r (λ n. node_form n ≡ kept (length x.waits)) → OnOk r (y ≡ with_wait x (record { clock = ck; first = v; right = e })) → Lifts x (delayed v e) ck r y
delayed_lifts x y v e ck (Ok n) f g = record { form = f; grown = g ∙ same_taken _ _ _ _ _ _ (omega arith) (sym (append-nil x.steps)) refl }
delayed_lifts x y v e ck (Err m) f g = record { form = tt; grown = tt }

pub follow_lifts : (x y z w : Taken) (a b : Expression) (ck : ClockPairs) (na nf nk : Node) (r : Result Node Memory)
    → node_form na ≡ form_of (length x.waits) x.cells a → y ≡ taken_after x a ck → node_form nf ≡ kept (length y.waits) → z ≡ with_wait y (first_wait ck)
    → node_form nk ≡ kept (length z.waits) → w ≡ with_wait z (record { clock = ck; first = Truth true; right = b }) → IfOk r (λ n. node_form n ≡ either (node_form nf) (node_form na) (node_form nk)) → Lifts x (follow a b) ck r w
follow_lifts x y z w a b ck na nf nk r fa ga ff gf fk gk h =
    let u : Wait = record { clock = ck; first = Truth true; right = b } in
    let number = waits_number x a ck in
    let first : node_form nf ≡ kept (length x.waits + delay_count a) = ff ∙ ap (λ (y : Taken). kept (length y.waits)) ga ∙ ap kept number in
    let more : length z.waits ≡ length x.waits + delay_count a + 1 =
    ap (λ (z : Taken). length z.waits) gf ∙ length-append y.waits (first_wait ck ∷ []) ∙ ap (λ (y : Taken). length y.waits + 1) ga ∙ ap (λ n. n + 1) number in
    let w_is : w ≡ with_wait (with_wait (taken_after x a ck) (first_wait ck)) u = gk ∙ ap (λ (z : Taken). with_wait z u) (gf ∙ ap (λ (y : Taken). with_wait y (first_wait ck)) ga) in
    let waits : ((x.waits ++ delays_in a ck) ++ first_wait ck ∷ []) ++ u ∷ [] ≡ x.waits ++ (delays_in a ck ++ (first_wait ck ∷ u ∷ [])) =
    append_assoc (x.waits ++ delays_in a ck) (first_wait ck ∷ []) (u ∷ []) ∙ append_assoc x.waits (delays_in a ck) (first_wait ck ∷ u ∷ []) in
    record {
      form = ok_map (λ n. node_form n ≡ either (node_form nf) (node_form na) (node_form nk)) _ r (λ n p. p ∙ (λ i. either (first i) (fa i) ((fk ∙ ap kept more) i))) h;
      grown = ok_any _ r (w_is ∙ same_taken _ _ _ _ _ _ refl refl waits);
    }

pub arrow_lifts : (x y z w : Taken) (a b : Expression) (ck : ClockPairs) (na nb nf : Node) (r : Result Node Memory)
    → node_form na ≡ form_of (length x.waits) x.cells a → y ≡ taken_after x a ck → node_form nb ≡ form_of (length y.waits) y.cells b → z ≡ taken_after y b ck
    → node_form nf ≡ kept (length z.waits) → w ≡ with_wait z (first_wait ck) → IfOk r (λ n. node_form n ≡ either (node_form nf) (node_form na) (node_form nb)) → Lifts x (arrow a b) ck r w
arrow_lifts x y z w a b ck na nb nf r fa ga fb gb ff gf h =
    let k = length x.waits in
    let c = x.cells in
    let two : Taken = record {
      cells = c + (call_count a + call_count b);
      steps = x.steps ++ map step_of (calls_in k c a ck ++ calls_in (k + delay_count a) (c + call_count a) b ck);
      waits = x.waits ++ (delays_in a ck ++ delays_in b ck);
    } in
    let z_is : z ≡ two = gb ∙ ap (λ (y : Taken). taken_after y b ck) ga ∙ after_two x a b ck ck in
    let waits : length two.waits ≡ k + delay_count a + delay_count b =
    length-append x.waits (delays_in a ck ++ delays_in b ck) ∙ ap (λ n. k + n) (two_lengths (delays_in a ck) (delays_in b ck) _ _ (delays_number a ck) (delays_number b ck)) ∙ omega arith in
    let nb_is : node_form nb ≡ form_of (k + delay_count a) (c + call_count a) b = fb ∙ ap (λ (y : Taken). form_of (length y.waits) y.cells b) ga ∙ form_next x a b ck in
    let first : node_form nf ≡ kept (k + delay_count a + delay_count b) = ff ∙ ap (λ (z : Taken). kept (length z.waits)) z_is ∙ ap kept waits in
    record {
      form = ok_map (λ n. node_form n ≡ either (node_form nf) (node_form na) (node_form nb)) _ r (λ n p. p ∙ (λ i. either (first i) (fa i) (nb_is i))) h;
      grown = ok_any _ r (gf ∙ ap (λ (z : Taken). with_wait z (first_wait ck)) z_is ∙ same_taken _ _ _ _ _ _ refl refl (append_assoc x.waits (delays_in a ck ++ delays_in b ck) (first_wait ck ∷ [])));
    }

pub call_lifts : (x y z : Taken) (g : ℕ) (args : Arguments) (ck : ClockPairs) (forms : List NodeForm) (r : Result Node Memory)
    → forms ≡ forms_of (length x.waits) x.cells args → y ≡ after_arguments x args ck
    → IfOk r (λ n. node_form n ≡ at y.cells) → OnOk r (z ≡ with_call y (record { cell = y.cells; clock = ck; action = runs g forms })) → Lifts x (call g args) ck r z
call_lifts x y z g args ck forms (Err m) ff gy f gz = record { form = tt; grown = tt }
call_lifts x y z g args ck forms (Ok n) ff gy f gz =
    let k = length x.waits in
    let c = x.cells in
    let item : Item = record { cell = c + call_counts args; clock = ck; delays_before = k; cells_before = c; source = part g args } in
    let steps : (x.steps ++ map step_of (arguments_calls k c args ck)) ++ step_of item ∷ [] ≡ x.steps ++ map step_of (arguments_calls k c args ck ++ item ∷ []) =
    append_assoc x.steps (map step_of (arguments_calls k c args ck)) (step_of item ∷ []) ∙ ap (λ l. x.steps ++ l) (sym (map-append step_of (arguments_calls k c args ck) (item ∷ []))) in
    let called : with_call y (record { cell = y.cells; clock = ck; action = runs g forms }) ≡ with_call (after_arguments x args ck) (step_of item) = λ i. with_call (gy i) (record { cell = (gy i).cells; clock = ck; action = runs g (ff i) }) in
    record {
      form = f ∙ ap (λ (y : Taken). at y.cells) gy;
      grown = gz ∙ called ∙ same_taken _ _ _ _ _ _ (omega arith) steps refl;
    }

-- ---- arguments, one after the other

more_counts : (es : List Expression) (e : Expression) → (delay_counts (arguments_of (es ++ e ∷ [])) ≡ delay_counts (arguments_of es) + delay_count e) × (call_counts (arguments_of (es ++ e ∷ [])) ≡ call_counts (arguments_of es) + call_count e)
more_counts [] e = (omega arith, omega arith)
more_counts (d ∷ es) e = let h = more_counts es e in let p = h.0 in let q = h.1 in (omega (arith, p), omega (arith, q))

more_delays : (es : List Expression) (e : Expression) (ck : ClockPairs) → arguments_delays (arguments_of (es ++ e ∷ [])) ck ≡ arguments_delays (arguments_of es) ck ++ delays_in e ck
more_delays [] e ck = append-nil (delays_in e ck)
more_delays (d ∷ es) e ck = ap (λ l. delays_in d ck ++ l) (more_delays es e ck) ∙ sym (append_assoc (delays_in d ck) (arguments_delays (arguments_of es) ck) (delays_in e ck))

more_forms : (es : List Expression) (e : Expression) (k c : ℕ) → forms_of k c (arguments_of (es ++ e ∷ [])) ≡ forms_of k c (arguments_of es) ++ form_of (k + delay_counts (arguments_of es)) (c + call_counts (arguments_of es)) e ∷ []
more_forms [] e k c =
    let p : k ≡ k + 0 = omega arith in
    let q : c ≡ c + 0 = omega arith in
    λ i. form_of (p i) (q i) e ∷ []
more_forms (d ∷ es) e k c =
    let p : k + delay_count d + delay_counts (arguments_of es) ≡ k + (delay_count d + delay_counts (arguments_of es)) = omega arith in
    let q : c + call_count d + call_counts (arguments_of es) ≡ c + (call_count d + call_counts (arguments_of es)) = omega arith in
    ap (λ l. form_of k c d ∷ l) (more_forms es e (k + delay_count d) (c + call_count d))
    ∙ (λ i. form_of k c d ∷ (forms_of (k + delay_count d) (c + call_count d) (arguments_of es) ++ form_of (p i) (q i) e ∷ []))

more_calls : (es : List Expression) (e : Expression) (k c : ℕ) (ck : ClockPairs)
    → arguments_calls k c (arguments_of (es ++ e ∷ [])) ck ≡ arguments_calls k c (arguments_of es) ck ++ calls_in (k + delay_counts (arguments_of es)) (c + call_counts (arguments_of es)) e ck
more_calls [] e k c ck =
    let p : k ≡ k + 0 = omega arith in
    let q : c ≡ c + 0 = omega arith in
    append-nil (calls_in k c e ck) ∙ (λ i. calls_in (p i) (q i) e ck)
more_calls (d ∷ es) e k c ck =
    let p : k + delay_count d + delay_counts (arguments_of es) ≡ k + (delay_count d + delay_counts (arguments_of es)) = omega arith in
    let q : c + call_count d + call_counts (arguments_of es) ≡ c + (call_count d + call_counts (arguments_of es)) = omega arith in
    let rest = arguments_calls (k + delay_count d) (c + call_count d) (arguments_of es) ck in
    ap (λ l. calls_in k c d ck ++ l) (more_calls es e (k + delay_count d) (c + call_count d) ck)
    ∙ sym (append_assoc (calls_in k c d ck) rest (calls_in (k + delay_count d + delay_counts (arguments_of es)) (c + call_count d + call_counts (arguments_of es)) e ck))
    ∙ (λ i. (calls_in k c d ck ++ rest) ++ calls_in (p i) (q i) e ck)

after_more : (x : Taken) (es : List Expression) (e : Expression) (ck : ClockPairs) → taken_after (after_arguments x (arguments_of es) ck) e ck ≡ after_arguments x (arguments_of (es ++ e ∷ [])) ck
after_more x es e ck =
    let k = length x.waits in
    let c = x.cells in
    let args = arguments_of es in
    let n = more_counts es e in
    let cells = n.1 in
    let waits : length (x.waits ++ arguments_delays args ck) ≡ k + delay_counts args = length-append x.waits (arguments_delays args ck) ∙ ap (λ m. k + m) (arguments_delays_number args ck) in
    let steps : (x.steps ++ map step_of (arguments_calls k c args ck)) ++ map step_of (calls_in (length (x.waits ++ arguments_delays args ck)) (c + call_counts args) e ck) ≡ x.steps ++ map step_of (arguments_calls k c (arguments_of (es ++ e ∷ [])) ck) =
    append_assoc x.steps (map step_of (arguments_calls k c args ck)) _
    ∙ ap (λ m. x.steps ++ (map step_of (arguments_calls k c args ck) ++ map step_of (calls_in m (c + call_counts args) e ck))) waits
    ∙ ap (λ l. x.steps ++ l) (sym (map-append step_of (arguments_calls k c args ck) (calls_in (k + delay_counts args) (c + call_counts args) e ck)) ∙ ap (map step_of) (sym (more_calls es e k c ck))) in
    same_taken _ _ _ _ _ _ (omega (arith, cells)) steps (append_assoc x.waits (arguments_delays args ck) (delays_in e ck) ∙ ap (λ l. x.waits ++ l) (sym (more_delays es e ck)))

-- one more argument
pub argument_lifts : (x y z : Taken) (es : List Expression) (e : Expression) (ck : ClockPairs) (forms : List NodeForm) (f : NodeForm)
    → forms ≡ forms_of (length x.waits) x.cells (arguments_of es) → y ≡ after_arguments x (arguments_of es) ck → f ≡ form_of (length y.waits) y.cells e → z ≡ taken_after y e ck
    → (forms ++ f ∷ [] ≡ forms_of (length x.waits) x.cells (arguments_of (es ++ e ∷ []))) × (z ≡ after_arguments x (arguments_of (es ++ e ∷ [])) ck)
argument_lifts x y z es e ck forms f hf hy h hz =
    let k = length x.waits in
    let args = arguments_of es in
    let waits : length (x.waits ++ arguments_delays args ck) ≡ k + delay_counts args = length-append x.waits (arguments_delays args ck) ∙ ap (λ m. k + m) (arguments_delays_number args ck) in
    let there : f ≡ form_of (k + delay_counts args) (x.cells + call_counts args) e = h ∙ ap (λ (y : Taken). form_of (length y.waits) y.cells e) hy ∙ ap (λ m. form_of m (x.cells + call_counts args) e) waits in
    ((λ i. hf i ++ there i ∷ []) ∙ sym (more_forms es e k x.cells), hz ∙ ap (λ (y : Taken). taken_after y e ck) hy ∙ after_more x es e ck)

pub no_arguments_lift : (x : Taken) (ck : ClockPairs) → x ≡ after_arguments x no_arguments ck
no_arguments_lift x ck = same_taken _ _ _ _ _ _ (omega arith) (sym (append-nil x.steps)) (sym (append-nil x.waits))
