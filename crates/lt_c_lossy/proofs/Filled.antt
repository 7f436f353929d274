-- What the statements leave that fill inboxes and make messages.
use Rattle.std.proofs.Common.{◌≡◌, ℕ, zero, suc, ◌+◌, ◌<◌, Bool, true, false, List, [], ◌∷◌, length, refl, sym, ap, ◌∙◌, eqb-true, arith}
use Rattle.std.specs.Prelude.{◌&&◌, nat_eq, if◌then◌else◌}
use Rattle.std.proofs.lemmas.Bool.Decides.{nat_tests}
use Rattle.lt_base.specs.declared.value.Value.{Value}
use Rattle.lt_c.specs.Tree.{CVariable, payload, message, posted, tag}
use Rattle.lt_c.specs.Meaning.{Store, value, stored, store_left}
use Rattle.lt_c.specs.Literals.{c_number, of_value}
use Rattle.lt_c.proofs.Literal.{literal_number}
use Rattle.lt_c.proofs.Stores.{other_tag, same_self}
use Rattle.lt_c_control.specs.Inboxes.{payload_value, taking, filling}
use Rattle.lt_c_bodies.specs.Messages.{giving_again}

neither_one : (a b : Bool) → b ≡ false → (a && b) ≡ false
neither_one true b h = h
neither_one false b h = refl

earlier : (k n : ℕ) → k < suc n → nat_eq k n ≡ false → k < n
earlier k n l h = grind (arith, nat_tests, h, l)

less_differs : (x k : ℕ) → x < k → nat_eq x k ≡ false
less_differs x k l = grind (arith, nat_tests, l)

-- ---- a message that is taken

pub taking_leaves : (j n : ℕ) (m : Store) (p : CVariable) → nat_eq (tag p) 9 ≡ false → store_left (taking j n) m p ≡ m p
taking_leaves j zero m p h = refl
taking_leaves j (suc n) m p h =
    other_tag (store_left (taking j n) m) (payload j n) p (store_left (taking j n) m (message n)) h
    ∙ taking_leaves j n m p h

pub taken : (j n : ℕ) (m : Store) (k : ℕ) → k < n → store_left (taking j n) m (payload j k) ≡ m (message k)
taken j zero m k l = absurd (omega (arith, l))
taken j (suc n) m k l = go (nat_eq k n) refl (taken j n m k)
  where
    go : (b : Bool) → nat_eq k n ≡ b → (k < n → store_left (taking j n) m (payload j k) ≡ m (message k)) → (if b && nat_eq j j then store_left (taking j n) m (message n) else store_left (taking j n) m (payload j k)) ≡ m (message k)
    go true e r =
        ap (λ (b : Bool). if b then store_left (taking j n) m (message n) else store_left (taking j n) m (payload j k)) (same_self j)
        ∙ taking_leaves j n m (message n) refl ∙ ap (λ x. m (message x)) (sym (eqb-true k n e))
    go false e r = r (earlier k n l e)

-- ---- a message that is made

pub giving_leaves : (j n : ℕ) (m : Store) (p : CVariable) → nat_eq (tag p) 16 ≡ false → store_left (giving_again j n) m p ≡ m p
giving_leaves j zero m p h = refl
giving_leaves j (suc n) m p h =
    other_tag (store_left (giving_again j n) m) (message n) p (store_left (giving_again j n) m (posted j n)) h
    ∙ giving_leaves j n m p h

pub given_again : (j n : ℕ) (m : Store) (k : ℕ) → k < n → store_left (giving_again j n) m (message k) ≡ m (posted j k)
given_again j zero m k l = absurd (omega (arith, l))
given_again j (suc n) m k l = go (nat_eq k n) refl (given_again j n m k)
  where
    go : (b : Bool) → nat_eq k n ≡ b → (k < n → store_left (giving_again j n) m (message k) ≡ m (posted j k)) → (if b then store_left (giving_again j n) m (posted j n) else store_left (giving_again j n) m (message k)) ≡ m (posted j k)
    go true e r = giving_leaves j n m (posted j n) refl ∙ ap (λ x. m (posted j x)) (sym (eqb-true k n e))
    go false e r = r (earlier k n l e)

-- ---- literals that fill an inbox

pub filling_leaves : (j k : ℕ) (vs : List Value) (m : Store) (p : CVariable) → nat_eq (tag p) 9 ≡ false → store_left (filling j k vs) m p ≡ m p
filling_leaves j k [] m p h = refl
filling_leaves j k (v ∷ vs) m p h =
    filling_leaves j (suc k) vs (stored m (payload j k) (value m (of_value v))) p h ∙ other_tag m (payload j k) p (value m (of_value v)) h

pub filling_others : (j k : ℕ) (vs : List Value) (m : Store) (i x : ℕ) → nat_eq i j ≡ false → store_left (filling j k vs) m (payload i x) ≡ m (payload i x)
filling_others j k [] m i x h = refl
filling_others j k (v ∷ vs) m i x h =
    filling_others j (suc k) vs (stored m (payload j k) (value m (of_value v))) i x h
    ∙ ap (λ (b : Bool). if b then value m (of_value v) else m (payload i x)) (neither_one (nat_eq x k) (nat_eq i j) h)

filling_below : (j k : ℕ) (vs : List Value) (m : Store) (x : ℕ) → x < k → store_left (filling j k vs) m (payload j x) ≡ m (payload j x)
filling_below j k [] m x l = refl
filling_below j k (v ∷ vs) m x l =
    filling_below j (suc k) vs (stored m (payload j k) (value m (of_value v))) x (omega (arith, l))
    ∙ ap (λ (b : Bool). if b && nat_eq j j then value m (of_value v) else m (payload j x)) (less_differs x k l)

pub filled : (j k : ℕ) (vs : List Value) (m : Store) (i : ℕ) → i < length vs → store_left (filling j k vs) m (payload j (k + i)) ≡ c_number (payload_value vs i)
filled j k [] m i l = absurd (omega (arith, l))
filled j k (v ∷ vs) m zero l =
    ap (λ x. store_left (filling j (suc k) vs) (stored m (payload j k) (value m (of_value v))) (payload j x)) (plus_zero k)
    ∙ filling_below j (suc k) vs (stored m (payload j k) (value m (of_value v))) k (omega arith)
    ∙ (λ i. if same_self k i && same_self j i then value m (of_value v) else m (payload j k))
    ∙ literal_number m v
  where
    plus_zero : (k : ℕ) → k + 0 ≡ k
    plus_zero k = omega arith
filled j k (v ∷ vs) m (suc i) l =
    ap (λ x. store_left (filling j (suc k) vs) (stored m (payload j k) (value m (of_value v))) (payload j x)) (turn k i)
    ∙ filled j (suc k) vs (stored m (payload j k) (value m (of_value v))) i (omega (arith, l))
  where
    turn : (k i : ℕ) → k + suc i ≡ suc k + i
    turn k i = omega arith
