-- Signals that agree so far satisfy the same formulas.
use Rattle.std.proofs.Common.{◌≡◌, ℕ, ◌<◌, inl, inr, sym, subst, arith}
use Rattle.std.specs.Prelude.{◌↔◌, IsTrue}
use Rattle.lt_past.specs.declared.words.Prefix.{Prefix}
use Rattle.lt_past.specs.declared.words.Prefix.TheVariants.{Not, Previous, Once, Historically}
use Rattle.lt_past.specs.declared.words.Infix.{Infix}
use Rattle.lt_past.specs.declared.words.Infix.TheVariants.{And, Or, Since, Implies}
use Rattle.lt_past.specs.Formula.{Formula, constant, signal, unary, binary, SignalsBelow}
use Rattle.lt_past.specs.Satisfaction.{Signals, Property, Past, Both, Sat}

-- each signal of the formula is one of K
abbrev pub Uses : (ℕ → Type 0) → Formula → Type 0
Uses K (constant b) = Unit {0}
Uses K (signal k) = K k
Uses K (unary p f) = Uses K f
Uses K (binary o f g) = Uses K f × Uses K g

pub uses_any : (f : Formula) → Uses (λ k. Unit {0}) f
uses_any (constant b) = tt
uses_any (signal k) = tt
uses_any (unary p f) = uses_any f
uses_any (binary o f g) = (uses_any f, uses_any g)

pub uses_below : (w : ℕ) (f : Formula) → SignalsBelow w f → Uses (λ k. k < w) f
uses_below w (constant b) h = tt
uses_below w (signal k) h = h
uses_below w (unary p f) h = uses_below w f h
uses_below w (binary o f g) h = (uses_below w f h.0, uses_below w g h.1)

-- properties that are alike up to the instant n
abbrev pub Alike : ℕ → Property → Property → Type 0
Alike n F G = (i : ℕ) → i < n → F i ↔ G i

alike_back : (n : ℕ) (F G : Property) → Alike n F G → Alike n G F
alike_back n F G h i lt = let e = h i lt in (e.1, e.0)

past_to : (n : ℕ) (F G : Property) → Alike n F G → (p : Prefix) (i : ℕ) → i < n → Past p F i → Past p G i
past_to n F G h Not i lt x = λ y. x ((h i lt).1 y)
past_to n F G h Previous i lt x = (x.0, x.1, (h x.0 (omega (arith, x.1))).0 x.2)
past_to n F G h Once i lt x = (x.0, x.1, (h x.0 (omega (arith, x.1))).0 x.2)
past_to n F G h Historically i lt x = λ j le. (h j (omega arith)).0 (x j le)

both_to : (n : ℕ) (F G F' G' : Property) → Alike n F F' → Alike n G G' → (o : Infix) (i : ℕ) → i < n → Both o F G i → Both o F' G' i
both_to n F G F' G' h k And i lt x = ((h i lt).0 x.0, (k i lt).0 x.1)
both_to n F G F' G' h k Or i lt x = elim x [ inl y ↦ inl ((h i lt).0 y) | inr z ↦ inr ((k i lt).0 z) ]
both_to n F G F' G' h k Implies i lt x = λ y. (k i lt).0 (x ((h i lt).1 y))
both_to n F G F' G' h k Since i lt x = (x.0, x.1, (k x.0 (omega (arith, x.1))).0 x.2, λ m low le. (h m (omega arith)).0 (x.3 m low le))

pub sat_alike : (K : ℕ → Type 0) (n : ℕ) (S T : Signals) → ((k i : ℕ) → K k → i < n → S k i ≡ T k i) → (f : Formula) → Uses K f → Alike n (Sat S f) (Sat T f)
sat_alike K n S T same (constant b) u i lt = (λ x. x, λ x. x)
sat_alike K n S T same (signal k) u i lt = (λ x. subst IsTrue (same k i u lt) x, λ x. subst IsTrue (sym (same k i u lt)) x)
sat_alike K n S T same (unary p f) u i lt =
    let h : Alike n (Sat S f) (Sat T f) = sat_alike K n S T same f u in
    (past_to n (Sat S f) (Sat T f) h p i lt, past_to n (Sat T f) (Sat S f) (alike_back n (Sat S f) (Sat T f) h) p i lt)
sat_alike K n S T same (binary o f g) u i lt =
    let h : Alike n (Sat S f) (Sat T f) = sat_alike K n S T same f u.0 in
    let k : Alike n (Sat S g) (Sat T g) = sat_alike K n S T same g u.1 in
    (both_to n (Sat S f) (Sat S g) (Sat T f) (Sat T g) h k o i lt, both_to n (Sat T f) (Sat T g) (Sat S f) (Sat S g) (alike_back n (Sat S f) (Sat T f) h) (alike_back n (Sat S g) (Sat T g) k) o i lt)
