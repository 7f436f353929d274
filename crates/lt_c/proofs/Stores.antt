-- What a store has after an assignment.
use Rattle.std.proofs.Common.{◌≡◌, ℕ, Bool, true, false, refl, ap, arith, ℤ}
use Rattle.std.specs.Prelude.{◌&&◌, ◌||◌, nat_eq, if◌then◌else◌}
use Rattle.std.proofs.lemmas.Bool.Decides.{nat_tests}
use Rattle.lt_c.specs.Tree.{CVariable, tag, second_in, variable_number}
use Rattle.lt_c.specs.Meaning.{Store, c_truth_of, of_truth, stored, is_of_step}

-- a truth value comes back from its number
pub truth_back : (b : Bool) → c_truth_of (of_truth b) ≡ b
truth_back true = refl
truth_back false = refl

-- neither of two where not one of them
pub neither : (a b : Bool) → (a || b) ≡ false → (a ≡ false) × (b ≡ false)
neither true b h = absurd (cc)
neither false b h = (refl, h)

-- what an execution may not write is no slot, no output, and not whether one has a value
pub not_of_step : (p : CVariable) → is_of_step p ≡ false → (nat_eq (tag p) 0 ≡ false) × (nat_eq (tag p) 13 ≡ false) × (nat_eq (tag p) 14 ≡ false)
not_of_step p h =
    let one = neither (nat_eq (tag p) 0) (nat_eq (tag p) 13 || nat_eq (tag p) 14) h in
    let two = neither (nat_eq (tag p) 13) (nat_eq (tag p) 14) one.1 in
    (one.0, two.0, two.1)

-- a number is itself
pub same_self : (n : ℕ) → nat_eq n n ≡ true
same_self n = grind (arith, nat_tests)

-- a variable of another kind keeps its number
pub other_tag : (m : Store) (q p : CVariable) (z : ℤ) → nat_eq (tag p) (tag q) ≡ false → stored m q z p ≡ m p
other_tag m q p z e = ap (λ (b : Bool). if b && (nat_eq (second_in p) (second_in q) && nat_eq (variable_number p) (variable_number q)) then z else m p) e
