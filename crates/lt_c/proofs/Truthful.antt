-- Variables of the type bool hold 0 or 1.
use Rattle.std.proofs.Common.{◌≡◌, ℕ, Bool, true, false, refl, sym, ap, ◌∙◌, eqb-true, ℤ}
use Rattle.std.specs.Prelude.{◌&&◌, nat_eq, if◌then◌else◌}
use Rattle.lt_base.specs.declared.value.Ty.TheVariants.{Bool as Truth}
use Rattle.lt_base.proofs.Solution.{and_left, and_right}
use Rattle.lt_c.specs.Tree.{CVariable, slot, did, more, phase, left, sent, executed, bit, read, payload, ack, seen, input, output, has, message_bit, message, answer_bit, executions, sendings, newest, answered, message_number, answer_number, posted, tag, variable_number, second_in, same, Operator, o_eq, o_ne, o_lt, o_le, o_gt, o_ge, o_and, o_or, Tree, c_integer, c_truth, c_var, c_negate, c_call, c_not, c_join, c_choice, assign, only, branch, both, nothing, perform, noted}
use Rattle.lt_c.specs.Meaning.{Store, c_truth_of, of_truth, operator_value, value, holds, stored, store_left}
use Rattle.lt_c.specs.Truths.{Types, c_type_of, IsTruthNumber, HoldsTruths, IsTruthTree, TruthsStay}

-- ---- a variable is its kind and its numbers

abbrev place_by : ℕ → ℕ → ℕ → CVariable
place_by t n k =
    if nat_eq t 0 then slot n
    else (if nat_eq t 1 then did
    else (if nat_eq t 2 then more
    else (if nat_eq t 3 then phase
    else (if nat_eq t 4 then left
    else (if nat_eq t 5 then sent
    else (if nat_eq t 6 then executed
    else (if nat_eq t 7 then bit n
    else (if nat_eq t 8 then read n
    else (if nat_eq t 9 then payload n k
    else (if nat_eq t 10 then ack n
    else (if nat_eq t 11 then seen n
    else (if nat_eq t 12 then input n
    else (if nat_eq t 13 then output n
    else (if nat_eq t 14 then has n
    else (if nat_eq t 15 then message_bit
    else (if nat_eq t 16 then message n
    else (if nat_eq t 17 then answer_bit
    else (if nat_eq t 18 then executions
    else (if nat_eq t 19 then sendings
    else (if nat_eq t 20 then newest n
    else (if nat_eq t 21 then answered n
    else (if nat_eq t 22 then message_number
    else (if nat_eq t 23 then answer_number
    else posted n k)))))))))))))))))))))))

by_numbers : (p : CVariable) → place_by (tag p) (variable_number p) (second_in p) ≡ p
by_numbers (slot x) = refl
by_numbers did = refl
by_numbers more = refl
by_numbers phase = refl
by_numbers left = refl
by_numbers sent = refl
by_numbers executed = refl
by_numbers (bit j) = refl
by_numbers (read j) = refl
by_numbers (payload j k) = refl
by_numbers (ack j) = refl
by_numbers (seen j) = refl
by_numbers (input i) = refl
by_numbers (output y) = refl
by_numbers (has y) = refl
by_numbers message_bit = refl
by_numbers (message k) = refl
by_numbers answer_bit = refl
by_numbers executions = refl
by_numbers sendings = refl
by_numbers (newest j) = refl
by_numbers (answered j) = refl
by_numbers message_number = refl
by_numbers answer_number = refl
by_numbers (posted j k) = refl

pub same_is : (p q : CVariable) → same p q ≡ true → p ≡ q
same_is p q h =
    let t : tag p ≡ tag q = eqb-true (tag p) (tag q) (and_left (nat_eq (tag p) (tag q)) (nat_eq (second_in p) (second_in q) && nat_eq (variable_number p) (variable_number q)) h) in
    let r = and_right (nat_eq (tag p) (tag q)) (nat_eq (second_in p) (second_in q) && nat_eq (variable_number p) (variable_number q)) h in
    let k : second_in p ≡ second_in q = eqb-true (second_in p) (second_in q) (and_left (nat_eq (second_in p) (second_in q)) (nat_eq (variable_number p) (variable_number q)) r) in
    let n : variable_number p ≡ variable_number q = eqb-true (variable_number p) (variable_number q) (and_right (nat_eq (second_in p) (second_in q)) (nat_eq (variable_number p) (variable_number q)) r) in
    sym (by_numbers p) ∙ (λ i. place_by (t i) (n i) (k i)) ∙ by_numbers q

-- ---- values

truth_number : (b : Bool) → IsTruthNumber (of_truth b)
truth_number true = refl
truth_number false = refl

operator_truth : (o : Operator) (a b : ℤ) → IsTruthNumber (operator_value o a b)
operator_truth o_eq a b = truth_number _
operator_truth o_ne a b = truth_number _
operator_truth o_lt a b = truth_number _
operator_truth o_le a b = truth_number _
operator_truth o_gt a b = truth_number _
operator_truth o_ge a b = truth_number _
operator_truth o_and a b = truth_number _
operator_truth o_or a b = truth_number _

one_truth : (t : Bool) (a b : ℤ) → IsTruthNumber a → IsTruthNumber b → IsTruthNumber (if t then a else b)
one_truth true a b p q = p
one_truth false a b p q = q

value_truth : (ts : Types) (m : Store) → HoldsTruths ts m → (e : Tree) → IsTruthTree ts e → IsTruthNumber (value m e)
value_truth ts m h (c_integer z) t = elim t [ ]
value_truth ts m h (c_truth b) t = truth_number b
value_truth ts m h (c_var p) t = h p t
value_truth ts m h (c_negate a) t = elim t [ ]
value_truth ts m h (c_call f a b) t = elim t [ ]
value_truth ts m h (c_not a) t = truth_number _
value_truth ts m h (c_join o a b) t = operator_truth o (value m a) (value m b)
value_truth ts m h (c_choice c a b) t = one_truth (c_truth_of (value m c)) (value m a) (value m b) (value_truth ts m h a t.0) (value_truth ts m h b t.1)

-- ---- statements

stored_truth : (ts : Types) (m : Store) → HoldsTruths ts m → (p : CVariable) (z : ℤ) → (c_type_of ts p ≡ Truth → IsTruthNumber z) → HoldsTruths ts (stored m p z)
stored_truth ts m h p z f q t = go (same q p) refl
  where
    go : (b : Bool) → same q p ≡ b → IsTruthNumber (if b then z else m q)
    go true e = f (ap (c_type_of ts) (sym (same_is q p e)) ∙ t)
    go false e = h q t

one_store : (ts : Types) (b : Bool) (m n : Store) → HoldsTruths ts m → HoldsTruths ts n → HoldsTruths ts (if b then m else n)
one_store ts true m n f g = f
one_store ts false m n f g = g

pub truths_stay : TruthsStay
truths_stay ts (assign p e) a m h = stored_truth ts m h p (value m e) (λ t. value_truth ts m h e (a t))
truths_stay ts (only ck s) a m h = one_store ts (holds m ck) (store_left s m) m (truths_stay ts s a m h) h
truths_stay ts (branch e s t) a m h = one_store ts (c_truth_of (value m e)) (store_left s m) (store_left t m) (truths_stay ts s a.0 m h) (truths_stay ts t a.1 m h)
truths_stay ts (both s t) a m h = truths_stay ts t a.1 (store_left s m) (truths_stay ts s a.0 m h)
truths_stay ts nothing a m h = h
truths_stay ts (perform s) a m h = truths_stay ts s a m h
truths_stay ts (noted c s) a m h = truths_stay ts s a m h
