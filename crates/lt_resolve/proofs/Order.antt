-- The kinds of faults, one after another.
use Rattle.std.proofs.Common.{◌≡◌, ℕ, suc, ◌≤◌, Bool, true, false, List, Option, None, Some, Result, Ok, Err, refl, sym, ap, ◌∙◌, subst, arith, leb-true, leb-false}
use Rattle.std.specs.Prelude.{nat_eq, nat_le, if◌then◌else◌}
use Rattle.lt_base.specs.declared.memory.Or.{Or}
use Rattle.lt_base.specs.declared.memory.Or.TheVariants.{Fault, Memory}
use Rattle.lt_syntax.specs.declared.tree.NodeText.{NodeText}
use Rattle.lt_resolve.specs.declared.fault.NameKind.{NameKind}
use Rattle.lt_resolve.specs.declared.fault.NameKind.TheVariants.{Twice, Unknown, NoEquation, TwoEquations, EquationForInput, NoMain, WrongCount, NotOneOutput, Recursive, Limit}
use Rattle.lt_resolve.specs.declared.fault.NameFault.{NameFault}
use Rattle.lt_resolve.specs.Faults.{Occurrence, First, kind_number, IsFirstNameFault, NoNameFault}
use Rattle.lt_resolve.specs.Told.{ShowsFault, Cleared, IsFirstBehind, ChecksPass}

kind_at : ℕ → NameKind
kind_at n =
    if nat_eq n 1 then Twice
    else (if nat_eq n 2 then Unknown
    else (if nat_eq n 3 then NoEquation
    else (if nat_eq n 4 then TwoEquations
    else (if nat_eq n 5 then EquationForInput
    else (if nat_eq n 6 then NoMain
    else (if nat_eq n 7 then WrongCount
    else (if nat_eq n 8 then NotOneOutput
    else (if nat_eq n 9 then Recursive else Limit))))))))

kind_at_number : (k : NameKind) → kind_at (kind_number k) ≡ k
unfolding kind_at
kind_at_number Twice = refl
kind_at_number Unknown = refl
kind_at_number NoEquation = refl
kind_at_number TwoEquations = refl
kind_at_number EquationForInput = refl
kind_at_number NoMain = refl
kind_at_number WrongCount = refl
kind_at_number NotOneOutput = refl
kind_at_number Recursive = refl
kind_at_number Limit = refl

pub same_kind : (j k : NameKind) → kind_number j ≡ kind_number k → j ≡ k
same_kind j k e = sym (kind_at_number j) ∙ ap kind_at e ∙ kind_at_number k

positive : (k : NameKind) → 1 ≤ kind_number k
positive Twice = omega arith
positive Unknown = omega arith
positive NoEquation = omega arith
positive TwoEquations = omega arith
positive EquationForInput = omega arith
positive NoMain = omega arith
positive WrongCount = omega arith
positive NotOneOutput = omega arith
positive Recursive = omega arith
positive Limit = omega arith

at_most_ten : (k : NameKind) → kind_number k ≤ 10
at_most_ten Twice = omega arith
at_most_ten Unknown = omega arith
at_most_ten NoEquation = omega arith
at_most_ten TwoEquations = omega arith
at_most_ten EquationForInput = omega arith
at_most_ten NoMain = omega arith
at_most_ten WrongCount = omega arith
at_most_ten NotOneOutput = omega arith
at_most_ten Recursive = omega arith
at_most_ten Limit = omega arith

pub none_cleared : (t : List NodeText) (m : ℕ) → Cleared t m m
none_cleared t m k a l = absurd (omega (arith, a, l))

-- the kinds behind a number are cleared after those up to it
pub cleared_on : (t : List NodeText) (l m n : ℕ) → Cleared t l m → Cleared t m n → Cleared t l n
cleared_on t l m n low high k a b =
    let go : (b : Bool) → nat_le (kind_number k) m ≡ b → First t k None =
    elim [ true ↦ λ p. low k a (leb-true (kind_number k) m p) | false ↦ λ p. high k (leb-false (kind_number k) m p) b ] in
    go (nat_le (kind_number k) m) refl

pub all_cleared : (t : List NodeText) → Cleared t 0 10 → NoNameFault t
all_cleared t c k = c k (positive k) (at_most_ten k)

-- where the kinds up to a number are cleared, the first one behind it is the first of all
pub first_of_all : (t : List NodeText) (m : ℕ) (f : NameFault) → Cleared t 0 m → IsFirstBehind t m f → IsFirstNameFault t f
first_of_all t m f low first = record {
  here = first.here;
  before = λ k l.
      let go : (b : Bool) → nat_le (kind_number k) m ≡ b → First t k None =
      elim [ true ↦ λ p. low k (positive k) (leb-true (kind_number k) m p) | false ↦ λ p. first.before k (leb-false (kind_number k) m p) l ] in
      go (nat_le (kind_number k) m) refl;
}

module _ (t : List NodeText) (m n : ℕ) (low : m ≤ n) (kind : NameKind) (next : kind_number kind ≡ suc n) (cleared : Cleared t m n) where
  -- one kind more
  pub also : First t kind None → Cleared t m (suc n)
  also h k a l =
      let go : (b : Bool) → nat_le (kind_number k) n ≡ b → First t k None =
      elim [ true ↦ λ p. cleared k a (leb-true (kind_number k) n p) | false ↦ λ p. subst (λ j. First t j None) (same_kind kind k (omega (arith, next, l, leb-false (kind_number k) n p))) h ] in
      go (nat_le (kind_number k) n) refl

  pub is_first : (f : NameFault) → f.kind ≡ kind → First t kind (Some (f.func, f.name)) → IsFirstBehind t m f
  is_first f e h =
      let same : kind_number f.kind ≡ kind_number kind = ap kind_number e in
      record {
        here = subst (λ k. First t k (Some (f.func, f.name))) (sym e) h;
        behind = omega (arith, low, next, same);
        before = λ k a l. cleared k a (omega (arith, next, l, same));
      }

  pub passes : {T : Type 0} (r : Result T (Or NameFault)) → ShowsFault kind (First t kind) r → ChecksPass t m (suc n) r
  passes (Ok x) h = also h
  passes (Err (Fault f)) h = is_first f h.0 h.1
  passes (Err Memory) h = tt

pub shows_as : {T : Type 0} (kind : NameKind) (P Q : Option Occurrence → Type 0) → ((o : Option Occurrence) → P o → Q o) → (r : Result T (Or NameFault)) → ShowsFault kind P r → ShowsFault kind Q r
shows_as kind P Q h (Ok x) s = h None s
shows_as kind P Q h (Err (Fault f)) s = (s.0, h (Some (f.func, f.name)) s.1)
shows_as kind P Q h (Err Memory) s = tt
