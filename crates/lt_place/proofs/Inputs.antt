-- Inputs are on the base clock.
use Rattle.std.proofs.Common.{◌≡◌, ℕ, zero, suc, ◌<◌, List, [], ◌∷◌, take, refl, arith, All}
use Rattle.std.proofs.lemmas.List.Elements.{All-head, All-tail}
use Rattle.lt_base.specs.declared.function.Decl.{Decl}
use Rattle.lt_base.specs.Meaning.{clock_of}
use Rattle.lt_base.specs.Program.{Function, GoodFunction}

clock_front : (n : ℕ) (ds : List Decl) (x : ℕ) → x < n → All (λ d. d.clock ≡ []) (take n ds) → clock_of ds x ≡ []
clock_front n [] x l a = refl
clock_front zero (d ∷ ds) x l a = absurd (omega arith)
clock_front (suc n) (d ∷ ds) zero l a = All-head (λ (d : Decl). d.clock ≡ []) d (take n ds) a
clock_front (suc n) (d ∷ ds) (suc x) l a = clock_front n ds x (omega arith) (All-tail (λ (d : Decl). d.clock ≡ []) d (take n ds) a)

pub input_clock : (f : Function) → GoodFunction f → (x : ℕ) → x < f.n_in → clock_of f.decls x ≡ []
input_clock f good x l = clock_front f.n_in f.decls x l good.inputs_on_base
