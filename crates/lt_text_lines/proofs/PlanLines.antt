-- Lines and blocks, appended one by one.
use Rattle.std.proofs.Common.{◌≡◌, ◌<◌, ◌+◌, ℕ, List, [], ◌∷◌, ◌++◌, length, get_or, Result, Ok, Err, refl, sym, ap, ◌∙◌, arith, append_assoc, add-one}
use Rattle.std.proofs.lemmas.List.{get_or_default}
use Rattle.std.specs.Prelude.{OnOk}
use Rattle.lt_base.specs.declared.memory.Memory.{Memory}
use Rattle.lt_text_lines.specs.PlanText.{titled, title_at}

pub on_ok : {P Q : Type 0} (r : Result (Unit {0}) Memory) → (P → Q) → OnOk r P → OnOk r Q
on_ok (Ok x) f h = f h
on_ok (Err e) f h = tt

pub two_lines : (start one both x y : List ℕ) → one ≡ start ++ x → both ≡ one ++ y → both ≡ start ++ (x ++ y)
two_lines start one both x y e f = f ∙ ap (λ l. l ++ y) e ∙ append_assoc start x y

pub one_block : (block : List ℕ → ℕ → List ℕ) (titles : List (List ℕ)) (start text after : List ℕ) (n : ℕ) (d : List ℕ) → n < length titles
    → text ≡ start ++ titled block titles n → after ≡ text ++ block (get_or titles n d) n → after ≡ start ++ titled block titles (n + 1)
one_block block titles start text after n d below so_far e =
    rw add-one (e ∙ ap (λ title. text ++ block title n) (get_or_default titles n d [] below) ∙ ap (λ l. l ++ block (title_at titles n) n) so_far
    ∙ append_assoc start (titled block titles n) (block (title_at titles n) n))
