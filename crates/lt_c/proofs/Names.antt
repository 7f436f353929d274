-- Names by numbers.
use Rattle.std.proofs.Common.{◌≡◌, ℕ, zero, suc, ◌<◌, ◌≤◌, List, [], ◌∷◌, length, get_or, refl, sym, ap, ◌∙◌, arith}
use Rattle.lt_base.specs.declared.function.Decl.{Decl}
use Rattle.lt_c.specs.Text.{name_at}
use Rattle.lt_c.specs.Spelled.{node_at}

pub name_there : (ds : List Decl) (x : ℕ) (d : Decl) → x < length ds → name_at ds x ≡ (get_or ds x d).name
name_there [] x d l = absurd (omega (arith, l))
name_there (e ∷ ds) zero d l = refl
name_there (e ∷ ds) (suc x) d l = name_there ds x d (omega (arith, l))

pub name_past : (ds : List Decl) (x : ℕ) → length ds ≤ x → name_at ds x ≡ []
name_past [] x l = refl
name_past (e ∷ ds) zero l = absurd (omega (arith, l))
name_past (e ∷ ds) (suc x) l = name_past ds x (omega (arith, l))

pub name_is : (ds : List Decl) (x : ℕ) (d : Decl) → x < length ds → d ≡ get_or ds x d → d.name ≡ name_at ds x
name_is ds x d l h = ap (λ (e : Decl). e.name) h ∙ sym (name_there ds x d l)

pub node_there : (ns : List (List ℕ)) (j : ℕ) (d : List ℕ) → j < length ns → node_at ns j ≡ get_or ns j d
node_there [] j d l = absurd (omega (arith, l))
node_there (n ∷ ns) zero d l = refl
node_there (n ∷ ns) (suc j) d l = node_there ns j d (omega (arith, l))

pub node_past : (ns : List (List ℕ)) (j : ℕ) → length ns ≤ j → node_at ns j ≡ []
node_past [] j l = refl
node_past (n ∷ ns) zero l = absurd (omega (arith, l))
node_past (n ∷ ns) (suc j) l = node_past ns j (omega (arith, l))
