-- What a look-up of a declaration finds.
use Rattle.std.proofs.Common.{◌≡◌, ℕ, zero, suc, List, [], ◌∷◌, length, Option, Some, None, refl, sym, ap, ◌∙◌, Bor}
use Rattle.std.specs.Option.{option_map, option_copied}
use Rattle.std.specs.List.{slice_get}
use Rattle.std.specs.Slice.{IsItemAt}
use Rattle.std.proofs.lemmas.Option.{slice_get_past, slice_get_read}
use Rattle.lt_base.specs.declared.value.Ty.{Ty}
use Rattle.lt_base.specs.declared.value.Ty.TheVariants.{Int as IntTy}
use Rattle.lt_base.specs.declared.function.Decl.{Decl}
use Rattle.lt_norm.specs.Plain.{declared_type}

-- a type, or that of a number
abbrev pub type_or : Option Ty → Ty
type_or None = IntTy
type_or (Some t) = t

item_is : (xs : List Decl) (i : ℕ) (r : Option (Bor Decl)) → IsItemAt xs i r → option_copied r ≡ slice_get xs i
item_is xs i None h = sym (slice_get_past xs i h.3)
item_is xs i (Some b) h = sym (slice_get_read xs (length xs) i b.now refl h.3.0 (h.1))

declared_at : (ds : List Decl) (x : ℕ) → declared_type ds x ≡ type_or (option_map (λ d. d.ty) (slice_get ds x))
declared_at [] x = refl
declared_at (d ∷ ds) zero = refl
declared_at (d ∷ ds) (suc x) = declared_at ds x

-- the type of a declaration that was looked up
pub type_found : (ds items : List Decl) (x : ℕ) (r : Option (Bor Decl)) → items ≡ ds → IsItemAt items x r → type_or (option_map (λ (d : Bor Decl). d.now.ty) r) ≡ declared_type ds x
type_found ds items x None e h = ap (λ o. type_or (option_map (λ (d : Decl). d.ty) o)) (item_is items x None h) ∙ sym (declared_at items x) ∙ ap (λ l. declared_type l x) e
type_found ds items x (Some d) e h = ap (λ o. type_or (option_map (λ (d : Decl). d.ty) o)) (item_is items x (Some d) h) ∙ sym (declared_at items x) ∙ ap (λ l. declared_type l x) e
