-- The first file of a name.
use Rattle.std.proofs.Common.{◌≡◌, ℕ, Bool, true, List, [], ◌∷◌, Option, Some, None, is_some, length, cond, nat_lt, find, slice_get, unwrap_or, refl, sym, ◌∙◌, ap, inl, inr}
use Rattle.std.proofs.lemmas.List.Folds.{find_at}
use Rattle.std.proofs.lemmas.Option.{slice_get_cases}
use Rattle.std.proofs.lemmas.Bool.{lt-ltb, le-ltb}
use Rattle.std.proofs.lemmas.Slice.Eq.{bytes_eq-Decides}
use Rattle.std.specs.List.{position_or_len}
use Rattle.std.specs.Str.{bytes_eq}
use Rattle.std.specs.Option.{option_map}
use Rattle.lt_io.specs.declared.mem_files.MemFile.{MemFile}
use Rattle.lt_io.specs.MemFiles.{lookup, bytes_at, place_of}

is_there : (files : List MemFile) (i : ℕ) → nat_lt i (length files) ≡ is_some (slice_get files i)
is_there files i = elim (slice_get_cases files i).1 [
  | inl there ↦ lt-ltb i (length files) there.1 ∙ sym (ap is_some there.2)
  | inr past ↦ le-ltb i (length files) past.0 ∙ sym (ap is_some past.1)
]

some_at : (files : List MemFile) (found : Option MemFile) (b : Bool) (i : ℕ) → found ≡ slice_get files i → b ≡ is_some found
    → option_map (λ f. f.bytes) found ≡ option_map (bytes_at files) (cond b (Some i) None)
some_at files None b i at is = ap (λ t. option_map (bytes_at files) (cond t (Some i) None)) (sym is)
some_at files (Some f) b i at is =
    ap (λ o. Some (unwrap_or (option_map (λ (f : MemFile). f.bytes) o) [])) at
    ∙ ap (λ t. option_map (bytes_at files) (cond t (Some i) None)) (sym is)

-- they are those of the file at the first place of that name
pub lookup_is : (files : List MemFile) (name : List ℕ) → lookup files name ≡ option_map (bytes_at files) (place_of files name)
lookup_is files name =
    let test = λ (f : MemFile). bytes_eq f.name name in
    let i = position_or_len test files in
    let at = find_at test files in
    some_at files (find test files) (nat_lt i (length files)) i at (is_there files i ∙ sym (ap is_some at))

-- the first file is found under its name
pub lookup_head : (file : MemFile) (files : List MemFile) → lookup (file ∷ files) file.name ≡ Some file.bytes
lookup_head file files =
    let same : bytes_eq file.name file.name ≡ true = (bytes_eq-Decides file.name file.name).1 refl in
    ap (λ b. option_map (λ (f : MemFile). f.bytes) (cond b (Some file) (find (λ (f : MemFile). bytes_eq f.name file.name) files))) same
