-- Words of an emitted file.
use Rattle.std.specs.Prelude.{ℕ, zero, suc, ◌++◌, Bool, List, [], ◌∷◌, codes, if◌then◌else◌}
use Rattle.lt_base.specs.declared.value.Ty.{Ty}
use Rattle.lt_base.specs.declared.value.Ty.TheVariants.{Int, Bool as Truth}
use Rattle.lt_base.specs.declared.function.Decl.{Decl}
use Rattle.lt_c.specs.Text.{Spelling}
use Rattle.lt_c.specs.Spelled.{node_at, spelled_in}
use Rattle.lt_c_heads.specs.declared.file.NodeFile.{NodeFile}

-- the texts of items that stand from place k on, one after another
abbrev pub texts_from : {A : Type 0} → (ℕ → A → List ℕ) → (k : ℕ) → List A → List ℕ
texts_from f k [] = []
texts_from f k (x ∷ xs) = f k x ++ texts_from f (suc k) xs

-- what is made of items that stand from place k on
abbrev pub made_from : {A B : Type 0} → (ℕ → A → B) → (k : ℕ) → List A → List B
made_from f k [] = []
made_from f k (x ∷ xs) = f k x ∷ made_from f (suc k) xs

-- a text where it is wanted
abbrev pub text_if : Bool → List ℕ → List ℕ
text_if b t = if b then t else []

-- a type, up to the name of what has it
abbrev pub type_word : Ty → List ℕ
type_word Int = codes "int64_t "
type_word Truth = codes "bool "

-- the type of a declared variable, and of another number nothing
abbrev pub type_word_at : List Decl → ℕ → List ℕ
type_word_at [] x = []
type_word_at (d ∷ ds) zero = type_word d.ty
type_word_at (d ∷ ds) (suc x) = type_word_at ds x

-- what begins all names of a node that other files see
abbrev pub title : NodeFile → List ℕ
title f = codes "ltta_" ++ node_at f.names f.node

-- how the variables of a file are written
abbrev pub spelling : NodeFile → Spelling
spelling f = spelled_in f.part.decls f.part.decls f.names

-- what stands before each line of a function's body
abbrev pub indent : List ℕ
indent = codes "    "
