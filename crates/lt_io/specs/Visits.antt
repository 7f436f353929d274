-- Which files were opened, and how much of each was read.
use Rattle.std.specs.Prelude.{◌≡◌, ◌≤◌, ◌+◌, ◌⊎◌, ℕ, Bool, false, List, [], ◌∷◌, refl}
use Rattle.std.specs.Coded.{Coded, code_by, coded×, coded_ℕ, coded_list}

-- a file that was opened, or was to be opened: its name, and how many of its bytes were read since
pub record Visit : Type 0 where
  pub name : List ℕ
  pub taken : ℕ

-- the visits of files, of which the last stands first

-- the file of this name was opened, or was to be
abbrev pub opened : List ℕ → List Visit → List Visit
opened name visits = record { name = name; taken = 0 } ∷ visits

-- so many more bytes of the last file were read
abbrev pub took : ℕ → List Visit → List Visit
took n [] = []
took n (v ∷ vs) = record { name = v.name; taken = v.taken + n } ∷ vs

-- how many bytes of the last file were read
abbrev pub taken_of : List Visit → ℕ
taken_of [] = 0
taken_of (v ∷ vs) = v.taken

-- the visits, as they stood when the last file was opened
abbrev pub unread : List Visit → List Visit
unread [] = []
unread (v ∷ vs) = record { name = v.name; taken = 0 } ∷ vs

-- a file to visit, and at most how many bytes to read of it
pub record Errand : Type 0 where
  pub name : List ℕ
  pub most : ℕ

-- the files of these errands were visited in this order, each once and within its errand, and no others; where it was not done, the
-- visits may have stopped behind any of them
unfoldable pub Visited : List Errand → (old new : List Visit) → (done : Bool) → Type 0
Visited [] old new done = new ≡ old
Visited (e ∷ es) old new done =
    ((done ≡ false) × (new ≡ old)) ⊎ ((n : ℕ) × (n ≤ e.most) × Visited es (record { name = e.name; taken = n } ∷ old) new done)

-- how the logic stores visits

abbrev pair_of : Visit → List ℕ × ℕ
pair_of v = (v.name, v.taken)

abbrev of_pair : List ℕ × ℕ → Visit
of_pair p = record { name = p.0; taken = p.1 }

abbrev pub visits_code : Coded (List Visit)
visits_code = coded_list (code_by (List ℕ × ℕ) (coded× (coded_list coded_ℕ) coded_ℕ) pair_of of_pair (λ v. refl))
