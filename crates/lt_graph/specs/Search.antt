-- What the search for components keeps.
use Rattle.std.specs.Prelude.{◌≡◌, ℕ, ◌<◌, ◌≤◌, ◌-◌, ◌++◌, ◌∷◌, [], List, length, take, nat_le, slice_index, slice_index_or, if◌then◌else◌}
use Rattle.std.specs.List.{Contains}
use Rattle.lt_graph.specs.Tables.{next, Leads}
use Rattle.lt_graph.specs.Reach.{IsOrReaches}
use Rattle.lt_graph.specs.declared.search.Mark.{Mark}
use Rattle.lt_graph.specs.declared.search.Mark.TheVariants.{New, Open, Done}
use Rattle.lt_graph.specs.declared.search.Search.{Search}

-- the mark of a number
abbrev pub mark : List Mark → ℕ → Mark
mark marks x = slice_index_or marks x New

-- a number was met
abbrev pub IsMet : Mark → Type 0
IsMet k = k ≡ New → ⊥

abbrev pub IsDone : Mark → Type 0
IsDone New = ⊥
IsDone (Open i) = ⊥
IsDone (Done c) = Unit {0}

-- no part of the stack begins behind place i, up to place j
abbrev pub NoStart : (ℕ → Type 0) → ℕ → ℕ → Type 0
NoStart Start i j = (p : ℕ) → Start p → i < p → p ≤ j → ⊥

-- a mark once the part of the stack from place q on is closed under a name
abbrev pub closed_mark : ℕ → ℕ → Mark → Mark
closed_mark q c New = New
closed_mark q c (Open j) = if nat_le q j then Done c else Open j
closed_mark q c (Done d) = Done d

-- the first ones of a list are kept: all that are at most the bound stand there, and the last of them is
pub record KeepsUpTo (bound : ℕ) (old new : List ℕ) : Type 0 where
  pub front : new ≡ take (length new) old
  pub past : (k : ℕ) → length new ≤ k → k < length old → bound < slice_index old k
  pub most : 0 < length new → slice_index new (length new - 1) ≤ bound

-- what the number at place i leads to, once that was looked at: it is done, or in the same part of the stack or a later one
abbrev pub Settled : (ℕ → Type 0) → ℕ → Mark → Type 0
Settled Start i New = ⊥
Settled Start i (Open j) = NoStart Start j i
Settled Start i (Done c) = Unit {0}

-- The stack has its numbers in parts: each number reaches the later ones, and those of its own part. A number is done once
-- its part is closed; it then has the name of its component, and leads to numbers that are done.
pub record Searching (g : List (List ℕ)) (m : ℕ → Mark) (rest stack : ℕ → ℕ) (height : ℕ) (Start OnPath : ℕ → Type 0) : Type 0 where
  pub small : (x : ℕ) → x < length g → rest x ≤ length (next g x)
  pub fresh : (x : ℕ) → x < length g → m x ≡ New → rest x ≡ length (next g x)
  pub stacked : (i : ℕ) → i < height → m (stack i) ≡ Open i
  pub placed : (x i : ℕ) → m x ≡ Open i → (i < height) × (stack i ≡ x)
  pub ahead : (i j : ℕ) → i ≤ j → j < height → IsOrReaches (Leads g) (stack i) (stack j)
  pub back : (i j : ℕ) → i ≤ j → j < height → NoStart Start i j → IsOrReaches (Leads g) (stack j) (stack i)
  pub looked : (i k : ℕ) → i < height → rest (stack i) ≤ k → k < length (next g (stack i)) → Settled Start i (m (slice_index (next g (stack i)) k))
  pub closed : (x c : ℕ) → m x ≡ Done c → (y : ℕ) → Leads g x y → IsDone (m y)
  pub named : (x c : ℕ) → m x ≡ Done c → IsOrReaches (Leads g) x c × IsOrReaches (Leads g) c x
  pub together : (x y a b : ℕ) → m x ≡ Done a → m y ≡ Done b → IsOrReaches (Leads g) x y → IsOrReaches (Leads g) y x → a ≡ b
  pub waits : (i : ℕ) → i < height → 0 < rest (stack i) → OnPath i
  pub started : (p : ℕ) → Start p → OnPath p
  pub first : 0 < height → Start 0
  pub inside : (i : ℕ) → OnPath i → i < height

-- the last of a list
abbrev pub EndsWith : List ℕ → ℕ → Type 0
EndsWith xs x = (front : List ℕ) × (xs ≡ front ++ x ∷ [])

-- each number is below the later ones
abbrev pub Rising : List ℕ → Type 0
Rising xs = (i j : ℕ) → i < j → j < length xs → slice_index xs i < slice_index xs j

-- the search stands as it must between two steps
pub record Keeping (g : List (List ℕ)) (marks : List Mark) (rest stack starts path : List ℕ) : Type 0 where
  pub marks_size : length marks ≡ length g
  pub rest_size : length rest ≡ length g
  pub searching : Searching g (mark marks) (slice_index rest) (slice_index stack) (length stack) (Contains starts) (Contains path)
  pub rising_path : Rising path
  pub rising_starts : Rising starts

abbrev pub SearchStands : List (List ℕ) → Search → Type 0
SearchStands g s = Keeping g s.marks.items s.rest.items s.stack.items s.starts.items s.path.items

-- the marks are done, and these are the names that they have
pub record AreNames (marks : List Mark) (names : List ℕ) : Type 0 where
  pub size : length names ≡ length marks
  pub done : (x : ℕ) → x < length names → mark marks x ≡ Done (slice_index names x)
