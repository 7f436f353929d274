-- Names and their numbers.
use Rattle.std.specs.Prelude.{ℕ, Bool, ◌++◌, Option, Some, None, List, [], ◌∷◌, if◌then◌else◌}
use Rattle.std.specs.List.{position, list_any}
use Rattle.std.specs.Option.{option_or}
use Rattle.std.specs.Str.{bytes_eq}

-- a name by its bytes
abbrev pub Name : Type 0
Name = List ℕ

-- the number of a name: its place among the declared ones, from 0 on
abbrev pub number_of_name : List Name → Name → Option ℕ
number_of_name names x = position (bytes_eq x) names

-- whether the name is one of these
abbrev pub among : List Name → Name → Bool
among names x = list_any (bytes_eq x) names

-- the name, where it is none of these
abbrev pub if_missing : List Name → Name → Option Name
if_missing names x = if among names x then None else Some x

-- the name, where it is one of these
abbrev pub if_among : List Name → Name → Option Name
if_among names x = if among names x then Some x else None

-- the first name of a list that is one of those before it
abbrev pub repeated_name : List Name → List Name → Option Name
repeated_name before [] = None
repeated_name before (x ∷ xs) = if among before x then Some x else repeated_name (before ++ x ∷ []) xs

-- what is found first along a list
abbrev pub first_some : {A B : Type 0} → (A → Option B) → List A → Option B
first_some f [] = None
first_some f (x ∷ xs) = option_or (f x) (first_some f xs)
