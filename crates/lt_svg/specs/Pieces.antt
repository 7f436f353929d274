-- Pieces of SVG text.
use Rattle.std.specs.Prelude.{◌≡◌, ◌==◌, ℕ, ◌++◌, ◌&&◌, ◌||◌, Bool, true, not, List, [], ◌∷◌, codes, decimal, nat_eq, nat_lt, if◌then◌else◌}
use Rattle.std.specs.List.{flat_map, list_all, starts_with}

-- a template, in which each `%` stands for the next of some numbers; past the last of them it stays
unfoldable pub filled_template : (template numbers : List ℕ) → List ℕ
filled_template [] ns = []
filled_template (c ∷ cs) [] = c ∷ filled_template cs []
filled_template (c ∷ cs) (n ∷ ns) = if c == 37 then decimal n ++ filled_template cs ns else c ∷ filled_template cs (n ∷ ns)

-- a byte of a text that stands between tags: what XML reads as a sign of its own by its entity, and a control byte as `?`
abbrev pub safe_byte : ℕ → List ℕ
safe_byte c =
    if c == 38 then codes "&amp;" else if c == 60 then codes "&lt;" else if c == 62 then codes "&gt;" else if c == 34 then codes "&quot;" else
    if nat_lt c 32 then codes "?" else c ∷ []

-- a text that stands between tags
unfoldable pub escaped : List ℕ → List ℕ
escaped text = flat_map safe_byte text

-- a byte that is no control byte, and no `<`, `>` or `"`
abbrev pub is_harmless : ℕ → Bool
is_harmless c = not (nat_lt c 32) && not (c == 60) && not (c == 62) && not (c == 34)

-- an entity goes on so, behind its `&`
abbrev pub names_entity : List ℕ → Bool
names_entity cs = starts_with nat_eq cs (codes "amp;") || starts_with nat_eq cs (codes "lt;") || starts_with nat_eq cs (codes "gt;") || starts_with nat_eq cs (codes "quot;")

-- each `&` begins one of four entities
abbrev pub entities_alone : List ℕ → Bool
entities_alone [] = true
entities_alone (c ∷ cs) = (if c == 38 then names_entity cs else true) && entities_alone cs

-- of any text, what is written between tags has nothing but harmless bytes, and no `&` but those of entities
abbrev pub EscapedIsSafe : Type 0
EscapedIsSafe = (text : List ℕ) → (list_all is_harmless (escaped text) ≡ true) × (entities_alone (escaped text) ≡ true)
