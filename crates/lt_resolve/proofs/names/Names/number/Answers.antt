use Rattle.std.proofs.Common.{◌≡◌, ℕ, List, map, ◌∙◌, ap, sym, position, Bor, Option}
use Rattle.std.specs.Str.{bytes_eq}
use Rattle.lt_resolve.specs.Names.{Name, number_of_name}
use Rattle.lt_resolve.proofs.Maps.{position-map}
use Rattle.lt_resolve.proofs.names.Names.number.Goals as goal

found_in : (keys : List (Bor Name)) (names : List Name) (x : Name) (o : Option ℕ) → map (λ (k : Bor Name). k.now) keys ≡ names → o ≡ position (λ (k : Bor Name). bytes_eq x k.now) keys → o ≡ number_of_name names x
found_in keys names x o e h = h ∙ sym (position-map (bytes_eq x) (λ (k : Bor Name). k.now) keys) ∙ ap (position (bytes_eq x)) e

pub returns-in-Some : goal.returns-in-Some
returns-in-Some c = found_in c.self.inside.set.keys c.args.self.now c.args.name.now _ c.self.view_is c.in-Some.ensures.index

pub returns-in-None : goal.returns-in-None
returns-in-None c = found_in c.self.inside.set.keys c.args.self.now c.args.name.now _ c.self.view_is c.in-None.ensures.index
