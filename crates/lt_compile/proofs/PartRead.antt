-- A part that is read by its place.
use Rattle.std.proofs.Common.{◌≡◌, ◌<◌, ℕ, List, length, get_or, sym, ap, ◌∙◌, subst}
use Rattle.std.proofs.lemmas.List.{get_or_default}
use Rattle.lt_place.specs.declared.layout.Part.{Part}
use Rattle.lt_place.specs.declared.layout.Layout.{Layout}
use Rattle.lt_place.specs.Layout.{no_part, part_of}

pub part_read : (l : Layout) (parts : List Part) (n : ℕ) (q : Part) → parts ≡ l.nodes → n < length l.nodes → q ≡ get_or parts n q → part_of l n ≡ q
unfolding part_of
part_read l parts n q same low is = get_or_default l.nodes n no_part q low ∙ sym (is ∙ ap (λ ps. get_or ps n q) same)
