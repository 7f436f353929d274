-- The tables of a tree, function by function.
use Rattle.std.proofs.Common.{◌≡◌, ℕ, ◌+◌, ◌<◌, List, [], ◌∷◌, ◌++◌, length, get_or, take, drop, Option, Some, sym, ap, ◌∙◌, Bor}
use Rattle.std.specs.Option.{option_or}
use Rattle.std.proofs.lemmas.List.{take_more, map-append, take-map}
use Rattle.lt_base.specs.declared.memory.Or.{Or}
use Rattle.lt_base.specs.declared.memory.Or.TheVariants.{Fault, Memory}
use Rattle.lt_syntax.specs.declared.tree.NodeText.{NodeText}
use Rattle.lt_resolve.specs.declared.fault.NameKind.{NameKind}
use Rattle.lt_resolve.specs.declared.fault.NameFault.{NameFault}
use Rattle.lt_resolve.specs.Names.{Name, if_among, repeated_name}
use Rattle.lt_resolve.specs.Scopes.{variables, functions}
use Rattle.lt_resolve.specs.Faults.{Occurrence, first_in, twice_in}
use Rattle.lt_resolve.specs.Told.{RefusesName, BlamesName}
use Rattle.lt_resolve.specs.Checks.{Locates}
use Rattle.lt_resolve.proofs.Lists.{in_here}

-- the fault at what is found first in function i
pub blames_at : (kind : NameKind) (f : ℕ → NodeText → Option Name) (t : List NodeText) (i : ℕ) (n : NodeText) (e : Or (Bor Name)) (r : Or NameFault) → i < length t → n ≡ get_or t i n → first_in f i (drop i t) ≡ first_in f 0 t → Locates kind i e r → RefusesName (f i n) e → BlamesName kind (λ o. o ≡ first_in f 0 t) r
blames_at kind f t i n (Fault x) (Fault g) l e k h s =
    let pair : ◌≡◌ {A = Option Occurrence} (Some (i, x.now)) (Some (g.func, g.name)) = λ j. Some (sym h.1 j, sym h.2 j) in
    (h.0, sym (in_here f t i n x.now l e s k ∙ pair))
blames_at kind f t i n (Fault x) Memory l e k h s = tt
blames_at kind f t i n Memory (Fault g) l e k h s = absurd h
blames_at kind f t i n Memory Memory l e k h s = tt

module _ (t : List NodeText) (i : ℕ) (n : NodeText) (names : List Name) (is : names ≡ functions (take i t)) where
  -- what is looked for in function i, by the names before it
  pub twice_at : option_or (if_among names n.name) (repeated_name [] (variables n)) ≡ twice_in (functions t) i n
  twice_at = ap (λ l. option_or (if_among l n.name) (repeated_name [] (variables n))) (is ∙ sym (take-map (λ (m : NodeText). m.name) i t))

  pub functions_more : i < length t → n ≡ get_or t i n → names ++ n.name ∷ [] ≡ functions (take (i + 1) t)
  functions_more l e =
      ap (λ ns. ns ++ n.name ∷ []) is
      ∙ sym (map-append (λ (m : NodeText). m.name) (take i t) (n ∷ []))
      ∙ ap functions (ap (λ m. take i t ++ m ∷ []) e ∙ sym (take_more t i n l))

pub one_more : {A : Type 0} (xs done done' : List A) (i : ℕ) (x y : A) → i < length xs → x ≡ get_or xs i x → done ≡ take i xs → y ≡ x → done' ≡ done ++ y ∷ [] → done' ≡ take (i + 1) xs
one_more xs done done' i x y l e d s h = h ∙ (λ j. d j ++ (s ∙ e) j ∷ []) ∙ sym (take_more xs i x l)
