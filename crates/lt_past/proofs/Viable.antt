-- Whatever the machine has taken can be led to an end.
use Rattle.std.proofs.Common.{◌≡◌, ℕ, ◌+◌, ◌≤◌, List, [], ◌∷◌, ◌++◌, length, Option, Some, None, refl, ap, ◌∙◌, arith}
use Rattle.std.specs.Prelude.{codes}
use Rattle.lt_past.specs.declared.words.Sign.TheVariants as word
use Rattle.lt_past.specs.Tokens.{Token, name, sign}
use Rattle.lt_past.specs.Levels.{observer_level, observer_right_level}
use Rattle.lt_past.specs.Grammar as form
use Rattle.lt_past.specs.Grammar.{ObserverForm, ObserverFormIsAt, formula_tokens, formula_height}
use Rattle.lt_past.specs.Machine.{ObserverState, observer_hole}
use Rattle.lt_past.specs.Faults.{ObserverBegins}
use Rattle.lt_past.proofs.Zipper.{table, at_lower, hole_le, Begun, z_paren, z_prefix, z_infix, all_leads, held, closing, stack, completes, room_for}
use Rattle.lt_past.proofs.Sound.{AreBegun, Fit, Good, top_room}

abbrev some_name : List ℕ
some_name = codes "x"

-- the form that is begun, ended
record Finished (limit : ℕ) (zs : List Begun) (b : ObserverForm) : Type 0 where
  more : List Token → List Token
  whole : ObserverForm
  at : ObserverFormIsAt 1 whole
  room : formula_height whole ≤ limit
  text : (r : List Token) → all_leads zs (formula_tokens b (more r)) ≡ formula_tokens whole r

module _ (number : List ℕ → ℕ) (limit : ℕ) where
  finished : (zs : List Begun) (m : ℕ) (b : ObserverForm) → AreBegun number limit zs → ObserverFormIsAt m b → observer_hole (stack number zs) ≤ m → length (stack number zs) + formula_height b ≤ limit → Finished limit zs b
  finished [] m b g at hm rm = record { more = λ r. r; whole = b; at = at_lower b 1 m hm at; room = omega arith; text = λ r. refl }
  finished (z_paren ∷ zs) m b g at hm rm =
      let d = finished zs 6 (form.paren b) g.0 (omega arith, at_lower b 1 m hm at) (omega (arith, hole_le (stack number zs))) (omega arith) in
      record { more = λ r. sign word.Close ∷ d.more r; whole = d.whole; at = d.at; room = d.room; text = λ r. d.text r }
  finished (z_prefix p ∷ zs) m b g at hm rm =
      let z = z_prefix p in
      let c = completes number z (observer_hole (stack number zs)) b g.1 (at_lower b 5 m hm at) (omega arith) in
      let d = finished zs 5 (closing z b) g.0 c.at c.below (room_for number limit z (length (stack number zs)) b g.2 (omega arith) (omega arith)) in
      record { more = d.more; whole = d.whole; at = d.at; room = d.room; text = λ r. ap (all_leads zs) (c.text (d.more r)) ∙ d.text r }
  finished (z_infix o a ∷ zs) m b g at hm rm =
      let k = table o in
      let z = z_infix o a in
      let c = completes number z (observer_hole (stack number zs)) b g.1 (at_lower b (observer_right_level o) m hm at) k.low in
      let d = finished zs (observer_level o) (closing z b) g.0 c.at c.below (room_for number limit z (length (stack number zs)) b g.2 (omega arith) k.low) in
      record { more = d.more; whole = d.whole; at = d.at; room = d.room; text = λ r. ap (all_leads zs) (c.text (d.more r)) ∙ d.text r }

  record Ending (zs : List Begun) (h : Option ObserverForm) : Type 0 where
    more : List Token
    whole : ObserverForm
    at : ObserverFormIsAt 1 whole
    room : formula_height whole ≤ limit
    text : all_leads zs (held h more) ≡ formula_tokens whole []

  ending : (zs : List Begun) (h : Option ObserverForm) → AreBegun number limit zs → Fit number limit zs h → Ending zs h
  ending zs None g f =
      let d = finished zs 6 (form.named some_name) g (omega arith) (omega (arith, hole_le (stack number zs))) (top_room number limit zs g f) in
      record { more = name some_name ∷ d.more []; whole = d.whole; at = d.at; room = d.room; text = d.text [] }
  ending zs (Some a) g f =
      let d = finished zs f.level a g f.at f.stands f.room in
      record { more = d.more []; whole = d.whole; at = d.at; room = d.room; text = d.text [] }

  -- what is taken begins an observer
  pub good_begins : (s : ObserverState) (ts : List Token) → Good number limit s (λ r. ts ++ r) → ObserverBegins limit ts
  good_begins s ts g = let d = ending g.begun g.holding g.good g.fit in (d.more, d.whole, record { at = d.at; low = d.room; spelled = g.written d.more ∙ d.text })
