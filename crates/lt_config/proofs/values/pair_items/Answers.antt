use Rattle.std.proofs.Common.{◌≡◌, ◌≢◌, List, [], ◌∷◌, length, None, refl}
use Rattle.toml.specs.View.{items_view}
use Rattle.toml.specs.declared.value.Value.{Value}
use Rattle.lt_config.specs.Values.{pair_items}
use Rattle.lt_config.proofs.values.pair_items.Goals as goal

no_pair : (vs : List Value) → length vs ≢ 2 → None ≡ pair_items (items_view vs)
no_pair [] h = refl
no_pair (x ∷ []) h = refl
no_pair (x ∷ y ∷ []) h = absurd (h refl)
no_pair (x ∷ y ∷ z ∷ vs) h = refl

pub returns-then-items-ne2 : goal.returns-then-items-ne2
returns-then-items-ne2 c = no_pair c.args.items.now c.if-items-ne2.true
