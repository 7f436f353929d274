-- A site for whose program step code has room.
use Rattle.std.proofs.Common.{◌≡◌, ◌<◌, ℕ, length, Result, Ok, Err, sym, ◌∙◌, ap, subst}
use Rattle.std.specs.Prelude.{IfOk}
use Rattle.lt_base.specs.declared.memory.Or.{Or}
use Rattle.lt_norm.specs.Flat.{Originated}
use Rattle.lt_place.specs.Layout.{IsPlaced}
use Rattle.lt_place.specs.Sizes.{HasCodeRoom}
use Rattle.lt_front.specs.Checked.{CheckedText, IsChecked}
use Rattle.lt_load_fit.specs.declared.fault.CommandFault.{CommandFault}
use Rattle.lt_compile.specs.declared.site.Site.{Site}
use Rattle.lt_compile.specs.Sites.{IsSited}
use Rattle.lt_load.proofs.Flattens.{code_room}
use Rattle.lt_emit.specs.Loading.{IsCoded}

-- that of a program that passed all checks
pub coded_of : (k : CheckedText) → IsChecked k → (r : Result Site (Or CommandFault)) → IfOk r (IsSited k.flat) → IfOk r IsCoded
coded_of k kept (Ok s) sited = (k.flat, sited, code_room k.program k.flat kept.keeps)
coded_of k kept (Err e) sited = tt

module _ (s : Site) (coded : IsCoded s) where
  pub placed_coded : (f : Originated) × IsPlaced f s.layout × HasCodeRoom f.func
  placed_coded = (coded.0, coded.1.placed, coded.2)

  -- there is a part for each name
  pub part_within : (n : ℕ) → n < length s.layout.names → n < length s.layout.nodes
  part_within n low = let layout = coded.1.placed.layout in subst (λ (m : ℕ). n < m) (ap length layout.names ∙ sym layout.nodes) low
