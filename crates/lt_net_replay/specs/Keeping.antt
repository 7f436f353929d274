-- What no event changes stays so over events one after another.
use Rattle.std.proofs.Common.{ℕ, List, refl, sym, ◌∙◌, subst, IsTrue}
use Rattle.lt_base.specs.declared.value.Value.{Value}
use Rattle.lt_io.specs.FabricState.{FabricState}
use Rattle.lt_net.specs.NetModel.{NetState}
use Rattle.lt_net.proofs.NextLists.{fixed_refl, fixed_trans}
use Rattle.lt_net.proofs.SendLoop.{keeps_refl, keeps_trans}
use Rattle.lt_net_replay.specs.Plays.{KeepsPlay}

module _ {C M : Type 0} (size : M → ℕ) where
  pub keeps_itself : (net : NetState C M) (inputs : List (List Value)) (fabric : FabricState) → KeepsPlay size net net inputs inputs fabric fabric
  keeps_itself net inputs fabric = record { fixed = fixed_refl net.bench; sizes = refl; inputs_are = refl; fabric_kept = keeps_refl fabric; steady = λ sound. refl }

  pub keeps_on : (a b c : NetState C M) (p q r : List (List Value)) (u v w : FabricState) → KeepsPlay size a b p q u v → KeepsPlay size b c q r v w → KeepsPlay size a c p r u w
  keeps_on a b c p q r u v w x y = record {
    fixed = fixed_trans a.bench b.bench c.bench x.fixed y.fixed;
    sizes = y.sizes ∙ x.sizes;
    inputs_are = y.inputs_are ∙ x.inputs_are;
    fabric_kept = keeps_trans u v w x.fabric_kept y.fabric_kept;
    steady = λ sound. y.steady (subst IsTrue (sym x.fabric_kept.sound) sound) ∙ x.steady sound;
  }
