-- What no event changes stays so over events one after another, and a line that is too long is no event.
use Rattle.std.proofs.Common.{◌≡◌, ◌≢◌, ◌<◌, ℕ, List, length, Err, refl, sym, ◌∙◌, subst, IsTrue}
use Rattle.lt_base.specs.declared.value.Value.{Value}
use Rattle.lt_arch.specs.declared.shape.Shape.{Shape}
use Rattle.lt_rows.specs.declared.fault.RowFault.{RowFault}
use Rattle.lt_rows.specs.declared.fault.RowFault.TheVariants.{Header, Time, Kind, UnknownPlace, NotCsv, TooMany}
use Rattle.lt_io.specs.FabricState.{FabricState}
use Rattle.lt_schedule.specs.Long.{long_line}
use Rattle.lt_lossy.specs.Events.{lossy_event_of}
use Rattle.lt_lossy.proofs.Rows.{plain-line, is_fault}
use Rattle.lt_net.proofs.SendLoop.{keeps_refl, keeps_trans}
use Rattle.lt_net_lossy.specs.Net.{LossyBenchState}
use Rattle.lt_net_lossy.specs.NetModel.{LossyNetState}
use Rattle.lt_net_lossy.specs.Taken.{SameLossyStatic}
use Rattle.lt_net_lossy.specs.LossyPlays.{KeepsLossyPlay}

-- the fault is that of a line without three fields
abbrev IsOfFields : RowFault → Type 0
IsOfFields Header = ⊥
IsOfFields Time = ⊥
IsOfFields Kind = ⊥
IsOfFields UnknownPlace = ⊥
IsOfFields NotCsv = Unit {0}
IsOfFields TooMany = ⊥

not_kind : NotCsv ≢ Kind
not_kind h = subst IsOfFields h tt

pub long_lossy_line : (s : Shape) (line : List ℕ) → 4096 < length line → lossy_event_of s line ≡ Err NotCsv
long_lossy_line s line long = plain-line s (Err NotCsv) (is_fault NotCsv not_kind) line (long_line s line long)

module _ {C M : Type 0} where
  pub static_refl : (a : LossyBenchState C M) → SameLossyStatic a a
  static_refl a = record { layout = refl; shape = refl; timing = refl; rows = refl; limit = refl }

  pub static_trans : (a b c : LossyBenchState C M) → SameLossyStatic a b → SameLossyStatic b c → SameLossyStatic a c
  static_trans a b c x y = record { layout = y.layout ∙ x.layout; shape = y.shape ∙ x.shape; timing = y.timing ∙ x.timing; rows = y.rows ∙ x.rows; limit = y.limit ∙ x.limit }

  pub lossy_keeps_itself : (net : LossyNetState C M) (inputs : List (List Value)) (fabric : FabricState) → KeepsLossyPlay net net inputs inputs fabric fabric
  lossy_keeps_itself net inputs fabric = record { fixed = static_refl net.bench; inputs_are = refl; fabric_kept = keeps_refl fabric; steady = λ sound. refl }

  pub lossy_keeps_on : (a b c : LossyNetState C M) (p q r : List (List Value)) (u v w : FabricState) → KeepsLossyPlay a b p q u v → KeepsLossyPlay b c q r v w → KeepsLossyPlay a c p r u w
  lossy_keeps_on a b c p q r u v w x y = record {
    fixed = static_trans a.bench b.bench c.bench x.fixed y.fixed;
    inputs_are = y.inputs_are ∙ x.inputs_are;
    fabric_kept = keeps_trans u v w x.fabric_kept y.fabric_kept;
    steady = λ sound. y.steady (subst IsTrue (sym x.fabric_kept.sound) sound) ∙ x.steady sound;
  }
