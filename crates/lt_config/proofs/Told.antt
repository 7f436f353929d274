-- What is told of the bytes of a setup.
use Rattle.std.proofs.Common.{◌≡◌, ℕ, Bool, true, false, if◌then◌else◌, List, Some, None, refl, sym, ap, ◌∙◌, Err}
use Rattle.std.proofs.lemmas.Str.{IsUtf8-from_is_utf8, is_utf8-from_IsUtf8}
use Rattle.std.specs.Str.{IsUtf8, is_utf8}
use Rattle.toml.specs.Data.{Members}
use Rattle.toml.specs.Parse.{parse_document}
use Rattle.lt_base.specs.declared.memory.Or.{Or}
use Rattle.lt_base.specs.declared.memory.Or.TheVariants.{Fault, Memory}
use Rattle.lt_config.specs.declared.fault.ConfigFault.{ConfigFault}
use Rattle.lt_config.specs.Faults.{first_fault}
use Rattle.lt_config.specs.Judged.{Judged, IsSetupFault}
use Rattle.lt_config.specs.Reading.{toml_table_of, judged_table, setup_or, not_toml}
use Rattle.lt_config.specs.Told.{ToldTable}

pub table_is : (bytes : List ℕ) (t : Members) → IsUtf8 bytes → parse_document bytes ≡ Some t → toml_table_of bytes ≡ Some t
table_is bytes t u e = ap (λ b. if b then parse_document bytes else None) (is_utf8-from_IsUtf8 bytes u) ∙ e

pub no_table : (bytes : List ℕ) → (IsUtf8 bytes → parse_document bytes ≡ None) → toml_table_of bytes ≡ None
no_table bytes h = by (is_utf8 bytes) (λ e. h (IsUtf8-from_is_utf8 bytes e))
  where
    by : (b : Bool) → (b ≡ true → parse_document bytes ≡ None) → (if b then parse_document bytes else None) ≡ None
    by true g = g refl
    by false g = refl

-- the fault of a judgment is that of the bytes
pub told_fault : (bytes : List ℕ) (t : Members) (e : Or ConfigFault) → toml_table_of bytes ≡ Some t → Judged (first_fault t) (Err e) → ToldTable bytes (Err e)
told_fault bytes t (Fault g) at j = ap judged_table at ∙ ap (setup_or t) j
told_fault bytes t Memory at j = tt

pub told_no_table : (bytes : List ℕ) (e : Or ConfigFault) → toml_table_of bytes ≡ None → IsSetupFault not_toml e → ToldTable bytes (Err e)
told_no_table bytes (Fault g) at is = ap judged_table at ∙ ap Err (sym is)
told_no_table bytes Memory at is = tt
