use Rattle.std.proofs.Common.{◌≡◌, ℕ, List, Bool, true, false, refl, sym}
use Rattle.std.specs.Str.{is_utf8, IsUtf8}
use Rattle.std.proofs.lemmas.Str.{IsUtf8-from_is_utf8, is_utf8-from_IsUtf8}
use Rattle.lt_inputs.proofs.records.is_utf8.Goals as goal

not_utf8 : (bs : List ℕ) → ¬ (IsUtf8 bs) → is_utf8 bs ≡ false
not_utf8 bs h = by (is_utf8 bs) (λ e. h (IsUtf8-from_is_utf8 bs e))
  where
    by : (b : Bool) → (b ≡ true → ⊥) → b ≡ false
    by true n = absurd (n refl)
    by false n = refl

pub returns-in-Ok : goal.returns-in-Ok
returns-in-Ok c = sym (is_utf8-from_IsUtf8 c.args.bytes.now c.in-Ok.ensures.cases.1)

pub returns-in-Err : goal.returns-in-Err
returns-in-Err c = sym (not_utf8 c.args.bytes.now c.in-Err.ensures.cases.0)
