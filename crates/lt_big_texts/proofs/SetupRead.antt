-- The text of the setup reads as its page says.
use Rattle.std.proofs.Common.{◌≡◌, ◌≤◌, ◌<◌, ◌&&◌, ℕ, suc, zero, Bool, true, false, List, [], ◌∷◌, nat_lt, Some, None, Ok, refl, ap, ◌∙◌, arith, lit≤}
use Rattle.std.specs.Prelude.{Option, if◌then◌else◌}
use Rattle.std.specs.Str.{is_utf8, IsAscii}
use Rattle.std.proofs.lemmas.Str.{IsUtf8-from_ascii, is_utf8-from_IsUtf8}
use Rattle.toml.specs.Parse.{parse_document}
use Rattle.lt_config.specs.declared.fault.ConfigFault.{ConfigFault}
use Rattle.lt_config.specs.Faults.{first_fault}
use Rattle.lt_config.specs.Setup.{setup_of}
use Rattle.lt_config.specs.Reading.{judged_table, setup_or, toml_table_of}
use Rattle.lt_big_texts.specs.Texts.{setup_text}
use Rattle.lt_big_texts.specs.Bounds.{large_setup, SetupRead}
use Rattle.lt_big_texts.proofs.SetupTable.{setup_table, setup_parsed}

-- bytes below 128
abbrev all_ascii : List ℕ → Bool
all_ascii [] = true
all_ascii (c ∷ cs) = nat_lt c 128 && all_ascii cs

both_true : (a b : Bool) → (a && b) ≡ true → (a ≡ true) × (b ≡ true)
both_true true b is = (refl, is)
both_true false b is = cc

ascii_more : (c : ℕ) (cs : List ℕ) → c < 128 → IsAscii cs → IsAscii (c ∷ cs)
ascii_more c cs low more zero = low
ascii_more c cs low more (suc i) = more i

ascii_of : (cs : List ℕ) → all_ascii cs ≡ true → IsAscii cs
ascii_of [] is = λ i. omega arith
ascii_of (c ∷ cs) is =
    let parts = both_true (nat_lt c 128) (all_ascii cs) is in
    let first = parts.0 in
    ascii_more c cs (grind (arith, first)) (ascii_of cs parts.1)

setup_utf8 : is_utf8 setup_text ≡ true
setup_utf8 = is_utf8-from_IsUtf8 setup_text (IsUtf8-from_ascii setup_text (ascii_of setup_text refl))

table_is : toml_table_of setup_text ≡ Some setup_table
table_is = ap (λ (b : Bool). if b then parse_document setup_text else None) setup_utf8 ∙ setup_parsed

faultless : first_fault setup_table ≡ None
faultless = refl

says : setup_of setup_table ≡ large_setup
says = refl

pub setup_read : SetupRead
setup_read = (
  lit≤ tt,
  ap judged_table table_is ∙ ap (λ (f : Option ConfigFault). setup_or setup_table f) faultless ∙ ap Ok says,
)
