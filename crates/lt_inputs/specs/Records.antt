-- A reader of records, by the records that it has left to give.
use Rattle.std.specs.Prelude.{◌≡◌, ◌≢◌, ◌+◌, ℕ, false, List, [], ◌∷◌, length, Option, Some, IfSome, MatchOption, unwrap_or, Result, Ok, Err}
use Rattle.std.specs.Borrow.{Bor}
use Rattle.csv.specs.Machine.{ends_at_end}
use Rattle.csv.specs.Reading.{Ready, default_config, source_of, reader_config, reader_trim, reader_state, is_flexible, expected_len, records_from}
use Rattle.csv.specs.declared.reader.Reader.{Reader}
use Rattle.csv.specs.declared.reader.Trim.TheVariants as trim
use Rattle.csv.specs.declared.parser.State.{State}
use Rattle.lt_base.specs.declared.function.Decl.{Decl}
use Rattle.lt_base.specs.declared.memory.Or.{Or}
use Rattle.lt_base.specs.declared.memory.Or.TheVariants.{Fault, Memory}
use Rattle.lt_inputs.specs.Inputs.{input_rows_of, input_rows_from}
use Rattle.lt_inputs.specs.declared.fault.InputFault.{InputFault}
use Rattle.lt_inputs.specs.declared.records.Next.{Next}
use Rattle.lt_inputs.specs.declared.records.Next.TheVariants.{Found, OtherLength, End}

-- the bytes that a reader has left
abbrev pub bytes_left : Reader (Bor (List ℕ)) → Option (List ℕ)
bytes_left r = source_of (λ s. Some s.now) r

-- the records of a text that is read from a state
abbrev pub records_after : State → List ℕ → List (List (List ℕ))
records_after s text = records_from default_config (length text + 1) s text

-- the records that a reader has left
abbrev pub rest_of : Reader (Bor (List ℕ)) → List (List (List ℕ))
rest_of r = records_after (reader_state r) (unwrap_or (bytes_left r) [])

-- a reader of bytes that stands between records, all of which so far had this many fields
pub record ReaderStands (r : Reader (Bor (List ℕ))) (width : Option ℕ) : Type 0 where
  pub trim : reader_trim r ≡ trim.None
  pub ready : Ready r
  pub config : reader_config r ≡ default_config
  pub flexible : is_flexible r ≡ false
  pub expected : expected_len r ≡ width
  pub between : ends_at_end (reader_state r) ≡ false
  pub known : (text : List ℕ) × (bytes_left r ≡ Some text)

-- the next record was read: it has as many fields as those before, or another number, or none was left
abbrev pub ReaderAdvances : Reader (Bor (List ℕ)) → Option ℕ → Next → Reader (Bor (List ℕ)) → List (List ℕ) → Type 0
ReaderAdvances old width Found new fields =
    (rest_of old ≡ fields ∷ rest_of new) × IfSome width (λ w. length fields ≡ w) × ReaderStands new (Some (length fields))
ReaderAdvances old width OtherLength new fields =
    (r : List (List ℕ)) × (rest : List (List (List ℕ))) × (rest_of old ≡ r ∷ rest) × MatchOption width ⊥ (λ w. length r ≢ w)
ReaderAdvances old width End new fields = rest_of old ≡ []

-- a header was read before the records that are left; or it was refused
abbrev pub ReadsHeader : List Decl → Reader (Bor (List ℕ)) → Result (Unit {0}) (Or InputFault) → Reader (Bor (List ℕ)) → Type 0
ReadsHeader ins old (Ok done) new = ReaderStands new (Some (length ins + 1)) × (input_rows_of ins (rest_of old) ≡ input_rows_from ins 1 (rest_of new))
ReadsHeader ins old (Err (Fault fault)) new = input_rows_of ins (rest_of old) ≡ Err fault
ReadsHeader ins old (Err Memory) new = Unit {0}
