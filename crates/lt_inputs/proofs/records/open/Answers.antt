use Rattle.std.proofs.Common.{ℕ, List, [], Option, ◌∙◌, ap, inr}
use Rattle.std.specs.Prelude.{unwrap_or}
use Rattle.csv.specs.Machine.{ends_at_end}
use Rattle.csv.specs.Reading.{strip_bom}
use Rattle.csv.specs.declared.parser.State.TheVariants.{StartRecord}
use Rattle.csv.specs.declared.parser.State.{State}
use Rattle.lt_inputs.specs.Records.{bytes_left, records_after}
use Rattle.lt_inputs.proofs.records.open.Goals as goal

pub returns : goal.returns
returns c =
    let made = c.from_reader.ensures in
    let set = c.has_headers.ensures in
    let text = strip_bom c.args.bytes.now in
    record {
      stands = record {
        trim = rw set at made.trim ∙ c.new.ensures.trim;
        ready = inr (inr (rw set at made.has_headers, made.headers));
        config = rw set at made.config ∙ c.new.ensures.config;
        flexible = rw set at made.flexible ∙ c.new.ensures.flexible;
        expected = made.expected;
        between = ap ends_at_end made.state;
        known = (text, made.source);
      };
      rest = ap (λ (s : State). records_after s (unwrap_or (bytes_left c.from_reader.result) [])) made.state ∙ ap (λ (o : Option (List ℕ)). records_after StartRecord (unwrap_or o [])) made.source;
    }
