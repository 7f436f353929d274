use Rattle.lt_io.specs.MemFiles.{mem_files_state}
use Rattle.lt_big.proofs.Held.{loads_held}
use Rattle.lt_big.proofs.large.load.Goals as goal

pub returns : goal.returns
returns c =
    loads_held c.args.instants c.in_ok-files.field-0 c.in_ok-files.ensures (mem_files_state c.held-files.result) (mem_files_state c.load_plain-loaded.new.files) c.held-files.ensures c.load_plain-loaded.result c.load_plain-loaded.ensures
