use Rattle.toml.proofs.Views.{table_get}
use Rattle.lt_config.proofs.keys.entry.Goals as goal

pub returns : goal.returns
returns c = table_get c.get.result c.args.name.now c.args.entries.now.entries c.get.ensures.value
