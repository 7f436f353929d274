-- The refusal of a schedule that is too long.
use Rattle.lt_rows.specs.declared.fault.RowFault.TheVariants as row
use Rattle.lt_load_fit.specs.declared.fault.CommandFault.{CommandFault}
use Rattle.lt_load_fit.specs.declared.fault.CommandFault.TheVariants as fault

-- the refusal of the first event past the limit
abbrev pub too_many_events : CommandFault
too_many_events = fault.Row 5000001 row.TooMany
