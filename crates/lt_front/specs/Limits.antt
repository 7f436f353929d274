-- Which faults are limits that are passed.
use Rattle.std.specs.Prelude.{Bool, true, false}
use Rattle.lt_resolve.specs.declared.fault.NameKind.{NameKind}
use Rattle.lt_resolve.specs.declared.fault.NameKind.TheVariants.{Limit}
use Rattle.lt_front.specs.declared.fault.ProgramFault.{ProgramFault}
use Rattle.lt_front.specs.declared.fault.ProgramFault.TheVariants as fault

abbrev pub is_limit_kind : NameKind → Bool
is_limit_kind Limit = true
is_limit_kind _ = false

-- a limit on what the text declares, or on the sizes of `main`
abbrev pub is_limit : ProgramFault → Bool
is_limit (fault.Name f t) = is_limit_kind f.kind
is_limit (fault.TooMany s) = true
is_limit _ = false
