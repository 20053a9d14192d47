-- Mirror. What an entry of the table of types says.
use Rattle.std.specs.Prelude.{Bool, string_bytes}
use Rattle.std.specs.Str.{chars}
use Rattle.std.specs.declared.alloc.Global.{Global}
use Rattle.std.specs.declared.string.String.{String}
use Rattle.name_laws.specs.Known.{KnownClass}

-- an entry of the table of types
abbrev pub known_seen : String Global × Bool → KnownClass
known_seen e = record { name = chars (string_bytes e.0); is_interface = e.1 }
