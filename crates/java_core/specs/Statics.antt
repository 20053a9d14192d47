-- Mirror. What an expression gives and the methods of a String, as the rules of types have them.
use Rattle.std.specs.Prelude.{ℕ, Option, Some, None}
use Rattle.java_core.specs.declared.Ty.{Ty}
use Rattle.java_core.specs.declared.Program.{Program}
use Rattle.java_core.specs.declared.code.Code.{Code}
use Rattle.java_core.specs.Trees.{Ex}
use Rattle.java_core.specs.Programs.{program_of, code_seen}
use Rattle.java_core.specs.Types as types
use Rattle.java_core.specs.Types.{a_value, null_value, no_value, LengthOf, CharAt, env_of, static as static_of}
use Rattle.java_core.specs.declared.statics.Static.{Static}
use Rattle.java_core.specs.declared.statics.Static.TheVariants as form
use Rattle.java_core.specs.declared.statics.StringMethod.{StringMethod}
use Rattle.java_core.specs.declared.statics.StringMethod.TheVariants as string

-- the static type that a value of the code stands for
abbrev pub static_seen : Static → types.Static
static_seen (form.Value t) = a_value t
static_seen form.Null = null_value
static_seen form.Nothing = no_value

-- the static type of an expression in a body of a program; b is the body's number, which no type depends on
abbrev pub static_in : Program → ℕ → Code → Ex → types.Static
static_in p b c e = static_of (program_of p) (env_of b (code_seen c)) e

-- a value of the type, or nothing
abbrev pub given_of : Option Ty → Static
given_of None = form.Nothing
given_of (Some t) = form.Value t

-- the method of String that a value of the code stands for
abbrev pub string_seen : StringMethod → types.StringMethod
string_seen string.Length = LengthOf
string_seen string.CharAt = CharAt
string_seen string.Equals = types.Equals
