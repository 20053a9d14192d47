-- Mirror. What a name with a number is the name of.
use Rattle.std.specs.Prelude.{ℕ, List}
use Rattle.kaba_work.specs.declared.names.Kind.{Kind}
use Rattle.kaba_work.specs.declared.names.Kind.TheVariants as kinds
use Rattle.kaba_work.specs.Sample.{class_name, field_name, extra_name, variable_name}

-- the name for a number: of its class, of one of the two fields there, or of its variable
abbrev pub name_of : Kind → ℕ → List ℕ
name_of kinds.Class i = class_name i
name_of kinds.Field i = field_name i
name_of kinds.Extra i = extra_name i
name_of kinds.Variable i = variable_name i
