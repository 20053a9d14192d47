-- Mirror. Names of types.
use Rattle.std.specs.Prelude.{ℕ, ◌||◌, Bool, List, Option, Some, None, is_some, position, Result, Ok, Err, codes, if◌then◌else◌}
use Rattle.std.specs.Str.{bytes_eq, chars}
use Rattle.kaba_base.specs.declared.Place.{Place}
use Rattle.java_tree.specs.declared.TypeName.{TypeName}
use Rattle.java_tree.specs.declared.TypeBase.{TypeBase}
use Rattle.java_tree.specs.declared.TypeBase.TheVariants as bases
use Rattle.java_core.specs.declared.Ty.{Ty}
use Rattle.java_core.specs.declared.TyBase.{TyBase}
use Rattle.java_core.specs.declared.TyBase.TheVariants as ty
use Rattle.name_rules.specs.declared.Refusal.{Refusal}
use Rattle.name_rules.specs.declared.Refusal.TheVariants.{Unknown}
use Rattle.name_laws.specs.Known.{KnownClass}
use Rattle.name_laws.specs.Answers.{with}

-- String and System, which name no class
abbrev pub is_apart : List ℕ → Bool
is_apart n = bytes_eq (chars (codes "String")) n || bytes_eq (chars (codes "System")) n

-- the class or interface of a name
abbrev pub number_of : List KnownClass → List ℕ → Option ℕ
number_of known n = position (λ k. bytes_eq k.name n) known

-- whether it names a type, so that no variable and no field can have it
abbrev pub names_type : List KnownClass → List ℕ → Bool
names_type known n = is_some (number_of known n) || is_apart n

-- the number that was found, or the refusal of the name as unknown
abbrev pub or_unknown : Option ℕ → List ℕ → Place → Result ℕ Refusal
or_unknown (Some k) n p = Ok k
or_unknown None n p = Err (Unknown n p)

-- the class or interface that is asked for
abbrev pub asked : List KnownClass → List ℕ → Place → Result ℕ Refusal
asked known n p = or_unknown (number_of known n) n p

-- the base that a name means: String, or the class or interface of the name
abbrev pub base_named : List KnownClass → List ℕ → Place → Result TyBase Refusal
base_named known n p = if bytes_eq (chars (codes "String")) n then Ok ty.Str else with (asked known n p) (λ k. Ok (ty.Class (record { 0 = k })))

-- the base that is written: int, boolean, char or a name
abbrev pub base_of : List KnownClass → TypeBase → Place → Result TyBase Refusal
base_of known bases.Int p = Ok ty.Int
base_of known bases.Boolean p = Ok ty.Boolean
base_of known bases.Char p = Ok ty.Char
base_of known (bases.Named n) p = base_named known n p

-- the type that a type's name means
abbrev pub type_of : List KnownClass → TypeName → Result Ty Refusal
type_of known t = with (base_of known t.base t.place) (λ b. Ok (record { base = b; dim = t.dim }))
