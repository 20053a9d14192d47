-- Mirror. What a class itself has, by what is looked for.
use Rattle.std.specs.Prelude.{ℕ, ◌&&◌, not, Bool, List, [], ◌∷◌, Option, Some, None, position, if◌then◌else◌}
use Rattle.std.specs.Option.{is_some}
use Rattle.std.specs.Str.{bytes_eq}
use Rattle.kaba_base.specs.declared.ClassId.{ClassId}
use Rattle.java_core.specs.declared.classes.Named.{Named}
use Rattle.java_core.specs.declared.classes.Named.TheVariants as named
use Rattle.java_core.specs.Plain.{Plain, PlainMethod}
use Rattle.java_core.specs.Classes.{below, own_field_of, own_method}

-- the field or method, as is asked, that a class declares itself under a name
abbrev pub own_named : Plain → Named → ℕ → List ℕ → Option ℕ
own_named P named.Field c x = own_field_of P c x
own_named P named.Method c x = own_method P c x

-- whether a method is an instance method of the name that stands at or above a type
abbrev pub offers : Plain → ℕ → List ℕ → PlainMethod → Bool
offers P c x m = below P c m.owner && (not m.is_static && bytes_eq m.name x)

-- the first such method
abbrev pub offered : Plain → ℕ → List ℕ → Option ℕ
offered P c x = position (λ m. offers P c x m) P.methods

-- the first of these interfaces that offers the name
abbrev pub towards : Plain → List ℕ → List ClassId → Option ClassId
towards P x [] = None
towards P x (k ∷ ks) = if is_some (offered P k.0 x) then Some k else towards P x ks
