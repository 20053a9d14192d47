-- Mirror. A static member that was looked for.
use Rattle.std.specs.Prelude.{ℕ, Bool, List, Option, Some, Result, Err}
use Rattle.kaba_base.specs.declared.Place.{Place}
use Rattle.name_rules.specs.declared.Refusal.{Refusal}
use Rattle.name_rules.specs.declared.Refusal.TheVariants.{Unknown}
use Rattle.name_laws.specs.Expressions.{in_own}

-- the number of a member of this name, where one was found and it is static
abbrev pub member_found : List ℕ → Place → Option ℕ → Option Bool → Result ℕ Refusal
member_found n p (Some k) (Some static) = in_own static n p k
member_found n p found static = Err (Unknown n p)
