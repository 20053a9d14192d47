-- Mirror. Clashes of a method with those of its name that stand before it.
use Rattle.std.specs.Prelude.{ℕ, ◌+◌, Bool, List, [], ◌∷◌, Option, Some, None, Result, Ok, nat_lt, slice_get, if◌then◌else◌}
use Rattle.name_rules.specs.declared.Refusal.{Refusal}
use Rattle.name_laws.specs.declared.parts.Heading.{Heading}
use Rattle.name_laws.specs.Answers.{unless}
use Rattle.name_laws.specs.Members.{clash_of}

-- why a method cannot stand after another of its name
abbrev pub clash_at : List (List Bool) → Heading → Option Heading → Option Refusal
clash_at rows b None = None
clash_at rows b (Some a) = clash_of rows a b

-- the first of two refusals, where there is one
abbrev pub or_clash : Option Refusal → Option Refusal → Option Refusal
or_clash (Some r) o = Some r
or_clash None o = o

-- why the method b of number k cannot stand after those of a rising list
abbrev pub clash_among : List (List Bool) → List Heading → ℕ → Heading → List ℕ → Option Refusal
clash_among rows all k b [] = None
clash_among rows all k b (j ∷ js) = if nat_lt j k then or_clash (clash_at rows b (slice_get all j)) (clash_among rows all k b js) else None

-- the number of the next method, where the method b of number k clashes with none before it in the list
abbrev pub clash_after : List (List Bool) → List Heading → ℕ → Heading → List ℕ → Result ℕ Refusal
clash_after rows all k b js = unless (clash_among rows all k b js) (Ok (k + 1))
