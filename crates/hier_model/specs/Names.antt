-- Believed. The names that a hierarchy starts with.
use Rattle.std.specs.Prelude.{ℕ, suc, zero, ◌==◌, ◌&&◌, Bool, true, false, not, if◌then◌else◌, List, [], ◌∷◌, ◌++◌, length, Option, Some, None, slice_index_or, slice_get}
use Rattle.std.specs.Option.{option_map_or}
use Rattle.std.specs.Str.{bytes_eq}
use Rattle.std.specs.Fmt.{decimal}
use Rattle.kaba_base.specs.declared.ClassId.{ClassId}
use Rattle.fact_model.specs.FreeNames.{free_name}
use Rattle.fact_model.specs.Items.{column_kind, column_class}
use Rattle.fact_model.specs.Classes.{below}
use Rattle.fact_model.specs.InOrder.{name_of}
use Rattle.fact_model.specs.declared.facts.Facts.{Facts}
use Rattle.fact_model.specs.declared.facts.ColKind.{ColKind}
use Rattle.fact_model.specs.declared.facts.ColKind.TheVariants.{Fld}
use Rattle.hier_model.specs.Hierarchies.{any_below}

-- whether a column of this kind is a field
abbrev pub is_field : ColKind → Bool
is_field Fld = true
is_field kind = false

-- whether b is a class or interface strictly above a
abbrev pub is_strictly_above : Facts → ℕ → ℕ → Bool
is_strictly_above F a b = not (a == b) && below F a b

-- whether d is a field of the name of c, in a class strictly above that of c
abbrev pub is_namesake_above : Facts → ℕ → ℕ → Bool
is_namesake_above F c d = is_field (column_kind F d) && bytes_eq (name_of F c) (name_of F d) && is_strictly_above F (column_class F c) (column_class F d)

-- whether a field has the name of a field of a class strictly above its own
abbrev pub is_shared : Facts → ℕ → Bool
is_shared F c = is_field (column_kind F c) && any_below (length F.columns.items) (λ d. is_namesake_above F c d)

-- the name of a class or interface in the program
abbrev pub class_name : Facts → ℕ → List ℕ
class_name F a = option_map_or (λ k. k.name) (slice_get F.classes.items a) []

-- two names with an underscore between
abbrev pub joined : List ℕ → List ℕ → List ℕ
joined a b = a ++ 95 ∷ b

-- the name of a member, after those given: its own; for a field that shares it with one above, that of its class goes behind
abbrev pub named_member : Facts → List (List ℕ) → ℕ → List ℕ
named_member F given c = if is_shared F c then free_name (F.words.items ++ given) (joined (name_of F c) (class_name F (column_class F c))) else name_of F c

-- the names of the first n columns, each given after those before it
abbrev pub member_names : Facts → ℕ → List (List ℕ)
member_names F zero = []
member_names F (suc n) = member_names F n ++ named_member F (member_names F n) n ∷ []

-- the class that names a node: its origin
abbrev pub naming_class : Option ClassId → ℕ
naming_class None = 0
naming_class (Some k) = k.0

-- the name of the type of node n, after those given: that of its origin, and its number
abbrev pub named_type : Facts → List (Option ClassId) → List (List ℕ) → ℕ → List ℕ
named_type F origins given n = free_name (F.words.items ++ given) (joined (class_name F (naming_class (slice_index_or origins n None))) (decimal n))

-- the names of the types of the first n nodes, each given after the members' and those before it
abbrev pub type_names : Facts → List (List ℕ) → List (Option ClassId) → ℕ → List (List ℕ)
type_names F members origins zero = []
type_names F members origins (suc n) = let before = type_names F members origins n in before ++ named_type F origins (members ++ before) n ∷ []
