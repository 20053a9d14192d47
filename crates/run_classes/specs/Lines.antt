-- Mirror. Along the superclasses of a class, and the instance fields among some.
use Rattle.std.specs.Prelude.{ℕ, zero, suc, Bool, false, not, List, [], ◌∷◌, ◌++◌, slice_get, if◌then◌else◌}
use Rattle.std.specs.Option.{option_map_or}
use Rattle.kaba_base.specs.declared.ClassId.{ClassId}
use Rattle.java_core.specs.declared.Field.{Field}
use Rattle.java_core.specs.Programs.{Plain}
use Rattle.java_core.specs.Classes.{parent_of}
use Rattle.java_meaning.specs.Languages.{own_fields}

-- a class and its superclasses within n steps upwards, itself first
abbrev pub line_in : Plain → ℕ → ClassId → List ClassId
line_in P zero c = c ∷ []
line_in P (suc n) c = c ∷ option_map_or (λ p. line_in P n p) (parent_of P c.0) []

-- the instance fields of classes that stand with the lowest first, those of the highest first
abbrev pub fields_down : Plain → List ClassId → List ℕ
fields_down P [] = []
fields_down P (c ∷ cs) = fields_down P cs ++ own_fields P c.0

-- whether the field of a number is no static one
abbrev pub is_instance : List Field → ℕ → Bool
is_instance fields k = option_map_or (λ f. not f.is_static) (slice_get fields k) false

-- the instance fields among some
abbrev pub instances : List Field → List ℕ → List ℕ
instances fields [] = []
instances fields (k ∷ ks) = (if is_instance fields k then k ∷ [] else []) ++ instances fields ks
