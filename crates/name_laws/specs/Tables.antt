-- Mirror. What a body sees of the declarations: types, superclasses, fields and methods.
use Rattle.std.specs.Prelude.{ℕ, ◌&&◌, ◌==◌, Bool, List, [], ◌∷◌, Option, Some, None, position, slice_get}
use Rattle.std.specs.Str.{bytes_eq}
use Rattle.kaba_base.specs.declared.ClassId.{ClassId}
use Rattle.java_core.specs.declared.Field.{Field}
use Rattle.name_laws.specs.Known.{KnownClass}
use Rattle.name_laws.specs.declared.parts.Heading.{Heading}
pub use Rattle.java_core.specs.Squares.{bit_in, row_in, is_above}

-- the declarations: types, superclasses, which types are at or above which, fields and methods
pub record Table : Type 0 where
  pub known : List KnownClass
  pub parents : List (Option ClassId)
  pub above : List (List Bool)
  pub fields : List Field
  pub headings : List Heading

-- the superclass of a class
abbrev pub parent_in : Option (Option ClassId) → Option ClassId
parent_in None = None
parent_in (Some c) = c

-- the superclass at a class's place in the list
abbrev pub parent_of : List (Option ClassId) → ℕ → Option ClassId
parent_of parents c = parent_in (slice_get parents c)

-- the number of the first field of a class with a name, and of the first method
abbrev pub field_in : List Field → ℕ → List ℕ → Option ℕ
field_in fs c n = position (λ f. (f.owner.0 == c) && bytes_eq f.name n) fs

-- the number of the first method of a class with a name
abbrev pub method_in : List Heading → ℕ → List ℕ → Option ℕ
method_in hs c n = position (λ h. (h.owner == c) && bytes_eq h.name n) hs

-- the field of a name that a class itself declares
abbrev pub own_field : Table → ℕ → List ℕ → Option ℕ
own_field t c n = field_in t.fields c n

-- the first of the two that is there, the second at the superclass
abbrev pub or_above : Option ℕ → Option ClassId → (ℕ → Option ℕ) → Option ℕ
or_above (Some f) above go = Some f
or_above None None go = None
or_above None (Some p) go = go p.0

-- the nearest field of a name upwards, within as many steps as the list is long
abbrev pub nearest_in : Table → List ℕ → List (Option ClassId) → ℕ → Option ℕ
nearest_in t n [] c = own_field t c n
nearest_in t n (_ ∷ steps) c = or_above (own_field t c n) (parent_of t.parents c) (λ p. nearest_in t n steps p)

-- the nearest field of a name in a class and its superclasses
unfoldable pub nearest_field : Table → ℕ → List ℕ → Option ℕ
nearest_field t c n = nearest_in t n t.parents c

-- the method of a name that a class itself declares
unfoldable pub own_method : Table → ℕ → List ℕ → Option ℕ
own_method t c n = method_in t.headings c n

-- the number of the first method with a name in a class and its ancestors
unfoldable pub method_met : Table → ℕ → List ℕ → Option ℕ
method_met t c n = position (λ h. is_above t.above c h.owner && bytes_eq h.name n) t.headings
