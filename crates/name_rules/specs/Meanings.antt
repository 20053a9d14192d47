-- Believed. What a name means in a body: a variable, a class, a member. `O` is the outline of the program: its classes,
-- fields and methods.
use Rattle.std.specs.Prelude.{◌≡◌, ℕ, ◌==◌, ◌&&◌, not, Bool, true, false, List, [], ◌∷◌, map, Option, Some, None, slice_get, position, if◌then◌else◌}
use Rattle.std.specs.Option.{is_none}
use Rattle.std.specs.List.{list_any}
use Rattle.std.specs.Str.{bytes_eq}
use Rattle.java_tree.specs.declared.TypeName.{TypeName}
use Rattle.java_tree.specs.declared.TypeBase.{TypeBase}
use Rattle.java_tree.specs.declared.TypeBase.TheVariants as bases
use Rattle.java_tree.specs.Syntax.{Expression, NameRef}
use Rattle.java_core.specs.declared.Ty.{Ty}
use Rattle.java_core.specs.declared.TyBase.{TyBase}
use Rattle.java_core.specs.declared.TyBase.TheVariants as ty
use Rattle.java_core.specs.Programs.{Plain, PlainField, PlainMethod}
use Rattle.java_core.specs.Classes.{IsSubclass, own_field_of, field_of, search_order, first_found, class_id}
use Rattle.name_rules.specs.declared.parts.Bound.{Bound}
use Rattle.name_rules.specs.Outline.{type_named, is_text_type}

-- ---- types

-- the names of the classes and interfaces by number
abbrev pub type_names : Plain → List (List ℕ)
type_names O = map (λ k. k.name) O.classes

-- the class or interface of a name
abbrev pub class_named : Plain → List ℕ → Option ℕ
class_named O n = type_named (type_names O) n

-- the base of a type; String stands only here
pub data MeansBase (O : Plain) : TypeBase → TyBase → Type 0 where
  an_int : MeansBase O bases.Int ty.Int
  a_boolean : MeansBase O bases.Boolean ty.Boolean
  a_char : MeansBase O bases.Char ty.Char
  a_text : {n : List ℕ} → is_text_type n ≡ true → MeansBase O (bases.Named n) ty.Str
  a_class : {n : List ℕ} {c : ℕ} → is_text_type n ≡ false → class_named O n ≡ Some c → MeansBase O (bases.Named n) (ty.Class (class_id c))

-- the type that the name of a type means
pub record Means (O : Plain) (u : TypeName) (t : Ty) : Type 0 where
  pub base : MeansBase O u.base t.base
  pub dim : t.dim ≡ u.dim

-- the base of a cast's type: String is no class that can be asked for
pub data MeansCastBase (O : Plain) : TypeBase → TyBase → Type 0 where
  to_int : MeansCastBase O bases.Int ty.Int
  to_boolean : MeansCastBase O bases.Boolean ty.Boolean
  to_char : MeansCastBase O bases.Char ty.Char
  to_class : {n : List ℕ} {c : ℕ} → class_named O n ≡ Some c → MeansCastBase O (bases.Named n) (ty.Class (class_id c))

-- the type that the name of a type means in a cast: its base, and as many brackets as are written
pub record MeansCast (O : Plain) (u : TypeName) (t : Ty) : Type 0 where
  pub base : MeansCastBase O u.base t.base
  pub dim : t.dim ≡ u.dim

-- ---- variables

-- the number of the local in scope under a name
abbrev pub local_of : List ℕ → List Bound → Option ℕ
local_of n [] = None
local_of n (b ∷ bs) = if bytes_eq b.name n then Some b.number else local_of n bs

-- the number of the parameter or local in scope under a name
abbrev pub in_scope : List Bound → List ℕ → Option ℕ
in_scope scope n = local_of n scope

-- whether a name is one of those in scope
abbrev pub is_bound : List (List ℕ) → List ℕ → Bool
is_bound names n = list_any (λ m. bytes_eq m n) names

-- the names in scope
abbrev pub bound_names : List Bound → List (List ℕ)
bound_names scope = map (λ b. b.name) scope

-- whether an expression before a dot is a simple name that no variable has, and so the name of a class: no parameter and no local in scope, and no
-- field from the holding class upwards
abbrev pub is_class_name : Plain → ℕ → List (List ℕ) → Expression → Bool
is_class_name O c names (NameRef n p) = not (is_bound names n) && is_none (field_of O c n)
is_class_name O c names _ = false

-- ---- members

-- the static field of a name that a class itself declares
pub record IsStaticFieldOf (O : Plain) (c : ℕ) (n : List ℕ) (f : ℕ) : Type 0 where
  pub member : PlainField
  pub own : own_field_of O c n ≡ Some f
  pub stands : slice_get O.fields f ≡ Some member
  pub static : member.is_static ≡ true

-- the static method of a name that a class itself declares
pub record IsStaticMethodOf (O : Plain) (c : ℕ) (n : List ℕ) (m : ℕ) : Type 0 where
  pub member : PlainMethod
  pub stands : slice_get O.methods m ≡ Some member
  pub owner : member.owner ≡ c
  pub name : member.name ≡ n
  pub static : member.is_static ≡ true

-- the nearest field of a name from a class upwards
pub record IsNearestField (O : Plain) (c : ℕ) (n : List ℕ) (f : ℕ) (member : PlainField) : Type 0 where
  pub nearest : field_of O c n ≡ Some f
  pub stands : slice_get O.fields f ≡ Some member

-- a method of a name in a class or its ancestors, interfaces included
pub record IsMet (O : Plain) (c : ℕ) (n : List ℕ) (m : ℕ) (member : PlainMethod) : Type 0 where
  pub stands : slice_get O.methods m ≡ Some member
  pub name : member.name ≡ n
  pub above : IsSubclass O c member.owner

-- whether a method, an instance or a static one, is declared in this class or interface under this name
abbrev pub is_named_in : ℕ → List ℕ → PlainMethod → Bool
is_named_in c n k = (k.owner == c) && bytes_eq k.name n

-- the method of a name that a class or interface itself declares: the first in the text
abbrev pub named_method : Plain → ℕ → List ℕ → Option ℕ
named_method O c n = position (λ k. is_named_in c n k) O.methods

-- the method that a call by a simple name finds first, from the holding class upwards: in the class and its superclasses, the nearest first, then
-- in the interfaces that these name, each followed by its own
unfoldable pub first_method : Plain → ℕ → List ℕ → Option ℕ
first_method O c n = first_found (λ k. named_method O k n) (search_order O c)

-- the method that is found first, by its number
pub record IsFirstMethod (O : Plain) (c : ℕ) (n : List ℕ) (m : ℕ) (member : PlainMethod) : Type 0 where
  pub first : first_method O c n ≡ Some m
  pub stands : slice_get O.methods m ≡ Some member
