-- Believed. Where the declarations of a tree ask for a type by its name.
use Rattle.std.specs.Prelude.{◌≡◌, ℕ, false, List, Contains, Some}
use Rattle.kaba_base.specs.declared.Place.{Place}
use Rattle.java_tree.specs.declared.Id.{Id}
use Rattle.java_tree.specs.declared.TypeName.{TypeName}
use Rattle.java_tree.specs.declared.TypeBase.TheVariants as bases
use Rattle.java_tree.specs.declared.Param.{Param}
use Rattle.java_tree.specs.Syntax.{DeclTree}
use Rattle.name_rules.specs.Outline.{FieldAt, MethodAt, fields_in, methods_in, parent_named, faces_named, is_text_type}

-- a supertype that a declaration names
pub data IsSuper (tree : List DeclTree) : Id → Type 0 where
  a_parent : {d : DeclTree} {i : Id} → Contains tree d → parent_named d ≡ Some i → IsSuper tree i
  a_face : {d : DeclTree} {i : Id} → Contains tree d → Contains (faces_named d) i → IsSuper tree i

-- the type of a field, a parameter or a result
pub data IsDeclared (tree : List DeclTree) : TypeName → Type 0 where
  of_field : {f : FieldAt} → Contains (fields_in tree) f → IsDeclared tree f.type
  of_param : {m : MethodAt} {q : Param} → Contains (methods_in tree) m → Contains m.head.params q → IsDeclared tree q.ty
  of_result : {m : MethodAt} {u : TypeName} → Contains (methods_in tree) m → m.head.type ≡ Some u → IsDeclared tree u

-- a class or interface is asked for by this name at this place; String is a type, but no class
pub data Asks (tree : List DeclTree) : List ℕ → Place → Type 0 where
  by_super : {i : Id} → IsSuper tree i → Asks tree i.name i.place
  by_type : {u : TypeName} {n : List ℕ} → IsDeclared tree u → u.base ≡ bases.Named n → is_text_type n ≡ false → Asks tree n u.place
