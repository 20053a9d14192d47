-- Believed. What the declarations of a tree say: the types by number, who names whom as a supertype, and the fields and
-- methods in the order of the text with
-- their owners; a constructor is one of the methods, and one that a class has without writing it stands behind all others.
use Rattle.std.specs.Prelude.{ℕ, zero, suc, slice_get, option_and_then, ◌||◌, Bool, true, false, List, [], ◌∷◌, ◌++◌, map, Option, Some, None, codes, if◌then◌else◌, position}
use Rattle.std.specs.Option.{option_map, is_some}
use Rattle.std.specs.List.{list_any}
use Rattle.std.specs.Str.{bytes_eq}
use Rattle.kaba_base.specs.declared.Place.{Place}
use Rattle.kaba_base.specs.declared.ClassId.{ClassId}
use Rattle.kaba_base.specs.declared.words.Keyword.{Keyword}
use Rattle.kaba_base.specs.declared.words.Keyword.TheVariants as keys
use Rattle.java_tree.specs.declared.Id.{Id}
use Rattle.java_tree.specs.declared.Modifier.{Modifier}
use Rattle.java_tree.specs.declared.TypeName.{TypeName}
use Rattle.java_tree.specs.declared.TypeBase.{TypeBase}
use Rattle.java_tree.specs.declared.TypeBase.TheVariants as bases
use Rattle.java_tree.specs.declared.Param.{Param}
use Rattle.java_tree.specs.Syntax.{Expressions, Statements, no_statements, HeadTree, MemberTree, FieldTree, MethodTree, MakerTree, DeclTree, ClassTree, InterfaceTree}
use Rattle.java_tree.specs.Makers.{declares_maker}
use Rattle.java_core.specs.Classes.{nearest_of}
use Rattle.java_core.specs.Makers.{maker_name}
use Rattle.java_core.specs.declared.Ty.{Ty}
use Rattle.java_core.specs.declared.TyBase.{TyBase}
use Rattle.java_core.specs.declared.TyBase.TheVariants as ty
use Rattle.java_core.specs.Trees.{at_place}
use Rattle.java_core.specs.Programs.{Plain, PlainClass, PlainField, PlainMethod, PlainLocal}
use Rattle.java_core.specs.Classes.{class_id}
use Rattle.name_rules.specs.declared.parts.Kind.{Kind}
use Rattle.name_rules.specs.declared.parts.Kind.TheVariants as kinds

-- ---- the parts of declarations

-- the name of a class or interface
abbrev pub name_of : DeclTree → List ℕ
name_of (ClassTree mods n parent faces ms p) = n
name_of (InterfaceTree mods n parents hs p) = n

-- the place at which a class or interface is declared
abbrev pub place_of : DeclTree → Place
place_of (ClassTree mods n parent faces ms p) = p
place_of (InterfaceTree mods n parents hs p) = p

-- the modifiers before a class or interface
abbrev pub mods_of : DeclTree → List Modifier
mods_of (ClassTree mods n parent faces ms p) = mods
mods_of (InterfaceTree mods n parents hs p) = mods

-- whether a declaration is that of an interface
abbrev pub is_interface_of : DeclTree → Bool
is_interface_of (ClassTree mods n parent faces ms p) = false
is_interface_of (InterfaceTree mods n parents hs p) = true

-- the superclass that a class names
abbrev pub parent_named : DeclTree → Option Id
parent_named (ClassTree mods n parent faces ms p) = parent
parent_named (InterfaceTree mods n parents hs p) = None

-- the interfaces that a class or an interface names
abbrev pub faces_named : DeclTree → List Id
faces_named (ClassTree mods n parent faces ms p) = faces
faces_named (InterfaceTree mods n parents hs p) = parents

-- ---- modifiers

-- whether a keyword is `public`
abbrev pub is_public_word : Keyword → Bool
is_public_word keys.Public = true
is_public_word _ = false

-- whether a keyword is `protected`
abbrev pub is_protected_word : Keyword → Bool
is_protected_word keys.Protected = true
is_protected_word _ = false

-- whether a keyword is `private`
abbrev pub is_private_word : Keyword → Bool
is_private_word keys.Private = true
is_private_word _ = false

-- whether a keyword is `abstract`
abbrev pub is_abstract_word : Keyword → Bool
is_abstract_word keys.Abstract = true
is_abstract_word _ = false

-- whether a keyword is `static`
abbrev pub is_static_word : Keyword → Bool
is_static_word keys.Static = true
is_static_word _ = false

-- whether a keyword is `final`
abbrev pub is_final_word : Keyword → Bool
is_final_word keys.Final = true
is_final_word _ = false

-- whether a modifier of a list passes the test
abbrev pub has_word : (Keyword → Bool) → List Modifier → Bool
has_word test mods = list_any (λ m. test m.word) mods

-- ---- names of types

-- the names of the types by number: Object is number 0, the declarations follow in the order of the text
abbrev pub types_in : List DeclTree → List (List ℕ)
types_in tree = codes "Object" ∷ map name_of tree

-- the number of the type of a name
abbrev pub type_named : List (List ℕ) → List ℕ → Option ℕ
type_named types n = position (λ m. bytes_eq m n) types

-- whether a name is `String`
abbrev pub is_text_type : List ℕ → Bool
is_text_type n = bytes_eq (codes "String") n

-- String and System, which are known but name no class that can be asked for
abbrev pub is_known : List ℕ → Bool
is_known n = is_text_type n || bytes_eq (codes "System") n

-- whether a name is a type's, so that no variable, parameter or field may have it
abbrev pub is_type_name : List (List ℕ) → List ℕ → Bool
is_type_name types n = is_some (type_named types n) || is_known n

-- the class of a number; a name that no type has stands for Object here, and is refused as unknown
abbrev pub class_at : Option ℕ → ClassId
class_at None = class_id 0
class_at (Some k) = class_id k

-- the base that the name of a type means: a type of the language, else the class of the name
abbrev pub base_meant : List (List ℕ) → TypeBase → TyBase
base_meant types bases.Int = ty.Int
base_meant types bases.Boolean = ty.Boolean
base_meant types bases.Char = ty.Char
base_meant types (bases.Named n) = if is_text_type n then ty.Str else ty.Class (class_at (type_named types n))

-- the type that the name of a type means
abbrev pub type_meant : List (List ℕ) → TypeName → Ty
type_meant types u = record { base = base_meant types u.base; dim = u.dim }

-- the class that a name means
abbrev pub id_meant : List (List ℕ) → Id → ClassId
id_meant types i = class_at (type_named types i.name)

-- ---- members

-- a field, with the number of its class
pub record FieldAt : Type 0 where
  pub owner : ℕ
  pub mods : List Modifier
  pub type : TypeName
  pub name : List ℕ
  pub place : Place

-- a method or a constructor, with the number of its class or interface and what its modifiers stand before; up has the arguments of the `super(..)`
-- with which a constructor begins
pub record MethodAt : Type 0 where
  pub owner : ℕ
  pub kind : Kind
  pub in_abstract : Bool
  pub head : HeadTree
  pub up : Option Expressions
  pub body : Option Statements

-- the head of the constructor of a class of this name
abbrev pub maker_head : List ℕ → List Modifier → List Param → Place → HeadTree
maker_head n mods ps p = record { mods = mods; type = None; name = maker_name n; params = ps; place = p }

-- the field that a member of the class c is, in a list; none where it is a method or a constructor
abbrev pub field_member : ℕ → MemberTree → List FieldAt
field_member c (FieldTree mods u n p) = record { owner = c; mods = mods; type = u; name = n; place = p } ∷ []
field_member c (MethodTree h body p) = []
field_member c (MakerTree mods n ps up ss p) = []

-- the method or constructor that a member of the class c is, in a list; none where it is a field
abbrev pub method_member : ℕ → Bool → MemberTree → List MethodAt
method_member c abstract (FieldTree mods u n p) = []
method_member c abstract (MethodTree h body p) = record { owner = c; kind = kinds.Method; in_abstract = abstract; head = h; up = None; body = body } ∷ []
method_member c abstract (MakerTree mods n ps up ss p) =
    record { owner = c; kind = kinds.Maker; in_abstract = abstract; head = maker_head n mods ps p; up = up; body = Some ss } ∷ []

-- the fields among the members of the class c, in the order of the text
abbrev pub fields_of : ℕ → List MemberTree → List FieldAt
fields_of c [] = []
fields_of c (m ∷ ms) = field_member c m ++ fields_of c ms

-- the methods among the members of the class c, in the order of the text
abbrev pub methods_of : ℕ → Bool → List MemberTree → List MethodAt
methods_of c abstract [] = []
methods_of c abstract (m ∷ ms) = method_member c abstract m ++ methods_of c abstract ms

-- the methods of the interface c, which have no body
abbrev pub heads_of : ℕ → List HeadTree → List MethodAt
heads_of c hs = map (λ h. record { owner = c; kind = kinds.Head; in_abstract = true; head = h; up = None; body = None }) hs

-- the fields that a declaration of the number c declares; an interface declares none
abbrev pub fields_declared : ℕ → DeclTree → List FieldAt
fields_declared c (ClassTree mods n parent faces ms p) = fields_of c ms
fields_declared c (InterfaceTree mods n parents hs p) = []

-- the methods that a declaration of the number c declares
abbrev pub methods_declared : ℕ → DeclTree → List MethodAt
methods_declared c (ClassTree mods n parent faces ms p) = methods_of c (has_word is_abstract_word mods) ms
methods_declared c (InterfaceTree mods n parents hs p) = heads_of c hs

-- the fields and the methods of declarations of which the first has the number c
abbrev pub fields_from : ℕ → List DeclTree → List FieldAt
fields_from c [] = []
fields_from c (d ∷ ds) = fields_declared c d ++ fields_from (suc c) ds

-- the methods of declarations of which the first has the number c
abbrev pub methods_from : ℕ → List DeclTree → List MethodAt
methods_from c [] = []
methods_from c (d ∷ ds) = methods_declared c d ++ methods_from (suc c) ds

-- the fields of all declarations; the first declaration has the number 1, behind Object
abbrev pub fields_in : List DeclTree → List FieldAt
fields_in tree = fields_from 1 tree

-- whether a method is declared `private`
abbrev pub is_private : MethodAt → Bool
is_private m = has_word is_private_word m.head.mods

-- ---- the outline of a program

-- Object: its place is that of nothing
abbrev pub object : PlainClass
object = record { name = codes "Object"; is_interface = false; is_abstract = false; parent = None; faces = []; tag = at_place (record { at = 0; line = 0 }) }

-- a class without `extends`, and an interface, has Object as its parent
abbrev pub parent_meant : List (List ℕ) → Option Id → ClassId
parent_meant types None = class_id 0
parent_meant types (Some i) = id_meant types i

-- the class or interface of the program that a declaration is
abbrev pub class_outline : List (List ℕ) → DeclTree → PlainClass
class_outline types d =
    record {
      name = name_of d;
      is_interface = is_interface_of d;
      is_abstract = has_word is_abstract_word (mods_of d);
      parent = Some (parent_meant types (parent_named d));
      faces = map (id_meant types) (faces_named d);
      tag = at_place (place_of d);
    }

-- ---- constructors that classes have without writing one

-- the class of a number, where it writes a constructor; number 0 is Object, which is not declared
abbrev pub writes_at : List DeclTree → ℕ → Option ℕ
writes_at tree zero = None
writes_at tree (suc k) = option_and_then (λ d. if declares_maker d then Some (suc k) else None) (slice_get tree k)

-- the types that a tree declares, without their members
abbrev pub classes_alone : List DeclTree → Plain
classes_alone tree = record { classes = object ∷ map (class_outline (types_in tree)) tree; fields = []; methods = []; slots = []; main = 0 }

-- the nearest class that writes a constructor, from a class upwards, the class itself first
abbrev pub writer_of : List DeclTree → ℕ → Option ℕ
writer_of tree c = nearest_of (classes_alone tree) (writes_at tree) c

-- the constructor of a class that writes none, where an ancestor writes one: without parameters, with nothing in it, at the class's name (Java Language
-- Specification, 8.8.9)
abbrev pub implied_maker : ℕ → List ℕ → Place → MethodAt
implied_maker c n p = record { owner = c; kind = kinds.Maker; in_abstract = false; head = maker_head n [] [] p; up = None; body = Some no_statements }

-- the constructor that the declaration of the number c has without writing one, in a list
abbrev pub implied_in : List DeclTree → ℕ → DeclTree → List MethodAt
implied_in tree c d =
    if declares_maker d then [] else if is_some (writer_of tree c) then implied_maker c (name_of d) (place_of d) ∷ [] else []

-- those of declarations of which the first has the number c
abbrev pub implied_from : List DeclTree → ℕ → List DeclTree → List MethodAt
implied_from tree c [] = []
implied_from tree c (d ∷ ds) = implied_in tree c d ++ implied_from tree (suc c) ds

-- the methods and constructors of all declarations, and behind them the constructors that are not written; the first declaration has the number 1,
-- behind Object
abbrev pub methods_in : List DeclTree → List MethodAt
methods_in tree = methods_from 1 tree ++ implied_from tree 1 tree

-- ---- what modifiers say of a method

-- whether something of this kind is a constructor
abbrev pub is_maker_kind : Kind → Bool
is_maker_kind kinds.Class = false
is_maker_kind kinds.Interface = false
is_maker_kind kinds.Field = false
is_maker_kind kinds.Method = false
is_maker_kind kinds.Head = false
is_maker_kind kinds.Maker = true

-- whether it is a constructor
abbrev pub is_maker : MethodAt → Bool
is_maker m = is_maker_kind m.kind

-- whether a method is declared `static`
abbrev pub is_static : MethodAt → Bool
is_static m = has_word is_static_word m.head.mods

-- whether a method is public: one that is declared so, and each constructor, whatever stands before it
abbrev pub is_public : MethodAt → Bool
is_public m = is_maker m || has_word is_public_word m.head.mods

-- the field of the program that a declared field is
abbrev pub field_outline : List (List ℕ) → FieldAt → PlainField
field_outline types f = record {
  owner = f.owner;
  name = f.name;
  is_static = has_word is_static_word f.mods;
  ty = type_meant types f.type;
  tag =
      at_place f.place;
}

-- the parameter of the program that a declared parameter is
abbrev pub param_outline : List (List ℕ) → Param → PlainLocal
param_outline types q = record { name = q.name; ty = type_meant types q.ty; tag = at_place q.place }

-- a method without its slot, its locals and its body
abbrev pub method_outline : List (List ℕ) → MethodAt → PlainMethod
method_outline types m =
    record {
      owner = m.owner;
      name = m.head.name;
      is_static = is_static m;
      is_public = is_public m;
      slot = None;
      params = map (param_outline types) m.head.params;
      locals = [];
      result = option_map (type_meant types) m.head.type;
      body = None;
      tag = at_place m.head.place;
    }

-- the classes, fields and methods that a tree declares, as the program has them but for slots, locals and bodies
unfoldable pub outline : List DeclTree → Plain
outline tree =
    let types = types_in tree in
    record {
      classes = object ∷ map (class_outline types) tree;
      fields = map (field_outline types) (fields_in tree);
      methods = map
          (method_outline types) (methods_in tree);
      slots = [];
      main = 0;
    }
