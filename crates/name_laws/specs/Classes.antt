-- Mirror. The classes and interfaces of a tree: their names, modifiers and supertypes, and which are above which.
use Rattle.std.specs.Prelude.{ℕ, ◌+◌, ◌||◌, ◌==◌, not, Bool, true, false, List, [], ◌∷◌, ◌++◌, Option, Some, None, is_some, Result, Ok, Err, codes, if◌then◌else◌, slice_get}
use Rattle.std.specs.Str.{chars}
use Rattle.kaba_base.specs.declared.Place.{Place}
use Rattle.kaba_base.specs.declared.ClassId.{ClassId}
use Rattle.kaba_base.specs.declared.words.Keyword.{Keyword}
use Rattle.kaba_base.specs.declared.words.Keyword.TheVariants as keys
use Rattle.java_tree.specs.declared.Id.{Id}
use Rattle.java_tree.specs.declared.Modifier.{Modifier}
use Rattle.java_tree.specs.Syntax.{DeclTree, ClassTree, InterfaceTree}
use Rattle.java_core.specs.Trees.{at_place}
use Rattle.java_core.specs.Programs.{PlainClass}
use Rattle.name_rules.specs.declared.Form.TheVariants as forms
use Rattle.name_rules.specs.Outline.{name_of, place_of, is_interface_of}
use Rattle.name_rules.specs.Conditions.{is_unfit}
use Rattle.name_rules.specs.declared.Refusal.{Refusal}
use Rattle.name_rules.specs.declared.Refusal.TheVariants.{Twice, TwoKinds, Loop, NotInProfile}
use Rattle.name_laws.specs.Known.{KnownClass}
use Rattle.name_rules.specs.declared.parts.Kind.{Kind}
use Rattle.name_rules.specs.declared.parts.Kind.TheVariants as kinds
use Rattle.name_laws.specs.declared.parts.Flags.{Flags}
use Rattle.name_laws.specs.Answers.{with, run}
use Rattle.name_laws.specs.Names.{is_apart, number_of, asked}
use Rattle.name_laws.specs.Tables.{is_above}
pub use Rattle.java_core.specs.Classes.{class_id}
pub use Rattle.java_core.specs.Subtypes.{of_classes, subtype_rows}

-- Object, as the other declarations know it
abbrev pub object_known : KnownClass
object_known = record { name = chars (codes "Object"); is_interface = false }

-- the types so far, and one more; a class of a known name is there twice
abbrev pub know_named : List KnownClass → List ℕ → Bool → Place → Result (List KnownClass) Refusal
know_named ks n interface p = if is_apart n || is_some (number_of ks n) then Err (Twice n p) else Ok (ks ++ record { name = n; is_interface = interface } ∷ [])

-- the types so far, and that of one more declaration
abbrev pub know : List KnownClass → DeclTree → Result (List KnownClass) Refusal
know ks d = know_named ks (name_of d) (is_interface_of d) (place_of d)

-- the names of all types, Object first
abbrev pub known_of : List DeclTree → Result (List KnownClass) Refusal
known_of tree = run know (object_known ∷ []) tree

-- ---- modifiers

-- no modifier stands
abbrev pub no_flags : Flags
no_flags = record { is_public = false; is_protected = false; is_private = false; is_abstract = false; is_static = false; is_final = false }

-- whether a modifier stands already, or one that disagrees with it
abbrev pub is_taken : Flags → Keyword → Bool
is_taken f keys.Public = f.is_public
is_taken f keys.Protected = f.is_protected
is_taken f keys.Private = f.is_private || f.is_abstract
is_taken f keys.Abstract = (f.is_abstract || f.is_private) || f.is_static
is_taken f keys.Static = f.is_static || f.is_abstract
is_taken f keys.Final = f.is_final
is_taken f _ = false

-- one modifier more
abbrev pub noted : Flags → Keyword → Flags
noted f keys.Public = record f { is_public = true }
noted f keys.Protected = record f { is_protected = true }
noted f keys.Private = record f { is_private = true }
noted f keys.Abstract = record f { is_abstract = true }
noted f keys.Static = record f { is_static = true }
noted f keys.Final = record f { is_final = true }
noted f _ = f

-- the modifiers so far, and one more, which fits there and agrees with them
abbrev pub flag : Kind → Flags → Modifier → Result Flags Refusal
flag k f m = if is_taken f m.word || is_unfit k m.word then Err (NotInProfile forms.Modifier m.place) else Ok (noted f m.word)

-- the modifiers of a declaration of this kind, each of which fits there and agrees with those before it
abbrev pub flags_of : Kind → List Modifier → Result Flags Refusal
flags_of k mods = run (flag k) no_flags mods

-- ---- supertypes

-- whether the type that was found is an interface
abbrev pub is_face_in : Option KnownClass → Bool
is_face_in None = false
is_face_in (Some k) = k.is_interface

-- whether the type of this number is an interface
abbrev pub is_face : List KnownClass → ℕ → Bool
is_face known k = is_face_in (slice_get known k)

-- the superclass: Object where none is named; an interface is none
abbrev pub parent_tree : List KnownClass → Option Id → Result ℕ Refusal
parent_tree known None = Ok 0
parent_tree known (Some i) = with (asked known i.name i.place) (λ k. if is_face known k then Err (TwoKinds i.name i.place) else Ok k)

-- whether the class of a number is in a list
abbrev pub has_id : List ClassId → ℕ → Bool
has_id [] k = false
has_id (c ∷ cs) k = if c.0 == k then true else has_id cs k

-- the interfaces so far, and one more, which is no class and not there yet
abbrev pub face : List KnownClass → List ClassId → Id → Result (List ClassId) Refusal
face known fs i = with (asked known i.name i.place) (λ k. if not (is_face known k) then Err (TwoKinds i.name i.place) else if has_id fs k then Err
    (Twice i.name i.place) else Ok (fs ++ class_id k ∷ []))

-- the interfaces that the names of a list name, each of which is there once
abbrev pub faces_of : List KnownClass → List Id → Result (List ClassId) Refusal
faces_of known ids = run (face known) [] ids

-- a class or interface of these parts
abbrev pub plain_class : List ℕ → Bool → Bool → Option ClassId → List ClassId → Place → PlainClass
plain_class n interface abstract parent faces p =
    record { name = n; is_interface = interface; is_abstract = abstract; parent = parent; faces = faces; tag = at_place p }

-- the class or interface of a declaration
abbrev pub class_tree : List KnownClass → DeclTree → Result PlainClass Refusal
class_tree known (ClassTree mods n parent faces ms p) =
    with (flags_of kinds.Class mods)
    (λ f. with (parent_tree known parent)
    (λ c. with (faces_of known faces) (λ fs. Ok (plain_class n false f.is_abstract (Some (class_id c)) fs p))))
class_tree known (InterfaceTree mods n parents hs p) =
    with (flags_of kinds.Interface mods) (λ f. with (faces_of known parents) (λ fs. Ok (plain_class n true f.is_abstract (Some (class_id 0)) fs p)))

-- the classes and interfaces so far, and that of one more declaration
abbrev pub class_step : List KnownClass → List PlainClass → DeclTree → Result (List PlainClass) Refusal
class_step known cs d = with (class_tree known d) (λ c. Ok (cs ++ c ∷ []))

-- Object: its place is that of nothing
abbrev pub object_class : PlainClass
object_class = record {
  name = chars (codes "Object");
  is_interface = false;
  is_abstract = false;
  parent = None;
  faces = [];
  tag = at_place
      (record { at = 0; line = 0 });
}

-- all classes and interfaces, Object first
abbrev pub classes_of : List KnownClass → List DeclTree → Result (List PlainClass) Refusal
classes_of known tree = run (class_step known) (object_class ∷ []) tree

-- ---- which types are above which

-- whether something directly above a type is at or below b
abbrev pub any_above : List (List Bool) → List ClassId → ℕ → Bool
any_above rows [] b = false
any_above rows (c ∷ cs) b = if is_above rows c.0 b then true else any_above rows cs b

-- whether the superclass of a type is at or below b; false where there is none
abbrev pub by_parent : List (List Bool) → Option ClassId → ℕ → Bool
by_parent rows None b = false
by_parent rows (Some c) b = is_above rows c.0 b

-- whether something directly above a type is at or below b: its superclass or one of its interfaces
abbrev pub above_by : List (List Bool) → PlainClass → ℕ → Bool
above_by rows c b = by_parent rows c.parent b || any_above rows c.faces b

-- the types at or above each type: no way upwards is longer than the list of types
unfoldable pub above_of : List PlainClass → Result (List (List Bool)) Refusal
above_of all = Ok (subtype_rows all)

-- a class that is its own ancestor
abbrev pub loop_step : List (List Bool) → ℕ → PlainClass → Result ℕ Refusal
loop_step rows a c = if above_by rows c a then Err (Loop c.name c.tag.place) else Ok (a + 1)

-- how many classes there are, none of which is its own ancestor
abbrev pub loops_of : List (List Bool) → List PlainClass → Result ℕ Refusal
loops_of rows all = run (loop_step rows) 0 all
