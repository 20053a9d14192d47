-- Believed. A resolved program as plain data, and which plain data its parts are.
use Rattle.std.specs.Prelude.{ℕ, Bool, List, Option, map}
use Rattle.std.specs.Option.{option_copied}
use Rattle.kaba_base.specs.declared.ClassId.{ClassId}
use Rattle.java_core.specs.declared.Ty.{Ty}
use Rattle.java_core.specs.declared.Local.{Local}
use Rattle.java_core.specs.declared.Class.{Class}
use Rattle.java_core.specs.declared.Field.{Field}
use Rattle.java_core.specs.declared.Method.{Method}
use Rattle.java_core.specs.declared.code.Code.{Code}
use Rattle.java_core.specs.declared.Slot.{Slot}
use Rattle.java_core.specs.Trees.{Tag, Sts, at_place, body_seen}

-- a parameter or a local
pub record PlainLocal : Type 0 where
  pub name : List ℕ
  pub ty : Ty
  pub tag : Tag

-- a class or an interface
pub record PlainClass : Type 0 where
  pub name : List ℕ
  pub is_interface : Bool
  pub is_abstract : Bool
  pub parent : Option ClassId
  pub faces : List ClassId
  pub tag : Tag

-- a field: the class that declares it, its name, whether it is static, its type
pub record PlainField : Type 0 where
  pub owner : ℕ
  pub name : List ℕ
  pub is_static : Bool
  pub ty : Ty
  pub tag : Tag

-- a method: the class that declares it, its heading, its slot, its variables and its body
pub record PlainMethod : Type 0 where
  pub owner : ℕ
  pub name : List ℕ
  pub is_static : Bool
  pub is_public : Bool
  pub slot : Option ℕ
  pub params : List PlainLocal
  pub locals : List PlainLocal
  pub result : Option Ty
  pub body : Option Sts
  pub tag : Tag

-- a slot, which all instance methods of one name, parameter types and result share, and the first of these methods
pub record PlainSlot : Type 0 where
  pub name : List ℕ
  pub params : List Ty
  pub result : Option Ty
  pub first : ℕ

-- a program: class 0 is Object
pub record Plain : Type 0 where
  pub classes : List PlainClass
  pub fields : List PlainField
  pub methods : List PlainMethod
  pub slots : List PlainSlot
  pub main : ℕ

-- which plain data they are
abbrev pub local_seen : Local → PlainLocal
local_seen l = record { name = l.name; ty = l.ty; tag = at_place l.place }

-- what a class of the code says, as a value of the specification
abbrev pub class_seen : Class → PlainClass
class_seen c =
    record { name = c.name; is_interface = c.is_interface; is_abstract = c.is_abstract; parent = c.parent; faces = c.faces.items; tag = at_place c.place }

-- what a field of the code says, as a value of the specification
abbrev pub field_seen : Field → PlainField
field_seen f = record { owner = f.owner.0; name = f.name; is_static = f.is_static; ty = f.ty; tag = at_place f.place }

-- what a method of the code says, as a value of the specification
abbrev pub method_seen : Method → PlainMethod
method_seen m =
    record {
      owner = m.owner.0;
      name = m.name;
      is_static = m.is_static;
      is_public = m.is_public;
      slot = m.slot;
      params = map local_seen m.params.items;
      locals = map local_seen m.locals.items;
      result = m.result;
      body = body_seen m.body;
      tag = at_place m.place;
    }

-- what a body with its heading says, as a value of the specification
abbrev pub code_seen : Code → PlainMethod
code_seen c =
    record {
      owner = c.owner.0;
      name = c.name.now;
      is_static = c.is_static;
      is_public = c.is_public;
      slot = c.slot;
      params = map local_seen c.params.now.items;
      locals = map local_seen c.locals.now.items;
      result = c.result;
      body = body_seen (option_copied c.body);
      tag = at_place c.place;
    }

-- what a slot of the code says, as a value of the specification
abbrev pub slot_seen : Slot → PlainSlot
slot_seen s = record { name = s.name; params = s.params.items; result = s.result; first = s.first.0 }
