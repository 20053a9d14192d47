-- Mirror. What a part of the code is, as plain data.
use Rattle.std.specs.Prelude.{ℕ, List, map, Option, Some, None, option_and_then}
use Rattle.std.specs.Option.{option_map}
use Rattle.java_core.specs.Programs.{Plain, PlainMethod}
use Rattle.java_core.specs.Classes.{super_method}
use Rattle.flow_rules.specs.declared.items.ObjectType.{ObjectType}
use Rattle.flow_rules.specs.declared.items.Operand.{Operand}
use Rattle.flow_rules.specs.declared.items.RowItem.{RowItem}
use Rattle.flow_rules.specs.declared.items.RowItem.TheVariants as row
use Rattle.flow_rules.specs.declared.items.PointItem.TheVariants as point
use Rattle.flow_rules.specs.Operands.{object_field, call_slot, super_slot, class_object, variable_row}
use Rattle.flow_rules.specs.Types.{field_object, slot_object, method_object, variable_object}
use Rattle.flow_rules.specs.declared.items.Part.{Part}
use Rattle.flow_rules.specs.declared.items.Part.TheVariants as the
use Rattle.flow_rules.specs.declared.items.Body.{Body}
use Rattle.flow_rules.specs.declared.items.Outline.{Outline}
use Rattle.flow_rules.specs.Parts as plain
use Rattle.flow_rules.specs.Numbered as numbered

-- a part of a body, with its operands as they are
abbrev pub part_seen : Part → plain.Part
part_seen (the.Load p b f o) = plain.a_load p b f o
part_seen (the.Element p b o) = plain.an_element p b o
part_seen (the.New p u o s d es) = plain.a_creation p u o s d es.items
part_seen (the.Call p b s d es o) = plain.a_call p b s d es.items o
part_seen (the.StaticCall p m es o) = plain.a_static_call p m es.items o
part_seen (the.SuperCall p m es o) = plain.a_super_call p m es.items o
part_seen (the.Test p e o) = plain.a_test p e o
part_seen (the.Pair o l r) = plain.a_pair o l r
part_seen (the.Set v o) = plain.a_set v o
part_seen (the.Store p b f o) = plain.a_store p b f o
part_seen (the.ElementStore p b o) = plain.an_element_store p b o
part_seen (the.Return o) = plain.a_return o

-- the parts of a list, in their order
abbrev pub parts_seen : List Part → List plain.Part
parts_seen xs = map part_seen xs

-- what a form with a label is
abbrev pub labelled_operand : ℕ → ℕ → Option RowItem → Option ObjectType → Operand
labelled_operand m n r t = record { point = Some (point.Expr m n); row = r; ty = t; created = None }

-- a read of a field, a call of an instance method, a call of a static method and a super call, with their labels
abbrev pub load_operand : Plain → ℕ → ℕ → Option ObjectType → List ℕ → Operand
load_operand P m n s x = labelled_operand m n (option_map row.Field (object_field P s x)) (option_and_then (field_object P) (object_field P s x))

-- a call of an instance method: the row and the type of what its slot gives back
abbrev pub call_operand : Plain → ℕ → ℕ → Option ObjectType → List ℕ → Operand
call_operand P m n s x = labelled_operand m n (option_map row.Return (call_slot P s x)) (option_and_then (slot_object P) (call_slot P s x))

-- a call of a static method: the row and the type of what the method gives back
abbrev pub static_operand : Plain → ℕ → ℕ → ℕ → Operand
static_operand P m n d = labelled_operand m n (Some (row.Result d)) (method_object P d)

-- a super call: the row of what its slot gives back, and the type that the method gives back
abbrev pub super_operand : Plain → ℕ → ℕ → ℕ → List ℕ → Operand
super_operand P m n c x = labelled_operand m n (option_map row.Return (super_slot P c x)) (option_and_then (method_object P) (super_method P c x))

-- a creation of the number n of an object of the class c, with the label l
abbrev pub creation_operand : ℕ → ℕ → ℕ → ℕ → Operand
creation_operand m l n c = record { point = Some (point.Expr m l); row = Some (row.New n); ty = class_object c; created = Some n }

-- a parameter or a local, and a static field
abbrev pub variable_operand : ℕ → PlainMethod → ℕ → Operand
variable_operand m k i = record { point = Some (point.Local m i); row = Some (variable_row m k i); ty = variable_object k i; created = None }

-- a static field as it is read or assigned to
abbrev pub static_place : Plain → ℕ → Operand
static_place P f = record { point = Some (point.Static f); row = Some (row.Field f); ty = field_object P f; created = None }

-- a body and its outline
abbrev pub body_seen : Body → numbered.BodyParts
body_seen b = record { number = b.number; slot = b.slot; parts = parts_seen b.parts.items }

-- the place of a body and what may be its flow points, as plain data
abbrev pub outline_seen : Outline → numbered.Outline
outline_seen o = record { place = o.place; points = o.points.items }
