-- Believed. Which plain program a program is.
use Rattle.std.specs.Prelude.{◌≡◌, map}
use Rattle.std.specs.declared.vec.Vec.{Vec}
use Rattle.std.specs.declared.alloc.Global.{Global}
use Rattle.kaba_base.specs.declared.MemberId.{MemberId}
use Rattle.java_core.specs.declared.Class.{Class}
use Rattle.java_core.specs.declared.Field.{Field}
use Rattle.java_core.specs.declared.Method.{Method}
use Rattle.java_core.specs.declared.Slot.{Slot}
use Rattle.java_core.specs.declared.Program.{Program}
pub use Rattle.java_core.specs.Plain.{PlainLocal, PlainClass, PlainField, PlainMethod, PlainSlot, Plain, local_seen, class_seen, field_seen, method_seen, code_seen, slot_seen}

-- each of its parts carries its place. No rule of types and no rule of a run looks at it
abbrev pub program_of : Program → Plain
program_of p =
    record {
      main = p.main.0;
      classes = map class_seen p.classes.items;
      fields = map field_seen p.fields.items;
      methods = map method_seen p.methods.items;
      slots = map slot_seen p.slots.items;
    }

-- a program has these parts
pub record IsMadeOf (classes : Vec Class Global) (fields : Vec Field Global) (methods : Vec Method Global) (slots : Vec Slot Global) (main : MemberId)
    (p : Program) : Type 0 where
  pub classes_are : p.classes ≡ classes
  pub fields_are : p.fields ≡ fields
  pub methods_are : p.methods ≡ methods
  pub slots_are : p.slots ≡ slots
  pub main_is : p.main ≡ main
