-- Mirror. What members are looked for by.
use Rattle.std.specs.Prelude.{ℕ, not, Bool, true, List, Option, None}
use Rattle.java_core.specs.declared.Field.{Field}
use Rattle.java_core.specs.declared.Method.{Method}

-- the class or interface that a member stands in, its name, the slot of a method, and whether it is looked for by its name from the classes below
pub record MemberKeys : Type 0 where
  pub owner : ℕ
  pub name : List ℕ
  pub slot : Option ℕ
  pub is_inherited : Bool

-- each field is looked for from below, static ones too
abbrev pub field_keys : Field → MemberKeys
field_keys f = record { owner = f.owner.0; name = f.name; slot = None; is_inherited = true }

-- of methods those of instances are
abbrev pub method_keys : Method → MemberKeys
method_keys m = record { owner = m.owner.0; name = m.name; slot = m.slot; is_inherited = not m.is_static }
