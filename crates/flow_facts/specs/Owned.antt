-- Mirror. The fields of an object, by the classes that have them.
use Rattle.std.specs.Prelude.{◌≡◌, ◌≢◌, ℕ, zero, suc, ◌+◌, ◌<◌, ◌≤◌, ◌==◌, false, List, [], ◌∷◌, ◌++◌, length, map, filter, Option, Some, None, slice_get}
use Rattle.std.specs.Option.{option_map_or}
use Rattle.std.specs.declared.vec.Vec.{Vec}
use Rattle.std.specs.declared.alloc.Global.{Global}
use Rattle.kaba_base.specs.declared.ClassId.{ClassId}
use Rattle.java_core.specs.Programs.{Plain}
use Rattle.java_core.specs.Classes.{parent_of, is_interface}
use Rattle.fact_model.specs.declared.facts.CellInfo.{CellInfo}
use Rattle.flow_rules.specs.Facts.{FieldCell}
use Rattle.flow_facts.specs.declared.cells.FieldCell as code
use Rattle.flow_facts.specs.Seen.{field_cell_seen}

-- a class other than Object, as each that has fields is
pub record IsHolder (P : Plain) (o : ℕ) : Type 0 where
  pub no_object : o ≢ 0
  pub class : is_interface P o ≡ false
  pub within : o < length P.classes

-- fields of such classes in the rising order of their columns, none of them below n
abbrev pub AreFieldsListed : Plain → ℕ → List FieldCell → Type 0
AreFieldsListed P n [] = Unit {0}
AreFieldsListed P n (f ∷ fs) = (n ≤ f.column) × (IsHolder P f.owner × AreFieldsListed P (f.column + 1) fs)

-- the fields of one class itself
abbrev pub own_of : List FieldCell → ℕ → List FieldCell
own_of fs c = filter (λ f. c == f.owner) fs

-- and those of the classes above it, the nearest first, within n steps
abbrev pub upwards : Plain → (ℕ → List FieldCell) → ℕ → Option ClassId → List FieldCell
upwards P own zero c = []
upwards P own (suc n) None = []
upwards P own (suc n) (Some c) = own c.0 ++ upwards P own n (parent_of P c.0)

-- what a table has for a class
abbrev pub own_at : List (Vec code.FieldCell Global) → ℕ → List FieldCell
own_at vs c = option_map_or (λ v. map field_cell_seen v.items) (slice_get vs c) []

-- the cell of the object site i for a field
abbrev pub cell_of : ℕ → FieldCell → List CellInfo
cell_of i k = record { site = record { 0 = i }; column = Some (record { 0 = k.column }); row = record { 0 = k.row } } ∷ []
