-- Believed. What types, fields and methods are called in the new program: by the rows, columns and slots of the old
-- one.
use Rattle.std.specs.Prelude.{ℕ, List, [], Option, Some, None}
use Rattle.std.specs.Option.{option_map, option_map_or, option_and_then}
use Rattle.java_core.specs.declared.Ty.{Ty}
use Rattle.java_core.specs.declared.TyBase.{TyBase}
use Rattle.java_core.specs.declared.TyBase.TheVariants.{Int, Boolean, Char, Str, Class}
use Rattle.java_core.specs.Programs.{Plain}
use Rattle.hier_model.specs.Hierarchies.{Hierarchy, place_of_row, member_name}
use Rattle.flow_rules.specs.declared.items.RowItem.{RowItem}
use Rattle.flow_rules.specs.declared.items.ColumnItem.TheVariants as column
use Rattle.flow_rules.specs.Facts.{numbers, a_make, fixed_names, name_for}

-- the class of each live node, the class where the static members of each old class stand, and that of the methods that make objects
pub record Places : Type 0 where
  pub type_of : ℕ → ℕ
  pub holder_of : ℕ → ℕ
  pub makers : ℕ

-- the class of an item's row, the names of the fields and of the methods by their old numbers, the holders, and the names of the methods that make
-- objects, by the number of the creation
pub record Renaming : Type 0 where
  pub row_type : RowItem → Option ℕ
  pub field_name : ℕ → List ℕ
  pub method_name : ℕ → List ℕ
  pub holder_of : ℕ → ℕ
  pub makers : ℕ
  pub make_name : ℕ → List ℕ

-- the name that is fixed for the method that makes the objects of a creation
abbrev pub make_name : Plain → ℕ → List ℕ
make_name P n = option_map_or (λ x. x) (option_and_then (λ s. name_for (a_make s) (fixed_names P)) ((numbers P).site n)) []

-- the name of a column, where there is one
abbrev pub column_name : Hierarchy → Option ℕ → List ℕ
column_name H c = option_map_or (member_name H) c []

-- a row's type is the class of the node where the row stands; fields and methods have the names of their columns, of which those of one slot have one
unfoldable pub renaming_of : Plain → Hierarchy → Places → Renaming
renaming_of P H W = record {
  row_type = λ i. option_map (λ r. W.type_of (place_of_row H r)) ((numbers P).row i);
  field_name = λ f. column_name H ((numbers P).column (column.Fld f));
  method_name = λ m. column_name H ((numbers P).column (column.Dcl m));
  holder_of = W.holder_of;
  makers = W.makers;
  make_name = make_name P;
}

-- a class is replaced by that of a row, where there is one; what is no class stays
abbrev pub reclassed : Option ℕ → TyBase → TyBase
reclassed (Some k) (Class c) = Class (record { 0 = k })
reclassed (Some k) Int = Int
reclassed (Some k) Boolean = Boolean
reclassed (Some k) Char = Char
reclassed (Some k) Str = Str
reclassed None b = b

-- the type of what has a row: the class of the row's node, with the old dimension
abbrev pub retyped : Option ℕ → Ty → Ty
retyped k t = record { base = reclassed k t.base; dim = t.dim }

-- the new type of a result, where a method has one
abbrev pub retyped_if : Option ℕ → Option Ty → Option Ty
retyped_if k t = option_map (retyped k) t
