-- A parameter, by the parts that it is made of.
use Rattle.std.proofs.Common.{◌≡◌, ℕ, List, false, ap, ◌∙◌}
use Rattle.kaba_base.specs.declared.Place.{Place}
use Rattle.java_tree.specs.declared.Param.{Param}
use Rattle.java_tree.specs.declared.TypeName.{TypeName}
use Rattle.java_core.specs.Programs.{Plain, PlainMethod, PlainLocal}
use Rattle.flow_rules.specs.declared.items.RowItem.{RowItem}
use Rattle.flow_rules.specs.Operands.{variable_row}
use Rattle.hier_model.specs.Hierarchies.{Hierarchy}
use Rattle.rebuild_model.specs.Renaming.{Renaming}
use Rattle.write_model.specs.Names.{written_type, nowhere}
use Rattle.write_model.specs.Members.{param}

abbrev of_parts : TypeName → List ℕ → Place → Param
of_parts ty name place = record { is_final = false; ty = ty; name = name; place = place }

-- its type is that of the node of its row
pub param_is : (P : Plain) (R : Renaming) (H : Hierarchy) (m : ℕ) (k : PlainMethod) (number : ℕ) (v : PlainLocal) (item : RowItem) (ty : TypeName)
    (name : List ℕ) (place : Place) → item ≡ variable_row m k number → ty ≡ written_type P H (R.row_type item) v.ty → name ≡ v.name → place ≡ nowhere
    → of_parts ty name place ≡ param P R H m k number v
param_is P R H m k number v item ty name place row type named placeless =
    ap (λ (t : TypeName). of_parts t name place) (type ∙ ap (λ (i : RowItem). written_type P H (R.row_type i) v.ty) row)
    ∙ ap (λ (n : List ℕ). of_parts (written_type P H (R.row_type (variable_row m k number)) v.ty) n place) named
    ∙ ap (λ (p : Place). of_parts (written_type P H (R.row_type (variable_row m k number)) v.ty) v.name p) placeless
