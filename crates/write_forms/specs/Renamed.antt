-- Mirror. The renaming that a numbering of the rows and columns gives, and how it fits a hierarchy.
use Rattle.std.specs.Prelude.{◌≡◌, ℕ, ◌<◌, nat_eq, List, [], length, Option, Some, slice_get, option_and_then}
use Rattle.std.specs.Option.{option_map, option_map_or}
use Rattle.hier_model.specs.Hierarchies.{Hierarchy, place_of_row}
use Rattle.flow_rules.specs.declared.items.RowItem.{RowItem}
use Rattle.flow_rules.specs.declared.items.ColumnItem.{ColumnItem}
use Rattle.flow_rules.specs.declared.items.ColumnItem.TheVariants as column
use Rattle.flow_rules.specs.Numbered.{number_among, same_row, same_column}
use Rattle.write_forms.specs.declared.numbers.Numbering.{Numbering}
use Rattle.rebuild_model.specs.Renaming.{Renaming, column_name}

-- the name of the method that makes the objects of a creation, by its site, where it has one
abbrev pub make_at : Numbering → ℕ → Option (List ℕ)
make_at n i = option_and_then (λ s. slice_get n.makes.items s) (number_among nat_eq n.sites.keys i)

-- a row's type is named by the node where the row stands, fields and methods by their columns, the methods that make objects by the site
abbrev pub renamed : Numbering → Hierarchy → Renaming
renamed n H = record {
  row_type = λ i. option_map (λ r. place_of_row H r) (number_among same_row n.rows.keys i);
  field_name = λ f. column_name H (number_among same_column n.columns.keys (column.Fld f));
  method_name = λ m. column_name H (number_among same_column n.columns.keys (column.Dcl m));
  holder_of = λ c. c;
  makers = 0;
  make_name = λ i. option_map_or (λ x. x) (make_at n i) [];
}

-- the rows and columns numbered are those of the hierarchy, and rows stand at its nodes
pub record IsFitting (n : Numbering) (H : Hierarchy) : Type 0 where
  pub rows : (i : RowItem) (r : ℕ) → number_among same_row n.rows.keys i ≡ Some r → r < length H.rows
  pub columns : (i : ColumnItem) (c : ℕ) → number_among same_column n.columns.keys i ≡ Some c → c < length H.members
  pub placed : (r : ℕ) → r < length H.rows → place_of_row H r < length H.types
