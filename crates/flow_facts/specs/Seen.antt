-- Mirror. What the numbers, the calls and the fields of the code are, as plain data.
use Rattle.std.specs.Prelude.{nat_eq, List, [], ◌∷◌, map, Option}
use Rattle.std.specs.Option.{option_map_or}
use Rattle.flow_facts.specs.declared.numbering.Numbering.{Numbering}
use Rattle.flow_facts.specs.declared.lists.PlacedCall.{PlacedCall}
use Rattle.flow_facts.specs.declared.cells.FieldCell.{FieldCell}
use Rattle.flow_rules.specs.Numbered.{number_among, same_row, same_column, same_point}
use Rattle.flow_rules.specs.Lists.{Numbers, Placed, PlainCall}
use Rattle.flow_rules.specs.Facts as plain

-- the numbers that a numbering gives
abbrev pub numbers_seen : Numbering → Numbers
numbers_seen n =
    record {
      row = number_among same_row n.rows.keys;
      column = number_among same_column n.columns.keys;
      site = number_among nat_eq n.sites.keys;
      point = number_among same_point n.points.keys;
    }

-- calls at their places
abbrev pub call_at : PlacedCall → Placed PlainCall
call_at c = record { place = c.place; item = plain.call_seen c.call }

-- the calls of a list as plain data, each at its place
abbrev pub calls_seen : List PlacedCall → List (Placed PlainCall)
calls_seen cs = map call_at cs

-- a field that has a row
abbrev pub field_cell_seen : FieldCell → plain.FieldCell
field_cell_seen f = record { column = f.column; row = f.row; owner = f.owner.0 }

-- what may be there, as a list
abbrev pub if_there : {A B : Type 0} → (A → B) → Option A → List B
if_there seen o = option_map_or (λ x. seen x ∷ []) o []
