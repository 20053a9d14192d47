use Rattle.std.proofs.Common.{◌≡◌, ◌++◌, take, codes, string_bytes}
use Rattle.std.specs.List.{flat_map}
use Rattle.hier_view.specs.Text.{column_part}
use Rattle.hier_view.proofs.lines.add_columns.Given as goal

abbrev pub invariant-loop-column : goal.invariant-loop-column
invariant-loop-column l =
    string_bytes l.text ≡ string_bytes l.fn.text ++ (codes " columns:" ++ flat_map (column_part l.facts l.hier) (take l.column-index l.columns))
