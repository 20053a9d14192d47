use Rattle.std.proofs.Common.{◌≡◌, ◌++◌, drop, string_bytes}
use Rattle.lattice_view.specs.Table.{columns_text}
use Rattle.lattice_view.proofs.table.add_columns.Given as goal

-- with the lines that are left, it is the whole
abbrev pub invariant-loop-k : goal.invariant-loop-k
invariant-loop-k l = string_bytes l.text ++ columns_text l.k (drop l.k l.columns) ≡ string_bytes l.fn.text ++ columns_text 0 l.columns
