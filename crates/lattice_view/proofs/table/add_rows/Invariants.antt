use Rattle.std.proofs.Common.{◌≡◌, ◌++◌, drop, string_bytes}
use Rattle.lattice_view.specs.Table.{rows_text}
use Rattle.lattice_view.proofs.table.add_rows.Given as goal

-- with the lines that are left, it is the whole
abbrev pub invariant-loop-k : goal.invariant-loop-k
invariant-loop-k l = string_bytes l.text ++ rows_text l.k (drop l.k l.rows) l.sets ≡ string_bytes l.fn.text ++ rows_text 0 l.rows l.sets
