-- Believed. Instances by the numbers of their nodes, row and column.
use Rattle.std.specs.Prelude.{ℕ, Some, None}
use Rattle.kaba_base.specs.declared.RowId.{RowId}
use Rattle.kaba_base.specs.declared.ColId.{ColId}
use Rattle.hier_model.specs.Hierarchies.{node}
use Rattle.hier_rules.specs.declared.broken.Rule.{Rule}
use Rattle.hier_rules.specs.declared.broken.Broken.{Broken}
use Rattle.hier_rules.specs.declared.broken.Nodes.TheVariants.{One, Two, Three}

-- the id of a row by its number
abbrev pub row_id : ℕ → RowId
row_id r = record { 0 = r }

-- the id of a column by its number
abbrev pub column_id : ℕ → ColId
column_id c = record { 0 = c }

-- an instance at a node, of a row and a column
abbrev pub of_both : Rule → ℕ → ℕ → ℕ → Broken
of_both rule n r c = record { rule = rule; nodes = One (node n); row = Some (row_id r); column = Some (column_id c) }

-- an instance at two nodes, of a row
abbrev pub of_row : Rule → ℕ → ℕ → ℕ → Broken
of_row rule n m r = record { rule = rule; nodes = Two (node n) (node m); row = Some (row_id r); column = None }

-- an instance at a node, of a column
abbrev pub of_column : Rule → ℕ → ℕ → Broken
of_column rule n c = record { rule = rule; nodes = One (node n); row = None; column = Some (column_id c) }

-- an instance at a node alone
abbrev pub of_node : Rule → ℕ → Broken
of_node rule n = record { rule = rule; nodes = One (node n); row = None; column = None }

-- an instance at three nodes
abbrev pub of_three : Rule → ℕ → ℕ → ℕ → Broken
of_three rule n x y = record { rule = rule; nodes = Three (node n) (node x) (node y); row = None; column = None }
