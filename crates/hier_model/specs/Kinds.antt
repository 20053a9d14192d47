-- Mirror. The changes by their kinds, each listed by its number.
use Rattle.std.specs.Prelude.{ℕ, List, length}
use Rattle.hier_model.specs.Hierarchies.{Hierarchy}
use Rattle.hier_model.specs.Differences.{each_below, node_change, pair_change, column_change, row_change, type_change, member_change, origin_change}
use Rattle.hier_model.specs.declared.differences.Change.{Change}
use Rattle.hier_model.specs.declared.differences.Kind.{Kind}
use Rattle.hier_model.specs.declared.differences.Kind.TheVariants.{Nodes, Pairs, Columns, Rows, Types, Members, Origins}

-- how many numbers have changes of a kind
abbrev pub count_of : Kind → Hierarchy → ℕ
count_of Nodes old = length old.order.live
count_of Pairs old = length old.order.live
count_of Columns old = length old.columns
count_of Rows old = length old.rows
count_of Types old = length old.order.live
count_of Members old = length old.members
count_of Origins old = length old.order.live

-- the changes of a kind that a number has
abbrev pub changes_at : Kind → Hierarchy → Hierarchy → ℕ → List Change
changes_at Nodes old new k = node_change old new k
changes_at Pairs old new k = each_below (length old.order.live) (pair_change old new k)
changes_at Columns old new k = column_change old new k
changes_at Rows old new k = row_change old new k
changes_at Types old new k = type_change old new k
changes_at Members old new k = member_change old new k
changes_at Origins old new k = origin_change old new k

-- all changes of a kind
abbrev pub changes_of : Kind → Hierarchy → Hierarchy → List Change
changes_of kind old new = each_below (count_of kind old) (changes_at kind old new)
