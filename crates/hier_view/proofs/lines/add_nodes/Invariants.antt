use Rattle.std.proofs.Common.{◌≡◌, ◌++◌, take, string_bytes}
use Rattle.hier_view.specs.Text.{node_lines}
use Rattle.hier_view.proofs.lines.add_nodes.Given as goal

abbrev pub invariant-loop-node : goal.invariant-loop-node
invariant-loop-node l = string_bytes l.text ≡ string_bytes l.fn.text ++ node_lines l.facts l.hier (take l.node-index l.nodes)
