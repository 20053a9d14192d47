-- Believed. The text of an edit: the line of a script that asks for it.
use Rattle.std.specs.Prelude.{ℕ, List, ◌++◌, codes}
use Rattle.std.specs.List.{flat_map}
use Rattle.std.specs.Fmt.{decimal}
use Rattle.std.specs.Str.{encode_utf8_all}
use Rattle.kaba_base.specs.declared.NodeId.{NodeId}
use Rattle.hier_model.specs.declared.edits.Edit.{Edit}
use Rattle.hier_model.specs.declared.edits.Edit.TheVariants.{Merge, Under, Move, TypeName, MemberName, Drop}

-- some nodes, each with a blank before it
abbrev pub nodes_text : List NodeId → List ℕ
nodes_text nodes = flat_map (λ n. codes " n" ++ decimal n.0) nodes

-- an edit as a script writes it, without the end of the line
abbrev pub edit_text : Edit → List ℕ
edit_text (Merge set) = codes "merge" ++ nodes_text set.items
edit_text (Under n p) = codes "under n" ++ (decimal n.0 ++ (codes " n" ++ decimal p.0))
edit_text (Move c n) = codes "move c" ++ (decimal c.0 ++ (codes " n" ++ decimal n.0))
edit_text (TypeName n name) = codes "type n" ++ (decimal n.0 ++ (codes " " ++ encode_utf8_all name))
edit_text (MemberName c name) = codes "member c" ++ (decimal c.0 ++ (codes " " ++ encode_utf8_all name))
edit_text (Drop n) = codes "drop n" ++ decimal n.0
