-- Believed. The text of a hierarchy.
use Rattle.std.specs.Prelude.{ℕ, suc, zero, ◌==◌, Bool, true, false, List, [], ◌∷◌, ◌++◌, length, codes, Option, Some, None, slice_get, if◌then◌else◌}
use Rattle.std.specs.List.{flat_map}
use Rattle.std.specs.Fmt.{decimal}
use Rattle.std.specs.Str.{encode_utf8_all}
use Rattle.kaba_base.specs.declared.ClassId.{ClassId}
use Rattle.kaba_order.specs.Orders.{is_live}
use Rattle.fact_model.specs.Items.{column_kind}
use Rattle.fact_model.specs.declared.facts.Facts.{Facts}
use Rattle.fact_model.specs.declared.facts.ClassInfo.{ClassInfo}
use Rattle.lattice_view.specs.Lists.{part_text}
use Rattle.hier_model.specs.Hierarchies.{Hierarchy, stands_at, place_of_row, type_name, member_name, origin_of, is_class_node}
use Rattle.hier_model.specs.Covers.{is_cover}
use Rattle.hier_model.specs.Edits.{is_mark}

-- the numbers below n that pass a test, in rising order
abbrev pub those_below : ℕ → (ℕ → Bool) → List ℕ
those_below zero p = []
those_below (suc n) p = those_below n p ++ (if p n then n ∷ [] else [])

-- the numbers of the live nodes, rising
abbrev pub live_nodes : Hierarchy → List ℕ
live_nodes H = those_below (length H.order.live) (is_live H.order)

-- the upper covers of a node, by rising number
abbrev pub covers_of : Hierarchy → ℕ → List ℕ
covers_of H n = those_below (length H.order.live) (is_cover H.order n)

-- the columns and the rows that stand at a node
abbrev pub columns_at : Facts → Hierarchy → ℕ → List ℕ
columns_at F H n = those_below (length F.columns.items) (stands_at H n)

-- the rows that stand at a node, by rising number
abbrev pub rows_at : Facts → Hierarchy → ℕ → List ℕ
rows_at F H n = those_below (length F.rows.items) (λ r. place_of_row H r == n)

-- the name of a member after a colon; the mark of a tested type has none
abbrev pub name_part : Bool → List ℕ → List ℕ
name_part true name = []
name_part false name = codes ":" ++ encode_utf8_all name

-- a column: its number, and the name that its member has
abbrev pub column_part : Facts → Hierarchy → ℕ → List ℕ
column_part F H c = codes " c" ++ (decimal c ++ name_part (is_mark (column_kind F c)) (member_name H c))

-- columns one after the other, and a dash for none
abbrev pub column_parts : Facts → Hierarchy → List ℕ → List ℕ
column_parts F H [] = codes " -"
column_parts F H (c ∷ cs) = flat_map (column_part F H) (c ∷ cs)

-- columns after their name
abbrev pub columns_text : Facts → Hierarchy → List ℕ → List ℕ
columns_text F H columns = codes " columns:" ++ column_parts F H columns

-- the name of a class of the program; nothing where there is none
abbrev pub name_in : Option ClassInfo → List ℕ
name_in None = []
name_in (Some k) = encode_utf8_all k.name

-- the name of the class from which a node comes
abbrev pub origin_text : Facts → Option ClassId → List ℕ
origin_text F None = codes "-"
origin_text F (Some k) = name_in (slice_get F.classes.items k.0)

-- the word for a node that is a class, and for one that is an interface
abbrev pub kind_text : Bool → List ℕ
kind_text true = codes "class"
kind_text false = codes "interface"

-- the number of a node, its kind, its name, and the class from which it comes
abbrev pub head_text : Facts → Hierarchy → ℕ → List ℕ
head_text F H n =
    codes "n" ++ (decimal n ++ (codes " " ++ (kind_text (is_class_node F H n) ++ (codes " " ++ (encode_utf8_all (type_name H n)
    ++ (codes " origin " ++ origin_text F (origin_of H n)))))))

-- the line of a node: after that its upper covers, and the columns and rows that stand there
abbrev pub node_line : Facts → Hierarchy → ℕ → List ℕ
node_line F H n =
    head_text F H n
    ++ (part_text (codes " above:") (codes "n") (covers_of H n)
    ++ (columns_text F H (columns_at F H n)
    ++ (part_text (codes " rows:") (codes "r") (rows_at F H n) ++ codes "\n")))

-- the lines of some nodes, one after the other
abbrev pub node_lines : Facts → Hierarchy → List ℕ → List ℕ
node_lines F H nodes = flat_map (node_line F H) nodes

-- how many live nodes there are, and a line for each
abbrev pub hierarchy_text : Facts → Hierarchy → List ℕ
hierarchy_text F H = codes "nodes " ++ (decimal (length (live_nodes H)) ++ (codes "\n" ++ node_lines F H (live_nodes H)))
