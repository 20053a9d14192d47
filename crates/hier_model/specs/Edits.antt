-- Believed. What an edit makes of a hierarchy, before its obligations are asked (after Streckenbach and Snelting,
-- 2004).
use Rattle.std.specs.Prelude.{ℕ, ◌<◌, ◌==◌, ◌&&◌, ◌||◌, Bool, true, false, not, if◌then◌else◌, List, [], ◌∷◌, length, map, Option, Some, None, is_some, unwrap_or, slice_index_or, slice_set, Result, Ok, Err}
use Rattle.std.specs.Option.{option_map, option_and_then}
use Rattle.std.specs.List.{list_any, range_with_len}
use Rattle.kaba_base.specs.declared.NodeId.{NodeId}
use Rattle.kaba_base.specs.declared.ColId.{ColId}
use Rattle.kaba_base.specs.declared.ClassId.{ClassId}
use Rattle.kaba_bits.specs.Sets.{first_below, when}
use Rattle.kaba_order.specs.Orders.{Ordered, is_le, is_live, is_among, is_below_some, is_above_some, stays, merged_to}
use Rattle.kaba_order.specs.declared.OrderFault.{OrderFault}
use Rattle.kaba_order.specs.declared.OrderFault.TheVariants as fault
use Rattle.fact_model.specs.Items.{row_this, column_kind, column_slot}
use Rattle.fact_model.specs.declared.facts.Facts.{Facts}
use Rattle.fact_model.specs.declared.facts.ColKind.{ColKind}
use Rattle.fact_model.specs.declared.facts.ColKind.TheVariants.{Is}
use Rattle.hier_model.specs.declared.edits.Edit.{Edit}
use Rattle.hier_model.specs.declared.edits.Edit.TheVariants as edit
use Rattle.hier_model.specs.declared.edits.ChangeFault.{ChangeFault}
use Rattle.hier_model.specs.declared.edits.ChangeFault.TheVariants.{UnknownNode, UnknownMember, NotEmpty, Cycle, Memory}
use Rattle.hier_model.specs.Hierarchies.{Hierarchy, node, place_of_column, origin_of, is_at}
use Rattle.hier_model.specs.Start.{lowest}

-- an order given by its pairs
abbrev pub ordered_by : Ordered → (ℕ → Bool) → (ℕ → ℕ → Bool) → Ordered
ordered_by o live le =
    let nodes = range_with_len 0 (length o.live) in
    record { live = map live nodes; le = map (λ a. map (le a) nodes) nodes }

-- one node of those of a list, m; each pair that leads through the list is there
abbrev pub merged_order : Ordered → List NodeId → ℕ → Ordered
merged_order o set m =
    ordered_by o (λ a. is_live o a && stays set m a)
    (λ a b. (is_le o a b || (is_below_some o set a && is_above_some o set b)) && stays set m a && stays set m b)

-- n below p; each pair that leads through that is there
abbrev pub under_order : Ordered → ℕ → ℕ → Ordered
under_order o n p = ordered_by o (is_live o) (λ a b. is_le o a b || (is_le o a n && is_le o p b))

-- without the node n
abbrev pub dropped_order : Ordered → ℕ → Ordered
dropped_order o n = ordered_by o (λ a. is_live o a && not (a == n)) (λ a b. is_le o a b && not (a == n) && not (b == n))

-- the least number of a node of the list
abbrev pub least_of : Ordered → List NodeId → ℕ
least_of o set = unwrap_or (first_below (length o.live) (λ k. when (is_among set k) k)) 0

-- the least node outside the list that lies strictly between two of it
abbrev pub first_between : Ordered → List NodeId → Option NodeId
first_between o set = first_below (length o.live) (λ x. when (not (is_among set x) && is_above_some o set x && is_below_some o set x) (node x))

-- the classes, where each is there
abbrev pub all_there : List (Option ClassId) → Option (List ClassId)
all_there [] = Some []
all_there (None ∷ os) = None
all_there (Some k ∷ os) = option_map (λ ks. k ∷ ks) (all_there os)

-- the origin of a merged node: the lowest of the origins, or none where two are not comparable or one is not there
abbrev pub merged_origin : Facts → List (Option ClassId) → Option ClassId
merged_origin F origins = option_and_then (lowest F) (all_there origins)

-- where a node's columns and rows stand after a merge
abbrev pub merged_node : List NodeId → ℕ → NodeId → NodeId
merged_node set m n = node (merged_to set m n.0)

-- one node m of those of a list, with all columns and rows
abbrev pub merged_as : Facts → Hierarchy → List NodeId → ℕ → Hierarchy
merged_as F H set m = record H {
  order = merged_order H.order set m;
  columns = map (option_map (merged_node set m)) H.columns;
  rows = map (merged_node set m) H.rows;
  origins = slice_set H.origins m (merged_origin F (map (λ n. origin_of H n.0) set));
}

-- the same with the least of them, and its name
abbrev pub merged : Facts → Hierarchy → List NodeId → Hierarchy
merged F H set = merged_as F H set (least_of H.order set)

-- whether there is a column, and it is the one given
abbrev pub is_column : ColId → Option ColId → Bool
is_column c None = false
is_column c (Some d) = d.0 == c.0

-- where a row stands after a column was moved to n: there too, if it is `this` of that body
abbrev pub moved_row : Facts → List NodeId → ColId → NodeId → ℕ → NodeId
moved_row F rows c n r = if is_column c (row_this F r) then n else slice_index_or rows r (node 0)

-- a column at another node, and with a body its `this`
abbrev pub moved : Facts → Hierarchy → ColId → NodeId → Hierarchy
moved F H c n = record H {
  columns = slice_set H.columns c.0 (Some n);
  rows = map (moved_row F H.rows c n) (range_with_len 0 (length H.rows));
}

-- whether two slots are there and the same
abbrev pub is_one_slot : Option ℕ → Option ℕ → Bool
is_one_slot None y = false
is_one_slot (Some x) None = false
is_one_slot (Some x) (Some y) = x == y

-- whether a column is the member c, or of its slot
abbrev pub is_renamed : Facts → ColId → ℕ → Bool
is_renamed F c d = (d == c.0) || is_one_slot (column_slot F c.0) (column_slot F d)

-- the name of a column after the member c got a name: that name for c, and for each column of its slot
abbrev pub renamed_member : Facts → List (List ℕ) → ColId → List ℕ → ℕ → List ℕ
renamed_member F members c name d = if is_renamed F c d then name else slice_index_or members d []

-- a member under another name; a method with its whole slot
abbrev pub renamed : Facts → Hierarchy → ColId → List ℕ → Hierarchy
renamed F H c name = record H {
  members = map (renamed_member F H.members c name) (range_with_len 0 (length H.members));
}

-- the first of some nodes that is not live
abbrev pub first_unknown : Ordered → List NodeId → Option NodeId
first_unknown o [] = None
first_unknown o (n ∷ ns) = if is_live o n.0 then first_unknown o ns else Some n

-- whether a column stands somewhere
abbrev pub is_placed : Hierarchy → ColId → Bool
is_placed H c = is_some (place_of_column H c.0)

-- whether a column of this kind is the mark of a type
abbrev pub is_mark : ColKind → Bool
is_mark Is = true
is_mark kind = false

-- whether a column or a row stands at a node
abbrev pub is_used : Hierarchy → NodeId → Bool
is_used H n = list_any (is_at n.0) H.columns || list_any (λ p. p.0 == n.0) H.rows

-- the same fault of an edit as of its order
abbrev pub fault_of : OrderFault → ChangeFault
fault_of (fault.Cycle x) = Cycle x
fault_of fault.Memory = Memory

-- a refusal at the first node of its kind, or what is made where there is none
abbrev pub unless : Option NodeId → (NodeId → ChangeFault) → Result Hierarchy ChangeFault → Result Hierarchy ChangeFault
unless None fault made = made
unless (Some n) fault made = Err (fault n)

-- a merge names some node
abbrev pub NamesSome : Edit → Type 0
NamesSome (edit.Merge set) = 0 < length set.items
NamesSome (edit.Under n p) = Unit {0}
NamesSome (edit.Move c n) = Unit {0}
NamesSome (edit.TypeName n name) = Unit {0}
NamesSome (edit.MemberName c name) = Unit {0}
NamesSome (edit.Drop n) = Unit {0}

-- the hierarchy after an edit, or why there is none; nodes and columns are looked at in the order of the edit's words
abbrev pub changed : Facts → Hierarchy → Edit → Result Hierarchy ChangeFault
changed F H (edit.Merge set) = unless (first_unknown H.order set.items) UnknownNode (unless (first_between H.order set.items) Cycle (Ok (merged F H set.items)))
changed F H (edit.Under n p) =
    unless (first_unknown H.order (n ∷ p ∷ [])) UnknownNode
    (if is_le H.order p.0 n.0 && not (p.0 == n.0) then Err (Cycle n) else Ok (record H { order = under_order H.order n.0 p.0 }))
changed F H (edit.Move c n) = if is_placed H c then unless (first_unknown H.order (n ∷ [])) UnknownNode (Ok (moved F H c n)) else Err (UnknownMember c)
changed F H (edit.TypeName n name) = unless (first_unknown H.order (n ∷ [])) UnknownNode (Ok (record H { types = slice_set H.types n.0 name }))
changed F H (edit.MemberName c name) = if is_placed H c && not (is_mark (column_kind F c.0)) then Ok (renamed F H c name) else Err (UnknownMember c)
changed F H (edit.Drop n) = unless (first_unknown H.order (n ∷ [])) UnknownNode (if is_used H n then Err (NotEmpty n) else Ok
    (record H { order = dropped_order H.order n.0 }))
