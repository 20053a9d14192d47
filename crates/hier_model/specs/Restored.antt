-- Mirror. What putting changes back makes of a hierarchy, the last first.
use Rattle.std.specs.Prelude.{ℕ, ◌<◌, List, [], ◌∷◌, length, Option, Some, slice_set}
use Rattle.std.specs.List.{flat_map}
use Rattle.kaba_base.specs.declared.NodeId.{NodeId}
use Rattle.kaba_order.specs.Written.{written}
use Rattle.kaba_base.specs.declared.ClassId.{ClassId}
use Rattle.hier_model.specs.Hierarchies.{Hierarchy}
use Rattle.hier_model.specs.declared.differences.Change.{Change}
use Rattle.hier_model.specs.declared.differences.Change.TheVariants.{Node, Pair, Column, Row, TypeName, MemberName, Origin}

-- the place of a column that a change holds
abbrev pub column_write : Change → List (ℕ × Option NodeId)
column_write (Node n name origin) = []
column_write (Pair a b was) = []
column_write (Column c p) = (c.0, Some p) ∷ []
column_write (Row r p) = []
column_write (TypeName n name) = []
column_write (MemberName c name) = []
column_write (Origin n origin) = []

-- the place of a row that a change holds
abbrev pub row_write : Change → List (ℕ × NodeId)
row_write (Node n name origin) = []
row_write (Pair a b was) = []
row_write (Column c p) = []
row_write (Row r p) = (r.0, p) ∷ []
row_write (TypeName n name) = []
row_write (MemberName c name) = []
row_write (Origin n origin) = []

-- the name of a type that a change holds
abbrev pub type_write : Change → List (ℕ × List ℕ)
type_write (Node n name origin) = (n.0, name) ∷ []
type_write (Pair a b was) = []
type_write (Column c p) = []
type_write (Row r p) = []
type_write (TypeName n name) = (n.0, name) ∷ []
type_write (MemberName c name) = []
type_write (Origin n origin) = []

-- the name of a member that a change holds
abbrev pub member_write : Change → List (ℕ × List ℕ)
member_write (Node n name origin) = []
member_write (Pair a b was) = []
member_write (Column c p) = []
member_write (Row r p) = []
member_write (TypeName n name) = []
member_write (MemberName c name) = (c.0, name) ∷ []
member_write (Origin n origin) = []

-- the origin of a node that a change holds
abbrev pub origin_write : Change → List (ℕ × Option ClassId)
origin_write (Node n name origin) = (n.0, origin) ∷ []
origin_write (Pair a b was) = []
origin_write (Column c p) = []
origin_write (Row r p) = []
origin_write (TypeName n name) = []
origin_write (MemberName c name) = []
origin_write (Origin n origin) = (n.0, origin) ∷ []

-- a hierarchy with the places, names and origins that changes hold, in the same order
abbrev pub restored : Hierarchy → List Change → Hierarchy
restored H cs = record H {
  columns = written H.columns (flat_map column_write cs);
  rows = written H.rows (flat_map row_write cs);
  types = written H.types (flat_map type_write cs);
  members = written H.members (flat_map member_write cs);
  origins = written H.origins (flat_map origin_write cs);
}

-- what a change names is there
abbrev pub FitsIn : Hierarchy → Change → Type 0
FitsIn H (Node n name origin) = (n.0 < length H.types) × (n.0 < length H.origins)
FitsIn H (Pair a b was) = Unit {0}
FitsIn H (Column c p) = c.0 < length H.columns
FitsIn H (Row r p) = r.0 < length H.rows
FitsIn H (TypeName n name) = n.0 < length H.types
FitsIn H (MemberName c name) = c.0 < length H.members
FitsIn H (Origin n origin) = n.0 < length H.origins
