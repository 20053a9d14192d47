-- Mirror. What the rules ask for, and sets that have it.
use Rattle.std.specs.Prelude.{◌≡◌, ℕ, ◌+◌, ◌<◌, Bool, true, List, length, All, Contains, Option, Some, None, IfSome}
use Rattle.kaba_bits.specs.Sets.{bit, row, IsSubset}
use Rattle.kaba_base.specs.declared.ClassId.{ClassId}
use Rattle.kaba_base.specs.declared.ColId.{ColId}
use Rattle.fact_model.specs.Items.{site_at, site_class}
use Rattle.fact_model.specs.Classes.{IsBelow, finds}
use Rattle.fact_model.specs.Flowing.{IsCell, point_at}
use Rattle.fact_model.specs.InRange.{IsClass}
use Rattle.fact_model.specs.declared.facts.Facts.{Facts}
use Rattle.fact_model.specs.declared.facts.BodyInfo.{BodyInfo}
use Rattle.points_to.specs.Sound.{node_count, InNode}
use Rattle.points_to.specs.declared.work.Edge.{Edge}
use Rattle.points_to.specs.declared.work.Told.{Told}
use Rattle.points_to.specs.declared.work.Read.{Read}
use Rattle.points_to.specs.declared.work.Write.{Write}
use Rattle.points_to.specs.declared.work.Run.{Run}
use Rattle.points_to.specs.declared.work.Member.{Member}
use Rattle.points_to.specs.declared.work.Member.TheVariants.{Field, This, Parameter, Returned}
use Rattle.points_to.specs.declared.found.Found.{Found}

-- where a class is named, that of the site is at or below it
abbrev pub PassesClass : Facts → Option ClassId → ℕ → Type 0
PassesClass F None s = Unit {0}
PassesClass F (Some k) s = IsBelow F (site_class F s) k.0

-- what is in the first set, and passes, is in the second
pub record IsEdge (F : Facts) (x : Edge) : Type 0 where
  pub from : x.from < node_count F
  pub to : x.to < node_count F
  pub class : IfSome x.class (IsClass F)
  pub flows : (s : ℕ) → PassesClass F x.class s → InNode F x.from s → InNode F x.to s

-- a site that is in a set
pub record IsSiteTold (F : Facts) (x : Told) : Type 0 where
  pub node : x.node < node_count F
  pub site : x.site < length F.sites.items
  pub holds : InNode F x.node x.site

-- the slot of the body that a member is of; a field has none
abbrev pub slot_of : Member → Option ℕ
slot_of (Field column) = None
slot_of (This slot) = Some slot
slot_of (Parameter slot k) = Some slot
slot_of (Returned slot) = Some slot

-- the point of a member of a body
abbrev pub body_node : Member → BodyInfo → Option ℕ
body_node (Field column) body = None
body_node (This slot) body = Some body.this
body_node (Parameter slot k) body = point_at body.params.items k
body_node (Returned slot) body = body.result

-- n is the set of the cell of the site o at a column
pub record IsCellNode (F : Facts) (column : Option ColId) (o n : ℕ) : Type 0 where
  pub cell : ℕ
  pub is : IsCell F cell o column
  pub node : n ≡ length F.points.items + cell

-- n is the point of a member of the body that is run for a slot
pub record IsBodyNode (F : Facts) (m : Member) (slot o n : ℕ) : Type 0 where
  pub body : BodyInfo
  pub listed : Contains F.bodies.items body
  pub found : finds F (site_class F o) slot ≡ Some body.column.0
  pub node : body_node m body ≡ Some n

-- n is the set of a member of the site o
abbrev pub IsMemberSet : Facts → Member → ℕ → ℕ → Type 0
IsMemberSet F (Field column) o n = IsCellNode F column o n
IsMemberSet F (This slot) o n = IsBodyNode F (This slot) slot o n
IsMemberSet F (Parameter slot k) o n = IsBodyNode F (Parameter slot k) slot o n
IsMemberSet F (Returned slot) o n = IsBodyNode F (Returned slot) slot o n

-- exactly the sets of a member of the site o
pub record AreTargets (F : Facts) (m : Member) (o : ℕ) (xs : List ℕ) : Type 0 where
  pub sound : All (IsMemberSet F m o) xs
  pub whole : (n : ℕ) → IsMemberSet F m o n → Contains xs n

-- the class that a written value must have: for an element that of the array
abbrev pub wanted : Facts → Member → ℕ → Option ClassId
wanted F (Field None) o = Some (site_at F o).class
wanted F (Field (Some column)) o = None
wanted F (This slot) o = None
wanted F (Parameter slot k) o = None
wanted F (Returned slot) o = None

-- for each site in the base, what is in its member is in a point
pub record IsReadIn (F : Facts) (x : Read) : Type 0 where
  pub base : x.base < node_count F
  pub into : x.into < node_count F
  pub flows : (o n s : ℕ) → InNode F x.base o → IsMemberSet F x.member o n → InNode F n s → InNode F x.into s

-- for each site in the base, what is in a point, and fits, is in its member
pub record IsWrite (F : Facts) (x : Write) : Type 0 where
  pub base : x.base < node_count F
  pub value : x.value < node_count F
  pub flows : (o n s : ℕ) → InNode F x.base o → IsMemberSet F x.member o n → PassesClass F (wanted F x.member o) s → InNode F x.value s → InNode F n s

-- each site in the base is in the `this` of its body
pub record IsRun (F : Facts) (x : Run) : Type 0 where
  pub base : x.base < node_count F
  pub flows : (o n : ℕ) → InNode F x.base o → IsMemberSet F (This x.slot) o n → InNode F n o

-- the sets have what is asked for
abbrev pub IsEdgeClosed : Facts → List (List Bool) → Edge → Type 0
IsEdgeClosed F sets x = (s : ℕ) → PassesClass F x.class s → bit (row sets x.from) s ≡ true → bit (row sets x.to) s ≡ true

-- the site that is asked for in a set is there
abbrev pub IsSiteShown : List (List Bool) → Told → Type 0
IsSiteShown sets x = bit (row sets x.node) x.site ≡ true

-- the same of what is asked for the sites that a base has in one family of sets
abbrev pub IsReadClosed : Facts → List (List Bool) → List (List Bool) → Read → Type 0
IsReadClosed F bases sets x = (o n : ℕ) → bit (row bases x.base) o ≡ true → IsMemberSet F x.member o n → IsSubset (row sets n) (row sets x.into)

-- what passes of the value's set is in the member of each site that the base has
abbrev pub IsWriteClosed : Facts → List (List Bool) → List (List Bool) → Write → Type 0
IsWriteClosed F bases sets x = (o n s : ℕ) → bit (row bases x.base) o ≡ true → IsMemberSet F x.member o n → PassesClass F (wanted F x.member o) s
    → bit (row sets x.value) s ≡ true → bit (row sets n) s ≡ true

-- each site that the base has is in the `this` of the body that it runs for the slot
abbrev pub IsRunClosed : Facts → List (List Bool) → List (List Bool) → Run → Type 0
IsRunClosed F bases sets x = (o n : ℕ) → bit (row bases x.base) o ≡ true → IsMemberSet F (This x.slot) o n → bit (row sets n) o ≡ true

-- what is asked for holds
pub record AreFound (F : Facts) (found : Found) : Type 0 where
  pub edges : All (IsEdge F) found.edges.items
  pub told : All (IsSiteTold F) found.told.items
  pub reads : All (IsReadIn F) found.members.reads.items
  pub writes : All (IsWrite F) found.members.writes.items
  pub runs : All (IsRun F) found.members.runs.items

-- from one point into another
abbrev pub between : ℕ → ℕ → Edge
between p q = record { from = p; to = q; class = None }
