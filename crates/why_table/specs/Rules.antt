-- Believed. What each rule gives of earlier claims: P1 to P8 are the inclusions of points-to sets (Andersen, 1994), T1 to
-- T11 the rules of the table (after Snelting and Tip, 2000). The earlier claims stand in the order in which they are said.
use Rattle.std.specs.Prelude.{◌≡◌, ℕ, ◌<◌, List, [], ◌∷◌, Contains, Some, slice_get}
use Rattle.kaba_base.specs.declared.RowId.{RowId}
use Rattle.kaba_base.specs.declared.ColId.{ColId}
use Rattle.kaba_base.specs.declared.SiteId.{SiteId}
use Rattle.fact_model.specs.Items.{site_at, site_class, row_this, column_kind, IsColumn}
use Rattle.fact_model.specs.Classes.{IsBelow, finds}
use Rattle.fact_model.specs.Flowing.{IsCell, FitsStore, CallRuns, point_at}
use Rattle.fact_model.specs.Entries.{IsDeclaredBy, Hides}
use Rattle.fact_model.specs.declared.facts.Facts.{Facts}
use Rattle.fact_model.specs.declared.facts.ColKind.TheVariants.{Fld, Dcl, Is}
use Rattle.fact_model.specs.declared.facts.NewInfo.{NewInfo}
use Rattle.fact_model.specs.declared.facts.FlowInfo.{FlowInfo}
use Rattle.fact_model.specs.declared.facts.LoadInfo.{LoadInfo}
use Rattle.fact_model.specs.declared.facts.StoreInfo.{StoreInfo}
use Rattle.fact_model.specs.declared.facts.CallInfo.{CallInfo}
use Rattle.fact_model.specs.declared.facts.BodyInfo.{BodyInfo}
use Rattle.fact_model.specs.declared.facts.CastInfo.{CastInfo}
use Rattle.fact_model.specs.declared.facts.AccessInfo.{AccessInfo}
use Rattle.fact_model.specs.declared.facts.SuperInfo.{SuperInfo}
use Rattle.fact_model.specs.declared.facts.TieInfo.{TieInfo}
use Rattle.fact_model.specs.declared.facts.TestInfo.{TestInfo}
use Rattle.fact_model.specs.declared.facts.SiteInfo.{SiteInfo}
use Rattle.fact_model.specs.declared.facts.CellInfo.{CellInfo}
use Rattle.why_table.specs.declared.trail.Claim.{Claim}
use Rattle.why_table.specs.declared.trail.Claim.TheVariants.{InPoint, InCell, Entry}
use Rattle.why_table.specs.declared.trail.WhyRule.{WhyRule}
use Rattle.why_table.specs.declared.trail.WhyRule.TheVariants.{P1, P2, P3, P4, P5, P6, P7, P8, T1, T2, T3, T4, T5, T6, T7, T8, T9, T10, T11}

-- a creation that flows into a point puts its site there
pub data GivesP1 (F : Facts) : List Claim → Claim → Type 0 where
  p1 : (x : NewInfo) → Contains F.news.items x
      → GivesP1 F [] (InPoint x.point x.site)

-- what is in the source of a flow is in its target
pub data GivesP2 (F : Facts) : List Claim → Claim → Type 0 where
  p2 : (x : FlowInfo) (s : SiteId) → Contains F.flows.items x
      → GivesP2 F (InPoint x.from s ∷ []) (InPoint x.to s)

-- for a site o in the base of a load, what is in the cell of o is in the read
pub data GivesP3 (F : Facts) : List Claim → Claim → Type 0 where
  p3 : (x : LoadInfo) (c : ℕ) (o s : SiteId) → Contains F.loads.items x → IsCell F c o.0 x.column
      → GivesP3 F (InPoint x.base o ∷ InCell c s ∷ []) (InPoint x.into s)

-- for a site o in the base of a store, what fits of the value is in the cell of o
pub data GivesP4 (F : Facts) : List Claim → Claim → Type 0 where
  p4 : (x : StoreInfo) (c : ℕ) (o s : SiteId) → Contains F.stores.items x → IsCell F c o.0 x.column → FitsStore F x.column s.0 o.0
      → GivesP4 F (InPoint x.base o ∷ InPoint x.value s ∷ []) (InCell c s)

-- a site in the receiver of a call is in the `this` of the body found for its class
pub data GivesP5 (F : Facts) : List Claim → Claim → Type 0 where
  p5 : (call : CallInfo) (o : SiteId) (body : BodyInfo) → CallRuns F call o.0 body
      → GivesP5 F (InPoint call.receiver o ∷ []) (InPoint body.this o)

-- what is in an argument is in that body's parameter
pub data GivesP6 (F : Facts) : List Claim → Claim → Type 0 where
  p6 : (call : CallInfo) (o s : SiteId) (body : BodyInfo) (k from to : ℕ) → CallRuns F call o.0 body
      → point_at call.args.items k ≡ Some from → point_at body.params.items k ≡ Some to
      → GivesP6 F (InPoint call.receiver o ∷ InPoint from s ∷ []) (InPoint to s)

-- what is in that body's result is in the call
pub data GivesP7 (F : Facts) : List Claim → Claim → Type 0 where
  p7 : (call : CallInfo) (o s : SiteId) (body : BodyInfo) (from to : ℕ) → CallRuns F call o.0 body
      → body.result ≡ Some from → call.result ≡ Some to
      → GivesP7 F (InPoint call.receiver o ∷ InPoint from s ∷ []) (InPoint to s)

-- a cast or instanceof has those sites of its operand whose class is a subtype of the one that it names
pub data GivesP8 (F : Facts) : List Claim → Claim → Type 0 where
  p8 : (x : CastInfo) (s : SiteId) → Contains F.casts.items x → IsBelow F (site_class F s.0) x.class.0
      → GivesP8 F (InPoint x.from s ∷ []) (InPoint x.into s)

-- the access of a field gives the row that types its base the field
pub data GivesT1 (F : Facts) : List Claim → Claim → Type 0 where
  t1 : (x : AccessInfo) → Contains F.accesses.items x → column_kind F x.column.0 ≡ Fld
      → GivesT1 F [] (Entry x.row x.column)

-- a call gives the row that types its receiver the declaration found statically
pub data GivesT2 (F : Facts) : List Claim → Claim → Type 0 where
  t2 : (x : AccessInfo) → Contains F.accesses.items x → column_kind F x.column.0 ≡ Dcl
      → GivesT2 F [] (Entry x.row x.column)

-- a call, and a site o in its receiver, give o the body found for its class
pub data GivesT3 (F : Facts) : List Claim → Claim → Type 0 where
  t3 : (call : CallInfo) (o : SiteId) (d : ColId) → Contains F.calls.items call → finds F (site_class F o.0) call.slot ≡ Some d.0
      → GivesT3 F (InPoint call.receiver o ∷ []) (Entry (site_at F o.0).row d)

-- the `this` of a method has its body
pub data GivesT4 (F : Facts) : List Claim → Claim → Type 0 where
  t4 : (v : RowId) (d : ColId) → row_this F v.0 ≡ Some d
      → GivesT4 F [] (Entry v d)

-- a row with a body has its declaration
pub data GivesT5 (F : Facts) : List Claim → Claim → Type 0 where
  t5 : (r : RowId) (d c : ColId) → IsDeclaredBy F d.0 c.0
      → GivesT5 F (Entry r d ∷ []) (Entry r c)

-- a row with a body has all columns of its `this`
pub data GivesT6 (F : Facts) : List Claim → Claim → Type 0 where
  t6 : (r v : RowId) (d c : ColId) → row_this F v.0 ≡ Some d
      → GivesT6 F (Entry r d ∷ Entry v c ∷ []) (Entry r c)

-- a super call gives the caller's `this` the body that runs
pub data GivesT7 (F : Facts) : List Claim → Claim → Type 0 where
  t7 : (x : SuperInfo) → Contains F.supers.items x
      → GivesT7 F [] (Entry x.row x.column)

-- the lower row of a tie has all columns of the upper
pub data GivesT8 (F : Facts) : List Claim → Claim → Type 0 where
  t8 : (x : TieInfo) (c : ColId) → Contains F.ties.items x
      → GivesT8 F (Entry x.upper c ∷ []) (Entry x.lower c)

-- a site in a point or a cell of a row has all columns of the row
pub data GivesT9 (F : Facts) : List Claim → Claim → Type 0 where
  t9_point : (p : ℕ) (v : RowId) (o : SiteId) (c : ColId) → slice_get F.points.items p ≡ Some v
      → GivesT9 F (InPoint p o ∷ Entry v c ∷ []) (Entry (site_at F o.0).row c)
  t9_cell : (k : ℕ) (x : CellInfo) (o : SiteId) (c : ColId) → slice_get F.cells.items k ≡ Some x
      → GivesT9 F (InCell k o ∷ Entry x.row c ∷ []) (Entry (site_at F o.0).row c)

-- where some row has both a member and one that it hides, each row with the first has the second
pub data GivesT10 (F : Facts) : List Claim → Claim → Type 0 where
  t10 : (q r : RowId) (d c : ColId) → Hides F d.0 c.0
      → GivesT10 F (Entry q d ∷ Entry q c ∷ Entry r d ∷ []) (Entry r c)

-- a cast or instanceof has the mark of its type, and an array site that of its base
pub data GivesT11 (F : Facts) : List Claim → Claim → Type 0 where
  t11_test : (x : TestInfo) (c : ColId) → Contains F.tests.items x → IsColumn F Is x.class.0 c.0
      → GivesT11 F [] (Entry x.target c)
  t11_array : (s : SiteInfo) (c : ColId) → Contains F.sites.items s → 0 < s.dim → IsColumn F Is s.class.0 c.0
      → GivesT11 F [] (Entry s.row c)

-- the rule gives the claim of these earlier claims
abbrev pub GivesClaim : Facts → WhyRule → List Claim → Claim → Type 0
GivesClaim F P1 = GivesP1 F
GivesClaim F P2 = GivesP2 F
GivesClaim F P3 = GivesP3 F
GivesClaim F P4 = GivesP4 F
GivesClaim F P5 = GivesP5 F
GivesClaim F P6 = GivesP6 F
GivesClaim F P7 = GivesP7 F
GivesClaim F P8 = GivesP8 F
GivesClaim F T1 = GivesT1 F
GivesClaim F T2 = GivesT2 F
GivesClaim F T3 = GivesT3 F
GivesClaim F T4 = GivesT4 F
GivesClaim F T5 = GivesT5 F
GivesClaim F T6 = GivesT6 F
GivesClaim F T7 = GivesT7 F
GivesClaim F T8 = GivesT8 F
GivesClaim F T9 = GivesT9 F
GivesClaim F T10 = GivesT10 F
GivesClaim F T11 = GivesT11 F
