-- Believed. Points-to sets, by Andersen's inclusions (1994).
use Rattle.std.specs.Prelude.{◌≡◌, ℕ, ◌<◌, ◌↔◌, true, List, [], ◌∷◌, length, Contains, Option, Some, None, slice_index_or}
use Rattle.kaba_bits.specs.Sets.{bit, row, HasWidth}
use Rattle.kaba_derivations.specs.Derivation.{IsDerivable}
use Rattle.kaba_base.specs.declared.ColId.{ColId}
use Rattle.fact_model.specs.Items.{cell_at, point_row, site_class}
use Rattle.fact_model.specs.Classes.{IsBelow, finds}
use Rattle.fact_model.specs.declared.facts.Facts.{Facts}
use Rattle.fact_model.specs.declared.facts.NewInfo.{NewInfo}
use Rattle.fact_model.specs.declared.facts.FlowInfo.{FlowInfo}
use Rattle.fact_model.specs.declared.facts.LoadInfo.{LoadInfo}
use Rattle.fact_model.specs.declared.facts.StoreInfo.{StoreInfo}
use Rattle.fact_model.specs.declared.facts.CastInfo.{CastInfo}
use Rattle.fact_model.specs.declared.facts.CallInfo.{CallInfo}
use Rattle.fact_model.specs.declared.facts.BodyInfo.{BodyInfo}
use Rattle.fact_model.specs.declared.sets.PointsTo.{PointsTo}

-- a site is in a point, or in a cell
pub data Fact : Type 0 where
  in_point : ℕ → ℕ → Fact
  in_cell : ℕ → ℕ → Fact

-- c is the cell of the site o at a column; that of an array site has none
pub record IsCell (F : Facts) (c o : ℕ) (column : Option ColId) : Type 0 where
  pub below : c < length F.cells.items
  pub site_is : (cell_at F c).site.0 ≡ o
  pub column_is : (cell_at F c).column ≡ column

-- a store of an element keeps to the sites whose class is a subtype of the array's base; a store of a field takes all
abbrev pub FitsStore : Facts → Option ColId → ℕ → ℕ → Type 0
FitsStore F None s o = IsBelow F (site_class F s) (site_class F o)
FitsStore F (Some column) s o = Unit {0}

-- the call runs this body for an object of the site o
pub record CallRuns (F : Facts) (call : CallInfo) (o : ℕ) (body : BodyInfo) : Type 0 where
  pub called : Contains F.calls.items call
  pub listed : Contains F.bodies.items body
  pub found : finds F (site_class F o) call.slot ≡ Some body.column.0

-- the point of an argument or a parameter, if there is one
abbrev pub point_at : List (Option ℕ) → ℕ → Option ℕ
point_at ps k = slice_index_or ps k None

-- a fact that follows from others by one inclusion
pub data Inclusion (F : Facts) : List Fact → Fact → Type 0 where
  -- a creation that flows into a point puts its site there
  by_new : (x : NewInfo) → Contains F.news.items x
      → Inclusion F [] (in_point x.point x.site.0)
  -- an assignment includes the value's set in the variable's; so do the arguments and results of static and super calls
  by_flow : (x : FlowInfo) (s : ℕ) → Contains F.flows.items x
      → Inclusion F (in_point x.from s ∷ []) (in_point x.to s)
  -- for a site o in the base, what is in its cell is in the read
  by_load : (x : LoadInfo) (c o s : ℕ) → Contains F.loads.items x → IsCell F c o x.column
      → Inclusion F (in_point x.base o ∷ in_cell c s ∷ []) (in_point x.into s)
  -- for a site o in the base, a store puts what fits of the value in its cell
  by_store : (x : StoreInfo) (c o s : ℕ) → Contains F.stores.items x → IsCell F c o x.column → FitsStore F x.column s o
      → Inclusion F (in_point x.base o ∷ in_point x.value s ∷ []) (in_cell c s)
  -- for a site o in the receiver and the body found for its class, o is in the body's `this`
  by_this : (call : CallInfo) (o : ℕ) (body : BodyInfo) → CallRuns F call o body
      → Inclusion F (in_point call.receiver o ∷ []) (in_point body.this o)
  -- and the set of each argument is in that of the body's parameter
  by_argument : (call : CallInfo) (o : ℕ) (body : BodyInfo) (k from to s : ℕ) → CallRuns F call o body
      → point_at call.args.items k ≡ Some from → point_at body.params.items k ≡ Some to
      → Inclusion F (in_point call.receiver o ∷ in_point from s ∷ []) (in_point to s)
  -- and the set of the body's result is in that of the call
  by_result : (call : CallInfo) (o : ℕ) (body : BodyInfo) (from to s : ℕ) → CallRuns F call o body
      → body.result ≡ Some from → call.result ≡ Some to
      → Inclusion F (in_point call.receiver o ∷ in_point from s ∷ []) (in_point to s)
  -- a cast or instanceof has those sites whose class is a subtype of the one that it names
  by_cast : (x : CastInfo) (s : ℕ) → Contains F.casts.items x → IsBelow F (site_class F s) x.class.0
      → Inclusion F (in_point x.from s ∷ []) (in_point x.into s)

-- a fact holds exactly where some derivation ends in it: these are the least sets that are closed under the inclusions
abbrev pub Holds : Facts → Fact → Type 0
Holds F f = IsDerivable (Inclusion F) f

-- a site is in the set of a row: in one of its points or cells
pub data IsInRow (F : Facts) : ℕ → ℕ → Type 0 where
  by_point : (p s : ℕ) → p < length F.points.items → Holds F (in_point p s) → IsInRow F (point_row F p) s
  by_cell : (c s : ℕ) → c < length F.cells.items → Holds F (in_cell c s) → IsInRow F (cell_at F c).row.0 s

-- the points-to sets of the facts, for each point, cell and row
pub record AreSets (F : Facts) (t : PointsTo) : Type 0 where
  pub point_count : length t.points.items ≡ length F.points.items
  pub cell_count : length t.cells.items ≡ length F.cells.items
  pub row_count : length t.rows.items ≡ length F.rows.items
  pub point_widths : HasWidth (length F.sites.items) t.points.items
  pub cell_widths : HasWidth (length F.sites.items) t.cells.items
  pub row_widths : HasWidth (length F.sites.items) t.rows.items
  pub points : (p s : ℕ) → (bit (row t.points.items p) s ≡ true) ↔ Holds F (in_point p s)
  pub cells : (c s : ℕ) → (bit (row t.cells.items c) s ≡ true) ↔ Holds F (in_cell c s)
  pub rows : (r s : ℕ) → (bit (row t.rows.items r) s ≡ true) ↔ IsInRow F r s
