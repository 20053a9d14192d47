-- Mirror. What is looked up of the facts again and again.
use Rattle.std.specs.Prelude.{◌≡◌, ℕ, ◌<◌, List, [], length, Contains, Some, slice_get, slice_index_or}
use Rattle.std.specs.Option.{option_map_or}
use Rattle.std.specs.declared.vec.Vec.{Vec}
use Rattle.std.specs.declared.alloc.Global.{Global}
use Rattle.fact_model.specs.Items.{cell_at}
use Rattle.fact_model.specs.declared.facts.Facts.{Facts}
use Rattle.fact_model.specs.declared.facts.BodyInfo.{BodyInfo}
use Rattle.points_to.specs.Above.{AreSitesBelow}
use Rattle.points_to.specs.Chains.{AreBodies}
use Rattle.points_to.specs.Work.{body_node}
use Rattle.points_to.specs.declared.work.Member.{Member}
use Rattle.points_to.specs.declared.index.Index.{Index}

-- a list of lists at a place; past its end the empty one
abbrev pub numbers_at : List (Vec ℕ Global) → ℕ → List ℕ
numbers_at lists k = option_map_or (λ v. v.items) (slice_get lists k) []

-- x is the element of a place
abbrev pub IsElementAt : {X : Type 0} → List X → ℕ → X → Type 0
IsElementAt xs i x = (i < length xs) × (slice_index_or xs i x ≡ x)

-- the lists have at least what they had
pub record KeepNumbers (old new : List (Vec ℕ Global)) : Type 0 where
  pub len : length new ≡ length old
  pub each : (k x : ℕ) → Contains (numbers_at old k) x → Contains (numbers_at new k) x

-- each of the first n items is listed where it belongs; so the cells and the bodies
abbrev pub HaveItems : {X : Type 0} → (X → ℕ) → List X → List (Vec ℕ Global) → ℕ → Type 0
HaveItems {X} to xs lists n = (k : ℕ) → k < n → (x : X) → IsElementAt xs k x → Contains (numbers_at lists (to x)) k

-- each of the first n cells is listed under its site
abbrev pub HaveCells : Facts → List (Vec ℕ Global) → ℕ → Type 0
HaveCells F lists n = (c : ℕ) → c < n → Contains (numbers_at lists (cell_at F c).site.0) c

-- each of the first n bodies is listed under its column
abbrev pub HaveBodies : Facts → List (Vec ℕ Global) → ℕ → Type 0
HaveBodies F = HaveItems (λ x. x.column.0) F.bodies.items

-- cells by site, bodies by column, chains of body columns, and the sites at or below each class
pub record IsIndex (F : Facts) (index : Index) : Type 0 where
  pub cells : HaveCells F index.cells.items (length F.cells.items)
  pub bodies : HaveBodies F index.bodies.items (length F.bodies.items)
  pub chains : AreBodies F index.chains
  pub below : AreSitesBelow F (length F.sites.items) index.below.items

-- the member of the body of a number is listed, where that is of the column d
abbrev pub ListsBody : Facts → Member → ℕ → List ℕ → ℕ → Type 0
ListsBody F m d xs b = (body : BodyInfo) → IsElementAt F.bodies.items b body → body.column.0 ≡ d → (n : ℕ) → body_node m body ≡ Some n → Contains xs n
