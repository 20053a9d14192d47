-- Believed. Facts in range: what every call that takes facts asks.
use Rattle.std.specs.Prelude.{ℕ, ◌<◌, length, All, IfSome}
use Rattle.kaba_base.specs.declared.RowId.{RowId}
use Rattle.kaba_base.specs.declared.ColId.{ColId}
use Rattle.kaba_base.specs.declared.SiteId.{SiteId}
use Rattle.kaba_base.specs.declared.ClassId.{ClassId}
use Rattle.fact_model.specs.Classes.{IsAcyclic}
use Rattle.fact_model.specs.declared.facts.Facts.{Facts}

-- each list of numbered things has fewer than the greatest u32
pub record AreCounted (F : Facts) : Type 0 where
  pub rows : length F.rows.items < 4294967295
  pub columns : length F.columns.items < 4294967295
  pub sites : length F.sites.items < 4294967295
  pub classes : length F.classes.items < 4294967295
  pub points : length F.points.items < 4294967295
  pub cells : length F.cells.items < 4294967295
  pub calls : length F.calls.items < 4294967295
  pub tests : length F.tests.items < 4294967295

module _ (F : Facts) where
  -- the id is that of a row of the facts
  abbrev pub IsRow : RowId → Type 0
  IsRow r = r.0 < length F.rows.items

  -- the id is that of a column of the facts
  abbrev pub IsCol : ColId → Type 0
  IsCol c = c.0 < length F.columns.items

  -- the id is that of a creation site of the facts
  abbrev pub IsSite : SiteId → Type 0
  IsSite s = s.0 < length F.sites.items

  -- the id is that of a class or interface of the facts
  abbrev pub IsClass : ClassId → Type 0
  IsClass a = a.0 < length F.classes.items

  -- the number is that of a flow point of the facts
  abbrev pub IsPoint : ℕ → Type 0
  IsPoint p = p < length F.points.items

-- every id and point is in range, and no type is its own ancestor
pub record InRange (F : Facts) : Type 0 where
  pub counts : AreCounted F
  pub acyclic : IsAcyclic F
  pub rows : All (λ r. IsClass F r.class × IfSome r.site (IsSite F) × IfSome r.this_of (IsCol F)) F.rows.items
  pub columns : All (λ c. IsClass F c.class) F.columns.items
  pub sites : All (λ s. IsRow F s.row × IsClass F s.class) F.sites.items
  pub classes : All (λ k. IfSome k.parent (IsClass F) × All (IsClass F) k.faces.items) F.classes.items
  pub points : All (IsRow F) F.points.items
  pub cells : All (λ c. IsSite F c.site × IfSome c.column (IsCol F) × IsRow F c.row) F.cells.items
  pub news : All (λ x. IsPoint F x.point × IsSite F x.site) F.news.items
  pub flows : All (λ x. IsPoint F x.from × IsPoint F x.to) F.flows.items
  pub loads : All (λ x. IsPoint F x.base × IfSome x.column (IsCol F) × IsPoint F x.into) F.loads.items
  pub stores : All (λ x. IsPoint F x.base × IfSome x.column (IsCol F) × IsPoint F x.value) F.stores.items
  pub bodies : All (λ x. IsCol F x.column × IsPoint F x.this × All (λ p. IfSome p (IsPoint F)) x.params.items × IfSome x.result (IsPoint F)) F.bodies.items
  pub calls : All (λ x. IsPoint F x.receiver × All (λ p. IfSome p (IsPoint F)) x.args.items × IfSome x.result (IsPoint F)) F.calls.items
  pub casts : All (λ x. IsPoint F x.from × IsPoint F x.into × IsClass F x.class) F.casts.items
  pub accesses : All (λ x. IsRow F x.row × IsCol F x.column) F.accesses.items
  pub supers : All (λ x. IsRow F x.row × IsCol F x.column) F.supers.items
  pub ties : All (λ x. IsRow F x.lower × IsRow F x.upper) F.ties.items
  pub tests : All (λ x. IsPoint F x.from × IsRow F x.target × IsClass F x.class) F.tests.items
  pub makes : All (λ x. IsSite F x.site) F.makes.items
