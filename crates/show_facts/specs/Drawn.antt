-- Mirror. What the drawn facts are made of: one row, one class, 2,000 points and 500 sites.
use Rattle.std.specs.Prelude.{◌≡◌, ℕ, ◌<◌, List, [], None, length, All}
use Rattle.kaba_base.specs.declared.RowId.{RowId}
use Rattle.fact_model.specs.declared.facts.RowInfo.{RowInfo}
use Rattle.fact_model.specs.declared.facts.ClassInfo.{ClassInfo}
use Rattle.fact_model.specs.declared.facts.SiteInfo.{SiteInfo}
use Rattle.fact_model.specs.declared.facts.NewInfo.{NewInfo}
use Rattle.fact_model.specs.declared.facts.FlowInfo.{FlowInfo}

-- a list of so many items, each of one kind
pub record AreMany {T : Type 0} (n : ℕ) (P : T → Type 0) (xs : List T) : Type 0 where
  pub count : length xs ≡ n
  pub each : All P xs

-- a class with nothing above it
abbrev pub IsRoot : ClassInfo → Type 0
IsRoot k = (k.parent ≡ None) × (k.faces.items ≡ [])

-- a row of the first class, which is no site's and no `this`
abbrev pub IsOnlyRow : RowInfo → Type 0
IsOnlyRow r = (r.class.0 ≡ 0) × (r.site ≡ None) × (r.this_of ≡ None)

-- a point of the first row
abbrev pub IsFirstRow : RowId → Type 0
IsFirstRow r = r.0 ≡ 0

-- a site of the first row and class
abbrev pub IsFirstSite : SiteInfo → Type 0
IsFirstSite s = (s.row.0 ≡ 0) × (s.class.0 ≡ 0)

-- a point and a number below the limit
abbrev pub IsPair : ℕ → ℕ × ℕ → Type 0
IsPair limit p = (p.0 < 2000) × (p.1 < limit)

-- one of the sites in one of the points
abbrev pub IsNew : NewInfo → Type 0
IsNew x = (x.point < 2000) × (x.site.0 < 500)

-- a flow from one of the points to one of them
abbrev pub IsDrawnFlow : FlowInfo → Type 0
IsDrawnFlow x = (x.from < 2000) × (x.to < 2000)
