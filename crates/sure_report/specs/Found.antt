-- Mirror. The bodies that are found site by site.
use Rattle.std.specs.Prelude.{◌≡◌, ◌≢◌, ℕ, ◌<◌, ◌==◌, if◌then◌else◌, true, Option, Some, None}
use Rattle.kaba_bits.specs.Sets.{bit, row}
use Rattle.kaba_base.specs.declared.ColId.{ColId}
use Rattle.fact_model.specs.Items.{site_class}
use Rattle.fact_model.specs.Classes.{finds}
use Rattle.fact_model.specs.declared.facts.Facts.{Facts}
use Rattle.fact_model.specs.declared.facts.BodyInfo.{BodyInfo}
use Rattle.fact_model.specs.declared.facts.AccessInfo.{AccessInfo}
use Rattle.fact_model.specs.declared.sets.PointsTo.{PointsTo}
use Rattle.sure_report.specs.declared.Bodies.{Bodies}
use Rattle.sure_report.specs.declared.Bodies.TheVariants.{Zero, One, Many}

-- the body that a call of the slot j runs for the site s, where the site is in the set of the receiver q
abbrev pub body_for : Facts → PointsTo → ℕ → ℕ → ℕ → Option ℕ
body_for F t q j s = if bit (row t.points.items q) s then finds F (site_class F s) j else None

-- the bodies with one more
abbrev pub joined_body : Bodies → Option ColId → Bodies
joined_body v None = v
joined_body Zero (Some d) = One d
joined_body (One e) (Some d) = if e.0 == d.0 then One e else Many
joined_body Many (Some d) = Many

-- a number is that of the body of a call for a site below k
pub record IsFoundBelow (F : Facts) (t : PointsTo) (q j k d : ℕ) : Type 0 where
  pub site : ℕ
  pub below : site < k
  pub found : body_for F t q j site ≡ Some d

-- the bodies that are found for the sites below k are these
abbrev pub RunBelow : Facts → PointsTo → ℕ → ℕ → ℕ → Bodies → Type 0
RunBelow F t q j k Zero = (d : ℕ) → IsFoundBelow F t q j k d → ⊥
RunBelow F t q j k (One d) = IsFoundBelow F t q j k d.0 × ((e : ℕ) → IsFoundBelow F t q j k e → e ≡ d.0)
RunBelow F t q j k Many = (d : ℕ) × (e : ℕ) × IsFoundBelow F t q j k d × IsFoundBelow F t q j k e × (d ≢ e)

-- a body is not of the column c, or its `this` has an empty set
abbrev pub IsBodyLeft : PointsTo → ℕ → BodyInfo → Type 0
IsBodyLeft t c b = b.column.0 ≡ c → (s : ℕ) → bit (row t.points.items b.this) s ≡ true → ⊥

-- an access is not of the column c, or its row has an empty set
abbrev pub IsAccessLeft : PointsTo → ℕ → AccessInfo → Type 0
IsAccessLeft t c a = a.column.0 ≡ c → (s : ℕ) → bit (row t.rows.items a.row.0) s ≡ true → ⊥
