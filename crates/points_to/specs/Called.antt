-- Mirror. The body that is looked for, of which a member is one of the sets of a site.
use Rattle.std.specs.Prelude.{◌≡◌, ℕ, Some}
use Rattle.fact_model.specs.Items.{site_class}
use Rattle.fact_model.specs.Classes.{finds}
use Rattle.fact_model.specs.declared.facts.Facts.{Facts}
use Rattle.points_to.specs.Work.{IsBodyNode}
use Rattle.points_to.specs.declared.targets.Called.{Called}

-- the class of the site runs the body of the column for the slot
abbrev pub IsFoundCall : Facts → Called → Type 0
IsFoundCall F x = finds F (site_class F x.site) x.slot ≡ Some x.column

-- n is the point of the member of that body
abbrev pub IsCalledNode : Facts → Called → ℕ → Type 0
IsCalledNode F x n = IsBodyNode F x.member x.slot x.site n
