-- Believed. The first instance of the first broken obligation.
use Rattle.std.specs.Prelude.{◌≡◌, Option, None}
use Rattle.kaba_bits.specs.Sets.{or_else}
use Rattle.fact_model.specs.declared.facts.Facts.{Facts}
use Rattle.fact_model.specs.declared.sets.PointsTo.{PointsTo}
use Rattle.hier_model.specs.Hierarchies.{Hierarchy}
use Rattle.hier_rules.specs.declared.broken.Broken.{Broken}
use Rattle.hier_rules.specs.Obligations.{first_unoffered, first_untied, first_wrong_need, first_wrong_super, first_two_bodies, first_wrong_outcome, first_unchained}
use Rattle.hier_rules.specs.Names.{first_misnamed}

-- B4 to B7: of bodies and of outcomes
abbrev pub first_changed_run : Facts → PointsTo → Hierarchy → Option Broken
first_changed_run F pt H = or_else (first_wrong_need F pt H) (or_else (first_wrong_super F H) (or_else (first_two_bodies F H) (first_wrong_outcome F pt H)))

-- B2 to B8: what an edit is tested for, beside its order
abbrev pub first_of_edit : Facts → PointsTo → Hierarchy → Option Broken
first_of_edit F pt H = or_else (first_unoffered F H) (or_else (first_untied F pt H) (or_else (first_changed_run F pt H) (first_misnamed F H)))

-- B2 to B9
abbrev pub first_broken : Facts → PointsTo → Hierarchy → Option Broken
first_broken F pt H = or_else (first_of_edit F pt H) (first_unchained F H)

-- the obligations of an edit hold
abbrev pub MeetsEdit : Facts → PointsTo → Hierarchy → Type 0
MeetsEdit F pt H = first_of_edit F pt H ≡ None
