-- Where no obligation is broken, none of each kind is.
use Rattle.std.specs.Prelude.{◌≡◌, None}
use Rattle.kaba_bits.specs.Sets.{or_else}
use Rattle.kaba_bits.proofs.FirstLemmas.{or_else-None}
use Rattle.fact_model.specs.declared.facts.Facts.{Facts}
use Rattle.fact_model.specs.declared.sets.PointsTo.{PointsTo}
use Rattle.hier_model.specs.Hierarchies.{Hierarchy}
use Rattle.hier_rules.specs.Names.{first_unwritable, first_taken_type, first_taken_field, first_confused, first_misnamed}
use Rattle.hier_rules.specs.Obligations.{first_unoffered, first_untied, first_wrong_need, first_wrong_super, first_two_bodies, first_wrong_outcome, first_unchained}
use Rattle.hier_rules.specs.First.{first_changed_run, first_of_edit, first_broken}

-- none of B8
pub record NoneMisnamed (F : Facts) (H : Hierarchy) : Type 0 where
  pub written : first_unwritable F H ≡ None
  pub types : first_taken_type F H ≡ None
  pub fields : first_taken_field F H ≡ None
  pub apart : first_confused F H ≡ None

-- none of B2 to B8
pub record NoneBroken (F : Facts) (pt : PointsTo) (H : Hierarchy) : Type 0 where
  pub offered : first_unoffered F H ≡ None
  pub tied : first_untied F pt H ≡ None
  pub needs : first_wrong_need F pt H ≡ None
  pub supers : first_wrong_super F H ≡ None
  pub bodies : first_two_bodies F H ≡ None
  pub outcomes : first_wrong_outcome F pt H ≡ None
  pub misnamed : first_misnamed F H ≡ None
  pub names : NoneMisnamed F H

pub none_misnamed : (F : Facts) (H : Hierarchy) → first_misnamed F H ≡ None → NoneMisnamed F H
none_misnamed F H none =
    let a = or_else-None (first_unwritable F H) (or_else (first_taken_type F H) (or_else (first_taken_field F H) (first_confused F H))) none in
    let b = or_else-None (first_taken_type F H) (or_else (first_taken_field F H) (first_confused F H)) a.1 in
    let c = or_else-None (first_taken_field F H) (first_confused F H) b.1 in
    record { written = a.0; types = b.0; fields = c.0; apart = c.1 }

pub none_of_edit : (F : Facts) (pt : PointsTo) (H : Hierarchy) → first_of_edit F pt H ≡ None → NoneBroken F pt H
none_of_edit F pt H none =
    let a = or_else-None (first_unoffered F H) (or_else (first_untied F pt H) (or_else (first_changed_run F pt H) (first_misnamed F H))) none in
    let b = or_else-None (first_untied F pt H) (or_else (first_changed_run F pt H) (first_misnamed F H)) a.1 in
    let c = or_else-None (first_changed_run F pt H) (first_misnamed F H) b.1 in
    let d = or_else-None (first_wrong_need F pt H) (or_else (first_wrong_super F H) (or_else (first_two_bodies F H) (first_wrong_outcome F pt H))) c.0 in
    let e = or_else-None (first_wrong_super F H) (or_else (first_two_bodies F H) (first_wrong_outcome F pt H)) d.1 in
    let f = or_else-None (first_two_bodies F H) (first_wrong_outcome F pt H) e.1 in
    record { offered = a.0; tied = b.0; needs = d.0; supers = e.0; bodies = f.0; outcomes = f.1; misnamed = c.1; names = none_misnamed F H c.1 }

pub none_broken : (F : Facts) (pt : PointsTo) (H : Hierarchy) → first_broken F pt H ≡ None → NoneBroken F pt H
none_broken F pt H none = none_of_edit F pt H (or_else-None (first_of_edit F pt H) (first_unchained F H) none).0
