-- What a join leaves of a hierarchy.
use Rattle.std.proofs.Common.{◌≡◌, Bool, List, Option, Some, None, Result, Ok, Err, sym, ap, subst}
use Rattle.std.specs.Prelude.{OnOk, OnErr}
use Rattle.fact_model.specs.declared.facts.Facts.{Facts}
use Rattle.hier_model.specs.Hierarchies.{Hierarchy, IsHierarchyOf}
use Rattle.hier_model.specs.Places.{with_places, IsFormer}
use Rattle.hier_model.specs.declared.places.Join.{Join}
use Rattle.hier_model.specs.declared.places.Places.{Places}
use Rattle.hier_edit.specs.declared.ApplyFault.{ApplyFault}

-- the names of members stay
pub before_members : (old new : Hierarchy) (kept : Join) → IsFormer old new kept → new.members ≡ old.members
before_members old new kept b = at kept.places b.rest
  where
    at : (ps : Option Places) → with_places (record new { order = old.order }) ps ≡ old → new.members ≡ old.members
    at None e = ap (λ (h : Hierarchy). h.members) e
    at (Some p) e = ap (λ (h : Hierarchy). h.members) e

-- after a join is kept, or taken back, there is a hierarchy of the facts
pub fits_kept : (F : Facts) (r : Result (List Bool) ApplyFault) (old mid new : Hierarchy) (b : Join) → IsHierarchyOf F old → IsHierarchyOf F mid
    → IsFormer old mid b → OnOk r (new ≡ mid) → OnErr r ((o : Hierarchy) → IsFormer o mid b → new ≡ o) → IsHierarchyOf F new
fits_kept F (Ok x) old mid new b fits after is made kept = subst (IsHierarchyOf F) (sym made) after
fits_kept F (Err x) old mid new b fits after is made kept = subst (IsHierarchyOf F) (sym (kept old is)) fits
