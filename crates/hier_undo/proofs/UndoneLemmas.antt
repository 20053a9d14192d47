-- An accepted edit made the hierarchy after it.
use Rattle.std.proofs.Common.{◌≡◌, Option, Some, None, Result, Ok, Err, sym, ◌∙◌, ap}
use Rattle.fact_model.specs.InRange.{InRange}
use Rattle.fact_model.specs.declared.facts.Facts.{Facts}
use Rattle.fact_model.specs.declared.sets.PointsTo.{PointsTo}
use Rattle.hier_model.specs.Hierarchies.{Hierarchy, IsHierarchyOf}
use Rattle.hier_model.specs.Edits.{changed, NamesSome}
use Rattle.hier_model.specs.Differences.{IsOneEdit}
use Rattle.hier_model.specs.declared.edits.Edit.{Edit}
use Rattle.hier_model.specs.declared.edits.ChangeFault.{ChangeFault}
use Rattle.hier_rules.specs.First.{first_of_edit}
use Rattle.hier_rules.specs.declared.broken.Broken.{Broken}
use Rattle.hier_edit.specs.Applied.{applied, outcome, unless_broken}
use Rattle.hier_edit.specs.declared.ApplyFault.{ApplyFault}

ok_of : (H h : Hierarchy) (b : Option Broken) → unless_broken H b ≡ Ok h → H ≡ h
ok_of H h None e = cc e
ok_of H h (Some b) e = absurd (cc e)

changed_of : (F : Facts) (pt : PointsTo) (r : Result Hierarchy ChangeFault) (h : Hierarchy) → outcome F pt r ≡ Ok h → r ≡ Ok h
changed_of F pt (Ok H) h e = ap (λ (x : Hierarchy). let r : Result Hierarchy ChangeFault = Ok x in r) (ok_of H h (first_of_edit F pt H) e)
changed_of F pt (Err fault) h e = absurd (cc e)

pub was_edited : (F : Facts) (pt : PointsTo) (H h : Hierarchy) (e : Edit) → InRange F → IsHierarchyOf F H → NamesSome e → applied F pt H e ≡ Ok h
    → IsOneEdit H h
was_edited F pt H h e range fits some made = record {
  facts = F;
  edit = e;
  range = range;
  fits = fits;
  some = some;
  made = changed_of F pt (changed F H e) h made;
}
