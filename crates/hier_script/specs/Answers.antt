-- Mirror. What a script comes to on a hierarchy.
use Rattle.std.specs.Prelude.{◌≡◌, ℕ, ◌≤◌, List, length}
use Rattle.fact_model.specs.declared.facts.Facts.{Facts}
use Rattle.fact_model.specs.declared.sets.PointsTo.{PointsTo}
use Rattle.hier_model.specs.Hierarchies.{Hierarchy, IsHierarchyOf}
use Rattle.hier_rules.specs.First.{MeetsEdit}
use Rattle.edit_script.specs.declared.lines.Line.{Line}
use Rattle.edit_script.specs.Script.{AreEditsOf, IsFirstBadLine, HasTooManyEdits, most_edits}
use Rattle.hier_script.specs.declared.scripts.Edited.{Edited}
use Rattle.hier_script.specs.declared.scripts.Scripted.{Scripted}
use Rattle.hier_script.specs.declared.scripts.Scripted.TheVariants as scripted
use Rattle.hier_script.specs.Scripts.{after_edits, refusals_of}

-- the hierarchy after the edits, which meets the obligations of an edit, and the lines of those that are refused
pub record IsEdited (F : Facts) (pt : PointsTo) (H : Hierarchy) (edits : List Line) (e : Edited) : Type 0 where
  pub hierarchy : e.hier ≡ after_edits F pt H edits
  pub is : IsHierarchyOf F e.hier
  pub meets : MeetsEdit F pt e.hier
  pub refusals : e.refusals.items ≡ refusals_of F pt H edits

-- the edits of the script, of which there are not too many, were made
pub record WasEdited (F : Facts) (pt : PointsTo) (H : Hierarchy) (script : List ℕ) (e : Edited) : Type 0 where
  pub edits : List Line
  pub are : AreEditsOf script edits
  pub few : length edits ≤ most_edits
  pub is : IsEdited F pt H edits e

-- what a script comes to: its first bad line, too many edits, or the hierarchy that its edits make
abbrev pub IsScripted : Facts → PointsTo → Hierarchy → List ℕ → Scripted → Type 0
IsScripted F pt H script (scripted.BadLine n) = IsFirstBadLine script n
IsScripted F pt H script scripted.TooManyEdits = HasTooManyEdits script
IsScripted F pt H script (scripted.Edited e) = WasEdited F pt H script e
