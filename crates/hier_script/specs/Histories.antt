-- Mirror. A history as a program keeps it: the present hierarchy, and what takes the edits back.
use Rattle.std.specs.Prelude.{◌≡◌, ℕ, List, ◌++◌, All, reverse}
use Rattle.fact_model.specs.declared.facts.Facts.{Facts}
use Rattle.fact_model.specs.declared.sets.PointsTo.{PointsTo}
use Rattle.hier_model.specs.Hierarchies.{Hierarchy, IsHierarchyOf}
use Rattle.hier_model.specs.declared.differences.Undo.{Undo}
use Rattle.hier_model.specs.declared.edits.Act.{Act}
use Rattle.hier_model.specs.declared.edits.Act.TheVariants as acts
use Rattle.hier_model.specs.Edits.{NamesSome}
use Rattle.hier_rules.specs.First.{MeetsEdit}
use Rattle.hier_undo.specs.Undone.{AreUndosOf}
use Rattle.edit_script.specs.declared.lines.Line.{Line}
use Rattle.hier_script.specs.Scripts.{History, unedited, after_act, act_refusal, taken_back, undo_refusal, after_acts, refusals_from, refusals_of}

-- a hierarchy that may be edited
pub record IsEditable (F : Facts) (pt : PointsTo) (H : Hierarchy) : Type 0 where
  pub is : IsHierarchyOf F H
  pub meets : MeetsEdit F pt H

-- the hierarchy is the present one, the undos, of which the last stands behind, bring the past ones back, and each may be edited
pub record Shows (F : Facts) (pt : PointsTo) (h : History) (hier : Hierarchy) (undos : List Undo) : Type 0 where
  pub present : hier ≡ h.present
  pub undos_are : AreUndosOf h.present h.past (reverse undos)
  pub editable : IsEditable F pt h.present
  pub past_editable : All (IsEditable F pt) h.past

-- a history is shown
abbrev pub HasHistory : Facts → PointsTo → Hierarchy → List Undo → Type 0
HasHistory F pt H undos = (h : History) × Shows F pt h H undos

-- a history is shown, over some facts
abbrev pub HasSomeHistory : Hierarchy → List Undo → Type 0
HasSomeHistory H undos = (F : Facts) × (pt : PointsTo) × HasHistory F pt H undos

-- where a history is shown, what the act makes of it is shown then
abbrev pub IsCarriedOn : Facts → PointsTo → Act → Hierarchy → List Undo → Hierarchy → List Undo → Type 0
IsCarriedOn F pt act H undos New more = (h : History) → Shows F pt h H undos → Shows F pt (after_act F pt h act) New more

-- where a history is shown, this is the text of an act that is refused in it, or none
abbrev pub IsTold : Facts → PointsTo → Act → Hierarchy → List Undo → ℕ → List ℕ → Type 0
IsTold F pt act H undos number text = (h : History) → Shows F pt h H undos → text ≡ act_refusal F pt number h act

-- the same of an undo, over whatever facts
abbrev pub IsUndone : Hierarchy → List Undo → Hierarchy → List Undo → Type 0
IsUndone H undos New more = (F : Facts) (pt : PointsTo) (h : History) → Shows F pt h H undos → Shows F pt (taken_back h.present h.past) New more

-- and of its text
abbrev pub IsUndoTold : Hierarchy → List Undo → ℕ → List ℕ → Type 0
IsUndoTold H undos number text = (F : Facts) (pt : PointsTo) (h : History) → Shows F pt h H undos → text ≡ undo_refusal number h.past

-- of the lines, the rest is left; the hierarchy and the undos show a history from which it leads to the same history as all of them do from the first
-- hierarchy, and with what is told so far to the same lines of refusals
pub record IsUnderWay (F : Facts) (pt : PointsTo) (first : Hierarchy) (lines rest : List Line) (hier : Hierarchy) (undos : List Undo) (told : List ℕ)
    : Type 0 where
  pub history : History
  pub shows : Shows F pt history hier undos
  pub leads : after_acts F pt history rest ≡ after_acts F pt (unedited first) lines
  pub tells : told ++ refusals_from F pt history rest ≡ refusals_of F pt first lines

-- a merge has a node
abbrev pub ActNamesSome : Act → Type 0
ActNamesSome (acts.Edit edit) = NamesSome edit
ActNamesSome acts.Undo = Unit {0}
