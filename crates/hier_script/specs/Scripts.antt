-- Believed. What the edits and undos of a script make of a hierarchy, and the lines of those that are refused.
use Rattle.std.specs.Prelude.{ℕ, List, [], ◌∷◌, ◌++◌, Result, Ok, Err}
use Rattle.fact_model.specs.declared.facts.Facts.{Facts}
use Rattle.fact_model.specs.declared.sets.PointsTo.{PointsTo}
use Rattle.hier_model.specs.Hierarchies.{Hierarchy}
use Rattle.hier_model.specs.declared.edits.Act.{Act}
use Rattle.hier_model.specs.declared.edits.Act.TheVariants as acts
use Rattle.hier_edit.specs.declared.ApplyFault.{ApplyFault}
use Rattle.hier_edit.specs.Applied.{applied}
use Rattle.edit_script.specs.declared.lines.Line.{Line}
use Rattle.hier_script.specs.Refusals.{refusal_line, no_undo_line}

-- a hierarchy, and those that undos bring back one after the other, the last one first
pub record History : Type 0 where
  pub present : Hierarchy
  pub past : List Hierarchy

-- the history of a hierarchy that no edit has changed
abbrev pub unedited : Hierarchy → History
unedited H = record { present = H; past = [] }

-- an accepted edit puts the present hierarchy before the past ones and changes it; another leaves both
abbrev pub kept : History → Result Hierarchy ApplyFault → History
kept h (Ok made) = record { present = made; past = h.present ∷ h.past }
kept h (Err fault) = h

-- an undo makes the last of the past hierarchies the present one; where there is none it leaves all
abbrev pub taken_back : Hierarchy → List Hierarchy → History
taken_back H [] = unedited H
taken_back H (K ∷ past) = record { present = K; past = past }

-- the line of an edit that is refused; an accepted one has none
abbrev pub refusal : ℕ → Result Hierarchy ApplyFault → List ℕ
refusal number (Ok made) = []
refusal number (Err fault) = refusal_line number fault

-- the line of an undo where there is no past hierarchy; another has none
abbrev pub undo_refusal : ℕ → List Hierarchy → List ℕ
undo_refusal number [] = no_undo_line number
undo_refusal number (K ∷ past) = []

module _ (F : Facts) (pt : PointsTo) where
  -- what an act makes of a history
  abbrev pub after_act : History → Act → History
  after_act h (acts.Edit edit) = kept h (applied F pt h.present edit)
  after_act h acts.Undo = taken_back h.present h.past

  -- the line of an act, where it is refused in this history
  abbrev pub act_refusal : ℕ → History → Act → List ℕ
  act_refusal number h (acts.Edit edit) = refusal number (applied F pt h.present edit)
  act_refusal number h acts.Undo = undo_refusal number h.past

  -- the same for the acts of a list, one after the other
  abbrev pub after_acts : History → List Line → History
  after_acts h [] = h
  after_acts h (line ∷ lines) = after_acts (after_act h line.act) lines

  -- the lines of the acts that are refused, each in the history that those before it leave
  abbrev pub refusals_from : History → List Line → List ℕ
  refusals_from h [] = []
  refusals_from h (line ∷ lines) = act_refusal line.number h line.act ++ refusals_from (after_act h line.act) lines

  -- the hierarchy after the acts of a list
  abbrev pub after_edits : Hierarchy → List Line → Hierarchy
  after_edits H lines = (after_acts (unedited H) lines).present

  -- the lines of those of them that are refused
  abbrev pub refusals_of : Hierarchy → List Line → List ℕ
  refusals_of H lines = refusals_from (unedited H) lines
