-- A script's edits and undos are judged one after the other.
use Rattle.std.proofs.Common.{◌≡◌, List, [], ◌∷◌, ◌++◌, Option, Some, None, Result, Ok, Err, refl}
use Rattle.fact_model.specs.declared.facts.Facts.{Facts}
use Rattle.fact_model.specs.declared.sets.PointsTo.{PointsTo}
use Rattle.hier_model.specs.Hierarchies.{Hierarchy}
use Rattle.hier_model.specs.Edits.{changed}
use Rattle.hier_model.specs.declared.edits.Edit.{Edit}
use Rattle.hier_model.specs.declared.edits.Act.{Act}
use Rattle.hier_model.specs.declared.edits.Act.TheVariants as acts
use Rattle.hier_model.specs.declared.edits.ChangeFault.{ChangeFault}
use Rattle.hier_rules.specs.declared.broken.Broken.{Broken}
use Rattle.hier_rules.specs.First.{first_of_edit}
use Rattle.hier_edit.specs.Applied.{unless_broken, outcome}
use Rattle.hier_script.specs.Scripts.{History, unedited, kept, taken_back, refusal, undo_refusal, after_act, act_refusal, after_acts, refusals_from}
use Rattle.edit_script.specs.declared.lines.Line.{Line}
use Rattle.kaba_top.specs.Promise.{AreJudged, none, made, breaks, unmade, undone, none_left}

-- each edit is made or refused as the hierarchy after it meets its obligations, and each undo as there is something to take back
module _ (F : Facts) (pt : PointsTo) where
  -- the further acts are judged, whatever the history
  abbrev AreRestJudged : List Line → Type 0
  AreRestJudged lines = (h : History) → AreJudged F pt h.present h.past lines (after_acts F pt h lines).present (refusals_from F pt h lines)

  by_tested : (h : History) (K : Hierarchy) (line : Line) (e : Edit) (lines : List Line) (o : Option Broken) → line.act ≡ acts.Edit e
      → changed F h.present e ≡ Ok K → first_of_edit F pt K ≡ o → AreRestJudged lines
      → AreJudged F pt h.present h.past (line ∷ lines) (after_acts F pt (kept h (unless_broken K o)) lines).present
      (refusal line.number (unless_broken K o) ++ refusals_from F pt (kept h (unless_broken K o)) lines)
  by_tested h K line e lines None is c t rest = made is c t (rest (kept h (Ok K)))
  by_tested h K line e lines (Some b) is c t rest = breaks is c t (rest h)

  by_changed : (h : History) (line : Line) (e : Edit) (lines : List Line) (r : Result Hierarchy ChangeFault) → line.act ≡ acts.Edit e
      → changed F h.present e ≡ r → AreRestJudged lines
      → AreJudged F pt h.present h.past (line ∷ lines) (after_acts F pt (kept h (outcome F pt r)) lines).present
      (refusal line.number (outcome F pt r) ++ refusals_from F pt (kept h (outcome F pt r)) lines)
  by_changed h line e lines (Ok K) is c rest = by_tested h K line e lines (first_of_edit F pt K) is c refl rest
  by_changed h line e lines (Err fault) is c rest = unmade is c (rest h)

  by_undo : (H : Hierarchy) (past : List Hierarchy) (line : Line) (lines : List Line) → line.act ≡ acts.Undo → AreRestJudged lines
      → AreJudged F pt H past (line ∷ lines) (after_acts F pt (taken_back H past) lines).present
      (undo_refusal line.number past ++ refusals_from F pt (taken_back H past) lines)
  by_undo H [] line lines is rest = none_left is (rest (unedited H))
  by_undo H (K ∷ past) line lines is rest = undone is (rest (record { present = K; past = past }))

  by_act : (h : History) (line : Line) (a : Act) (lines : List Line) → line.act ≡ a → AreRestJudged lines
      → AreJudged F pt h.present h.past (line ∷ lines) (after_acts F pt (after_act F pt h a) lines).present
      (act_refusal F pt line.number h a ++ refusals_from F pt (after_act F pt h a) lines)
  by_act h line (acts.Edit e) lines is rest = by_changed h line e lines (changed F h.present e) is refl rest
  by_act h line acts.Undo lines is rest = by_undo h.present h.past line lines is rest

  pub judged : (lines : List Line) → AreRestJudged lines
  judged [] h = none
  judged (line ∷ lines) h = by_act h line line.act lines refl (judged lines)
