-- What an act makes of a history that is shown.
use Rattle.std.proofs.Common.{◌≡◌, ◌<◌, ◌+◌, ◌++◌, ℕ, List, [], ◌∷◌, Ok, length, get_or, drop, reverse, refl, sym, ap, ◌∙◌, subst, append_assoc}
use Rattle.std.specs.Prelude.{All}
use Rattle.std.proofs.lemmas.List.{drop_more, reverse-append}
use Rattle.std.proofs.lemmas.List.Elements.{All-nil, All-cons, All-head, All-tail}
use Rattle.fact_model.specs.declared.facts.Facts.{Facts}
use Rattle.fact_model.specs.declared.sets.PointsTo.{PointsTo}
use Rattle.hier_model.specs.Hierarchies.{Hierarchy}
use Rattle.hier_model.specs.Differences.{IsUndoOf}
use Rattle.hier_model.specs.declared.edits.Act.TheVariants as acts
use Rattle.hier_model.specs.declared.edits.Edit.{Edit}
use Rattle.hier_model.specs.declared.differences.Undo.{Undo}
use Rattle.hier_edit.specs.Applied.{applied}
use Rattle.hier_undo.specs.Undone.{AreUndosOf}
use Rattle.edit_script.specs.declared.lines.Line.{Line}
use Rattle.hier_script.specs.Scripts.{History, unedited, kept, taken_back, undo_refusal, after_act, act_refusal, after_acts, refusals_from}
use Rattle.hier_script.specs.Histories.{IsEditable, Shows, IsCarriedOn, IsTold, IsUndone, IsUndoTold, IsUnderWay}

-- the last of a list stands first in its reverse
last_first : (front : List Undo) (u : Undo) → reverse (front ++ u ∷ []) ≡ u ∷ reverse front
last_first front u = reverse-append front (u ∷ [])

-- the hierarchy that an undo brings back
first_back : (H : Hierarchy) (past : List Hierarchy) (u : Undo) (us : List Undo) → AreUndosOf H past (u ∷ us) → (K : Hierarchy) × IsUndoOf K H u
first_back H [] u us are = absurd are
first_back H (K ∷ past) u us are = (K, are.0)

module _ (F : Facts) (pt : PointsTo) where
  -- before the first act
  pub begun : (H : Hierarchy) → IsEditable F pt H → Shows F pt (unedited H) H []
  begun H editable = record { present = refl; undos_are = tt; editable = editable; past_editable = All-nil (IsEditable F pt) }

  -- an edit was made
  pub edited : (e : Edit) (H New : Hierarchy) (undos : List Undo) (u : Undo) → applied F pt H e ≡ Ok New → IsEditable F pt New → IsUndoOf H New u
      → IsCarriedOn F pt (acts.Edit e) H undos New (undos ++ u ∷ [])
  edited e H New undos u made editable back = λ h s.
      subst (λ r. Shows F pt (kept h r) New (undos ++ u ∷ [])) (sym (ap (λ K. applied F pt K e) (sym s.present) ∙ made)) (record {
        present = refl;
        undos_are = subst (AreUndosOf New (h.present ∷ h.past)) (sym (last_first undos u)) (subst (λ K. IsUndoOf K New u) s.present back, s.undos_are);
        editable = editable;
        past_editable = All-cons (IsEditable F pt) h.present h.past s.editable s.past_editable;
      })

  back_to : (H New : Hierarchy) (past : List Hierarchy) (rest : List Undo) (u : Undo) → AreUndosOf H past (u ∷ reverse rest) → All (IsEditable F pt) past
      → ((K : Hierarchy) → IsUndoOf K H u → New ≡ K) → Shows F pt (taken_back H past) New rest
  back_to H New [] rest u are may back = absurd are
  back_to H New (K ∷ past) rest u are may back = record {
    present = back K are.0;
    undos_are = are.1;
    editable = All-head (IsEditable F pt) K past may;
    past_editable = All-tail (IsEditable F pt) K past may;
  }

-- the last edit was taken back
pub undone : (H New : Hierarchy) (undos rest : List Undo) (u : Undo) → undos ≡ rest ++ u ∷ [] → ((K : Hierarchy) → IsUndoOf K H u → New ≡ K)
    → IsUndone H undos New rest
undone H New undos rest u e back = λ F pt h s.
    back_to F pt h.present New h.past rest u
    (subst (AreUndosOf h.present h.past) (ap reverse e ∙ last_first rest u) s.undos_are) s.past_editable
    (λ K is. back K (subst (λ z. IsUndoOf K z u) (sym s.present) is))

some_past : (number : ℕ) (H : Hierarchy) (past : List Hierarchy) (rest : List Undo) (u : Undo)
    → AreUndosOf H past (u ∷ reverse rest) → [] ≡ undo_refusal number past
some_past number H [] rest u are = absurd are
some_past number H (K ∷ past) rest u are = refl

-- then no line is told
pub undo_silent : (H : Hierarchy) (undos rest : List Undo) (u : Undo) (number : ℕ) → undos ≡ rest ++ u ∷ [] → IsUndoTold H undos number []
undo_silent H undos rest u number e = λ F pt h s.
    some_past number h.present h.past rest u (subst (AreUndosOf h.present h.past) (ap reverse e ∙ last_first rest u) s.undos_are)

-- some hierarchy is brought back by the last undo
pub some_back : (F : Facts) (pt : PointsTo) (h : History) (H : Hierarchy) (undos rest : List Undo) (u : Undo) → Shows F pt h H undos
    → undos ≡ rest ++ u ∷ [] → (K : Hierarchy) × IsUndoOf K H u
some_back F pt h H undos rest u s e =
    let found = first_back h.present h.past u (reverse rest) (subst (AreUndosOf h.present h.past) (ap reverse e ∙ last_first rest u) s.undos_are) in
    (found.0, subst (λ z. IsUndoOf found.0 z u) (sym s.present) found.1)

module _ (F : Facts) (pt : PointsTo) where
  -- before the first line
  pub under_way : (H : Hierarchy) (lines : List Line) → IsEditable F pt H → IsUnderWay F pt H lines lines H [] []
  under_way H lines editable = record { history = unedited H; shows = begun F pt H editable; leads = refl; tells = refl }

  -- one line more
  pub further : (first : Hierarchy) (lines : List Line) (line : Line) (rest : List Line) (hier New : Hierarchy) (undos more : List Undo)
      (told text now : List ℕ)
      → IsUnderWay F pt first lines (line ∷ rest) hier undos told → IsCarriedOn F pt line.act hier undos New more
      → IsTold F pt line.act hier undos line.number text → now ≡ told ++ text → IsUnderWay F pt first lines rest New more now
  further first lines line rest hier New undos more told text now w carried is_told e =
      let after = after_act F pt w.history line.act in
      record {
        history = after;
        shows = carried w.history w.shows;
        leads = w.leads;
        tells = ap (λ t. t ++ refusals_from F pt after rest) (e ∙ ap (λ t. told ++ t) (is_told w.history w.shows))
            ∙ append_assoc told (act_refusal F pt line.number w.history line.act) (refusals_from F pt after rest) ∙ w.tells;
      }

  -- the same of a list that is gone through by number
  pub further_at : (first : Hierarchy) (lines : List Line) (i : ℕ) (line : Line) (hier New : Hierarchy) (undos more : List Undo) (told text now : List ℕ)
      → i < length lines → line ≡ get_or lines i line → IsUnderWay F pt first lines (drop i lines) hier undos told
      → IsCarriedOn F pt line.act hier undos New more → IsTold F pt line.act hier undos line.number text → now ≡ told ++ text
      → IsUnderWay F pt first lines (drop (i + 1) lines) New more now
  further_at first lines i line hier New undos more told text now lt at w =
      further first lines line (drop (i + 1) lines) hier New undos more told text now
      (subst (λ rest. IsUnderWay F pt first lines rest hier undos told) (drop_more lines i line lt ∙ ap (λ x. x ∷ drop (i + 1) lines) (sym at)) w)
