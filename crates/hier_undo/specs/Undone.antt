-- Mirror. What was kept of each edit of a history.
use Rattle.std.specs.Prelude.{List, [], ◌∷◌}
use Rattle.hier_model.specs.Hierarchies.{Hierarchy}
use Rattle.hier_model.specs.Differences.{IsUndoOf}
use Rattle.hier_model.specs.declared.differences.Undo.{Undo}

-- each Undo leads from a hierarchy to the one before it: the first from the present one, and so on
abbrev pub AreUndosOf : Hierarchy → List Hierarchy → List Undo → Type 0
AreUndosOf present [] [] = Unit {0}
AreUndosOf present [] (kept ∷ undos) = ⊥
AreUndosOf present (before ∷ past) [] = ⊥
AreUndosOf present (before ∷ past) (kept ∷ undos) = IsUndoOf before present kept × AreUndosOf before past undos
