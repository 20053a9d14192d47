use Rattle.std.proofs.Common.{◌≡◌, drop}
use Rattle.java_check.specs.SlotOutcome.{has_faces}
use Rattle.java_check.proofs.tables.has_faces.Given as goal

abbrev pub invariant-loop-face : goal.invariant-loop-face
invariant-loop-face l = has_faces l.table l.word l.faces ≡ has_faces l.table l.word (drop l.face-index l.faces)
