use Rattle.std.proofs.Common.{◌≡◌, drop}
use Rattle.java_core.specs.Programs.{program_of}
use Rattle.java_core.specs.Own.{towards}
use Rattle.java_core.proofs.classes.face_towards.Given as goal

-- none so far
abbrev pub invariant-loop-face : goal.invariant-loop-face
invariant-loop-face l = towards (program_of l.p) l.name (drop l.face-index l.face-items) ≡ towards (program_of l.p) l.name l.face-items
