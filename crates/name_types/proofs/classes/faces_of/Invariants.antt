use Rattle.std.proofs.Common.{◌≡◌, drop}
use Rattle.name_laws.specs.Answers.{run}
use Rattle.name_laws.specs.Classes.{face, faces_of}
use Rattle.name_types.proofs.classes.faces_of.Given as goal

-- the interfaces so far, and then the rest
abbrev pub invariant-loop-id : goal.invariant-loop-id
invariant-loop-id l = run (face l.known) l.faces.items (drop l.id-index l.id-items) ≡ faces_of l.known l.ids.items
