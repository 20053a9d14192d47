use Rattle.std.proofs.Common.{◌≡◌, drop, length, map}
use Rattle.java_core.specs.Programs.{class_seen}
use Rattle.java_core.specs.Classes.{nearest, nearest_of}
use Rattle.java_core.specs.Subtypes.{of_classes}
use Rattle.name_types.specs.Writers.{writer_at}
use Rattle.name_types.proofs.writers.has_writer.Given as goal

-- what is nearest from here, in the steps that are left
abbrev pub invariant-loop-step : goal.invariant-loop-step
invariant-loop-step l =
    nearest (of_classes (map class_seen l.classes.items)) (writer_at l.writers.items) (length (drop l._step-index l._step-items)) l.at
    ≡ nearest_of (of_classes (map class_seen l.classes.items)) (writer_at l.writers.items) l.class
