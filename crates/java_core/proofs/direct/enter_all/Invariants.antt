use Rattle.std.proofs.Common.{take}
use Rattle.java_core.specs.Subtypes.{EnteredUnder}
use Rattle.java_core.proofs.direct.enter_all.Given as goal

-- entered below the first of them
abbrev pub invariant-loop-class : goal.invariant-loop-class
invariant-loop-class l = EnteredUnder l.x (take l.class-index l.classes) l.initial.lists l.lists
