use Rattle.std.proofs.Common.{sym}
use Rattle.java_core.specs.Programs.{program_of}
use Rattle.java_check.proofs.Bodied.{class_fine}
use Rattle.java_check.proofs.classes.class_fault.Goals as goal

pub returns-then-is_quiet : goal.returns-then-is_quiet
returns-then-is_quiet c =
    let quiet = rw c.deref.ensures.value at c.if-is_quiet.ensures in
    sym (class_fine (program_of c.args.p.now) c.requires (c.args.class.0) (sym quiet))
