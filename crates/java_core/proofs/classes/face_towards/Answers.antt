use Rattle.std.proofs.Common.{sym, ap, ◌∙◌}
use Rattle.std.specs.Option.{is_some}
use Rattle.java_core.specs.Programs.{program_of}
use Rattle.java_core.proofs.Offered.{towards-later}
use Rattle.java_core.proofs.classes.face_towards.Goals as goal

pub loop-face-preserved : goal.loop-face-preserved
loop-face-preserved c =
    towards-later (program_of c.args.p.now) c.requires c.args.name.now c.faces_of-face-items.result.now c.loop-face.face-index (record { 0 = 0 })
    c.loop-face-test.true (sym (ap is_some c.offered_at.ensures) ∙ sym c.is_some.ensures ∙ c.if-is_some.false)
    ∙ c.loop-face.invariant
