use Rattle.std.proofs.Common.{◌≡◌, ◌∙◌, ap, drop, length, arith}
use Rattle.java_core.specs.Programs.{program_of}
use Rattle.java_meaning.specs.Languages.{layout}
use Rattle.run_classes.specs.Lines.{fields_down}
use Rattle.run_classes.proofs.Layouts.{down_layout}
use Rattle.run_classes.proofs.objects.layout.Goals as goal

pub returns : goal.returns
unfolding layout
returns c =
    let P = program_of c.args.p.now in
    let end : c.loop-i.i ≡ 0 = omega (arith, c.loop-i-test.false) in
    c.loop-i.invariant ∙ ap (λ i. fields_down P (drop i c.in_ok-line.line.items)) end ∙ ap (fields_down P) c.in_ok-line.ensures
    ∙ down_layout P (length P.classes) c.args.class
