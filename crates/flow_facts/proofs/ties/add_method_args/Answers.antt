-- One more argument.
use Rattle.std.proofs.Common.{ap, ◌∙◌}
use Rattle.java_core.specs.Programs.{program_of}
use Rattle.flow_rules.specs.Lists.{tied, row_at, row_in, param_row}
use Rattle.flow_facts.specs.Seen.{numbers_seen}
use Rattle.flow_facts.proofs.Steps.{each_joined}
use Rattle.flow_facts.proofs.ties.add_method_args.Goals as goal

pub loop-i-preserved : goal.loop-i-preserved
loop-i-preserved c =
    let N = numbers_seen c.args.n.now in
    let P = program_of c.args.program.now in
    each_joined tied (row_at N) (λ j. row_in N (param_row P c.args.callee j)) c.args.args.now.items _ c.loop-i.i _ _ _ _ _ _
    c.deref-arg-items.ensures.value c.loop-i-test.true c.loop-i.invariant c.in-Ok.ensures.value c.row_at.ensures.value
    (c.row_in-parameter.ensures.value ∙ ap (row_in N) c.param_row.ensures.value)
