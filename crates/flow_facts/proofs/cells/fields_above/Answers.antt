-- A class at a time, on the way up.
use Rattle.std.proofs.Common.{◌+◌, ◌-◌, suc, length, map, ap, arith}
use Rattle.std.proofs.lemmas.List.{length-map}
use Rattle.java_core.specs.Programs.{program_of, class_seen}
use Rattle.flow_facts.specs.Owned.{own_at}
use Rattle.flow_facts.specs.Seen.{field_cell_seen}
use Rattle.flow_facts.proofs.Owned.{begun, gone_on, at_top, at_last}
use Rattle.flow_facts.proofs.cells.fields_above.Goals as goal

pub loop-step-init : goal.loop-step-init
loop-step-init c = λ r e.
    let P = program_of c.args.program.now in
    let all = length-map c.args.program.now.classes.items class_seen in
    begun P (own_at c.args.own.now.items) c.args.class _ _ _ r (length P.classes) (ap (map field_cell_seen) c.new-found.ensures.items)
    c.in-Ok.ensures.value c.parent_of-above.ensures.value (omega (arith, e, all))

pub loop-step-preserved : goal.loop-step-preserved
loop-step-preserved c = λ r e.
    gone_on (program_of c.args.program.now) (own_at c.args.own.now.items) c.in-Some.class _ _ _ _ _ r c.in-Some.is
    c.in-Ok-add_fields_of.ensures.value c.parent_of-next.ensures.value
    (c.loop-step.invariant (suc r) (omega (arith, e)))

pub returns-in-None : goal.returns-in-None
returns-in-None c =
    let r = length c.args.program.now.classes.items - (c.loop-step.step + 1) in
    at_top (program_of c.args.program.now) (own_at c.args.own.now.items) _ _ _ r c.in-None.is (c.loop-step.invariant (suc r) (omega arith))

pub returns : goal.returns
returns c = at_last (program_of c.args.program.now) (own_at c.args.own.now.items) c.loop-step.above _ _ (c.loop-step.invariant 0 (omega arith))
