use Rattle.std.proofs.Common.{arith}
use Rattle.hier_rules.specs.Namesakes.{is_taken_field}
use Rattle.hier_rules.proofs.StandingLemmas.{listed_none, listed_next, listed_all}
use Rattle.hier_rules.proofs.names.taken_fields.Goals as goal

pub loop-c-init : goal.loop-c-init
loop-c-init c = listed_none (is_taken_field c.args.asked.now.facts.now c.args.asked.now.hier.now) _ c.new-list.ensures.items

pub loop-c-preserved : goal.loop-c-preserved
loop-c-preserved c = listed_next (is_taken_field c.args.asked.now.facts.now c.args.asked.now.hier.now) c.loop-c.c c.is_taken_field.result _ _
    c.is_taken_field.ensures
    c.in_ok-add_if.ensures c.loop-c.invariant

pub returns : goal.returns
returns c = listed_all (is_taken_field c.args.asked.now.facts.now c.args.asked.now.hier.now) c.loop-c.c _ _ (omega arith) c.loop-c.invariant
