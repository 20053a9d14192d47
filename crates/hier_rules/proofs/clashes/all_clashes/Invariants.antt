use Rattle.hier_rules.specs.Namesakes.{AreClashes}
use Rattle.hier_rules.proofs.clashes.all_clashes.Given as goal

abbrev pub invariant-loop-d : goal.invariant-loop-d
invariant-loop-d l = AreClashes l.asked.facts.now l.asked.hier.now l.d l.d l.clashes.items
