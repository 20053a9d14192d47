use Rattle.table_rules.specs.Asked.{IsPlain}
use Rattle.table_rules.proofs.index.plain_of.Given as goal

abbrev pub invariant-loop-d : goal.invariant-loop-d
invariant-loop-d l = IsPlain l.facts l.plain
