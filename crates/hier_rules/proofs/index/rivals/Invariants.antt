use Rattle.std.proofs.Common.{length}
use Rattle.hier_rules.specs.Asked.{is_other_body}
use Rattle.hier_rules.specs.Index.{AreTestRows}
use Rattle.hier_rules.proofs.index.rivals.Given as goal

abbrev pub invariant-loop-d : goal.invariant-loop-d
invariant-loop-d l = AreTestRows l.d (length l.facts.columns.items) (is_other_body l.facts) l.rows.items
