use Rattle.std.proofs.Common.{◌≡◌, None}
use Rattle.kaba_bits.specs.Sets.{first_below}
use Rattle.hier_rules.specs.Obligations.{untied}
use Rattle.hier_rules.proofs.rows.first_tie_of.Given as goal

abbrev pub invariant-loop-u : goal.invariant-loop-u
invariant-loop-u l = first_below l.u (untied l.asked.facts.now l.asked.hier.now l.l) ≡ None
