use Rattle.std.proofs.Common.{◌-◌, ◌*◌, length}
use Rattle.kaba_bits.specs.Sets.{total}
use Rattle.table_rules.specs.Asked.{AreOpen}
use Rattle.table_rules.proofs.closing.run_rounds.Given as goal

abbrev pub invariant-loop : goal.invariant-loop
invariant-loop l = AreOpen l.given.facts.now l.asked l.both l.rows

abbrev pub decreases-loop : goal.decreases-loop
decreases-loop l = length l.rows * length l.given.facts.now.columns.items - total l.rows
