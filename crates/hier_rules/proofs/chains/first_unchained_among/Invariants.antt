use Rattle.std.proofs.Common.{◌≡◌, None, length}
use Rattle.kaba_bits.specs.Sets.{first_below}
use Rattle.hier_rules.specs.Chains.{AreChained, AreWide, first_unchained_at}
use Rattle.hier_rules.proofs.chains.first_unchained_among.Given as goal

abbrev pub invariant-loop-n : goal.invariant-loop-n
invariant-loop-n l = record {
  widths : AreWide (length l.nodes.hier.now.order.live) l.above;
  chained : AreChained l.nodes.facts.now l.nodes.hier.now l.chained;
  none : first_below l.n (first_unchained_at l.nodes.facts.now l.nodes.hier.now) ≡ None;
}
