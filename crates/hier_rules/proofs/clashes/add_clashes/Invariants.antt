use Rattle.std.proofs.Common.{◌≡◌, ℕ, ◌<◌, Some, true}
use Rattle.std.specs.Str.{bytes_eq}
use Rattle.hier_model.specs.Hierarchies.{member_name}
use Rattle.hier_rules.specs.Namesakes.{AreClashes}
use Rattle.hier_rules.proofs.ClashLemmas.{limit}
use Rattle.hier_rules.proofs.clashes.add_clashes.Given as goal

abbrev pub invariant-namesakes : goal.invariant-namesakes
invariant-namesakes l = record {
  below : (c : ℕ) → l.earlier ≡ Some c → c < l.d;
  named : (c : ℕ) → l.earlier ≡ Some c → bytes_eq (member_name l.asked.hier.now c) (member_name l.asked.hier.now l.d) ≡ true;
  found : AreClashes l.asked.facts.now l.asked.hier.now l.d (limit l.earlier) l.clashes.items;
}

abbrev pub decreases-namesakes : goal.decreases-namesakes
decreases-namesakes l = limit l.earlier
