use Rattle.std.proofs.Common.{◌≡◌, drop, map}
use Rattle.flow_rules.specs.Facts.{name_for}
use Rattle.flow_facts.specs.Fixed.{fixed_seen, for_seen}
use Rattle.flow_facts.proofs.fixed.name_for.Given as goal

-- none so far
abbrev pub invariant-loop-one : goal.invariant-loop-one
invariant-loop-one l = name_for (for_seen l.of) (map fixed_seen (drop l.one-index l.fixed)) ≡ name_for (for_seen l.of) (map fixed_seen l.fixed)
