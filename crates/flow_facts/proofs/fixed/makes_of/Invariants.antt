use Rattle.std.proofs.Common.{◌≡◌, ◌++◌, drop, map}
use Rattle.std.specs.List.{flat_map}
use Rattle.flow_rules.specs.Facts.{make_of, make_seen}
use Rattle.flow_facts.specs.Fixed.{fixed_seen}
use Rattle.flow_facts.proofs.fixed.makes_of.Given as goal

abbrev pub invariant-loop-one : goal.invariant-loop-one
invariant-loop-one l = map make_seen l.makes.items ++ flat_map make_of (map fixed_seen (drop l.one-index l.fixed)) ≡ flat_map make_of (map fixed_seen l.fixed)
