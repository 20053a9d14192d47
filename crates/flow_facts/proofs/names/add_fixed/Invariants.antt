use Rattle.std.proofs.Common.{◌≡◌, ◌++◌, drop, map}
use Rattle.flow_facts.specs.Fixed.{fixed_seen}
use Rattle.flow_facts.proofs.names.add_fixed.Given as goal

abbrev pub invariant-loop-one : goal.invariant-loop-one
invariant-loop-one l = l.words.items ++ map (λ f. f.name) (map fixed_seen (drop l.one-index l.fixed)) ≡ l.fn.words.items
    ++ map (λ f. f.name) (map fixed_seen l.fixed)
