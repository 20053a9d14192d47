use Rattle.std.proofs.Common.{◌≡◌, ◌++◌, List, drop, map}
use Rattle.flow_rules.specs.Facts.{FixedName}
use Rattle.flow_facts.specs.Fixed.{all_fixed, wished_make}
use Rattle.flow_facts.proofs.fixed.fix_each.Given as goal

abbrev pub invariant-loop-site : goal.invariant-loop-site
invariant-loop-site l = (rest : List FixedName) → all_fixed l.fixing (map wished_make (drop l.site-index l.made) ++ rest)
    ≡ all_fixed l.fn.fixing (map wished_make l.made ++ rest)
