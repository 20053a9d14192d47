use Rattle.std.proofs.Common.{◌∙◌}
use Rattle.stem_base.specs.Base.{all_sides}
use Rattle.stem_base.proofs.NextLemmas.{begun, on_true, on_false, seed_adds_none, is_made, does_fail}
use Rattle.stem_base.proofs.next.tried.Goals as goal

pub closes_within-requires-clause-start : goal.closes_within-requires-clause-start
closes_within-requires-clause-start c = seed_adds_none c.args.a.now c.args.start.now c.args.i c.set.new.self
    (begun c.args.a.now c.args.start.now c.args.i c.clear.new.self c.or_into.new.self c.set.new.self c.clear.ensures.empty
    (c.clear.ensures.width ∙ c.requires.width) c.or_into.ensures.width c.or_into.ensures.join c.requires.start c.requires.i c.set.ensures.after)

pub returns-clause-made : goal.returns-clause-made
returns-clause-made c = on_true c.closes_within.result (is_made c.args.a.now c.args.start.now c.args.i c.set.new.self
    (begun c.args.a.now c.args.start.now c.args.i c.clear.new.self c.or_into.new.self c.set.new.self c.clear.ensures.empty
    (c.clear.ensures.width ∙ c.requires.width) c.or_into.ensures.width c.or_into.ensures.join c.requires.start c.requires.i c.set.ensures.after)
    (all_sides c.args.base.now.items) c.closes_within.new.set c.closes_within.ensures.width c.closes_within.ensures.holds c.closes_within.ensures.least)
    c.closes_within.ensures.closed

pub returns-clause-fails : goal.returns-clause-fails
returns-clause-fails c = on_false c.closes_within.result (does_fail c.args.a.now c.args.start.now c.args.i c.set.new.self
    (begun c.args.a.now c.args.start.now c.args.i c.clear.new.self c.or_into.new.self c.set.new.self c.clear.ensures.empty
    (c.clear.ensures.width ∙ c.requires.width) c.or_into.ensures.width c.or_into.ensures.join c.requires.start c.requires.i c.set.ensures.after)
    (all_sides c.args.base.now.items) c.closes_within.new.set c.closes_within.ensures.width c.closes_within.ensures.holds c.closes_within.ensures.least)
    c.closes_within.ensures.past
