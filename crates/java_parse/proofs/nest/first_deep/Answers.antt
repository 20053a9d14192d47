use Rattle.std.proofs.Common.{ap, arith, length}
use Rattle.java_parse.proofs.Deep.{deep_here, goes_further, shallow_here, low}
use Rattle.java_parse.proofs.nest.first_deep.Goals as goal

pub returns-then-is_higher-clause-deep : goal.returns-then-is_higher-clause-deep
returns-then-is_higher-clause-deep c = deep_here _ _ _ _ _ _ _ c.in-Some.ensures.some c.in_ok-stack.ensures.value c.more.invariant.count
    c.more.invariant.goes_on c.more.invariant.shallow (c.is_higher.ensures.value.0 c.if-is_higher.true)

pub more-preserved : goal.more-preserved
more-preserved c = record {
  count = let g = ap length c.in-Some.ensures.some in omega (arith, g, c.more.invariant.count);
  goes_on = goes_further _ _ _ _ _ _ _ c.in-Some.ensures.some c.in_ok-stack.ensures.value c.more.invariant.goes_on;
  shallow = shallow_here _ _ _ _ _ _ _ c.in-Some.ensures.some c.in_ok-stack.ensures.value c.more.invariant.goes_on c.more.invariant.shallow
      (low _ _ c.is_higher.ensures.value.1 c.if-is_higher.false);
}
