use Rattle.std.proofs.Common.{◌≡◌, ℕ, ◌+◌, ◌<◌, ◌≤◌, length, []}
use Rattle.java_tree.specs.Nesting.{stack_after}
use Rattle.java_parse.specs.Stacks.{entries_of}
use Rattle.java_parse.proofs.nest.first_deep.Given as goal

-- the stack is that after the tokens that were taken, and none of them went too deep
abbrev pub invariant-more : goal.invariant-more
invariant-more l = record {
  count : l.count + length l.rest ≡ length l.tokens;
  goes_on : (n : ℕ) → stack_after [] l.tokens (l.count + n) ≡ stack_after (entries_of l.stack) l.rest n;
  shallow : (k : ℕ) → k < l.count → length (stack_after [] l.tokens (k + 1)) ≤ 128;
}

abbrev pub decreases-more : goal.decreases-more
decreases-more l = length l.rest
