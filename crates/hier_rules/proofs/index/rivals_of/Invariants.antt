use Rattle.std.proofs.Common.{◌≡◌, ℕ, ◌&&◌, length}
use Rattle.std.specs.Prelude.{nat_lt}
use Rattle.kaba_bits.specs.Sets.{bit}
use Rattle.hier_rules.specs.Asked.{is_other_body}
use Rattle.hier_rules.proofs.index.rivals_of.Given as goal

abbrev pub invariant-loop-e : goal.invariant-loop-e
invariant-loop-e l = (length l.bodies ≡ length l.facts.columns.items)
    × ((x : ℕ) → bit l.bodies x ≡ (nat_lt x l.e && is_other_body l.facts l.d x))
