use Rattle.std.proofs.Common.{◌≡◌, ℕ, List}
use Rattle.hier_model.specs.Hierarchies.{any_below}
use Rattle.fact_model.specs.FreeNames.{is_taken}
use Rattle.fact_model.specs.Taken.{texts}
use Rattle.hier_rules.specs.Names.{is_named}
use Rattle.hier_rules.specs.Namesakes.{is_twice}
use Rattle.hier_rules.proofs.taken.taken_names.Given as goal

abbrev pub invariant-loop-n : goal.invariant-loop-n
invariant-loop-n l = record {
  types : (x : List ℕ) → is_taken (texts l.types.keys) x ≡ any_below l.n (is_named l.asked.hier.now x);
  twice : (x : List ℕ) → is_taken (texts l.twice.keys) x ≡ is_twice l.asked.hier.now x l.n;
}
