use Rattle.std.proofs.Common.{◌≡◌, drop}
use Rattle.name_laws.specs.Answers.{run}
use Rattle.name_laws.specs.Members.{clash_step, clashes_of}
use Rattle.name_types.proofs.clashes.clashes_of.Given as goal

-- no clash so far, and then the rest
abbrev pub invariant-loop-b : goal.invariant-loop-b
invariant-loop-b l = (l.k ≡ l.b-index) × (run (clash_step l.rows l.all.items) l.k (drop l.b-index l.b-items) ≡ clashes_of l.rows l.all.items)
