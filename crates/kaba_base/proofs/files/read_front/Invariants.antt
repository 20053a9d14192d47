use Rattle.std.proofs.Common.{◌≤◌, vec_len}
use Rattle.kaba_base.proofs.files.read_front.Given as goal

abbrev pub invariant-loop : goal.invariant-loop
invariant-loop g l = vec_len l.into ≤ l.limit
