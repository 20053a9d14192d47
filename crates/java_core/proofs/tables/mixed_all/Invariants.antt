use Rattle.std.proofs.Common.{◌≡◌, ◌<◌, drop}
use Rattle.java_core.specs.Tables.{mixed_all}
use Rattle.java_core.proofs.tables.mixed_all.Given as goal

-- the rest carries the hash so far on to the hash of all
abbrev pub invariant-loop-byte : goal.invariant-loop-byte
invariant-loop-byte l = (mixed_all l.now (drop l.byte-index l.bytes) ≡ mixed_all l.hash l.bytes) × (l.now < 4294967296)
