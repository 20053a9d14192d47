use Rattle.std.proofs.Common.{◌≡◌, ◌<◌, drop, map}
use Rattle.name_types.specs.Keys.{types_mixed}
use Rattle.name_types.proofs.keys.types_mixed.Given as goal

-- the rest carries the hash so far on to the hash of all
abbrev pub invariant-loop-local : goal.invariant-loop-local
invariant-loop-local l =
    (types_mixed l.now (map (λ k. k.ty) (drop l.local-index l.locals)) ≡ types_mixed l.hash (map (λ k. k.ty) l.locals)) × (l.now < 4294967296)
