use Rattle.std.proofs.Common.{◌≡◌, take}
use Rattle.std.specs.Prelude.{map}
use Rattle.name_types.proofs.slots.types_of.Given as goal

-- the types of the first parameters
abbrev pub invariant-loop-local : goal.invariant-loop-local
invariant-loop-local l = l.types.items ≡ map (λ k. k.ty) (take l.local-index l.locals)
