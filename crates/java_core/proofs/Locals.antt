-- The types of parameters and locals, by their numbers.
use Rattle.std.proofs.Common.{◌≡◌, ℕ, zero, suc, ◌+◌, ◌<◌, List, [], ◌∷◌, ◌++◌, map, length, refl, ap, arith}
use Rattle.std.specs.Prelude.{slice_get}
use Rattle.java_core.specs.declared.Local.{Local}
use Rattle.java_core.specs.Programs.{PlainLocal, local_seen}
use Rattle.java_core.specs.Types.{types_of}

abbrev seen : List Local → List PlainLocal
seen ls = map local_seen ls

pub type_of_param : (ps ls : List Local) (i : ℕ) → i < length ps → slice_get (types_of (seen ps)) i ≡ slice_get (types_of (seen ps ++ seen ls)) i
type_of_param [] ls i h = absurd (omega arith)
type_of_param (p ∷ ps) ls zero h = refl
type_of_param (p ∷ ps) ls (suc i) h = type_of_param ps ls i (omega arith)

pub type_of_local : (ps ls : List Local) (i j : ℕ) → length ps + j ≡ i → slice_get (types_of (seen ls)) j ≡ slice_get (types_of (seen ps ++ seen ls)) i
type_of_local [] ls i j h = let e : j ≡ i = omega arith in ap (λ k. slice_get (types_of (seen ls)) k) e
type_of_local (p ∷ ps) ls zero j h = absurd (omega arith)
type_of_local (p ∷ ps) ls (suc i) j h = type_of_local ps ls i j (omega arith)
