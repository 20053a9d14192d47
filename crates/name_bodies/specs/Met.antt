-- Mirror. Which methods of a name the classes meet, 64 at a time.
use Rattle.std.specs.Prelude.{◌≡◌, ℕ, ◌+◌, ◌*◌, ◌<◌, ◌≤◌, ◌==◌, Bool, true, false, List, [], ◌∷◌, length, Some, slice_get, if◌then◌else◌}
use Rattle.std.specs.declared.vec.Vec.{Vec}
use Rattle.std.specs.declared.alloc.Global.{Global}
use Rattle.kaba_bits.specs.declared.BitRow.{BitRow}
use Rattle.kaba_bits.specs.Sets.{bit}
use Rattle.java_core.specs.Owned.{passes}
use Rattle.name_laws.specs.declared.parts.Heading.{Heading}
use Rattle.name_laws.specs.Tables.{is_above}
use Rattle.name_tables.specs.declared.spots.Spots.{Spots}
use Rattle.name_tables.specs.Spots.{spots_of}

-- a class or an ancestor declares the method of a number
abbrev pub is_met : List (List Bool) → List Heading → ℕ → ℕ → Bool
is_met rows all c j = passes (λ h. is_above rows c h.owner) (slice_get all j)

-- a row has the classes that meet one of so many methods from a place of a list
pub record IsBlock (rows : List (List Bool)) (all : List Heading) (list : List ℕ) (from count : ℕ) (r : List Bool) : Type 0 where
  pub wide : length r ≡ length rows
  pub each : (i j c : ℕ) → from ≤ i → i < from + count → slice_get list i ≡ Some j → c < length rows → is_met rows all c j ≡ true → bit r c ≡ true

-- the rows have those of the list from its beginning, 64 each
pub record AreBlocks (rows : List (List Bool)) (all : List Heading) (list : List ℕ) (blocks : List (List Bool)) : Type 0 where
  pub each : (k : ℕ) (r : List Bool) → slice_get blocks k ≡ Some r → IsBlock rows all list (k * 64) 64 r

-- under the first number of each name stand the blocks of the name
pub record AreBlocksOf (rows : List (List Bool)) (all : List Heading) (spots : Spots) (table : List (Vec BitRow Global)) : Type 0 where
  pub each : (n : List ℕ) (f : ℕ) (v : Vec BitRow Global) → slice_get (spots_of spots n) 0 ≡ Some f → slice_get table f ≡ Some v
      → AreBlocks rows all (spots_of spots n) v.items

-- a class is not in the block of a number
pub record PassesOver (blocks : List (List Bool)) (k c : ℕ) : Type 0 where
  pub block : List Bool
  pub stands : slice_get blocks k ≡ Some block
  pub inside : c < length block
  pub out : bit block c ≡ false

-- a list, if it begins with a number
abbrev pub begun_at : List ℕ → ℕ → List ℕ
begun_at [] at = []
begun_at (f ∷ fs) at = if f == at then f ∷ fs else []
