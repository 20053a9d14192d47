-- Mirror. What a version of a map holds.
use Rattle.std.specs.Prelude.{ℕ, zero, suc, ◌/◌, ◌%◌, ◌==◌, Bool, true, false, Option, None}
use Rattle.kaba_versions.specs.declared.VersionMap.{VersionMap}
use Rattle.kaba_versions.specs.declared.Tree.{Tree, Empty, Fork'}

-- one of two, by a test
abbrev pub either : {A : Type 0} → Bool → A → A → A
either true x y = x
either false x y = y

-- what a tree has under a key: the key 0 stands at its root, 2 k + 1 as k on its odd side, 2 k + 2 as k on its even side
abbrev pub held : Tree → ℕ → Option ℕ
held Empty k = None
held (Fork' v p o q e) zero = v
held (Fork' v p o q e) (suc k) = either (k % 2 == 0) (held o (k / 2)) (held e (k / 2))

-- the same of the parts of a tree
abbrev pub held_of : Option ℕ → Tree → Tree → ℕ → Option ℕ
held_of v o e zero = v
held_of v o e (suc k) = either (k % 2 == 0) (held o (k / 2)) (held e (k / 2))

-- the two sides; those of the empty tree are empty
abbrev pub odd_side : Tree → Tree
odd_side Empty = Empty
odd_side (Fork' v p o q e) = o

-- the side that holds the even keys from 2 on; that of the empty tree is empty
abbrev pub even_side : Tree → Tree
even_side Empty = Empty
even_side (Fork' v p o q e) = e

-- the value of a key
abbrev pub holds : VersionMap → ℕ → Option ℕ
holds m k = held m.root.value k
