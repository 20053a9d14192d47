-- Mirror. Orders in which nodes and pairs were exchanged: live for dead, and related for unrelated.
use Rattle.std.specs.Prelude.{◌≡◌, ℕ, ◌==◌, ◌&&◌, Bool, true, false, not, List, [], ◌∷◌, length}
use Rattle.kaba_base.specs.declared.NodeId.{NodeId}
use Rattle.kaba_order.specs.Orders.{Ordered, is_le, is_live, IsPartialOrder}

-- a truth value, or the other one where it is exchanged
abbrev pub flip_where : Bool → Bool → Bool
flip_where true b = not b
flip_where false b = b

-- whether what the items of a list exchange in turn is another one in the end: an odd number of them pass the test
abbrev pub is_flipped : {A : Type 0} → (A → Bool) → List A → Bool
is_flipped p [] = false
is_flipped p (x ∷ xs) = flip_where (p x) (is_flipped p xs)

-- whether a node of a list is the node a
abbrev pub names_node : ℕ → NodeId → Bool
names_node a n = a == n.0

-- whether a pair of a list is that of a and b
abbrev pub names_pair : ℕ → ℕ → NodeId × NodeId → Bool
names_pair a b p = (a == p.0.0) && (b == p.1.0)

-- the nodes named are exchanged, each with its relation to itself, and the pairs named
pub record IsFlipped (old : Ordered) (nodes : List NodeId) (pairs : List (NodeId × NodeId)) (new : Ordered) : Type 0 where
  pub count : length new.live ≡ length old.live
  pub live : (a : ℕ) → is_live new a ≡ flip_where (is_flipped (names_node a) nodes) (is_live old a)
  pub le : (a b : ℕ) → is_le new a b
      ≡ flip_where ((a == b) && is_flipped (names_node a) nodes) (flip_where (is_flipped (names_pair a b) pairs) (is_le old a b))

-- a partial order is what the exchanges make
abbrev pub HasFlipped : Ordered → List NodeId → List (NodeId × NodeId) → Type 0
HasFlipped old nodes pairs = (new : Ordered) × IsPartialOrder new × IsFlipped old nodes pairs new
