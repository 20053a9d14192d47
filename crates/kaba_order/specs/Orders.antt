-- Believed. Partial orders on numbered nodes, and the least one that holds another and a new pair or union.
use Rattle.std.specs.Prelude.{◌≡◌, ◌≢◌, ℕ, ◌≤◌, ◌==◌, Bool, true, false, List, ◌||◌, ◌&&◌, not, length, cond, map}
use Rattle.std.specs.List.{list_any}
use Rattle.kaba_base.specs.declared.NodeId.{NodeId}
use Rattle.kaba_bits.specs.Sets.{bit, row, HasWidth}

-- which nodes are live, and of each node the set of those at or above it
pub record Ordered : Type 0 where
  pub live : List Bool
  pub le : List (List Bool)

-- as many rows as before, each as wide as there are rows
pub record AreAsWide (old new : List (List Bool)) : Type 0 where
  pub len : length new ≡ length old
  pub widths : HasWidth (length old) new

-- whether a is at or below b
abbrev pub is_le : Ordered → ℕ → ℕ → Bool
is_le o a b = bit (row o.le a) b

-- whether a node is one of the order
abbrev pub is_live : Ordered → ℕ → Bool
is_live o a = bit o.live a

-- whether two truth values differ
abbrev pub differ : Bool → Bool → Bool
differ true b = not b
differ false b = b

-- a partial order on the live nodes
pub record IsPartialOrder (o : Ordered) : Type 0 where
  pub count : length o.le ≡ length o.live
  pub widths : HasWidth (length o.live) o.le
  pub lower_lives : (a b : ℕ) → is_le o a b ≡ true → is_live o a ≡ true
  pub upper_lives : (a b : ℕ) → is_le o a b ≡ true → is_live o b ≡ true
  pub reflexive : (a : ℕ) → is_live o a ≡ true → is_le o a a ≡ true
  pub antisymmetric : (a b : ℕ) → is_le o a b ≡ true → is_le o b a ≡ true → a ≡ b
  pub transitive : (a b c : ℕ) → is_le o a b ≡ true → is_le o b c ≡ true → is_le o a c ≡ true

-- a is below b, and is not b
abbrev pub IsStrictlyBelow : Ordered → ℕ → ℕ → Type 0
IsStrictlyBelow o a b = (is_le o a b ≡ true) × (a ≢ b)

-- b is strictly above a, and none is strictly between
pub record IsCover (o : Ordered) (a b : ℕ) : Type 0 where
  pub above : IsStrictlyBelow o a b
  pub none : (k : ℕ) → IsStrictlyBelow o a k → IsStrictlyBelow o k b → ⊥

-- the numbers of a list of nodes
abbrev pub numbers : List NodeId → List ℕ
numbers nodes = map (λ n. n.0) nodes

-- all that one order says the other says too
abbrev pub IsWithin : Ordered → Ordered → Type 0
IsWithin small large = (a b : ℕ) → is_le small a b ≡ true → is_le large a b ≡ true

-- the least partial order that holds the old one and the new pair
pub record IsLeastWith (old : Ordered) (n p : ℕ) (new : Ordered) : Type 0 where
  pub order : IsPartialOrder new
  pub live : new.live ≡ old.live
  pub holds : IsWithin old new
  pub pair : is_le new n p ≡ true
  pub least : (other : Ordered) → IsPartialOrder other → IsWithin old other → is_le other n p ≡ true → IsWithin new other

-- the pairs of that order: the old ones, and those that lead through the new one
abbrev pub IsUnder : Ordered → ℕ → ℕ → Ordered → Type 0
IsUnder old n p new = (a b : ℕ) → is_le new a b ≡ (is_le old a b || (is_le old a n && is_le old p b))

-- whether a number is that of a node of the list
abbrev pub is_among : List NodeId → ℕ → Bool
is_among set x = list_any (λ s. x == s.0) set

-- whether a set has some node of the list
unfoldable pub has_any : List Bool → List NodeId → Bool
has_any members set = list_any (λ s. bit members s.0) set

-- whether the row of some node of the list has a number
unfoldable pub any_has : List (List Bool) → List NodeId → ℕ → Bool
any_has rows set b = list_any (λ s. bit (row rows s.0) b) set

-- whether a node is at or below some node of the list, and at or above one
abbrev pub is_below_some : Ordered → List NodeId → ℕ → Bool
is_below_some o set a = has_any (row o.le a) set

-- whether a node is at or above some node of the list
abbrev pub is_above_some : Ordered → List NodeId → ℕ → Bool
is_above_some o set b = any_has o.le set b

-- a node outside the list lies strictly between two of it
pub record IsBetween (o : Ordered) (set : List NodeId) (x : ℕ) : Type 0 where
  pub outside : is_among set x ≡ false
  pub above : is_above_some o set x ≡ true
  pub below : is_below_some o set x ≡ true

-- the least number of a node that lies so
pub record IsFirstBetween (o : Ordered) (set : List NodeId) (x : ℕ) : Type 0 where
  pub between : IsBetween o set x
  pub first : (y : ℕ) → IsBetween o set y → x ≤ y

-- the least number of the list
pub record IsLeastOf (set : List NodeId) (m : ℕ) : Type 0 where
  pub among : is_among set m ≡ true
  pub least : (x : ℕ) → is_among set x ≡ true → m ≤ x

-- the node that a node becomes where those of the list become one, m
abbrev pub merged_to : List NodeId → ℕ → ℕ → ℕ
merged_to set m x = cond (is_among set x) m x

-- whether a node is still there then
abbrev pub stays : List NodeId → ℕ → ℕ → Bool
stays set m a = not (is_among set a) || (a == m)

-- the least partial order in which the nodes of the list are one node, m
pub record IsLeastMerged (old : Ordered) (set : List NodeId) (m : ℕ) (new : Ordered) : Type 0 where
  pub order : IsPartialOrder new
  pub count : length new.live ≡ length old.live
  pub live : (a : ℕ) → is_live new a ≡ (is_live old a && stays set m a)
  pub holds : (a b : ℕ) → is_le old a b ≡ true → is_le new (merged_to set m a) (merged_to set m b) ≡ true
  pub least : (other : Ordered) → IsPartialOrder other → ((a b : ℕ) → is_le old a b ≡ true → is_le other (merged_to set m a) (merged_to set m b)
      ≡ true) → IsWithin new other

-- the pairs of that order: the old ones, and those that lead through the list
abbrev pub IsMerged : Ordered → List NodeId → ℕ → Ordered → Type 0
IsMerged old set m new =
    (a b : ℕ) → is_le new a b ≡ ((is_le old a b || (is_below_some old set a && is_above_some old set b)) && stays set m a && stays set m b)

-- a node is gone, and the order of the rest is as before
pub record IsDropped (old : Ordered) (n : ℕ) (new : Ordered) : Type 0 where
  pub count : length new.live ≡ length old.live
  pub live : (a : ℕ) → is_live new a ≡ (is_live old a && not (a == n))
  pub le : (a b : ℕ) → is_le new a b ≡ (is_le old a b && not (a == n) && not (b == n))
