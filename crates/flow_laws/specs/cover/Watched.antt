-- Mirror. When the watch of a run lets pass what a family of sets has.
use Rattle.std.specs.Prelude.{◌≡◌, ℕ, true, List, Some, slice_get}
use Rattle.java_meaning.specs.Moment.{Value, Number, Truth, CodeUnit, Nothing, Text, Object, Cell, Spot, bound, Lang}
use Rattle.flow_laws.specs.cover.Families.{Set, Family}

-- the object or array at a comes from a creation of the set
pub record IsOf (h : List Cell) (a : ℕ) (X : Set) : Type 0 where
  pub cell : Cell
  pub there : slice_get h a ≡ Some cell
  pub member : X cell.site ≡ true

-- a value is no object and no array, or one of the set
abbrev pub Of : List Cell → Value → Set → Type 0
Of h (Object a) X = IsOf h a X
Of h (Number n) X = Unit {0}
Of h (Truth b) X = Unit {0}
Of h (CodeUnit c) X = Unit {0}
Of h Nothing X = Unit {0}
Of h (Text a) X = Unit {0}

-- the watch lets pass all values of the set at a spot
pub record IsWatched (L : Lang) (V : Family) : Type 0 where
  pub sees : (p : Spot) (v : Value) (h : List Cell) → Of h v (V.spot p) → L.sees p v h ≡ true
  pub sees_all : (b : ℕ) (vs : List Value) (h : List Cell) → ((x : ℕ) (v : Value) → slice_get vs x ≡ Some v → Of h v (V.spot (bound b x)))
      → L.sees_all b vs h ≡ true
