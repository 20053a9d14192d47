-- Mirror. What each step towards a tree keeps: the origins of nodes fit the order, the columns, the bodies, the rows
-- and the super calls.
use Rattle.std.specs.Prelude.{◌≡◌, ◌⊎◌, ℕ, Bool, true, Option, Some, ◌||◌, ◌&&◌, cond, List}
use Rattle.hier_laws.specs.Shapes.{Given, Shape}

-- facts in order, as far as the steps ask it, beside what the start asks
pub record AreOrderedFacts (G : Given) : Type 0 where
  pub through : (a b c : ℕ) → G.below a b ≡ true → G.below b c ≡ true → G.below a c ≡ true
  pub super_row : (r d : ℕ) → G.runs r d ≡ true → G.is_row r ≡ true

module _ (G : Given) where
  -- the class from which each node comes
  pub record Keeps (S : Shape) (origin : ℕ → ℕ) : Type 0 where
    pub up : (a b : ℕ) → S.le a b ≡ true → G.below (origin a) (origin b) ≡ true
    pub columns : (c n : ℕ) → S.column c ≡ Some n → G.below (origin n) (G.class_of c) ≡ true
    pub bodies : (c n : ℕ) → G.is_body c ≡ true → S.column c ≡ Some n → origin n ≡ G.class_of c
    pub rows : (r : ℕ) → G.is_row r ≡ true → G.below (G.row_class r) (origin (S.row r)) ≡ true
    pub supers : (r d : ℕ) → G.runs r d ≡ true → origin (S.row r) ≡ G.row_class r

  -- at or above each class, live fields have different names, and so have the methods of different slots
  pub record AreNamesApart (S : Shape) (is_field : ℕ → Bool) (slot : ℕ → Option ℕ) (name : ℕ → List ℕ) : Type 0 where
    pub fields : (a c d n m : ℕ) → is_field c ≡ true → is_field d ≡ true → S.column c ≡ Some n → S.column d ≡ Some m
        → G.below a (G.class_of c) ≡ true → G.below a (G.class_of d) ≡ true → name c ≡ name d → c ≡ d
    pub slots : (a c d n m x y : ℕ) → slot c ≡ Some x → slot d ≡ Some y → S.column c ≡ Some n → S.column d ≡ Some m
        → G.below a (G.class_of c) ≡ true → G.below a (G.class_of d) ≡ true → name c ≡ name d → x ≡ y

-- l was put below h: the pairs are the old ones, and those that lead through the new one
pub record IsPutUnder (old : Shape) (l h : ℕ) (new : Shape) : Type 0 where
  pub le : (a b : ℕ) → new.le a b ≡ (old.le a b || (old.le a l && old.le h b))
  pub column : (c : ℕ) → new.column c ≡ old.column c
  pub row : (r : ℕ) → new.row r ≡ old.row r

-- the node that a node becomes where those of a set become one, m
abbrev pub becomes : (ℕ → Bool) → ℕ → ℕ → ℕ
becomes set m x = cond (set x) m x

-- the nodes of a set became one
pub record IsMadeOne (old : Shape) (set : ℕ → Bool) (m : ℕ) (new : Shape) : Type 0 where
  pub holds : (a b : ℕ) → old.le a b ≡ true → new.le (becomes set m a) (becomes set m b) ≡ true
  pub only : (a b : ℕ) → new.le a b ≡ true
      → (old.le a b ≡ true) ⊎ (((s : ℕ) × (set s ≡ true) × (old.le a s ≡ true)) × ((t : ℕ) × (set t ≡ true) × (old.le t b ≡ true)))
  pub column : (c n : ℕ) → new.column c ≡ Some n → (k : ℕ) × (old.column c ≡ Some k) × (n ≡ becomes set m k)
  pub column_holds : (c k : ℕ) → old.column c ≡ Some k → new.column c ≡ Some (becomes set m k)
  pub row : (r : ℕ) → new.row r ≡ becomes set m (old.row r)

-- the nodes of the set all come from the class o
pub record AreOfOrigin (set : ℕ → Bool) (m o : ℕ) (origin : ℕ → ℕ) : Type 0 where
  pub each : (x : ℕ) → set x ≡ true → origin x ≡ o
  pub least : origin m ≡ o

-- the origins of the start: the lowest class of the columns that a node offers, and where it offers none the one that is above all
pub record AreStartOrigins (G : Given) (S : Shape) (is_class : ℕ → Bool) (origin : ℕ → ℕ) : Type 0 where
  pub lowest : (n c at : ℕ) → S.column c ≡ Some at → S.le n at ≡ true → G.below (origin n) (G.class_of c) ≡ true
  pub one : (n : ℕ) → S.le n n ≡ true
      → ((c : ℕ) × (at : ℕ) × (S.column c ≡ Some at) × (S.le n at ≡ true) × (G.class_of c ≡ origin n)) ⊎ ((a : ℕ) → is_class a ≡ true
      → G.below a (origin n) ≡ true)
  pub nodes : (n m : ℕ) → S.le n m ≡ true → is_class (origin n) ≡ true
  pub columns : (c n : ℕ) → S.column c ≡ Some n → is_class (G.class_of c) ≡ true
  pub rows : (r : ℕ) → G.is_row r ≡ true → is_class (G.row_class r) ≡ true

-- a node where nothing stands is gone
pub record IsWithout (old : Shape) (x : ℕ) (new : Shape) : Type 0 where
  pub le : (a b : ℕ) → new.le a b ≡ true → old.le a b ≡ true
  pub column : (c : ℕ) → new.column c ≡ old.column c
  pub row : (r : ℕ) → new.row r ≡ old.row r
