-- Mirror. Marks of types: which methods of a name have reached each.
use Rattle.std.specs.Prelude.{◌≡◌, ℕ, ◌+◌, ◌<◌, ◌≤◌, ◌⊎◌, ◌==◌, ◌&&◌, ◌||◌, not, Bool, true, false, List, [], ◌∷◌, length, nat_le, Option, Some, None, set, slice_get, slice_index_or, if◌then◌else◌}
use Rattle.std.specs.Option.{option_map_or}
use Rattle.name_rules.specs.declared.Refusal.{Refusal}
use Rattle.name_laws.specs.declared.parts.Heading.{Heading}
use Rattle.name_laws.specs.Members.{clash_of}
use Rattle.name_laws.specs.Tables.{is_above}
use Rattle.name_tables.specs.declared.spots.Spots.{Spots}
use Rattle.name_tables.specs.Spots.{spots_of}

-- methods of one slot have one mark; a private or a static one may meet no other
abbrev pub mark_of : Heading → ℕ
mark_of h = if h.is_private then 1 else option_map_or (λ s. s + 2) h.slot 1

-- the mark of a type; a type that is not in the list has that of what may not meet
abbrev pub mark_at : List ℕ → ℕ → ℕ
mark_at marks t = slice_index_or marks t 1

-- the mark of a type once a method of this mark has reached it: that of what may not meet where another was there
abbrev pub merged : ℕ → ℕ → ℕ
merged was mark = if (was == 0) || (was == mark) then mark else 1

-- whether a method of this mark may reach a type of that mark: the type has none, or the same and one that may meet
abbrev pub may_join : ℕ → ℕ → Bool
may_join was mark = (was == 0) || ((was == mark) && not (mark == 1))

-- a type is an owner or stands below it
abbrev pub is_reached : List (List Bool) → ℕ → ℕ → Bool
is_reached rows t x = (t == x) || is_above rows t x

-- a mark stays, was none, or is that of what may not meet
abbrev pub GrowsMark : ℕ → ℕ → Type 0
GrowsMark was now = (now ≡ was) ⊎ ((was ≡ 0) ⊎ (now ≡ 1))

-- the types at or below an owner have its mark, or that of what may not meet; and where the answer is true it may have joined each
pub record Marked (rows : List (List Bool)) (owner mark : ℕ) (old new : List ℕ) (quiet : Bool) : Type 0 where
  pub len : length new ≡ length old
  pub grows : (t : ℕ) → GrowsMark (mark_at old t) (mark_at new t)
  pub reached : (t : ℕ) → is_reached rows t owner ≡ true → (mark_at new t ≡ mark) ⊎ (mark_at new t ≡ 1)
  pub joins : quiet ≡ true → (t : ℕ) → is_reached rows t owner ≡ true → may_join (mark_at old t) mark ≡ true

-- the same for the method of a number, if there is one
abbrev pub MarkedFrom : List (List Bool) → Option Heading → List ℕ → List ℕ → Bool → Type 0
MarkedFrom rows None old new quiet = new ≡ old
MarkedFrom rows (Some h) old new quiet = Marked rows h.owner (mark_of h) old new quiet

-- the mark of the method of a number; where there is none, that of what may not meet
abbrev pub mark_in : List Heading → ℕ → ℕ
mark_in all i = option_map_or mark_of (slice_get all i) 1

-- ---- the methods that may clash

-- whether the method of a number is suspected of a clash; one that is not in the list is
abbrev pub is_suspect : List Bool → ℕ → Bool
is_suspect suspects i = slice_index_or suspects i true

-- why the second of two methods of one name cannot stand
abbrev pub clash_between : List (List Bool) → Option Heading → Option Heading → Option Refusal
clash_between rows None b = None
clash_between rows (Some a) None = None
clash_between rows (Some a) (Some b) = clash_of rows a b

-- those of a list that are not suspected clash with none before them in it
abbrev pub AreTested : List (List Bool) → List Heading → List ℕ → List Bool → Type 0
AreTested rows all list suspects = (p q i j : ℕ) → q < p → slice_get list p ≡ Some i → slice_get list q ≡ Some j → is_suspect suspects i ≡ false
    → clash_between rows (slice_get all j) (slice_get all i) ≡ None

-- this holds, and who was suspected still is
pub record HaveTested (rows : List (List Bool)) (all : List Heading) (list : List ℕ) (old new : List Bool) : Type 0 where
  pub tested : AreTested rows all list new
  pub kept : (i : ℕ) → is_suspect new i ≡ false → is_suspect old i ≡ false

-- whether a list begins with a number or a later one
abbrev pub begins_from : List ℕ → ℕ → Bool
begins_from [] at = false
begins_from (f ∷ fs) at = nat_le at f

-- the same, where the list begins with a number or a later one
pub record HaveTestedFrom (rows : List (List Bool)) (all : List Heading) (list : List ℕ) (at : ℕ) (old new : List Bool) : Type 0 where
  pub tested : begins_from list at ≡ true → AreTested rows all list new
  pub kept : (i : ℕ) → is_suspect new i ≡ false → is_suspect old i ≡ false

-- the same for the methods of the name of one, if there is one
abbrev pub HaveTestedAt : List (List Bool) → List Heading → Spots → Option Heading → ℕ → List Bool → List Bool → Type 0
HaveTestedAt rows all spots None at old new = new ≡ old
HaveTestedAt rows all spots (Some h) at old new = HaveTestedFrom rows all (spots_of spots h.name) at old new

-- one more of a list is marked, and suspected unless it may join all that it reaches
pub record TestedOne (rows : List (List Bool)) (all : List Heading) (at : ℕ) (marks after : List ℕ) (old new : List Bool) : Type 0 where
  pub quiet : Bool
  pub marked : MarkedFrom rows (slice_get all at) marks after quiet
  pub suspects : new ≡ (if quiet then old else set old at true)

-- one more of a list is marked and tested, or the list is at its end and nothing is done
abbrev pub TestedNext : List (List Bool) → List Heading → Option ℕ → List ℕ → List ℕ → List Bool → List Bool → Type 0
TestedNext rows all None marks after old new = (after ≡ marks) × (new ≡ old)
TestedNext rows all (Some at) marks after old new = TestedOne rows all at marks after old new

-- ---- what loops have done so far

-- the lists that begin before a number are tested
pub record TestedBefore (rows : List (List Bool)) (all : List Heading) (spots : Spots) (k : ℕ) (suspects : List Bool) : Type 0 where
  pub each : (n : List ℕ) (f : ℕ) → slice_get (spots_of spots n) 0 ≡ Some f → f < k → AreTested rows all (spots_of spots n) suspects

-- the types so far, and the owner, are marked
pub record Marking (rows : List (List Bool)) (owner mark : ℕ) (old new : List ℕ) (quiet : Bool) (from : ℕ) : Type 0 where
  pub len : length new ≡ length old
  pub grows : (t : ℕ) → GrowsMark (mark_at old t) (mark_at new t)
  pub rest : (t : ℕ) → from ≤ t → (t == owner) ≡ false → mark_at new t ≡ mark_at old t
  pub reached : (t : ℕ) → (t < from) ⊎ ((t == owner) ≡ true) → is_reached rows t owner ≡ true → (mark_at new t ≡ mark) ⊎ (mark_at new t ≡ 1)
  pub joins : quiet ≡ true → (t : ℕ) → (t < from) ⊎ ((t == owner) ≡ true) → is_reached rows t owner ≡ true → may_join (mark_at old t) mark ≡ true

-- the first so many of a list are marked and tested
pub record Testing (rows : List (List Bool)) (all : List Heading) (list marks : List ℕ) (old new : List Bool) (count : ℕ) : Type 0 where
  pub short : length marks ≤ 4294967295
  pub marked : (q j : ℕ) (h : Heading) → q < count → slice_get list q ≡ Some j → slice_get all j ≡ Some h → (t : ℕ) → is_reached rows t h.owner ≡ true
      → (mark_at marks t ≡ mark_of h) ⊎ (mark_at marks t ≡ 1)
  pub tested : (p q i j : ℕ) → q < p → p < count → slice_get list p ≡ Some i → slice_get list q ≡ Some j → is_suspect new i ≡ false
      → clash_between rows (slice_get all j) (slice_get all i) ≡ None
  pub kept : (i : ℕ) → is_suspect new i ≡ false → is_suspect old i ≡ false
