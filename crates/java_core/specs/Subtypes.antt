-- Mirror. Which types are above which: for each type the types at or below it, as rows of bits, and a walk downwards
-- that finds them.
use Rattle.std.specs.Prelude.{◌≡◌, ℕ, ◌+◌, ◌<◌, ◌≤◌, ◌⊎◌, Bool, true, List, [], ◌++◌, length, Contains}
use Rattle.std.specs.Option.{option_to_list}
use Rattle.std.specs.declared.vec.Vec.{Vec}
use Rattle.std.specs.declared.alloc.Global.{Global}
use Rattle.kaba_base.specs.declared.ClassId.{ClassId}
use Rattle.kaba_bits.specs.Sets.{bit, row, size}
use Rattle.java_core.specs.Plain.{Plain, PlainClass}
use Rattle.java_core.specs.Classes.{class_id, supers_of, reaches}
use Rattle.java_core.specs.Owned.{listed}
use Rattle.java_core.specs.Squares.{square, in_row, is_below, AreRows}

-- a program that has these types alone
abbrev pub of_classes : List PlainClass → Plain
of_classes cs = record { classes = cs; fields = []; methods = []; slots = []; main = 0 }

-- which types are at or above which: no way upwards is longer than the list of types
abbrev pub subtype_rows : List PlainClass → List (List Bool)
subtype_rows all = square (length all) (reaches (of_classes all) (length all))

-- some type is at or below both a and b, whose rows these are
abbrev pub Share : List Bool → List Bool → ℕ → ℕ → Type 0
Share first second a b = (c : ℕ) × (in_row first c a ≡ true) × (in_row second c b ≡ true)

-- ---- direct subtypes

-- what is directly above a type
abbrev pub supers_in : PlainClass → List ClassId
supers_in k = option_to_list k.parent ++ k.faces

-- x names y as its superclass or as an interface
abbrev pub IsDirect : List PlainClass → ℕ → ℕ → Type 0
IsDirect all x y = Contains (supers_of (of_classes all) x) (class_id y)

-- so many lists, with nothing in them
pub record AreEmpty (count : ℕ) (lists : List (Vec ℕ Global)) : Type 0 where
  pub len : length lists ≡ count
  pub none : (y : ℕ) → listed lists y ≡ []

-- x stands under each of these, and nothing else has changed
pub record EnteredUnder (x : ℕ) (supers : List ClassId) (old new : List (Vec ℕ Global)) : Type 0 where
  pub len : length new ≡ length old
  pub kept : (y z : ℕ) → Contains (listed old y) z → Contains (listed new y) z
  pub news : (y z : ℕ) → Contains (listed new y) z → Contains (listed old y) z ⊎ (Contains supers (class_id y) × (z ≡ x))
  pub told : (c : ClassId) → Contains supers c → c.0 < length old → Contains (listed new c.0) x

-- under each type stand those of the first types that are directly below it
pub record AreDirect (all : List PlainClass) (count : ℕ) (lists : List (Vec ℕ Global)) : Type 0 where
  pub len : length lists ≡ length all
  pub sound : (x y : ℕ) → Contains (listed lists y) x → IsDirect all x y
  pub whole : (x y : ℕ) → x < count → y < length all → IsDirect all x y → Contains (listed lists y) x

-- ---- a walk downwards

-- y is b, or stands under something that is at or below b
pub data StandsUnder (lists : List (Vec ℕ Global)) : ℕ → ℕ → Type 0 where
  itself : {b : ℕ} → StandsUnder lists b b
  under : {y x b : ℕ} → Contains (listed lists x) y → StandsUnder lists x b → StandsUnder lists y b

-- what stands in the lists is below n
pub record AreInside (n : ℕ) (lists : List (Vec ℕ Global)) : Type 0 where
  pub each : (y x : ℕ) → Contains (listed lists y) x → x < n

-- a new row of the type b
pub record IsOwnRow (n b : ℕ) (r : List Bool) : Type 0 where
  pub len : length r ≡ n
  pub bits : (y : ℕ) → bit r y ≡ true → y ≡ b
  pub own : bit r b ≡ true

-- the row of b has what is at or below b
pub record IsExactRow (lists : List (Vec ℕ Global)) (n b : ℕ) (r : List Bool) : Type 0 where
  pub wide : (length r ≡ 0) ⊎ (length r ≡ n)
  pub sound : (y : ℕ) → in_row r y b ≡ true → StandsUnder lists y b
  pub whole : (y : ℕ) → StandsUnder lists y b → in_row r y b ≡ true

-- the rows of the types that are known have what is at or below each
pub record AreExact (lists : List (Vec ℕ Global)) (n : ℕ) (known : List Bool) (rows : List (List Bool)) : Type 0 where
  pub len : length rows ≡ n
  pub wide : length known ≡ n
  pub formed : AreRows n rows
  pub each : (b : ℕ) → bit known b ≡ true → IsExactRow lists n b (row rows b)

-- the rows have for each type what is at or below it
pub record AllExact (lists : List (Vec ℕ Global)) (n : ℕ) (rows : List (List Bool)) : Type 0 where
  pub len : length rows ≡ n
  pub formed : AreRows n rows
  pub each : (b : ℕ) → b < n → IsExactRow lists n b (row rows b)

-- the type of a number is known now, if there is one
pub record Filled (lists : List (Vec ℕ Global)) (n at : ℕ) (old new : List Bool) (rows : List (List Bool)) : Type 0 where
  pub exact : AreExact lists n new rows
  pub kept : (b : ℕ) → bit old b ≡ true → bit new b ≡ true
  pub told : at < n → bit new at ≡ true

-- so many first types are known
pub record FilledTo (lists : List (Vec ℕ Global)) (n count : ℕ) (known : List Bool) (rows : List (List Bool)) : Type 0 where
  pub exact : AreExact lists n known rows
  pub first : (b : ℕ) → b < count → bit known b ≡ true

-- a row with all that is at or below another type whose row is known, y among it
pub record HoldsRow (rows : List (List Bool)) (known r : List Bool) (y : ℕ) : Type 0 where
  pub by : ℕ
  pub known_by : bit known by ≡ true
  pub inside : by < length r
  pub below : is_below rows y by ≡ true
  pub all : (z : ℕ) → z < length r → is_below rows z by ≡ true → bit r z ≡ true

-- a row has gained these types: with all below it where its row is known, else it waits
pub record GainedTypes (rows : List (List Bool)) (known : List Bool) (more : List ℕ) (old new : List Bool) (before after : List ℕ) : Type 0 where
  pub len : length new ≡ length old
  pub kept : (y : ℕ) → bit old y ≡ true → bit new y ≡ true
  pub news : (y : ℕ) → bit new y ≡ true → (bit old y ≡ true) ⊎ ((x : ℕ) × Contains more x × ((y ≡ x) ⊎ ((bit known x ≡ true) × (is_below rows y x ≡ true))))
  pub settled : (y : ℕ) → bit new y ≡ true → (bit old y ≡ true) ⊎ (Contains after y ⊎ HoldsRow rows known new y)
  pub told : (x : ℕ) → Contains more x → bit new x ≡ true
  pub waits : (y : ℕ) → Contains before y → Contains after y
  pub comes : (y : ℕ) → Contains after y → Contains before y ⊎ Contains more y
  pub work : length after + size old ≤ length before + size new

-- the walk so far: what is in the row is at or below b, and what stands under that is in the row too, or it waits
pub record WalkedBelow (lists : List (Vec ℕ Global)) (n b : ℕ) (r : List Bool) (waiting : List ℕ) : Type 0 where
  pub len : length r ≡ n
  pub start : bit r b ≡ true
  pub sound : (y : ℕ) → bit r y ≡ true → StandsUnder lists y b
  pub settled : (y : ℕ) → bit r y ≡ true → Contains waiting y ⊎ ((x : ℕ) → Contains (listed lists y) x → bit r x ≡ true)
  pub from : (y : ℕ) → Contains waiting y → StandsUnder lists y b
