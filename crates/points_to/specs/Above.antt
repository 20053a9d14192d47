-- Mirror. The classes at or above a class, found by a walk upwards.
use Rattle.std.specs.Prelude.{◌≡◌, ℕ, ◌+◌, ◌<◌, ◌≤◌, ◌⊎◌, Bool, true, List, length, Contains}
use Rattle.kaba_base.specs.declared.ClassId.{ClassId}
use Rattle.kaba_bits.specs.Sets.{bit, row, size, HasWidth}
use Rattle.fact_model.specs.declared.facts.Facts.{Facts}
use Rattle.fact_model.specs.Classes.{supers_of, IsBelow}
use Rattle.fact_model.specs.InRange.{IsClass}
use Rattle.fact_model.specs.Items.{site_class}

-- the id of a class by its number
abbrev pub class_id : ℕ → ClassId
class_id k = record { 0 = k }

-- the row has the classes at or above a
pub record IsAboveRow (F : Facts) (a : ℕ) (r : List Bool) : Type 0 where
  pub len : length r ≡ length F.classes.items
  pub sound : (b : ℕ) → bit r b ≡ true → IsBelow F a b
  pub whole : (b : ℕ) → IsBelow F a b → bit r b ≡ true

-- the rows of classes have those of the first n sites whose class is at or below
pub record AreSitesBelow (F : Facts) (n : ℕ) (rows : List (List Bool)) : Type 0 where
  pub len : length rows ≡ length F.classes.items
  pub widths : HasWidth (length F.sites.items) rows
  pub sound : (k s : ℕ) → bit (row rows k) s ≡ true → IsBelow F (site_class F s) k
  pub whole : (k s : ℕ) → s < n → IsBelow F (site_class F s) k → bit (row rows k) s ≡ true

-- the rows of those of the first n classes that are in a set have gained a site
pub record HaveGainedSite (old new : List (List Bool)) (classes : List Bool) (s n : ℕ) : Type 0 where
  pub len : length new ≡ length old
  pub widths : (k : ℕ) → length (row new k) ≡ length (row old k)
  pub kept : (k x : ℕ) → bit (row old k) x ≡ true → bit (row new k) x ≡ true
  pub gained : (k x : ℕ) → bit (row new k) x ≡ true → (bit (row old k) x ≡ true) ⊎ ((x ≡ s) × (bit classes k ≡ true))
  pub all : (k : ℕ) → k < n → bit classes k ≡ true → bit (row new k) s ≡ true

-- a row has gained these classes, and each that is new waits
pub record GainedClasses (more : List ClassId) (old new : List Bool) (before after : List ClassId) : Type 0 where
  pub len : length new ≡ length old
  pub kept : (y : ℕ) → bit old y ≡ true → bit new y ≡ true
  pub news : (y : ℕ) → bit new y ≡ true → (bit old y ≡ true) ⊎ Contains more (class_id y)
  pub settled : (y : ℕ) → bit new y ≡ true → (bit old y ≡ true) ⊎ Contains after (class_id y)
  pub told : (x : ClassId) → Contains more x → bit new x.0 ≡ true
  pub waits : (y : ClassId) → Contains before y → Contains after y
  pub comes : (y : ClassId) → Contains after y → Contains before y ⊎ Contains more y
  pub inside : (x : ClassId) → Contains more x → x.0 < length old
  pub work : length after + size old ≤ length before + size new

-- the walk so far: what is in the row is at or above a, and what stands directly above that is in the row too, or it waits
pub record WalkedAbove (F : Facts) (a : ℕ) (r : List Bool) (waiting : List ClassId) : Type 0 where
  pub len : length r ≡ length F.classes.items
  pub start : bit r a ≡ true
  pub sound : (y : ℕ) → bit r y ≡ true → IsBelow F a y
  pub settled : (y : ℕ) → bit r y ≡ true → Contains waiting (class_id y) ⊎ ((x : ClassId) → Contains (supers_of F y) x → bit r x.0 ≡ true)
  pub from : (y : ClassId) → Contains waiting y → IsBelow F a y.0
  pub inside : (y : ClassId) → Contains waiting y → IsClass F y
