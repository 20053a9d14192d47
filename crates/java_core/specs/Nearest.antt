-- Mirror. What stands nearest at or above a class, by numbers of names.
use Rattle.std.specs.Prelude.{◌≡◌, ℕ, zero, suc, ◌&&◌, Bool, List, length, map, Option, Some, None, slice_get, position, if◌then◌else◌}
use Rattle.std.specs.Option.{option_and_then}
use Rattle.std.specs.Str.{bytes_eq}
use Rattle.std.specs.declared.vec.Vec.{Vec}
use Rattle.std.specs.declared.alloc.Global.{Global}
use Rattle.kaba_base.specs.declared.ClassId.{ClassId}
use Rattle.kaba_versions.specs.declared.VersionMap.{VersionMap}
use Rattle.kaba_versions.specs.Held.{holds}
use Rattle.java_core.specs.declared.Class.{Class}
use Rattle.java_core.specs.MemberKeys.{MemberKeys}
use Rattle.java_core.specs.Classes.{first_or, is_slot}
use Rattle.java_core.specs.Owned.{listed, first_among}

-- ---- numbers of names

-- a member is looked for from below, and has the name
abbrev pub has_name : {A : Type 0} → (A → MemberKeys) → List ℕ → A → Bool
has_name keys x a = (keys a).is_inherited && bytes_eq (keys a).name x

-- the number of a name is that of the first such member that has it
abbrev pub name_number : {A : Type 0} → (A → MemberKeys) → List A → List ℕ → Option ℕ
name_number keys members x = position (λ a. has_name keys x a) members

-- the number of a member's name; a member that is not looked for from below has none
abbrev pub number_of : {A : Type 0} → (A → MemberKeys) → List A → A → Option ℕ
number_of keys members a = if (keys a).is_inherited then name_number keys members (keys a).name else None

-- for each member the number of its name
abbrev pub name_numbers : {A : Type 0} → (A → MemberKeys) → List A → List (Option ℕ)
name_numbers keys members = map (λ a. number_of keys members a) members

-- the first of these members whose name has a number
abbrev pub numbered_among : List (Option ℕ) → ℕ → List ℕ → Option ℕ
numbered_among numbers i own = first_among (λ o. is_slot o i) numbers own

-- ---- along the superclasses

-- the superclass of each class
abbrev pub superclasses : List Class → List (Option ClassId)
superclasses classes = map (λ k. k.parent) classes

-- the superclass at a class's place in the list of superclasses
abbrev pub parent_at : List (Option ClassId) → ℕ → Option ClassId
parent_at parents c = option_and_then (λ o. o) (slice_get parents c)

-- what a class has, or where it has nothing what its superclass has, within n steps upwards
abbrev pub nearest_by : List (Option ClassId) → (ℕ → Option ℕ) → ℕ → ℕ → Option ℕ
nearest_by parents f zero c = f c
nearest_by parents f (suc n) c = first_or (f c) (option_and_then (λ p. nearest_by parents f n p.0) (parent_at parents c))

-- r is what a class itself has, or where it has nothing what is so found from its superclass
pub data IsNearestOwn (parents : List (Option ClassId)) (own : ℕ → Option ℕ) : ℕ → Option ℕ → Type 0 where
  highest : {c : ℕ} → parent_at parents c ≡ None → IsNearestOwn parents own c (own c)
  lower : {c : ℕ} {p : ClassId} {r : Option ℕ} → parent_at parents c ≡ Some p → IsNearestOwn parents own p.0 r → IsNearestOwn parents own c (first_or (own c) r)

-- the versions that are there have under each number what is first along the superclasses
pub record AreVersions (parents : List (Option ClassId)) (numbers : List (Option ℕ)) (own : List (Vec ℕ Global)) (all : List (Option VersionMap)) : Type 0 where
  pub each : (c : ℕ) (m : VersionMap) → slice_get all c ≡ Some (Some m) → (i : ℕ)
      → ∥ IsNearestOwn parents (λ k. numbered_among numbers i (listed own k)) c (holds m i) ∥₁

-- a map has what the version of a class has
pub record IsVersion (all : List (Option VersionMap)) (c : ℕ) (h : ℕ → Option ℕ) : Type 0 where
  pub of : VersionMap
  pub stands : slice_get all c ≡ Some (Some of)
  pub same : (i : ℕ) → h i ≡ holds of i

-- a map has what the version of the superclass has, or nothing where there is none
abbrev pub IsVersionAbove : List (Option VersionMap) → Option ClassId → (ℕ → Option ℕ) → Type 0
IsVersionAbove all None h = (i : ℕ) → h i ≡ None
IsVersionAbove all (Some p) h = IsVersion all p.0 h

-- a map is the version of the superclass of a class
pub record IsSuperclassVersion (parents : List (Option ClassId)) (all : List (Option VersionMap)) (c : ℕ) (m : VersionMap) : Type 0 where
  pub by : ClassId
  pub parent : parent_at parents c ≡ Some by
  pub stands : slice_get all by.0 ≡ Some (Some m)

-- r is nearest to a class that has nothing itself, of a name that each class has by own
abbrev pub IsNearestBy : List (Option ClassId) → (ℕ → Option ℕ) → ℕ → Option ℕ → Type 0
IsNearestBy parents own c r = own c ≡ None → nearest_by parents own (length parents) c ≡ r
