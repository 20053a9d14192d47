-- Mirror. The numbers of members by owner, by owner and name, by owner and slot, and by name.
use Rattle.std.specs.Prelude.{◌≡◌, ℕ, ◌+◌, ◌*◌, ◌/◌, ◌%◌, List, ◌∷◌, length, map, Option, Some, None, []}
use Rattle.std.specs.Str.{encode_utf8_all}
use Rattle.java_core.specs.declared.Class.{Class}
use Rattle.java_core.specs.declared.Field.{Field}
use Rattle.java_core.specs.declared.Method.{Method}
use Rattle.std.specs.declared.vec.Vec.{Vec}
use Rattle.std.specs.declared.alloc.Global.{Global}
use Rattle.java_core.specs.declared.tables.MemberKey.TheVariants as key
use Rattle.java_core.specs.declared.tables.MemberKey.{MemberKey}
use Rattle.java_core.specs.declared.tables.MemberTables.{MemberTables}
use Rattle.java_core.specs.declared.tables.MethodTables.{MethodTables}
use Rattle.java_core.specs.declared.tables.Tables.{Tables}
use Rattle.kaba_base.specs.declared.ClassId.{ClassId}
use Rattle.java_core.specs.MemberKeys.{MemberKeys, field_keys, method_keys}
use Rattle.java_core.specs.Owned.{AreOwned}
use Rattle.java_core.specs.Nearest.{superclasses, name_numbers, AreVersions}

-- a hash carried on by a number, by the prime of Fowler, Noll and Vo's hash
abbrev pub mixed : ℕ → ℕ → ℕ
mixed hash next = (hash * 16777619 + next) % 4294967296

-- a hash carried on by each of a list
abbrev pub mixed_all : ℕ → List ℕ → ℕ
mixed_all hash [] = hash
mixed_all hash (b ∷ bs) = mixed_all (mixed hash b) bs

-- the bucket of a class's members of a name, of so many members
abbrev pub name_bucket : ℕ → ℕ → List ℕ → ℕ
name_bucket members class name = mixed_all class (encode_utf8_all name) % (members / 2 + 1)

-- the bucket of a class's methods of a slot; those without a slot are in one behind the others
abbrev pub slot_bucket : ℕ → ℕ → Option ℕ → ℕ
slot_bucket members class None = members / 2 + 1
slot_bucket members class (Some slot) = mixed class slot % (members / 2 + 1)

-- the place of a member in the lists, of so many members, by what it is listed
abbrev pub place_by : MemberKey → ℕ → MemberKeys → ℕ
place_by key.Owner members k = k.owner
place_by key.OwnerAndName members k = name_bucket members k.owner k.name
place_by key.OwnerAndSlot members k = slot_bucket members k.owner k.slot
place_by key.Name members k = name_bucket members 0 k.name

-- the lists have each member where it belongs by a key
abbrev pub AreMembersBy : {A : Type 0} → (A → MemberKeys) → MemberKey → List A → List (Vec ℕ Global) → Type 0
AreMembersBy keys by members lists = AreOwned (map (λ a. place_by by (length members) (keys a)) members) lists

-- the tables have each member of these where it belongs
pub record AreMemberTables {A : Type 0} (keys : A → MemberKeys) (parents : List (Option ClassId)) (members : List A) (t : MemberTables) : Type 0 where
  pub own : AreMembersBy keys key.Owner members t.own.items
  pub by_name : AreMembersBy keys key.OwnerAndName members t.by_name.items
  pub named : AreMembersBy keys key.Name members t.named.items
  pub nearest : AreVersions parents (name_numbers keys members) t.own.items t.nearest.items

-- the tables have each field where it belongs
abbrev pub AreFieldTables : List (Option ClassId) → List Field → MemberTables → Type 0
AreFieldTables = AreMemberTables field_keys

-- those of methods have each by its slot too
pub record AreMethodTables (parents : List (Option ClassId)) (methods : List Method) (t : MethodTables) : Type 0 where
  pub members : AreMemberTables method_keys parents methods t.members
  pub by_slot : AreMembersBy method_keys key.OwnerAndSlot methods t.by_slot.items

-- the tables of a program have its superclasses, and each field and method where it belongs
pub record HaveMemberTables (cs : List Class) (fs : List Field) (ms : List Method) (t : Tables) : Type 0 where
  pub parents : t.parents.items ≡ superclasses cs
  pub fields : AreFieldTables t.parents.items fs t.fields
  pub methods : AreMethodTables t.parents.items ms t.methods
