-- Mirror. By what slots are listed: a hash of their parameter types, their result and their name.
use Rattle.std.specs.Prelude.{ℕ, ◌%◌, List, [], ◌∷◌, map, Option, Some, None}
use Rattle.std.specs.Str.{encode_utf8_all}
use Rattle.std.specs.declared.vec.Vec.{Vec}
use Rattle.std.specs.declared.alloc.Global.{Global}
use Rattle.java_core.specs.declared.Slot.{Slot}
use Rattle.java_core.specs.declared.Ty.{Ty}
use Rattle.java_core.specs.declared.TyBase.{TyBase}
use Rattle.java_core.specs.declared.TyBase.TheVariants as ty
use Rattle.java_core.specs.Owned.{AreOwned}
use Rattle.java_core.specs.Tables.{mixed, mixed_all}

-- the number of a class, and for each other type without its dimensions a number behind those of classes
abbrev pub base_number : TyBase → ℕ
base_number ty.Int = 4294967295
base_number ty.Boolean = 4294967294
base_number ty.Char = 4294967293
base_number ty.Str = 4294967292
base_number (ty.Class c) = c.0

-- a hash carried on by a type, by each of some types, and by a result
abbrev pub type_mixed : ℕ → Ty → ℕ
type_mixed hash t = mixed (mixed hash (base_number t.base)) t.dim

-- a hash carried on by each of some types
abbrev pub types_mixed : ℕ → List Ty → ℕ
types_mixed hash [] = hash
types_mixed hash (t ∷ ts) = types_mixed (type_mixed hash t) ts

-- a hash carried on by a result, which may be void
abbrev pub result_mixed : ℕ → Option Ty → ℕ
result_mixed hash None = mixed hash 4294967291
result_mixed hash (Some t) = type_mixed hash t

-- the key of a name, parameter types and a result
abbrev pub slot_key : List ℕ → List Ty → Option Ty → ℕ
slot_key n ts r = mixed_all (result_mixed (types_mixed 0 ts) r) (encode_utf8_all n) % 4093

-- the key of a slot
abbrev pub key_of : Slot → ℕ
key_of s = slot_key s.name s.params.items s.result

-- the lists have under each key the numbers of its slots, in rising order
abbrev pub AreKeyed : List Slot → List (Vec ℕ Global) → Type 0
AreKeyed slots lists = AreOwned (map key_of slots) lists
