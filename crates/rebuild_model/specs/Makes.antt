-- Believed. The methods of a new program that make the objects of classes with a constructor: a new program has no constructors, but public methods in
-- their place.
use Rattle.std.specs.Prelude.{◌≡◌, ℕ, zero, suc, true, List, [], ◌∷◌, length, Some, slice_get}
use Rattle.java_core.specs.declared.Ty.{Ty}
use Rattle.java_core.specs.Trees.{Tag, Exs, no_ex, ex_then, local, call, create, Sts, declare, act, return, no_st, st_then}
use Rattle.java_core.specs.Programs.{Plain, PlainMethod, PlainSlot}
use Rattle.java_core.specs.Types.{types_of, class_type}
use Rattle.flow_rules.specs.declared.items.RowItem.TheVariants as row
use Rattle.flow_rules.specs.Ordered.{each}
use Rattle.rebuild_model.specs.Renaming.{Renaming, retyped}

-- the types of the parameters of a slot
abbrev pub slot_types : Renaming → ℕ → List Ty → List Ty
slot_types R s ts = each (λ i t. retyped (R.row_type (row.Param s i)) t ∷ []) 0 ts

-- an old method of a slot
pub record HasOldSlot (P : Plain) (m : ℕ) : Type 0 where
  pub old : PlainMethod
  pub old_stands : slice_get P.methods m ≡ Some old
  pub slot : ℕ
  pub of_slot : old.slot ≡ Some slot
  pub signature : PlainSlot
  pub slot_stands : slice_get P.slots slot ≡ Some signature

-- the arguments are so many locals, from a number on
pub data AreLocalsFrom : ℕ → ℕ → Exs → Type 0 where
  none_passed : {i : ℕ} → AreLocalsFrom i zero no_ex
  one_passed : {t : Tag} {i n : ℕ} {es : Exs} → AreLocalsFrom (suc i) n es → AreLocalsFrom i (suc n) (ex_then (local t i) es)

-- the statements create an object of a class, keep it in the local behind so many parameters, call a method on it with the parameters, and give it back
pub data IsMakeCode (k : ℕ) (x : List ℕ) (n : ℕ) : Sts → Type 0 where
  makes : {a b c d e f g : Tag} {j : ℕ} {es : Exs} → AreLocalsFrom zero n es → IsMakeCode k x n
      (st_then (declare a n (Some (create b j k no_ex))) (st_then (act c (call d (local e n) x es)) (st_then (return f (Some (local g n))) no_st)))

-- the method g of the new program W makes the objects of the creation n, whose class has the constructor m
pub record IsMake (P W : Plain) (R : Renaming) (n m g : ℕ) : Type 0 where
  pub was : HasOldSlot P m
  pub new : PlainMethod
  pub stands : slice_get W.methods g ≡ Some new
  pub static : new.is_static ≡ true
  pub owner : new.owner ≡ R.makers
  pub name : new.name ≡ R.make_name n
  pub class : ℕ
  pub row : R.row_type (row.New n) ≡ Some class
  pub params : types_of new.params ≡ slot_types R was.slot was.signature.params
  pub result : new.result ≡ Some (class_type class)
  pub locals : types_of new.locals ≡ class_type class ∷ []
  pub code : Sts
  pub new_code : new.body ≡ Some code
  pub makes : IsMakeCode class (R.method_name m) (length new.params) code
