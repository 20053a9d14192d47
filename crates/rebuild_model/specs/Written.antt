-- Believed. What a written program has beyond the rebuild relation: public instance methods in its classes, and default
-- results of what fills in for a body.
use Rattle.std.specs.Prelude.{◌≡◌, ℕ, pos, true, false, Option, Some, None, slice_get}
use Rattle.java_core.specs.declared.Ty.{Ty}
use Rattle.java_core.specs.declared.TyBase.TheVariants.{Int, Boolean, Char}
use Rattle.java_core.specs.Trees.{Tag, Ex, number, truth, null, cast, Sts, return, no_st, st_then}
use Rattle.java_core.specs.Programs.{Plain, PlainMethod}
use Rattle.java_core.specs.Classes.{is_interface}
use Rattle.java_core.specs.Types.{plain_type, is_reference}
use Rattle.fact_model.specs.declared.facts.Facts.{Facts}
use Rattle.hier_model.specs.Hierarchies.{Hierarchy}
use Rattle.rebuild_model.specs.Renaming.{Places}
use Rattle.rebuild_model.specs.Members.{IsFiller}

-- the default of a type: 0, false, (char) 0 or null (Java Language Specification, 4.12.5)
pub data IsDefault : Ty → Ex → Type 0 where
  zero_int : {t : Tag} → IsDefault (plain_type Int) (number t (pos 0))
  no_truth : {t : Tag} → IsDefault (plain_type Boolean) (truth t false)
  zero_char : {t u : Tag} {n : ℕ} → IsDefault (plain_type Char) (cast t n (plain_type Char) (number u (pos 0)))
  no_object : {t : Tag} {u : Ty} → is_reference u ≡ true → IsDefault u (null t)

-- a body that gives back the default of its result, and nothing for none
pub data IsFilling : Option Ty → Sts → Type 0 where
  fills_nothing : IsFilling None no_st
  fills : {t : Tag} {u : Ty} {e : Ex} → IsDefault u e → IsFilling (Some u) (st_then (return t (Some e)) no_st)

module _ (P : Plain) (F : Facts) (H : Hierarchy) (W : Plain) (T : Places) where
  -- a method has a body, and that gives back the default of its result
  pub record HasFilling (new : PlainMethod) : Type 0 where
    pub code : Sts
    pub is : new.body ≡ Some code
    pub fills : IsFilling new.result code

  -- the instance methods of classes are public, and each filler gives back a default
  pub record IsWritten : Type 0 where
    pub public : (g : ℕ) (new : PlainMethod) → slice_get W.methods g ≡ Some new → new.is_static ≡ false → is_interface W new.owner ≡ false
        → new.is_public ≡ true
    pub fillers : (g n m : ℕ) (new : PlainMethod) → slice_get W.methods g ≡ Some new → IsFiller P F H W T n m new → HasFilling new
