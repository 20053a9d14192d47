-- Believed. Constructors: among the methods of a program each stands behind the others, under a name that no text can write.
use Rattle.std.specs.Prelude.{◌≡◌, ℕ, true, false, List, ◌∷◌, Option, Some, None, slice_get, option_and_then}
use Rattle.std.specs.Option.{is_some}
use Rattle.kaba_base.specs.declared.ClassId.{ClassId}
use Rattle.java_core.specs.Trees.{Tag, Exs, this, call, St, act, Sts, st_then}
use Rattle.java_core.specs.Plain.{Plain, PlainClass, PlainMethod}
use Rattle.java_core.specs.Classes.{own_method, slot_of_method}

-- the name of the constructor of a class of this name: `<` and the class's name. No identifier begins so
abbrev pub maker_name : List ℕ → List ℕ
maker_name x = 60 ∷ x

-- the constructor of a class, by its number among the methods (Java Language Specification, 8.8)
abbrev pub maker_of : Plain → ℕ → Option ℕ
maker_of P c = option_and_then (λ k. own_method P c (maker_name k.name)) (slice_get P.classes c)

-- its slot, which is its own
abbrev pub maker_slot : Plain → ℕ → Option ℕ
maker_slot P c = option_and_then (slot_of_method P) (maker_of P c)

-- no class has a constructor
abbrev pub HasNoMaker : Plain → Type 0
HasNoMaker P = (c : ℕ) → maker_of P c ≡ None

-- the call of the constructor of a class of this name on the object that is being made: what `super(..)` is
abbrev pub call_above : Tag → List ℕ → Exs → St
call_above t x es = act t (call t (this t) (maker_name x) es)

-- the statements of a constructor begin with the call of the constructor of a class of this name
pub data BeginsAbove (x : List ℕ) : Sts → Type 0 where
  begins : {t : Tag} {es : Exs} {xs : Sts} → BeginsAbove x (st_then (call_above t x es) xs)

-- the method is the constructor of its class
pub record IsMakerOf (P : Plain) (k : PlainMethod) : Type 0 where
  pub class : PlainClass
  pub stands : slice_get P.classes k.owner ≡ Some class
  pub name : k.name ≡ maker_name class.name

-- the name is that of the constructor of the superclass, in a constructor
pub record IsMakerAbove (P : Plain) (k : PlainMethod) (x : List ℕ) : Type 0 where
  pub of : IsMakerOf P k
  pub above : ClassId
  pub parent : of.class.parent ≡ Some above
  pub class : PlainClass
  pub stands : slice_get P.classes above.0 ≡ Some class
  pub name : x ≡ maker_name class.name

-- a constructor is a public instance method without result, and begins with a call of that of the superclass where there is one
-- (Java Language Specification, 8.8, 8.8.7)
pub record IsFormedMaker (P : Plain) (c : PlainClass) (k : PlainMethod) : Type 0 where
  pub instance : k.is_static ≡ false
  pub public : k.is_public ≡ true
  pub result : k.result ≡ None
  pub code : Sts
  pub has_body : k.body ≡ Some code
  pub begins : (b : ClassId) (d : PlainClass) → c.parent ≡ Some b → slice_get P.classes b.0 ≡ Some d → is_some (maker_of P b.0) ≡ true
      → BeginsAbove d.name code
