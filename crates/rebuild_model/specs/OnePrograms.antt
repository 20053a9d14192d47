-- Believed. When two programs are one but for places, modifiers without meaning, `this.` written or left away, the
-- numbers of creations, and the order of types and members.
use Rattle.std.specs.Prelude.{◌≡◌, ℕ, false, List, [], ◌∷◌, length, Option, Some, None, slice_get}
use Rattle.kaba_base.specs.declared.ClassId.{ClassId}
use Rattle.java_core.specs.Programs.{Plain, PlainClass, PlainField, PlainLocal, PlainMethod}
use Rattle.rebuild_model.specs.OneBodies.{IsOneClass, IsOneType, IsOneMethod, OneSts}

-- two lists are as long as one another, and their items are related one by one
pub data AreRelated {A : Type 0} (R : A → A → Type 0) : List A → List A → Type 0 where
  none_related : AreRelated R [] []
  one_related : {x y : A} {xs ys : List A} → R x y → AreRelated R xs ys → AreRelated R (x ∷ xs) (y ∷ ys)

-- both are there and related, or neither is there
pub data BothRelated {A : Type 0} (R : A → A → Type 0) : Option A → Option A → Type 0 where
  neither : BothRelated R None None
  both : {x y : A} → R x y → BothRelated R (Some x) (Some y)

-- an item of a list is related
pub record HasRelated {A : Type 0} (R : A → Type 0) (items : List A) : Type 0 where
  pub number : ℕ
  pub item : A
  pub stands : slice_get items number ≡ Some item
  pub related : R item

-- two lists are as long as one another, and each item of the first is related to one of the second, in any order
pub record AreMatched {A : Type 0} (R : A → A → Type 0) (xs ys : List A) : Type 0 where
  pub as_many : length xs ≡ length ys
  pub each : (i : ℕ) (x : A) → slice_get xs i ≡ Some x → HasRelated (λ y. R x y) ys

module _ (P Q : Plain) where
  -- two classes of one name, or two interfaces, with supertypes of the same names in the same order; `abstract` says nothing at an interface
  pub record IsOneClassAs (first second : PlainClass) : Type 0 where
    pub name : first.name ≡ second.name
    pub kind : first.is_interface ≡ second.is_interface
    pub abstract : first.is_interface ≡ false → first.is_abstract ≡ second.is_abstract
    pub parent : BothRelated (λ (c d : ClassId). IsOneClass P Q c.0 d.0) first.parent second.parent
    pub faces : AreRelated (λ (c d : ClassId). IsOneClass P Q c.0 d.0) first.faces second.faces

  -- two fields of one name and type in classes of one name, both static or neither
  pub record IsOneFieldAs (first second : PlainField) : Type 0 where
    pub owner : IsOneClass P Q first.owner second.owner
    pub name : first.name ≡ second.name
    pub static : first.is_static ≡ second.is_static
    pub type : IsOneType P Q first.ty second.ty

  -- two parameters or locals of one name and type
  pub record IsOneVariable (first second : PlainLocal) : Type 0 where
    pub name : first.name ≡ second.name
    pub type : IsOneType P Q first.ty second.ty

  -- two methods of one name in classes of one name, both static or neither, with the same variables, result and body. What access they give is free:
  -- in checked programs it says nothing of a run
  pub record IsOneMethodAs (first second : PlainMethod) : Type 0 where
    pub owner : IsOneClass P Q first.owner second.owner
    pub name : first.name ≡ second.name
    pub static : first.is_static ≡ second.is_static
    pub params : AreRelated IsOneVariable first.params second.params
    pub locals : AreRelated IsOneVariable first.locals second.locals
    pub result : BothRelated (IsOneType P Q) first.result second.result
    pub body : BothRelated (OneSts P Q) first.body second.body

  -- the two programs are one: they have as many types, fields and methods, each of the first is one with one of the second, and both begin with the same
  -- method. No two types of a formed program have one name, nor two fields or two methods of a type
  pub record AreOne : Type 0 where
    pub classes : AreMatched IsOneClassAs P.classes Q.classes
    pub fields : AreMatched IsOneFieldAs P.fields Q.fields
    pub methods : AreMatched IsOneMethodAs P.methods Q.methods
    pub main : IsOneMethod P Q P.main Q.main
