-- What typing and the choice of the points give of each part of a body.
use Rattle.std.proofs.Common.{◌≡◌, ℕ, Some, None, List, length, Option}
use Rattle.std.specs.Prelude.{◌<◌, Bool, true, slice_get, Contains}
use Rattle.std.specs.Option.{is_some}
use Rattle.java_core.specs.Programs.{Plain, PlainMethod}
use Rattle.java_core.specs.Classes.{below, lookup}
use Rattle.java_meaning.specs.Languages.{index_of}
use Rattle.fact_model.specs.Items.{site_at}
use Rattle.fact_model.specs.Classes.{IsBelow, finds}
use Rattle.fact_model.specs.Flowing.{point_at as listed_at}
use Rattle.fact_model.specs.declared.facts.Facts.{Facts}
use Rattle.fact_model.specs.declared.facts.BodyInfo.{BodyInfo}
use Rattle.flow_rules.specs.declared.items.ObjectType.{ObjectType}
use Rattle.flow_rules.specs.declared.items.Operand.{Operand}
use Rattle.flow_rules.specs.declared.items.ColumnItem.TheVariants as column
use Rattle.flow_rules.specs.declared.items.PointItem.TheVariants as point
use Rattle.flow_rules.specs.Operands.{object_if}
use Rattle.flow_rules.specs.Types.{field_object, variable_object}
use Rattle.flow_rules.specs.Parts.{Part, a_load, an_element, a_creation, a_call, a_static_call, a_super_call, a_test, a_pair, a_set, a_store, an_element_store, a_return, parts_of}
use Rattle.flow_rules.specs.Lists.{point_at}
use Rattle.flow_rules.specs.Facts.{numbers}
use Rattle.flow_laws.specs.cover.Covers.{field_cell, element_cell}

-- the class and the brackets of a site, as a type
abbrev pub site_type : Facts → ℕ → ObjectType
site_type F s = record { class = (site_at F s).class; dim = (site_at F s).dim }

module _ (P : Plain) (F : Facts) where
  pub record IsPoint (o : Operand) : Type 0 where
    pub type : ObjectType
    pub typed : o.ty ≡ Some type
    pub number : ℕ
    pub point : point_at (numbers P) o ≡ Some number

  -- an operand of an object type is a point
  unfoldable pub HasPoint : Operand → Type 0
  HasPoint o = (t : ObjectType) → o.ty ≡ Some t → (q : ℕ) × (point_at (numbers P) o ≡ Some q)

  -- a creation of an object's type has a site, which has its type, and is a point where it is used as one
  pub record IsCreation (u : Bool) (o : Operand) : Type 0 where
    pub sited : (n : ℕ) (t : ObjectType) → o.created ≡ Some n → o.ty ≡ Some t → (s : ℕ) × ((numbers P).site n ≡ Some s)
    pub typed : (n s : ℕ) → o.created ≡ Some n → (numbers P).site n ≡ Some s → o.ty ≡ Some (site_type F s)
    pub point : u ≡ true → (n s : ℕ) → o.created ≡ Some n → (numbers P).site n ≡ Some s → (q : ℕ) × (point_at (numbers P) o ≡ Some q)

  -- a creation whose field is read or written is a point
  unfoldable pub IsBase : Operand → Type 0
  IsBase b = (n s : ℕ) → b.created ≡ Some n → (numbers P).site n ≡ Some s → (q : ℕ) × (point_at (numbers P) b ≡ Some q)

  pub record IsKindedLoad (b : Operand) (f : ℕ) (o : Operand) : Type 0 where
    pub base : IsBase b
    pub gives : (t : ObjectType) → field_object P f ≡ Some t → IsPoint o

  pub record IsKindedStore (b : Operand) (f : ℕ) (o : Operand) : Type 0 where
    pub base : IsBase b
    pub takes : (t : ObjectType) → o.ty ≡ Some t → (u : ObjectType) × (field_object P f ≡ Some u)

  -- what a call takes has the types of the method's parameters
  abbrev pub AreKinded : PlainMethod → List Operand → Type 0
  AreKinded k es = (i : ℕ) (a : Operand) (t : ObjectType) → slice_get es i ≡ Some a → a.ty ≡ Some t → (u : ObjectType) × (variable_object k i ≡ Some u)
      × (i < length k.params)

  -- what a call gives and takes has the types of the method's parameters and result
  pub record IsKindedCall (k : PlainMethod) (es : List Operand) (o : Operand) : Type 0 where
    pub args : AreKinded k es
    pub result : (t : ObjectType) → object_if k.result ≡ Some t → IsPoint o

  pub record IsKindedReturn (m : ℕ) (k : PlainMethod) : Type 0 where
    pub type : ObjectType
    pub typed : object_if k.result ≡ Some type
    pub number : ℕ
    pub point : (numbers P).point (point.Result m) ≡ Some number

  -- what a constructor of the slot takes
  abbrev pub IsKindedMaker : Option ℕ → List Operand → Type 0
  IsKindedMaker None es = Unit {0}
  IsKindedMaker (Some j) es = (c : ℕ) (h : PlainMethod) → slice_get P.methods c ≡ Some h → h.slot ≡ Some j → AreKinded h es

  unfoldable pub IsKindedPart : ℕ → PlainMethod → Part → Type 0
  IsKindedPart m k (a_load p b None o) = Unit {0}
  IsKindedPart m k (a_load p b (Some f) o) = IsKindedLoad b f o
  IsKindedPart m k (an_element p b o) = (t : ObjectType) → b.ty ≡ Some t → IsPoint o
  IsKindedPart m k (a_creation p u o s d es) = IsCreation u o × IsKindedMaker s es
  IsKindedPart m k (a_call p b None d es o) = Unit {0}
  IsKindedPart m k (a_call p b (Some j) d es o) = (c : ℕ) (h : PlainMethod) → slice_get P.methods c ≡ Some h → h.slot ≡ Some j → IsKindedCall h es o
  IsKindedPart m k (a_static_call p c es o) = (h : PlainMethod) → slice_get P.methods c ≡ Some h → IsKindedCall h es o
  IsKindedPart m k (a_super_call p None es o) = Unit {0}
  IsKindedPart m k (a_super_call p (Some c) es o) = (h : PlainMethod) → slice_get P.methods c ≡ Some h → is_some h.body ≡ true → IsKindedCall h es o
      × ((q : ℕ) × ((numbers P).point (point.This c) ≡ Some q))
  IsKindedPart m k (a_test p e o) = HasPoint o
  IsKindedPart m k (a_pair c l r) = Unit {0}
  IsKindedPart m k (a_set v o) = (t : ObjectType) → o.ty ≡ Some t → IsPoint v
  IsKindedPart m k (a_store p b None o) = Unit {0}
  IsKindedPart m k (a_store p b (Some f) o) = IsKindedStore b f o
  IsKindedPart m k (an_element_store p b o) = Unit {0}
  IsKindedPart m k (a_return o) = (t : ObjectType) → o.ty ≡ Some t → IsKindedReturn m k

  -- the body of the method m, as the facts have it
  pub record IsBodyOf (m : ℕ) (k : PlainMethod) (b : BodyInfo) : Type 0 where
    pub listed : Contains F.bodies.items b
    pub this : (numbers P).point (point.This m) ≡ Some b.this
    pub params : (i : ℕ) → i < length k.params → listed_at b.params.items i ≡ (numbers P).point (point.Local m i)
    pub result : (numbers P).point (point.Result m) ≡ b.result

  pub record FindsBody (c j m : ℕ) (k : PlainMethod) : Type 0 where
    pub body : BodyInfo
    pub is_body : IsBodyOf m k body
    pub slot : k.slot ≡ Some j
    pub found : finds F c j ≡ Some body.column.0
    pub column : (numbers P).column (column.Def m) ≡ Some body.column.0

  -- what the covering of runs needs of a program beside its facts
  pub record IsKinded : Type 0 where
    pub parts : (m : ℕ) (k : PlainMethod) → slice_get P.methods m ≡ Some k → (p : Part) → Contains (parts_of P m k) p → IsKindedPart m k p
    -- the points of variables and of `this`
    pub variables : (m : ℕ) (k : PlainMethod) → slice_get P.methods m ≡ Some k → is_some k.body ≡ true → (i : ℕ) (t : ObjectType)
        → variable_object k i ≡ Some t → (q : ℕ) × ((numbers P).point (point.Local m i) ≡ Some q)
    -- the cells of fields and elements
    pub fields : (f n s c i : ℕ) (t : ObjectType) → (numbers P).site n ≡ Some s → site_type F s ≡ record { class = record { 0 = c }; dim = 0 }
        → index_of P c f ≡ Some i → field_object P f ≡ Some t → (n : ℕ) × (field_cell P F f s ≡ Some n)
    pub elements : (n s c d : ℕ) → (numbers P).site n ≡ Some s → site_type F s ≡ record { class = record { 0 = c }; dim = d } → (d ≡ 0 → ⊥)
        → (n : ℕ) × (element_cell P F s ≡ Some n)
    -- the classes and bodies
    pub below : (c d : ℕ) → below P c d ≡ true → IsBelow F c d
    pub bodies : (c j m : ℕ) (k : PlainMethod) → lookup P c j ≡ Some m → slice_get P.methods m ≡ Some k → is_some k.body ≡ true → FindsBody c j m k
