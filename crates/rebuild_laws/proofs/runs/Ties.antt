-- What each part of a body gives the twin of the body: what is met there is met in the same way over the new classes.
use Rattle.std.specs.Prelude.{◌≡◌, ℕ, ◌<◌, length, Bool, true, false, Option, Some, None, option_and_then, slice_get, List, Contains}
use Rattle.java_core.specs.declared.Ty.{Ty}
use Rattle.java_core.specs.declared.TyBase.TheVariants.{Class}
use Rattle.java_core.specs.Programs.{Plain, PlainField, PlainMethod}
use Rattle.java_core.specs.Classes.{member_field, slot_of, slot_of_method, super_method, is_static_field}
use Rattle.java_core.specs.Makers.{maker_slot}
use Rattle.java_core.specs.Trees.{Ex}
use Rattle.java_core.specs.Types.{Env, env_of, is_subtype, static}
use Rattle.java_core.specs.Typing.{Typed}
use Rattle.java_core.specs.Formed.{FormedEx}
use Rattle.java_meaning.specs.Moment.{Kind, an_object, own_type, Body, Lang}
use Rattle.java_meaning.specs.Meaning.{element_type}
use Rattle.java_meaning.specs.Languages.{body_of, language_of}
use Rattle.fact_model.specs.Items.{point_row}
use Rattle.fact_model.specs.declared.facts.Facts.{Facts}
use Rattle.flow_rules.specs.declared.items.ObjectType.{ObjectType}
use Rattle.flow_rules.specs.declared.items.Operand.{Operand}
use Rattle.flow_rules.specs.declared.items.RowItem.{RowItem}
use Rattle.flow_rules.specs.declared.items.RowItem.TheVariants as row
use Rattle.flow_rules.specs.Operands.{object_of, row_of, operand_of, this_operand, type_in}
use Rattle.flow_rules.specs.Numbered.{row_number}
use Rattle.flow_rules.specs.Parts.{Part, a_load, a_creation, a_call, a_super_call, a_test, a_store, an_element_store, parts, parts_of}
use Rattle.flow_rules.specs.Lists.{site_in, point_at, row_at}
use Rattle.flow_rules.specs.Facts.{numbers}
use Rattle.flow_laws.specs.cover.Covers.{Sets, passes, point_sites, held_sites, spot_set, labelled_body, watched}
use Rattle.flow_laws.proofs.cover.Kinded.{IsKindedPart}
use Rattle.rebuild_model.specs.Renaming.{Renaming, retyped}
use Rattle.rebuild_model.specs.Matches.{IsStaticField, IsStaticMethod, Matches}
use Rattle.rebuild_laws.proofs.types.Retyped.{retyped_static}
use Rattle.rebuild_laws.proofs.types.Asked.{new_class}
use Rattle.rebuild_laws.specs.twins.Twins.{Link, HasPair, SameNew, SameArray, SameStatic, BothPair}

-- a type of a row, and that over a class
abbrev pub type_at : ObjectType → Ty
type_at t = record { base = Class t.class; dim = t.dim }

abbrev pub type_over : ℕ → ObjectType → Ty
type_over w t = record { base = Class (record { 0 = w }); dim = t.dim }

-- what ties the old program, watched by sets of sites, and the new one
module _ (P W : Plain) (F : Facts) (S : Sets) (R : Renaming) (has : Option ℕ → ℕ → Bool) (new_field new_static : ℕ → ℕ) (Made : Option ℕ → Kind → Kind → Type 0)
    (Pair : Body → Body → Type 0) where
  abbrev pub L : Lang
  L = watched P F S

  abbrev pub M : Lang
  M = language_of W

  abbrev pub link : Link
  link = record { may = spot_set P F S; has = has; new_field = new_field; is_static = is_static_field P; new_static = new_static }

  -- whether an object of a creation may be where an operand is met, and where its value is held
  abbrev pub may_at : Operand → Option ℕ → Bool
  may_at b o = passes (point_sites P F S b) (site_in (numbers P) o)

  abbrev pub may_held : Operand → Option ℕ → Bool
  may_held b o = passes (held_sites P F S b) (site_in (numbers P) o)

  abbrev pub class_at : Operand → Option ℕ
  class_at o = new_class P W R o.row

  -- the row of an operand's point is that of the operand
  abbrev pub IsAt : Operand → Type 0
  IsAt o = (q : ℕ) → point_at (numbers P) o ≡ Some q → (row_at (numbers P) o ≡ Some (point_row F q)) × (q < length F.points.items)

  -- a field that is read or written of an operand
  pub record FieldTied (b : Operand) (f : ℕ) : Type 0 where
    pub new : (c : ℕ) → class_at b ≡ Some c → member_field W c (R.field_name f) ≡ Some (new_field f)
    pub had : (o : Option ℕ) (c k : ℕ) → Made o (an_object c) (an_object k) → may_at b o ≡ true → has o f ≡ true

  abbrev pub FieldTiedIf : Operand → ℕ → Type 0
  FieldTiedIf b f = IsAt b → (w : PlainField) → slice_get P.fields f ≡ Some w → w.is_static ≡ false → FieldTied b f

  -- a body of the new program that is found, and is of a pair with x
  abbrev pub Paired : Body → Option Body → Type 0
  Paired x q = HasPair L M link Made Pair x q

  -- a call on the class v by the name of the method d finds a slot, and an object of the class k a body for it that is of a pair with x
  pub record CallFound (v d k : ℕ) (x : Body) : Type 0 where
    pub slot : ℕ
    pub found : slot_of W v (R.method_name d) ≡ Some slot
    pub runs : Paired x (M.body k slot)

  -- a call of a slot on an operand, by the name of the method d
  pub record CallTied (b : Operand) (s d : ℕ) : Type 0 where
    pub bodies : (o : Option ℕ) (v c k : ℕ) (x : Body) → slot_of_method P d ≡ Some s → class_at b ≡ Some v → Made o (an_object c) (an_object k)
        → L.body c s ≡ Some x → may_at b o ≡ true → CallFound v d k x

  -- a creation of an object, and of an array
  abbrev pub SameNewAt : ℕ → ℕ → ℕ → Type 0
  SameNewAt n c k = SameNew L M link Made Pair n c k

  abbrev pub SameArrayAt : ℕ → Ty → Ty → Type 0
  SameArrayAt n t u = SameArray L M link Made Pair n t u

  pub record CreationTied (o : Operand) : Type 0 where
    pub object : (n k : ℕ) (t : ObjectType) → o.created ≡ Some n → o.ty ≡ Some t → t.dim ≡ 0 → R.row_type (row.New n) ≡ Some k → SameNewAt n t.class.0 k
    pub array : (n : ℕ) (v : Ty) → o.created ≡ Some n → o.ty ≡ object_of v → 0 < v.dim → SameArrayAt n v (retyped (R.row_type (row.New n)) v)

  -- where the class of a creation has a constructor, of the slot s and declared by d, it is called on the object
  abbrev pub MakerTied : Operand → Option ℕ → Option ℕ → Type 0
  MakerTied o (Some s) (Some d) = IsAt o → CallTied o s d
  MakerTied o (Some s) None = Unit {0}
  MakerTied o None d = Unit {0}

  -- a test of an operand
  pub record TestTied (e o : Operand) : Type 0 where
    pub same : (q : Option ℕ) (a b : Kind) (t : ObjectType) (w : ℕ) → Made q a b → may_at e q ≡ true → o.ty ≡ Some t → class_at o ≡ Some w
        → is_subtype P (own_type a) (type_at t) ≡ is_subtype W (own_type b) (type_over w t)

  -- a creation of a site is a point
  abbrev pub IsPointed : Operand → Type 0
  IsPointed o = (n s : ℕ) → o.created ≡ Some n → (numbers P).site n ≡ Some s → (q : ℕ) × (point_at (numbers P) o ≡ Some q)

  -- a store of an operand into an array
  pub record StoreTied (b o : Operand) : Type 0 where
    pub same : (q r : Option ℕ) (a c k l : Kind) (t u : Ty) → Made q a c → Made r k l → element_type a ≡ Some t → element_type c ≡ Some u → may_held b q ≡ true
        → may_held o r ≡ true
        → is_subtype P (own_type k) t ≡ is_subtype W (own_type l) u

  -- what the part of the body m gives; c is the class of the new body
  abbrev pub Ties : ℕ → ℕ → Part → Type 0
  Ties m c (a_load p b (Some f) o) = FieldTiedIf b f
  Ties m c (a_creation p u o s d es) = CreationTied o × MakerTied o s d
  Ties m c (a_call p b (Some s) (Some d) es o) = IsAt b → CallTied b s d
  Ties m c (a_super_call p (Some d) es o) = (x : Body) → R.row_type (row.This m) ≡ Some c
      → ((f : PlainMethod) → slice_get P.methods d ≡ Some f → f.is_static ≡ false) → labelled_body P F S d ≡ Some x
      → Paired x (option_and_then (body_of W) (super_method W c (R.method_name d)))
  Ties m c (a_test p e o) = TestTied e o
  Ties m c (a_store p b (Some f) o) = FieldTiedIf b f
  Ties m c (an_element_store p b o) = IsPointed b → IsPointed o → StoreTied b o
  Ties m c p = Unit {0}

  -- static members are those of the old program
  pub record StaticsTied : Type 0 where
    pub fields : (f j : ℕ) → IsStaticField P W R f j → SameStatic L M link Made Pair f j
    pub methods : (d n : ℕ) → IsStaticMethod P W R d n → BothPair L M link Made Pair (L.static_body d) (M.static_body n)

  -- what the twin of a body rests on: the body m, which is k, and what its copy sees
  pub record BodyTied (m : ℕ) (k : PlainMethod) (h : Env) : Type 0 where
    pub numbered : (i : RowItem) (r : ℕ) → row_number P i ≡ Some r → (c : ℕ) × (R.row_type i ≡ Some c)
    pub statics : StaticsTied
    pub self : k.is_static ≡ false → R.row_type (row.This m) ≡ Some h.self
    -- a copy of an expression has its type, over the class of its row
    pub copied : (u : Bool) (sc : List ℕ) (e d : Ex) → Typed P (env_of m k) e → FormedEx P k sc e
        → ((p : Part) → Contains (parts P (type_in P m k) m k u e) p → Contains (parts_of P m k) p) → Matches P W R (env_of m k) e d
        → static W h d ≡ retyped_static (new_class P W R (row_of P (type_in P m k) m k e)) (static P (env_of m k) e)
    pub at : (u : Bool) (e : Ex) → ((p : Part) → Contains (parts P (type_in P m k) m k u e) p → Contains (parts_of P m k) p)
        → IsAt (operand_of P (type_in P m k) m k e)
    pub at_this : IsAt (this_operand m k)
    -- no class of the new program has a constructor
    pub bare : (c : ℕ) → maker_slot W c ≡ None
    pub kinded : (p : Part) → Contains (parts_of P m k) p → IsKindedPart P F m k p
    pub ties : (p : Part) → Contains (parts_of P m k) p → Ties m h.self p
