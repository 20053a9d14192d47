-- What each part of a body asks of the new program, and what is known of the body's rows.
use Rattle.std.specs.Prelude.{◌≡◌, ℕ, suc, true, false, List, [], ◌∷◌, Option, Some, None, slice_get}
use Rattle.java_core.specs.declared.Ty.{Ty}
use Rattle.java_core.specs.Programs.{Plain, PlainField, PlainMethod, PlainSlot}
use Rattle.java_core.specs.Classes.{member_field, slot_of, slot_of_method, super_method, has_body, is_concrete}
use Rattle.java_core.specs.Makers.{HasNoMaker}
use Rattle.java_core.specs.Types.{Env, env_of, types_of, field_type, Signature, signature_of_slot, signature_of_method}
use Rattle.flow_rules.specs.declared.items.ObjectType.{ObjectType}
use Rattle.flow_rules.specs.declared.items.Operand.{Operand}
use Rattle.flow_rules.specs.declared.items.RowItem.{RowItem}
use Rattle.flow_rules.specs.declared.items.RowItem.TheVariants as row
use Rattle.flow_rules.specs.Operands.{variable_row, result_in}
use Rattle.flow_rules.specs.Numbered.{row_number}
use Rattle.flow_rules.specs.Parts.{Part, a_load, an_element, a_creation, a_call, a_static_call, a_super_call, a_test, a_pair, a_set, a_store, an_element_store, a_return}
use Rattle.flow_rules.specs.Lists.{is_comparison}
use Rattle.rebuild_model.specs.Renaming.{Renaming, retyped, retyped_if}
use Rattle.rebuild_model.specs.Matches.{IsStaticField, IsStaticMethod}
use Rattle.rebuild_laws.proofs.types.Retyped.{AreNearIf, IsUnder}

-- types with the classes that a number each gives
abbrev pub retypes : (ℕ → Option ℕ) → List Ty → List Ty
retypes p [] = []
retypes p (t ∷ ts) = retyped (p 0) t ∷ retypes (λ i. p (suc i)) ts

abbrev pub new_signature : (ℕ → Option ℕ) → Option ℕ → List Ty → Option Ty → Signature
new_signature p r ts t = record { params = retypes p ts; result = retyped_if r t }

-- P is the old program, W the new one; k is the method m, and h what its new body sees
module _ (P W : Plain) (R : Renaming) where
  abbrev pub new_class : Option RowItem → Option ℕ
  new_class None = None
  new_class (Some i) = R.row_type i

  -- what a method takes and gives
  abbrev pub method_signature : ℕ → PlainMethod → Signature
  method_signature d k = new_signature (λ i. R.row_type (variable_row d k i)) (R.row_type (result_in k.slot d)) (types_of k.params) k.result

  abbrev pub slot_signature : ℕ → PlainSlot → Signature
  slot_signature s k = new_signature (λ i. R.row_type (row.Param s i)) (R.row_type (row.Return s)) k.params k.result

  -- the old field f is found at a class
  pub record FindsField (c f : ℕ) : Type 0 where
    pub number : ℕ
    pub found : member_field W c (R.field_name f) ≡ Some number
    pub type : field_type W number ≡ retyped_if (R.row_type (row.Field f)) (field_type P f)

  abbrev pub HasField : Operand → ℕ → Type 0
  HasField o f = (w : PlainField) → slice_get P.fields f ≡ Some w → w.is_static ≡ false → (c : ℕ) → new_class o.row ≡ Some c → FindsField c f

  -- the slot s is found at a class, by the new name of the old method d
  pub record FindsSlot (c s d : ℕ) : Type 0 where
    pub number : ℕ
    pub found : slot_of W c (R.method_name d) ≡ Some number
    pub type : (k : PlainSlot) → slice_get P.slots s ≡ Some k → signature_of_slot W number ≡ Some (slot_signature s k)

  abbrev pub HasSlot : Operand → ℕ → ℕ → Type 0
  HasSlot o s d = slot_of_method P d ≡ Some s → (c : ℕ) → new_class o.row ≡ Some c → FindsSlot c s d

  -- the body of the old method d is found strictly above a class
  pub record FindsSuper (c d : ℕ) : Type 0 where
    pub number : ℕ
    pub found : super_method W c (R.method_name d) ≡ Some number
    pub bodied : has_body W number ≡ true
    pub type : (k : PlainMethod) → slice_get P.methods d ≡ Some k → signature_of_method W number ≡ Some (method_signature d k)

  -- each argument's class is at or below that of its parameter
  abbrev pub ArgsFit : (ℕ → RowItem) → List Operand → Type 0
  ArgsFit p es = (i : ℕ) (o : Operand) → slice_get es i ≡ Some o → IsUnder W (new_class o.row) (R.row_type (p i))

  -- what a part of a body asks; c is the class of the new body
  module _ (m : ℕ) (k : PlainMethod) (c : ℕ) where
    abbrev pub Serves : Part → Type 0
    Serves (a_load p b (Some f) o) = HasField b f
    Serves (a_load p b None o) = Unit {0}
    Serves (an_element p b o) = Unit {0}
    Serves (a_creation p u o None d es) = (n : ℕ) → o.created ≡ Some n → (t : ObjectType) → o.ty ≡ Some t → t.dim ≡ 0
        → (a : ℕ) → new_class o.row ≡ Some a
        → is_concrete W a ≡ true
    Serves (a_creation p u o (Some s) d es) = ArgsFit (row.Param s) es
    Serves (a_call p b (Some s) (Some d) es o) = HasSlot b s d × ArgsFit (row.Param s) es
    Serves (a_call p b (Some s) None es o) = Unit {0}
    Serves (a_call p b None d es o) = Unit {0}
    Serves (a_static_call p d es o) = (f : PlainMethod) → slice_get P.methods d ≡ Some f → ArgsFit (variable_row d f) es
    Serves (a_super_call p (Some d) es o) = (k.is_static ≡ false → has_body P d ≡ true → (f : PlainMethod) → slice_get P.methods d ≡ Some f
        → f.is_static ≡ false → FindsSuper c d) × ((f : PlainMethod) → slice_get P.methods d ≡ Some f → ArgsFit (variable_row d f) es)
    Serves (a_super_call p None es o) = Unit {0}
    Serves (a_test p e o) = AreNearIf W e.ty o.ty (new_class e.row) (new_class o.row)
    Serves (a_pair o l r) = is_comparison o ≡ true → AreNearIf W l.ty r.ty (new_class l.row) (new_class r.row)
    Serves (a_set v o) = IsUnder W (new_class o.row) (new_class v.row)
    Serves (a_store p b (Some f) o) = HasField b f × IsUnder W (new_class o.row) (R.row_type (row.Field f))
    Serves (a_store p b None o) = Unit {0}
    Serves (an_element_store p b o) = IsUnder W (new_class o.row) (new_class b.row)
    Serves (a_return o) = IsUnder W (new_class o.row) (R.row_type (result_in k.slot m))

  -- rows have classes, and static members are found with the types of theirs
  pub record AreRenewed : Type 0 where
    pub numbered : (i : RowItem) (r : ℕ) → row_number P i ≡ Some r → (c : ℕ) × (R.row_type i ≡ Some c)
    pub no_maker : HasNoMaker W
    pub static_fields : (f g : ℕ) → IsStaticField P W R f g → field_type W g ≡ retyped_if (R.row_type (row.Field f)) (field_type P f)
    pub static_methods : (d g : ℕ) → IsStaticMethod P W R d g → (k : PlainMethod) → slice_get P.methods d ≡ Some k
        → signature_of_method W g ≡ Some (method_signature d k)

  -- what a new body sees is what the old one does, in the classes of its rows
  pub record SeesNew (m : ℕ) (k : PlainMethod) (h : Env) : Type 0 where
    pub self : k.is_static ≡ false → R.row_type (row.This m) ≡ Some h.self
    pub locals : (i : ℕ) → slice_get h.locals i ≡ retyped_if (R.row_type (variable_row m k i)) (slice_get (env_of m k).locals i)
    pub result : h.result ≡ retyped_if (R.row_type (result_in k.slot m)) k.result
