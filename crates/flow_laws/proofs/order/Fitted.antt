-- What typing gives of each part of a body: what is put somewhere has a type at or below that of the place.
use Rattle.std.proofs.Common.{◌≡◌, ℕ, zero, suc, List, [], ◌∷◌, ◌++◌, Option, Some, length, refl, sym, ap, ◌∙◌, subst, arith, None}
use Rattle.std.specs.Prelude.{◌<◌, nat_lt, Bool, true, false, Contains, slice_get, option_and_then, ◌||◌}
use Rattle.std.proofs.lemmas.Option.{same_Some}
use Rattle.std.proofs.lemmas.List.{length-map}
use Rattle.java_core.specs.declared.Ty.{Ty}
use Rattle.java_core.specs.Trees.{Tag, Ex, Exs, no_ex, ex_then, this, local, static_field, own_field, field, index, call, static_call, super_call, create, create_array, cast, instance_of, binary, Target, to_local, to_static, to_own, to_field, to_element, no_target}
use Rattle.java_core.specs.Programs.{Plain, PlainMethod}
use Rattle.java_core.specs.Classes.{IsSubclass, super_method, has_body, slot_of, slot_of_method, same_class}
use Rattle.java_core.specs.Types.{Static, a_value, or_nothing, types_of, class_of, class_type, fits_in, field_in, field_type, Signature, call_signature, super_signature, signature_of_method, static, target_type}
use Rattle.java_core.specs.Typing.{IsTyped, TypedTarget, t_this, t_field, t_local, t_static_field, t_index, t_call, t_static_call, t_super_call, t_cast, t_instance_of, t_binary, TypedArgs, t_ex_then, t_to_field, t_to_element, t_create, t_make}
use Rattle.java_core.specs.Formed.{IsFormed, IsOwnField, FormedTarget, f_to_own, f_own_field, f_create, f_create_array, f_cast, f_instance_of}
use Rattle.java_meaning.proofs.Moves.{then_some}
use Rattle.java_meaning.proofs.Calls.{mapped_some}
use Rattle.fact_model.specs.declared.facts.Facts.{Facts}
use Rattle.flow_rules.specs.declared.items.ObjectType.{ObjectType}
use Rattle.flow_rules.specs.declared.items.Operand.{Operand}
use Rattle.flow_rules.specs.declared.items.RowItem.{RowItem}
use Rattle.flow_rules.specs.declared.items.RowItem.TheVariants as row
use Rattle.flow_rules.specs.declared.items.PointItem.TheVariants as point
use Rattle.flow_rules.specs.declared.items.ColumnItem.{ColumnItem}
use Rattle.flow_rules.specs.declared.items.ColumnItem.TheVariants as column
use Rattle.flow_rules.specs.Operands.{object_of, object_if, object_static, object_field, class_at, call_slot, call_declaration, this_operand, test_operand, type_in}
use Rattle.flow_rules.specs.Types.{field_object, slot_object, method_object, variable_object, element_object, object_type}
use Rattle.flow_rules.specs.Parts.{Part, a_load, an_element, a_creation, a_call, a_static_call, a_super_call, a_test, a_pair, a_set, a_store, an_element_store, a_return, is_accessed, parts_assign, parts_of, nothing}
use Rattle.flow_rules.specs.Lists.{is_comparison}
use Rattle.flow_rules.specs.Facts.{owner_of, IsFactsOf}
use Rattle.flow_rules.proofs.TypeLemmas.{class_is, object_field_is, object_or}
use Rattle.flow_laws.proofs.cover.Types.{class_apart, slot_called}
use Rattle.flow_rules.proofs.Listed.{one_from}
use Rattle.flow_laws.proofs.cover.Walked.{walked}
use Rattle.flow_laws.proofs.cover.Each.{left, right, past, here}
use Rattle.flow_laws.proofs.cover.Forms.{own, own_assign, From, from_ex, from_assign, from_declare, from_return, part_from}
use Rattle.flow_laws.proofs.order.Operands.{param_object, front_type}
use Rattle.flow_laws.proofs.order.Above.{field_above, object_field_above, call_above}
use Rattle.flow_laws.proofs.order.Fits.{known_type, known_cast, IsUnder, ArePaired, class_dim, fits_in_under, takes_paired, related_paired, cast_paired}
use Rattle.flow_laws.proofs.order.Classed.{static_as, as_object, many_dims}
use Rattle.flow_laws.proofs.order.Sound.{is_apart, variable_apart, item_type, IsSound, sound, test_sound}
use Rattle.java_core.specs.Makers.{maker_of, maker_slot}
use Rattle.std.specs.Option.{is_some, option_map_or}
use Rattle.flow_laws.proofs.cover.Makers.{own_maker, maker_at, maker_signature}

module _ (P : Plain) (formed : IsFormed P) (typed : IsTyped P) (F : Facts) (facts : IsFactsOf P F) (m : ℕ)
    (k : PlainMethod) (stands : slice_get P.methods m ≡ Some k) where
  open walked P m k use {env as g, type, operand as at, operands, tree, tree_all, Stands, IsTyped as Typed, IsFormed as Formed}

  abbrev pub IsGood : Operand → Type 0
  IsGood o = IsSound P formed typed F facts m k stands o

  -- what an operand gives goes into what has a type
  pub record IsValue (o : Operand) (t : Option ObjectType) : Type 0 where
    pub good : IsGood o
    pub under : (b u : ObjectType) → o.ty ≡ Some b → t ≡ Some u → IsUnder P b u

  abbrev pub AreValues : List Operand → (ℕ → Option ObjectType) → Type 0
  AreValues es ts = (i : ℕ) (a : Operand) → slice_get es i ≡ Some a → IsValue a (ts i)

  pub record IsFittedCall (es : List Operand) (o : Operand) (ts : ℕ → Option ObjectType) (t : Option ObjectType) : Type 0 where
    pub args : AreValues es ts
    pub result : o.ty ≡ t

  abbrev pub is_variable_of : ℕ → ℕ → Option ObjectType
  is_variable_of d i = item_type P (point.Local d i)

  pub record IsFittedReceiver (b : Operand) : Type 0 where
    pub good : IsGood b
    pub object : (t : ObjectType) → b.ty ≡ Some t → t.dim ≡ 0

  -- the member of what is accessed stands at or above its class
  pub record IsBase (b : Operand) (i : ColumnItem) : Type 0 where
    pub good : IsGood b
    pub above : (t : ObjectType) → b.ty ≡ Some t → IsSubclass P t.class.0 (owner_of P i)

  -- the type has a class of the program
  abbrev pub IsKnown : Operand → Type 0
  IsKnown o = (t : ObjectType) → o.ty ≡ Some t → t.class.0 < length P.classes

  -- the body that a super call runs
  pub record IsSuper (d : ℕ) : Type 0 where
    pub name : List ℕ
    pub found : super_method P k.owner name ≡ Some d
    pub bodied : has_body P d ≡ true

  -- the row is that of neither a `this` nor a creation
  abbrev pub IsApart : Operand → Type 0
  IsApart o = (j : RowItem) → o.row ≡ Some j → is_apart j ≡ true

  abbrev pub IsFitted : Part → Type 0
  IsFitted (a_load p b f o) = IsGood o × ((j : ℕ) → f ≡ Some j → IsBase b (column.Fld j) × (o.ty ≡ field_object P j))
  IsFitted (an_element p b o) = IsGood b × IsGood o × (o.ty ≡ element_object b.ty)
  IsFitted (a_creation p u o s d es) = IsGood o × IsKnown o × ((j : ℕ) → s ≡ Some j → IsFittedReceiver o × IsFittedCall es nothing (param_object P j)
      (slot_object P j)) × ((c : ℕ) → d ≡ Some c → IsBase o (column.Dcl c))
  IsFitted (a_call p b s d es o) = IsGood o × ((j : ℕ) → s ≡ Some j → IsFittedReceiver b × IsFittedCall es o (param_object P j) (slot_object P j))
      × ((c : ℕ) → d ≡ Some c → IsBase b (column.Dcl c))
  IsFitted (a_static_call p d es o) = IsGood o × IsFittedCall es o (is_variable_of d) (method_object P d)
  IsFitted (a_super_call p s es o) = IsGood o × ((d : ℕ) → s ≡ Some d → IsSuper d × IsFittedCall es o (is_variable_of d) (method_object P d))
  IsFitted (a_test p e o) = IsGood e × IsGood o × IsApart o × ((b t : ObjectType) → e.ty ≡ Some b → o.ty ≡ Some t → ArePaired P b t) × IsKnown o
  IsFitted (a_pair c l r) = IsGood l × IsGood r × (is_comparison c ≡ true → (b t : ObjectType) → l.ty ≡ Some b → r.ty ≡ Some t → ArePaired P b t)
  IsFitted (a_set v o) = IsGood v × IsApart v × IsValue o v.ty
  IsFitted (a_store p b f o) = (j : ℕ) → f ≡ Some j → IsBase b (column.Fld j) × IsValue o (field_object P j)
  IsFitted (an_element_store p b o) = IsGood b × ((t : ObjectType) → b.ty ≡ Some t → 0 < t.dim) × IsValue o (element_object b.ty)
  IsFitted (a_return o) = IsValue o (object_if k.result)

  abbrev as_type : (e : Ex) → object_static (static P g e) ≡ type e
  as_type e = static_as P formed typed F facts m k stands e

  abbrev of_object : (e : Ex) → object_type P k e ≡ type e
  of_object e = as_object P formed typed F facts m k stands e

  good_at : (u : Bool) (e : Ex) → Typed e → Stands (tree u e) → IsGood (at e)
  good_at u e a w = sound P formed typed F facts m k stands u e a w

  -- a variable stands for itself
  unlisted : {A : Type 0} (q : Part) → Contains [] q → A
  unlisted q c = absurd (omega (arith, c.1))

  -- what fits a type goes into what has it
  value_of : (u : Bool) (e : Ex) (d : Static) (t : Option ObjectType) → Typed e → Stands (tree u e) → fits_in P (static P g e) d
      ≡ true → object_static d ≡ t → IsValue (at e) t
  value_of u e d t a w f h = record {
    good = good_at u e a w;
    under = λ b v x y. fits_in_under P (static P g e) d b v f (as_type e ∙ x) (h ∙ y);
  }

  -- the arguments of a call
  args_values : (u : Bool) (es : Exs) (us : List Ty) → TypedArgs P g es us → Stands (tree_all u es) → (i : ℕ) (a : Operand)
      → slice_get (operands es) i ≡ Some a → (i < length us) × IsValue a (object_if (slice_get us i))
  args_values u no_ex us t w i a e = absurd (cc)
  args_values u (ex_then e es) [] t w i a h = elim t [ ]
  args_values u (ex_then e es) (v ∷ us) (t_ex_then x f y) w zero a h = (
    omega arith,
    subst (λ z. IsValue z (object_of v)) (same_Some _ a h) (value_of u e (a_value v) (object_of v) x (left (tree u e) _ w) f refl),
  )
  args_values u (ex_then e es) (v ∷ us) (t_ex_then x f y) w (suc i) a h =
      let z = args_values u es us y (right (tree u e) _ w) i a h in (omega (arith, z.0), z.1)

  -- the types of the parameters of a method
  method_values : (u : Bool) (es : Exs) (d : ℕ) (s : Signature) → signature_of_method P d ≡ Some s → TypedArgs P g es s.params
      → Stands (tree_all u es) → AreValues (operands es) (is_variable_of d)
  method_values u es d s e t w i a h =
      let z = args_values u es s.params t w i a h in
      let x = mapped_some (λ (k : PlainMethod). record { params = types_of k.params; result = k.result }) (slice_get P.methods d) s e in
      let same : s.params ≡ types_of x.0.params = sym (ap (λ z. z.params) x.2) in
      let here : object_if (slice_get s.params i) ≡ is_variable_of d i =
      ap (λ z. object_if (slice_get z i)) same
      ∙ sym (front_type x.0.params x.0.locals i (subst (λ z. i < z) (ap length same ∙ length-map x.0.params (λ v. v.ty)) z.0))
      ∙ sym (ap (option_and_then (λ k. variable_object k i)) x.1) in
      subst (λ t. IsValue a t) here z.1

  field_as : (e : Ex) (x : List ℕ) → object_field P (type e) x ≡ field_in P (static P g e) x
  field_as e x = ap (λ t. object_field P t x) (sym (as_type e)) ∙ object_field_is P (static P g e) x

  slot_values : (e : Ex) (x : List ℕ) (es : Exs) (s : Signature) (j : ℕ) → call_signature P (static P g e) x ≡ Some s
      → TypedArgs P g es s.params → Stands (tree_all true es) → call_slot P (type e) x ≡ Some j → AreValues (operands es) (param_object P j)
  slot_values e x es s j c t w h i a d =
      let found : option_and_then (λ c. slot_of P c x) (class_of (static P g e)) ≡ Some j = ap (option_and_then (λ c. slot_of P c x))
      (sym (class_is (static P g e))) ∙ ap (λ t. call_slot P t x) (as_type e) ∙ h in
      let y = then_some (λ c. slot_of P c x) (class_of (static P g e)) j found in
      let z = slot_called P (static P g e) x s c (class_apart (static P g e) y.0 y.1).1 in
      let same : z.number ≡ j = same_Some _ _ (sym z.found ∙ found) in
      let v = args_values true es s.params t w i a d in
      subst (λ t. IsValue a t) (ap (λ us. object_if (slice_get us i)) z.params
      ∙ sym (ap (λ o. object_if (option_and_then (λ z. slice_get z.params i) o)) z.stands) ∙ ap (λ q. param_object P q i) same) v.1

  object_called : (e : Ex) (x : List ℕ) (j : ℕ) → call_slot P (type e) x ≡ Some j → (t : ObjectType) → type e ≡ Some t → t.dim ≡ 0
  object_called e x j h t d =
      let y = then_some (λ c. slot_of P c x) (class_at t) j (sym (ap (λ t. call_slot P t x) d) ∙ h) in (class_dim t y.0 y.1).1

  apart_as : (o : Operand) (i : RowItem) → o.row ≡ Some i → is_apart i ≡ true → IsApart o
  apart_as o i e h j d = ap is_apart (same_Some j i (sym d ∙ e)) ∙ h

  super_as : (x : List ℕ) (d : ℕ) (s : Signature) → super_method P k.owner x ≡ Some d → super_signature P k.owner x ≡ Some s
      → signature_of_method P d ≡ Some s
  unfolding super_signature
  super_as x d s h v = ap (option_and_then (signature_of_method P)) (sym h) ∙ v

  this_good : IsGood (this_operand m k)
  unfolding type_in
  this_good = good_at false (this (record { label = 0; place = record { at = 0; line = 0 } })) t_this (λ q c. unlisted q c)

  own_base : (i j : ℕ) → IsOwnField P k.owner i → Some i ≡ Some j → IsBase (this_operand m k) (column.Fld j)
  own_base i j y h = record {
    good = this_good;
    above = λ t e. subst (λ z. IsSubclass P z (owner_of P (column.Fld j))) (ap (λ z. z.class.0) (same_Some _ t e))
        (subst (λ z. IsSubclass P k.owner (owner_of P (column.Fld z))) (same_Some i j h) (field_above P formed k.owner i y.member.name y.nearest));
  }

  field_base : (u : Bool) (e : Ex) (x : List ℕ) (j : ℕ) → Typed e → Stands (tree u e) → object_field P (type e) x ≡ Some j → IsBase (at e) (column.Fld j)
  field_base u e x j a w h = record {
    good = good_at u e a w;
    above = λ t i. object_field_above P formed t x j (ap (λ t. object_field P t x) (sym i) ∙ h);
  }

  -- a creation is of its class
  is_new : (t : Tag) (i d : ℕ) (es : Exs) → (at (create t i d es)).ty ≡ Some (record { class = record { 0 = d }; dim = 0 })
  unfolding type_in
  is_new t i d es = refl

  -- the constructor of a class takes what its slot says
  maker_values : (c d j : ℕ) (es : Exs) (s : Signature) → maker_of P c ≡ Some d → signature_of_method P d ≡ Some s → TypedArgs P g es s.params
      → maker_slot P c ≡ Some j → Stands (tree_all (is_some (maker_of P c)) es) → IsFittedCall (operands es) nothing (param_object P j) (slot_object P j)
  maker_values c d j es s e called t h w =
      let k = maker_at P formed c d j e h in
      record {
        args = λ i a v. subst (λ z. IsValue a z) (ap (λ us. object_if (slice_get us i)) (maker_signature P c d j k s called)
            ∙ sym (ap (λ o. object_if (option_and_then (λ z. slice_get z.params i) o)) k.slot_stands)) (args_values _ es s.params t w i a v).1;
        result = sym (ap (λ o. object_if (option_and_then (λ z. z.result) o)) k.slot_stands ∙ ap object_if k.result);
      }

  made_values : (t : Tag) (i c : ℕ) (es : Exs) (j : ℕ) → Typed (create t i c es) → maker_slot P c ≡ Some j
      → Stands (tree_all (is_some (maker_of P c)) es) → IsFittedCall (operands es) nothing (param_object P j) (slot_object P j)
  made_values t i c es j (t_create a b) h w =
      absurd (let z = sym (ap (option_and_then (slot_of_method P)) b) ∙ h in cc)
  made_values t i c es j (t_make a b s v) h w = maker_values c _ j es _ b s v h w

  -- and is its own
  maker_above : (c d : ℕ) → maker_of P c ≡ Some d → IsSubclass P c (owner_of P (column.Dcl d))
  maker_above c d e =
      let k = own_maker P c d e in
      subst (λ z. IsSubclass P c z) (sym k.owner ∙ sym (ap (λ y. option_map_or (λ k. k.owner) y 0) k.stands)) same_class

  is : (q p : Part) → Contains (q ∷ []) p → IsFitted q → IsFitted p
  is q p c n = subst (λ z. IsFitted z) (one_from q p c) n

  -- the part of a form
  form_fitted : {scope : List ℕ} (u : Bool) (e : Ex) (p : Part) → Typed e → Formed scope e → Stands (tree u e) → Contains (own P m k u e) p → IsFitted p
  form_fitted u (own_field t i) p a (f_own_field x y) w c =
      is _ p c (
        good_at u (own_field t i) a w,
        (λ j h. (own_base i j y h, sym (of_object (own_field t i)) ∙ ap (field_object P) (same_Some i j h))),
      )
  form_fitted u (field t e x) p (t_field a b) f w c =
      is (a_load t.place (at e) (object_field P (type e) x) (at (field t e x))) p c (
        good_at u (field t e x) (t_field a b) w,
        (λ j h. (
          field_base (is_accessed e) e x j a (left (tree (is_accessed e) e) _ w) h,
          sym (of_object (field t e x)) ∙ ap (λ t. option_and_then (field_object P) (object_field P t x)) (of_object e)
              ∙ ap (option_and_then (field_object P)) h,
        )),
      )
  form_fitted u (index t e i) p (t_index a b d v) f w c =
      is (an_element t.place (at e) (at (index t e i))) p c (
        good_at true e a (left (tree true e) _ w),
        good_at u (index t e i) (t_index a b d v) w,
        sym (of_object (index t e i)) ∙ ap element_object (of_object e),
      )
  form_fitted u (call t e x es) p (t_call a b d) f w c =
      is (a_call t.place (at e) (call_slot P (type e) x) (call_declaration P (type e) x) (operands es) (at (call t e x es))) p c (
        good_at u (call t e x es) (t_call a b d) w,
        (λ j h. (
          record { good = good_at true e a (left (tree true e) _ w); object = object_called e x j h },
          record {
            args = slot_values e x es _ j b d (past _ _ (right (tree true e) _ w)) h;
            result = sym (of_object (call t e x es)) ∙ ap (λ t. option_and_then (slot_object P) (call_slot P t x)) (of_object e)
                ∙ ap (option_and_then (slot_object P)) h;
          },
        )),
        (λ j h. record {
          good = good_at true e a (left (tree true e) _ w);
          above = λ y i. call_above P formed y x j (ap (λ t. call_declaration P t x) (sym i) ∙ h);
        }),
      )
  form_fitted u (static_call t d es) p (t_static_call a b) f w c =
      is (a_static_call t.place d (operands es) (at (static_call t d es))) p c (
        good_at u (static_call t d es) (t_static_call a b) w,
        record {
          args = method_values false es d _ a b (past _ _ w);
          result = sym (of_object (static_call t d es));
        },
      )
  form_fitted u (super_call t x es) p (t_super_call a b v y) f w c =
      is (a_super_call t.place (super_method P k.owner x) (operands es) (at (super_call t x es))) p c (
        good_at u (super_call t x es) (t_super_call a b v y) w,
        (λ d h. (
          record { name = x; found = h; bodied = subst (λ i. has_body P i ≡ true) (same_Some _ d (sym a ∙ h)) b },
          record {
            args = method_values false es d _ (super_as x d _ h v) y (past _ _ w);
            result = sym (of_object (super_call t x es)) ∙ ap (option_and_then (method_object P)) h;
          },
        )),
      )
  form_fitted u (create t i d es) p a (f_create x y) w c =
      let new = is_new t i d es in
      is (a_creation t.place (u || is_some (maker_of P d)) (at (create t i d es)) (maker_slot P d) (maker_of P d) (operands es)) p c (
        good_at u (create t i d es) a w,
        (λ s h. subst (λ z. z.class.0 < length P.classes) (same_Some _ s (of_object (create t i d es) ∙ h)) x),
        (λ j h. (
          record { good = good_at u (create t i d es) a w; object = λ y e. ap (λ z. z.dim) (same_Some y _ (sym e ∙ new)) },
          made_values t i d es j a h (past _ _ w),
        )),
        (λ j h. record {
          good = good_at u (create t i d es) a w;
          above = λ y e. subst (λ z. IsSubclass P z.class.0 (owner_of P (column.Dcl j))) (same_Some _ y (sym new ∙ e)) (maker_above d j h);
        }),
      )
  form_fitted u (create_array t i v e) p a (f_create_array x y z) w c =
      is (a_creation t.place u (at (create_array t i v e)) None None []) p c (
        good_at u (create_array t i v e) a w,
        (λ s h. known_type P v s x (of_object (create_array t i v e) ∙ h)),
        (λ j h. absurd (cc)),
        (λ j h. absurd (cc)),
      )
  form_fitted u (cast t i v e) p (t_cast a b) (f_cast x y) w c =
      is (a_test t.place (at e) (at (cast t i v e))) p c (
        good_at true e a (past _ _ w),
        good_at u (cast t i v e) (t_cast a b) w,
        apart_as (at (cast t i v e)) (row.Cast i) refl refl,
        (λ s d p q. cast_paired P (static P g e) v s d b (as_type e ∙ p) (of_object (cast t i v e) ∙ q)),
        (λ s h. known_cast P v s x (of_object (cast t i v e) ∙ h)),
      )
  form_fitted u (instance_of t i e d) p (t_instance_of a b) (f_instance_of x y) w c =
      let o = test_operand m t i d in
      let there = here (a_test t.place (at e) o) [] (right (tree true e) _ w) in
      is (a_test t.place (at e) o) p c (
        good_at true e a (left (tree true e) _ w),
        test_sound P formed typed F facts m k stands (a_test t.place (at e) o) o i t.label there refl refl refl refl refl,
        apart_as o (row.Test i) refl refl,
        (λ s v p q. related_paired P (static P g e) (a_value (class_type d)) s v b (as_type e ∙ p) q),
        (λ s h. subst (λ z. z.class.0 < length P.classes) (same_Some _ s h) y),
      )
  form_fitted u (binary t o e d) p (t_binary a b v) f w c =
      let both = left (tree false e ++ tree false d) _ w in
      is (a_pair o (at e) (at d)) p c (
        good_at false e a (left (tree false e) (tree false d) both),
        good_at false d b (right (tree false e) (tree false d) both),
        (λ y s x q h. takes_paired P o (static P g e) (static P g d) s x v y (as_type e ∙ q) (as_type d ∙ h)),
      )
  form_fitted u e p a f w c = unlisted p c

  -- an assignment
  local_fitted : (t : Tag) (i : ℕ) (e : Ex) → Typed e → Stands (tree false e) → fits_in P (static P g e) (target_type P g (to_local t i)) ≡ true
      → IsFitted (a_set (at (local t i)) (at e))
  local_fitted t i e a w f = (
    good_at false (local t i) t_local (λ q c. unlisted q c),
    apart_as (at (local t i)) _ refl (variable_apart k.slot (nat_lt i (length k.params)) m i),
    value_of false e _ _ a w f (as_type (local t i)),
  )

  assign_fitted : {scope : List ℕ} (t : Tag) (b : Target) (e : Ex) (p : Part) → TypedTarget P g b → Typed e
      → fits_in P (static P g e) (target_type P g b) ≡ true → FormedTarget P k scope b → Stands (parts_assign P type m k t.place b e)
      → Contains (own_assign P m k t.place b e) p → IsFitted p
  assign_fitted t (to_local s i) e p x a f d w c = is _ p c (local_fitted s i e a (left (tree false e) _ w) f)
  assign_fitted t (to_static s i) e p x a f d w c =
      is (a_set (at (static_field s i)) (at e)) p c (
        good_at false (static_field s i) t_static_field (λ q c. unlisted q c),
        apart_as (at (static_field s i)) (row.Field i) refl refl,
        value_of false e _ _ a (left (tree false e) _ w) f (as_type (static_field s i)),
      )
  assign_fitted t (to_own s i) e p x a f (f_to_own v y) w c =
      is (a_store t.place (this_operand m k) (Some i) (at e)) p c
      (λ j h. (
        own_base i j y h,
        value_of true e _ _ a (left (tree true e) _ w) f
            (as_type (own_field s i) ∙ sym (of_object (own_field s i)) ∙ ap (field_object P) (same_Some i j h)),
      ))
  assign_fitted t (to_field s b x) e p (t_to_field v y) a f d w c =
      let both = left (tree (is_accessed b) b ++ tree true e) _ w in
      is (a_store t.place (at b) (object_field P (type b) x) (at e)) p c
      (λ j h. (
        field_base (is_accessed b) b x j v (left (tree (is_accessed b) b) (tree true e) both) h,
        value_of true e _ (field_object P j) a (right (tree (is_accessed b) b) (tree true e) both) f
            (ap (λ o. object_static (or_nothing (option_and_then (field_type P) o))) (sym (field_as b x) ∙ h) ∙ object_or (field_type P j)),
      ))
  assign_fitted t (to_element s b i) e p (t_to_element v y z h) a f d w c =
      let one = tree true b in
      let two = tree false i in
      let three = tree true e in
      let all = left ((one ++ two) ++ three) _ w in
      is (an_element_store t.place (at b) (at e)) p c (
        good_at true b v (left one two (left (one ++ two) three all)),
        many_dims P formed typed F facts m k stands b y,
        value_of true e _ _ a (right (one ++ two) three all) f
            (as_type (index s b i) ∙ sym (of_object (index s b i)) ∙ ap element_object (of_object b)),
      )
  assign_fitted t no_target e p x a f d w c = elim x [ ]

  from_fitted : (p : Part) → From P m k p → IsFitted p
  from_fitted p (from_ex u e a f w c) = form_fitted u e p a f w c
  from_fitted p (from_assign t b e x a f d w c) = assign_fitted t b e p x a f d w c
  from_fitted p (from_declare t i e a f w c) = is _ p c (local_fitted t i e a w f)
  from_fitted p (from_return {u} e a r f w c) = is _ p c (value_of false e (a_value u) _ a w f (ap object_if (sym r)))

  -- each part of a typed body
  pub part_fitted : (p : Part) → Contains (parts_of P m k) p → IsFitted p
  part_fitted p c = from_fitted p (part_from P formed typed m k stands p c)
