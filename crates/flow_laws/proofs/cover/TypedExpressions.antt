-- Each part of a typed expression is kinded.
use Rattle.std.proofs.Common.{◌≡◌, ℕ, List, [], ◌∷◌, Option, Some, None, length, refl, sym, ap, ◌∙◌, subst, arith, option_and_then}
use Rattle.std.specs.Prelude.{◌<◌, Bool, true, slice_get, Contains, ◌||◌}
use Rattle.std.specs.Option.{option_map, is_some}
use Rattle.std.proofs.lemmas.Option.{same_Some}
use Rattle.kaba_base.specs.declared.Place.{Place}
use Rattle.java_core.specs.declared.Ty.{Ty}
use Rattle.java_core.specs.Trees.{Tag, Ex, Exs, own_field, field, index, call, static_call, super_call, create, create_array, cast, instance_of, binary}
use Rattle.java_core.specs.Programs.{PlainMethod}
use Rattle.java_core.specs.Classes.{super_method, slot_of, slot_of_method}
use Rattle.java_core.specs.Types.{a_value, types_of, class_of, element_of, Signature, signature_of_method, call_signature, super_signature, static}
use Rattle.java_core.specs.Typing.{TypedArgs, t_index, t_call, t_static_call, t_super_call, t_create, t_make}
use Rattle.java_core.specs.Formed.{IsStaticMethod, f_field, f_index, f_static_call, f_create_array}
use Rattle.flow_rules.specs.declared.items.ObjectType.{ObjectType}
use Rattle.flow_rules.specs.declared.items.Operand.{Operand}
use Rattle.flow_rules.specs.declared.items.RowItem.{RowItem}
use Rattle.flow_rules.specs.declared.items.RowItem.TheVariants as row
use Rattle.flow_rules.specs.declared.items.PointItem.TheVariants as point
use Rattle.flow_rules.specs.Operands.{object_if, object_field, call_slot, call_declaration, operands_of, type_in}
use Rattle.flow_rules.specs.Types.{variable_object}
use Rattle.flow_rules.specs.Parts.{Part, a_load, an_element, a_creation, a_call, a_static_call, a_super_call, a_test, a_pair, is_accessed, parts_of}
use Rattle.java_core.specs.declared.BinOp.{BinOp}
use Rattle.flow_rules.specs.Numbered.{own_row, number_if, row_number}
use Rattle.flow_rules.specs.Facts.{numbers}
use Rattle.java_meaning.proofs.Moves.{then_some}
use Rattle.flow_laws.proofs.cover.Kinded.{HasPoint, IsCreation, IsBase, IsKindedPart, IsKindedMaker}
use Rattle.flow_laws.proofs.cover.HasRows.{field_row_of, in_slot, return_row, this_point_of}
use Rattle.flow_laws.proofs.cover.Types.{element_typed, class_apart, class_dim, slot_called}
use Rattle.flow_rules.proofs.Listed.{one_from}
use Rattle.flow_laws.proofs.cover.Each.{left, right, here}
use Rattle.flow_laws.proofs.cover.Forms.{own}
use Rattle.flow_laws.proofs.cover.TypedParts as typed_parts
use Rattle.flow_laws.proofs.cover.TypedParts.{TypedBody}
use Rattle.flow_laws.proofs.cover.Walked.{walked}
use Rattle.java_core.specs.Makers.{maker_of, maker_slot}
use Rattle.flow_laws.proofs.cover.Makers.{maker_at, maker_signature}

module _ (B : TypedBody) where
  open B use {program as P, facts as F, formed, number as m, method as k}
  open walked P m k use {env as g, type as T, operand as O, Stands, IsTyped, IsFormed as IsFormedEx, tree}

  creation_there : (u : Bool) (t : Tag) (n c : ℕ) (es : Exs) → Stands (tree u (create t n c es))
      → IsCreation P F (u || is_some (maker_of P c)) (O (create t n c es))
  creation_there u t n c es st = typed_parts.is_creation B t.place (u || is_some (maker_of P c)) (O (create t n c es)) _ _ _ n (point.Expr m t.label)
      (here _ _ st) refl refl refl

  array_there : (u : Bool) (t : Tag) (n : ℕ) (v : Ty) (e : Ex) → Stands (tree u (create_array t n v e)) → IsCreation P F u (O (create_array t n v e))
  array_there u t n v e st = typed_parts.is_creation B t.place u (O (create_array t n v e)) _ _ _ n (point.Expr m t.label) (here _ _ st) refl refl refl

  array_field : (t : Tag) (n : ℕ) (v : Ty) (e : Ex) (x : List ℕ) (f : ℕ) → 0 < v.dim → object_field P (T (create_array t n v e)) x ≡ Some f → ⊥
  array_field t n v e x f d h =
      let c = typed_parts.field_class B (a_value v) x f (sym (typed_parts.field_found B (create_array t n v e) x) ∙ h) in class_dim v.base v.dim c.0 d c.1

  pub base_point : (sc : List ℕ) (e : Ex) (x : List ℕ) (f : ℕ) → IsFormedEx sc e → Stands (tree (is_accessed e) e) → object_field P (T e) x ≡ Some f
      → IsBase P F (O e)
  unfolding IsBase
  base_point sc (create t n c es) x f fo st h = λ j s ej es2. (creation_there true t n c es st).point refl j s ej es2
  base_point sc (create_array t n v e) x f (f_create_array ty d fe) st h = absurd (array_field t n v e x f d h)
  base_point sc e x f fo st h = λ j s ej es. absurd (cc)

  load_kind : (sc : List ℕ) (t : Tag) (e : Ex) (x : List ℕ) → IsFormedEx sc e → Stands (tree (is_accessed e) e)
      → Contains (parts_of P m k) (a_load t.place (O e) (object_field P (T e) x) (O (field t e x)))
      → IsKindedPart P F m k (a_load t.place (O e) (object_field P (T e) x) (O (field t e x)))
  unfolding IsKindedPart
  load_kind sc t e x fo st there = go (object_field P (T e) x) refl
    where
      go : (z : Option ℕ) → object_field P (T e) x ≡ z → IsKindedPart P F m k (a_load t.place (O e) z (O (field t e x)))
      go None h = tt
      go (Some f) h = record {
        base = base_point sc e x f fo st h;
        gives = λ o ho. typed_parts.is_point B (a_load t.place (O e) (object_field P (T e) x) (O (field t e x)))
            t.place (O (field t e x)) (point.Expr m t.label) o
            there (λ y d. d) refl (typed_parts.access_object B t e x f h ∙ ho)
            (let r = field_row_of P formed f o ho in (r.0, ap (λ z. number_if (row_number P) (option_map row.Field z)) h ∙ r.1));
      }

  own_load_kind : (t : Tag) (f : ℕ) (b : Operand) → b.created ≡ None → Contains (parts_of P m k) (a_load t.place b (Some f) (O (own_field t f)))
      → IsKindedPart P F m k (a_load t.place b (Some f) (O (own_field t f)))
  unfolding IsKindedPart IsBase
  own_load_kind t f b eb there = record {
    base = λ j s ej es. absurd (let z = sym eb ∙ ej in cc);
    gives = λ o ho. typed_parts.is_point B (a_load t.place b (Some f) (O (own_field t f))) t.place (O (own_field t f)) (point.Expr m t.label) o there
        (λ y d. d) refl (typed_parts.own_type B t f ∙ ho) (field_row_of P formed f o ho);
  }

  element_kind : (sc : List ℕ) (t : Tag) (e i : Ex) → IsTyped e → IsFormedEx sc e → is_some (element_of (static P g e)) ≡ true
      → Stands (tree true e) → Contains (parts_of P m k) (an_element t.place (O e) (O (index t e i)))
      → IsKindedPart P F m k (an_element t.place (O e) (O (index t e i)))
  unfolding IsKindedPart
  element_kind sc t e i ty fo some st there = λ o ho.
      let r = element_typed (static P g e) o (typed_parts.typed_of B e o ho) some in
      typed_parts.is_point B (an_element t.place (O e) (O (index t e i))) t.place (O (index t e i)) (point.Expr m t.label) r.0 there (λ y d. d) refl
      (typed_parts.index_type B t e i ∙ r.1) (typed_parts.row_listed B true sc e ty fo st o ho)

  -- arguments
  method_args : (es : Exs) (us : List Ty) (h : PlainMethod) → TypedArgs P g es us → us ≡ types_of h.params
      → (i : ℕ) (a : Operand) (t : ObjectType) → slice_get (operands_of P (type_in P m k) m k es) i ≡ Some a → a.ty ≡ Some t → (w : ObjectType)
      × (variable_object h i ≡ Some w) × (i < length h.params)
  method_args es us h ty e i a t ea et = let u = typed_parts.args_typed B es us ty i a t ea et in
      typed_parts.param_typed B h i u.0 u.2.0 (ap (λ z. slice_get z i) (sym e) ∙ u.1) u.2.1

  call_kind : (t : Tag) (e : Ex) (x : List ℕ) (es : Exs) (sig : Signature) → call_signature P (static P g e) x ≡ Some sig
      → TypedArgs P g es sig.params
      → Contains (parts_of P m k) (a_call t.place (O e) (call_slot P (T e) x) (call_declaration P (T e) x) (operands_of P (type_in P m k) m k es)
      (O (call t e x es)))
      → IsKindedPart P F m k (a_call t.place (O e) (call_slot P (T e) x) (call_declaration P (T e) x) (operands_of P (type_in P m k) m k es)
      (O (call t e x es)))
  unfolding IsKindedPart
  call_kind t e x es sig called args there = go (call_slot P (T e) x) refl
    where
      go : (z : Option ℕ) → call_slot P (T e) x ≡ z
          → IsKindedPart P F m k (a_call t.place (O e) z (call_declaration P (T e) x) (operands_of P (type_in P m k) m k es) (O (call t e x es)))
      go None h = tt
      go (Some j) h = λ c f ef sf.
          let w = sym (typed_parts.slot_found B e x) ∙ h in
          let cl = then_some (λ c. slot_of P c x) (class_of (static P g e)) j w in
          let s = slot_called P (static P g e) x sig called (class_apart (static P g e) cl.0 cl.1).1 in
          let n : s.number ≡ j = same_Some s.number j (sym s.found ∙ w) in
          let i = in_slot P formed c f ef j sf in
          let same : s.slot ≡ i.slot = same_Some s.slot i.slot (sym s.stands ∙ ap (λ z. slice_get P.slots z) n ∙ i.stands) in
          record {
            args = method_args es sig.params f args (s.params ∙ ap (λ z. z.params) same ∙ sym i.params);
            result = λ o ho. typed_parts.is_point B (a_call t.place (O e) (call_slot P (T e) x)
                (call_declaration P (T e) x) (operands_of P (type_in P m k) m k es)
                (O (call t e x es))) t.place (O (call t e x es)) (point.Expr m t.label) o there (λ y d. d) refl (typed_parts.call_type B t e x es sig called
                ∙ ap (λ z. object_if z) (s.result ∙ ap (λ z. z.result) same ∙ sym i.result) ∙ ho)
                (let r = return_row P formed j i.slot o i.stands (ap (λ z. object_if z) (sym i.result) ∙ ho) in
                (r.0, ap (λ z. number_if (row_number P) (option_map row.Return z)) h ∙ r.1));
          }

  static_kind : (t : Tag) (d : ℕ) (es : Exs) (sig : Signature) → signature_of_method P d ≡ Some sig → TypedArgs P g es sig.params
      → IsStaticMethod P d → Contains (parts_of P m k) (a_static_call t.place d (operands_of P (type_in P m k) m k es) (O (static_call t d es)))
      → IsKindedPart P F m k (a_static_call t.place d (operands_of P (type_in P m k) m k es) (O (static_call t d es)))
  unfolding IsKindedPart
  static_kind t d es sig called args s there = λ h eh.
      let f = typed_parts.method_sig B d sig called in
      let same : f.0 ≡ h = same_Some f.0 h (sym f.1 ∙ eh) in
      record {
        args = method_args es sig.params h args (f.2 ∙ ap (λ z. types_of z.params) same);
        result = λ o ho.
            let et = typed_parts.static_call_type B t d es sig called ∙ ap (λ z. object_if z) (f.3 ∙ ap (λ z. z.result) same) ∙ ho in
            typed_parts.is_point B (a_static_call t.place d (operands_of P (type_in P m k) m k es) (O (static_call t d es))) t.place (O (static_call t d es))
            (point.Expr m t.label) o there (λ y d. d) refl et (typed_parts.static_listed B t d es sig o called s et);
      }

  super_kind : (t : Tag) (x : List ℕ) (es : Exs) (c : ℕ) (sig : Signature) → super_method P k.owner x ≡ Some c → super_signature P k.owner x
      ≡ Some sig → TypedArgs P g es sig.params
      → Contains (parts_of P m k) (a_super_call t.place (super_method P k.owner x) (operands_of P (type_in P m k) m k es) (O (super_call t x es)))
      → IsKindedPart P F m k (a_super_call t.place (super_method P k.owner x) (operands_of P (type_in P m k) m k es) (O (super_call t x es)))
  unfolding IsKindedPart numbers
  super_kind t x es c sig found called args there =
      subst (λ z. IsKindedPart P F m k (a_super_call t.place z (operands_of P (type_in P m k) m k es) (O (super_call t x es))))
      (sym found) (λ h eh hb.
      let f = typed_parts.method_sig B c sig (sym (typed_parts.super_sig B x c found) ∙ called) in
      let same : f.0 ≡ h = same_Some f.0 h (sym f.1 ∙ eh) in (
        record {
          args = method_args es sig.params h args (f.2 ∙ ap (λ z. types_of z.params) same);
          result = λ o ho.
              let et = typed_parts.super_call_type B t x es sig called ∙ ap (λ z. object_if z) (f.3 ∙ ap (λ z. z.result) same) ∙ ho in
              typed_parts.is_point B (a_super_call t.place (super_method P k.owner x) (operands_of P (type_in P m k) m k es) (O (super_call t x es))) t.place
              (O (super_call t x es)) (point.Expr m t.label) o there (λ y d. d) refl et (typed_parts.super_listed B t x es c sig o found called et);
        },
        this_point_of P formed c h eh hb (typed_parts.super_instance B k.owner x c found h eh),
      ))

  test_kind : (t : Tag) (e : Ex) (o : Operand) (i : RowItem) → o.row ≡ Some i → o.point ≡ Some (point.Expr m t.label)
      → Contains (parts_of P m k) (a_test t.place (O e) o) → IsKindedPart P F m k (a_test t.place (O e) o)
  unfolding IsKindedPart HasPoint
  test_kind t e o i er ep there = λ y hy.
      let r = typed_parts.own_row_there B (a_test t.place (O e) o) t.place i o.ty y there
      (λ x d. subst (λ z. Contains (own_row t.place z o.ty) x) (sym er) d) hy in
      let w = typed_parts.is_point B (a_test t.place (O e) o) t.place o (point.Expr m t.label) y there (λ x d. d) ep hy
      (r.0, ap (λ z. number_if (row_number P) z) er ∙ r.1) in
      (w.number, w.point)

  -- a constructor's arguments have the types of its parameters
  maker_kind : (c d : ℕ) (es : Exs) (sig : Signature) → maker_of P c ≡ Some d → signature_of_method P d ≡ Some sig → TypedArgs P g es sig.params
      → IsKindedMaker P F (maker_slot P c) (operands_of P (type_in P m k) m k es)
  maker_kind c d es sig made called args = go (maker_slot P c) refl
    where
      go : (z : Option ℕ) → maker_slot P c ≡ z → IsKindedMaker P F z (operands_of P (type_in P m k) m k es)
      go None h = tt
      go (Some j) h = λ q f ef sf.
          let w = maker_at P formed c d j made h in
          let i = in_slot P formed q f ef j sf in
          method_args es sig.params f args (maker_signature P c d j w sig called ∙ ap (λ z. z.params) (same_Some w.slot i.slot (sym w.slot_stands
          ∙ i.stands)) ∙ sym i.params)

  create_kind : (c : ℕ) (t : Tag) (n : ℕ) (es : Exs) → IsTyped (create t n c es) → IsKindedMaker P F (maker_slot P c) (operands_of P (type_in P m k) m k es)
  create_kind c t n es (t_create a b) = subst (λ z. IsKindedMaker P F z []) (ap (option_and_then (slot_of_method P)) (sym b)) tt
  create_kind c t n es (t_make a b s w) = maker_kind c _ es _ b s w

  creation_kind : (q : Place) (u : Bool) (o : Operand) (j d : Option ℕ) (es : List Operand) → IsCreation P F u o → IsKindedMaker P F j es
      → IsKindedPart P F m k (a_creation q u o j d es)
  unfolding IsKindedPart
  creation_kind q u o j d es i h = (i, h)

  pair_kind : (o : BinOp) (a b : Operand) → IsKindedPart P F m k (a_pair o a b)
  unfolding IsKindedPart
  pair_kind o a b = tt

  -- the part of a typed form is kinded
  pub only : (q p : Part) → Contains (q ∷ []) p → IsKindedPart P F m k q → IsKindedPart P F m k p
  only q p c h = subst (λ z. IsKindedPart P F m k z) (one_from q p c) h

  pub form_kind : (u : Bool) (sc : List ℕ) (e : Ex) → IsTyped e → IsFormedEx sc e → Stands (tree u e) → (p : Part) → Contains (own P m k u e) p
      → IsKindedPart P F m k p
  form_kind u sc (own_field t f) ty fo st p c = only _ p c (own_load_kind t f _ refl (here _ [] st))
  form_kind u sc (field t e x) ty (f_field fe n) st p c =
      only _ p c (load_kind sc t e x fe (left (tree (is_accessed e) e) _ st) (here _ [] (right (tree (is_accessed e) e) _ st)))
  form_kind u sc (index t e i) (t_index te some ti num) (f_index fe fi) st p c =
      only _ p c (element_kind sc t e i te fe some (left (tree true e) _ st) (here _ _ (right (tree true e) _ st)))
  form_kind u sc (call t e x es) (t_call te sig args) fo st p c = only _ p c (call_kind t e x es _ sig args (here _ _ (right (tree true e) _ st)))
  form_kind u sc (static_call t d es) (t_static_call sig args) (f_static_call s fes) st p c = only _ p c (static_kind t d es _ sig args s (here _ _ st))
  form_kind u sc (super_call t x es) (t_super_call found has sig args) fo st p c = only _ p c (super_kind t x es _ _ found sig args (here _ _ st))
  form_kind u sc (create t n d es) ty fo st p c = only _ p c (creation_kind t.place _ (O (create t n d es)) _ _ _ (creation_there u t n d es st)
      (create_kind d t n es ty))
  form_kind u sc (create_array t n v e) ty fo st p c =
      only _ p c (creation_kind t.place u (O (create_array t n v e)) None None [] (array_there u t n v e st) tt)
  form_kind u sc (cast t n v e) ty fo st p c = only _ p c (test_kind t e (O (cast t n v e)) (row.Cast n) refl refl (here _ _ st))
  form_kind u sc (instance_of t n e d) ty fo st p c =
      only _ p c (test_kind t e _ (row.Test n) refl refl (here _ [] (right (tree true e) _ st)))
  form_kind u sc (binary t q e d) ty fo st p c = only _ p c (pair_kind q (O e) (O d))
  form_kind u sc e ty fo st p c = absurd (omega (arith, c.1))
