-- Each part of a typed body is kinded: where a value has a type of a row, so has what takes it, and both are points.
use Rattle.std.proofs.Common.{◌≡◌, ℕ, List, ◌++◌, Option, Some, None, refl, sym, ap, ◌∙◌}
use Rattle.std.specs.Prelude.{true, Contains}
use Rattle.std.specs.Option.{option_and_then}
use Rattle.kaba_base.specs.declared.Place.{Place}
use Rattle.java_core.specs.declared.Ty.{Ty}
use Rattle.std.proofs.lemmas.Bool.{false≢true}
use Rattle.java_core.specs.Trees.{Tag, Ex, local, static_field, Target, to_local, to_static, to_own, to_field, to_element, no_target}
use Rattle.java_core.specs.Types.{Static, a_value, null_value, no_value, or_nothing, field_type, field_in, fits, fits_in, static, target_type}
use Rattle.java_core.specs.Typing.{TypedTarget}
use Rattle.java_core.specs.Formed.{IsStaticField, FormedTarget, f_to_static, f_to_field}
use Rattle.flow_rules.specs.declared.items.ObjectType.{ObjectType}
use Rattle.flow_rules.specs.declared.items.Operand.{Operand}
use Rattle.flow_rules.specs.Operands.{object_if, object_static, object_field, type_in}
use Rattle.flow_rules.specs.Parts.{Part, a_set, a_store, an_element_store, a_return, is_accessed, parts_assign}
use Rattle.flow_rules.specs.Facts.{numbers}
use Rattle.flow_laws.proofs.cover.Kinded.{IsBase, IsKindedPart}
use Rattle.flow_rules.proofs.TypeLemmas.{object_or}
use Rattle.flow_laws.proofs.cover.Forms.{own_assign, From, from_ex, from_assign, from_declare, from_return}
use Rattle.flow_laws.proofs.cover.HasRows.{variable_point_of, result_point_of, static_point_of}
use Rattle.flow_laws.proofs.cover.Types.{fits_object}
use Rattle.flow_laws.proofs.cover.Each.{left}
use Rattle.flow_laws.proofs.cover.TypedParts as typed_parts
use Rattle.flow_laws.proofs.cover.TypedParts.{TypedBody}
use Rattle.flow_laws.proofs.cover.TypedExpressions as expressions
use Rattle.flow_laws.proofs.cover.Walked.{walked}

module _ (B : TypedBody) where
  open B use {program as P, facts as F, formed, number as m, method as k, stands, bodied as body}
  open walked P m k use {env as g, type as T, operand as O, Stands, IsTyped, IsFormed as IsFormedEx, tree, tree_sts as sts, tree_if as if_there}

  -- what is put somewhere
  fits_in_object : (s d : Static) (t : ObjectType) → fits_in P s d ≡ true → object_static s ≡ Some t → (r : ObjectType) × (object_static d ≡ Some r)
  fits_in_object s (a_value u) t e o = fits_object P s u t e o
  fits_in_object s null_value t e o = absurd (false≢true e)
  fits_in_object s no_value t e o = absurd (false≢true e)

  set_local_kind : (t : Tag) (i : ℕ) (e : Ex) → fits_in P (static P g e) (target_type P g (to_local t i)) ≡ true
      → IsKindedPart P F m k (a_set (O (local t i)) (O e))
  unfolding IsKindedPart type_in numbers
  set_local_kind t i e fit = λ o ho.
      let r = fits_in_object (static P g e) (target_type P g (to_local t i)) o fit (typed_parts.typed_of B e o ho) in
      let q = variable_point_of P formed m k stands body i r.0 (sym (typed_parts.local_type B t i) ∙ r.1) in
      record { type = r.0; typed = r.1; number = q.0; point = q.1 }

  set_static_kind : (t : Tag) (f : ℕ) (e : Ex) → IsStaticField P f → fits_in P (static P g e) (target_type P g (to_static t f)) ≡ true
      → IsKindedPart P F m k (a_set (O (static_field t f)) (O e))
  unfolding IsKindedPart type_in numbers
  set_static_kind t f e s fit = λ o ho.
      let r = fits_in_object (static P g e) (target_type P g (to_static t f)) o fit (typed_parts.typed_of B e o ho) in
      let q = static_point_of P formed f s.member r.0 s.stands s.kind (sym (typed_parts.static_type B t f) ∙ r.1) in
      record { type = r.0; typed = r.1; number = q.0; point = q.1 }

  store_own_kind : (p : Place) (t : Tag) (f : ℕ) (e : Ex) (b : Operand) → b.created ≡ None
      → fits_in P (static P g e) (target_type P g (to_own t f)) ≡ true → IsKindedPart P F m k (a_store p b (Some f) (O e))
  unfolding IsKindedPart IsBase
  store_own_kind p t f e b eb fit = record {
    base = λ j s ej es. absurd (let z = sym eb ∙ ej in cc);
    takes = λ o ho. let r = fits_in_object (static P g e) (target_type P g (to_own t f)) o fit (typed_parts.typed_of B e o ho) in
        (r.0, sym (object_or (field_type P f)) ∙ r.1);
  }

  store_kind : (sc : List ℕ) (p : Place) (t : Tag) (b : Ex) (x : List ℕ) (e : Ex) → IsFormedEx sc b → Stands (tree (is_accessed b) b)
      → fits_in P (static P g e) (target_type P g (to_field t b x)) ≡ true
      → IsKindedPart P F m k (a_store p (O b) (object_field P (T b) x) (O e))
  unfolding IsKindedPart
  store_kind sc p t b x e fo st fit = go (object_field P (T b) x) refl
    where
      go : (z : Option ℕ) → object_field P (T b) x ≡ z → IsKindedPart P F m k (a_store p (O b) z (O e))
      go None h = tt
      go (Some f) h = record {
        base = expressions.base_point B sc b x f fo st h;
        takes = λ o ho.
            let r = fits_in_object (static P g e) (target_type P g (to_field t b x)) o fit (typed_parts.typed_of B e o ho) in
            let found : field_in P (static P g b) x ≡ Some f = sym (typed_parts.field_found B b x) ∙ h in
            (r.0, sym (object_or (field_type P f)) ∙ ap (λ z. object_static (or_nothing (option_and_then (field_type P) z))) (sym found) ∙ r.1);
      }

  element_store_kind : (p : Place) (b o : Operand) → IsKindedPart P F m k (an_element_store p b o)
  unfolding IsKindedPart
  element_store_kind p b o = tt

  return_kind : (e : Ex) (u : Ty) → g.result ≡ Some u → fits P (static P g e) u ≡ true → IsKindedPart P F m k (a_return (O e))
  unfolding IsKindedPart numbers
  return_kind e u er fit = λ o ho.
      let r = fits_object P (static P g e) u o fit (typed_parts.typed_of B e o ho) in
      let et = ap (λ z. object_if z) er ∙ r.1 in
      let q = result_point_of P formed m k stands body r.0 et in
      record { type = r.0; typed = et; number = q.0; point = q.1 }

  assign_kind : (sc : List ℕ) (t : Tag) (b : Target) (e : Ex) → TypedTarget P g b → fits_in P (static P g e) (target_type P g b) ≡ true
      → FormedTarget P k sc b → Stands (parts_assign P T m k t.place b e) → (p : Part) → Contains (own_assign P m k t.place b e) p
      → IsKindedPart P F m k p
  assign_kind sc t (to_local s i) e ty fit fo st p c = expressions.only B _ p c (set_local_kind s i e fit)
  assign_kind sc t (to_static s f) e ty fit (f_to_static q) st p c = expressions.only B _ p c (set_static_kind s f e q fit)
  assign_kind sc t (to_own s f) e ty fit fo st p c = expressions.only B _ p c (store_own_kind t.place s f e _ refl fit)
  assign_kind sc t (to_field s b x) e ty fit (f_to_field fb n) st p c =
      expressions.only B _ p c (store_kind sc t.place s b x e fb (left (tree (is_accessed b) b) _ (left (tree (is_accessed b) b ++ tree true e) _ st)) fit)
  assign_kind sc t (to_element s b i) e ty fit fo st p c = expressions.only B _ p c (element_store_kind t.place (O b) (O e))
  assign_kind sc t no_target e ty fit fo st p c = elim ty [ ]

  -- each part of a typed body is kinded
  pub from_kind : (p : Part) → From P m k p → IsKindedPart P F m k p
  from_kind p (from_ex u e a f st c) = expressions.form_kind B u _ e a f st p c
  from_kind p (from_assign t b e a x fit f st c) = assign_kind _ t b e a fit f st p c
  from_kind p (from_declare t i e a fit st c) = expressions.only B _ p c (set_local_kind t i e fit)
  from_kind p (from_return e a r fit st c) = expressions.only B _ p c (return_kind e _ r fit)
