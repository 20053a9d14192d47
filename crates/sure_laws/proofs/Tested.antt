-- What a cast or `instanceof` of the facts tests is an object and no array.
use Rattle.std.proofs.Common.{◌≡◌, ℕ, zero, suc, [], ◌∷◌, Option, Some, None, refl, sym, ap, ◌∙◌, arith}
use Rattle.std.specs.Prelude.{Bool, true, false, Contains}
use Rattle.std.proofs.lemmas.Bool.{false≢true}
use Rattle.std.proofs.lemmas.Option.{same_Some}
use Rattle.kaba_base.specs.declared.Place.{Place}
use Rattle.java_core.specs.declared.TyBase.{TyBase}
use Rattle.java_core.specs.declared.TyBase.TheVariants.{Int, Boolean, Char, Str, Class}
use Rattle.java_core.specs.Trees.{Ex, own_field, field, index, call, static_call, super_call, create, create_array, cast, instance_of, binary, Target, to_local, to_static, to_own, to_field, to_element, no_target}
use Rattle.java_core.specs.Programs.{Plain, PlainMethod}
use Rattle.java_core.specs.Types.{Static, class_of, static}
use Rattle.java_core.specs.Typing.{IsTyped, t_cast, are_related, can_cast}
use Rattle.java_core.specs.Formed.{IsFormed}
use Rattle.fact_model.specs.Items.{site_at}
use Rattle.fact_model.specs.Flowing.{in_point, Holds}
use Rattle.fact_model.specs.declared.facts.Facts.{Facts}
use Rattle.fact_model.specs.declared.facts.TestInfo.{TestInfo}
use Rattle.flow_rules.specs.declared.items.ObjectType.{ObjectType}
use Rattle.flow_rules.specs.Operands.{object_in, type_in}
use Rattle.flow_rules.specs.Parts.{Part, a_test}
use Rattle.flow_rules.specs.Facts.{IsFactsOf}
use Rattle.flow_rules.proofs.Listed.{one_from}
use Rattle.flow_laws.proofs.cover.Forms.{own, own_assign, From, from_ex, from_assign, from_declare, from_return, part_from}
use Rattle.flow_laws.proofs.cover.Walked.{walked}
use Rattle.flow_laws.proofs.order.Fits.{paired_dim}
use Rattle.flow_laws.proofs.order.Fitted.{part_fitted}
use Rattle.flow_laws.proofs.order.Pointed.{point_item_of, has_type, operand_type}
use Rattle.flow_laws.proofs.order.Held.{held}
use Rattle.flow_laws.proofs.order.Tests.{test_of}

-- a type that a row can have and that is cast to is that of an object
flat_base : (P : Plain) (s : Static) (b : TyBase) (d : ℕ) (t : ObjectType) → object_in b d ≡ Some t → can_cast P s (record { base = b; dim = d }) ≡ true
    → t.dim ≡ 0
flat_base P s (Class c) zero t e h = sym (ap (λ z. z.dim) (same_Some (record { class = c; dim = 0 }) t e))
flat_base P s (Class c) (suc d) t e h = absurd (none (class_of s) h)
  where
    none : (o : Option ℕ) → are_related P o None ≡ true → ⊥
    none None h = false≢true h
    none (Some a) h = false≢true h
flat_base P s Int d t e h = absurd (cc)
flat_base P s Boolean d t e h = absurd (cc)
flat_base P s Char d t e h = absurd (cc)
flat_base P s Str d t e h = absurd (cc)

abbrev own_type : Part → Option ObjectType
own_type (a_test p e o) = o.ty
own_type p = None

abbrev is_test : Part → Bool
is_test (a_test p e o) = true
is_test p = false

module _ (P : Plain) (formed : IsFormed P) (typed : IsTyped P) (m : ℕ) (k : PlainMethod) where
  open walked P m k use {env as g, IsTyped as TypedEx}

  other : {q : Part} (p : Part) → is_test q ≡ false → is_test p ≡ true → Contains (q ∷ []) p → ⊥
  other p a b c = false≢true (sym a ∙ ap is_test (one_from _ p c) ∙ b)

  form_flat : (u : Bool) (e : Ex) (p : Part) (t : ObjectType) → TypedEx e → Contains (own P m k u e) p → is_test p ≡ true → own_type p ≡ Some t → t.dim ≡ 0
  unfolding type_in
  form_flat u (cast w n v e) p t (t_cast a can) c b h = flat_base P (static P g e) v.base v.dim t (ap own_type (one_from _ p c) ∙ h) can
  form_flat u (instance_of w n e d) p t a c b h = sym (ap (λ z. z.dim) (same_Some _ t (ap own_type (one_from _ p c) ∙ h)))
  form_flat u (own_field w f) p t a c b h = absurd (other p refl b c)
  form_flat u (field w e x) p t a c b h = absurd (other p refl b c)
  form_flat u (index w e i) p t a c b h = absurd (other p refl b c)
  form_flat u (call w e x es) p t a c b h = absurd (other p refl b c)
  form_flat u (static_call w d es) p t a c b h = absurd (other p refl b c)
  form_flat u (super_call w x es) p t a c b h = absurd (other p refl b c)
  form_flat u (create w n d es) p t a c b h = absurd (other p refl b c)
  form_flat u (create_array w n v e) p t a c b h = absurd (other p refl b c)
  form_flat u (binary w o e d) p t a c b h = absurd (other p refl b c)
  form_flat u e p t a c b h = absurd (omega (arith, c.1))

  assign_other : (w : Place) (b : Target) (e : Ex) (p : Part) → Contains (own_assign P m k w b e) p → is_test p ≡ true → ⊥
  assign_other w (to_local t i) e p c h = other p refl h c
  assign_other w (to_static t f) e p c h = other p refl h c
  assign_other w (to_own t f) e p c h = other p refl h c
  assign_other w (to_field t b x) e p c h = other p refl h c
  assign_other w (to_element t b i) e p c h = other p refl h c
  assign_other w no_target e p c h = other p refl h c

  from_flat : (p : Part) (t : ObjectType) → From P m k p → is_test p ≡ true → own_type p ≡ Some t → t.dim ≡ 0
  from_flat p t (from_ex u e a f w c) b h = form_flat u e p t a c b h
  from_flat p t (from_assign s d e x a f q w c) b h = absurd (assign_other s.place d e p c b)
  from_flat p t (from_declare s i e a f w c) b h = absurd (other p refl b c)
  from_flat p t (from_return e a r f w c) b h = absurd (other p refl b c)

-- a site in the set of what a test of the facts tests is that of an object
pub tested_flat : (P : Plain) (formed : IsFormed P) (typed : IsTyped P) (F : Facts) (facts : IsFactsOf P F) (x : TestInfo) → Contains F.tests.items x
    → (s : ℕ) → Holds F (in_point x.from s) → (site_at F s).dim ≡ 0
tested_flat P formed typed F facts x c s h =
    let t = test_of P formed typed F facts x c in
    let p = a_test t.place t.operand t.own in
    let fitted = part_fitted P formed typed F facts t.number t.method t.stands p t.part in
    let flat = from_flat P formed typed t.number t.method p t.type (part_from P formed typed t.number t.method t.stands p t.part) refl t.typed_as in
    let i = point_item_of P formed typed F facts t.operand.point x.from t.from in
    let y = has_type P formed typed F facts i.0 x.from i.2 in
    let o = sym (operand_type P formed typed F facts t.number t.method t.stands t.operand x.from fitted.0 t.from) ∙ y.1 in
    (held P formed typed F facts (in_point x.from s) h y.0 y.1).dim ∙ paired_dim P y.0 t.type (fitted.3 y.0 t.type o t.typed_as) ∙ flat
