-- The row of an access has a class at or below the member's.
use Rattle.std.proofs.Common.{◌≡◌, ℕ, List, Option, Some, None, refl, sym, ap, ◌∙◌, subst}
use Rattle.std.specs.Prelude.{◌==◌, ◌&&◌, if◌then◌else◌, Bool, true, false, option_and_then}
use Rattle.std.specs.Option.{option_map_or}
use Rattle.std.specs.Str.{bytes_eq}
use Rattle.std.proofs.lemmas.Bool.{false≢true, eqb-true}
use Rattle.std.proofs.lemmas.Option.{same_Some}
use Rattle.java_core.specs.Programs.{Plain}
use Rattle.java_core.specs.Classes.{IsSubclass, field_of, member_field, when_instance, if_instance, is_static_field, is_field_of, own_field_of, declaration_of}
use Rattle.java_core.specs.Formed.{IsFormed}
use Rattle.java_core.proofs.Subclasses.{nearest_of-nearest}
use Rattle.java_core.proofs.Offered.{declaration-above, own_method-own}
use Rattle.java_core.proofs.Positions.{position-passes}
use Rattle.java_core.proofs.Upwards.{chain-above}
use Rattle.flow_rules.specs.declared.items.ObjectType.{ObjectType}
use Rattle.flow_rules.specs.declared.items.ColumnItem.TheVariants as column
use Rattle.flow_rules.specs.Operands.{class_at, object_field, call_declaration}
use Rattle.flow_rules.specs.Facts.{owner_of}

and_left : (a b : Bool) → (a && b) ≡ true → a ≡ true
and_left true b e = refl
and_left false b e = absurd (false≢true e)

-- the class of an object
class_is : (t : ObjectType) (c : ℕ) → class_at t ≡ Some c → t.class.0 ≡ c
class_is t c e = go (t.dim == 0) e
  where
    go : (z : Bool) → (if z then Some t.class.0 else None) ≡ Some c → t.class.0 ≡ c
    go true e = same_Some _ c e
    go false e = absurd (cc)

module _ (P : Plain) (formed : IsFormed P) where
  -- a field that is found stands above
  pub field_above : (c f : ℕ) (x : List ℕ) → field_of P c x ≡ Some f → IsSubclass P c (owner_of P (column.Fld f))
  unfolding field_of
  field_above c f x e =
      let n = chain-above P (λ k. own_field_of P k x) (nearest_of-nearest P (λ k. own_field_of P k x) e) in
      let z = position-passes (λ f. is_field_of n.holder x f) P.fields f n.found in
      let o = eqb-true z.0.owner n.holder (and_left (z.0.owner == n.holder) (bytes_eq z.0.name x) z.2) in
      subst (λ y. IsSubclass P c y) (sym o ∙ sym (ap (λ y. option_map_or (λ k. k.owner) y 0) z.1)) n.above

  instance_found : (o : Option ℕ) (f : ℕ) → when_instance P o ≡ Some f → o ≡ Some f
  instance_found None f e = absurd (cc)
  instance_found (Some g) f e = go (is_static_field P g) e
    where
      go : (b : Bool) → if_instance g b ≡ Some f → Some g ≡ Some f
      go true e = absurd (cc)
      go false e = e

  -- the field of an object's type
  pub object_field_above : (t : ObjectType) (x : List ℕ) (f : ℕ) → object_field P (Some t) x ≡ Some f → IsSubclass P t.class.0 (owner_of P (column.Fld f))
  unfolding member_field
  object_field_above t x f e = go (class_at t) refl e
    where
      go : (o : Option ℕ) → class_at t ≡ o → option_and_then (λ c. member_field P c x) o ≡ Some f → IsSubclass P t.class.0 (owner_of P (column.Fld f))
      go None h e = absurd (cc)
      go (Some c) h e = subst (λ y. IsSubclass P y (owner_of P (column.Fld f))) (sym (class_is t c h)) (field_above c f x (instance_found (field_of P c x) f e))

  -- the declaration that a call finds
  pub declaration_above : (c d : ℕ) (x : List ℕ) → declaration_of P c x ≡ Some d → IsSubclass P c (owner_of P (column.Dcl d))
  declaration_above c d x e =
      let n = declaration-above P c x d e in
      let z = own_method-own P n.holder x d n.found in
      subst (λ y. IsSubclass P c y) (sym z.owner ∙ sym (ap (λ y. option_map_or (λ k. k.owner) y 0) z.stands)) n.above

  pub call_above : (t : ObjectType) (x : List ℕ) (d : ℕ) → call_declaration P (Some t) x ≡ Some d → IsSubclass P t.class.0 (owner_of P (column.Dcl d))
  call_above t x d e = go (class_at t) refl e
    where
      go : (o : Option ℕ) → class_at t ≡ o → option_and_then (λ c. declaration_of P c x) o ≡ Some d → IsSubclass P t.class.0 (owner_of P (column.Dcl d))
      go None h e = absurd (cc)
      go (Some c) h e = subst (λ y. IsSubclass P y (owner_of P (column.Dcl d))) (sym (class_is t c h)) (declaration_above c d x e)
