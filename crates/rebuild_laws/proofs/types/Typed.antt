-- A program that rebuilds a typed one over a hierarchy that breaks no obligation is typed.
use Rattle.std.proofs.Common.{◌≡◌, ℕ, zero, suc, Option, Some, None, refl, sym, ap, ◌∙◌}
use Rattle.std.specs.Prelude.{◌==◌, true, false, slice_get, length, option_and_then}
use Rattle.std.specs.Option.{option_map_or}
use Rattle.std.proofs.lemmas.Bool.{and_parts, eqb-true}
use Rattle.std.proofs.lemmas.Option.{same_Some}
use Rattle.kaba_base.specs.declared.ClassId.{ClassId}
use Rattle.java_core.specs.Programs.{Plain, PlainClass, PlainMethod}
use Rattle.java_core.specs.Classes.{parent_of, first_or, nearest, is_interface, has_slot, is_slot, own_declaration, nearest_of, nearest_declaration}
use Rattle.java_core.specs.Typing.{IsTyped, HasPublicMethods, is_public_method}
use Rattle.java_core.proofs.Positions.{position-passes}
use Rattle.fact_model.specs.InRange.{InRange}
use Rattle.fact_model.specs.InOrder.{InOrder}
use Rattle.fact_model.specs.Flowing.{AreSets}
use Rattle.fact_model.specs.Entries.{IsTable}
use Rattle.fact_model.specs.declared.facts.Facts.{Facts}
use Rattle.fact_model.specs.declared.sets.PointsTo.{PointsTo}
use Rattle.fact_model.specs.declared.sets.Table.{Table}
use Rattle.fact_model.proofs.ClassLemmas.{slot_says}
use Rattle.hier_model.specs.Hierarchies.{Hierarchy, IsHierarchyOf}
use Rattle.hier_rules.specs.First.{first_broken}
use Rattle.flow_rules.specs.Facts.{IsFactsOf}
use Rattle.rebuild_model.specs.Written.{IsWritten}
use Rattle.rebuild_laws.specs.looks.Known.{KnownOfBoth}
use Rattle.rebuild_laws.proofs.looks.Concrete.{concrete_bodies}
use Rattle.rebuild_laws.proofs.types.Bodies.{methods_typed}

module _ {P : Plain} {F : Facts} {H : Hierarchy} {W : Plain} (K : KnownOfBoth P F H W) (written : IsWritten P F H W K.rebuilt.places) where
  open_method : (d : ℕ) (k : PlainMethod) (s : ℕ) → slice_get W.methods d ≡ Some k → k.slot ≡ Some s → is_interface W k.owner ≡ false
      → is_public_method W (Some d) ≡ true
  open_method d k s e h c = rw e (written.public d k e (((K.new.methods d k e).slots s).0 h).instance c)

  -- a superclass is a class
  parent_class : (c : ℕ) (p : ClassId) → parent_of W c ≡ Some p → is_interface W p.0 ≡ false
  parent_class zero p e = absurd (cc (sym (ap (option_and_then (λ (k : PlainClass). k.parent)) K.new.object.first) ∙ e, K.new.object.parent))
  parent_class (suc c) p e = go (slice_get W.classes (suc c)) refl e
    where
      go : (o : Option PlainClass) → slice_get W.classes (suc c) ≡ o → option_and_then (λ (k : PlainClass). k.parent) o ≡ Some p → is_interface W p.0 ≡ false
      go None d h = absurd (cc h)
      go (Some k) d h =
          let f = K.new.classes c k d in
          let same : f.parent ≡ p = same_Some _ _ (sym f.has_parent ∙ h) in
          ap (λ (z : ClassId). is_interface W z.0) (sym same) ∙ ap (λ o. option_map_or (λ (k : PlainClass). k.is_interface) o false) f.parent_stands
          ∙ f.parent_class

  -- what is nearest to a class stands in a class
  nearest_class : (f : ℕ → Option ℕ) (n c d : ℕ) → is_interface W c ≡ false → nearest W f n c ≡ Some d → (b : ℕ) × (f b ≡ Some d) × (is_interface W b ≡ false)
  nearest_class f zero c d i e = (c, e, i)
  nearest_class f (suc n) c d i e = go (f c) refl (parent_of W c) refl (λ p j h. nearest_class f n p.0 d j h) e
    where
      up : (o : Option ClassId) → parent_of W c ≡ o → ((p : ClassId) → is_interface W p.0 ≡ false → nearest W f n p.0 ≡ Some d
          → (b : ℕ) × (f b ≡ Some d) × (is_interface W b ≡ false))
          → option_and_then (λ p. nearest W f n p.0) o ≡ Some d → (b : ℕ) × (f b ≡ Some d) × (is_interface W b ≡ false)
      up None q r h = absurd (cc h)
      up (Some p) q r h = r p (parent_class c p q) h

      go : (z : Option ℕ) → f c ≡ z → (o : Option ClassId) → parent_of W c ≡ o
          → ((p : ClassId) → is_interface W p.0 ≡ false → nearest W f n p.0 ≡ Some d → (b : ℕ) × (f b ≡ Some d) × (is_interface W b ≡ false))
          → first_or z (option_and_then (λ p. nearest W f n p.0) o) ≡ Some d → (b : ℕ) × (f b ≡ Some d) × (is_interface W b ≡ false)
      go (Some y) ey o q r h = (c, ey ∙ h, i)
      go None ey o q r h = up o q r h

  -- what a class has for a slot is public
  public_methods : (c : ℕ) → is_interface W c ≡ false → HasPublicMethods W c
  unfolding HasPublicMethods nearest_declaration
  public_methods c class s m o i = go (nearest_of W (λ k. own_declaration W k s) c) refl
    where
      go : (z : Option ℕ) → nearest_of W (λ k. own_declaration W k s) c ≡ z → is_public_method W z ≡ true
      go None e = refl
      go (Some d) e =
          let n = nearest_class (λ k. own_declaration W k s) (length W.classes) c d class e in
          let k = position-passes (λ m. has_slot n.0 s m) W.methods d n.1 in
          let p = and_parts (k.0.owner == n.0) (is_slot k.0.slot s) k.2 in
          open_method d k.0 s k.1 (slot_says k.0.slot s p.1) (ap (is_interface W) (eqb-true k.0.owner n.0 p.0) ∙ n.2)

  pub written_typed : IsTyped P → IsFactsOf P F → (pt : PointsTo) (t : Table) → InRange F
      → InOrder F → AreSets F pt → IsTable F t → H.table ≡ t.rows.items → first_broken F pt H ≡ None → IsHierarchyOf F H → IsTyped W
  written_typed typed facts pt t A O S B table none hierarchy = record {
    classes = λ c k e. record { bodies = λ concrete. concrete_bodies K c concrete; public_methods = λ i. public_methods c i };
    methods = methods_typed K typed facts pt t A O S B table none hierarchy written;
  }
