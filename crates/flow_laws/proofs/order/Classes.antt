-- The classes and interfaces of a program's facts: subtyping is that of the program.
use Rattle.std.proofs.Common.{◌≡◌, ℕ, zero, suc, ◌+◌, List, [], ◌∷◌, ◌++◌, Option, Some, None, length, refl, sym, ap, ◌∙◌, subst, arith, inl, inr, ⊎_elim}
use Rattle.std.specs.Prelude.{◌⊎◌, ◌<◌, true, false, Contains, slice_get}
use Rattle.std.specs.Option.{option_map_or, option_and_then, option_to_list, is_some}
use Rattle.std.proofs.lemmas.Bool.{false≢true, false_from_ne_true}
use Rattle.std.proofs.lemmas.Option.{same_Some}
use Rattle.kaba_base.specs.declared.ClassId.{ClassId}
use Rattle.java_core.specs.Programs.{Plain, PlainClass}
use Rattle.java_core.specs.Classes.{IsSubclass, same_class, through, supers_of, parent_of, faces_of}
use Rattle.java_core.specs.Formed.{IsFormed, IsFormedClass}
use Rattle.java_core.proofs.Subclasses.{parent-super, ArePassed, passed_more, none_passed, one_left}
use Rattle.fact_model.specs.Items.{column_class, column_kind}
use Rattle.fact_model.specs.Classes.{IsBelow, same, through as by_super, IsAcyclic, is_interface, parent_of as parent_in, faces_of as faces_in, supers_of as supers_in}
use Rattle.fact_model.specs.InOrder.{AreClassesInOrder}
use Rattle.fact_model.specs.declared.facts.Facts.{Facts}
use Rattle.fact_model.specs.declared.facts.ClassInfo.{ClassInfo}
use Rattle.fact_model.specs.declared.facts.ColKind.TheVariants as kind
use Rattle.flow_rules.specs.declared.items.ColumnItem.{ColumnItem}
use Rattle.flow_rules.specs.Ordered.{each}
use Rattle.flow_rules.specs.Facts.{ClassFacts, class_seen, is_holder, owner_of, kind_of, IsFactsOf}
use Rattle.flow_rules.proofs.Listed.{below_at, at_map, map_at}
use Rattle.flow_laws.proofs.order.Columns.{Stands, for_field, for_declaration, for_body, for_mark, item_of}

pub each_at : {A B : Type 0} (g : ℕ → A → B) (n : ℕ) (xs : List A) (i : ℕ) (x : A) → slice_get xs i ≡ Some x
    → slice_get (each (λ j y. g j y ∷ []) n xs) i ≡ Some (g (n + i) x)
each_at g n [] i x e = absurd (cc)
each_at g n (y ∷ ys) zero x e = ap (λ z. Some (g n z)) (same_Some y x e) ∙ ap (λ z. Some (g z x)) (omega arith)
each_at g n (y ∷ ys) (suc i) x e = each_at g (n + 1) ys i x e ∙ ap (λ z. Some (g z x)) (omega arith)

pub at_each : {A B : Type 0} (g : ℕ → A → B) (n : ℕ) (xs : List A) (i : ℕ) (z : B) → slice_get (each (λ j y. g j y ∷ []) n xs) i ≡ Some z
    → (x : A) × (slice_get xs i ≡ Some x) × (g (n + i) x ≡ z)
at_each g n [] i z e = absurd (cc)
at_each g n (y ∷ ys) zero z e = (y, refl, ap (λ w. g w y) (omega arith) ∙ same_Some (g n y) z e)
at_each g n (y ∷ ys) (suc i) z e = let w = at_each g (n + 1) ys i z e in (w.0, w.1, ap (λ v. g v w.0) (omega arith) ∙ w.2)

module _ (P : Plain) (F : Facts) (facts : IsFactsOf P F) where
  abbrev facts_at : ℕ → PlainClass → ClassFacts
  facts_at c k = record { name = k.name; parent = k.parent; faces = k.faces; is_interface = k.is_interface; holder = is_holder P c }

  -- a class of the facts, and which of the program it is
  pub record IsClassAt (c : ℕ) (i : ClassInfo) : Type 0 where
    pub plain : PlainClass
    pub stands : slice_get P.classes c ≡ Some plain
    pub name : i.name ≡ plain.name
    pub parent : i.parent ≡ plain.parent
    pub faces : i.faces.items ≡ plain.faces
    pub interface : i.is_interface ≡ plain.is_interface
    pub holder : i.holder ≡ is_holder P c

  pub class_at : (c : ℕ) (i : ClassInfo) → slice_get F.classes.items c ≡ Some i → IsClassAt c i
  class_at c i e =
      let z = at_each facts_at 0 P.classes c (class_seen i) (subst (λ w. slice_get w c ≡ Some (class_seen i)) facts.classes
      (at_map class_seen F.classes.items c i e)) in
      record {
        plain = z.0;
        stands = z.1;
        name = sym (ap (λ w. w.name) z.2);
        parent = sym (ap (λ w. w.parent) z.2);
        faces = sym (ap (λ w. w.faces) z.2);
        interface = sym (ap (λ w. w.is_interface) z.2);
        holder = sym (ap (λ w. w.holder) z.2) ∙ ap (is_holder P) (omega arith);
      }

  pub class_there : (c : ℕ) (h : PlainClass) → slice_get P.classes c ≡ Some h → (i : ClassInfo) × (slice_get F.classes.items c ≡ Some i)
  class_there c h e =
      let w = map_at class_seen F.classes.items c _ (subst (λ w. slice_get w c ≡ Some (facts_at (0 + c) h)) (sym facts.classes)
      (each_at facts_at 0 P.classes c h e)) in
      (w.0, w.1)

  cases : (c : ℕ) → ((i : ClassInfo) × (slice_get F.classes.items c ≡ Some i)) ⊎ ((slice_get F.classes.items c ≡ None) × (slice_get P.classes c ≡ None))
  cases c = go (slice_get F.classes.items c) (slice_get P.classes c) refl refl
    where
      go : (o : Option ClassInfo) (q : Option PlainClass) → slice_get F.classes.items c ≡ o → slice_get P.classes c ≡ q
          → ((i : ClassInfo) × (slice_get F.classes.items c ≡ Some i)) ⊎ ((slice_get F.classes.items c ≡ None) × (slice_get P.classes c ≡ None))
      go (Some i) q e d = inl (i, e)
      go None None e d = inr (e, d)
      go None (Some h) e d = inl (class_there c h d)

  pub parent_same : (c : ℕ) → parent_in F c ≡ parent_of P c
  parent_same c =
      ⊎_elim (λ z. let k = class_at c z.0 z.1 in ap (λ o. option_and_then (λ k. k.parent) o) z.1 ∙ k.parent
      ∙ sym (ap (λ o. option_and_then (λ k. k.parent) o) k.stands))
      (λ z. ap (λ o. option_and_then (λ k. k.parent) o) z.0 ∙ sym (ap (λ o. option_and_then (λ k. k.parent) o) z.1)) (cases c)

  pub faces_same : (c : ℕ) → faces_in F c ≡ faces_of P c
  faces_same c =
      ⊎_elim (λ z. let k = class_at c z.0 z.1 in ap (λ o. option_map_or (λ k. k.faces.items) o []) z.1 ∙ k.faces
      ∙ sym (ap (λ o. option_map_or (λ k. k.faces) o []) k.stands))
      (λ z. ap (λ o. option_map_or (λ k. k.faces.items) o []) z.0 ∙ sym (ap (λ o. option_map_or (λ k. k.faces) o []) z.1)) (cases c)

  pub supers_same : (c : ℕ) → supers_in F c ≡ supers_of P c
  supers_same c = ap (λ z. option_to_list z ++ faces_in F c) (parent_same c) ∙ ap (λ z. option_to_list (parent_of P c) ++ z) (faces_same c)

  pub below_subclass : {a b : ℕ} → IsBelow F a b → IsSubclass P a b
  below_subclass same = same_class
  below_subclass (by_super {a = a} {c = c} h r) = through (subst (λ z. Contains z c) (supers_same a) h) (below_subclass r)

  pub subclass_below : {a b : ℕ} → IsSubclass P a b → IsBelow F a b
  subclass_below same_class = same
  subclass_below (through {a = a} {c = c} h r) = by_super (subst (λ z. Contains z c) (sym (supers_same a)) h) (subclass_below r)

  pub interface_same : (c : ℕ) (h : PlainClass) → slice_get P.classes c ≡ Some h → is_interface F c ≡ h.is_interface
  interface_same c h e =
      let z = class_there c h e in
      let k = class_at c z.0 z.1 in
      ap (λ o. option_map_or (λ k. k.is_interface) o false) z.1 ∙ k.interface ∙ ap (λ k. k.is_interface) (same_Some k.plain h (sym k.stands ∙ e))

  module _ (formed : IsFormed P) where
    acyclic : IsAcyclic F
    acyclic a s = formed.acyclic a (record { by = s.by; direct = subst (λ z. Contains z s.by) (supers_same a) s.direct; rest = below_subclass s.rest })

    to_object : (n a : ℕ) (k : PlainClass) (seen : List ℕ) → slice_get P.classes a ≡ Some k → ArePassed P seen a → n + length seen ≡ length P.classes
        → IsSubclass P a 0
    to_object n zero k seen e p h = same_class
    to_object zero (suc a) k seen e p h =
        let f = formed.classes a k e in absurd
        (one_left P formed.acyclic seen (parent-super P (suc a) f.parent (ap (λ o. option_and_then (λ k. k.parent) o) e ∙ f.has_parent)) p h)
    to_object (suc n) (suc a) k seen e p h =
        let f = formed.classes a k e in
        let s = parent-super P (suc a) f.parent (ap (λ o. option_and_then (λ k. k.parent) o) e ∙ f.has_parent) in
        through s (to_object n f.parent.0 f.above (suc a ∷ seen) f.parent_stands (passed_more P formed.acyclic seen s p) (omega (arith, h)))

    pub top_object : (a : ℕ) (k : PlainClass) → slice_get P.classes a ≡ Some k → IsSubclass P a 0
    top_object a k e = to_object (length P.classes) a k [] e (none_passed P a) (omega arith)

    top : (a : ℕ) → a < length F.classes.items → IsBelow F a 0
    top a h = let z = below_at F.classes.items a h in let k = class_at a z.0 z.1 in subclass_below (top_object a k.plain k.stands)

    -- a type with something above it is none of the program's first
    pub record IsUnder (a : ℕ) : Type 0 where
      pub class : PlainClass
      pub stands : slice_get P.classes a ≡ Some class
      pub as_formed : IsFormedClass P class

    under_at : (a : ℕ) (k : PlainClass) (p : ClassId) → slice_get P.classes a ≡ Some k → k.parent ≡ Some p → IsUnder a
    under_at zero k p e h = absurd (no_parent (sym (ap (λ k. k.parent) (same_Some _ _ (sym e ∙ formed.object.first)) ∙ formed.object.parent) ∙ h))
      where
        no_parent : None ≡ Some p → ⊥
        no_parent d = cc
    under_at (suc a) k p e h = record { class = k; stands = e; as_formed = formed.classes a k e }

    class_with : (a : ℕ) (p : ClassId) → parent_of P a ≡ Some p → (k : PlainClass) × (slice_get P.classes a ≡ Some k) × (k.parent ≡ Some p)
    class_with a p h = go (slice_get P.classes a) refl h
      where
        go : (o : Option PlainClass) → slice_get P.classes a ≡ o → option_and_then (λ k. k.parent) o ≡ Some p → (k : PlainClass)
            × (slice_get P.classes a ≡ Some k) × (k.parent ≡ Some p)
        go None e d = absurd (cc)
        go (Some k) e d = (k, e, d)

    parents : (a : ℕ) (p : ClassId) → is_interface F a ≡ false → parent_in F a ≡ Some p → is_interface F p.0 ≡ false
    parents a p i h =
        let z = class_with a p (sym (parent_same a) ∙ h) in
        let u = under_at a z.0 p z.1 z.2 in
        let q = same_Some _ _ (sym u.as_formed.has_parent ∙ ap (λ k. k.parent) (same_Some _ _ (sym u.stands ∙ z.1)) ∙ z.2) in
        interface_same p.0 u.as_formed.above (subst (λ c. slice_get P.classes c.0 ≡ Some u.as_formed.above) q u.as_formed.parent_stands)
        ∙ u.as_formed.parent_class

    roots : (a : ℕ) (p : ClassId) → is_interface F a ≡ true → parent_in F a ≡ Some p → p.0 ≡ 0
    roots a p i h =
        let z = class_with a p (sym (parent_same a) ∙ h) in
        let u = under_at a z.0 p z.1 z.2 in
        let q = same_Some _ _ (sym u.as_formed.has_parent ∙ ap (λ k. k.parent) (same_Some _ _ (sym u.stands ∙ z.1)) ∙ z.2) in
        sym (ap (λ c. c.0) q) ∙ u.as_formed.interface_parent (sym (interface_same a u.class u.stands) ∙ i)

    face_at : (a : ℕ) (k : PlainClass) (f : ClassId) → slice_get P.classes a ≡ Some k → Contains k.faces f → IsUnder a
    face_at zero k f e c = absurd
        (omega (arith, (subst (λ z. Contains z f) (ap (λ k. k.faces) (same_Some _ _ (sym e ∙ formed.object.first)) ∙ formed.object.faces) c).1))
    face_at (suc a) k f e c = record { class = k; stands = e; as_formed = formed.classes a k e }

    class_facing : (a : ℕ) (f : ClassId) → Contains (faces_of P a) f → (k : PlainClass) × (slice_get P.classes a ≡ Some k) × Contains k.faces f
    class_facing a f h = go (slice_get P.classes a) refl h
      where
        go : (o : Option PlainClass) → slice_get P.classes a ≡ o → Contains (option_map_or (λ k. k.faces) o []) f → (k : PlainClass)
            × (slice_get P.classes a ≡ Some k) × Contains k.faces f
        go None e d = absurd (omega (arith, d.1))
        go (Some k) e d = (k, e, d)

    faces : (a : ℕ) (f : ClassId) → Contains (faces_in F a) f → is_interface F f.0 ≡ true
    faces a f h =
        let z = class_facing a f (subst (λ z. Contains z f) (faces_same a) h) in
        let u = face_at a z.0 f z.1 z.2 in
        let i = u.as_formed.faces f (subst (λ k. Contains k.faces f) (same_Some _ _ (sym z.1 ∙ u.stands)) z.2) in
        interface_same f.0 i.0 i.1 ∙ i.2

    holder_class : (i : ColumnItem) → Stands P i → (kind_of i ≡ kind.Fld) ⊎ (kind_of i ≡ kind.Def) → is_interface F (owner_of P i) ≡ false
    holder_class _ (for_field f k e s) h =
        let y = formed.fields f k e in
        ap (λ o. is_interface F (option_map_or (λ k. k.owner) o 0)) e ∙ interface_same k.owner y.holder y.stands ∙ y.class
    holder_class _ (for_body m k e s b) h =
        let y = formed.methods m k e in
        ap (λ o. is_interface F (option_map_or (λ k. k.owner) o 0)) e ∙ interface_same k.owner y.holder y.stands
        ∙ false_from_ne_true y.holder.is_interface (λ i. bodied k.body b (y.in_interface i).1)
      where
        bodied : {A : Type 0} (o : Option A) → is_some o ≡ true → o ≡ None → ⊥
        bodied None p q = false≢true p
        bodied (Some x) p q = cc
    holder_class _ (for_declaration m k e s) h = ⊎_elim (λ d. absurd (cc)) (λ d. absurd (cc)) h
    holder_class _ (for_mark c) h = ⊎_elim (λ d. absurd (cc)) (λ d. absurd (cc)) h

    fields : (c : ℕ) → c < length F.columns.items → (column_kind F c ≡ kind.Fld) ⊎ (column_kind F c ≡ kind.Def) → is_interface F (column_class F c) ≡ false
    fields c h k =
        let z = item_of P F facts c h in
        ap (λ i. is_interface F i.class.0) z.info ∙ holder_class z.item z.stands (subst (λ i. (i.kind ≡ kind.Fld) ⊎ (i.kind ≡ kind.Def)) z.info k)

    pub classes_in_order : AreClassesInOrder F
    classes_in_order = record { acyclic = acyclic; top = top; parents = parents; faces = faces; roots = roots; fields = fields }
