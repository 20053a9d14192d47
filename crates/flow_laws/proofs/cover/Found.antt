-- Classes, subtypes and bodies that the facts find are those of the program.
use Rattle.std.proofs.Common.{◌≡◌, ℕ, zero, suc, ◌+◌, List, [], ◌∷◌, ◌++◌, Option, Some, None, length, refl, sym, ap, ◌∙◌, subst, arith, ⊎_elim}
use Rattle.std.specs.Prelude.{◌==◌, not, true, false, slice_get, Contains}
use Rattle.std.specs.Option.{option_map_or, option_and_then, option_to_list, is_some}
use Rattle.std.specs.List.{flat_map}
use Rattle.std.proofs.lemmas.Option.{same_Some, slice_get-get_or}
use Rattle.std.proofs.lemmas.List.{length-map}
use Rattle.std.proofs.lemmas.List.Elements.{Contains-append_cases}
use Rattle.java_meaning.proofs.Calls.{mapped_some}
use Rattle.kaba_base.specs.declared.ClassId.{ClassId}
use Rattle.java_core.specs.Programs.{Plain, PlainClass, PlainField, PlainMethod}
use Rattle.java_core.specs.Classes as java
use Rattle.java_core.specs.Classes.{IsSubclass, same_class, through, first_or, nearest}
use Rattle.java_core.proofs.Subclasses.{below-subclass, supers-within}
use Rattle.fact_model.specs.Classes.{IsBelow, parent_of, faces_of, supers_of}
use Rattle.fact_model.specs.Classes.{same as same_below, through as through_below}
use Rattle.fact_model.specs.declared.facts.Facts.{Facts}
use Rattle.fact_model.specs.declared.facts.ClassInfo.{ClassInfo}
use Rattle.kaba_base.specs.declared.Place.{Place}
use Rattle.flow_rules.specs.declared.items.ObjectType.{ObjectType}
use Rattle.flow_rules.specs.Parts.{Part, a_creation, a_test, parts_of}
use Rattle.flow_rules.specs.declared.items.ColumnItem.TheVariants as column
use Rattle.flow_rules.specs.declared.items.Column.{Column}
use Rattle.flow_rules.specs.Ordered.{each, when}
use Rattle.flow_rules.specs.Numbered.{columns_of, field_columns, method_columns, mark, array_mark, form_columns}
use Rattle.flow_rules.specs.Facts.{ClassFacts, class_seen, class_facts, is_holder, IsFactsOf}
use Rattle.flow_rules.proofs.Listed.{at_contains, each_from, flat_from, when_from}
use Rattle.flow_rules.proofs.NumberedItems.{numbered_columns}
use Rattle.std.proofs.lemmas.Option.{slice_get-map}

-- one item for each
pub each_get : {A B : Type 0} (f : ℕ → A → List B) (h : ℕ → A → B) → ((n : ℕ) (x : A) → f n x ≡ h n x ∷ []) → (n : ℕ) (xs : List A) (i : ℕ) (x : A)
    → slice_get xs i ≡ Some x → (j : ℕ) → j ≡ n + i → slice_get (each f n xs) i ≡ Some (h j x)
each_get f h s n [] i x e j d = absurd (cc)
each_get f h s n (y ∷ ys) zero x e j d =
    ap (λ z. slice_get (z ++ each f (n + 1) ys) zero) (s n y)
    ∙ ap (λ z. Some z) (subst (λ w. h n y ≡ h w x) (sym (let z : j ≡ n = omega (arith, d) in z)) (ap (λ w. h n w) (same_Some y x e)))
each_get f h s n (y ∷ ys) (suc i) x e j d = ap (λ z. slice_get (z ++ each f (n + 1) ys) (suc i)) (s n y) ∙ each_get f h s (n + 1) ys i x e j (omega (arith, d))

each_length : {A B : Type 0} (f : ℕ → A → List B) (h : ℕ → A → B) → ((n : ℕ) (x : A) → f n x ≡ h n x ∷ []) → (n : ℕ) (xs : List A)
    → length (each f n xs) ≡ length xs
each_length f h s n [] = refl
each_length f h s n (y ∷ ys) = ap (λ z. length (z ++ each f (n + 1) ys)) (s n y) ∙ ap suc (each_length f h s (n + 1) ys)

none_past : {A B : Type 0} (xs : List A) (ys : List B) (i : ℕ) → length xs ≡ length ys → slice_get xs i ≡ None → slice_get ys i ≡ None
none_past [] [] i e h = refl
none_past [] (y ∷ ys) i e h = absurd (omega (arith, e))
none_past (x ∷ xs) [] i e h = refl
none_past (x ∷ xs) (y ∷ ys) zero e h = absurd (cc)
none_past (x ∷ xs) (y ∷ ys) (suc i) e h = none_past xs ys i (omega (arith, e)) h

module _ (P : Plain) (F : Facts) (facts : IsFactsOf P F) where
  abbrev facts_at : ℕ → PlainClass → ClassFacts
  facts_at c k = record { name = k.name; parent = k.parent; faces = k.faces; is_interface = k.is_interface; holder = is_holder P c }

  class_listed : (a : ℕ) (k : PlainClass) → slice_get P.classes a ≡ Some k → (c : ClassInfo) × (slice_get F.classes.items a ≡ Some c)
      × (class_seen c ≡ facts_at a k)
  class_listed a k e = mapped_some class_seen (slice_get F.classes.items a) (facts_at a k) (sym (slice_get-map class_seen F.classes.items a)
      ∙ ap (λ z. slice_get z a) facts.classes ∙ each_get (class_facts P) facts_at (λ n x. refl) 0 P.classes a k e a (omega arith))

  pub same_length : length F.classes.items ≡ length P.classes
  same_length = sym (length-map F.classes.items class_seen) ∙ ap (λ z. length z) facts.classes
      ∙ each_length (class_facts P) facts_at (λ n x. refl) 0 P.classes

  pub same_parent : (a : ℕ) → parent_of F a ≡ java.parent_of P a
  same_parent a = go (slice_get P.classes a) refl
    where
      go : (z : Option PlainClass) → slice_get P.classes a ≡ z → parent_of F a ≡ java.parent_of P a
      go None e = ap (λ z. option_and_then (λ (k : ClassInfo). k.parent) z) (none_past P.classes F.classes.items a (sym same_length) e)
          ∙ ap (λ z. option_and_then (λ (k : PlainClass). k.parent) z) (sym e)
      go (Some h) e =
          let c = class_listed a h e in
          ap (λ z. option_and_then (λ (k : ClassInfo). k.parent) z) c.1 ∙ ap (λ z. z.parent) c.2
          ∙ ap (λ z. option_and_then (λ (k : PlainClass). k.parent) z) (sym e)

  same_faces : (a : ℕ) (h : PlainClass) → slice_get P.classes a ≡ Some h → faces_of F a ≡ java.faces_of P a
  same_faces a h e =
      let c = class_listed a h e in
      ap (λ z. option_map_or (λ (k : ClassInfo). k.faces.items) z []) c.1 ∙ ap (λ z. z.faces) c.2
      ∙ ap (λ z. option_map_or (λ (k : PlainClass). k.faces) z []) (sym e)

  below_of : {a b : ℕ} → IsSubclass P a b → IsBelow F a b
  below_of same_class = same_below
  below_of {a = a} (through {c = c} d rest) = through_below (subst (λ z. Contains z c) (sym same_supers) d) (below_of rest)
    where
      same_supers : supers_of F a ≡ java.supers_of P a
      same_supers =
          let s = slice_get-get_or P.classes a (record {
            name = [];
            is_interface = false;
            is_abstract = false;
            parent = None;
            faces = [];
            tag = record
                { label = 0; place = record { at = 0; line = 0 } };
          }) (supers-within P a c d) in
          ap (λ z. option_to_list z ++ faces_of F a) (same_parent a) ∙ ap (λ z. option_to_list (java.parent_of P a) ++ z) (same_faces a _ s)

  pub is_below : (c d : ℕ) → java.below P c d ≡ true → IsBelow F c d
  is_below c d e = below_of (below-subclass P c d e)

-- what is nearest stands somewhere
pub nearest_some : (P : Plain) (f : ℕ → Option ℕ) (n c d : ℕ) → nearest P f n c ≡ Some d → (b : ℕ) × (f b ≡ Some d)
nearest_some P f zero c d e = (c, e)
nearest_some P f (suc n) c d e = go (f c) refl (java.parent_of P c) (λ p h. nearest_some P f n p.0 d h) e
  where
    up : (o : Option ClassId) → ((p : ClassId) → nearest P f n p.0 ≡ Some d → (b : ℕ) × (f b ≡ Some d)) → option_and_then (λ p. nearest P f n p.0) o
        ≡ Some d → (b : ℕ) × (f b ≡ Some d)
    up None r h = absurd (cc)
    up (Some p) r h = r p h

    go : (z : Option ℕ) → f c ≡ z → (o : Option ClassId) → ((p : ClassId) → nearest P f n p.0 ≡ Some d → (b : ℕ) × (f b ≡ Some d))
        → first_or z (option_and_then (λ p. nearest P f n p.0) o) ≡ Some d → (b : ℕ) × (f b ≡ Some d)
    go (Some y) ey o r h = (c, ey ∙ h)
    go None ey o r h = up o r h

-- a column of a body stands only where the method has one
mark_apart : (p : Place) (o : Option ObjectType) (y : Column) (m : ℕ) → Contains (mark p o) y → y.item ≡ column.Def m → ⊥
mark_apart p None y m c e = omega (arith, c.1)
mark_apart p (Some t) y m (zero, lt, d) e = let z = ap (λ w. w.item) d ∙ e in cc
mark_apart p (Some t) y m (suc k, lt, d) e = omega (arith, lt)

array_apart : (p : Place) (o : Option ObjectType) (y : Column) (m : ℕ) → Contains (array_mark p o) y → y.item ≡ column.Def m → ⊥
array_apart p None y m c e = omega (arith, c.1)
array_apart p (Some t) y m c e = mark_apart p (Some t) y m (when_from (not (t.dim == 0)) (mark p (Some t)) y c).1 e

form_apart : (p : Part) (y : Column) (m : ℕ) → Contains (form_columns p) y → y.item ≡ column.Def m → ⊥
form_apart (a_creation q u o s d es) y m c e = array_apart q o.ty y m c e
form_apart (a_test q b o) y m c e = mark_apart q o.ty y m c e
form_apart _ y m c e = omega (arith, c.1)

own_apart : (f : ℕ) (k : PlainMethod) (y : Column) (m : ℕ)
    → Contains (record { item = column.Dcl f; place = k.tag.place } ∷ when (is_some k.body) (record { item = column.Def f; place = k.tag.place }
    ∷ [])) y → y.item ≡ column.Def m → (f ≡ m) × (is_some k.body ≡ true)
own_apart f k y m (zero, lt, d) e = absurd (let z = ap (λ w. w.item) d ∙ e in cc)
own_apart f k y m (suc i, lt, d) e =
    let w = when_from (is_some k.body) (record { item = column.Def f; place = k.tag.place } ∷ []) y (i, omega (arith, lt), d) in
    (def_same f m (only_item w.1 ∙ e), w.0)
  where
    def_same : (a b : ℕ) → column.Def a ≡ column.Def b → a ≡ b
    def_same a b h = cc

    only_item : Contains (record { item = column.Def f; place = k.tag.place } ∷ []) y → column.Def f ≡ y.item
    only_item (zero, l, h) = ap (λ w. w.item) h
    only_item (suc j, l, h) = absurd (omega (arith, l))

module _ (P : Plain) where
  method_apart : (f : ℕ) (k : PlainMethod) (y : Column) (m : ℕ) → Contains (method_columns P f k) y → y.item ≡ column.Def m
      → (f ≡ m) × (is_some k.body ≡ true)
  method_apart f k y m c e = ⊎_elim
      (λ d. own_apart f k y m (when_from (not k.is_static) _ y d).1 e)
      (λ d. let z = flat_from form_columns (parts_of P f k) y d in absurd (form_apart z.0 y m z.2 e))
      (Contains-append_cases (when (not k.is_static) (record { item = column.Dcl f; place = k.tag.place } ∷ when (is_some k.body)
      (record { item = column.Def f; place = k.tag.place } ∷ []))) (flat_map form_columns (parts_of P f k)) y c)

  field_apart : (f : ℕ) (k : PlainField) (y : Column) (m : ℕ) → Contains (field_columns f k) y → y.item ≡ column.Def m → ⊥
  field_apart f k y m c e = go (when_from (not k.is_static) (record { item = column.Fld f; place = k.tag.place } ∷ []) y c).1
    where
      go : Contains (record { item = column.Fld f; place = k.tag.place } ∷ []) y → ⊥
      go (zero, lt, d) = let z = ap (λ w. w.item) d ∙ e in cc
      go (suc i, lt, d) = omega (arith, lt)

  pub body_listed : (y : Column) (m : ℕ) → Contains (columns_of P) y → y.item ≡ column.Def m → (k : PlainMethod) × (slice_get P.methods m ≡ Some k)
      × (is_some k.body ≡ true)
  body_listed y m c e =
      let i = at_contains (columns_of P) y c in
      ⊎_elim (λ d. let r = each_from field_columns 0 P.fields y d in absurd (field_apart r.1 r.2 y m r.5 e))
      (λ d. let r = each_from (method_columns P) 0 P.methods y d in let w = method_apart r.1 r.2 y m r.5 e in
      (r.2, subst (λ z. slice_get P.methods z ≡ Some r.2) (let z : r.0 ≡ m = omega (arith, w.0, r.4) in z) r.3, w.1))
      (Contains-append_cases (each field_columns 0 P.fields) (each (method_columns P) 0 P.methods) y ((numbered_columns P).from i.0 y i.1))
