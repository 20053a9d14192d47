-- A tree without places resolves to what it resolves to, its tags taken off.
use Rattle.std.proofs.Common.{◌≡◌, ℕ, List, [], ◌∷◌, map, Option, Some, None, Contains, refl, sym, ap, ◌∙◌, subst}
use Rattle.std.specs.Option.{is_some}
use Rattle.kaba_base.specs.declared.Place.{Place}
use Rattle.kaba_base.proofs.ListLemmas.{map_at, at_map, at_contains, contains_at}
use Rattle.java_tree.specs.declared.Id.{Id}
use Rattle.java_tree.specs.declared.TypeName.{TypeName}
use Rattle.java_tree.specs.Syntax.{DeclTree, ClassTree, InterfaceTree}
use Rattle.java_tree.specs.Places.{all_unplaced, may_unplaced, id_unplaced, type_unplaced, param_unplaced, decl_unplaced, unplaced}
use Rattle.java_core.specs.Programs.{Plain, PlainMethod}
use Rattle.java_core.specs.Formed.{IsMain}
use Rattle.name_rules.specs.Outline.{MethodAt, parent_named, faces_named, fields_in, methods_in, outline}
use Rattle.name_rules.specs.Meanings.{class_named}
use Rattle.name_rules.specs.Asked.{IsSuper, a_parent, a_face, IsDeclared, of_field, of_param, of_result, Asks, by_super, by_type}
use Rattle.name_rules.specs.Resolves.{Counts, BodiesResolve, heading_of, HasSlot, no_slot, a_slot, AreSlots, Resolves}
use Rattle.java_core.specs.Untagged.{untag_class, untag_field, untag_method, untagged}
use Rattle.name_laws.proofs.Sees.{same_some}
use Rattle.name_place_laws.proofs.Outlines.{all-mapped, field_at_unplaced, method_at_unplaced, fields-same, methods-same, outline-same}
use Rattle.name_place_laws.proofs.Meanings.{named-same}
use Rattle.name_place_laws.proofs.Bodies.{bodies}
use Rattle.name_place_laws.proofs.Untagged.{numbers-same, param-types-same}

-- ---- the types that are asked for

-- an item of a mapped list is the image of one
pub from-map : {A : Type 0} (u : A → A) (xs : List A) (y : A) → Contains (map u xs) y → (x : A) × Contains xs x × (u x ≡ y)
from-map u xs y h =
    let a = at_contains (map u xs) y h in let b = map_at u xs a.0 y a.1 in
    (b.0, contains_at xs a.0 b.0 b.1, b.2)

pub from-all : {A : Type 0} (u : A → A) (xs : List A) (y : A) → Contains (all_unplaced u xs) y → (x : A) × Contains xs x × (u x ≡ y)
from-all u xs y h = from-map u xs y (subst (λ z. Contains z y) (all-mapped u xs) h)

pub from-maybe : {A : Type 0} (u : A → A) (x : Option A) (y : A) → may_unplaced u x ≡ Some y → (z : A) × (x ≡ Some z) × (u z ≡ y)
from-maybe u None y e = absurd (cc e)
from-maybe u (Some x) y e = (x, refl, same_some e)

pub parent-unplaced : (d : DeclTree) → parent_named (decl_unplaced d) ≡ may_unplaced id_unplaced (parent_named d)
parent-unplaced (ClassTree ms n c fs bs p) = refl
parent-unplaced (InterfaceTree ms n fs hs p) = refl

pub faces-unplaced : (d : DeclTree) → faces_named (decl_unplaced d) ≡ all_unplaced id_unplaced (faces_named d)
faces-unplaced (ClassTree ms n c fs bs p) = refl
faces-unplaced (InterfaceTree ms n fs hs p) = refl

module _ (tree : List DeclTree) where
  super-back : (i : Id) → IsSuper (unplaced tree) i → (j : Id) × IsSuper tree j × (j.name ≡ i.name)
  super-back i (a_parent {d = d} c e) =
      let a = from-all decl_unplaced tree d c in
      let b = from-maybe id_unplaced (parent_named a.0) i (sym (parent-unplaced a.0) ∙ ap parent_named a.2 ∙ e) in
      (b.0, a_parent a.1 b.1, ap (λ z. z.name) b.2)
  super-back i (a_face {d = d} c h) =
      let a = from-all decl_unplaced tree d c in
      let b = from-all id_unplaced (faces_named a.0) i (subst (λ z. Contains z i) (ap faces_named (sym a.2) ∙ faces-unplaced a.0) h) in
      (b.0, a_face a.1 b.1, ap (λ z. z.name) b.2)

  pub method-back : (m : MethodAt) → Contains (methods_in (unplaced tree)) m → (k : MethodAt) × Contains (methods_in tree) k × (method_at_unplaced k ≡ m)
  method-back m c = from-map method_at_unplaced (methods_in tree) m (subst (λ z. Contains z m) (methods-same tree) c)

  declared-back : (u : TypeName) → IsDeclared (unplaced tree) u → (v : TypeName) × IsDeclared tree v × (v.base ≡ u.base)
  declared-back u (of_field {f = f} c) =
      let a = from-map field_at_unplaced (fields_in tree) f (subst (λ z. Contains z f) (fields-same tree) c) in
      (a.0.type, of_field a.1, ap (λ z. z.type.base) a.2)
  declared-back u (of_param {m = m} {q = q} c h) =
      let a = method-back m c in
      let b = from-all param_unplaced a.0.head.params q (subst (λ z. Contains z.head.params q) (sym a.2) h) in
      (b.0.ty, of_param a.1 b.1, ap (λ z. z.ty.base) b.2)
  declared-back u (of_result {m = m} c e) =
      let a = method-back m c in
      let b = from-maybe type_unplaced a.0.head.type u (ap (λ z. z.head.type) a.2 ∙ e) in
      (b.0, of_result a.1 b.1, ap (λ z. z.base) b.2)

  -- a name that is asked for without places is asked for at a place
  pub asked-back : (n : List ℕ) (p : Place) → Asks (unplaced tree) n p → (q : Place) × Asks tree n q
  asked-back n p (by_super {i = i} s) =
      let a = super-back i s in
      (a.0.place, subst (λ z. Asks tree z a.0.place) a.2 (by_super a.1))
  asked-back n p (by_type {u = u} d e f) =
      let a = declared-back u d in
      (a.0.place, by_type a.1 (a.2 ∙ e) f)

-- ---- slots

module _ (P : Plain) where
  has-slot : {k : PlainMethod} → HasSlot P k → HasSlot (untagged P) (untag_method k)
  has-slot (no_slot s n) = no_slot s n
  has-slot {k} (a_slot s n at of) = a_slot s n at (record { name = of.name; params = param-types-same k.params ∙ of.params; result = of.result })

  slots : AreSlots P → AreSlots (untagged P)
  slots p = record {
    each = λ m k e. let a = map_at untag_method P.methods m k e in subst (HasSlot (untagged P)) a.2 (has-slot (p.each m a.0 a.1));
    first = λ s slot e. let a = p.first s slot e in (untag_method a.0, at_map untag_method P.methods slot.first a.0 a.1, a.2);
    least = λ s m slot k e h i. let a = map_at untag_method P.methods m k h in p.least s m slot a.0 e a.1 (ap (λ z. z.slot) a.2 ∙ i);
    apart = p.apart;
    order = p.order;
  }

  pub main-bare : {k : PlainMethod} → IsMain k → IsMain (untag_method k)
  main-bare {k} m = record { static = m.static; name = m.name; params = param-types-same k.params ∙ m.params; result = m.result }

  pub main-back : (k : PlainMethod) → IsMain (untag_method k) → IsMain k
  main-back k m = record { static = m.static; name = m.name; params = sym (param-types-same k.params) ∙ m.params; result = m.result }

-- ---- the whole

pub resolves-bare : (tree : List DeclTree) (P : Plain) → Resolves tree P → Resolves (unplaced tree) (untagged P)
resolves-bare tree P r =
    let same = outline-same tree in record {
      known = λ n p h. let a = asked-back tree n p h in ap (λ z. is_some (class_named z n)) same ∙ ap is_some (named-same (outline tree) n) ∙ r.known n a.0 a.1;
      classes = ap (map untag_class) r.classes ∙ sym (ap (λ z. z.classes) same);
      fields = ap (map untag_field) r.fields ∙ sym (ap (λ z. z.fields) same);
      headings = headings P.methods ∙ ap (map untag_method) r.headings ∙ sym (ap (λ z. z.methods) same);
      bodies = subst (λ z. BodiesResolve z (methods_in (unplaced tree)) (map untag_method P.methods)) (sym same)
          (subst (λ z. BodiesResolve (untagged (outline tree)) z (map untag_method P.methods)) (sym (methods-same tree)) (bodies (outline tree) r.bodies));
      slots = slots P r.slots;
      last = r.last;
      numbers = subst (λ z. Counts 0 z r.last) (sym (numbers-same P.methods)) r.numbers;
      main = untag_method r.main;
      main_stands = at_map untag_method P.methods P.main r.main r.main_stands;
      main_is = main-bare P r.main_is;
      main_first = λ m k e h. let a = map_at untag_method P.methods m k e in r.main_first m a.0 a.1 (main-back P a.0 (subst IsMain (sym a.2) h));
    }
  where
    headings : (ks : List PlainMethod) → map heading_of (map untag_method ks) ≡ map untag_method (map heading_of ks)
    headings [] = refl
    headings (k ∷ ks) = ap (λ z. heading_of (untag_method k) ∷ z) (headings ks)
