-- The types above those of an outline: nothing above Object, and Object alone as the parent of an interface.
use Rattle.std.proofs.Common.{◌≡◌, ℕ, zero, suc, true, List, map, Option, Some, None, Contains, refl, sym, ap, ◌∙◌, subst, arith}
use Rattle.std.specs.Prelude.{slice_get, option_and_then}
use Rattle.std.proofs.lemmas.Bool.{false≢true}
use Rattle.kaba_base.specs.declared.ClassId.{ClassId}
use Rattle.kaba_base.proofs.ListLemmas.{at_contains, map_at, no-member}
use Rattle.java_tree.specs.Syntax.{DeclTree, ClassTree, InterfaceTree}
use Rattle.java_core.specs.Programs.{PlainClass}
use Rattle.java_core.specs.Classes.{parent_of, faces_of, supers_of}
use Rattle.java_tree.specs.declared.Id.{Id}
use Rattle.name_rules.specs.Outline.{is_interface_of, parent_named, faces_named, types_in, id_meant, parent_meant, object, outline}
use Rattle.name_laws.specs.Known.{KnownClass}
use Rattle.name_laws.proofs.Sees.{same_some}
use Rattle.name_laws.proofs.KnownTypes.{AreKnown}
use Rattle.name_laws.proofs.KnownClasses.{HasSupers, id-meant}
use Rattle.name_laws.proofs.Reached.{class_stands}

module _ (tree : List DeclTree) where
  pub nothing-above : (c : ClassId) → Contains (supers_of (outline tree) 0) c → ⊥
  unfolding outline
  nothing-above c h = let e = h.1 in omega (arith, e)

  of-object : (k : ClassId) → Contains (faces_of (outline tree) 0) k → ⊥
  unfolding outline
  of-object k h = let e = h.1 in omega (arith, e)

  object-class : (k : PlainClass) → slice_get (outline tree).classes 0 ≡ Some k → k.is_interface ≡ true → ⊥
  unfolding outline
  object-class k e i = false≢true (ap (λ z. z.is_interface) (same_some e) ∙ i)

  interface-parent : (d : DeclTree) → is_interface_of d ≡ true → (parent_meant (types_in tree) (parent_named d)).0 ≡ 0
  interface-parent (ClassTree mods n parent faces xs p) e = absurd (false≢true e)
  interface-parent (InterfaceTree mods n parents hs p) e = refl

  -- an interface has Object as its parent
  pub interface-object : (c : ℕ) (p : ClassId) (k : PlainClass) → slice_get (outline tree).classes c ≡ Some k → k.is_interface ≡ true
      → parent_of (outline tree) c ≡ Some p → p.0 ≡ 0
  interface-object zero p k at i up = absurd (object-class k at i)
  interface-object (suc c) p k at i up =
      let d = class_stands tree c k at in
      let parent : parent_of (outline tree) (suc c) ≡ Some (parent_meant (types_in tree) (parent_named d.0)) =
      rw at (ap (λ z. z.parent) (sym d.2)) in
      ap (λ z. z.0) (sym (same_some (sym parent ∙ up))) ∙ interface-parent d.0 (ap (λ z. z.is_interface) d.2 ∙ i)

  module _ (known : List KnownClass) (are : AreKnown tree known) (supers : (i : ℕ) (d : DeclTree) → slice_get tree i ≡ Some d → HasSupers tree d) where
    -- what is named as an interface is one
    pub face-stands : (c : ℕ) (f : ClassId) → Contains (faces_of (outline tree) c) f
        → (k : PlainClass) × (slice_get (outline tree).classes f.0 ≡ Some k) × (k.is_interface ≡ true)
    face-stands zero f has = absurd (of-object f has)
    face-stands (suc c) f has = go (slice_get (outline tree).classes (suc c)) refl
      where
        go : (o : Option PlainClass) → slice_get (outline tree).classes (suc c) ≡ o
            → (k : PlainClass) × (slice_get (outline tree).classes f.0 ≡ Some k) × (k.is_interface ≡ true)
        go None e = no-member f (rw e at has)
        go (Some k) e =
            let d = class_stands tree c k e in
            let faces : Contains k.faces f = rw e at has in
            let x = at_contains (map (id_meant (types_in tree)) (faces_named d.0)) f (subst (λ (z : PlainClass). Contains z.faces f) (sym d.2) faces) in
            let y = map_at (id_meant (types_in tree)) (faces_named d.0) x.0 f x.1 in
            let a = (supers c d.0 d.1).faces x.0 y.0 y.1 in
            (a.class, ap (λ z. slice_get (outline tree).classes z.0) (sym y.2 ∙ id-meant tree known are y.0 a.number a.named) ∙ a.stands, a.kind)

    -- what a class extends is there
    pub parent-stands : (c : ℕ) (b : ClassId) → parent_of (outline tree) c ≡ Some b → (k : PlainClass) × (slice_get (outline tree).classes b.0 ≡ Some k)
    unfolding outline
    parent-stands zero b up = absurd (cc up)
    parent-stands (suc c) b up = go (slice_get (outline tree).classes (suc c)) refl
      where
        of-decl : (d : DeclTree) → slice_get tree c ≡ Some d → (o : Option Id) → parent_named d ≡ o
            → (k : PlainClass) × (slice_get (outline tree).classes (parent_meant (types_in tree) o).0 ≡ Some k)
        of-decl d at None e = (object, refl)
        of-decl d at (Some i) e =
            let a = (supers c d at).parent i e in
            (a.class, ap (λ z. slice_get (outline tree).classes z.0) (id-meant tree known are i a.number a.named) ∙ a.stands)

        go : (o : Option PlainClass) → slice_get (outline tree).classes (suc c) ≡ o → (k : PlainClass) × (slice_get (outline tree).classes b.0 ≡ Some k)
        go None e = absurd (cc (sym (ap (option_and_then (λ k. k.parent)) e) ∙ up))
        go (Some k) e =
            let d = class_stands tree c k e in
            let parent : parent_meant (types_in tree) (parent_named d.0) ≡ b =
            same_some (ap (λ z. z.parent) d.2 ∙ sym (ap (option_and_then (λ k. k.parent)) e) ∙ up) in
            subst (λ z. (k : PlainClass) × (slice_get (outline tree).classes z.0 ≡ Some k)) parent (of-decl d.0 d.1 (parent_named d.0) refl)
