-- The program that a tree resolves to is formed.
use Rattle.std.proofs.Common.{◌≡◌, ℕ, zero, suc, true, false, List, [], ◌∷◌, ◌++◌, map, length, Option, Some, None, Contains, refl, sym, ap, ◌∙◌, subst, arith}
use Rattle.std.specs.Prelude.{slice_get, position, codes}
use Rattle.std.specs.Option.{is_some, option_and_then, option_map_or, option_to_list}
use Rattle.std.specs.Str.{bytes_eq}
use Rattle.std.proofs.lemmas.Bool.{false≢true, or_parts}
use Rattle.std.proofs.lemmas.List.{length-map}
use Rattle.std.proofs.lemmas.Option.{slice_get_within}
use Rattle.std.proofs.lemmas.Slice.Eq.{bytes_eq-Decides}
use Rattle.kaba_base.specs.declared.ClassId.{ClassId}
use Rattle.kaba_base.proofs.ListLemmas.{map_at, at_map, at_contains}
use Rattle.kaba_base.proofs.TestLemmas.{none_of}
use Rattle.java_lex.specs.Writable.{IsName}
use Rattle.java_tree.specs.declared.Id.{Id}
use Rattle.java_tree.specs.declared.TypeName.{TypeName}
use Rattle.java_tree.specs.Syntax.{DeclTree, ClassTree, InterfaceTree}
use Rattle.java_core.specs.declared.Ty.{Ty}
use Rattle.java_core.specs.declared.TyBase.{TyBase}
use Rattle.java_tree.specs.declared.TypeBase.{TypeBase}
use Rattle.java_tree.specs.declared.TypeBase.TheVariants as bases
use Rattle.java_core.specs.Programs.{Plain, PlainClass}
use Rattle.java_core.specs.Classes.{parent_of, IsSubclass, same_class, through, IsProperSubclass, first_or, nearest, own_field_of, field_of, is_field_of}
use Rattle.java_core.specs.Formed.{IsClass, IsKnownBase, IsProgramType, IsVariableName, HasObject, IsFormedClass, HasNoTwice}
use Rattle.java_core.proofs.Subclasses.{supers-within}
use Rattle.name_rules.specs.Outline.{types_in, type_named, is_known, is_type_name, id_meant, parent_named, faces_named, parent_meant, type_meant, name_of, is_interface_of, object, class_outline, outline}
use Rattle.name_rules.specs.Meanings.{type_names, class_named, Means, MeansBase, an_int, a_boolean, a_char, a_text, a_class}
use Rattle.name_laws.proofs.TypeNames.{type-meant}
use Rattle.java_tree.specs.Formed.{Each, IsFormedDecl}
use Rattle.name_laws.proofs.Sees.{same_some}
use Rattle.name_laws.proofs.KnownTypes.{named-stands, unnamed-stands}
use Rattle.name_laws.proofs.KnownClasses.{type_names-outline, id-meant}
use Rattle.name_laws.proofs.Reached.{class_stands}
use Rattle.name_laws.proofs.Bridge.{Steps, P}

-- ---- programs that have the same superclasses and the same own fields find the same fields

alike-nearest : (P O : Plain) (n : List ℕ) → ((c : ℕ) → own_field_of P c n ≡ own_field_of O c n) → ((c : ℕ) → parent_of P c ≡ parent_of O c) → (s c : ℕ)
    → nearest P (λ k. own_field_of P k n) s c ≡ nearest O (λ k. own_field_of O k n) s c
alike-nearest P O n own up zero c = own c
alike-nearest P O n own up (suc s) c =
    ap (λ z. first_or z (option_and_then (λ p. nearest P (λ k. own_field_of P k n) s p.0) (parent_of P c))) (own c)
    ∙ ap (λ z. first_or (own_field_of O c n) (option_and_then (λ p. nearest P (λ k. own_field_of P k n) s p.0) z)) (up c)
    ∙ ap (first_or (own_field_of O c n)) (go (parent_of O c) (λ p. alike-nearest P O n own up s p))
  where
    go : (o : Option ClassId) → ((p : ℕ) → nearest P (λ k. own_field_of P k n) s p ≡ nearest O (λ k. own_field_of O k n) s p)
        → option_and_then (λ p. nearest P (λ k. own_field_of P k n) s p.0) o ≡ option_and_then (λ p. nearest O (λ k. own_field_of O k n) s p.0) o
    go None more = refl
    go (Some p) more = more p.0

pub alike-field : (P O : Plain) → P.classes ≡ O.classes → P.fields ≡ O.fields → (c : ℕ) (n : List ℕ) → field_of P c n ≡ field_of O c n
unfolding field_of
alike-field P O classes fields c n =
    alike-nearest P O n (λ c. ap (position (λ f. is_field_of c n f)) fields)
    (λ c. ap (λ z. option_and_then (λ k. k.parent) (slice_get z c)) classes) (length P.classes) c
    ∙ ap (λ z. nearest O (λ k. own_field_of O k n) (length z) c) classes

pub classes-subclass : (P O : Plain) → P.classes ≡ O.classes → {a b : ℕ} → IsSubclass P a b → IsSubclass O a b
classes-subclass P O e same_class = same_class
classes-subclass P O e {a} (through {c = c} direct rest) =
    through (subst (λ z. Contains (option_to_list (option_and_then (λ k. k.parent) (slice_get z a)) ++ option_map_or (λ k. k.faces) (slice_get z a)
    []) c) e direct) (classes-subclass P O e rest)

pub classes-proper : (P O : Plain) → P.classes ≡ O.classes → {a b : ℕ} → IsProperSubclass P a b → IsProperSubclass O a b
classes-proper P O e {a} h =
    record {
      by = h.by;
      direct = subst (λ z. Contains (option_to_list (option_and_then (λ k. k.parent) (slice_get z a)) ++ option_map_or
          (λ k. k.faces) (slice_get z a) []) h.by) e h.direct;
      rest = classes-subclass P O e h.rest;
    }

pub each-of : {A : Type 0} (F : A → Type 0) (xs : List A) (i : ℕ) (x : A) → Each F xs → slice_get xs i ≡ Some x → F x
each-of F [] i x g e = absurd (cc e)
each-of F (y ∷ ys) zero x g e = subst F (same_some e) g.0
each-of F (y ∷ ys) (suc i) x g e = each-of F ys i x g.1 e

decl-name : (d : DeclTree) → IsFormedDecl d → IsName (name_of d)
decl-name (ClassTree mods n parent faces xs p) g = g.1
decl-name (InterfaceTree mods n parents hs p) g = g.1

module _ (tree : List DeclTree) (s : Steps tree) where
  pub within-classes : (n : List ℕ) (c : ℕ) → class_named (outline tree) n ≡ Some c → IsClass (P tree s) c
  within-classes n c e =
      let a = slice_get_within (type_names (outline tree)) c n (named-stands (type_names (outline tree)) n c e) in
      let b = length-map (outline tree).classes (λ k. k.name) in omega (arith, a, b)

  -- a name that no type has
  pub free-name : (x : List ℕ) → IsName x → is_type_name (types_in tree) x ≡ false → IsVariableName (P tree s) x
  free-name x name e =
      let a = or_parts (is_some (type_named (types_in tree) x)) (is_known x) e in
      let b = or_parts (bytes_eq (codes "String") x) (bytes_eq (codes "System") x) a.1 in
      record {
        name = name;
        no_class = λ c k at same. unnamed-stands (types_in tree) x (none_of (type_named (types_in tree) x) a.0) c
            (ap (λ z. slice_get z c) (sym (type_names-outline tree)) ∙ at_map (λ k. k.name) (P tree s).classes c k at ∙ ap Some same);
        no_string = λ same. false≢true (sym b.0 ∙ (bytes_eq-Decides (codes "String") x).1 (sym same));
        no_system = λ same. false≢true (sym b.1 ∙ (bytes_eq-Decides (codes "System") x).1 (sym same));
      }

  pub formed-object : HasObject (P tree s)
  unfolding outline
  formed-object = record { object = object; first = refl; name = refl; class = refl; concrete = refl; parent = refl; faces = refl }

  pub formed-class : (c : ℕ) (k : PlainClass) → slice_get (P tree s).classes (suc c) ≡ Some k → IsFormedClass (P tree s) k
  formed-class c k e =
      let b = class_stands tree c k e in
      subst (IsFormedClass (P tree s)) b.2 (of-decl b.0 c b.1)
    where
      of-decl : (d : DeclTree) (j : ℕ) → slice_get tree j ≡ Some d → IsFormedClass (P tree s) (class_outline (types_in tree) d)
      of-decl d j at =
          let u = or_parts (bytes_eq (codes "String") (name_of d)) (bytes_eq (codes "System") (name_of d)) (s.are.apart j d at) in
          let p = up (parent_named d) refl in
          record {
            name = decl-name d (each-of IsFormedDecl tree j d s.formed at);
            no_string = λ same. false≢true (sym u.0 ∙ (bytes_eq-Decides (codes "String") (name_of d)).1 (sym same));
            no_system = λ same. false≢true (sym u.1 ∙ (bytes_eq-Decides (codes "System") (name_of d)).1 (sym same));
            parent = parent_meant (types_in tree) (parent_named d);
            has_parent = refl;
            above = p.0;
            parent_stands = p.1;
            parent_class = p.2;
            interface_parent = of-interface d;
            faces = λ f has.
                let x = at_contains (map (id_meant (types_in tree)) (faces_named d)) f has in
                let y = map_at (id_meant (types_in tree)) (faces_named d) x.0 f x.1 in
                let a = (s.supers j d at).faces x.0 y.0 y.1 in
                (a.class, ap (λ z. slice_get (P tree s).classes z.0) (sym y.2 ∙ id-meant tree s.known s.are y.0 a.number a.named) ∙ a.stands, a.kind);
            faces_once = (s.supers j d at).once;
          }
        where
          of-interface : (d : DeclTree) → is_interface_of d ≡ true → (parent_meant (types_in tree) (parent_named d)).0 ≡ 0
          of-interface (ClassTree mods n parent faces xs p) e = absurd (false≢true e)
          of-interface (InterfaceTree mods n parents hs p) e = refl

          up : (o : Option Id) → parent_named d ≡ o → (k : PlainClass) × (slice_get (P tree s).classes (parent_meant (types_in tree) o).0 ≡ Some k)
              × (k.is_interface ≡ false)
          up None e = (formed-object.object, formed-object.first, formed-object.class)
          up (Some i) e =
              let a = (s.supers j d at).parent i e in
              (a.class, ap (λ z. slice_get (P tree s).classes z.0) (id-meant tree s.known s.are i a.number a.named) ∙ a.stands, a.kind)

  pub formed-names : HasNoTwice (map (λ k. k.name) (P tree s).classes)
  formed-names = subst HasNoTwice (sym (type_names-outline tree)) s.are.once

  pub formed-acyclic : (c : ℕ) → IsProperSubclass (P tree s) c c → ⊥
  formed-acyclic c h =
      let g = classes-proper (P tree s) (outline tree) refl h in
      s.loops.none c (supers-within (outline tree) c g.by g.direct) g

  pub known-base : (b : TypeBase) (x : TyBase) → MeansBase (outline tree) b x → IsKnownBase (P tree s) x
  known-base bases.Int x an_int = tt
  known-base bases.Boolean x a_boolean = tt
  known-base bases.Char x a_char = tt
  known-base (bases.Named n) x (a_text e) = tt
  known-base (bases.Named n) x (a_class {c = c} e f) = within-classes n c f

  -- the type that the outline has for a name is one of the program
  pub meant-type : (u : TypeName) (t : Ty) → Means (outline tree) u t → IsProgramType (P tree s) (type_meant (types_in tree) u)
  meant-type u t m = subst (IsProgramType (P tree s)) (type-meant (outline tree) u t m ∙ ap (λ z. type_meant z u) (type_names-outline tree))
      (known-base u.base t.base m.base)
