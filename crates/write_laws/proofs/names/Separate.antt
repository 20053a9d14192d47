-- No type of the written tree has two fields or two methods of one name.
use Rattle.std.proofs.Common.{◌≡◌, ℕ, ◌<◌, ◌&&◌, Bool, true, false, List, [], ◌∷◌, Some, Contains, refl, sym, ◌∙◌, subst, arith}
use Rattle.std.specs.Prelude.{slice_get, ◌==◌}
use Rattle.std.proofs.lemmas.Bool.{and_parts, eqb-true}
use Rattle.java_tree.specs.Syntax.{MemberTree, FieldTree, MethodTree, DeclTree}
use Rattle.java_core.specs.Programs.{Plain, PlainField, PlainMethod}
use Rattle.kaba_order.specs.Orders.{is_live}
use Rattle.fact_model.specs.declared.facts.Facts.{Facts}
use Rattle.fact_model.specs.declared.sets.PointsTo.{PointsTo}
use Rattle.hier_model.specs.Hierarchies.{Hierarchy, is_class_node}
use Rattle.flow_rules.specs.Ordered.{each, when}
use Rattle.flow_rules.proofs.Listed.{when_from, one_from, each_from_zero}
use Rattle.name_rules.specs.Outline.{FieldAt, MethodAt, fields_in, methods_in}
use Rattle.flow_rules.specs.declared.items.RowItem.TheVariants as row
use Rattle.write_model.specs.Names.{nowhere, written_type}
use Rattle.write_model.specs.Members.{head, body, static_field_member, static_method_member, holder_members, make_member, maker_member, site_member, make_members}
use Rattle.write_model.specs.Written.{type_tree}
use Rattle.name_rules.proofs.NoMakers.{methods_written}
use Rattle.write_model.proofs.NoMaker.{no_maker}
use Rattle.write_laws.proofs.rebuilds.Nodes.{items, tree, Declares, a_node, a_holder, declares, a_makers}
use Rattle.write_laws.proofs.names.Origins.{R, old_words}
use Rattle.write_laws.specs.names.Laws.{IsNamedProgram}
use Rattle.write_laws.proofs.names.Once.{Once, once_at, append_once, when_once, one_once}
use Rattle.write_laws.proofs.names.Declared.{SameMember, SameField, SameMethod, MembersApart, fields_apart, methods_apart}
use Rattle.write_laws.proofs.names.AtNodes.{all_once, class_once, interface_once, option_once}
use Rattle.flow_rules.specs.declared.items.Site.{Site}
use Rattle.flow_rules.specs.Numbered.{sites_of}
use Rattle.java_core.specs.Makers.{maker_of}
use Rattle.rebuild_model.specs.Renaming.{make_name, renaming_of}
use Rattle.write_laws.proofs.rebuilds.Members.{site_from}
use Rattle.write_laws.proofs.rebuilds.Fixed.{one_make}

same_from : (x y u v : MemberTree) → u ≡ x → v ≡ y → SameMember x y → SameMember u v
same_from x y u v a b e = subst (λ z. SameMember u z) (sym b) (subst (λ z. SameMember z y) (sym a) e)

-- two static members of one class that are written the same are one
two : (c f g : ℕ) (s t : Bool) (o r : ℕ) (u v x y : MemberTree) → Contains (when (s && (o == c)) (u ∷ [])) x → Contains (when (t && (r == c)) (v ∷ [])) y
    → SameMember x y → f < g → (o ≡ r → SameMember u v → f ≡ g) → ⊥
two c f g s t o r u v x y a b e lt same =
    let m = when_from (s && (o == c)) (u ∷ []) x a in
    let n = when_from (t && (r == c)) (v ∷ []) y b in
    let owner : o ≡ r = eqb-true o c (and_parts s (o == c) m.0).1 ∙ sym (eqb-true r c (and_parts t (r == c) n.0).1) in
    omega (arith, lt, same owner (same_from x y u v (one_from _ x m.1) (one_from _ y n.1) e))

module _ {P : Plain} {F : Facts} {pt : PointsTo} {H : Hierarchy} (G : IsNamedProgram P F pt H) where
  abbrev T : List DeclTree
  T = tree P F H

  abbrev old_field : ℕ → PlainField → MemberTree
  old_field f k = FieldTree (old_words P F H) (written_type P H ((R P F H).row_type (row.Field f)) k.ty) k.name nowhere

  abbrev old_method : ℕ → PlainMethod → MemberTree
  old_method m k = MethodTree (head P (R P F H) H (old_words P F H) k.name m k) (body P (R P F H) H m k) nowhere

  two_fields : (c f g : ℕ) (k l : PlainField) (x y : MemberTree) → slice_get P.fields f ≡ Some k → slice_get P.fields g ≡ Some l → f < g
      → Contains (static_field_member P (R P F H) H c f k) x → Contains (static_field_member P (R P F H) H c g l) y → SameMember x y → ⊥
  two_fields c f g k l x y p q lt a b e = two c f g k.is_static l.is_static k.owner l.owner (old_field f k) (old_field g l) x y a b e lt
      (λ owner name. G.formed.field_names f g k l p q owner name)

  two_methods : (c m n : ℕ) (k l : PlainMethod) (x y : MemberTree) → slice_get P.methods m ≡ Some k → slice_get P.methods n ≡ Some l → m < n
      → Contains (static_method_member P (R P F H) H c m k) x → Contains (static_method_member P (R P F H) H c n l) y → SameMember x y → ⊥
  two_methods c m n k l x y p q lt a b e = two c m n k.is_static l.is_static k.owner l.owner (old_method m k) (old_method n l) x y a b e lt
      (λ owner name. G.formed.method_names m n k l p q owner name)

  field_method : (c f m : ℕ) (k : PlainField) (l : PlainMethod) (x y : MemberTree) → Contains (static_field_member P (R P F H) H c f k) x
      → Contains (static_method_member P (R P F H) H c m l) y → SameMember x y → ⊥
  field_method c f m k l x y a b e =
      let u = when_from (k.is_static && (k.owner == c)) _ x a in
      let v = when_from (l.is_static && (l.owner == c)) _ y b in
      same_from x y (old_field f k) (old_method m l) (one_from _ x u.1) (one_from _ y v.1) e

  holder_once : (c : ℕ) → Once SameMember (holder_members P (R P F H) H c)
  holder_once c =
      append_once SameMember (each (static_field_member P (R P F H) H c) 0 P.fields) (each (static_method_member P (R P F H) H c) 0 P.methods)
      (all_once SameMember (static_field_member P (R P F H) H c) P.fields
      (λ f k e. when_once SameMember (k.is_static && (k.owner == c)) _ (λ y d. absurd (let l = d.1 in omega (arith, l)), tt))
      (λ f g k l a b p q lt x y e. two_fields c f g k l a b p q lt x y e))
      (all_once SameMember (static_method_member P (R P F H) H c) P.methods
      (λ m k e. when_once SameMember (k.is_static && (k.owner == c)) _ (λ y d. absurd (let l = d.1 in omega (arith, l)), tt))
      (λ m n k l a b p q lt x y e. two_methods c m n k l a b p q lt x y e))
      (λ a b x y e.
      let u = each_from_zero (static_field_member P (R P F H) H c) P.fields a x in
      let v = each_from_zero (static_method_member P (R P F H) H c) P.methods b y in
      field_method c u.0 v.0 u.1 v.1 a b u.3 v.3 e)

  -- the methods that make objects are apart by their fixed names
  make_called : (n : ℕ) → make_name P n ≡ (R P F H).make_name n
  unfolding renaming_of
  make_called n = refl

  two_makes : (s t : ℕ) (y z : Site) (a b : MemberTree) → slice_get (sites_of P) s ≡ Some y → slice_get (sites_of P) t ≡ Some z → s < t
      → Contains (site_member P (R P F H) H s y) a → Contains (site_member P (R P F H) H t z) b → SameMember a b → ⊥
  two_makes s t y z a b p q lt c d e =
      let u = site_from P (R P F H) H s y a p c in
      let v = site_from P (R P F H) H t z b q d in
      let name = same_from a b (make_member P (R P F H) H y.number y.ty.class.0 u.maker u.method)
      (make_member P (R P F H) H z.number z.ty.class.0 v.maker v.method) u.is v.is e in
      let one = one_make P G.formed s t (record { site = y; stands = p; object = u.object; maker = u.maker; has = u.has })
      (record { site = z; stands = q; object = v.object; maker = v.maker; has = v.has })
      (make_called y.number ∙ name ∙ sym (make_called z.number)) in
      omega (arith, one, lt)

  one_site : (s : ℕ) (z : Site) → Once SameMember (site_member P (R P F H) H s z)
  one_site s z =
      when_once SameMember (z.ty.dim == 0) _
      (option_once SameMember (maker_member P (R P F H) H z.number z.ty.class.0) (maker_of P z.ty.class.0)
      (λ m. option_once SameMember (λ k. make_member P (R P F H) H z.number z.ty.class.0 m k ∷ []) (slice_get P.methods m)
      (λ k. one_once SameMember (make_member P (R P F H) H z.number z.ty.class.0 m k))))

  makes_once : Once SameMember (make_members P (R P F H) H)
  makes_once =
      all_once SameMember (site_member P (R P F H) H) (sites_of P) (λ s z e. one_site s z)
      (λ s t y z a b p q lt c d e. two_makes s t y z a b p q lt c d e)

  type_apart : (b : Bool) (n : ℕ) → is_live H.order n ≡ true → is_class_node F H n ≡ b → MembersApart (type_tree P (R P F H) F H (items P F H) b n)
  type_apart true n live class = class_once G n live class
  type_apart false n live class = interface_once G n live

  declared_apart : (d : DeclTree) → Declares P F H d → MembersApart d
  declared_apart _ (a_node n live) = type_apart (is_class_node F H n) n live refl
  declared_apart _ (a_holder c k e h) = holder_once c
  declared_apart _ (a_makers m e) = makes_once

  pub members_apart : (i : ℕ) (d : DeclTree) → slice_get T i ≡ Some d → MembersApart d
  members_apart i d e = declared_apart d (declares P F H i d e)

  pub fields_are_apart : (i j : ℕ) (f g : FieldAt) → slice_get (fields_in T) i ≡ Some f → slice_get (fields_in T) j ≡ Some g → i < j
      → f.owner ≡ g.owner → f.name ≡ g.name → ⊥
  fields_are_apart i j f g p q lt o e = once_at SameField (fields_in T) (fields_apart 1 T members_apart) i j f g p q lt (o, e)

  pub methods_are_apart : (i j : ℕ) (h k : MethodAt) → slice_get (methods_in T) i ≡ Some h → slice_get (methods_in T) j ≡ Some k → i < j
      → h.owner ≡ k.owner → h.head.name ≡ k.head.name → ⊥
  methods_are_apart i j h k p q lt o e = once_at SameMethod (methods_in T)
      (subst (Once SameMethod) (sym (methods_written T (no_maker P F H))) (methods_apart 1 T members_apart)) i j h k p q lt (o, e)
