-- Where each field and method of the written tree comes from.
use Rattle.std.proofs.Common.{◌≡◌, ℕ, suc, ◌&&◌, Bool, true, false, List, [], ◌∷◌, Option, Some, None, Contains, refl, sym, subst, arith}
use Rattle.std.specs.Prelude.{slice_get, ◌==◌}
use Rattle.std.proofs.lemmas.Bool.{and_parts, eqb-true}
use Rattle.kaba_base.specs.declared.words.Keyword.TheVariants.{Public, Static}
use Rattle.java_tree.specs.declared.Modifier.{Modifier}
use Rattle.java_tree.specs.Syntax.{DeclTree, HeadTree, MemberTree, Statements}
use Rattle.java_core.specs.Programs.{Plain, PlainClass, PlainField, PlainMethod}
use Rattle.fact_model.specs.declared.facts.Facts.{Facts}
use Rattle.kaba_order.specs.Orders.{is_live}
use Rattle.hier_model.specs.Hierarchies.{Hierarchy, is_class_node, stands_at}
use Rattle.flow_rules.specs.declared.items.ColumnItem.TheVariants as column
use Rattle.flow_rules.specs.declared.items.RowItem.TheVariants as row
use Rattle.flow_rules.specs.Facts.{is_holder, PlainMakers, makers_of}
use Rattle.name_rules.specs.declared.parts.Kind.TheVariants as kinds
use Rattle.name_rules.specs.Outline.{FieldAt, MethodAt, types_in, fields_in, methods_in, fields_declared, methods_declared, has_word, is_abstract_word}
use Rattle.name_rules.specs.Outline as outline
use Rattle.flow_rules.proofs.Listed.{map_from, when_from, one_from}
use Rattle.rebuild_model.specs.Renaming.{Renaming}
use Rattle.rebuild_model.specs.Members.{is_made_at, is_filled}
use Rattle.write_model.specs.Names.{nowhere, modifier, written_type}
use Rattle.write_model.specs.Members.{head, body, filling, class_members, interface_heads, holder_members, make_head, make_body, make_members}
use Rattle.write_model.specs.Written.{class_modifiers, type_tree}
use Rattle.write_model.proofs.NoMaker.{no_maker}
use Rattle.write_laws.proofs.rebuilds.Outlined.{fields_each, methods_in_each, declared_from, member_field_from, member_method_from}
use Rattle.write_laws.proofs.rebuilds.Nodes.{items, by_node, tree, node_tree, old_tree, Declares, a_node, a_holder, declares, makers_tree, a_makers}
use Rattle.write_laws.proofs.rebuilds.Members.{IsHeadTree, IsHeadAt, IsMember, a_field, a_body, a_head, a_filler, in_class, as_filler, class_from, interface_from, IsStatic, a_static_field, a_static_method, holder_from, IsMakeTree, makes_from, no_field_made}

-- the trees that are written, the names of the types that they declare, and their outline
pub record Written : Type 0 where
  pub trees : List DeclTree
  pub types : List (List ℕ)
  pub program : Plain

abbrev pub written : Plain → Facts → Hierarchy → Written
written P F H = record { trees = tree P F H; types = types_in (tree P F H); program = outline.outline (tree P F H) }

module _ (P : Plain) (F : Facts) (H : Hierarchy) where
  abbrev pub R : Renaming
  R = by_node P F H

  abbrev pub old_words : List Modifier
  old_words = modifier Public ∷ modifier Static ∷ []

  -- the number i is that of the node n's type in the tree, and of a class or of an interface
  pub record IsNodeAt (class : Bool) (n i : ℕ) : Type 0 where
    pub stands : slice_get (tree P F H) i ≡ Some (node_tree P F H n)
    pub live : is_live H.order n ≡ true
    pub kind : is_class_node F H n ≡ class

  -- and that of the holder of a class
  pub record IsHolderAt (c i : ℕ) (k : PlainClass) : Type 0 where
    pub stands : slice_get (tree P F H) i ≡ Some (old_tree P F H c k)
    pub class_stands : slice_get P.classes c ≡ Some k
    pub holder : is_holder P c ≡ true

  -- and that of the holder of the methods that make objects
  pub record IsMakersAt (i : ℕ) (mk : PlainMakers) : Type 0 where
    pub stands : slice_get (tree P F H) i ≡ Some (makers_tree P F H mk)
    pub has : makers_of P ≡ Some mk

  -- the declaration of a method that makes objects
  abbrev pub as_make : ℕ → (x : MemberTree) → IsMakeTree P R H x → MethodAt
  as_make i x t = record {
    owner = suc i;
    kind = kinds.Method;
    in_abstract = false;
    head = make_head P R H t.site.number t.site.ty.class.0 t.maker t.method;
    up = None;
    body = Some (make_body P R H t.site.number t.site.ty.class.0 t.maker t.method);
  }

  abbrev pub class_method : ℕ → ℕ → HeadTree → Option Statements → MethodAt
  class_method n i h b = record {
    owner = suc i;
    kind = kinds.Method;
    in_abstract = has_word is_abstract_word (class_modifiers (is_made_at F H n));
    head = h;
    up = None;
    body = b;
  }

  -- a method of the tree
  pub data HasMethod : MethodAt → Type 0 where
    node_body : (n i c m : ℕ) (k : PlainMethod) → IsNodeAt true n i → slice_get (items P F H) c ≡ Some (column.Def m) → stands_at H n c ≡ true
        → slice_get P.methods m ≡ Some k
        → HasMethod (class_method n i (head P R H (modifier Public ∷ []) (R.method_name m) m k) (body P R H m k))
    node_head : (n i : ℕ) (h : HeadTree) → IsNodeAt true n i → IsHeadAt P R F H (in_class P R F H) n h → HasMethod (class_method n i h None)
    node_filler : (n i s : ℕ) (h : HeadTree) → IsNodeAt true n i → is_filled F H n s ≡ true → (t : IsHeadTree P R F H (as_filler P R F H) s h)
        → HasMethod (class_method n i h (Some (filling t.signature.result)))
    interface_head : (n i : ℕ) (h : HeadTree) → IsNodeAt false n i → IsHeadAt P R F H [] n h
        → HasMethod (record { owner = suc i; kind = kinds.Head; in_abstract = true; head = h; up = None; body = None })
    static_method : (c i m : ℕ) (k : PlainClass) (old : PlainMethod) → IsHolderAt c i k → slice_get P.methods m ≡ Some old → old.is_static ≡ true
        → old.owner ≡ c
        → HasMethod (record {
          owner = suc i;
          kind = kinds.Method;
          in_abstract = false;
          head = head P R H old_words old.name m old;
          up = None;
          body = body P R H m old;
        })
    make_method : (i : ℕ) (mk : PlainMakers) (x : MemberTree) (t : IsMakeTree P R H x) → IsMakersAt i mk → HasMethod (as_make i x t)

  -- a field of the tree
  pub data HasField : FieldAt → Type 0 where
    node_field : (n i c f : ℕ) (k : PlainField) → IsNodeAt true n i → slice_get (items P F H) c ≡ Some (column.Fld f) → stands_at H n c ≡ true
        → slice_get P.fields f ≡ Some k
        → HasField (record { owner = suc i; mods = []; type = written_type P H (R.row_type (row.Field f)) k.ty; name = R.field_name f; place = nowhere })
    static_field : (c i f : ℕ) (k : PlainClass) (old : PlainField) → IsHolderAt c i k → slice_get P.fields f ≡ Some old → old.is_static ≡ true → old.owner ≡ c
        → HasField (record { owner = suc i; mods = old_words; type = written_type P H (R.row_type (row.Field f)) old.ty; name = old.name; place = nowhere })

  class_method_from : (n i : ℕ) (x : MethodAt) (m : MemberTree) → IsNodeAt true n i → IsMember P R F H (items P F H) n m
      → Contains (outline.method_member (suc i) (has_word is_abstract_word (class_modifiers (is_made_at F H n))) m) x → HasMethod x
  class_method_from n i x _ a (a_field c f k d at o) h = absurd (omega (arith, h.1))
  class_method_from n i x _ a (a_body c m k d at o) h = subst HasMethod (one_from _ x h) (node_body n i c m k a d at o)
  class_method_from n i x _ a (a_head t d) h = subst HasMethod (one_from _ x h) (node_head n i t a d)
  class_method_from n i x _ a (a_filler s t d o) h = subst HasMethod (one_from _ x h) (node_filler n i s t a d o)

  class_field_from : (n i : ℕ) (x : FieldAt) (m : MemberTree) → IsNodeAt true n i → IsMember P R F H (items P F H) n m
      → Contains (outline.field_member (suc i) m) x → HasField x
  class_field_from n i x _ a (a_field c f k d at o) h = subst HasField (one_from _ x h) (node_field n i c f k a d at o)
  class_field_from n i x _ a (a_body c m k d at o) h = absurd (omega (arith, h.1))
  class_field_from n i x _ a (a_head t d) h = absurd (omega (arith, h.1))
  class_field_from n i x _ a (a_filler s t d o) h = absurd (omega (arith, h.1))

  node_method_from : (b : Bool) (n i : ℕ) (x : MethodAt) → IsNodeAt b n i → Contains (methods_declared (suc i) (type_tree P R F H (items P F H) b n)) x
      → HasMethod x
  node_method_from true n i x a h =
      let z = member_method_from (suc i) (has_word is_abstract_word (class_modifiers (is_made_at F H n))) (class_members P R F H (items P F H) n) x h in
      class_method_from n i x z.0 a (class_from P R F H (items P F H) n z.0 z.1) z.2
  node_method_from false n i x a h =
      let z = map_from (λ t. record { owner = suc i; kind = kinds.Head; in_abstract = true; head = t; up = None; body = None })
      (interface_heads P R F H n) x h in
      subst HasMethod z.2 (interface_head n i z.0 a (interface_from P R F H n z.0 z.1))

  node_field_from : (b : Bool) (n i : ℕ) (x : FieldAt) → IsNodeAt b n i → Contains (fields_declared (suc i) (type_tree P R F H (items P F H) b n)) x
      → HasField x
  node_field_from true n i x a h =
      let z = member_field_from (suc i) (class_members P R F H (items P F H) n) x h in class_field_from n i x z.0 a
      (class_from P R F H (items P F H) n z.0 z.1) z.2
  node_field_from false n i x a h = absurd (omega (arith, h.1))

  old_method_from : (c i : ℕ) (k : PlainClass) (x : MethodAt) (m : MemberTree) → IsHolderAt c i k → IsStatic P R H c m
      → Contains (outline.method_member (suc i) false m) x → HasMethod x
  old_method_from c i k x m a (a_static_field f old _ o h y) z =
      let w = when_from (old.is_static && (old.owner == c)) _ m y in
      absurd (omega (arith, (subst (λ v. Contains (outline.method_member (suc i) false v) x) (sym (one_from _ m w.1)) z).1))
  old_method_from c i k x m a (a_static_method d old _ o h y) z =
      let p = and_parts old.is_static (old.owner == c) h in
      let w = when_from (old.is_static && (old.owner == c)) _ m y in
      subst HasMethod (one_from _ x (subst (λ v. Contains (outline.method_member (suc i) false v) x) (sym (one_from _ m w.1)) z))
      (static_method c i d k old a o p.0 (eqb-true old.owner c p.1))

  old_field_from : (c i : ℕ) (k : PlainClass) (x : FieldAt) (m : MemberTree) → IsHolderAt c i k → IsStatic P R H c m
      → Contains (outline.field_member (suc i) m) x → HasField x
  old_field_from c i k x m a (a_static_field f old _ o h y) z =
      let p = and_parts old.is_static (old.owner == c) h in
      let w = when_from (old.is_static && (old.owner == c)) _ m y in
      subst HasField (one_from _ x (subst (λ v. Contains (outline.field_member (suc i) v) x) (sym (one_from _ m w.1)) z))
      (static_field c i f k old a o p.0 (eqb-true old.owner c p.1))
  old_field_from c i k x m a (a_static_method d old _ o h y) z =
      let w = when_from (old.is_static && (old.owner == c)) _ m y in
      absurd (omega (arith, (subst (λ v. Contains (outline.field_member (suc i) v) x) (sym (one_from _ m w.1)) z).1))

  declared_method : (i : ℕ) (d : _) (x : MethodAt) → slice_get (tree P F H) i ≡ Some d → Declares P F H d → Contains (methods_declared (suc i) d) x
      → HasMethod x
  declared_method i _ x e (a_node n live) h = node_method_from (is_class_node F H n) n i x (record { stands = e; live = live; kind = refl }) h
  declared_method i _ x e (a_holder c k d holder) h =
      let z = member_method_from (suc i) false (holder_members P R H c) x h in
      old_method_from c i k x z.0 (record { stands = e; class_stands = d; holder = holder }) (holder_from P R H c z.0 z.1) z.2
  declared_method i _ x e (a_makers mk me) h =
      let z = member_method_from (suc i) false (make_members P R H) x h in
      let t = makes_from P R H z.0 z.1 in
      subst HasMethod (one_from (as_make i z.0 t) x (subst (λ v. Contains (outline.method_member (suc i) false v) x) (sym t.is) z.2))
      (make_method i mk z.0 t (record { stands = e; has = me }))

  declared_field : (i : ℕ) (d : _) (x : FieldAt) → slice_get (tree P F H) i ≡ Some d → Declares P F H d → Contains (fields_declared (suc i) d) x
      → HasField x
  declared_field i _ x e (a_node n live) h = node_field_from (is_class_node F H n) n i x (record { stands = e; live = live; kind = refl }) h
  declared_field i _ x e (a_holder c k d holder) h =
      let z = member_field_from (suc i) (holder_members P R H c) x h in
      old_field_from c i k x z.0 (record { stands = e; class_stands = d; holder = holder }) (holder_from P R H c z.0 z.1) z.2
  declared_field i _ x e (a_makers mk me) h = absurd (no_field_made P R H i x h)

  pub method_origin : (x : MethodAt) → Contains (methods_in (tree P F H)) x → HasMethod x
  method_origin x c =
      let z = declared_from methods_declared 1 (tree P F H) (methods_in_each (tree P F H) (no_maker P F H)) x refl c in
      declared_method z.number z.declaration x z.stands (declares P F H z.number z.declaration z.stands) z.has

  pub field_origin : (x : FieldAt) → Contains (fields_in (tree P F H)) x → HasField x
  field_origin x c =
      let z = declared_from fields_declared 1 (tree P F H) (fields_each 1 (tree P F H)) x refl c in
      declared_field z.number z.declaration x z.stands (declares P F H z.number z.declaration z.stands) z.has
