-- What each method of the written program is: a body, a head or a filler of a node, or a static method of a holder.
use Rattle.std.proofs.Common.{◌≡◌, ℕ, suc, ◌&&◌, Bool, true, false, [], ◌∷◌, Option, Some, None, Contains, refl, sym, ap, ◌∙◌, subst, arith, inl, inr, ⊎_elim}
use Rattle.std.specs.Prelude.{◌⊎◌, ◌==◌, slice_get}
use Rattle.std.specs.Option.{option_map_or}
use Rattle.std.proofs.lemmas.Bool.{false≢true, and_parts, and_from, eqb-true, eq-eqb}
use Rattle.kaba_base.specs.declared.words.Keyword.TheVariants.{Public, Static}
use Rattle.std.proofs.lemmas.Option.{same_Some}
use Rattle.kaba_order.specs.Orders.{is_live}
use Rattle.java_tree.specs.Syntax.{MemberTree, MethodTree, Statements, DeclTree}
use Rattle.java_core.specs.Trees.{Sts}
use Rattle.java_core.specs.Programs.{Plain, PlainClass, PlainMethod}
use Rattle.name_rules.specs.Outline.{MethodAt, methods_declared, method_member}
use Rattle.fact_model.specs.declared.facts.Facts.{Facts}
use Rattle.fact_model.specs.declared.sets.PointsTo.{PointsTo}
use Rattle.hier_model.specs.Hierarchies.{Hierarchy, is_class_node}
use Rattle.flow_rules.specs.declared.items.ColumnItem.TheVariants as column
use Rattle.flow_rules.proofs.Listed.{first, one_from, when_from, when_has}
use Rattle.rebuild_model.specs.Renaming.{renaming_of}
use Rattle.rebuild_model.specs.Members.{IsStaticMethodOf}
use Rattle.rebuild_model.specs.Rebuilds.{IsMakeMethod}
use Rattle.rebuild_laws.proofs.looks.Fields.{method_holder}
use Rattle.write_model.specs.Names.{nowhere, modifier}
use Rattle.write_model.specs.Members.{filling, head, body, static_method_member, holder_members}
use Rattle.write_model.specs.Written.{type_tree}
use Rattle.write_model.proofs.NoMaker.{no_maker}
use Rattle.write_laws.proofs.rebuilds.Outlined.{method_there, method_back, member_method_from, member_method_has}
use Rattle.write_laws.proofs.rebuilds.Nodes.{items, tree, node_tree, old_tree, holder_there, holder_number, Declares, a_node, a_holder, a_makers, declares}
use Rattle.write_laws.proofs.rebuilds.Members.{IsMember, a_field, a_body, a_head, a_filler, in_class as class_mods, IsStatic, a_static_field, a_static_method, holder_from, static_method_has}
use Rattle.write_laws.proofs.rebuilds.Given.{Given, T, stands_from}
use Rattle.write_laws.proofs.rebuilds.Resolved.{BodiesMatch, owner_is, name_is, static_is, types_are, code_is}
use Rattle.write_laws.proofs.rebuilds.Makes.{in_makers}
use Rattle.write_laws.proofs.rebuilds.Methods.{read, as_method, as_head, IsOldBody, IsOldHead, IsOldFiller, node_body, node_head, node_filler, in_type, is_abstract, old_method}

module _ {P : Plain} {F : Facts} {pt : PointsTo} {H : Hierarchy} {V : Plain} (G : Given P F pt H V) (match : BodiesMatch G) where
  open read G use {renaming as R₀, Resolved as Rs}

  abbrev pub IsOldStatic : ℕ → ℕ → Type 0
  IsOldStatic m g = IsStaticMethodOf P F H V (T G) m g

  -- the declaration of a static method
  abbrev pub as_static : ℕ → ℕ → PlainMethod → MethodAt
  as_static i m old = as_method i false (head P R₀ H (modifier Public ∷ modifier Static ∷ []) old.name m old) (body P R₀ H m old)

  -- a static method in its holder
  holder_method : (c i m g : ℕ) (k : PlainClass) (old : PlainMethod) (xs : Sts) → slice_get (tree P F H) i ≡ Some (old_tree P F H c k)
      → slice_get P.classes c ≡ Some k
      → slice_get P.methods m ≡ Some old → (old.is_static && (old.owner == c)) ≡ true → old.body ≡ Some xs → Rs (as_static i m old) g → IsOldStatic m g
  unfolding renaming_of
  holder_method c i m g k old xs e d o h b r =
      let p = and_parts old.is_static (old.owner == c) h in
      let at : MethodAt = as_static i m old in
      let ow : at.owner ≡ (T G).holder_of old.owner = sym (holder_number P F H V G.resolves G.new c i k d e)
      ∙ ap (λ y. (T G).holder_of y) (sym (eqb-true old.owner c p.1)) in
      record {
        same = record {
          old = old;
          new = r.method;
          old_stands = o;
          new_stands = r.stands;
          old_static = p.0;
          new_static = static_is G at g r;
          owner = owner_is G at g r ∙ ow;
          name = name_is G at g r;
        };
        types = types_are G at g r (modifier Public ∷ modifier Static ∷ []) old.name m old o refl;
        code = code_is G at g r match (modifier Public ∷ modifier Static ∷ []) old.name m old xs o b refl refl (sym p.0) (λ s. ow);
      }

  -- a static method has a body
  static_code : (m : ℕ) (k : PlainMethod) → slice_get P.methods m ≡ Some k → k.is_static ≡ true → (xs : Sts) × (k.body ≡ Some xs)
  static_code m k e h = go k.body refl
    where
      go : (o : Option Sts) → k.body ≡ o → (xs : Sts) × (k.body ≡ Some xs)
      go None d = absurd (false≢true (sym ((G.formed.methods m k e).bodyless d).0 ∙ h))
      go (Some xs) d = (xs, d)

  -- what a method of the new program is
  abbrev pub Origin : ℕ → PlainMethod → Type 0
  Origin g new = (((m : ℕ) × IsOldBody G m new) ⊎ ((n : ℕ) × (m : ℕ) × (IsOldHead G n m new ⊎ IsOldFiller G n m new)))
      ⊎ (((m : ℕ) × IsOldStatic m g) ⊎ IsMakeMethod P F H V (T G) g)

  abbrev Made : ℕ → MethodAt → Type 0
  Made g x = (r : Rs x g) → Origin g r.method

  in_class : (n i g : ℕ) (x : MethodAt) (m : MemberTree) → is_live H.order n ≡ true → slice_get (tree P F H) i ≡ Some (node_tree P F H n)
      → IsMember P R₀ F H (items P F H) n m → Contains (method_member (suc i) (is_abstract G n) m) x → Made g x
  in_class n i g x _ live e (a_field c f k d at o) h = absurd (omega (arith, h.1))
  in_class n i g x _ live e (a_body c f k d at o) h =
      let s = stands_from G c (column.Def f) n d at in
      let z = old_method G f n s in
      let same : z.old ≡ k = same_Some _ _ (sym z.stands ∙ o) in
      let y : MethodAt = as_method i (is_abstract G n) (head P R₀ H (modifier Public ∷ []) (R₀.method_name f) f k) (body P R₀ H f k) in
      subst (Made g) (one_from y x h) (λ r. inl (inl (
        f,
        node_body G match n i f g (is_abstract G n) k z.code e s o
            (ap (λ (w : PlainMethod). w.is_static) (sym same) ∙ z.instance) (ap (λ (w : PlainMethod). w.body) (sym same) ∙ z.body) r,
      )))
  in_class n i g x _ live e (a_head t d) h =
      let y : MethodAt = as_method i (is_abstract G n) t None in
      subst (Made g) (one_from y x h) (λ r. let z = node_head G n i g (class_mods P R₀ F H) y e refl refl refl d r in inl (inr (n, z.0, inl z.1)))
  in_class n i g x _ live e (a_filler s t d o) h =
      let ss : Statements = filling o.signature.result in
      let y : MethodAt = as_method i (is_abstract G n) t (Some ss) in
      subst (Made g) (one_from y x h) (λ r. inl (inr (n, o.signature.first, inr (node_filler G n i s g y ss live e refl refl d o r))))

  in_node : (b : Bool) (n i g : ℕ) (x : MethodAt) → is_live H.order n ≡ true → slice_get (tree P F H) i ≡ Some (node_tree P F H n)
      → Contains (methods_declared (suc i) (type_tree P R₀ F H (items P F H) b n)) x → Made g x
  in_node b n i g x live e h = ⊎_elim
      (λ z. in_class n i g x z.0 live e z.1 z.2)
      (λ z. subst (Made g) z.2 (λ r. let w = node_head G n i g [] (as_head i z.0) e refl refl refl z.1 r in inl (inr (n, w.0, inl w.1))))
      (in_type G b n i x h)

  in_holder : (c i g : ℕ) (k : PlainClass) (x : MethodAt) (m : MemberTree) → slice_get (tree P F H) i ≡ Some (old_tree P F H c k)
      → slice_get P.classes c ≡ Some k
      → IsStatic P R₀ H c m → Contains (method_member (suc i) false m) x → Made g x
  in_holder c i g k x m e d (a_static_field f old _ o h y) z =
      let w = when_from (old.is_static && (old.owner == c)) _ m y in
      absurd (omega (arith, (subst (λ v. Contains (method_member (suc i) false v) x) (sym (one_from _ m w.1)) z).1))
  in_holder c i g k x m e d (a_static_method f old _ o h y) z =
      let w = when_from (old.is_static && (old.owner == c)) _ m y in
      let xs = static_code f old o (and_parts old.is_static (old.owner == c) h).0 in
      subst (Made g) (one_from (as_static i f old) x (subst (λ v. Contains (method_member (suc i) false v) x) (sym (one_from _ m w.1)) z))
      (λ r. inr (inl (f, holder_method c i f g k old xs.0 e d o h xs.1 r)))

  by_declaration : (i g : ℕ) (d : DeclTree) (x : MethodAt) → slice_get (tree P F H) i ≡ Some d → Declares P F H d
      → Contains (methods_declared (suc i) d) x → Made g x
  by_declaration i g _ x e (a_node n live) h = in_node (is_class_node F H n) n i g x live e h
  by_declaration i g _ x e (a_holder c k d holder) h =
      let z = member_method_from (suc i) false (holder_members P R₀ H c) x h in
      in_holder c i g k x z.0 e d (holder_from P R₀ H c z.0 z.1) z.2
  by_declaration i g _ x e (a_makers mk me) h = λ r. inr (inr (in_makers G i g mk x me e h r))

  pub origin : (g : ℕ) (new : PlainMethod) → slice_get V.methods g ≡ Some new → Origin g new
  origin g new e =
      let z = method_back (tree P F H) V G.resolves G.new (no_maker P F H) g new e in
      let d = z.declared in
      subst (Origin g) z.is (by_declaration d.number g d.declaration z.method d.stands (declares P F H d.number d.declaration d.stands) d.has z.resolved)

  instance_of : (new : PlainMethod) → ((m : ℕ) × IsOldBody G m new) ⊎
      ((n : ℕ) × (m : ℕ) × (IsOldHead G n m new ⊎ IsOldFiller G n m new)) → new.is_static ≡ false
  instance_of new z = ⊎_elim (λ b. b.1.at.instance) (λ b. ⊎_elim (λ h. h.of.instance) (λ f. f.of.instance) b.2) z

  pub instance_method : (g : ℕ) (new : PlainMethod) → slice_get V.methods g ≡ Some new → new.is_static ≡ false
      → ((m : ℕ) × IsOldBody G m new) ⊎ ((n : ℕ) × (m : ℕ) × (IsOldHead G n m new ⊎ IsOldFiller G n m new))
  instance_method g new e h =
      ⊎_elim (λ z. z) (λ y. absurd (⊎_elim
      (λ z. let s = z.1.same in no_instance g new s.new e s.new_stands h s.new_static)
      (λ z. no_instance g new z.is.new e z.is.stands h z.is.static) y)) (origin g new e)
    where
      no_instance : (g : ℕ) (new k : PlainMethod) → slice_get V.methods g ≡ Some new → slice_get V.methods g ≡ Some k → new.is_static ≡ false
          → k.is_static ≡ true → ⊥
      no_instance g new k e d h s =
          false≢true (sym h ∙ ap (λ (o : Option PlainMethod). option_map_or (λ (k : PlainMethod). k.is_static) o false) (sym e ∙ d) ∙ s)

  pub static_method : (g : ℕ) (new : PlainMethod) → slice_get V.methods g ≡ Some new → new.is_static ≡ true
      → ((m : ℕ) × IsOldStatic m g) ⊎ IsMakeMethod P F H V (T G) g
  static_method g new e h = ⊎_elim (λ z. absurd (false≢true (sym (instance_of new z) ∙ h))) (λ z. z) (origin g new e)

  pub each_static_method : (m : ℕ) (old : PlainMethod) → slice_get P.methods m ≡ Some old → old.is_static ≡ true → (g : ℕ) × IsOldStatic m g
  each_static_method m old e h =
      let c = old.owner in
      let k = holder_there P F H G.formed c (method_holder P m old e h) in
      let mine = and_from old.is_static (c == c) h (eq-eqb c c refl) in
      let xs = static_code m old e h in
      let x : MethodAt = as_static k.2 m old in
      let t : MemberTree = MethodTree x.head x.body nowhere in
      let y : Contains (static_method_member P R₀ H c m old) t = when_has (old.is_static && (c == c)) (t ∷ []) t mine (first t []) in
      let d : Contains (methods_declared (suc k.2) (old_tree P F H c k.0)) x =
      member_method_has (suc k.2) false (holder_members P R₀ H c) x t (static_method_has P R₀ H c m old t e y) (first x []) in
      let r = method_there (tree P F H) V G.resolves G.new (no_maker P F H) k.2 (old_tree P F H c k.0) x k.3 d in
      (r.0, holder_method c k.2 m r.0 k.0 old xs.0 k.3 k.1 e mine xs.1 r.1)
