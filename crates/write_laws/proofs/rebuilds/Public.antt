-- What the written program has beyond the rebuild relation: the instance methods of its classes are public, and fillers give the default of the result.
use Rattle.std.proofs.Common.{◌≡◌, ℕ, suc, ◌&&◌, Bool, true, false, [], ◌∷◌, Option, Some, None, Contains, refl, sym, ap, ◌∙◌, subst, arith, ⊎_elim}
use Rattle.std.specs.Prelude.{◌==◌, not, length, slice_get}
use Rattle.std.specs.Option.{option_map_or, is_some}
use Rattle.std.proofs.lemmas.Bool.{false≢true, and_parts, and_from, eq-eqb}
use Rattle.std.proofs.lemmas.Option.{same_Some}
use Rattle.kaba_base.specs.declared.words.Keyword.TheVariants.{Public, Static}
use Rattle.kaba_order.specs.Orders.{is_live}
use Rattle.java_tree.specs.Syntax.{HeadTree, MemberTree, DeclTree}
use Rattle.java_core.specs.Trees.{Sts}
use Rattle.java_core.specs.Programs.{Plain, PlainClass, PlainMethod, PlainSlot}
use Rattle.java_core.specs.Classes.{is_interface, slot_of_method}
use Rattle.name_rules.specs.Outline.{MethodAt, methods_declared, method_member, is_public_word, has_word, outline}
use Rattle.name_rules.specs.Resolves.{BodyResolves, r_no_body, r_body, r_maker, StsResolve, here_of, params_from}
use Rattle.fact_model.specs.Items.{column_kind, column_slot}
use Rattle.fact_model.specs.Classes.{is_def, is_slot}
use Rattle.fact_model.specs.declared.facts.Facts.{Facts}
use Rattle.fact_model.specs.declared.facts.ColKind.TheVariants.{Def}
use Rattle.fact_model.specs.declared.sets.PointsTo.{PointsTo}
use Rattle.fact_model.proofs.ClassLemmas.{slot_says as slot_is}
use Rattle.hier_model.specs.Hierarchies.{Hierarchy, is_class_node, is_offered, offers_slot, is_method, member_name}
use Rattle.hier_model.proofs.AnyLemmas.{any_below_some, any_below_has}
use Rattle.flow_rules.specs.declared.items.ColumnItem.{ColumnItem}
use Rattle.flow_rules.specs.declared.items.ColumnItem.TheVariants as column
use Rattle.flow_rules.specs.Operands.{result_in}
use Rattle.flow_rules.specs.Facts.{kind_of, slot_in}
use Rattle.flow_rules.proofs.Listed.{one_from, map_from, when_from}
use Rattle.rebuild_model.specs.Renaming.{Renaming, renaming_of, retyped_if}
use Rattle.rebuild_model.specs.Members.{is_made_at, is_filled, offers_body, IsFiller}
use Rattle.rebuild_model.specs.Rebuilds.{IsNodeType}
use Rattle.rebuild_model.specs.Written.{HasFilling, IsFilling, IsWritten}
use Rattle.rebuild_laws.proofs.given.Apart.{names_apart}
use Rattle.write_model.specs.Names.{modifier}
use Rattle.write_model.specs.Members.{filling, head, body, class_members, interface_heads, holder_members, make_members}
use Rattle.write_model.specs.Written.{type_tree, java_tree}
use Rattle.write_model.proofs.NoMaker.{no_maker}
use Rattle.write_laws.proofs.rebuilds.Outlined.{IsResolved, method_back, member_method_from}
use Rattle.write_laws.proofs.rebuilds.Nodes.{by_node, items, tree, node_tree, node_number, node_type, nodes_once, Declares, a_node, a_holder, a_makers, declares}
use Rattle.write_laws.proofs.rebuilds.Members.{IsHeadTree, IsMember, a_field, a_body, a_head, a_filler, class_from, as_filler, IsStatic, a_static_field, a_static_method, holder_from, makes_from}
use Rattle.write_laws.proofs.rebuilds.Given.{Given, T, R, Stands, columns, stands_from, column_there, offered_there}
use Rattle.write_laws.proofs.rebuilds.Resolved.{owner_is, name_is, static_is, public_is, bodyless, types_are}
use Rattle.write_laws.proofs.rebuilds.Methods.{as_method, as_head, in_type, is_abstract, declared_name, method_slot, first_method, old_method}
use Rattle.write_laws.proofs.rebuilds.Filled.{filling_is}
use Rattle.write_laws.proofs.rebuilds.Makes.{as_make}

module _ {P : Plain} {F : Facts} {pt : PointsTo} {H : Hierarchy} {V : Plain} (G : Given P F pt H V) where
  abbrev R₀ : Renaming
  R₀ = by_node P F H

  abbrev IsOpen : MethodAt → Type 0
  IsOpen x = has_word is_public_word x.head.mods ≡ true

  member_open : (n i : ℕ) (x : MethodAt) (m : MemberTree) → IsMember P R₀ F H (items P F H) n m
      → Contains (method_member (suc i) (is_abstract G n) m) x → IsOpen x
  member_open n i x _ (a_field c f k d at o) h = absurd (omega (arith, h.1))
  member_open n i x _ (a_body c f k d at o) h =
      subst IsOpen (one_from (as_method i (is_abstract G n) (head P R₀ H (modifier Public ∷ []) (R₀.method_name f) f k) (body P R₀ H f k)) x
      h) refl
  member_open n i x _ (a_head t d) h =
      subst IsOpen (one_from (as_method i (is_abstract G n) t None) x h) (ap (λ (y : HeadTree). has_word is_public_word y.mods) (sym d.tree.is))
  member_open n i x _ (a_filler s t d o) h =
      subst IsOpen (one_from (as_method i (is_abstract G n) t (Some (filling o.signature.result))) x h)
      (ap (λ (y : HeadTree). has_word is_public_word y.mods) (sym o.is))

  -- in an interface
  face_owner : (n i : ℕ) (x : MethodAt) → is_live H.order n ≡ true → slice_get (tree P F H) i ≡ Some (node_tree P F H n) → is_class_node F H n ≡ false
      → x.owner ≡ suc i → is_interface V x.owner ≡ true
  face_owner n i x live e c ow =
      let t : IsNodeType P F H V (T G) n = node_type P F H V G.resolves G.new n live in
      ap (is_interface V) (ow ∙ sym (node_number P F H V G.resolves G.new n i e))
      ∙ ap (λ o. option_map_or (λ (k : PlainClass). k.is_interface) o false) t.stands ∙ t.kind ∙ ap not c

  node_open : (b : Bool) (n i : ℕ) (x : MethodAt) → is_class_node F H n ≡ b → is_live H.order n ≡ true → slice_get (tree P F H) i ≡ Some (node_tree P F H n)
      → Contains (methods_declared (suc i) (type_tree P R₀ F H (items P F H) b n)) x → is_interface V x.owner ≡ false → IsOpen x
  node_open true n i x c live e h free =
      let z = member_method_from (suc i) (is_abstract G n) (class_members P R₀ F H (items P F H) n) x h in
      member_open n i x z.0 (class_from P R₀ F H (items P F H) n z.0 z.1) z.2
  node_open false n i x c live e h free =
      let z = map_from (λ h. as_head i h) (interface_heads P R₀ F H n) x h in
      absurd (false≢true (sym free ∙ face_owner n i x live e c (ap (λ (y : MethodAt). y.owner) (sym z.2))))

  holder_open : (c i : ℕ) (x : MethodAt) (m : MemberTree) → IsStatic P R₀ H c m → Contains (method_member (suc i) false m) x → IsOpen x
  holder_open c i x m (a_static_field f old _ o h y) z =
      let w = when_from (old.is_static && (old.owner == c)) _ m y in
      absurd (omega (arith, (subst (λ v. Contains (method_member (suc i) false v) x) (sym (one_from _ m w.1)) z).1))
  holder_open c i x m (a_static_method f old _ o h y) z =
      let w = when_from (old.is_static && (old.owner == c)) _ m y in
      let t : MethodAt = as_method i false (head P R₀ H (modifier Public ∷ modifier Static ∷ []) old.name f old) (body P R₀ H f old) in
      subst IsOpen (one_from t x (subst (λ v. Contains (method_member (suc i) false v) x) (sym (one_from _ m w.1)) z)) refl

  declared_open : (i : ℕ) (d : DeclTree) (x : MethodAt) → slice_get (tree P F H) i ≡ Some d → Declares P F H d
      → Contains (methods_declared (suc i) d) x → is_interface V x.owner ≡ false → IsOpen x
  declared_open i _ x e (a_node n live) h free = node_open (is_class_node F H n) n i x refl live e h free
  declared_open i _ x e (a_holder c k d holder) h free =
      let z = member_method_from (suc i) false (holder_members P R₀ H c) x h in
      holder_open c i x z.0 (holder_from P R₀ H c z.0 z.1) z.2
  declared_open i _ x e (a_makers mk me) h free =
      let z = member_method_from (suc i) false (make_members P R₀ H) x h in
      let t = makes_from P R₀ H z.0 z.1 in
      subst IsOpen (one_from (as_make G i t.site.number t.site.ty.class.0 t.maker t.method) x
      (subst (λ v. Contains (method_member (suc i) false v) x) (sym t.is) z.2)) refl

  pub public_method : (g : ℕ) (new : PlainMethod) → slice_get V.methods g ≡ Some new → new.is_static ≡ false → is_interface V new.owner ≡ false
      → new.is_public ≡ true
  public_method g new e h free =
      let z = method_back (tree P F H) V G.resolves G.new (no_maker P F H) g new e in
      let d = z.declared in
      let ow : new.owner ≡ z.method.owner = ap (λ (y : PlainMethod). y.owner) (sym z.is) ∙ owner_is G z.method g z.resolved in
      ap (λ (y : PlainMethod). y.is_public) (sym z.is) ∙ public_is G z.method g z.resolved
      ∙ declared_open d.number d.declaration z.method d.stands (declares P F H d.number d.declaration d.stands) d.has
      (ap (is_interface V) (sym ow) ∙ free)

  -- ---- what fills in

  -- the columns of a method of one slot have one name
  pub method_name_is : (m s c : ℕ) → slot_of_method P m ≡ Some s → is_method (column_kind F c) ≡ true → column_slot F c ≡ Some s
      → R₀.method_name m ≡ member_name H c
  method_name_is m s c h k o =
      let a = declared_name G m s h in
      a.1 ∙ G.hierarchy.names a.0 c s a.2 k a.3 o

  pub slotted_kind : (i : ColumnItem) (s : ℕ) → slot_in P i ≡ Some s → is_method (kind_of i) ≡ true
  slotted_kind (column.Dcl m) s h = refl
  slotted_kind (column.Def m) s h = refl
  slotted_kind (column.Fld f) s h = absurd (cc h)
  slotted_kind (column.Is c) s h = absurd (cc h)

  -- a node that is filled in has no body of a slot of that name
  no_body : (n m d s x : ℕ) (k : PlainMethod) → is_filled F H n s ≡ true → slot_of_method P m ≡ Some s → Stands G (column.Def d) n
      → slice_get P.methods d ≡ Some k → k.slot ≡ Some x
      → R₀.method_name d ≡ R₀.method_name m → ⊥
  no_body n m d s x k h slot st e o name =
      let C = columns G in
      let offers = and_parts (offers_slot F H n s) (not (offers_body F H n s))
      (and_parts (is_made_at F H n) (offers_slot F H n s && not (offers_body F H n s)) h).1 in
      let c = any_below_some (λ c. is_slot (column_slot F c) s && is_offered H n c) (length F.columns.items) offers.0 in
      let p = and_parts (is_slot (column_slot F c.0) s) (is_offered H n c.0) c.2 in
      let of : column_slot F c.0 ≡ Some s = slot_is (column_slot F c.0) s p.0 in
      let i = C.item c.0 c.1 in
      let method : is_method (column_kind F c.0) ≡ true = ap is_method (C.kind i.0 c.0 i.1) ∙ slotted_kind i.0 s (sym (C.slot i.0 c.0 i.1) ∙ of) in
      let t = column_there G (column.Def d) n st in
      let own : slot_of_method P d ≡ Some x = method_slot G d x k e o in
      let kind : column_kind F t.number ≡ Def = C.kind (column.Def d) t.number t.numbered in
      let at : column_slot F t.number ≡ Some x = C.slot (column.Def d) t.number t.numbered ∙ own in
      let offered = offered_there G n t.number t.live t.at in
      let same : x ≡ s = (names_apart F pt H G.hierarchy.sized.order G.unbroken).slots n t.number c.0 x s (ap is_method kind) method at of offered p.1
      (sym (method_name_is d x t.number own (ap is_method kind) at) ∙ name ∙ method_name_is m s c.0 slot method of) in
      let there = any_below_has (λ c. is_def (column_kind F c) && (is_slot (column_slot F c) s && is_offered H n c)) (length F.columns.items) t.number
      (C.below (column.Def d) t.number t.numbered)
      (and_from (is_def (column_kind F t.number)) (is_slot (column_slot F t.number) s && is_offered H n t.number) (ap is_def kind)
      (and_from (is_slot (column_slot F t.number) s) (is_offered H n t.number) (ap (λ o. is_slot o s) (at ∙ ap Some same) ∙ eq-eqb s s refl) offered)) in
      false≢true (sym (ap not there) ∙ offers.1)

  abbrev Fills : ℕ → MethodAt → Type 0
  Fills g x = (r : IsResolved (java_tree P F H) V G.resolves G.new x g) → (n m : ℕ) → IsFiller P F H V (T G) n m r.method
      → HasFilling P F H V (T G) r.method

  no_code : {A : Type 0} (o : Option Sts) → o ≡ None → is_some o ≡ true → A
  no_code None e h = absurd (false≢true h)
  no_code (Some x) e h = absurd (cc e)

  -- a filler of the tree
  filler_fills : (g : ℕ) (x : MethodAt) (s : ℕ) (o : IsHeadTree P R₀ F H (as_filler P R₀ F H) s x.head) → x.body ≡ Some (filling o.signature.result) → Fills g x
  filler_fills g x s o b r n m f = go r.body
    where
      sig_result : o.first.result ≡ o.signature.result
      sig_result =
          let y = ((G.formed.methods o.signature.first o.first o.first_stands).slots s).0 (first_method G s x.head (as_filler P R₀ F H) o) in
          y.result ∙ ap (λ (z : PlainSlot). z.result) (same_Some _ _ (sym y.stands ∙ o.slot_stands))

      result : r.method.result ≡ retyped_if ((R G).row_type (result_in o.first.slot o.signature.first)) o.signature.result
      result =
          (types_are G x g r (as_filler P R₀ F H) (R₀.method_name o.signature.first) o.signature.first o.first o.first_stands (sym o.is)).result
          ∙ ap (retyped_if ((R G).row_type (result_in o.first.slot o.signature.first))) sig_result

      go : BodyResolves (outline (java_tree P F H)) x r.method → HasFilling P F H V (T G) r.method
      go (r_no_body a _ _) = absurd (cc (a, b))
      go (r_maker is a b c d f) = absurd (false≢true (sym r.other ∙ is))
      go (r_body {ss = ss} {xs = ys} is a d res counts) =
          let same : ss ≡ filling o.signature.result = same_Some _ _ (sym a ∙ b) in
          record {
            code = ys;
            is = d;
            fills = subst (λ w. IsFilling w ys) (sym result)
                (filling_is (outline (java_tree P F H)) (here_of x) r.method false (params_from 0 r.method.params)
                ((R G).row_type (result_in o.first.slot o.signature.first)) o.signature.result ys
                (subst (λ w. StsResolve (outline (java_tree P F H)) (here_of x) r.method false (params_from 0 r.method.params) w ys) same res));
          }

  -- the body of a column is no filler
  body_fills : (a i g f : ℕ) (b : Bool) (k : PlainMethod) → is_live H.order a ≡ true → slice_get (tree P F H) i ≡ Some (node_tree P F H a)
      → Stands G (column.Def f) a → slice_get P.methods f ≡ Some k
      → Fills g (as_method i b (head P R₀ H (modifier Public ∷ []) (R₀.method_name f) f k) (body P R₀ H f k))
  unfolding renaming_of
  body_fills a i g f b k live e st o r n m q =
      let x : MethodAt = as_method i b (head P R₀ H (modifier Public ∷ []) (R₀.method_name f) f k) (body P R₀ H f k) in
      let old = old_method G f a st in
      let same : old.old ≡ k = same_Some _ _ (sym old.stands ∙ o) in
      let s = (G.formed.methods f k o).slotted (ap (λ (y : PlainMethod). y.is_static) (sym same) ∙ old.instance) in
      let ow : (T G).type_of a ≡ (T G).type_of n = node_number P F H V G.resolves G.new a i e ∙ sym (owner_is G x g r) ∙ q.of.owner in
      let one : a ≡ n = nodes_once P F H V G.resolves G.new G.formed G.facts pt G.unbroken a n live q.live ow in
      absurd (no_body n m f q.of.was.slot s.0 k q.filled (method_slot G m q.of.was.slot q.of.was.old q.of.was.old_stands q.of.was.of_slot)
      (subst (Stands G (column.Def f)) one st) o s.1 (sym (name_is G x g r) ∙ q.of.name))

  member_fills : (n i g : ℕ) (x : MethodAt) (m : MemberTree) → is_live H.order n ≡ true → slice_get (tree P F H) i ≡ Some (node_tree P F H n)
      → IsMember P R₀ F H (items P F H) n m → Contains (method_member (suc i) (is_abstract G n) m) x → Fills g x
  member_fills n i g x _ live e (a_field c f k d at o) h = absurd (omega (arith, h.1))
  member_fills n i g x _ live e (a_body c f k d at o) h =
      let y : MethodAt = as_method i (is_abstract G n) (head P R₀ H (modifier Public ∷ []) (R₀.method_name f) f k) (body P R₀ H f k) in
      subst (Fills g) (one_from y x h) (body_fills n i g f (is_abstract G n) k live e (stands_from G c (column.Def f) n d at) o)
  member_fills n i g x _ live e (a_head t d) h =
      let y : MethodAt = as_method i (is_abstract G n) t None in
      subst (Fills g) (one_from y x h) (λ r a m q. no_code r.method.body (bodyless G y g r refl) q.bodied)
  member_fills n i g x _ live e (a_filler s t d o) h =
      let y : MethodAt = as_method i (is_abstract G n) t (Some (filling o.signature.result)) in
      subst (Fills g) (one_from y x h) (filler_fills g y s o refl)

  node_fills : (b : Bool) (n i g : ℕ) (x : MethodAt) → is_live H.order n ≡ true → slice_get (tree P F H) i ≡ Some (node_tree P F H n)
      → Contains (methods_declared (suc i) (type_tree P R₀ F H (items P F H) b n)) x → Fills g x
  node_fills b n i g x live e h = ⊎_elim
      (λ z. member_fills n i g x z.0 live e z.1 z.2)
      (λ z. subst (Fills g) z.2 (λ r a m q. no_code r.method.body (bodyless G (as_head i z.0) g r refl) q.bodied))
      (in_type G b n i x h)

  static_fills : (c i g : ℕ) (x : MethodAt) (m : MemberTree) → IsStatic P R₀ H c m → Contains (method_member (suc i) false m) x → Fills g x
  static_fills c i g x m (a_static_field f old _ o h y) z =
      let w = when_from (old.is_static && (old.owner == c)) _ m y in
      absurd (omega (arith, (subst (λ v. Contains (method_member (suc i) false v) x) (sym (one_from _ m w.1)) z).1))
  static_fills c i g x m (a_static_method f old _ o h y) z =
      let w = when_from (old.is_static && (old.owner == c)) _ m y in
      let t : MethodAt = as_method i false (head P R₀ H (modifier Public ∷ modifier Static ∷ []) old.name f old) (body P R₀ H f old) in
      subst (Fills g) (one_from t x (subst (λ v. Contains (method_member (suc i) false v) x) (sym (one_from _ m w.1)) z))
      (λ r a b q. absurd (false≢true (sym q.of.instance ∙ static_is G t g r)))

  declared_fills : (i g : ℕ) (d : DeclTree) (x : MethodAt) → slice_get (tree P F H) i ≡ Some d → Declares P F H d
      → Contains (methods_declared (suc i) d) x → Fills g x
  declared_fills i g _ x e (a_node n live) h = node_fills (is_class_node F H n) n i g x live e h
  declared_fills i g _ x e (a_holder c k d holder) h =
      let z = member_method_from (suc i) false (holder_members P R₀ H c) x h in
      static_fills c i g x z.0 (holder_from P R₀ H c z.0 z.1) z.2
  declared_fills i g _ x e (a_makers mk me) h =
      let z = member_method_from (suc i) false (make_members P R₀ H) x h in
      let t = makes_from P R₀ H z.0 z.1 in
      let y : MethodAt = as_make G i t.site.number t.site.ty.class.0 t.maker t.method in
      subst (Fills g) (one_from y x (subst (λ v. Contains (method_member (suc i) false v) x) (sym t.is) z.2))
      (λ r a b q. absurd (false≢true (sym q.of.instance ∙ static_is G y g r)))

  pub written : IsWritten P F H V (T G)
  written = record {
    public = public_method;
    fillers = λ g n m new e f.
        let z = method_back (tree P F H) V G.resolves G.new (no_maker P F H) g new e in
        let d = z.declared in
        subst (HasFilling P F H V (T G)) z.is
        (declared_fills d.number g d.declaration z.method d.stands (declares P F H d.number d.declaration d.stands) d.has z.resolved n m
        (subst (IsFiller P F H V (T G) n m) (sym z.is) f));
  }
