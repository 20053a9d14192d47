-- The fields of the written program: those that stand at nodes, and the static ones of the holders.
use Rattle.std.proofs.Common.{◌≡◌, ℕ, suc, ◌&&◌, Bool, true, false, List, [], ◌∷◌, Option, Some, Contains, refl, sym, ap, ◌∙◌, subst, arith, inl, inr, ⊎_elim}
use Rattle.std.specs.Prelude.{◌⊎◌, slice_get, ◌==◌}
use Rattle.std.specs.Option.{option_map_or}
use Rattle.std.proofs.lemmas.Bool.{false≢true, and_parts, and_from, eqb-true, eq-eqb}
use Rattle.kaba_base.specs.declared.words.Keyword.TheVariants.{Public, Static}
use Rattle.java_tree.specs.Syntax.{MemberTree, FieldTree, DeclTree}
use Rattle.java_core.specs.Programs.{Plain, PlainClass, PlainField}
use Rattle.name_rules.specs.Outline.{FieldAt, fields_declared, field_member as declared_field, field_outline, types_in}
use Rattle.fact_model.specs.declared.facts.Facts.{Facts}
use Rattle.fact_model.specs.declared.sets.PointsTo.{PointsTo}
use Rattle.hier_model.specs.Hierarchies.{Hierarchy, is_class_node}
use Rattle.flow_rules.specs.declared.items.ColumnItem.{ColumnItem}
use Rattle.flow_rules.specs.declared.items.ColumnItem.TheVariants as column
use Rattle.flow_rules.specs.declared.items.RowItem.TheVariants as row
use Rattle.flow_rules.specs.Facts.{numbers, column_info}
use Rattle.flow_rules.proofs.Listed.{first, one_from, when_from, when_has}
use Rattle.flow_laws.proofs.order.Columns.{Stands as IsOfText, for_field, for_declaration, for_body, for_mark, column_stands}
use Rattle.flow_rules.proofs.NumberedItems.{numbered_columns}
use Rattle.rebuild_model.specs.Renaming.{Renaming, renaming_of}
use Rattle.rebuild_model.specs.Members.{IsField, IsStaticFieldOf}
use Rattle.rebuild_laws.proofs.looks.Fields.{field_holder}
use Rattle.write_model.specs.Names.{nowhere, modifier, written_type}
use Rattle.write_model.specs.Members.{field_member, static_field_member, class_members, holder_members}
use Rattle.write_model.specs.Written.{type_tree, java_tree}
use Rattle.write_laws.proofs.rebuilds.Outlined.{field_there, field_back, member_field_from, member_field_has}
use Rattle.write_laws.proofs.rebuilds.Nodes.{by_node, items, tree, node_tree, old_tree, node_at, holder_there, node_number, holder_number, Declares, a_node, a_holder, a_makers, declares}
use Rattle.write_laws.proofs.rebuilds.Members.{IsMember, a_field, a_body, a_head, a_filler, class_from, field_has, IsStatic, a_static_field, a_static_method, holder_from, static_field_has, no_field_made}
use Rattle.write_laws.proofs.rebuilds.Retyped.{field_row, type_is}
use Rattle.write_laws.proofs.rebuilds.Given.{Given, T, Stands, stands_from, column_there, class_there}

module _ {P : Plain} {F : Facts} {pt : PointsTo} {H : Hierarchy} {V : Plain} (G : Given P F pt H V) where
  abbrev types : List (List ℕ)
  types = types_in (java_tree P F H)

  abbrev R₀ : Renaming
  R₀ = by_node P F H

  abbrev IsOldField : ℕ → PlainField → Type 0
  IsOldField f k = IsField P F H V (T G) f k

  abbrev IsOldStatic : ℕ → ℕ → Type 0
  IsOldStatic f g = IsStaticFieldOf P F H V (T G) f g

  -- the declarations of a field in the type of a node, and in a holder
  abbrev of_node : ℕ → ℕ → PlainField → FieldAt
  of_node i f old = record { owner = suc i; mods = []; type = written_type P H (R₀.row_type (row.Field f)) old.ty; name = R₀.field_name f; place = nowhere }

  abbrev of_holder : ℕ → ℕ → PlainField → FieldAt
  of_holder i f old = record {
    owner = suc i;
    mods = modifier Public ∷ modifier Static ∷ [];
    type = written_type P H
        (R₀.row_type (row.Field f)) old.ty;
    name = old.name;
    place = nowhere;
  }

  -- a field of a node
  node_field : (n i f : ℕ) (old : PlainField) (x : FieldAt) (new : PlainField) → slice_get (tree P F H) i ≡ Some (node_tree P F H n)
      → Stands G (column.Fld f) n
      → slice_get P.fields f ≡ Some old → Contains (declared_field (suc i) (field_member P R₀ H f old)) x → field_outline types x ≡ new
      → IsOldField f new
  unfolding renaming_of
  node_field n i f old x new e s o c is =
      let at : of_node i f old ≡ x = one_from (of_node i f old) x c in
      let made : field_outline types (of_node i f old) ≡ new = ap (field_outline types) at ∙ is in
      subst (λ z. IsOldField f z) made (record {
        old = old;
        old_stands = o;
        at = record { node = n; stands = s; instance = refl; owner_is = sym (node_number P F H V G.resolves G.new n i e) };
        name = refl;
        type = type_is P F G.facts H G.hierarchy V G.resolves G.new pt G.unbroken (row.Field f) old.ty (field_row P G.formed f old o);
      })

  -- a static field of a holder
  holder_field : (c i f g : ℕ) (k : PlainClass) (old : PlainField) (x : FieldAt) (new : PlainField)
      → slice_get (tree P F H) i ≡ Some (old_tree P F H c k) → slice_get P.classes c ≡ Some k
      → slice_get P.fields f ≡ Some old → (old.is_static && (old.owner == c)) ≡ true → (m : MemberTree) → Contains (static_field_member P R₀ H c f old) m
      → Contains (declared_field (suc i) m) x
      → field_outline types x ≡ new → slice_get V.fields g ≡ Some new → IsOldStatic f g
  unfolding renaming_of
  holder_field c i f g k old x new e d o h m y z is at =
      let p = and_parts old.is_static (old.owner == c) h in
      let w = when_from (old.is_static && (old.owner == c)) _ m y in
      let one : of_holder i f old ≡ x = one_from (of_holder i f old) x (subst (λ v. Contains (declared_field (suc i) v) x) (sym (one_from _ m w.1)) z) in
      let made : field_outline types (of_holder i f old) ≡ new = ap (field_outline types) one ∙ is in
      record {
        same = record {
          old = old;
          new = field_outline types (of_holder i f old);
          old_stands = o;
          new_stands = at ∙ ap Some (sym made);
          old_static = p.0;
          new_static = refl;
          owner = sym (holder_number P F H V G.resolves G.new c i k d e) ∙ ap (λ y. (T G).holder_of y) (sym (eqb-true old.owner c p.1));
          name = refl;
        };
        type = type_is P F G.facts H G.hierarchy V G.resolves G.new pt G.unbroken (row.Field f) old.ty (field_row P G.formed f old o);
      }

  -- what a field of the new program is
  abbrev Origin : ℕ → PlainField → Type 0
  Origin g new = ((f : ℕ) × IsOldField f new) ⊎ ((f : ℕ) × IsOldStatic f g)

  in_class : (n i g : ℕ) (x : FieldAt) (new : PlainField) (m : MemberTree) → slice_get (tree P F H) i ≡ Some (node_tree P F H n)
      → IsMember P R₀ F H (items P F H) n m
      → Contains (declared_field (suc i) m) x → field_outline types x ≡ new → Origin g new
  in_class n i g x new _ e (a_field c f k d at o) h is = inl (f, node_field n i f k x new e (stands_from G c (column.Fld f) n d at) o h is)
  in_class n i g x new _ e (a_body c f k d at o) h is = absurd (omega (arith, h.1))
  in_class n i g x new _ e (a_head t d) h is = absurd (omega (arith, h.1))
  in_class n i g x new _ e (a_filler s t d o) h is = absurd (omega (arith, h.1))

  in_node : (b : Bool) (n i g : ℕ) (x : FieldAt) (new : PlainField) → slice_get (tree P F H) i ≡ Some (node_tree P F H n)
      → Contains (fields_declared (suc i) (type_tree P R₀ F H (items P F H) b n)) x → field_outline types x ≡ new → Origin g new
  in_node true n i g x new e h is =
      let z = member_field_from (suc i) (class_members P R₀ F H (items P F H) n) x h in
      in_class n i g x new z.0 e (class_from P R₀ F H (items P F H) n z.0 z.1) z.2 is
  in_node false n i g x new e h is = absurd (omega (arith, h.1))

  in_holder : (c i g : ℕ) (k : PlainClass) (x : FieldAt) (new : PlainField) (m : MemberTree) → slice_get (tree P F H) i ≡ Some (old_tree P F H c k)
      → slice_get P.classes c ≡ Some k
      → IsStatic P R₀ H c m → Contains (declared_field (suc i) m) x → field_outline types x ≡ new → slice_get V.fields g ≡ Some new → Origin g new
  in_holder c i g k x new m e d (a_static_field f old _ o h y) z is at = inr (f, holder_field c i f g k old x new e d o h m y z is at)
  in_holder c i g k x new m e d (a_static_method f old _ o h y) z is at =
      let w = when_from (old.is_static && (old.owner == c)) _ m y in
      absurd (omega (arith, (subst (λ v. Contains (declared_field (suc i) v) x) (sym (one_from _ m w.1)) z).1))

  by_declaration : (i g : ℕ) (d : DeclTree) (x : FieldAt) (new : PlainField) → slice_get (tree P F H) i ≡ Some d → Declares P F H d
      → Contains (fields_declared (suc i) d) x
      → field_outline types x ≡ new → slice_get V.fields g ≡ Some new → Origin g new
  by_declaration i g _ x new e (a_node n live) h is at = in_node (is_class_node F H n) n i g x new e h is
  by_declaration i g _ x new e (a_holder c k d holder) h is at =
      let z = member_field_from (suc i) (holder_members P R₀ H c) x h in
      in_holder c i g k x new z.0 e d (holder_from P R₀ H c z.0 z.1) z.2 is at
  by_declaration i g _ x new e (a_makers mk me) h is at = absurd (no_field_made P R₀ H i x h)

  pub origin : (g : ℕ) (new : PlainField) → slice_get V.fields g ≡ Some new → Origin g new
  origin g new e =
      let z = field_back (tree P F H) V G.resolves G.new g new e in
      let d = z.declared in
      by_declaration d.number g d.declaration z.field new d.stands (declares P F H d.number d.declaration d.stands) d.has z.is e

  pub instance_field : (g : ℕ) (new : PlainField) → slice_get V.fields g ≡ Some new → new.is_static ≡ false → (f : ℕ) × IsOldField f new
  instance_field g new e h =
      ⊎_elim (λ z. z) (λ z. let s = z.1.same in
      absurd (false≢true (sym h ∙ ap (λ (o : Option PlainField). option_map_or (λ (k : PlainField). k.is_static) o false) (sym e ∙ s.new_stands)
      ∙ s.new_static))) (origin g new e)

  pub static_field : (g : ℕ) (new : PlainField) → slice_get V.fields g ≡ Some new → new.is_static ≡ true → (f : ℕ) × IsOldStatic f g
  static_field g new e h = ⊎_elim (λ z. absurd (false≢true (sym z.1.at.instance ∙ h))) (λ z. z) (origin g new e)

  -- the field of a column is an old one
  old_field : (f n : ℕ) → Stands G (column.Fld f) n → (k : PlainField) × (slice_get P.fields f ≡ Some k)
  unfolding numbers
  old_field f n s =
      let x = (numbered_columns P).at (column.Fld f) s.number s.numbered in
      go (column.Fld f) (subst (IsOfText P) x.2 (column_stands P s.number x.0 x.1)) refl
    where
      go : (i : ColumnItem) → IsOfText P i → i ≡ column.Fld f → (k : PlainField) × (slice_get P.fields f ≡ Some k)
      go _ (for_field g k e h) d = let same : g ≡ f = cc d in (k, ap (slice_get P.fields) (sym same) ∙ e)
      go _ (for_declaration m k e h) d = absurd (cc d)
      go _ (for_body m k e h b) d = absurd (cc d)
      go _ (for_mark c) d = absurd (cc d)

  pub each_field : (f n : ℕ) → Stands G (column.Fld f) n → (g : ℕ) × (new : PlainField) × (slice_get V.fields g ≡ Some new) × IsOldField f new
  each_field f n s =
      let c = column_there G (column.Fld f) n s in
      let k = old_field f n s in
      let z = node_at P F H n c.live in
      let is_class = class_there G (column.Fld f) n s refl in
      let x : FieldAt = of_node z.0 f k.0 in
      let m = field_has P R₀ F H (items P F H) n c.number f (column_info P (column.Fld f)) k.0 c.info c.at c.item k.1 in
      let d : Contains (fields_declared (suc z.0) (node_tree P F H n)) x =
      subst (λ b. Contains (fields_declared (suc z.0) (type_tree P R₀ F H (items P F H) b n)) x) (sym is_class)
      (member_field_has (suc z.0) (class_members P R₀ F H (items P F H) n) x (field_member P R₀ H f k.0) m (first x [])) in
      let g = field_there (tree P F H) V G.resolves G.new z.0 (node_tree P F H n) x z.1 d in
      (g.0, field_outline types x, g.1, node_field n z.0 f k.0 x (field_outline types x) z.1 s k.1 (first x []) refl)

  pub each_static_field : (f : ℕ) (old : PlainField) → slice_get P.fields f ≡ Some old → old.is_static ≡ true → (g : ℕ) × IsOldStatic f g
  each_static_field f old e h =
      let c = old.owner in
      let k = holder_there P F H G.formed c (field_holder P f old e h) in
      let mine = and_from old.is_static (c == c) h (eq-eqb c c refl) in
      let t : MemberTree = FieldTree (modifier Public ∷ modifier Static ∷ []) (written_type P H (R₀.row_type (row.Field f)) old.ty) old.name nowhere in
      let x : FieldAt = of_holder k.2 f old in
      let y : Contains (static_field_member P R₀ H c f old) t = when_has (old.is_static && (c == c)) (t ∷ []) t mine (first t []) in
      let d : Contains (fields_declared (suc k.2) (old_tree P F H c k.0)) x =
      member_field_has (suc k.2) (holder_members P R₀ H c) x t (static_field_has P R₀ H c f old t e y) (first x []) in
      let g = field_there (tree P F H) V G.resolves G.new k.2 (old_tree P F H c k.0) x k.3 d in
      (g.0, holder_field c k.2 f g.0 k.0 old x (field_outline types x) k.3 k.1 e mine t y (first x []) refl g.1)
