-- The columns of a program's facts: what each stands for.
use Rattle.std.proofs.Common.{◌≡◌, ℕ, List, [], ◌∷◌, Option, Some, None, length, refl, sym, ap, ◌∙◌, subst, arith, ⊎_elim}
use Rattle.std.specs.Prelude.{◌<◌, ◌==◌, true, false, not, Contains, slice_get}
use Rattle.std.specs.Option.{is_some}
use Rattle.std.specs.List.{flat_map}
use Rattle.std.proofs.lemmas.Bool.{not-true}
use Rattle.std.proofs.lemmas.List.Elements.{Contains-append_left, Contains-append_right, Contains-append_cases}
use Rattle.std.proofs.lemmas.Option.{slice_get_within}
use Rattle.kaba_base.specs.declared.Place.{Place}
use Rattle.kaba_base.specs.declared.ClassId.{ClassId}
use Rattle.java_core.specs.Programs.{Plain, PlainField, PlainMethod}
use Rattle.fact_model.specs.Items.{column_at as info_at, column_slot}
use Rattle.fact_model.specs.declared.facts.Facts.{Facts}
use Rattle.fact_model.specs.declared.facts.ColumnInfo.{ColumnInfo}
use Rattle.flow_rules.specs.declared.items.ObjectType.{ObjectType}
use Rattle.flow_rules.specs.declared.items.ColumnItem.{ColumnItem}
use Rattle.flow_rules.specs.declared.items.ColumnItem.TheVariants as column
use Rattle.flow_rules.specs.declared.items.Column.{Column}
use Rattle.flow_rules.specs.Ordered.{each, when}
use Rattle.flow_rules.specs.Parts.{Part, a_creation, a_test, parts_of}
use Rattle.flow_rules.specs.Numbered.{mark, array_mark, form_columns, field_columns, method_columns, columns_of, column_number}
use Rattle.flow_rules.specs.Facts.{column_info, IsFactsOf}
use Rattle.flow_rules.proofs.Listed.{first, more, below_at, at_map, map_at, index_at, index_past, each_has, each_from_zero, flat_from, flat_has, when_has, when_from, one_from}
use Rattle.flow_rules.proofs.NumberedItems.{raw_columns, numbered_columns}

-- what a column stands for
pub data Stands (P : Plain) : ColumnItem → Type 0 where
  for_field : (f : ℕ) (k : PlainField) → slice_get P.fields f ≡ Some k → k.is_static ≡ false → Stands P (column.Fld f)
  for_declaration : (m : ℕ) (k : PlainMethod) → slice_get P.methods m ≡ Some k → k.is_static ≡ false → Stands P (column.Dcl m)
  for_body : (m : ℕ) (k : PlainMethod) → slice_get P.methods m ≡ Some k → k.is_static ≡ false → is_some k.body ≡ true → Stands P (column.Def m)
  for_mark : (c : ClassId) → Stands P (column.Is c)

module _ (P : Plain) where
  stands_as : (i j : ColumnItem) → i ≡ j → Stands P i → Stands P j
  stands_as i j e s = subst (λ z. Stands P z) e s

  mark_stands : (p : Place) (t : Option ObjectType) (x : Column) → Contains (mark p t) x → Stands P x.item
  mark_stands p None x c = absurd (omega (arith, c.1))
  mark_stands p (Some t) x c = stands_as _ _ (ap (λ z. z.item) (one_from _ x c)) (for_mark t.class)

  array_mark_stands : (p : Place) (t : Option ObjectType) (x : Column) → Contains (array_mark p t) x → Stands P x.item
  array_mark_stands p None x c = absurd (omega (arith, c.1))
  array_mark_stands p (Some t) x c = stands_as _ _ (ap (λ z. z.item) (one_from _ x (when_from (not (t.dim == 0)) _ x c).1)) (for_mark t.class)

  form_stands : (p : Part) (x : Column) → Contains (form_columns p) x → Stands P x.item
  form_stands (a_creation p u o s d es) x c = array_mark_stands p o.ty x c
  form_stands (a_test p e o) x c = mark_stands p o.ty x c
  form_stands _ x c = absurd (omega (arith, c.1))

  field_stands : (f : ℕ) (k : PlainField) (x : Column) → slice_get P.fields f ≡ Some k → Contains (field_columns f k) x → Stands P x.item
  field_stands f k x e c = let z = when_from (not k.is_static) _ x c in stands_as _ _ (ap (λ z. z.item) (one_from _ x z.1))
      (for_field f k e (not-true k.is_static z.0))

  unfoldable pub members : ℕ → PlainMethod → List Column
  members m k = when (not k.is_static) (record { item = column.Dcl m; place = k.tag.place } ∷ when (is_some k.body)
      (record { item = column.Def m; place = k.tag.place } ∷ []))

  member_stands : (m : ℕ) (k : PlainMethod) (x : Column) → slice_get P.methods m ≡ Some k → Contains (members m k) x → Stands P x.item
  unfolding members
  member_stands m k x e c =
      let z = when_from (not k.is_static) _ x c in
      let s = not-true k.is_static z.0 in
      ⊎_elim (λ d. stands_as _ _ (ap (λ z. z.item) (one_from _ x d)) (for_declaration m k e s))
      (λ d. let w = when_from (is_some k.body) _ x d in stands_as _ _ (ap (λ z. z.item) (one_from _ x w.1)) (for_body m k e s w.0))
      (Contains-append_cases (record { item = column.Dcl m; place = k.tag.place } ∷ [])
      (when (is_some k.body) (record { item = column.Def m; place = k.tag.place } ∷ [])) x z.1)

  method_stands : (m : ℕ) (k : PlainMethod) (x : Column) → slice_get P.methods m ≡ Some k → Contains (method_columns P m k) x → Stands P x.item
  unfolding members
  method_stands m k x e c =
      ⊎_elim (λ d. member_stands m k x e d) (λ d. let z = flat_from form_columns (parts_of P m k) x d in form_stands z.0 x z.2)
      (Contains-append_cases (members m k) (flat_map form_columns (parts_of P m k)) x c)

  raw_stands : (x : Column) → Contains (raw_columns P) x → Stands P x.item
  raw_stands x c =
      ⊎_elim (λ d. let z = each_from_zero field_columns P.fields x d in field_stands z.0 z.1 x z.2 z.3)
      (λ d. let z = each_from_zero (method_columns P) P.methods x d in method_stands z.0 z.1 x z.2 z.3)
      (Contains-append_cases (each field_columns 0 P.fields) (each (method_columns P) 0 P.methods) x c)

  pub column_stands : (n : ℕ) (x : Column) → slice_get (columns_of P) n ≡ Some x → Stands P x.item
  column_stands n x e = raw_stands x ((numbered_columns P).from n x e)

  -- what stands in the text has a column
  pub in_method : (m : ℕ) (k : PlainMethod) (x : Column) → slice_get P.methods m ≡ Some k → Contains (method_columns P m k) x
      → (c : ℕ) × (column_number P x.item ≡ Some c)
  in_method m k x e d = (numbered_columns P).there x (Contains-append_right (each field_columns 0 P.fields) (each (method_columns P) 0 P.methods) x
      (each_has (method_columns P) 0 P.methods m k x e m (omega arith) d))

  pub declaration_column : (m : ℕ) (k : PlainMethod) → slice_get P.methods m ≡ Some k → k.is_static ≡ false
      → (c : ℕ) × (column_number P (column.Dcl m) ≡ Some c)
  unfolding members
  declaration_column m k e s =
      let x : Column = record { item = column.Dcl m; place = k.tag.place } in
      in_method m k x e (Contains-append_left (members m k) (flat_map form_columns (parts_of P m k)) x (when_has (not k.is_static) _ x (rw s refl) (first x _)))

  pub body_column : (m : ℕ) (k : PlainMethod) → slice_get P.methods m ≡ Some k → k.is_static ≡ false → is_some k.body ≡ true
      → (c : ℕ) × (column_number P (column.Def m) ≡ Some c)
  unfolding members
  body_column m k e s b =
      let x : Column = record { item = column.Def m; place = k.tag.place } in
      in_method m k x e (Contains-append_left (members m k) (flat_map form_columns (parts_of P m k)) x (when_has (not k.is_static) _ x (rw s refl)
      (more x _ _ (when_has (is_some k.body) _ x b (first x [])))))

  pub part_column : (m : ℕ) (k : PlainMethod) (p : Part) (x : Column) → slice_get P.methods m ≡ Some k → Contains (parts_of P m k) p
      → Contains (form_columns p) x → (c : ℕ) × (column_number P x.item ≡ Some c)
  unfolding members
  part_column m k p x e c d = in_method m k x e (Contains-append_right (members m k) (flat_map form_columns (parts_of P m k)) x
      (flat_has form_columns (parts_of P m k) p x c d))

  module _ (F : Facts) (facts : IsFactsOf P F) where
    -- the item of a column
    pub record HasItem (c : ℕ) : Type 0 where
      pub item : ColumnItem
      pub number : column_number P item ≡ Some c
      pub info : info_at F c ≡ column_info P item
      pub stands : Stands P item

    item_at : (c : ℕ) (x : Column) → slice_get (columns_of P) c ≡ Some x → HasItem c
    item_at c x e = record {
      item = x.item;
      number = (numbered_columns P).back c x e;
      info = index_at F.columns.items c _ (column_info P x.item) (subst (λ z. slice_get z c ≡ Some (column_info P x.item)) (sym facts.columns)
          (at_map (λ c. column_info P c.item) (columns_of P) c x e));
      stands = column_stands c x e;
    }

    pub item_of : (c : ℕ) → c < length F.columns.items → HasItem c
    item_of c h =
        let z = below_at F.columns.items c h in
        let w = map_at (λ c. column_info P c.item) (columns_of P) c z.0 (subst (λ y. slice_get y c ≡ Some z.0) facts.columns z.1) in
        item_at c w.0 w.1

    -- a numbered column stands in the list
    pub numbered_column : (i : ColumnItem) (c : ℕ) → column_number P i ≡ Some c → (c < length F.columns.items) × (info_at F c ≡ column_info P i)
    numbered_column i c e =
        let x = (numbered_columns P).at i c e in
        let a = subst (λ z. slice_get z c ≡ Some (column_info P x.0.item)) (sym facts.columns)
        (at_map (λ c. column_info P c.item) (columns_of P) c x.0 x.1) in
        (slice_get_within F.columns.items c _ a, index_at F.columns.items c _ _ a ∙ ap (column_info P) x.2)

    -- a column of a slot stands in the list
    pub slot_below : (c x : ℕ) → column_slot F c ≡ Some x → c < length F.columns.items
    slot_below c x e = go (slice_get F.columns.items c) refl
      where
        go : (o : Option ColumnInfo) → slice_get F.columns.items c ≡ o → c < length F.columns.items
        go None h = absurd (let z = sym (ap (λ z. z.slot) (index_past F.columns.items c _ h)) ∙ e in cc)
        go (Some k) h = slice_get_within F.columns.items c k h
