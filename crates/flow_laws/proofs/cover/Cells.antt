-- The fields of an object and the elements of an array of a site have their cells.
use Rattle.std.proofs.Common.{◌≡◌, ℕ, zero, suc, ◌+◌, List, [], ◌∷◌, ◌++◌, Option, Some, None, length, refl, sym, ap, ◌∙◌, subst, arith, ⊎_elim}
use Rattle.std.specs.Prelude.{◌==◌, ◌&&◌, if◌then◌else◌, nat_eq, not, get_or, Bool, true, false, slice_get, Contains, map}
use Rattle.std.specs.Option.{option_map, option_map_or, option_and_then, option_to_list}
use Rattle.std.specs.List.{list_any, flat_map}
use Rattle.std.proofs.lemmas.Bool.{eqb-true, eq-eqb, not-true, or_left, or_right, and_from, and_parts}
use Rattle.std.proofs.lemmas.Option.{same_Some, get_or_from_slice_get, slice_get-get_or}
use Rattle.std.proofs.lemmas.List.Elements.{Contains-append_cases}
use Rattle.std.proofs.lemmas.List.Quantifiers.{position-Some}
use Rattle.kaba_base.specs.declared.ClassId.{ClassId}
use Rattle.java_core.specs.Programs.{Plain, PlainField}
use Rattle.java_core.specs.Classes.{below, reaches, parent_of, faces_of, supers_of}
use Rattle.java_meaning.specs.Languages.{own_fields_from, own_fields, layout_in, layout, index_of}
use Rattle.java_meaning.proofs.Calls.{mapped_some}
use Rattle.fact_model.specs.declared.facts.Facts.{Facts}
use Rattle.fact_model.specs.declared.facts.SiteInfo.{SiteInfo}
use Rattle.fact_model.specs.declared.facts.CellInfo.{CellInfo}
use Rattle.java_core.specs.Formed.{IsFormed}
use Rattle.flow_rules.specs.declared.items.ObjectType.{ObjectType}
use Rattle.flow_rules.specs.declared.items.ColumnItem.TheVariants as column
use Rattle.flow_rules.specs.declared.items.Column.{Column}
use Rattle.flow_rules.specs.declared.items.Site.{Site}
use Rattle.flow_rules.specs.Types.{field_object}
use Rattle.flow_rules.specs.Numbered.{same_column, columns_of, column_number, sites_of, site_number}
use Rattle.flow_rules.specs.Facts.{FieldCell, owner_of, site_info, field_if, field_at, fields_of, array_cell, site_cells, cells_of, numbers, IsFactsOf}
use Rattle.flow_rules.specs.Facts.{field_cell as cell_for}
use Rattle.flow_laws.specs.cover.Covers.{is_cell, cell_number, field_cell, element_cell}
use Rattle.flow_laws.proofs.cover.Kinded.{site_type}
use Rattle.flow_rules.proofs.Listed.{one, flat_has, each_has, when_has, position_there}
use Rattle.std.proofs.lemmas.Option.{slice_get-map}
use Rattle.flow_rules.proofs.Keys.{column_exact}
use Rattle.flow_laws.proofs.cover.HasNumbers.{field_column}
use Rattle.flow_laws.proofs.cover.HasRows.{field_row_of}

-- the fields of a class's objects are instance fields of a class at or above it
record IsLaid (fs : List PlainField) (c f : ℕ) : Type 0 where
  field : PlainField
  there : slice_get fs f ≡ Some field
  instance : field.is_static ≡ false
  owner : field.owner ≡ c

own_from : (c n : ℕ) (fs : List PlainField) (f : ℕ) → Contains (own_fields_from c n fs) f → (i : ℕ) × (f ≡ n + i) × IsLaid fs c i
own_from c n [] f h = absurd (omega (arith, h.1))
own_from c n (k ∷ fs) f h = ⊎_elim (λ d. here d) (λ d. past (own_from c (suc n) fs f d))
    (Contains-append_cases (if (k.owner == c) && not k.is_static then n ∷ [] else []) (own_fields_from c (suc n) fs) f h)
  where
    single : Contains (n ∷ []) f → n ≡ f
    single (zero, lt, e) = e
    single (suc j, lt, e) = absurd (omega (arith, lt))

    here : Contains (if (k.owner == c) && not k.is_static then n ∷ [] else []) f → (i : ℕ) × (f ≡ n + i) × IsLaid (k ∷ fs) c i
    here d = go ((k.owner == c) && not k.is_static) refl d
      where
        go : (b : Bool) → ((k.owner == c) && not k.is_static) ≡ b → Contains (if b then n ∷ [] else []) f → (i : ℕ) × (f ≡ n + i) × IsLaid (k ∷ fs) c i
        go true e w = let t = and_parts (k.owner == c) (not k.is_static) e in
            (0, omega (arith, single w), record { field = k; there = refl; instance = not-true k.is_static t.1; owner = eqb-true k.owner c t.0 })
        go false e w = absurd (omega (arith, w.1))

    past : (i : ℕ) × (f ≡ suc n + i) × IsLaid fs c i → (i : ℕ) × (f ≡ n + i) × IsLaid (k ∷ fs) c i
    past r = (suc r.0, omega (arith, r.1), record { field = r.2.field; there = r.2.there; instance = r.2.instance; owner = r.2.owner })

any_first : {A : Type 0} (p : A → Bool) (o : Option A) (x : A) (ys : List A) → o ≡ Some x → p x ≡ true → list_any p (option_to_list o ++ ys) ≡ true
any_first p None x ys e h = absurd (cc)
any_first p (Some y) x ys e h = or_left (p y) (list_any p ys) (ap p (same_Some y x e) ∙ h)

module _ (P : Plain) where
  record IsIn (n c f : ℕ) : Type 0 where
    field : PlainField
    there : slice_get P.fields f ≡ Some field
    instance : field.is_static ≡ false
    above : reaches P n c field.owner ≡ true

  own_in : (n c f : ℕ) → Contains (own_fields P c) f → ((k : PlainField) → k.owner ≡ c → reaches P n c k.owner ≡ true) → IsIn n c f
  own_in n c f h r =
      let o = own_from c 0 P.fields f h in
      let there : slice_get P.fields f ≡ Some o.2.field = subst (λ z. slice_get P.fields z ≡ Some o.2.field)
      (let z : o.0 ≡ f = omega (arith, o.1) in z) o.2.there in
      record { field = o.2.field; there = there; instance = o.2.instance; above = r o.2.field o.2.owner }

  laid : (n c f : ℕ) → Contains (layout_in P n c) f → IsIn n c f
  laid zero c f h = own_in zero c f h (λ k e. eq-eqb c k.owner (sym e))
  laid (suc n) c f h = ⊎_elim
      (λ d. up (parent_of P c) refl d (λ p w. laid n p.0 f w))
      (λ d. own_in (suc n) c f d (λ k e. or_left (c == k.owner) (list_any (λ c. reaches P n c.0 k.owner) (supers_of P c)) (eq-eqb c k.owner (sym e))))
      (Contains-append_cases (option_map_or (λ p. layout_in P n p.0) (parent_of P c) []) (own_fields P c) f h)
    where
      up : (o : Option ClassId) → parent_of P c ≡ o → Contains (option_map_or (λ p. layout_in P n p.0) o []) f
          → ((p : ClassId) → Contains (layout_in P n p.0) f → IsIn n p.0 f) → IsIn (suc n) c f
      up None e d r = absurd (omega (arith, d.1))
      up (Some p) e d r =
          let w = r p d in
          record {
            field = w.field;
            there = w.there;
            instance = w.instance;
            above = or_right (c == w.field.owner)
                (list_any (λ c. reaches P n c.0 w.field.owner) (supers_of P c)) (any_first (λ c. reaches P n c.0 w.field.owner) (parent_of P c) p
                (faces_of P c) e w.above);
          }

  indexed : (c f i : ℕ) → index_of P c f ≡ Some i → IsIn (length P.classes) c f
  unfolding layout
  indexed c f i e =
      let p = position-Some (λ g. g == f) (layout P c) i f e in
      laid (length P.classes) c f (i, p.0, eqb-true (get_or (layout P c) i f) f p.1)

module _ (P : Plain) (F : Facts) (formed : IsFormed P) (facts : IsFactsOf P F) where
  -- the site of a creation
  pub record IsSite (n s : ℕ) : Type 0 where
    pub site : Site
    pub there : slice_get (sites_of P) s ≡ Some site
    pub number : site.number ≡ n
    pub type : site_type F s ≡ site.ty

  pub site_of : (n s : ℕ) → site_number P n ≡ Some s → IsSite n s
  unfolding site_number
  site_of n s e =
      let p = position-Some (nat_eq n) (map (λ (s : Site). s.number) (sites_of P)) s 0 e in
      let at = slice_get-get_or (map (λ (s : Site). s.number) (sites_of P)) s 0 p.0 in
      let x = mapped_some (λ (s : Site). s.number) (slice_get (sites_of P) s) (get_or (map (λ (s : Site). s.number) (sites_of P)) s 0)
      (sym (slice_get-map (λ (s : Site). s.number) (sites_of P) s) ∙ at) in
      let listed : slice_get F.sites.items s ≡ Some (site_info x.0) = ap (λ z. slice_get z s) facts.sites ∙ slice_get-map site_info (sites_of P) s
      ∙ ap (λ z. option_map site_info z) x.1 in
      let same = get_or_from_slice_get F.sites.items s (site_info x.0) (record { row = record { 0 = 0 }; class = record { 0 = 0 }; dim = 0 }) listed in
      record { site = x.0; there = x.1; number = x.2 ∙ sym (eqb-true n _ p.1); type = ap (λ (z : SiteInfo). record { class = z.class; dim = z.dim }) same }

  cell_there : (s : ℕ) (x : Site) (c : Option ℕ) (y : CellInfo) → slice_get (sites_of P) s ≡ Some x
      → Contains (site_cells P (fields_of (numbers P) P (columns_of P)) s x) y → is_cell s c y ≡ true → (n : ℕ) × (cell_number P F s c ≡ Some n)
  unfolding cells_of
  cell_there s x c y e h d = position_there (is_cell s c) F.cells.items y (subst (λ z. Contains z y) (sym facts.cells)
      (each_has (site_cells P (fields_of (numbers P) P (columns_of P))) 0 (sites_of P) s x y e s (omega arith) h)) d

  pub field_has_cell : (f n s c i : ℕ) (t : ObjectType) → (numbers P).site n ≡ Some s → site_type F s ≡ record { class = record { 0 = c }; dim = 0 }
      → index_of P c f ≡ Some i → field_object P f ≡ Some t → (q : ℕ) × (field_cell P F f s ≡ Some q)
  unfolding numbers column_number below
  field_has_cell f n s c i t en et ix ot =
      let x = site_of n s en in
      let l = indexed P c f i ix in
      let col = field_column P f l.field l.there l.instance in
      let r = field_row_of P formed f t ot in
      let at = position-Some (same_column (column.Fld f)) (map (λ (c : Column). c.item) (columns_of P)) col.0 (column.Fld f) col.1 in
      let item = mapped_some (λ (c : Column). c.item) (slice_get (columns_of P) col.0) (column.Fld f)
      (sym (slice_get-map (λ (c : Column). c.item) (columns_of P) col.0) ∙ slice_get-get_or (map (λ (c : Column). c.item) (columns_of P)) col.0
      (column.Fld f) at.0 ∙ ap (λ z. Some z) (sym (column_exact (column.Fld f) _ at.1))) in
      let ty : x.site.ty ≡ record { class = record { 0 = c }; dim = 0 } = sym x.type ∙ et in
      let y : CellInfo = record { site = record { 0 = s }; column = Some (record { 0 = col.0 }); row = record { 0 = r.0 } } in
      let owner : owner_of P (column.Fld f) ≡ l.field.owner = ap (λ z. option_map_or (λ (k : PlainField). k.owner) z 0) l.there in
      let place : FieldCell = record { column = col.0; row = r.0; owner = owner_of P (column.Fld f) } in
      let in_item : Contains (field_at (numbers P) P col.0 (column.Fld f)) place = subst
      (λ z. Contains (field_if (numbers P) P col.0 (owner_of P (column.Fld f)) z) place) (sym r.1) (one place) in
      let in_fields : Contains (fields_of (numbers P) P (columns_of P)) place = each_has (λ c k. field_at (numbers P) P c k.item) 0
      (columns_of P) col.0 item.0 place item.1 col.0 (omega arith) (subst (λ z. Contains (field_at (numbers P) P col.0 z) place)
      (sym item.2) in_item) in
      let in_object : Contains (flat_map (cell_for P s c) (fields_of (numbers P) P (columns_of P))) y = flat_has (cell_for P s c)
      (fields_of (numbers P) P (columns_of P)) place y in_fields
      (when_has (below P c (owner_of P (column.Fld f))) _ y (ap (λ z. below P c z) owner ∙ l.above) (one y)) in
      let in_site : Contains (site_cells P (fields_of (numbers P) P (columns_of P)) s x.site) y = subst
      (λ z. Contains (if z.dim == 0 then flat_map (cell_for P s z.class.0) (fields_of (numbers P) P (columns_of P)) else array_cell s
      x.site.row) y) (sym ty) in_object in
      let q = cell_there s x.site (Some col.0) y x.there in_site (and_from (s == s) (col.0 == col.0) (eq-eqb s s refl) (eq-eqb col.0 col.0 refl)) in
      (q.0, ap (λ z. option_and_then (λ c. cell_number P F s (Some c)) z) col.1 ∙ q.1)

  pub element_has_cell : (n s c d : ℕ) → (numbers P).site n ≡ Some s → site_type F s ≡ record { class = record { 0 = c }; dim = d } → (d ≡ 0 → ⊥)
      → (q : ℕ) × (element_cell P F s ≡ Some q)
  unfolding numbers
  element_has_cell n s c d en et nd =
      let x = site_of n s en in
      let dim : x.site.ty.dim ≡ d = ap (λ z. z.dim) (sym x.type ∙ et) in
      let y : CellInfo = record { site = record { 0 = s }; column = None; row = record { 0 = x.site.row } } in
      cell_there s x.site None y x.there (array _ _ (x.site.ty.dim == 0) refl (λ h. nd (sym dim ∙ eqb-true x.site.ty.dim 0 h)) y (one y))
      (and_from (s == s) true (eq-eqb s s refl) refl)
    where
      array : (xs ys : List CellInfo) (b : Bool) → b ≡ b → (b ≡ true → ⊥) → (y : CellInfo) → Contains ys y → Contains (if b then xs else ys) y
      array xs ys true e h y c = absurd (h refl)
      array xs ys false e h y c = c
