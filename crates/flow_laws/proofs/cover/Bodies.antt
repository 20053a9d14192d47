-- The body that the facts find for a class and a slot is the one that an object of the class runs.
use Rattle.std.proofs.Common.{◌≡◌, ℕ, zero, suc, List, [], ◌∷◌, Option, Some, None, length, refl, sym, ap, ◌∙◌, subst, arith, inl, inr, ⊎_elim}
use Rattle.std.specs.Prelude.{◌⊎◌, ◌<◌, ◌==◌, ◌&&◌, not, get_or, Bool, true, false, slice_get, Contains, map, position}
use Rattle.std.specs.Option.{option_map_or, option_and_then, is_some}
use Rattle.std.specs.List.{flat_map}
use Rattle.std.proofs.lemmas.Bool.{false≢true, eqb-true, eq-eqb, and_from, and_parts}
use Rattle.std.proofs.lemmas.Option.{same_Some, get_or_from_slice_get, slice_get-get_or}
use Rattle.std.proofs.lemmas.List.Elements.{Contains-append_right, Contains-append_left}
use Rattle.std.proofs.lemmas.List.Quantifiers.{position-Some}
use Rattle.java_meaning.proofs.Calls.{mapped_some}
use Rattle.kaba_base.specs.declared.ClassId.{ClassId}
use Rattle.kaba_bits.specs.Sets.{or_else}
use Rattle.java_core.specs.Programs.{Plain, PlainMethod}
use Rattle.java_core.specs.Classes as java
use Rattle.java_core.specs.Classes.{first_or, nearest, lookup, has_slot}
use Rattle.java_core.specs.Formed.{IsFormed}
use Rattle.fact_model.specs.Classes.{parent_of, is_slot, is_body, own_body, finds_within}
use Rattle.fact_model.specs.Flowing.{point_at as listed_at}
use Rattle.fact_model.specs.declared.facts.Facts.{Facts}
use Rattle.fact_model.proofs.ClassLemmas.{slot_says}
use Rattle.flow_rules.specs.declared.items.ColumnItem.{ColumnItem}
use Rattle.flow_rules.specs.declared.items.ColumnItem.TheVariants as column
use Rattle.flow_rules.specs.declared.items.PointItem.TheVariants as point
use Rattle.flow_rules.specs.declared.items.Column.{Column}
use Rattle.flow_rules.specs.Parts.{parts_of}
use Rattle.flow_rules.specs.Ordered.{each, when}
use Rattle.flow_rules.specs.Numbered.{same_column, columns_of, column_number, field_columns, method_columns, form_columns, point_number}
use Rattle.flow_rules.specs.Facts.{PlainBody, body_seen, body_if, column_body, param_points, column_info, owner_of, slot_in, numbers, IsFactsOf}
use Rattle.flow_laws.proofs.cover.Kinded.{FindsBody}
use Rattle.flow_rules.proofs.Listed.{one, more, each_has, map_from, when_has, position_there, contains_at as there_at}
use Rattle.std.proofs.lemmas.Option.{slice_get-map}
use Rattle.flow_rules.proofs.Keys.{column_exact, column_alike}
use Rattle.flow_rules.proofs.NumberedItems.{numbered_columns}
use Rattle.flow_laws.proofs.cover.HasRows.{in_slot, this_point_of}
use Rattle.java_core.specs.declared.TyBase.TheVariants.{Int}
use Rattle.java_core.proofs.Positions.{position-map}
use Rattle.flow_laws.proofs.cover.Found.{each_get, same_parent, same_length, body_listed, nearest_some}

java_slot_is : (o : Option ℕ) (x : ℕ) → java.is_slot o x ≡ true → o ≡ Some x
java_slot_is None x e = absurd (false≢true e)
java_slot_is (Some y) x e = ap (λ z. Some z) (eqb-true y x e)

order : (i j : ℕ) → (i < j) ⊎ ((j < i) ⊎ (i ≡ j))
order zero zero = inr (inr refl)
order zero (suc j) = inl (omega arith)
order (suc i) zero = inr (inl (omega arith))
order (suc i) (suc j) = ⊎_elim (λ h. inl (omega (arith, h))) (λ h. inr (⊎_elim (λ g. inl (omega (arith, g))) (λ g. inr (ap suc g)) h)) (order i j)

-- two first places of what is alike there are one
one_place : {A : Type 0} (p q : A → Bool) (xs : List A) (i j : ℕ) (d : A) → position p xs ≡ Some i → position q xs ≡ Some j → q (get_or xs i d) ≡ true
    → p (get_or xs j d) ≡ true → i ≡ j
one_place p q xs i j d ei ej hi hj =
    let a = position-Some p xs i d ei in let b = position-Some q xs j d ej in
    ⊎_elim (λ h. absurd (false≢true (sym (b.2 i h) ∙ hi))) (λ h. ⊎_elim (λ g. absurd (false≢true (sym (a.2 j g) ∙ hj))) (λ g. g) h) (order i j)

module _ (P : Plain) (F : Facts) (formed : IsFormed P) (facts : IsFactsOf P F) where
  -- a method of a class and a slot, as a column of the facts and as a method of the program
  record IsOwn (a x m : ℕ) : Type 0 where
    method : PlainMethod
    there : slice_get P.methods m ≡ Some method
    owner : method.owner ≡ a
    slot : method.slot ≡ Some x

  own_one : (a x m n : ℕ) → IsOwn a x m → IsOwn a x n → m ≡ n
  own_one a x m n h k =
      let i = in_slot P formed m h.method h.there x h.slot in let j = in_slot P formed n k.method k.there x k.slot in
      formed.method_names m n h.method k.method h.there k.there (h.owner ∙ sym k.owner)
      (i.name ∙ ap (λ z. z.name) (same_Some i.slot j.slot (sym i.stands ∙ j.stands)) ∙ sym j.name)

  item_own : (a x : ℕ) (i : ColumnItem) → is_body a x (column_info P i) ≡ true → (m : ℕ) × (i ≡ column.Def m) × IsOwn a x m
  item_own a x (column.Fld f) e = absurd (false≢true e)
  item_own a x (column.Dcl f) e = absurd (false≢true e)
  item_own a x (column.Is f) e = absurd (false≢true e)
  item_own a x (column.Def m) e =
      (m, refl, go (slice_get P.methods m) refl (and_parts (owner_of P (column.Def m) == a) (is_slot (slot_in P (column.Def m)) x) e))
    where
      go : (z : Option PlainMethod) → slice_get P.methods m ≡ z → ((owner_of P (column.Def m) == a) ≡ true)
          × (is_slot (slot_in P (column.Def m)) x ≡ true) → IsOwn a x m
      go None d h = absurd (false≢true (ap (λ z. is_slot (option_and_then (λ (k : PlainMethod). k.slot) z) x) (sym d) ∙ h.1))
      go (Some k) d h = record {
        method = k;
        there = d;
        owner = ap (λ z. option_map_or (λ (k : PlainMethod). k.owner) z 0) (sym d) ∙ eqb-true (owner_of P (column.Def m)) a h.0;
        slot = slot_says k.slot x (ap (λ z. is_slot (option_and_then (λ (k : PlainMethod). k.slot) z) x) (sym d) ∙ h.1);
      }

  own_item : (a x m : ℕ) → IsOwn a x m → is_body a x (column_info P (column.Def m)) ≡ true
  own_item a x m h = and_from (owner_of P (column.Def m) == a) (is_slot (slot_in P (column.Def m)) x)
      (eq-eqb (owner_of P (column.Def m)) a (ap (λ z. option_map_or (λ (k : PlainMethod). k.owner) z 0) h.there ∙ h.owner))
      (ap (λ z. is_slot (option_and_then (λ (k : PlainMethod). k.slot) z) x) h.there ∙ ap (λ z. is_slot z x) h.slot ∙ eq-eqb x x refl)

  -- the same of the program
  java_own : (a x m : ℕ) → java.own_body P a x ≡ Some m → IsOwn a x m × ((h : PlainMethod) → slice_get P.methods m ≡ Some h → is_some h.body ≡ true)
  java_own a x m e =
      let d : PlainMethod = record {
        owner = 0;
        name = [];
        is_static = false;
        is_public = false;
        slot = None;
        params = [];
        locals =
            [];
        result = None;
        body = None;
        tag = record { label = 0; place = record { at = 0; line = 0 } };
      } in
      let p = position-Some (λ m. has_slot a x m && is_some m.body) P.methods m d e in
      let s = slice_get-get_or P.methods m d p.0 in
      let t = and_parts (has_slot a x (get_or P.methods m d)) (is_some (get_or P.methods m d).body) p.1 in
      let o = and_parts ((get_or P.methods m d).owner == a) (java.is_slot (get_or P.methods m d).slot x) t.0 in (
        record {
          method = get_or P.methods m d;
          there = s;
          owner = eqb-true (get_or P.methods m d).owner a o.0;
          slot = java_slot_is (get_or P.methods m d).slot x o.1;
        },
        λ k ek. ap (λ z. is_some z.body) (same_Some k (get_or P.methods m d) (sym ek ∙ s)) ∙ t.1,
      )

  own_java : (a x m : ℕ) (h : IsOwn a x m) → is_some h.method.body ≡ true → (n : ℕ) × (java.own_body P a x ≡ Some n)
  own_java a x m h b = position_there (λ m. has_slot a x m && is_some m.body) P.methods h.method
      (there_at P.methods m h.method h.there)
      (and_from (has_slot a x h.method) (is_some h.method.body) (and_from (h.method.owner == a) (java.is_slot h.method.slot x)
      (eq-eqb h.method.owner a h.owner) (ap (λ z. java.is_slot z x) h.slot ∙ eq-eqb x x refl)) b)

  abbrev items : List ColumnItem
  items = map (λ c. c.item) (columns_of P)

  abbrev pub def_number : ℕ → Option ℕ
  def_number m = column_number P (column.Def m)

  def_column : (m : ℕ) (k : PlainMethod) → slice_get P.methods m ≡ Some k → is_some k.body ≡ true → k.is_static ≡ false → (c : ℕ) × (def_number m ≡ Some c)
  def_column m k e b s =
      let x : Column = record { item = column.Def m; place = k.tag.place } in
      (numbered_columns P).there x (Contains-append_right (each field_columns 0 P.fields) (each (method_columns P) 0 P.methods) x
      (each_has (method_columns P) 0 P.methods m k x e m (omega arith)
      (Contains-append_left (when (not k.is_static) (record { item = column.Dcl m; place = k.tag.place } ∷ when (is_some k.body)
      (record { item = column.Def m; place = k.tag.place } ∷ []))) (flat_map form_columns (parts_of P m k)) x
      (when_has (not k.is_static) _ x (rw s refl) (more x _ _ (when_has (is_some k.body) _ x b (one x)))))))

  abbrev bodies_at : ℕ → ℕ → ColumnItem → Bool
  bodies_at a x i = is_body a x (column_info P i)

  own_as : (a x : ℕ) → own_body F a x ≡ position (bodies_at a x) items
  own_as a x = ap (λ z. position (λ k. is_body a x k) z) facts.columns ∙ position-map (λ (c : Column). column_info P c.item) (λ k. is_body a x k)
      (columns_of P) ∙ sym (position-map (λ (c : Column). c.item) (bodies_at a x) (columns_of P))

  -- the item at the number of a body's column
  def_at : (m c : ℕ) → def_number m ≡ Some c → (slice_get items c ≡ Some (column.Def m)) × (get_or items c (column.Def m) ≡ column.Def m)
  unfolding column_number
  def_at m c e =
      let p = position-Some (same_column (column.Def m)) items c (column.Def m) e in
      let same = sym (column_exact (column.Def m) (get_or items c (column.Def m)) p.1) in
      (slice_get-get_or items c (column.Def m) p.0 ∙ ap (λ z. Some z) same, same)

  own_found : (a x m : ℕ) → java.own_body P a x ≡ Some m → (c : ℕ) × (own_body F a x ≡ Some c) × (def_number m ≡ Some c)
  unfolding column_number
  own_found a x m e =
      let h = java_own a x m e in
      let i = in_slot P formed m h.0.method h.0.there x h.0.slot in
      let c = def_column m h.0.method h.0.there (h.1 h.0.method h.0.there) i.instance in
      let at = def_at m c.0 c.1 in
      let b = position_there (bodies_at a x) items (column.Def m) (there_at items c.0 (column.Def m) at.0) (own_item a x m h.0) in
      let p = position-Some (bodies_at a x) items b.0 (column.Def m) b.1 in
      let o = item_own a x (get_or items b.0 (column.Def m)) p.1 in
      let is_m : get_or items b.0 (column.Def m) ≡ column.Def m = o.1 ∙ ap (λ z. column.Def z) (own_one a x o.0 m o.2 h.0) in
      let same = one_place (bodies_at a x) (same_column (column.Def m)) items b.0 c.0 (column.Def m) b.1 c.1
      (subst (λ z. same_column (column.Def m) z ≡ true) (sym is_m) (column_alike (column.Def m)))
      (subst (λ z. bodies_at a x z ≡ true) (sym at.1) (own_item a x m h.0)) in
      (c.0, own_as a x ∙ b.1 ∙ ap (λ z. Some z) same, c.1)

  own_none : (a x : ℕ) → java.own_body P a x ≡ None → own_body F a x ≡ None
  own_none a x e = go (position (bodies_at a x) items) refl
    where
      go : (z : Option ℕ) → position (bodies_at a x) items ≡ z → own_body F a x ≡ None
      go None d = own_as a x ∙ d
      go (Some c) d =
          let p = position-Some (bodies_at a x) items c (column.Def 0) d in
          let o = item_own a x (get_or items c (column.Def 0)) p.1 in
          let y = map_from (λ (c : Column). c.item) (columns_of P) (column.Def o.0)
          (there_at items c (column.Def o.0) (slice_get-get_or items c (column.Def 0) p.0 ∙ ap (λ z. Some z) o.1)) in
          let b = body_listed P y.0 o.0 y.1 y.2 in
          let n = own_java a x o.0 o.2 (ap (λ z. is_some z.body) (same_Some o.2.method b.0 (sym o.2.there ∙ b.1)) ∙ b.2) in
          absurd (let z = sym e ∙ n.1 in cc)

  pub finds_some : (n a x m : ℕ) → nearest P (λ k. java.own_body P k x) n a ≡ Some m → (c : ℕ) × (finds_within F n a x ≡ Some c) × (def_number m ≡ Some c)
  finds_some zero a x m e = own_found a x m e
  finds_some (suc n) a x m e = go (java.own_body P a x) refl (java.parent_of P a) refl (λ p h. finds_some n p.0 x m h) e
    where
      up : (o : Option ClassId) → java.parent_of P a ≡ o → own_body F a x ≡ None
          → ((p : ClassId) → nearest P (λ k. java.own_body P k x) n p.0 ≡ Some m → (c : ℕ) × (finds_within F n p.0 x ≡ Some c)
          × (def_number m ≡ Some c)) → option_and_then (λ p. nearest P (λ k. java.own_body P k x) n p.0) o ≡ Some m
          → (c : ℕ) × (finds_within F (suc n) a x ≡ Some c) × (def_number m ≡ Some c)
      up None eo none r h = absurd (cc)
      up (Some p) eo none r h =
          let w = r p h in (
            w.0,
            ap (λ z. or_else z (option_and_then (λ p. finds_within F n p.0 x) (parent_of F a))) none
                ∙ ap (λ z. option_and_then (λ p. finds_within F n p.0 x) z) (same_parent P F facts a ∙ eo) ∙ w.1,
            w.2,
          )

      go : (y : Option ℕ) → java.own_body P a x ≡ y → (o : Option ClassId) → java.parent_of P a ≡ o
          → ((p : ClassId) → nearest P (λ k. java.own_body P k x) n p.0 ≡ Some m → (c : ℕ) × (finds_within F n p.0 x ≡ Some c)
          × (def_number m ≡ Some c))
          → first_or y (option_and_then (λ p. nearest P (λ k. java.own_body P k x) n p.0) o) ≡ Some m
          → (c : ℕ) × (finds_within F (suc n) a x ≡ Some c) × (def_number m ≡ Some c)
      go None ey o eo r h = up o eo (own_none a x ey) r h
      go (Some y) ey o eo r h =
          let w = own_found a x m (ey ∙ h) in
          (w.0, ap (λ z. or_else z (option_and_then (λ p. finds_within F n p.0 x) (parent_of F a))) w.1, w.2)

  -- the body that is found is listed
  pub finds_body : (c j m : ℕ) (k : PlainMethod) → lookup P c j ≡ Some m → slice_get P.methods m ≡ Some k → is_some k.body ≡ true → FindsBody P F c j m k
  unfolding lookup numbers column_number
  finds_body c j m k e ek b =
      let n = nearest_some P (λ k. java.own_body P k j) (length P.classes) c m e in
      let own = (java_own n.0 j m n.1).0 in
      let slot : k.slot ≡ Some j = ap (λ z. z.slot) (same_Some k own.method (sym ek ∙ own.there)) ∙ own.slot in
      let i = in_slot P formed m k ek j slot in
      let f = finds_some (length P.classes) c j m e in
      let this = this_point_of P formed m k ek b i.instance in
      let at = def_at m f.0 f.2 in
      let col = mapped_some (λ (c : Column). c.item) (slice_get (columns_of P) f.0) (column.Def m)
      (sym (slice_get-map (λ (c : Column). c.item) (columns_of P) f.0) ∙ at.0) in
      let x : PlainBody = record { column = f.0; this = this.0; params = param_points (numbers P) P m k; result = point_number P (point.Result m) } in
      let listed = each_has (λ c k. column_body (numbers P) P c k.item) 0 (columns_of P) f.0 col.0 x col.1 f.0 (omega arith)
      (subst (λ z. Contains (column_body (numbers P) P f.0 z) x) (sym col.2)
      (subst (λ z. Contains (option_map_or (λ k. body_if (numbers P) P f.0 m k (point_number P (point.This m))) z []) x) (sym ek)
      (subst (λ z. Contains (body_if (numbers P) P f.0 m k z) x) (sym this.1) (one x)))) in
      let found = map_from body_seen F.bodies.items x (subst (λ z. Contains z x) (sym facts.bodies) listed) in
      record {
        body = found.0;
        slot = slot;
        found = ap (λ z. finds_within F z c j) (same_length P F facts) ∙ f.1 ∙ ap (λ z. Some z) (sym (ap (λ z. z.column) found.2));
        column = f.2 ∙ ap (λ z. Some z) (sym (ap (λ z. z.column) found.2));
        is_body = record {
          listed = found.1;
          this = this.1 ∙ ap (λ z. Some z) (sym (ap (λ z. z.this) found.2));
          params = λ i l.
              let v = slice_get-get_or k.params i
              (record { name = []; ty = record { base = Int; dim = 0 }; tag = record { label = 0; place = record { at = 0; line = 0 } } }) l in
              ap (λ z. listed_at z i) (ap (λ z. z.params) found.2) ∙ get_or_from_slice_get (param_points (numbers P) P m k) i
              (point_number P (point.Local m i)) None
              (each_get (λ i v. point_number P (point.Local m i) ∷ []) (λ i v. point_number P (point.Local m i)) (λ i v. refl) 0 k.params i _ v
              i (omega arith));
          result = sym (ap (λ z. z.result) found.2);
        };
      }
